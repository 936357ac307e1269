-- The runner is in range where it chooses, its choice can be said, and the answer is as the guard found.
use Rattle.runner.specs.RangeLaws.{tested}
use Rattle.runner.proofs.Guards.{bytes_good}
use Rattle.runner.proofs.Says.{sayable, message_is}
use Rattle.runner.proofs.runner.Runner.next_message.Goals as goal

pub choice-choice-requires : goal.choice-choice-requires
choice-choice-requires c =
    let a = c.args in
    λ t. (bytes_good a.self c.stands.ensures c.agrees.ensures t a.store.now c.bytes_do-enough.ensures).0

pub say-runner-requires : goal.say-runner-requires
say-runner-requires c =
    let a = c.args in
    sayable a.self a.store.now a.buffer.now _ _ c.choice-choice.ensures
    (λ t. bytes_good a.self c.stands.ensures c.agrees.ensures t a.store.now c.bytes_do-enough.ensures)

pub returns : goal.returns
returns c =
    let a = c.args in
    message_is a.self a.store.now a.buffer.now _ _ c.choice-choice.ensures _ _ _
    (tested a.self c.bytes_do-enough.ensures c.stands.ensures c.agrees.ensures) c.answer-answer.ensures c.say-runner.ensures
