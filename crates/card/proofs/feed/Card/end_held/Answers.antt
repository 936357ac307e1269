-- A line that has begun is ended, another is none.
use Rattle.std.proofs.Common.{arith}
use Rattle.card.proofs.Turns.{ended_some, ended_none}
use Rattle.card.proofs.feed.Card.end_held.Goals as goal

pub returns-then-self-gt0-clause-answer : goal.returns-then-self-gt0-clause-answer
returns-then-self-gt0-clause-answer c =
    let l = c.end_line-printed in
    ended_some c.args.self _ l.new.self l.result _ c.requires.1 c.requires.0 c.if-self-gt0.true l.ensures.answer

pub returns-clause-answer : goal.returns-clause-answer
returns-clause-answer c = ended_none c.args.self _ c.requires.0 (omega (arith, c.if-self-gt0.false))
