-- The answer of the line that is held, written.
use Rattle.card.specs.Holding.{lent_with}
use Rattle.card.proofs.Held.{ends_line}
use Rattle.card.proofs.feed.Card.end_line.Goals as goal

pub returns-clause-answer : goal.returns-clause-answer
returns-clause-answer c =
    let a = c.args in
    let wrote = rw c.work.ensures at c.write_line.ensures in
    ends_line a.self.now (lent_with a.line.now a.areas.now a.out.now) _ c.answer-answer.result _ _ a.at c.write_line.result c.answer-answer.ensures.answer wrote
