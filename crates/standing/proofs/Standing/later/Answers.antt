-- What is no line of the card is refused.
use Rattle.std.proofs.Common.{sym, ap, ◌∙◌}
use Rattle.reading.specs.Meaning.{line_is}
use Rattle.grammar.specs.Feed.{later}
use Rattle.standing.proofs.Standing.later.Goals as goal

pub returns-in_default-clause-answer : goal.returns-in_default-clause-answer
unfolding later
returns-in_default-clause-answer c =
    let e = sym c.call_of.ensures ∙ ap (λ x. line_is x c.call_of.new.work) c.in_default.is in rw e (c.bad.ensures _ _)
