-- What is no first line opens nothing.
use Rattle.std.proofs.Common.{sym, ap, ◌∙◌}
use Rattle.opening.specs.Meaning.{opening_is}
use Rattle.grammar.specs.Feed.{first}
use Rattle.standing.proofs.Standing.first.Goals as goal

pub returns-in_default-clause-answer : goal.returns-in_default-clause-answer
unfolding first
returns-in_default-clause-answer c w =
    let e = sym c.open_of.ensures ∙ ap opening_is c.in_default.is in rw e (c.bad.ensures _ w)

pub returns-clause-answer : goal.returns-clause-answer
returns-clause-answer c w = rw (← c.in-Some.ensures) (c.open.ensures.answer w)
