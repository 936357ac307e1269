-- A line that is too long, by the definition's test.
use Rattle.std.proofs.lemmas.Bool.{lt-leb}
use Rattle.grammar.specs.Feed.{answer_of}
use Rattle.standing.proofs.Standing.answer.Goals as goal

pub returns-clause-answer : goal.returns-clause-answer
unfolding answer_of
returns-clause-answer c = rw (lt-leb _ _ c.if-line-le65535.false) (c.too_long.ensures _ _)
