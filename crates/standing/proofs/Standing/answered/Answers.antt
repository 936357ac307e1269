-- A line by its stage; a later one is found.
use Rattle.grammar.specs.Feed.{answered}
use Rattle.standing.specs.Standing.{stores_in, placed}
use Rattle.standing.proofs.Standing.answered.Goals as goal

pub returns-in-First-clause-answer : goal.returns-in-First-clause-answer
unfolding answered placed
returns-in-First-clause-answer c = let e = c.in-First.is in rw e (rw e at (c.first.ensures.answer c.first.new.areas.work.now))

pub returns-in-Over-clause-answer : goal.returns-in-Over-clause-answer
unfolding answered placed
returns-in-Over-clause-answer c = rw c.in-Over.is (c.bad.ensures (stores_in c.args.areas.now) c.args.areas.now.work.now)
