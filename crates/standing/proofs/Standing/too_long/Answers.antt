-- Whatever the stage.
use Rattle.grammar.specs.Feed.{too_long}
use Rattle.standing.specs.Standing.{placed}
use Rattle.standing.proofs.Standing.too_long.Goals as goal

pub returns-in-First : goal.returns-in-First
unfolding too_long placed
returns-in-First c x w = rw c.in-First.is (c.bad.ensures x w)

pub returns-in-Running : goal.returns-in-Running
unfolding too_long placed
returns-in-Running c x w = rw c.in-Running.is (c.bad-in-Running.ensures x w)

pub returns-in-Over : goal.returns-in-Over
unfolding too_long placed
returns-in-Over c x w = rw c.in-Over.is (c.bad-in-Over.ensures x w)
