-- What is left of a piece grows less with each turn.
use Rattle.std.proofs.Common.{length}
use Rattle.feeder.proofs.Feeder.feed.Given as goal

abbrev pub decreases-loop-rest : goal.decreases-loop-rest
decreases-loop-rest g l = length l.rest
