-- No more came than the area holds.
use Rattle.std.proofs.Common.{◌≤◌, length}
use Rattle.conformance.proofs.fill.Given as goal

abbrev pub invariant-loop : goal.invariant-loop
invariant-loop g l = l.n ≤ length l.area
