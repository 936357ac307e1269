-- Each turn takes a line off the text.
use Rattle.std.proofs.Common.{◌≤◌, length}
use Rattle.conformance.proofs.first_card.Given as goal

abbrev pub invariant-loop-rest : goal.invariant-loop-rest
invariant-loop-rest l = length l.rest ≤ length l.text

abbrev pub decreases-loop-rest : goal.decreases-loop-rest
decreases-loop-rest l = length l.rest
