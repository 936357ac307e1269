-- Each turn takes a card off the text.
use Rattle.std.proofs.Common.{length}
use Rattle.conformance.proofs.answer_all.Given as goal

abbrev pub decreases-loop-feeder : goal.decreases-loop-feeder
decreases-loop-feeder g l = length l.rest
