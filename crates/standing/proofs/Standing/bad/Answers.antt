-- The stage is the one that is named, and the answer has the number of a line that is none.
use Rattle.std.proofs.Common.{ap}
use Rattle.calls.specs.Call as Call
use Rattle.standing.specs.Standing.{place_of}
use Rattle.standing.proofs.Lines.{placed_at}
use Rattle.standing.proofs.Standing.bad.Goals as goal

pub returns : goal.returns
returns c x w = (placed_at c.args.stage (place_of c.args.self.now x), ap Call.Refused c.number.ensures)
