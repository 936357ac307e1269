-- The field stands behind the mark.
use Rattle.std.proofs.Common.{arith}
use Rattle.printing.specs.Adding.{both, at_most}
use Rattle.printing.proofs.Text.put_after.Goals as goal

pub returns : goal.returns
returns g c = at_most (both c.put_byte.ensures c.put.ensures) (omega arith)
