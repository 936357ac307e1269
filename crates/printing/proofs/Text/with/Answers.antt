-- Word, comma, field, and the comma and dash of the bytes that it has not.
use Rattle.std.proofs.Common.{arith}
use Rattle.syntax.specs.Words.{bytes}
use Rattle.printing.specs.Adding.{marked, at_most}
use Rattle.printing.proofs.Text.with.Goals as goal

pub returns : goal.returns
unfolding bytes
returns g c = at_most (marked (marked c.put.ensures c.put_after.ensures) c.put-2.ensures) (omega arith)
