-- Each piece stands behind the one before it.
use Rattle.std.proofs.Common.{arith}
use Rattle.syntax.specs.Words.{bytes}
use Rattle.printing.specs.Adding.{both, at_most}
use Rattle.listening.proofs.listener.put_refused.Goals as goal

pub returns : goal.returns
unfolding bytes
returns c =
    rw
    (← c.number.ensures)
    (at_most (both (both (both (both c.put.ensures c.put-2.ensures) c.put_byte.ensures) c.put-3.ensures) c.put_byte-2.ensures) (omega arith))
