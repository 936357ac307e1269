-- Each piece stands behind the one before it.
use Rattle.std.proofs.Common.{arith}
use Rattle.syntax.specs.Words.{bytes}
use Rattle.printing.specs.Adding.{both, at_most}
use Rattle.listening.proofs.listener.put_accepted.Goals as goal

pub returns : goal.returns
unfolding bytes
returns c = at_most (both (both c.put.ensures c.put-2.ensures) c.put_byte.ensures) (omega arith)
