-- The name's length and the name behind the head.
use Rattle.std.proofs.Common.{arith}
use Rattle.octets.specs.Text.{bytes}
use Rattle.exits.proofs.Laying.{name_laid}
use Rattle.exits.proofs.put_name.Goals as goal

pub returns : goal.returns
unfolding bytes
returns c =
    let a = c.args in
    name_laid a.buffer.now a.channel a.name.now _ _ _ _ c.requires.0 c.requires.1 c.put_head.ensures c.put_be32.ensures c.copy_from_slice.ensures.after (omega arith)
