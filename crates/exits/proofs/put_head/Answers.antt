-- The head's five parts.
use Rattle.exits.proofs.Laying.{head_laid}
use Rattle.exits.proofs.put_head.Goals as goal

pub returns : goal.returns
returns c =
    let a = c.args in
    head_laid a.buffer.now a.channel a.name.now _ _ _ c.requires.0 c.requires.1 c.put_be32.ensures c.put_be32-2.ensures c.copy_from_slice.ensures.after
