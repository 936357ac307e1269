-- The code behind the head.
use Rattle.std.proofs.Common.{refl, ◌∙◌}
use Rattle.octets.specs.Bytes.{be32}
use Rattle.octets.specs.Text.{bytes}
use Rattle.exits.specs.Exit.{head}
use Rattle.exits.proofs.Laying.{laid_next}
use Rattle.exits.proofs.put_code.Goals as goal

pub returns : goal.returns
unfolding bytes
returns c =
    c.put_be32.ensures
    ∙ laid_next c.args.buffer.now _ (head c.args.channel (bytes "exit-status")) (be32 c.args.code) 21 4 c.put_head.ensures refl refl c.requires
