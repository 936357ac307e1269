-- A message that is paid for has room in the inbox, as it is no longer than a chunk.
use Rattle.std.proofs.Common.{length, arith}
use Rattle.inbox.specs.RangeLaws.{is_pushable}
use Rattle.input.proofs.Receives.{checked, charged}
use Rattle.input.proofs.Input.take.Goals as goal

pub push-self-requires : goal.push-self-requires
push-self-requires c =
    let l = c.requires in
    is_pushable _ _ _ l.range (length c.args.bytes.now) _ _ (grind (arith, checked)) (grind (arith, checked, charged)) (grind arith) (grind arith) l.bytes l.slots
