-- The part's length is the chunk.
use Rattle.std.proofs.Common.{◌≡◌, ◌+◌, ◌-◌, arith}
use Rattle.carrier.specs.CarrierLaws.{asked_as}
use Rattle.carrier.proofs.ask.Goals as goal

pub returns : goal.returns
returns c =
    let a = c.args in
    let e : a.at + a.runner.limits.chunk - a.at ≡ a.runner.limits.chunk = omega arith in
    asked_as a.at a.runner a.store.now a.buffer.now _ _ _ e c.next_message.ensures
