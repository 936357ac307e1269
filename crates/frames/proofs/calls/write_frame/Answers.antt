-- Where it is ready the runner is framed, and there is room.
use Rattle.std.proofs.Common.{sym, ◌∙◌}
use Rattle.carrier.specs.CarrierLaws.{ready_carried, ready_room}
use Rattle.frames.proofs.calls.write_frame.Goals as goal

pub send-requires : goal.send-requires
send-requires c =
    let ready = sym c.ready.ensures ∙ c.in-Ok.is in (
      sym c.is_framed.ensures ∙ ready_carried _ _ _ _ _ (rw c.admit-admitted.ensures at ready),
      rw c.room.ensures at (ready_room _ _ _ ready),
    )
