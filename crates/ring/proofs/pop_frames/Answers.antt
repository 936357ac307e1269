-- A frame that is finished is a turn of `pop_from`.
use Rattle.std.proofs.Common.{◌≡◌, ◌-◌, ◌+◌, ◌∙◌, refl, arith}
use Rattle.ring.specs.FrameLaws.{pop_whole}
use Rattle.ring.proofs.pop_frames.Goals as goal

pub loop-left-preserved : goal.loop-left-preserved
loop-left-preserved c =
    let e : c.args.frames - c.loop-left.done - 1 ≡ c.args.frames - (c.loop-left.done + 1) = omega arith in
    let v = c.loop-left.invariant in
    (omega arith, v.1 ∙ pop_whole _ _ _ _ _ _ _ c.advance-at.ensures.0 (omega arith) c.if-left-eq0.false (omega arith) ∙ rw e refl, v.2)
