-- A store is a copy of the bytes.
use Rattle.std.proofs.Common.{◌≡◌, ◌+◌, ◌-◌, ◌∙◌, length, refl, ap, arith}
use borrow.Rule.Slice.PartMut.{put_mid}
use Rattle.ring.specs.Lent.{lent_whole}
use Rattle.printing.specs.Written.{wrote}
use Rattle.printing.proofs.Text.put.Goals as goal

pub returns : goal.returns
returns c =
    let t = c.args.self.now in
    let bytes = c.args.bytes.now in
    let all : t.end + length bytes - t.end ≡ length bytes = omega arith in
    let laid = ap (put_mid t.end (length bytes) t.area.now) c.copy_from_slice.ensures.after ∙ lent_whole t.area.now t.end bytes (length bytes) refl in
    rw all (record { wrote = wrote bytes laid refl (omega arith) (omega arith); same = refl })
