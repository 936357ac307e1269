-- How long the texts of numbers are, and the first bytes of an area that has fewer.
use Rattle.std.specs.Prelude.{◌≡◌, List, ℕ, suc, ◌+◌, ◌≤◌, ◌<◌, min, ℤ, pos, negsuc, length, take}
use Rattle.std.proofs.Common.{ap, ◌∙◌, arith, SFits}
use Rattle.std.proofs.lemmas.List.{take_min}
use Rattle.std.specs.Int.{w32}
use Rattle.ring.specs.Runs.{copied}
use Rattle.printing.specs.Written.{Wrote, wrote, same_text}
use Rattle.decimal.specs.Decimal.{signed_of}
use Rattle.decimal.specs.DecimalLaws.{count_most}

pub signed_most : (z : ℤ) → SFits w32 z → length (signed_of z) ≤ 12
unfolding signed_of
signed_most (pos n) f =
    let l : n < 2147483648 = f.sfits in
    omega (arith, count_most 9 n (omega arith))
signed_most (negsuc n) f =
    let l : n < 2147483648 = f.sfits in
    omega (arith, count_most 9 (suc n) (omega arith))

pub take_fewer : (k n : ℕ) (s : List ℕ) → k ≡ min n (length s) → take k s ≡ take n s
take_fewer k n s h = ap (λ (x : ℕ). take x s) h ∙ take_min n s

-- z written as y, which it is
pub wrote_signed : {out then : List ℕ} {at to : ℕ} (y z : ℤ) → y ≡ z → SFits w32 z → then ≡ copied out at (signed_of y) 0 (length (signed_of y))
    → to ≡ at + length (signed_of y) → at + 12 ≤ length out → Wrote 12 out then at to (signed_of z)
wrote_signed {out} y z e f h g r =
    let l = signed_most z f in
    let k = ap (λ (x : ℤ). length (signed_of x)) e in
    same_text (ap signed_of e) (wrote (signed_of y) h g (omega arith) (omega arith))
