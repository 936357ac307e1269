-- An i32 and its bits: what the test of its sign says.
use Rattle.std.specs.Prelude.{◌≡◌, refl, true, false, ℕ, suc, ◌-◌, ◌<◌, ltb, ℤ, pos, negsuc}
use Rattle.std.proofs.Common.{sym, ap, ◌∙◌, true≢false, arith, ltb-true, SFits, to_z, of_z}
use Rattle.std.specs.Int.Signed.{lt_z}
use Rattle.std.specs.Int.{w32}
use Rattle.std.proofs.lemmas.Int.{to_z_pos, to_z-of_z}

pub record Minus (z : ℤ) : Type 0 where
  pub less : ℕ
  pub is : z ≡ negsuc less
  pub most : less < 2147483648
  pub bits : to_z w32 (4294967295 - of_z w32 z) ≡ pos less

pub record Plus (z : ℤ) : Type 0 where
  pub number : ℕ
  pub is : z ≡ pos number
  pub most : number < 2147483648
  pub bits : to_z w32 (of_z w32 z) ≡ pos number

pub below : (z : ℤ) → SFits w32 z → lt_z (to_z w32 (of_z w32 z)) (pos 0) ≡ true → Minus z
below (pos n) f h =
    let l : ltb n 0 ≡ true = sym (ap (λ (x : ℤ). lt_z x (pos 0)) (to_z-of_z w32 (pos n) f)) ∙ h in
    absurd (omega (arith, ltb-true n 0 l))
below (negsuc n) f h =
    let l : n < 2147483648 = f.sfits in
    let e : 4294967295 - (4294967296 - suc n) ≡ n = omega arith in
    record { less = n; is = refl; most = l; bits = ap (to_z w32) e ∙ to_z_pos w32 n l }

pub above : (z : ℤ) → SFits w32 z → lt_z (to_z w32 (of_z w32 z)) (pos 0) ≡ false → Plus z
above (pos n) f h = record { number = n; is = refl; most = f.sfits; bits = to_z-of_z w32 (pos n) f }
above (negsuc n) f h =
    let l : true ≡ false = sym (ap (λ (x : ℤ). lt_z x (pos 0)) (to_z-of_z w32 (negsuc n) f)) ∙ h in
    absurd (true≢false l)
