-- Laws of numbers with a minus or none: each way of reading and of writing one.
use Rattle.std.specs.Prelude.{◌≡◌, refl, Bool, true, false, cond, ◌&&◌, List, [], ◌∷◌, ℕ, suc, ◌+◌, ◌-◌, ◌≤◌, ◌<◌, leb, ℤ, pos, negsuc, neg_ℤ, nat_abs, length, take, drop, eqb, get_or, Option, Some, None, option_map}
use Rattle.std.proofs.Common.{sym, ap, ◌∙◌, arith, leb-true, length-drop, take_all}
use Rattle.ring.specs.Runs.{copied}
use Rattle.ring.specs.Lent.{copied_join}
use Rattle.decimal.specs.Decimal.{are_digits, value_from, number_from, number, starts_minus, signed, digits_of, signed_of}
use Rattle.ring.specs.Flags.{and_r}
use Rattle.decimal.specs.DecimalLaws.{count_most}
use Rattle.decimal.specs.Answers.{AtMost, positive, negative}
use Rattle.std.proofs.lemmas.Bool.{false≢true}

-- ---- read

pub starts_empty : (s : List ℕ) → length s ≡ 0 → starts_minus s ≡ false
starts_empty [] h = refl
starts_empty (b ∷ s) h = absurd (omega arith)

pub starts_first : (s : List ℕ) → 0 < length s → starts_minus s ≡ eqb (get_or s 0 0) 45
starts_first [] h = absurd (omega arith)
starts_first (b ∷ s) h = refl

pub starts_some : (s : List ℕ) → starts_minus s ≡ true → 1 ≤ length s
starts_some [] h = absurd (false≢true h)
starts_some (b ∷ s) h = omega arith

if_most : (t : Bool) (v most : ℕ) → (t ≡ true → v ≤ most) → AtMost most (cond t (Some v) None)
if_most true v most h = h refl
if_most false v most h = tt

-- what was read is at most what it may be
pub number_most : (most : ℕ) (s : List ℕ) → AtMost most (number most s)
unfolding number number_from
number_most most [] = tt
number_most most (b ∷ s) =
    let v = value_from 0 (b ∷ s) in
    let d = are_digits (b ∷ s) in
    if_most (d && leb v most) v most (λ e. leb-true v most (and_r d (leb v most) e))

minus_map : (n : Option ℕ) → negative n ≡ option_map (λ (m : ℕ). neg_ℤ (pos m)) n
minus_map None = refl
minus_map (Some n) = refl

plus_map : (n : Option ℕ) → positive n ≡ option_map pos n
plus_map None = refl
plus_map (Some n) = refl

pub signed_minus : (s : List ℕ) → starts_minus s ≡ true
    → negative (number 2147483648 (take (length s - 1) (drop 1 s))) ≡ signed s
unfolding signed
signed_minus s h =
    let all = take_all (length s - 1) (drop 1 s) (simp length-drop (omega arith)) in
    rw (h, all) (minus_map (number 2147483648 (drop 1 s)))

pub signed_plus : (s : List ℕ) → starts_minus s ≡ false → positive (number 2147483647 s) ≡ signed s
unfolding signed
signed_plus s h = rw h (plus_map (number 2147483647 s))

-- ---- written

joined : (d : List ℕ) (at m : ℕ) → at + 1 + length (digits_of (suc m)) ≤ length d
    → copied (copied d at (45 ∷ []) 0 1) (at + 1) (digits_of (suc m)) 0 (length (digits_of (suc m)))
    ≡ copied d at (signed_of (negsuc m)) 0 (length (signed_of (negsuc m)))
unfolding signed_of
joined d at m room =
    let p = digits_of (suc m) in
    copied_join d at (45 ∷ []) p 1 (length p) refl refl room ∙ ap (copied d at (45 ∷ p) 0) (omega arith)

count_minus : (m : ℕ) → length (signed_of (negsuc m)) ≡ 1 + length (digits_of (suc m))
unfolding signed_of
count_minus m = omega arith

-- z behind its minus: d with the minus, then with the digits of g, which z is without it
module _ (z : ℤ) (m g : ℕ) (is : z ≡ negsuc m) (most : m < 2147483648) (abs : g ≡ nat_abs z) where
  digits : g ≡ suc m
  digits = abs ∙ ap nat_abs is

  pub written_minus : (d p w : List ℕ) (at : ℕ) → at + 21 ≤ length d → p ≡ copied d at (45 ∷ []) 0 1
      → w ≡ copied p (at + 1) (digits_of g) 0 (length (digits_of g)) → w ≡ copied d at (signed_of z) 0 (length (signed_of z))
  written_minus d p w at room first then =
      then
      ∙ ap (λ (x : List ℕ). copied x (at + 1) (digits_of g) 0 (length (digits_of g))) first
      ∙ ap (λ (x : ℕ). copied (copied d at (45 ∷ []) 0 1) (at + 1) (digits_of x) 0 (length (digits_of x))) digits
      ∙ joined d at m (omega (arith, count_most 9 (suc m) (omega arith)))
      ∙ ap (λ (x : ℤ). copied d at (signed_of x) 0 (length (signed_of x))) (sym is)

  pub end_minus : (r at : ℕ) → r ≡ at + 1 + length (digits_of g) → r ≡ at + length (signed_of z)
  end_minus r at h =
      let e = ap (λ (x : ℕ). length (digits_of x)) digits in
      let f = ap (λ (x : ℤ). length (signed_of x)) is in
      omega (arith, count_minus m)

-- and without one
pub plain : (z : ℤ) (m g : ℕ) → z ≡ pos m → g ≡ nat_abs z → digits_of g ≡ signed_of z
unfolding signed_of
plain z m g is abs = ap digits_of (abs ∙ ap nat_abs is) ∙ ap signed_of (sym is)
