-- Each side undoes the other: what is written is read back.
use Rattle.std.specs.Prelude.{◌≡◌, refl, true, false, List, [], ◌∷◌, ℕ, zero, suc, ◌+◌, ◌/◌, ◌%◌, ◌^◌, ◌≤◌, ◌<◌, leb, ltb, ℤ, pos, negsuc, length, get_or, Some}
use Rattle.std.proofs.Common.{ap, ◌∙◌, arith, lt_trans, lit<, lt-ltb, le-ltb, le-leb, leb-true, ne_eqb}
use Rattle.std.proofs.Math.Decide.{dec_lt}
use Rattle.std.specs.Int.Signed.{mag}
use Rattle.decimal.specs.Decimal.{is_digit, are_digits, value_from, number_from, number, starts_minus, signed, digits_before, digits_of, signed_of}
use Rattle.ring.specs.Flags.{and_l}
use Rattle.decimal.specs.DecimalLaws.{number_from_lem, count_least, count_most}

is_digit_lem : (d : ℕ) → d < 10 → is_digit (48 + d) ≡ true
is_digit_lem d h = rw (le-leb 48 (48 + d) (omega arith), lt-ltb (48 + d) 58 (omega arith)) refl

before_digits : (k n : ℕ) (t : List ℕ) → n ≤ k → are_digits (digits_before k n t) ≡ are_digits t
unfolding digits_before are_digits
before_digits zero n t h = rw (is_digit_lem n (omega arith)) refl
before_digits (suc k) n t h =
    elim (dec_lt n 10) [
      | yes l ↦ rw (lt-ltb n 10 l, is_digit_lem n l) refl
      | no l ↦
          rw (le-ltb n 10 (omega arith)) (before_digits k (n / 10) ((48 + n % 10) ∷ t) (omega arith) ∙ rw (is_digit_lem (n % 10) (omega arith)) refl)
    ]

before_value : (k n : ℕ) (t : List ℕ) → n ≤ k → value_from 0 (digits_before k n t) ≡ value_from n t
unfolding digits_before value_from
before_value zero n t h = ap (λ (v : ℕ). value_from v t) (omega arith)
before_value (suc k) n t h =
    elim (dec_lt n 10) [
      | yes l ↦ rw (lt-ltb n 10 l) (ap (λ (v : ℕ). value_from v t) (omega arith))
      | no l ↦
          rw
          (le-ltb n 10 (omega arith))
          (before_value k (n / 10) ((48 + n % 10) ∷ t) (omega arith) ∙ ap (λ (v : ℕ). value_from v t) (omega arith))
    ]

before_first : (k n : ℕ) (t : List ℕ) → n ≤ k → 0 < n → 48 < get_or (digits_before k n t) 0 0
unfolding digits_before
before_first zero n t h m = omega arith
before_first (suc k) n t h m =
    elim (dec_lt n 10) [
      | yes l ↦ rw (lt-ltb n 10 l) (omega arith)
      | no l ↦ rw (le-ltb n 10 (omega arith)) (before_first k (n / 10) ((48 + n % 10) ∷ t) (omega arith) (omega arith))
    ]

-- WRITTEN, THEN READ
pub number_back : (most n : ℕ) → n ≤ most → number most (digits_of n) ≡ Some n
unfolding digits_of number_from are_digits value_from
number_back most n h =
    number_from_lem most (digits_of n) (count_least n)
    ∙ rw (before_digits n n [] (omega arith), before_value n n [] (omega arith), le-leb n most h) refl

-- the digits of a u64: one to twenty, and no zero in front but in 0's own
pub digits_least : (n : ℕ) → 1 ≤ length (digits_of n)
digits_least n = count_least n

pub digits_most : (n : ℕ) → n < 2 ^ 64 → length (digits_of n) ≤ 20
digits_most n h = count_most 19 n (lt_trans h (lit< tt))

pub digits_first : (n : ℕ) → 0 < n → 48 < get_or (digits_of n) 0 0
unfolding digits_of
digits_first n h = before_first n n [] (omega arith) h

pub digits_zero : digits_of 0 ≡ 48 ∷ []
unfolding digits_of digits_before
digits_zero = refl

-- a minus is no digit, so a number with none is read as such
first_digit : (s : List ℕ) → 0 < length s → are_digits s ≡ true → starts_minus s ≡ false
unfolding are_digits
first_digit [] h d = absurd (omega arith)
first_digit (b ∷ s) h d =
    let low = leb-true 48 b (and_l (leb 48 b) (ltb b 58) (and_l (is_digit b) (are_digits s) d)) in
    ne_eqb b 45 (omega arith)

-- every i32 that is written is read back
pub signed_back : (n : ℤ) → mag n < 2147483648 → signed (signed_of n) ≡ Some n
unfolding signed signed_of digits_of are_digits
signed_back (pos n) h =
    rw
    (first_digit (digits_of n) (count_least n) (before_digits n n [] (omega arith)), number_back 2147483647 n (omega arith))
    refl
signed_back (negsuc n) h = rw (number_back 2147483648 (suc n) (omega arith)) refl
