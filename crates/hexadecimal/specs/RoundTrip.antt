-- Each side undoes the other: what is written is read back.
use Rattle.std.specs.Prelude.{◌≡◌, refl, Bool, true, false, cond, ◌&&◌, List, [], ◌∷◌, ℕ, zero, suc, ◌+◌, ◌*◌, ◌/◌, ◌%◌, ◌<◌, length, get_or, Some, None}
use Rattle.std.proofs.Common.{sym, ap, ap₂, subst, ◌∙◌, arith, lt-ltb, le-ltb, le-leb, eq-eqb}
use Rattle.std.proofs.Math.Decide.{dec_lt}
use Rattle.std.proofs.lemmas.Option.{none-some, same_Some}
use Rattle.ring.specs.Flags.{and_l, and_r}
use Rattle.hexadecimal.specs.Hexadecimal.{hex_digit, hex_of, is_hex, are_hex, are_pairs, hex_value, pairs, unhex}
use Rattle.hexadecimal.specs.HexadecimalLaws.{pairs_even, pairs_hex, value_decimal, value_letter, value_below, digit_decimal, digit_letter, value_digit, hex_length}

digit_value : (d : ℕ) → d < 16 → hex_value (hex_digit d) ≡ d
digit_value d h =
    elim (dec_lt d 10) [
      | yes l ↦ rw (digit_decimal d l) (value_decimal (48 + d) (omega arith) ∙ omega arith)
      | no l ↦ rw (digit_letter d (omega arith)) (value_letter (87 + d) (omega arith) ∙ omega arith)
    ]

digit_hex : (d : ℕ) → d < 16 → is_hex (hex_digit d) ≡ true
digit_hex d h =
    let c = hex_digit d in
    elim (dec_lt d 10) [
      | yes l ↦
          let e = digit_decimal d l in rw (le-leb 48 c (omega arith), lt-ltb c 58 (omega arith)) refl
      | no l ↦
          let e = digit_letter d (omega arith) in
          rw (le-leb 48 c (omega arith), le-ltb c 58 (omega arith), le-leb 97 c (omega arith), lt-ltb c 103 (omega arith)) refl
    ]

-- a list of bytes
abbrev pub Bytes : List ℕ → Type 0
Bytes b = (i : ℕ) → get_or b i 0 < 256

of_hex : (b : List ℕ) → Bytes b → are_hex (hex_of b) ≡ true
unfolding hex_of are_hex
of_hex [] h = refl
of_hex (x ∷ b) h =
    let l = h 0 in
    rw (digit_hex (x / 16) (omega arith), digit_hex (x % 16) (omega arith)) (of_hex b (λ i. h (suc i)))

of_pairs : (b : List ℕ) → Bytes b → pairs (hex_of b) ≡ b
unfolding hex_of pairs
of_pairs [] h = refl
of_pairs (x ∷ b) h =
    let l = h 0 in
    let v : hex_value (hex_digit (x / 16)) * 16 + hex_value (hex_digit (x % 16)) ≡ x =
    rw (digit_value (x / 16) (omega arith), digit_value (x % 16) (omega arith)) (omega arith) in
    ap₂ ◌∷◌ v (of_pairs b (λ i. h (suc i)))

-- WRITTEN, THEN READ
pub unhex_back : (b : List ℕ) → Bytes b → unhex (hex_of b) ≡ Some b
unfolding unhex are_pairs
unhex_back b h =
    let even : length (hex_of b) % 2 ≡ 0 = omega (arith, hex_length b) in
    rw (eq-eqb (length (hex_of b) % 2) 0 even, of_hex b h, of_pairs b h) refl

again : (s : List ℕ) → are_hex s ≡ true → length s % 2 ≡ 0 → hex_of (pairs s) ≡ s
unfolding are_hex pairs hex_of
again [] h e = refl
again (c ∷ []) h e = absurd (omega arith)
again (c ∷ d ∷ s) h e =
    let first = and_l (is_hex c) (is_hex d && are_hex s) h in
    let rest = and_r (is_hex c) (is_hex d && are_hex s) h in
    let second = and_l (is_hex d) (are_hex s) rest in
    let v = hex_value c in
    let w = hex_value d in
    let l = value_below d second in
    let high : (v * 16 + w) / 16 ≡ v = omega arith in
    let low : (v * 16 + w) % 16 ≡ w = omega arith in
    let x : hex_digit ((v * 16 + w) / 16) ≡ c = rw high (value_digit c first) in
    let y : hex_digit ((v * 16 + w) % 16) ≡ d = rw low (value_digit d second) in
    rw (x, y) (ap (λ (t : List ℕ). c ∷ d ∷ t) (again s (and_r (is_hex d) (are_hex s) rest) (omega arith)))

read_is : (t : Bool) (p b : List ℕ) → cond t (Some p) None ≡ Some b → (t ≡ true) × (p ≡ b)
read_is true p b h = (refl, same_Some p b h)
read_is false p b h = absurd (none-some b h)

below : (s : List ℕ) → are_hex s ≡ true → Bytes (pairs s)
unfolding are_hex pairs
below [] h i = omega arith
below (c ∷ []) h i = omega arith
below (c ∷ d ∷ s) h zero =
    let rest = and_r (is_hex c) (is_hex d && are_hex s) h in
    let v = value_below c (and_l (is_hex c) (is_hex d && are_hex s) h) in
    let w = value_below d (and_l (is_hex d) (are_hex s) rest) in
    omega arith
below (c ∷ d ∷ s) h (suc i) = below s (and_r (is_hex d) (are_hex s) (and_r (is_hex c) (is_hex d && are_hex s) h)) i

-- READ, THEN WRITTEN; and what was read meets what `unhex_back` asks
module _ (s b : List ℕ) (accepted : unhex s ≡ Some b) where
  is : (are_pairs s ≡ true) × (pairs s ≡ b)
  unfolding unhex
  is = read_is (are_pairs s) (pairs s) b accepted

  pub unhex_forth : hex_of b ≡ s
  unhex_forth =
      let even = pairs_even s is.0 in
      ap hex_of (sym is.1) ∙ again s (pairs_hex s is.0) (omega arith)

  pub unhex_bytes : Bytes b
  unhex_bytes = subst Bytes is.1 (below s (pairs_hex s is.0))
