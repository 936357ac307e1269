-- Laws of hexadecimal: a digit and its value, a list by index, and what a loop over it leaves.
use Rattle.std.specs.Prelude.{◌≡◌, refl, Bool, true, false, ◌&&◌, List, [], ◌∷◌, ◌++◌, ℕ, zero, suc, ◌+◌, ◌-◌, ◌*◌, ◌/◌, ◌%◌, ◌≤◌, ◌<◌, ltb, leb, eqb, length, drop, get_or, set, Some, None}
use Rattle.std.specs.List.{fold}
use Rattle.std.specs.Simd.{first_chunks}
use Rattle.std.proofs.Common.{sym, ap, ◌∙◌, true≢false, arith, zero-add, add-one, lt-ltb, le-ltb, le-leb, eqb-true, drop-cons}
use Rattle.std.proofs.Math.Decide.{dec_lt}
use Rattle.std.proofs.lemmas.Bool.{lt-leb}
use Rattle.std.proofs.Math.Seq.{drop-length}
use Rattle.ring.specs.Runs.{copied, copied_step}
use Rattle.ring.specs.Lent.{copied_all}
use Rattle.ring.specs.Flags.{and_l, and_r}
use Rattle.hexadecimal.specs.Hexadecimal.{hex_digit, hex_of, is_hex, are_hex, are_pairs, hex_value, pairs, unhex}

-- ---- a digit

-- the ways of a byte
data Way (c : ℕ) : Type 0 where
  decimal : 48 ≤ c → c < 58 → ltb c 58 ≡ true → is_hex c ≡ true → Way c
  letter : 97 ≤ c → c < 103 → ltb c 58 ≡ false → is_hex c ≡ true → Way c
  other : is_hex c ≡ false → Way c

way : (c : ℕ) → Way c
way c =
    elim (dec_lt c 48) [
      | yes l ↦ other (rw (lt-leb 48 c l, lt-leb 97 c (omega arith)) refl)
      | no l ↦
          let low : leb 48 c ≡ true = le-leb 48 c (omega arith) in
          elim (dec_lt c 58) [
            | yes m ↦ decimal (omega arith) m (lt-ltb c 58 m) (rw (low, lt-ltb c 58 m) refl)
            | no m ↦
                let past : ltb c 58 ≡ false = le-ltb c 58 (omega arith) in
                elim (dec_lt c 97) [
                  | yes k ↦ other (rw (low, past, lt-leb 97 c k) refl)
                  | no k ↦
                      let high : leb 97 c ≡ true = le-leb 97 c (omega arith) in
                      elim (dec_lt c 103) [
                        | yes j ↦ letter (omega arith) j past (rw (low, past, high, lt-ltb c 103 j) refl)
                        | no j ↦ other (rw (low, past, high, le-ltb c 103 (omega arith)) refl)
                      ]
                ]
          ]
    ]

pub hex_letter : (c : ℕ) → is_hex c ≡ true → 58 ≤ c → (97 ≤ c) × (c < 103)
hex_letter c h past =
    elim (way c) [
      | decimal l m t e ↦ absurd (omega arith)
      | letter l m t e ↦ (l, m)
      | other e ↦ absurd (true≢false cc)
    ]

pub value_decimal : (c : ℕ) → c < 58 → hex_value c ≡ c - 48
unfolding hex_value
value_decimal c h = rw (lt-ltb c 58 h) refl

pub value_letter : (c : ℕ) → 58 ≤ c → hex_value c ≡ c - 87
unfolding hex_value
value_letter c h = rw (le-ltb c 58 h) refl

pub value_below : (c : ℕ) → is_hex c ≡ true → hex_value c < 16
value_below c h =
    elim (dec_lt c 58) [
      | yes l ↦ omega (arith, value_decimal c l)
      | no l ↦ omega (arith, value_letter c (omega arith), hex_letter c h (omega arith))
    ]

pub digit_decimal : (d : ℕ) → d < 10 → hex_digit d ≡ 48 + d
unfolding hex_digit
digit_decimal d h = rw (lt-ltb d 10 h) refl

pub digit_letter : (d : ℕ) → 10 ≤ d → hex_digit d ≡ 87 + d
unfolding hex_digit
digit_letter d h = rw (le-ltb d 10 h) refl

-- a digit's value has that digit
pub value_digit : (c : ℕ) → is_hex c ≡ true → hex_digit (hex_value c) ≡ c
value_digit c h =
    elim (way c) [
      | decimal l m t e ↦ let v = value_decimal c m in digit_decimal (hex_value c) (omega arith) ∙ omega arith
      | letter l m t e ↦
          let v = value_letter c (omega arith) in digit_letter (hex_value c) (omega arith) ∙ omega arith
      | other e ↦ absurd (true≢false (sym h ∙ e))
    ]

-- ---- the test

fold_from : (good : Bool) (s : List ℕ) → good && are_hex s ≡ fold (λ (g : Bool) (c : ℕ). g && is_hex c) good s
unfolding are_hex
fold_from false [] = refl
fold_from true [] = refl
fold_from false (c ∷ s) = fold_from false s
fold_from true (c ∷ s) = fold_from (is_hex c) s

-- as a fold over the bytes
pub hex_fold : (s : List ℕ) → are_hex s ≡ fold (λ (g : Bool) (c : ℕ). g && is_hex c) true s
hex_fold s = fold_from true s

-- so far good, and what is to come
pub hex_turn : (good : Bool) (s : List ℕ) (i : ℕ) → i < length s
    → (good && is_hex (get_or s i 0)) && are_hex (drop (i + 1) s) ≡ good && are_hex (drop i s)
unfolding are_hex
hex_turn false s i h = refl
hex_turn true s i h = rw (drop-cons s i 0 h, add-one) refl

pub hex_end : (good : Bool) (s : List ℕ) (i : ℕ) → i ≡ length s → good && are_hex (drop i s) ≡ good
unfolding are_hex
hex_end false s i h = refl
hex_end true s i h = rw (h, drop-length s) refl

pub hex_at : (s : List ℕ) (i : ℕ) → are_hex s ≡ true → i < length s → is_hex (get_or s i 0) ≡ true
unfolding are_hex
hex_at [] i h l = absurd (omega arith)
hex_at (c ∷ s) zero h l = and_l (is_hex c) (are_hex s) h
hex_at (c ∷ s) (suc i) h l = hex_at s i (and_r (is_hex c) (are_hex s) h) (omega arith)

pub pairs_even : (s : List ℕ) → are_pairs s ≡ true → 2 * (length s / 2) ≡ length s
unfolding are_pairs
pairs_even s h =
    let e = eqb-true (length s % 2) 0 (and_l (eqb (length s % 2) 0) (are_hex s) h) in
    omega arith

pub pairs_hex : (s : List ℕ) → are_pairs s ≡ true → are_hex s ≡ true
unfolding are_pairs
pairs_hex s h = and_r (eqb (length s % 2) 0) (are_hex s) h

pub unhex_some : (s : List ℕ) → are_pairs s ≡ true → unhex s ≡ Some (pairs s)
unfolding unhex
unhex_some s h = rw h refl

pub unhex_none : (s : List ℕ) → are_pairs s ≡ false → unhex s ≡ None
unfolding unhex
unhex_none s h = rw h refl

-- ---- lists by index

pub pairs_length : (s : List ℕ) → length (pairs s) ≡ length s / 2
unfolding pairs
pairs_length [] = omega arith
pairs_length (c ∷ []) = omega arith
pairs_length (c ∷ d ∷ s) = omega (arith, pairs_length s)

pub pairs_at : (s : List ℕ) (j : ℕ) → 2 * j + 1 < length s → get_or (pairs s) j 0 ≡ hex_value (get_or s (2 * j) 0) * 16 + hex_value (get_or s (2 * j + 1) 0)
unfolding pairs
pairs_at [] j h = absurd (omega arith)
pairs_at (c ∷ []) j h = absurd (omega arith)
pairs_at (c ∷ d ∷ s) zero h = refl
pairs_at (c ∷ d ∷ s) (suc j) h =
    let e : 2 * suc j ≡ suc (suc (2 * j)) = omega arith in
    let f : 2 * suc j + 1 ≡ suc (suc (2 * j + 1)) = omega arith in
    rw (f, e) (pairs_at s j (omega arith))

pub hex_length : (b : List ℕ) → length (hex_of b) ≡ 2 * length b
unfolding hex_of
hex_length [] = refl
hex_length (x ∷ b) = omega (arith, hex_length b)

pub hex_high : (b : List ℕ) (j : ℕ) → j < length b → get_or (hex_of b) (2 * j) 0 ≡ hex_digit (get_or b j 0 / 16)
unfolding hex_of
hex_high [] j h = absurd (omega arith)
hex_high (x ∷ b) zero h = refl
hex_high (x ∷ b) (suc j) h =
    let e : 2 * suc j ≡ suc (suc (2 * j)) = omega arith in
    rw e (hex_high b j (omega arith))

pub hex_last : (b : List ℕ) (j : ℕ) → j < length b → get_or (hex_of b) (2 * j + 1) 0 ≡ hex_digit (get_or b j 0 % 16)
unfolding hex_of
hex_last [] j h = absurd (omega arith)
hex_last (x ∷ b) zero h = refl
hex_last (x ∷ b) (suc j) h =
    let e : 2 * suc j + 1 ≡ suc (suc (2 * j + 1)) = omega arith in
    rw e (hex_last b j (omega arith))

-- a text taken by two
pub chunk_at : (k : ℕ) (s : List ℕ) (j : ℕ) → j < k → 2 * k ≤ length s
    → (get_or (get_or (first_chunks 2 k s) j []) 0 0 ≡ get_or s (2 * j) 0) × (get_or (get_or (first_chunks 2 k s) j []) 1 0 ≡ get_or s (2 * j + 1) 0)
chunk_at zero s j h l = absurd (omega arith)
chunk_at (suc k) [] j h l = absurd (omega arith)
chunk_at (suc k) (c ∷ []) j h l = absurd (omega arith)
chunk_at (suc k) (c ∷ d ∷ s) zero h l = (refl, refl)
chunk_at (suc k) (c ∷ d ∷ s) (suc j) h l =
    let e : 2 * suc j ≡ suc (suc (2 * j)) = omega arith in
    let f : 2 * suc j + 1 ≡ suc (suc (2 * j + 1)) = omega arith in
    let both = chunk_at k s j (omega arith) (omega arith) in
    (rw e both.0, rw f both.1)

-- ---- loops that write

copied_on : (d : List ℕ) (at : ℕ) (src : List ℕ) (j x : ℕ) → at + j < length d → j < length src → x ≡ get_or src j 0
    → set (copied d at src 0 j) (at + j) x ≡ copied d at src 0 (j + 1)
copied_on d at src j x h l e =
    ap (set (copied d at src 0 j) (at + j)) (e ∙ ap (λ (k : ℕ). get_or src k 0) (sym (zero-add j)))
    ∙ copied_step d at src 0 j h (omega arith)

pub unhex_turn : (d s : List ℕ) (j x : ℕ) → j < length d → 2 * j + 1 < length s
    → x ≡ hex_value (get_or s (2 * j) 0) * 16 + hex_value (get_or s (2 * j + 1) 0)
    → set (copied d 0 (pairs s) 0 j) j x ≡ copied d 0 (pairs s) 0 (j + 1)
unhex_turn d s j x h l e =
    ap (λ (k : ℕ). set (copied d 0 (pairs s) 0 j) k x) (sym (zero-add j))
    ∙ copied_on d 0 (pairs s) j x (omega arith) (omega (arith, pairs_length s)) (e ∙ sym (pairs_at s j l))

pub unhex_end : (d s : List ℕ) (n : ℕ) → 2 * n ≡ length s → copied d 0 (pairs s) 0 n ≡ pairs s ++ drop n d
unhex_end d s n h = copied_all d 0 (pairs s) n (omega (arith, pairs_length s)) ∙ ap (λ (k : ℕ). pairs s ++ drop k d) (zero-add n)

pub hex_write : (d b : List ℕ) (at j x y : ℕ) → j < length b → at + 2 * length b ≤ length d
    → x ≡ hex_digit (get_or b j 0 / 16) → y ≡ hex_digit (get_or b j 0 % 16)
    → set (set (copied d at (hex_of b) 0 (2 * j)) (at + 2 * j) x) (at + 2 * j + 1) y ≡ copied d at (hex_of b) 0 (2 * (j + 1))
hex_write d b at j x y h room high low =
    let k = 2 * j in
    let l = hex_length b in
    let p = hex_of b in
    let i : at + k + 1 ≡ at + (k + 1) = omega arith in
    let n : k + 1 + 1 ≡ 2 * (j + 1) = omega arith in
    ap (λ (z : List ℕ). set z (at + k + 1) y) (copied_on d at p k x (omega arith) (omega arith) (high ∙ sym (hex_high b j h)))
    ∙ ap (λ (z : ℕ). set (copied d at p 0 (k + 1)) z y) i
    ∙ copied_on d at p (k + 1) y (omega arith) (omega arith) (low ∙ sym (hex_last b j h))
    ∙ ap (copied d at p 0) n

-- the same at the front of d
pub hex_write_front : (d b : List ℕ) (j x y : ℕ) → j < length b → 2 * length b ≤ length d
    → x ≡ hex_digit (get_or b j 0 / 16) → y ≡ hex_digit (get_or b j 0 % 16)
    → set (set (copied d 0 (hex_of b) 0 (2 * j)) (2 * j) x) (2 * j + 1) y ≡ copied d 0 (hex_of b) 0 (2 * (j + 1))
hex_write_front d b j x y h room high low = rw (zero-add (2 * j)) at (hex_write d b 0 j x y h (omega arith) high low)

pub hex_written : (d b : List ℕ) (n : ℕ) → n ≡ length b → copied d 0 (hex_of b) 0 (2 * n) ≡ hex_of b ++ drop (length (hex_of b)) d
hex_written d b n h =
    let l : length (hex_of b) ≡ 2 * n = hex_length b ∙ rw h refl in
    copied_all d 0 (hex_of b) (2 * n) l ∙ ap (λ (k : ℕ). hex_of b ++ drop k d) (zero-add (2 * n) ∙ sym l)

-- no digit's byte is below that of 0
pub hex_low : (c : ℕ) → is_hex c ≡ true → 48 ≤ c
hex_low c h =
    elim (way c) [
      | decimal l m t e ↦ l
      | letter l m t e ↦ omega arith
      | other e ↦ absurd (true≢false cc)
    ]
