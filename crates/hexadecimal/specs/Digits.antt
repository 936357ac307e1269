-- The rule of the table of digits, at all of its 256 entries.
use Rattle.std.specs.Prelude.{◌≡◌, refl, true, false, ℕ, ◌+◌, ◌*◌, ◌/◌, ◌<◌, List, [], get_or, map, length}
use Rattle.std.specs.List.{range_with_len}
use Rattle.std.specs.Simd.{first_chunks}
use Rattle.std.proofs.Common.{ap, ◌∙◌, arith, zero-add}
use Rattle.std.proofs.lemmas.List.FromFn.{get_or-map-range_with_len}
use Rattle.hexadecimal.specs.Hexadecimal.{is_hex, are_hex, hex_value, digit_of, digits}
use Rattle.hexadecimal.specs.HexadecimalLaws.{value_below, hex_at, chunk_at}

-- THE RULE: by one test of the whole table, which antt computes
pub digits_rule : (c : ℕ) → c < 256 → get_or digits c 0 ≡ digit_of c
unfolding digits digit_of hex_value
digits_rule c h =
    let whole : digits ≡ map digit_of (range_with_len 0 256) = refl in
    ap (λ (t : List ℕ). get_or t c 0) whole ∙ get_or-map-range_with_len digit_of 0 256 c c 0 h (zero-add c)

-- at a digit it is the digit's value
pub digit_value : (c : ℕ) → is_hex c ≡ true → digit_of c ≡ hex_value c
unfolding digit_of
digit_value c h = rw h refl

pub digit_below : (c : ℕ) → is_hex c ≡ true → digit_of c < 16
digit_below c h = rw (digit_value c h) (value_below c h)

-- so the digits of a text's pair number j, where p are its pairs
module _ (s : List ℕ) (p : List (List ℕ)) (j : ℕ) (good : are_hex s ≡ true) (are : p ≡ first_chunks 2 (length s / 2) s) (has : j < length s / 2) where
  chunk : (get_or (get_or p j []) 0 0 ≡ get_or s (2 * j) 0) × (get_or (get_or p j []) 1 0 ≡ get_or s (2 * j + 1) 0)
  chunk = rw are (chunk_at (length s / 2) s j has (omega arith))

  -- its first digit, and its second
  pub pair_high : (digit_of (get_or (get_or p j []) 0 0) ≡ hex_value (get_or s (2 * j) 0)) × (digit_of (get_or (get_or p j []) 0 0) < 16)
  pair_high = let d = hex_at s (2 * j) good (omega arith) in rw chunk.0 (digit_value _ d, digit_below _ d)

  pub pair_low : (digit_of (get_or (get_or p j []) 1 0) ≡ hex_value (get_or s (2 * j + 1) 0)) × (digit_of (get_or (get_or p j []) 1 0) < 16)
  pair_low = let d = hex_at s (2 * j + 1) good (omega arith) in rw chunk.1 (digit_value _ d, digit_below _ d)

-- and elsewhere 255
other_255 : (c : ℕ) → is_hex c ≡ false → digit_of c ≡ 255
unfolding digit_of
other_255 c h = rw h refl

-- as many entries as there are bytes
entries : length digits ≡ 256
unfolding digits
entries = refl
