-- Small examples, computed from the definitions: what stands for bytes, and what does just not.
use Rattle.std.specs.Prelude.{◌≡◌, refl, [], ◌∷◌, get_or, Some, None}
use Rattle.hexadecimal.specs.Hexadecimal.{hex_digit, hex_of, are_hex, are_pairs, hex_value, digits, pairs, unhex}

-- ---- bytes: none, `0a`, an uppercase digit, an odd count
nothing : unhex [] ≡ Some []
unfolding unhex are_pairs are_hex pairs
nothing = refl

byte : unhex (48 ∷ 97 ∷ []) ≡ Some (10 ∷ [])
unfolding unhex are_pairs are_hex pairs hex_value
byte = refl

uppercase : unhex (48 ∷ 65 ∷ []) ≡ None
unfolding unhex are_pairs are_hex
uppercase = refl

odd : unhex (48 ∷ 48 ∷ 48 ∷ []) ≡ None
unfolding unhex are_pairs
odd = refl

spelled : hex_of (255 ∷ 10 ∷ []) ≡ 102 ∷ 102 ∷ 48 ∷ 97 ∷ []
unfolding hex_of hex_digit
spelled = refl

-- ---- the table: `0` to `9` and what stands beside them, `a` to `f` and what stands beside them, `A`, and the last byte
decimal : (get_or digits 47 0 ≡ 255) × (get_or digits 48 0 ≡ 0) × (get_or digits 57 0 ≡ 9) × (get_or digits 58 0 ≡ 255)
unfolding digits
decimal = (refl, refl, refl, refl)

letter : (get_or digits 96 0 ≡ 255) × (get_or digits 97 0 ≡ 10) × (get_or digits 102 0 ≡ 15) × (get_or digits 103 0 ≡ 255)
unfolding digits
letter = (refl, refl, refl, refl)

neither : (get_or digits 65 0 ≡ 255) × (get_or digits 255 0 ≡ 255)
unfolding digits
neither = (refl, refl)

-- ---- all sixteen digits
every_digit : unhex (48 ∷ 49 ∷ 50 ∷ 51 ∷ 52 ∷ 53 ∷ 54 ∷ 55 ∷ 56 ∷ 57 ∷ 97 ∷ 98 ∷ 99 ∷ 100 ∷ 101 ∷ 102 ∷ [])
    ≡ Some (1 ∷ 35 ∷ 69 ∷ 103 ∷ 137 ∷ 171 ∷ 205 ∷ 239 ∷ [])
unfolding unhex are_pairs are_hex pairs hex_value
every_digit = refl
