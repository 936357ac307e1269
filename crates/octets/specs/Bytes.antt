-- A u32 in four bytes, the most significant first (RFC 4251, uint32), and a number of 24 bits in three (RFC 9113, 4.1).
use Rattle.std.specs.Prelude.{cond, Option, Some, None, List, [], ◌∷◌, ℕ, ◌+◌, ◌*◌, ◌/◌, ◌%◌, leb, length, get_or}

-- the four bytes of v
abbrev pub be32 : ℕ → List ℕ
be32 v = v / 16777216 % 256 ∷ v / 65536 % 256 ∷ v / 256 % 256 ∷ v % 256 ∷ []

-- the number whose four bytes stand at index at
unfoldable pub be32_at : List ℕ → ℕ → ℕ
be32_at s at = get_or s at 0 * 16777216 + get_or s (at + 1) 0 * 65536 + get_or s (at + 2) 0 * 256 + get_or s (at + 3) 0

-- the same, if the bytes do not end before it does
unfoldable pub number_within : List ℕ → ℕ → Option ℕ
number_within s at = cond (leb (at + 4) (length s)) (Some (be32_at s at)) None

-- and 0 where they do
unfoldable pub number_at : List ℕ → ℕ → ℕ
number_at s at = cond (leb (at + 4) (length s)) (be32_at s at) 0

-- ---- three bytes

abbrev pub be24 : ℕ → List ℕ
be24 v = v / 65536 % 256 ∷ v / 256 % 256 ∷ v % 256 ∷ []

unfoldable pub be24_at : List ℕ → ℕ → ℕ
be24_at s at = get_or s at 0 * 65536 + get_or s (at + 1) 0 * 256 + get_or s (at + 2) 0

unfoldable pub number24_within : List ℕ → ℕ → Option ℕ
number24_within s at = cond (leb (at + 3) (length s)) (Some (be24_at s at)) None
