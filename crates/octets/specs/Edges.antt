-- The bytes of a number, spelled out: round trips do not tell the order of its bytes.
use Rattle.std.specs.Prelude.{[], ◌∷◌, ◌≡◌, refl, Some, None}
use Rattle.octets.specs.Bytes.{be24, be24_at, be32, be32_at, number_at, number24_within}

-- 0x01020304, the most significant byte first
big_endian : (be32 16909060 ≡ 1 ∷ 2 ∷ 3 ∷ 4 ∷ []) × (be32_at (9 ∷ 1 ∷ 2 ∷ 3 ∷ 4 ∷ []) 1 ≡ 16909060)
unfolding be32_at
big_endian = (refl, refl)

-- a number that ends with the bytes is read, and one that ends behind them is 0
ends : (number_at (9 ∷ 1 ∷ 2 ∷ 3 ∷ 4 ∷ []) 1 ≡ 16909060) × (number_at (9 ∷ 1 ∷ 2 ∷ 3 ∷ []) 1 ≡ 0)
unfolding number_at be32_at
ends = (refl, refl)

-- 0x010203 in three bytes; the next index reads other bytes, and a number that ends behind the bytes is none
three : (be24 66051 ≡ 1 ∷ 2 ∷ 3 ∷ [])
    × (be24_at (9 ∷ 1 ∷ 2 ∷ 3 ∷ []) 1 ≡ 66051)
    × (number24_within (9 ∷ 1 ∷ 2 ∷ 3 ∷ []) 1 ≡ Some 66051)
    × (number24_within (9 ∷ 1 ∷ 2 ∷ 3 ∷ []) 2 ≡ None)
    × (number24_within (1 ∷ 2 ∷ []) 0 ≡ None)
unfolding number24_within be24_at
three = (refl, refl, refl, refl, refl)
