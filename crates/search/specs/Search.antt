-- Where a byte first stands in a text.
use Rattle.std.specs.Prelude.{◌≡◌, ◌<◌, cond, List, [], ◌∷◌, ℕ, suc, eqb, length, Option, Some, None}

-- the index of the first such byte, or the length where there is none
unfoldable pub index_of : (byte : ℕ) → List ℕ → ℕ
index_of byte [] = 0
index_of byte (b ∷ s) = cond (eqb b byte) 0 (suc (index_of byte s))

-- what a search gives: that index, or none where it is the length
abbrev pub Finds : (byte : ℕ) → List ℕ → Option ℕ → Type 0
Finds byte s None = index_of byte s ≡ length s
Finds byte s (Some at) = (index_of byte s ≡ at) × (at < length s)
