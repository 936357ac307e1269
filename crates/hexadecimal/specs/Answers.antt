-- The answers of the code, and what it leaves in a buffer, from what the definitions say.
use Rattle.std.specs.Prelude.{List, ◌++◌, ℕ, length, drop, Option, Some, None}

abbrev pub maybe_length : Option (List ℕ) → Option ℕ
maybe_length None = None
maybe_length (Some b) = Some (length b)

-- a buffer with the bytes at its start; as it was, where there are none
abbrev pub unhex_into : Option (List ℕ) → (d : List ℕ) → List ℕ
unhex_into None d = d
unhex_into (Some b) d = b ++ drop (length b) d
