-- The signals that a request names (RFC 4254, 6.10), by Linux's numbers: one table, read by writer and reader.
use Rattle.std.specs.Prelude.{Bool, List, [], ◌∷◌, ℕ, ℤ, pos, Option, find}
use Rattle.std.specs.Option.{option_map}
use Rattle.std.specs.Ordering.{int_eq}
use Prim.Native.String.{String}
use Rattle.octets.specs.Text.{bytes, same}

-- a number, and the bytes of its name
pub record Signal : Type 0 where
  pub number : ℤ
  pub name : List ℕ

abbrev pub signal : (number : ℕ) (name : String) → Signal
signal number name = record { number = pos number; name = bytes name }

abbrev pub signals : List Signal
signals =
    signal 1 "HUP" ∷ signal 2 "INT" ∷ signal 3 "QUIT" ∷ signal 4 "ILL" ∷ signal 6 "ABRT" ∷ signal 8 "FPE" ∷ signal 9 "KILL"
    ∷ signal 10 "USR1" ∷ signal 11 "SEGV" ∷ signal 12 "USR2" ∷ signal 13 "PIPE" ∷ signal 14 "ALRM" ∷ signal 15 "TERM" ∷ []

abbrev pub is_number : ℤ → Signal → Bool
is_number n x = int_eq x.number n

abbrev pub is_named : (name : List ℕ) → Signal → Bool
is_named name x = same x.name name

-- the name of a number, and the number of a name, where the table has it
unfoldable pub name_of : ℤ → Option (List ℕ)
name_of n = option_map (λ x. x.name) (find (is_number n) signals)

unfoldable pub number_of : (name : List ℕ) → Option ℤ
number_of name = option_map (λ x. x.number) (find (is_named name) signals)
