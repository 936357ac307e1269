-- What is read of a field by the functions of crates decimal and hexadecimal.
use Rattle.std.specs.Prelude.{◌≡◌, refl, List, ℕ, length, drop, Option, Some, None}
use Rattle.std.proofs.Common.{ap, take_at}
use Rattle.hexadecimal.specs.Answers.{maybe_length, unhex_into}
use Rattle.reading.specs.Meaning.{bytes_is}

pub bytes_is_lem : (x : Option (List ℕ)) (d : List ℕ) → bytes_is (maybe_length x) (unhex_into x d) ≡ x
bytes_is_lem None d = refl
bytes_is_lem (Some b) d = ap Some (take_at b (drop (length b) d) (length b) refl)
