-- What the values of the code stand for.
use Rattle.std.specs.Prelude.{List, ◌≡◌, ℕ, take, Option, Some, None, option_map}
use Rattle.calls.specs.Call.{Call}
use Rattle.syntax.specs.Meaning.{call_is}
use Rattle.syntax.specs.declared.Call as Held

-- bytes that stand at the start of a buffer
abbrev pub bytes_is : Option ℕ → (work : List ℕ) → Option (List ℕ)
bytes_is None work = None
bytes_is (Some n) work = Some (take n work)

-- ---- calls

abbrev pub line_is : Option Held.Call → (work : List ℕ) → Option Call
line_is r work = option_map (λ c. call_is c work) r

-- (where it has no payload, what stands in work does not matter)
abbrev pub LineIs : Option Held.Call → Option Call → Type 0
LineIs r x = (work : List ℕ) → line_is r work ≡ x
