-- What a first line says, field by field, as the reader of a card counts them: `open` is field 0, TIMEOUT, the runner's limit of time, field 10,
-- and the smallest grant, which may be left out, field 13.
use Rattle.std.specs.Prelude.{◌≡◌, List, [], ℕ, ◌≤◌, length, get_or, Some}
use Rattle.syntax.specs.Lines.{fields, u64, u32, digit}
use Rattle.syntax.specs.Words.{bytes, unit}
use Rattle.opening.specs.Open.{Opening, timeout, smallest_of}

-- A LINE SAYS AN OPENING: thirteen fields or fourteen, each of which says its part
pub record Says (line : List ℕ) (o : Opening) : Type 0 where
  pub count : (13 ≤ length (fields line)) × (length (fields line) ≤ 14)
  pub name : get_or (fields line) 0 [] ≡ bytes "open"
  pub now : u64 (get_or (fields line) 1 []) ≡ Some o.now
  pub id : u64 (get_or (fields line) 2 []) ≡ Some o.conf.key.id
  pub generation : u64 (get_or (fields line) 3 []) ≡ Some o.conf.key.generation
  pub chunk : u32 (get_or (fields line) 4 []) ≡ Some o.conf.limits.chunk
  pub input_unit : unit (get_or (fields line) 5 []) ≡ Some o.conf.limits.input.unit
  pub input_size : u32 (get_or (fields line) 6 []) ≡ Some o.conf.limits.input.size
  pub output_unit : unit (get_or (fields line) 7 []) ≡ Some o.conf.limits.output.unit
  pub output_size : u32 (get_or (fields line) 8 []) ≡ Some o.conf.limits.output.size
  pub shared : digit (get_or (fields line) 9 []) ≡ Some o.conf.limits.shared
  pub limit : timeout (get_or (fields line) 10 []) ≡ Some o.conf.timers.timeout
  pub grace : u64 (get_or (fields line) 11 []) ≡ Some o.conf.timers.grace
  pub settlement : u64 (get_or (fields line) 12 []) ≡ Some o.conf.timers.settlement
  pub smallest : smallest_of (fields line) ≡ Some o.conf.smallest
