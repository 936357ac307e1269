-- The first line, which opens a runner: open,NOW,ID,GENERATION,CHUNK,UNIT,SIZE,UNIT,SIZE,SHARED,TIMEOUT,GRACE,SETTLEMENT[,SMALLEST].
use Rattle.std.specs.Prelude.{Bool, cond, ◌&&◌, List, [], ℕ, eqb, leb, length, get_or, Option, Some, None, option_map}
use Rattle.exec.specs.declared.Limits.{Limits}
use Rattle.exec.specs.declared.Timers.{Timers}
use Rattle.exec.specs.declared.Window.{Window}
use Rattle.exec.specs.Key.{new_key}
use Rattle.exec.specs.Limits.{limits_for}
use Rattle.calls.specs.Call.{Conf}
use Rattle.syntax.specs.Words.{bytes, same, unit}
use Rattle.syntax.specs.Lines.{on, fields, u64, u32, missing, digit}

-- how long a program may run whose TIMEOUT is missing, in nanoseconds from open: an hour
abbrev pub hour : ℕ
hour = 3600000000000

-- only the timeout may be missing; `never` is no limit
unfoldable pub timeout : List ℕ → Option (Option ℕ)
timeout field =
    cond (missing field) (Some (Some hour))
    (cond (same field (bytes "never")) (Some None)
    (option_map Some (u64 field)))

-- what open is given: key, limits, timers and smallest grant, and the time
pub record Opening : Type 0 where
  pub conf : Conf
  pub now : ℕ

abbrev pub window : (unit size : List ℕ) → Option Window
window u n = on (unit u) λ x. on (u32 n) λ k. Some (record { unit = x; size = k })

-- the field at a place
abbrev pub at : List (List ℕ) → ℕ → List ℕ
at fs i = get_or fs i []

-- open,NOW,ID,GENERATION,CHUNK,UNIT,SIZE,UNIT,SIZE,SHARED,TIMEOUT,GRACE,SETTLEMENT[,SMALLEST]: 13 fields, or 14
unfoldable pub is_open : List (List ℕ) → Bool
is_open fs = (leb 13 (length fs) && leb (length fs) 14) && same (at fs 0) (bytes "open")

unfoldable pub limits_of : List (List ℕ) → Option Limits
limits_of fs =
    on (u32 (at fs 4)) λ chunk. on (window (at fs 5) (at fs 6)) λ i. on (window (at fs 7) (at fs 8)) λ o. on (digit (at fs 9)) λ b.
    Some (limits_for chunk i o b)

unfoldable pub timers_of : List (List ℕ) → Option Timers
timers_of fs =
    on (timeout (at fs 10)) λ x. on (u64 (at fs 11)) λ y. on (u64 (at fs 12)) λ z. Some (record { timeout = x; grace = y; settlement = z })

-- the smallest grant: 1, where it is left out (the fields are counted: one that is written and empty is none)
unfoldable pub smallest_of : List (List ℕ) → Option ℕ
smallest_of fs = cond (eqb (length fs) 13) (Some 1) (u32 (at fs 13))

unfoldable pub opening_of : List (List ℕ) → Option Opening
opening_of fs =
    on (u64 (at fs 1)) λ now. on (u64 (at fs 2)) λ id. on (u64 (at fs 3)) λ generation. on (limits_of fs) λ l. on (timers_of fs) λ t.
    on (smallest_of fs) λ smallest.
    Some (record { conf = record { key = new_key id generation; limits = l; timers = t; smallest = smallest }; now = now })

unfoldable pub open_of : List (List ℕ) → Option Opening
open_of fs = cond (is_open fs) (opening_of fs) None

abbrev pub line_open : (line : List ℕ) → Option Opening
line_open line = open_of (fields line)
