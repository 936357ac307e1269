-- The first line as literal texts: of 01's table, with every field another, with one too few or too many; TIMEOUT by 02's A3, and the
-- smallest grant by A9.
use Rattle.std.specs.Prelude.{true, false, ◌≡◌, refl, ℕ, Option, Some, None}
use Rattle.exec.specs.Key.{new_key}
use Rattle.exec.specs.Limits.{bytes_window, frames_window, limits_for}
use Rattle.exec.specs.Time.{new_timers, with_timeout}
use Rattle.syntax.specs.Table.{calls}
use Rattle.syntax.specs.Words.{bytes}
use Rattle.opening.specs.Open.{Opening, timeout, open_of, is_open, opening_of, limits_of, timers_of, smallest_of, line_open}

table_open : line_open (bytes "open,0,7,2,4,B,8,B,8,0,-,10,5")
    ≡ Some (record {
      conf = record { key = new_key 7 2; limits = limits_for 4 (bytes_window 8) (bytes_window 8) false; timers = with_timeout (new_timers 10 5) 3600000000000; smallest = 1 };
      now = 0;
    })
unfolding calls open_of is_open opening_of limits_of timers_of timeout smallest_of
table_open = refl

-- every field in its place, and no other line: twelve fields, fifteen, another name
places : (line_open (bytes "open,1,2,3,4,F,5,B,6,1,7,8,9")
    ≡ Some (record {
      conf = record { key = new_key 2 3; limits = limits_for 4 (frames_window 5) (bytes_window 6) true; timers = with_timeout (new_timers 8 9) 7; smallest = 1 };
      now = 1;
    }))
    × (line_open (bytes "open,1,2,3,4,F,5,B,6,1,8,9") ≡ None)
    × (line_open (bytes "open,1,2,3,4,F,5,B,6,1,7,8,9,1,1") ≡ None)
    × (line_open (bytes "Open,1,2,3,4,F,5,B,6,1,7,8,9") ≡ None)
unfolding calls open_of is_open opening_of limits_of timers_of timeout smallest_of
places = (refl, refl, refl, refl)

-- missing is an hour, `never` no limit, a number itself up to 2^64 - 1; what is nearly one of these is none (30)
timeouts : (timeout (bytes "-") ≡ Some (Some 3600000000000))
    × (timeout (bytes "never") ≡ Some None)
    × (timeout (bytes "0") ≡ Some (Some 0))
    × (timeout (bytes "3599999999999") ≡ Some (Some 3599999999999))
    × (timeout (bytes "3600000000000") ≡ Some (Some 3600000000000))
    × (timeout (bytes "3600000000001") ≡ Some (Some 3600000000001))
    × (timeout (bytes "18446744073709551615") ≡ Some (Some 18446744073709551615))
    × (timeout (bytes "18446744073709551616") ≡ None)
    × (timeout (bytes "Never") ≡ None) × (timeout (bytes "NEVER") ≡ None) × (timeout (bytes "never ") ≡ None)
    × (timeout (bytes " never") ≡ None) × (timeout (bytes "neve") ≡ None) × (timeout (bytes "nevers") ≡ None)
    × (timeout (bytes "--") ≡ None) × (timeout (bytes "-0") ≡ None) × (timeout (bytes "- ") ≡ None) × (timeout (bytes "") ≡ None)
unfolding calls timeout
timeouts = (refl, refl, refl, refl, refl, refl, refl, refl, refl, refl, refl, refl, refl, refl, refl, refl, refl, refl)

-- only TIMEOUT may be missing: `-` in any other field opens nothing
only_timeout : (line_open (bytes "open,-,2,3,4,F,5,B,6,1,7,8,9") ≡ None)
    × (line_open (bytes "open,1,-,3,4,F,5,B,6,1,7,8,9") ≡ None)
    × (line_open (bytes "open,1,2,-,4,F,5,B,6,1,7,8,9") ≡ None)
    × (line_open (bytes "open,1,2,3,-,F,5,B,6,1,7,8,9") ≡ None)
    × (line_open (bytes "open,1,2,3,4,-,5,B,6,1,7,8,9") ≡ None)
    × (line_open (bytes "open,1,2,3,4,F,-,B,6,1,7,8,9") ≡ None)
    × (line_open (bytes "open,1,2,3,4,F,5,-,6,1,7,8,9") ≡ None)
    × (line_open (bytes "open,1,2,3,4,F,5,B,-,1,7,8,9") ≡ None)
    × (line_open (bytes "open,1,2,3,4,F,5,B,6,-,7,8,9") ≡ None)
    × (line_open (bytes "open,1,2,3,4,F,5,B,6,1,7,-,9") ≡ None)
    × (line_open (bytes "open,1,2,3,4,F,5,B,6,1,7,8,-") ≡ None)
unfolding calls open_of is_open opening_of limits_of timers_of timeout smallest_of
only_timeout = (refl, refl, refl, refl, refl, refl, refl, refl, refl, refl, refl)

-- nor does `never` in another field of time
only_there : (line_open (bytes "open,never,2,3,4,F,5,B,6,1,7,8,9") ≡ None)
    × (line_open (bytes "open,1,2,3,4,F,5,B,6,1,7,never,9") ≡ None)
    × (line_open (bytes "open,1,2,3,4,F,5,B,6,1,7,8,never") ≡ None)
unfolding calls open_of is_open opening_of limits_of timers_of timeout smallest_of
only_there = (refl, refl, refl)

-- nor a line that is nearly one: another name, a blank, an empty TIMEOUT, a carriage return
near_lines : (line_open (bytes "OPEN,1,2,3,4,F,5,B,6,1,7,8,9") ≡ None)
    × (line_open (bytes "ope,1,2,3,4,F,5,B,6,1,7,8,9") ≡ None)
    × (line_open (bytes "open ,1,2,3,4,F,5,B,6,1,7,8,9") ≡ None)
    × (line_open (bytes "open,1,2,3,4,F,5,B,6,1, -,8,9") ≡ None)
    × (line_open (bytes "open,1,2,3,4,F,5,B,6,1, never,8,9") ≡ None)
    × (line_open (bytes "open,1,2,3,4,F,5,B,6,1,- ,8,9") ≡ None)
    × (line_open (bytes "open,1,2,3,4,F,5,B,6,1,,8,9") ≡ None)
    × (line_open (bytes "open,1,2,3,4,F,5,B,6,1, 7,8,9") ≡ None)
    × (line_open (bytes "open, 1,2,3,4,F,5,B,6,1,7,8,9") ≡ None)
    × (line_open (bytes "open,1,2,3,4,F,5,B,6,1,7,8,9\r") ≡ None)
unfolding calls open_of is_open opening_of limits_of timers_of timeout smallest_of
near_lines = (refl, refl, refl, refl, refl, refl, refl, refl, refl, refl)

-- ---- the smallest grant

-- what the line with such a grant opens with
abbrev granted : (smallest : ℕ) → Option Opening
granted smallest =
    Some (record {
      conf = record { key = new_key 2 3; limits = limits_for 4 (frames_window 5) (bytes_window 6) true; timers = with_timeout (new_timers 8 9) 7; smallest = smallest };
      now = 1;
    })

-- left out it is 1, and written a number up to 2^32 - 1: 0, and one above the window's size, are the runner's to refuse
smallest_grants : (line_open (bytes "open,1,2,3,4,F,5,B,6,1,7,8,9") ≡ granted 1)
    × (line_open (bytes "open,1,2,3,4,F,5,B,6,1,7,8,9,1") ≡ granted 1)
    × (line_open (bytes "open,1,2,3,4,F,5,B,6,1,7,8,9,4") ≡ granted 4)
    × (line_open (bytes "open,1,2,3,4,F,5,B,6,1,7,8,9,0004") ≡ granted 4)
    × (line_open (bytes "open,1,2,3,4,F,5,B,6,1,7,8,9,0") ≡ granted 0)
    × (line_open (bytes "open,1,2,3,4,F,5,B,6,1,7,8,9,4294967295") ≡ granted 4294967295)
unfolding calls open_of is_open opening_of limits_of timers_of timeout smallest_of
smallest_grants = (refl, refl, refl, refl, refl, refl)

-- what is written and is no such number opens nothing: an empty field is not left out, nor is `-`
no_grants : (line_open (bytes "open,1,2,3,4,F,5,B,6,1,7,8,9,") ≡ None)
    × (line_open (bytes "open,1,2,3,4,F,5,B,6,1,7,8,9,-") ≡ None)
    × (line_open (bytes "open,1,2,3,4,F,5,B,6,1,7,8,9,4294967296") ≡ None)
    × (line_open (bytes "open,1,2,3,4,F,5,B,6,1,7,8,9,never") ≡ None)
    × (line_open (bytes "open,1,2,3,4,F,5,B,6,1,7,8,9,4,4") ≡ None)
    × (line_open (bytes "open,1,2,3,4,F,5,B,6,1,7,8,9,4,") ≡ None)
    × (line_open (bytes "open,1,2,3,4,F,5,B,6,1,7,8,9,,") ≡ None)
    × (line_open (bytes "open,1,2,3,4,F,5,B,6,1,7,8,9, 4") ≡ None)
    × (line_open (bytes "open,1,2,3,4,F,5,B,6,1,7,8,9,4\r") ≡ None)
    × (line_open (bytes "open,1,2,3,4,F,5,B,6,1,7,8,") ≡ None)
unfolding calls open_of is_open opening_of limits_of timers_of timeout smallest_of
no_grants = (refl, refl, refl, refl, refl, refl, refl, refl, refl, refl)
