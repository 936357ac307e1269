-- The units of the input's window that were granted and not used, and those to be granted next.
use Rattle.std.specs.Prelude.{ℕ, ◌+◌, ◌-◌, Bool, cond, ◌&&◌, leb, ltb, Result, Ok, Err}
use Rattle.exec.specs.declared.Refusal.{Refusal}
use Rattle.inbox.specs.declared.receiver.Granted.{Granted}
use Rattle.inbox.specs.declared.receiver.Taking.{Taking}

abbrev pub new_granted : (size smallest : ℕ) → Granted
new_granted size smallest = record { «open» = 0; returnable = size; smallest = smallest }

-- a cost above what is open is refused
abbrev pub charge : Granted → ℕ → Result Granted Refusal
charge g cost = cond (ltb g.open cost) (Err Refusal.Window) (Ok (record { «open» = g.open - cost; returnable = g.returnable; smallest = g.smallest }))

abbrev pub freed : Granted → ℕ → Granted
freed g units = record { «open» = g.open; returnable = g.returnable + units; smallest = g.smallest }

-- all of returnable moves to open
abbrev pub opened : Granted → Granted
opened g = record { «open» = g.open + g.returnable; returnable = 0; smallest = g.smallest }

-- at least the smallest grant is returnable
abbrev pub is_due : Granted → Bool
is_due g = leb g.smallest g.returnable

-- nothing until then, and then all of it
abbrev pub take_grant : Granted → Taking
take_grant g = record { granted = cond (is_due g) (opened g) g; units = cond (is_due g) g.returnable 0 }

-- 46 refuses a smallest grant of 0, or above the window
abbrev pub grant_fits : (smallest size : ℕ) → Bool
grant_fits smallest size = ltb 0 smallest && leb smallest size

abbrev pub units_fit : Granted → (held size : ℕ) → Bool
units_fit g held size = leb (g.open + g.returnable + held) size
