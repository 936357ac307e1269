-- Time: instants and durations are nanoseconds; a sum past 2^64 - 1 is no deadline; each is due at its time exactly.
use Rattle.std.specs.Prelude.{ℕ, ◌+◌, ◌-◌, ◌^◌, ◌≤◌, ◌<◌, ◌≡◌, Bool, false, cond, leb, ltb, Option, Some, None}
use Rattle.std.proofs.Common.{le-leb}
use Rattle.std.proofs.lemmas.Bool.{lt-leb}
use Rattle.exec.specs.declared.Timers.{Timers}

-- the instant so long after now
abbrev pub after : (now duration : ℕ) → Option ℕ
after now duration = cond (leb (now + duration) (2 ^ 64 - 1)) (Some (now + duration)) None

pub after_at : (now duration : ℕ) → now + duration ≤ 2 ^ 64 - 1 → after now duration ≡ Some (now + duration)
after_at now duration h = simp (le-leb (now + duration) (2 ^ 64 - 1) h)

pub after_never : (now duration : ℕ) → 2 ^ 64 - 1 < now + duration → after now duration ≡ None
after_never now duration h = simp (lt-leb (now + duration) (2 ^ 64 - 1) h)

-- the instant so long after a deadline
abbrev pub then : Option ℕ → ℕ → Option ℕ
then None duration = None
then (Some at) duration = after at duration

-- the earlier of two deadlines
abbrev pub earliest : Option ℕ → Option ℕ → Option ℕ
earliest None e = e
earliest (Some a) None = Some a
earliest (Some a) (Some b) = cond (ltb b a) (Some b) (Some a)

-- now has reached it
abbrev pub due : Option ℕ → ℕ → Bool
due None now = false
due (Some at) now = leb at now

abbrev pub new_timers : (grace settlement : ℕ) → Timers
new_timers grace settlement = record { timeout = None; grace = grace; settlement = settlement }

abbrev pub with_timeout : Timers → ℕ → Timers
with_timeout t timeout = record { timeout = Some timeout; grace = t.grace; settlement = t.settlement }

-- when the timeout of an execution that begins at now passes
abbrev pub timeout_at : Option ℕ → ℕ → Option ℕ
timeout_at None now = None
timeout_at (Some duration) now = after now duration
