-- The deadlines: what a termination and a detachment set, which comes first, and that those not reached wait on.
use Rattle.std.specs.Prelude.{ℕ, ◌≡◌, refl, Bool, true, false, cond, ◌||◌, Option, None}
use Rattle.exec.specs.Time.{after, then, earliest, due}
use Rattle.lifecycle.specs.declared.clocks.Clocks.{Clocks}
use Rattle.lifecycle.specs.Setters.{set_grace_until, set_give_up_at}

-- a termination: no timeout any more, the end of grace, and the time to give up after that
abbrev pub terminate_clocks : Clocks → (now grace settlement : ℕ) → Clocks
terminate_clocks c now grace settlement = record {
  timeout_at = None;
  grace_until = after now grace;
  give_up_at = then (after now grace) settlement;
  abandon_at = c.abandon_at;
  terminated = true;
}

-- neither the end of grace nor the time to give up is waited for
abbrev pub stop_waiting : Clocks → Clocks
stop_waiting c = set_grace_until None (set_give_up_at None c)

-- the runner gives up a settlement time after now at the latest
abbrev pub give_up_by : Clocks → (now settlement : ℕ) → Clocks
give_up_by c now settlement = set_give_up_at (earliest c.give_up_at (after now settlement)) c

-- one of the four is reached
abbrev pub clocks_due : Clocks → ℕ → Bool
clocks_due c now =
    ((due c.timeout_at now || due c.grace_until now) || due c.give_up_at now) || due c.abandon_at now

-- the first to fire, with the settlement's, and those of give-up and abandonment where they would still do anything
abbrev pub first_of : Clocks → Option ℕ → (give_up abandon : Bool) → Option ℕ
first_of c settlement give_up abandon =
    earliest (earliest (earliest (earliest c.timeout_at c.grace_until) settlement)
    (cond give_up c.give_up_at None)) (cond abandon c.abandon_at None)

-- neither of two, where their disjunction fails
left : (a b : Bool) → a || b ≡ false → a ≡ false
left true b h = h
left false b h = refl

right : (a b : Bool) → a || b ≡ false → b ≡ false
right true true h = h
right true false h = refl
right false b h = h

-- with none reached, each waits on
pub timeout_waits : (c : Clocks) (now : ℕ) → clocks_due c now ≡ false → due c.timeout_at now ≡ false
timeout_waits c now h = left _ _ (left _ _ (left _ _ h))

pub grace_waits : (c : Clocks) (now : ℕ) → clocks_due c now ≡ false → due c.grace_until now ≡ false
grace_waits c now h = right (due c.timeout_at now) _ (left _ _ (left _ _ h))

pub give_up_waits : (c : Clocks) (now : ℕ) → clocks_due c now ≡ false → due c.give_up_at now ≡ false
give_up_waits c now h = right (due c.timeout_at now || due c.grace_until now) _ (left _ _ h)

pub abandon_waits : (c : Clocks) (now : ℕ) → clocks_due c now ≡ false → due c.abandon_at now ≡ false
abandon_waits c now h =
    right ((due c.timeout_at now || due c.grace_until now) || due c.give_up_at now) _ h
