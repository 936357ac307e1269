-- A line that is a call, and refused, changes nothing.
use mathlib.Core.Bool.{true, ◌||◌}
use mathlib.Core.Path.{◌≡◌, refl, subst}
use Prim.Native.Nat.{ℕ}
use lib.Dec.{eqb}
use Rattle.calls.specs.Call as Call
use Rattle.calls.specs.Call.{Call}
use Rattle.account.specs.Step.{State, next, answer}
use Rattle.account.specs.Records.{among}
use Rattle.account.specs.Refused.{of_calls}
use Rattle.account.proofs.Refused.{refusals}
use Rattle.grammar.specs.Feed.{Running, Answered, bad}

-- ---- once a runner is open

abbrev pub Known : ℕ → Type 0
Known n = (among n of_calls || eqb n 30) ≡ true

-- what is to be shown of what a line makes of the stage, and of its answer
abbrev pub Safe : State → Answered → Type 0
Safe s x = (n : ℕ) → x.answer ≡ Call.Refused n → (x.stage ≡ Running s) × Known n

pub own : (s : State) → Safe s (bad (Running s))
own s n e = let k : 30 ≡ n = cc in (refl, subst Known k refl)

pub called : (s : State) (c : Call) → Safe s (record { stage = Running (next s c); answer = answer s c })
called s c n e = (rw (refusals.call_kept s c n e) refl, rw (refusals.call_number s c n e) refl)
