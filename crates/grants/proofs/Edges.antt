-- 46 at its numbers, computed from the definitions: "a g of 0 or above the input size with 46, after 10", in open and in every other
-- call, and before 11.
use Rattle.std.specs.Prelude.{◌≡◌, refl, false, true, List, [], ◌∷◌, ℕ, ◌^◌, ◌-◌, Result, None, Ok, Err}
use Rattle.exec.specs.declared.Key.{Key}
use Rattle.exec.specs.declared.Limits.{Limits}
use Rattle.exec.specs.declared.Refusal.{Refusal}
use Rattle.exec.specs.declared.Timers.{Timers}
use Rattle.exec.specs.Limits.{bytes_window, frames_window, bytes_with, limits_for, no_limits, has_notes}
use Rattle.exec.specs.Refusal.{number}
use Rattle.output.specs.Output.{output_fits}
use Rattle.runner.specs.declared.runner.Runner.{Runner}
use Rattle.runner.specs.Calls as Calls
use Rattle.runner.specs.Range as Range
use Rattle.runner.specs.State.{with_flow}
use Rattle.inbox.specs.Receiver.{grant_fits}

abbrev own : Key
own = record { id = 7; generation = 2 }

abbrev timers : Timers
timers = record { timeout = None; grace = 10; settlement = 5 }

-- windows of 8 bytes, and an input of 2 frames; a chunk of 4, or of another size
abbrev in_bytes : Limits
in_bytes = limits_for 4 (bytes_window 8) (bytes_window 8) false

abbrev in_frames : Limits
in_frames = limits_for 4 (frames_window 2) (bytes_window 8) false

abbrev chunked : ℕ → Limits
chunked n = limits_for n (bytes_window 8) (bytes_window 8) false

abbrev store : List ℕ
store = 0 ∷ 0 ∷ 0 ∷ 0 ∷ 0 ∷ 0 ∷ 0 ∷ 0 ∷ 0 ∷ 0 ∷ 0 ∷ 0 ∷ 0 ∷ 0 ∷ 0 ∷ 0 ∷ []

-- with the smallest grant g, and stores for a chunk of 4
opens : Limits → (g : ℕ) → Result (Unit {0}) Refusal
unfolding Calls.«open» bytes_with has_notes
opens l g = (Calls.«open» own l timers g 0 store (0 ∷ 0 ∷ [])).answer

-- "a g of 0 or above the input size", in the window's own unit
sizes : (opens in_bytes 0 ≡ Err Refusal.SmallestGrant) × (opens in_bytes 1 ≡ Ok tt) × (opens in_bytes 8 ≡ Ok tt) × (opens in_bytes 9 ≡ Err Refusal.SmallestGrant)
    × (opens in_bytes (2 ^ 32 - 1) ≡ Err Refusal.SmallestGrant)
    × (opens in_frames 0 ≡ Err Refusal.SmallestGrant) × (opens in_frames 2 ≡ Ok tt) × (opens in_frames 3 ≡ Err Refusal.SmallestGrant)
    × (number Refusal.SmallestGrant ≡ 46)
unfolding opens
sizes = (refl, refl, refl, refl, refl, refl, refl, refl, refl)

wide : (grant_fits (2 ^ 32 - 1) (2 ^ 32 - 1) ≡ true) × (grant_fits 65536 65536 ≡ true) × (grant_fits 65535 65536 ≡ true) × (grant_fits 65537 65536 ≡ false)
wide = (refl, refl, refl, refl)

-- "after 10", and before 11
order : (opens (chunked 0) 0 ≡ Err Refusal.NoLimits) × (opens (chunked 0) 9 ≡ Err Refusal.NoLimits)
    × (opens (chunked 5) 0 ≡ Err Refusal.SmallestGrant) × (opens (chunked 5) 9 ≡ Err Refusal.SmallestGrant) × (opens (chunked 5) 8 ≡ Err Refusal.StoreShort)
unfolding opens
order = (refl, refl, refl, refl, refl)

-- a refused open hands back what it was given but the limits
handed_back : (Calls.«open» own in_bytes timers 9 0 store []).runner ≡ Range.fresh own no_limits timers 9 0
unfolding Calls.«open»
handed_back = refl

-- ---- every other call: of a runner whose smallest grant is g, though open gave none such

foreign : (g : ℕ) → Runner
unfolding Range.fresh has_notes
foreign g = Range.fresh own in_bytes timers g 0

-- the stop of a call that is lent stores that do, or not; of a turn that is none
beyond : (g turn : ℕ) → Runner
unfolding foreign
beyond g turn = with_flow (foreign g).credits turn (foreign g).flags 0 (foreign g)

calls : (Calls.tick (foreign 0) 5 ≡ record { runner = foreign 0; answer = Err Refusal.SmallestGrant })
    × (Calls.tick (foreign 9) 5 ≡ record { runner = foreign 9; answer = Err Refusal.SmallestGrant })
    × ((Calls.tick (foreign 8) 5).answer ≡ Ok tt)
    × (Calls.is_finished (foreign 0) ≡ Err Refusal.SmallestGrant)
    × (Calls.pending_input (foreign 0) [] ≡ Err Refusal.SmallestGrant)
    × (Calls.pending_input (foreign 1) [] ≡ Err Refusal.StoreShort)
    × (Calls.is_finished (beyond 0 2) ≡ Err Refusal.StateOutOfRange)
    × (Calls.is_finished (beyond 0 1) ≡ Err Refusal.SmallestGrant)
unfolding beyond Calls.tick Calls.is_finished Calls.pending_input Range.stop Range.in_range output_fits bytes_with has_notes
calls = (refl, refl, refl, refl, refl, refl, refl, refl)
