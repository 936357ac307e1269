-- What is met before a call: a state out of range (12), no limits (10), a smallest grant of none or too many (46), a lent store that is
-- short (11); and open.
use Rattle.std.specs.Prelude.{ℕ, Bool, false, cond, not, ◌&&◌, List, [], ◌∷◌, leb, length, Result, None, Ok, Err}
use Rattle.exec.specs.declared.Refusal.{Refusal}
use Rattle.exec.specs.declared.Key.{Key}
use Rattle.exec.specs.declared.Limits.{Limits}
use Rattle.exec.specs.declared.Refusal.TheVariants.{Pool, NoLimits, StoreShort, StateOutOfRange, SmallestGrant}
use Rattle.exec.specs.declared.Timers.{Timers}
use Rattle.exec.specs.declared.Stream.{Stream}
use Rattle.exec.specs.Limits.{is_valid, has, has_notes}
use Rattle.exec.specs.Time.{timeout_at}
use Rattle.inbox.specs.Need.{byte_need, need_fits, length_need}
use Rattle.inbox.specs.Range.{inbox_fits}
use Rattle.inbox.specs.Receiver.{grant_fits}
use Rattle.credit.specs.Sender.{new_credit}
use Rattle.lifecycle.specs.declared.life.Exit.TheVariants as Exit
use Rattle.lifecycle.specs.declared.life.Launch.TheVariants as Launch
use Rattle.lifecycle.specs.declared.life.Settling.TheVariants as Settling
use Rattle.input.specs.Input.{new_input}
use Rattle.output.specs.Output.{new_output}
use Rattle.output.specs.Outputs.{outputs_fit}
use Rattle.runner.specs.declared.runner.Runner.{Runner}
use Rattle.runner.specs.State.{flags_of, outputs_of, credits_fit}

-- the position of the last stream that is open
abbrev pub last_turn : Limits → ℕ
last_turn l = cond (has_notes l) 2 1

-- queues, starts, credit, units and turn are in their ranges
unfoldable pub in_range : Runner → Bool
in_range r =
    ((outputs_fit r.limits.chunk (outputs_of r) && credits_fit r.limits r.credits)
    && inbox_fits r.limits r.input.window r.input.inbox)
    && leb r.turn (last_turn r.limits)

-- a lent store is not below its need
abbrev pub bytes_do : Limits → List ℕ → Bool
bytes_do l bytes = leb (byte_need l) (length bytes)

abbrev pub lengths_do : Limits → List ℕ → Bool
lengths_do l lengths = leb (length_need l) (length lengths)

-- what open meets: no limits (10), then a smallest grant of 0 or above the input's size (46), then, unless the lent stores do and the
-- need is one that a store can have, a short store (11); Ok where it is none of them
abbrev pub open_stop : Limits → (smallest : ℕ) → (stores : Bool) → Result (Unit {0}) Refusal
open_stop l smallest stores =
    cond (not (is_valid l)) (Err NoLimits)
    (cond (not (grant_fits smallest l.input.size)) (Err SmallestGrant)
    (cond (not (need_fits l && stores)) (Err StoreShort) (Ok tt)))

-- what any other call meets: a state out of range (12), and then the same
unfoldable pub stop : Runner → (stores : Bool) → Result (Unit {0}) Refusal
stop r stores = cond (not (in_range r)) (Err StateOutOfRange) (open_stop r.limits r.input.window.smallest stores)

-- a call that names a stream meets the same, and then a stream that is not open (2)
abbrev pub unless_closed : (is_open : Bool) → Result (Unit {0}) Refusal → Result (Unit {0}) Refusal
unless_closed is_open (Ok tt) = cond is_open (Ok tt) (Err Pool)
unless_closed is_open (Err x) = Err x

unfoldable pub stop_at : Runner → Stream → (stores : Bool) → Result (Unit {0}) Refusal
stop_at r x stores = unless_closed (has r.limits x) (stop r stores)

-- ---- open

-- a fresh runner
unfoldable pub fresh : Key → Limits → Timers → (smallest now : ℕ) → Runner
fresh k l t smallest now = record {
  key = k;
  limits = l;
  timers = t;
  clocks = record {
    timeout_at = timeout_at t.timeout now;
    grace_until = None;
    give_up_at = None;
    abandon_at = None;
    terminated = false;
  };
  life = record {
    launch = Launch.Awaited;
    exit = Exit.Running;
    cause = None;
    terminate_request = None;
    settling = Settling.Idle;
  };
  flags = flags_of false false false false false false false;
  input = new_input l.input.size smallest;
  outputs = new_output ∷ new_output ∷ new_output ∷ [];
  credits = new_credit l.output.size ∷ new_credit l.output.size ∷ new_credit l.output.size ∷ [];
  turn = 0;
  high_water = 0;
}
