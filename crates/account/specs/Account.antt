-- The account of each stream, from arguments and answers alone. What is due, open, hung up or settled is replayed from the
-- arguments of open and of the calls, by 01's Time; nothing here reads a runner, and this file knows none.
use Rattle.std.specs.Prelude.{Bool, true, false, cond, not, ◌&&◌, ◌||◌, List, [], ◌∷◌, ◌++◌, ℕ, ltb, length, take, Option, Result, None, Err}
use Rattle.exec.specs.declared.Admission.{Admission}
use Rattle.exec.specs.declared.Key.{Key}
use Rattle.exec.specs.declared.Limits.{Limits}
use Rattle.exec.specs.declared.Refusal.{Refusal}
use Rattle.exec.specs.declared.Settlement.{Settlement}
use Rattle.exec.specs.declared.Stream.{Stream}
use Rattle.exec.specs.declared.Timers.{Timers}
use Rattle.exec.specs.Each.{Each, one, on_one, per, alike, both, every}
use Rattle.exec.specs.Key.{admits}
use Rattle.exec.specs.Limits.{has}
use Rattle.exec.specs.Time.{after, then, earliest, due, timeout_at}
use Rattle.calls.specs.Call.{Conf, Done, Call, key, limits, credit, input, end_input, cancel, launched, read_allowance, output, discarded, output_closed, output_failed, output_hung_up, pending_input, input_written, input_closed, exited, settled, dropped, reset, disconnect, tick, deadline, next_request, next_message, is_finished, is_detached, awaits_settlement, memory_bound, buffered, high_water, Answer, Ok, Applied, Stale, Late, Refused, Taken, Came, Pending, Value, Time, Truth, Asks, Says, IsKey, AreLimits, Nothing, is_refused, count, Message, Credit, Started, Output, End, InputClosed, Terminal}

-- Where the settlement stands, by what was reported and what time has passed.
pub data Settling : Type 0 where
  Idle : Settling
  Requested : Option ℕ → Settling
  Settled : Settling
  Fenced : Settling

-- What is replayed: the key, the limits and the timers that open was given, the times, and what was reported.
pub record Replay : Type 0 where
  pub key : Key
  pub limits : Limits
  pub timers : Timers
  pub timeout : Option ℕ
  pub begun : Bool  -- the first of a due timeout, an Applied cancel or a detachment has come
  pub give_up : Option ℕ
  pub abandon : Option ℕ
  pub launch : Bool  -- the launch is reported
  pub gave_up : Bool
  pub left : Bool  -- abandonment ended the wait for a launch
  pub exit : Bool  -- the exit is reported, or set missing by give-up
  pub settling : Settling
  pub detached : Bool
  pub closed : Each Bool
  pub hung : Each Bool

pub record Tally : Type 0 where
  pub taken : List ℕ
  pub sent : List ℕ
  pub mark : Bool

pub record Account : Type 0 where
  pub rep : Replay
  pub tallies : Each Tally

abbrev pub mk : Replay → Each Tally → Account
mk r ts = record { rep = r; tallies = ts }

abbrev pub marked : Bool → Tally → Tally
marked b t = record { taken = t.taken; sent = t.sent; mark = b || t.mark }

-- marked, unless the stream's end was there already
abbrev pub marked_unless : (over : Bool) → Tally → Tally
marked_unless over t = marked (not over) t

abbrev pub on_tally : Stream → (Tally → Tally) → Account → Account
on_tally x f a = mk a.rep (on_one x f a.tallies)

-- ---- the replay with some of its fields set

-- the four times
abbrev pub with_times : (timeout : Option ℕ) (begun : Bool) (give_up abandon : Option ℕ) → Replay → Replay
with_times timeout begun give_up abandon r = record {
  key = r.key;
  limits = r.limits;
  timers = r.timers;
  timeout = timeout;
  begun = begun;
  give_up = give_up;
  abandon = abandon;
  launch = r.launch;
  gave_up = r.gave_up;
  left = r.left;
  exit = r.exit;
  settling = r.settling;
  detached = r.detached;
  closed = r.closed;
  hung = r.hung;
}

-- what is known of the workload
abbrev pub with_work : (launch gave_up left exit : Bool) → Settling → (detached : Bool) → Replay → Replay
with_work launch gave_up left exit settling detached r = record {
  key = r.key;
  limits = r.limits;
  timers = r.timers;
  timeout = r.timeout;
  begun = r.begun;
  give_up = r.give_up;
  abandon = r.abandon;
  launch = launch;
  gave_up = gave_up;
  left = left;
  exit = exit;
  settling = settling;
  detached = detached;
  closed = r.closed;
  hung = r.hung;
}

-- the streams
abbrev pub with_streams : (closed hung : Each Bool) → Replay → Replay
with_streams closed hung r = record {
  key = r.key;
  limits = r.limits;
  timers = r.timers;
  timeout = r.timeout;
  begun = r.begun;
  give_up = r.give_up;
  abandon = r.abandon;
  launch = r.launch;
  gave_up = r.gave_up;
  left = r.left;
  exit = r.exit;
  settling = r.settling;
  detached = r.detached;
  closed = closed;
  hung = hung;
}

abbrev pub settling_r : Settling → Replay → Replay
settling_r x r = with_work r.launch r.gave_up r.left r.exit x r.detached r

abbrev pub give_up_r : Option ℕ → Replay → Replay
give_up_r d r = with_times r.timeout r.begun d r.abandon r

-- ---- Time

-- the first of the three events clears the timeout, and sets give-up a settlement after the end of grace
unfoldable pub begin_if : (begun : Bool) → ℕ → Replay → Replay
begin_if true now r = r
begin_if false now r =
    with_times None true (then (after now r.timers.grace) r.timers.settlement) r.abandon r

abbrev pub begin : ℕ → Replay → Replay
begin now r = begin_if r.begun now r

abbrev pub no_timeout_r : Replay → Replay
no_timeout_r r = with_times None r.begun r.give_up r.abandon r

unfoldable pub timeout_r : (due : Bool) → ℕ → Replay → Replay
timeout_r false now r = r
timeout_r true now r = begin now (no_timeout_r r)

-- a settlement that is not reported in time is fenced
abbrev pub overdue_r : ℕ → Settling → Settling
overdue_r now Idle = Idle
overdue_r now (Requested d) = cond (due d now) Fenced (Requested d)
overdue_r now Settled = Settled
overdue_r now Fenced = Fenced

abbrev pub is_settled_r : Settling → Bool
is_settled_r Idle = false
is_settled_r (Requested d) = false
is_settled_r Settled = true
is_settled_r Fenced = false

abbrev pub is_fenced_r : Settling → Bool
is_fenced_r Idle = false
is_fenced_r (Requested d) = false
is_fenced_r Settled = false
is_fenced_r Fenced = true

-- launch and exit are reported, each stream is closed and settling is Settled
abbrev pub cleaned_r : Replay → Bool
cleaned_r r = r.launch && r.exit && every r.closed && is_settled_r r.settling

-- give-up does nothing if all is cleaned up; otherwise it closes and marks each stream still open, and fences settling
unfoldable pub give_up_a : (due clean : Bool) → Account → Account
give_up_a false clean a = a
give_up_a true true a = mk (give_up_r None a.rep) a.tallies
give_up_a true false a =
    mk
    (with_times a.rep.timeout a.rep.begun None a.rep.abandon
    (with_work a.rep.launch true a.rep.left true Fenced a.rep.detached
    (with_streams (alike true) a.rep.hung a.rep)))
    (both marked_unless a.rep.closed a.tallies)

-- the launch is still waited for
abbrev pub waits_r : Replay → Bool
waits_r r = not r.launch && not r.gave_up && not r.left

-- abandonment ends the wait for a launch, fencing settling
abbrev pub left_settling_r : (waits : Bool) → Settling → Settling
left_settling_r true x = Fenced
left_settling_r false x = x

abbrev pub leave_r : Replay → Replay
leave_r r =
    with_work r.launch r.gave_up (waits_r r || r.left) r.exit (left_settling_r (waits_r r) r.settling) r.detached r

-- and once settling is fenced closes and marks each stream neither closed nor hung up
unfoldable pub abandon_streams_a : (fenced : Bool) → Account → Account
abandon_streams_a false a = a
abandon_streams_a true a =
    mk
    (with_times a.rep.timeout a.rep.begun a.rep.give_up None
    (with_streams (both (λ (c h : Bool). c || not h) a.rep.closed a.rep.hung) a.rep.hung a.rep))
    (both marked_unless (both ◌||◌ a.rep.closed a.rep.hung) a.tallies)

unfoldable pub abandon_a : (due : Bool) → Account → Account
abandon_a false a = a
abandon_a true a = abandon_streams_a (is_fenced_r (leave_r a.rep).settling) (mk (leave_r a.rep) a.tallies)

-- tick: timeout, settlement, give-up, abandonment (the end of grace closes no stream)
abbrev pub tick1 : ℕ → Account → Account
tick1 now a = mk (timeout_r (due a.rep.timeout now) now a.rep) a.tallies

abbrev pub tick3 : ℕ → Account → Account
tick3 now a = mk (settling_r (overdue_r now a.rep.settling) a.rep) a.tallies

abbrev pub tick4 : ℕ → Account → Account
tick4 now a = give_up_a (due a.rep.give_up now) (cleaned_r a.rep) a

abbrev pub tick5 : ℕ → Account → Account
tick5 now a = abandon_a (due a.rep.abandon now) a

unfoldable pub tick_a : ℕ → Account → Account
tick_a now a = tick5 now (tick4 now (tick3 now (tick1 now a)))

-- a cancel ticks, and begins a termination unless one began: only under the execution's own key
unfoldable pub cancel_a : Result Admission Refusal → ℕ → Account → Account
cancel_a (Result.Ok Admission.Own) now a = let b = tick_a now a in mk (begin now b.rep) b.tallies
cancel_a (Result.Ok Admission.Stale) now a = a
cancel_a (Err x) now a = a

-- a detachment ticks, begins a termination, and sets give-up to now + settlement if that is earlier or none is set
abbrev pub detached_r : ℕ → Replay → Replay
detached_r now b =
    with_times b.timeout b.begun (earliest b.give_up (after now b.timers.settlement)) b.abandon
    (with_work b.launch b.gave_up b.left b.exit b.settling true b)

unfoldable pub detach_r : (detached : Bool) → ℕ → Replay → Replay
detach_r true now r = r
detach_r false now r = detached_r now (begin now r)

unfoldable pub detach_a : ℕ → Account → Account
detach_a now a = let b = tick_a now a in mk (detach_r b.rep.detached now b.rep) b.tallies

-- an exit clears the timeout, ticks, and sets the settlement time and abandonment a grace after it
unfoldable pub exit_r : (known : Bool) → ℕ → Replay → Replay
exit_r true now r = r
exit_r false now r =
    with_times r.timeout r.begun r.give_up (then (after now r.timers.settlement) r.timers.grace)
    (with_work r.launch r.gave_up r.left true (Requested (after now r.timers.settlement)) r.detached r)

unfoldable pub exit_a : ℕ → Account → Account
exit_a now a =
    let b = tick_a now (mk (no_timeout_r a.rep) a.tallies) in
    mk (exit_r (b.rep.exit || b.rep.gave_up) now b.rep) b.tallies

-- a settlement that is awaited, as it is reported
abbrev pub reported_r : Settling → Settlement → Settling
reported_r Idle ok = Idle
reported_r (Requested d) Settlement.Settled = Settled
reported_r (Requested d) Settlement.Failed = Fenced
reported_r Settled ok = Settled
reported_r Fenced ok = Fenced

-- a launch that is waited for
abbrev pub launch_r : Replay → Replay
launch_r r = with_work (waits_r r || r.launch) r.gave_up r.left r.exit r.settling r.detached r

abbrev pub close_r : Stream → Replay → Replay
close_r x r = with_streams (on_one x (λ (c : Bool). true) r.closed) r.hung r

abbrev pub hang_r : Stream → Replay → Replay
hang_r x r = with_streams r.closed (on_one x (λ (h : Bool). true) r.hung) r

-- ---- what a call and its answer add

abbrev pub taken_by : List ℕ → Tally → Tally
taken_by b t = record { taken = t.taken ++ b; sent = t.sent; mark = t.mark }

abbrev pub sent_by : List ℕ → Tally → Tally
sent_by b t = record { taken = t.taken; sent = t.sent ++ b; mark = t.mark }

abbrev pub heard : Message → Account → Account
heard (Credit n) a = a
heard Started a = a
heard (Output x b) a = on_tally x (sent_by b) a
heard (End x) a = a
heard InputClosed a = a
heard (Terminal o) a = a

abbrev pub hear : Answer → Account → Account
hear Ok a = a
hear Applied a = a
hear Stale a = a
hear Late a = a
hear (Refused n) a = a
hear (Taken n) a = a
hear (Came n) a = a
hear (Pending b) a = a
hear (Value n) a = a
hear (Time d) a = a
hear (Truth b) a = a
hear (Asks r) a = a
hear (Says m) a = heard m a
hear (IsKey k) a = a
hear (AreLimits l) a = a
hear Nothing a = a

-- what a call adds that is not refused
unfoldable pub adds : Account → Call → Answer → Account
adds a (credit k p u) r = a
adds a (input k b) r = a
adds a (end_input k) r = a
adds a (cancel now k c) r = cancel_a (admits a.rep.key k) now a
adds a (launched x) r = mk (launch_r a.rep) a.tallies
adds a (output x b) r = on_tally x (taken_by (take (count r) b)) a
adds a (discarded x n) r = on_tally x (marked (ltb 0 n)) a
adds a (output_closed x) r = mk (close_r x a.rep) a.tallies
adds a (output_failed x) r = on_tally x (marked true) (mk (close_r x a.rep) a.tallies)
adds a (output_hung_up x) r = mk (hang_r x a.rep) a.tallies
adds a (input_written n) r = a
adds a input_closed r = a
adds a (exited now x) r = exit_a now a
adds a (settled ok) r = mk (settling_r (reported_r a.rep.settling ok) a.rep) a.tallies
adds a (dropped now) r = detach_a now a
adds a (reset now) r = detach_a now a
adds a (disconnect now) r = detach_a now a
adds a (tick now) r = tick_a now a
adds a next_request r = a
adds a (next_message n) r = hear r a
adds a (read_allowance x) r = a
adds a pending_input r = a
adds a deadline r = a
adds a is_finished r = a
adds a is_detached r = a
adds a awaits_settlement r = a
adds a buffered r = a
adds a high_water r = a
adds a memory_bound r = a
adds a key r = a
adds a limits r = a

-- a refused call adds nothing
unfoldable pub add : Account → Call → Answer → Account
add a c r = cond (is_refused r) a (adds a c r)

abbrev pub none : Tally
none = record { taken = []; sent = []; mark = false }

-- a runner just opened: the timeout runs from open, and a stream that is not open counts as closed
unfoldable pub start : Conf → ℕ → Account
start c now = mk (record {
  key = c.key;
  limits = c.limits;
  timers = c.timers;
  timeout = timeout_at c.timers.timeout now;
  begun = false;
  give_up = None;
  abandon = None;
  launch = false;
  gave_up = false;
  left = false;
  exit = false;
  settling = Idle;
  detached = false;
  closed = per (λ (x : Stream). not (has c.limits x));
  hung = alike false;
}) (alike none)

abbrev pub account : Account → List Done → Account
account a [] = a
account a (d ∷ ds) = account (add a d.call d.answer) ds

abbrev pub tally_of : Stream → Account → Tally
tally_of x a = one x a.tallies

-- truncated, by the account
unfoldable pub cut : Tally → Bool
cut t = ltb (length t.sent) (length t.taken) || t.mark
