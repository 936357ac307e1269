-- What a call leaves and answers where it is not refused by 12, 10, 46 or 11, and lists of such calls. A call that names a stream that is
-- not open is refused by 2.
use mathlib.Core.Bool.{Bool, true, false, cond, ◌&&◌}
use mathlib.Core.Path.{◌≡◌, refl}
use mathlib.Core.List.{List, [], ◌∷◌}
use Prim.Native.Nat.{ℕ}
use lib.ListN.{length}
use Rattle.exec.specs.declared.Cause.TheVariants as Cause
use Rattle.exec.specs.declared.Stream.{Stream}
use Rattle.exec.specs.Key.{admits}
use Rattle.exec.specs.Limits.{output_pool, has, has_notes}
use Rattle.inbox.specs.Need.{byte_need}
use Rattle.lifecycle.specs.Life.{is_requested}
use Rattle.choice.specs.declared.Choice.{Choice}
use Rattle.runner.specs.declared.runner.Runner.{Runner}
use Rattle.runner.specs.Calls.{asked_for}
use Rattle.runner.specs.Life.{close_runner_input, cancel_answer, cancel_next, launched_next, exited_next, settled_next, detach_next, ticked, deadline_of, outcome_of}
use Rattle.runner.specs.Message.{choose, effect, payload, wish, wish_effect}
use Rattle.runner.specs.Range.{bytes_do, lengths_do, fresh}
use Rattle.runner.specs.State.{buffered}
use Rattle.runner.specs.Streams.{output_taken, output_next, output_store, read_allowance_of, discarded_next, closed_next, failed_next, hung_up_next, credit_answer, credit_next, input_answer, input_next, input_store, input_lengths, end_answer, end_next, pending_of, written_next, written_came, written_lengths}
use Rattle.calls.specs.Call as Call
use Rattle.calls.specs.Call.{Conf, Call, Answer, Done}
use Rattle.account.specs.Step.{State, received_as, asks, on_runner}

unfoldable pub said : Choice → Runner → List ℕ → Answer
said Choice.None r bytes = Call.Nothing
said Choice.Credit r bytes = Call.Says (Call.Credit r.input.window.returnable)
said Choice.Started r bytes = Call.Says Call.Started
said Choice.InputClosed r bytes = Call.Says Call.InputClosed
said (Choice.End x) r bytes = Call.Says (Call.End x)
said (Choice.Output x n) r bytes = Call.Says (Call.Output x (payload r x n bytes))
said Choice.Terminal r bytes = Call.Says (Call.Terminal (outcome_of r))

unfoldable pub next : State → Call → State
next s (Call.credit k p u) =
    on_runner (credit_next (admits s.runner.key k) (output_pool s.runner.limits.shared (has_notes s.runner.limits) p) s.runner u) s
next s (Call.input k b) = record {
  runner = input_next (admits s.runner.key k) s.runner (length b);
  bytes = input_store (admits s.runner.key k) s.runner b s.bytes;
  lengths = input_lengths (admits s.runner.key k) s.runner (length b) s.lengths;
}
next s (Call.end_input k) = on_runner (end_next (admits s.runner.key k) s.runner) s
next s (Call.cancel now k c) = on_runner (cancel_next (admits s.runner.key k) s.runner now c) s
next s (Call.launched x) = on_runner (launched_next s.runner x) s
next s (Call.output x b) = cond (has s.runner.limits x) (record {
  runner = output_next s.runner x (length b);
  bytes = output_store s.runner x b s.bytes;
  lengths = s.lengths;
}) s
next s (Call.discarded x n) = cond (has s.runner.limits x) (on_runner (discarded_next s.runner x n) s) s
next s (Call.output_closed x) = cond (has s.runner.limits x) (on_runner (closed_next s.runner x) s) s
next s (Call.output_failed x) = cond (has s.runner.limits x) (on_runner (failed_next s.runner x) s) s
next s (Call.output_hung_up x) = cond (has s.runner.limits x) (on_runner (hung_up_next s.runner x) s) s
next s (Call.input_written n) = record {
  runner = written_next s.runner n s.lengths;
  bytes = s.bytes;
  lengths = written_lengths s.runner n s.lengths;
}
next s Call.input_closed = on_runner (close_runner_input s.runner) s
next s (Call.exited now x) = on_runner (exited_next s.runner now x) s
next s (Call.settled x) = on_runner (settled_next s.runner x) s
next s (Call.dropped now) = on_runner (detach_next s.runner now Cause.Dropped) s
next s (Call.reset now) = on_runner (detach_next s.runner now Cause.Reset) s
next s (Call.disconnect now) = on_runner (detach_next s.runner now Cause.Disconnected) s
next s (Call.tick now) = on_runner (ticked s.runner now) s
next s Call.next_request = on_runner (wish_effect (wish s.runner) s.runner) s
next s (Call.next_message buffer) = on_runner (effect (choose s.runner (length buffer)) s.runner) s
next s _ = s

-- of a call that names a stream
abbrev pub if_open : State → Stream → Answer → Answer
if_open s x a = cond (has s.runner.limits x) a (Call.Refused 2)

unfoldable pub answer : State → Call → Answer
answer s (Call.credit k p u) =
    received_as (credit_answer (admits s.runner.key k) (output_pool s.runner.limits.shared (has_notes s.runner.limits) p) s.runner u)
answer s (Call.input k b) = received_as (input_answer (admits s.runner.key k) s.runner (length b))
answer s (Call.end_input k) = received_as (end_answer (admits s.runner.key k) s.runner)
answer s (Call.cancel now k c) = received_as (cancel_answer (admits s.runner.key k) s.runner now)
answer s (Call.launched x) = Call.Ok
answer s (Call.output x b) = if_open s x (Call.Taken (output_taken s.runner x (length b)))
answer s (Call.discarded x n) = if_open s x Call.Ok
answer s (Call.output_closed x) = if_open s x Call.Ok
answer s (Call.output_failed x) = if_open s x Call.Ok
answer s (Call.output_hung_up x) = if_open s x Call.Ok
answer s (Call.input_written n) = Call.Came (written_came s.runner n s.lengths)
answer s Call.input_closed = Call.Ok
answer s (Call.exited now x) = Call.Ok
answer s (Call.settled x) = Call.Ok
answer s (Call.dropped now) = Call.Ok
answer s (Call.reset now) = Call.Ok
answer s (Call.disconnect now) = Call.Ok
answer s (Call.tick now) = Call.Ok
answer s Call.next_request = asks (asked_for (wish s.runner))
answer s (Call.next_message buffer) = said (choose s.runner (length buffer)) s.runner s.bytes
answer s (Call.read_allowance x) = if_open s x (Call.Value (read_allowance_of s.runner x))
answer s Call.pending_input = Call.Pending (pending_of s.runner s.bytes)
answer s Call.deadline = Call.Time (deadline_of s.runner)
answer s Call.is_finished = Call.Truth s.runner.flags.finished
answer s Call.is_detached = Call.Truth s.runner.flags.detached
answer s Call.awaits_settlement = Call.Truth (is_requested s.runner.life.settling)
answer s Call.buffered = Call.Value (buffered s.runner)
answer s Call.high_water = Call.Value s.runner.high_water
answer s Call.memory_bound = Call.Value (byte_need s.runner.limits)
answer s Call.key = Call.IsKey s.runner.key
answer s Call.limits = Call.AreLimits s.runner.limits

-- what holds of both answers
pub of_open : (P : Answer → Type 0) (s : State) (x : Stream) (a : Answer) → P a → P (Call.Refused 2) → P (if_open s x a)
of_open P s x a h k = by (has s.runner.limits x)
  where
    by : (b : Bool) → P (cond b a (Call.Refused 2))
    by true = h
    by false = k

-- what holds of both ways that such a call may go
pub by_open : (P : State → Answer → Type 0) (s t : State) (x : Stream) (a : Answer) → (has s.runner.limits x ≡ true → P t a) → P s (Call.Refused 2)
    → P (cond (has s.runner.limits x) t s) (if_open s x a)
by_open P s t x a h k = by (has s.runner.limits x) h
  where
    by : (b : Bool) → (b ≡ true → P t a) → P (cond b t s) (cond b a (Call.Refused 2))
    by true h = h refl
    by false h = k

-- of the state alone
pub open_keeps : (P : State → Type 0) (s t : State) (x : Stream) → P t → P s → P (cond (has s.runner.limits x) t s)
open_keeps P s t x h k = by_open (λ (u : State) (a : Answer). P u) s t x Call.Ok (λ o. h) k

-- the stores that a call is lent do
unfoldable pub enough : State → Call → Bool
enough s (Call.input k b) = bytes_do s.runner.limits s.bytes && lengths_do s.runner.limits s.lengths
enough s (Call.output x b) = bytes_do s.runner.limits s.bytes
enough s (Call.input_written n) = lengths_do s.runner.limits s.lengths
enough s (Call.next_message buffer) = bytes_do s.runner.limits s.bytes
enough s Call.pending_input = bytes_do s.runner.limits s.bytes
enough s _ = true

-- ---- open, and a list of calls

abbrev pub begun : Conf → ℕ → (bytes lengths : List ℕ) → State
begun c now bytes lengths = record { runner = fresh c.key c.limits c.timers c.smallest now; bytes = bytes; lengths = lengths }

abbrev pub after_all : State → List Call → State
after_all s [] = s
after_all s (c ∷ cs) = after_all (next s c) cs

abbrev pub run : State → List Call → List Done
run s [] = []
run s (c ∷ cs) = record { call = c; answer = answer s c } ∷ run (next s c) cs
