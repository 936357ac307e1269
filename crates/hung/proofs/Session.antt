-- A program that hangs, computed from the definitions: so the claim is not of lists that cannot be; and a list for each of its conditions, but that there
-- is a timeout and that open is answered ok, on which Terminal does not come without it.
use Rattle.std.specs.Prelude.{Some, None, Ok}
use Rattle.std.proofs.lemmas.Option.{same_Some}
use Rattle.exec.specs.declared.Cause.{Cause}
use mathlib.Core.Bool.{true, false}
use mathlib.Core.Path.{◌≡◌, refl, subst}
use mathlib.Core.List.{List, [], ◌∷◌, ◌++◌, map}
use Prim.Native.Nat.{ℕ, ◌≤◌}
use native.Mathlib.Omega.{arith}
use Rattle.exec.specs.declared.Outcome.{Outcome}
use Rattle.exec.specs.declared.Stream.TheVariants.{Stdout, Stderr}
use Rattle.exec.specs.Limits.{bytes_with, bytes_window, limits_for, has_notes}
use Rattle.choice.specs.Order.{if_else, order}
use Rattle.output.specs.Output.{output_fits}
use Rattle.runner.specs.Calls as Calls
use Rattle.runner.specs.Life as Life
use Rattle.runner.specs.Message as Message
use Rattle.runner.specs.Range as Range
use Rattle.runner.specs.Streams as Streams
use Rattle.calls.specs.Call as Call
use Rattle.calls.specs.Call.{Conf, Answer}
use Rattle.account.specs.Step as Step
use Rattle.account.specs.Step.{State}
use Rattle.account.specs.Records.{Entry, EntryDone, call, next_entry, answer_entry, run_entries, made, calls_of, any_terminal_in}
use Rattle.hung.specs.HungClaim.{Unended}
use Rattle.hung.proofs.Hung.{hung}

-- chunks of one byte, windows of one byte, and a timeout at 10
abbrev with_grace : ℕ → Conf
with_grace grace = record {
  key = record { id = 7; generation = 2 };
  limits = limits_for 1 (bytes_window 1) (bytes_window 1) false;
  timers = record { timeout = Some 10; grace = grace; settlement = 3 };
  smallest = 1;
}

-- grace ends at 15, and give-up comes at 18
abbrev conf : Conf
conf = with_grace 5

-- opened at 0, with the three bytes that such limits need
abbrev begins : Conf → State
begins conf = Step.opened conf 0 (0 ∷ 0 ∷ 0 ∷ []) []

abbrev answers_of : List EntryDone → List Answer
answers_of ds = map (λ (d : EntryDone). d.answer) ds

-- launched, and just before its timeout nothing is asked for
abbrev running : List Entry
running = call (Call.launched (Ok tt)) ∷ call (Call.tick 9) ∷ call Call.next_request ∷ call Call.deadline ∷ []

-- what the host is asked when its timeout has come; it does nothing
abbrev asked : List Entry
asked = call Call.next_request ∷ []

abbrev four : List Entry
four = call (Call.next_message (0 ∷ [])) ∷ call (Call.next_message (0 ∷ [])) ∷ call (Call.next_message (0 ∷ [])) ∷ call (Call.next_message (0 ∷ [])) ∷ []

abbrev five : List Entry
five = call (Call.next_message (0 ∷ [])) ∷ four

-- a list of the claim's, with its two ticks
abbrev list_of : (before : List Entry) (t n : ℕ) (messages : List Entry) → List Entry
list_of before t n messages = before ++ (call (Call.tick t) ∷ (asked ++ (call (Call.tick n) ∷ messages)))

-- both streams truncated, and nothing to be used again
abbrev timed_out : Outcome
timed_out = record {
  status = None;
  cause = Some Cause.TimedOut;
  launch_failure = None;
  stdout_truncated = true;
  stderr_truncated = true;
  notes_truncated = false;
  reusable = false;
}

pub record Computed : Type 0 where
  -- no request before 10 and the termination at it; after the tick at 18 the fifth message is Terminal
  pub answers : answers_of (run_entries (begins conf) (list_of running 10 18 five))
      ≡ Call.Ok ∷ Call.Ok ∷ Call.Nothing ∷ Call.Time (Some 10)
      ∷ Call.Ok ∷ Call.Asks (Call.Terminate Cause.TimedOut)
      ∷ Call.Ok ∷ Call.Says Call.Started ∷ Call.Says Call.InputClosed ∷ Call.Says (Call.End Stdout) ∷ Call.Says (Call.End Stderr) ∷ Call.Says (Call.Terminal timed_out) ∷ []
  -- four messages do not do, nor does a last tick before 18, nor a first one before 10
  pub not_four : any_terminal_in (run_entries (begins conf) (list_of running 10 18 four)) ≡ false
  pub not_earlier : any_terminal_in (run_entries (begins conf) (list_of running 10 17 five)) ≡ false
  pub not_before : any_terminal_in (run_entries (begins conf) (list_of running 9 17 five)) ≡ false
  -- nor where an exit was reported: it clears the timeout, and a stream that hung up is waited for
  pub not_exited : any_terminal_in (run_entries (begins conf) (list_of (call (Call.output_hung_up Stdout) ∷ call (Call.exited 0 None) ∷ running) 10 18 five)) ≡ false
  -- nor where a time was above that of the tick: the timeout's termination was at 12
  pub not_above : any_terminal_in (run_entries (begins conf) (list_of (call (Call.tick 12) ∷ running) 10 18 five)) ≡ false
  -- nor where the sum is past the last instant: no end of grace is set
  pub not_beyond : any_terminal_in (run_entries (begins (with_grace 18446744073709551615)) (list_of running 10 18446744073709551628 five)) ≡ false

pub computed : Computed
unfolding Step.next Step.answer next_entry answer_entry Calls.«open» Calls.tick Calls.deadline Calls.next_request Calls.next_message Calls.launched Calls.exited Calls.output_hung_up Range.fresh Range.stop Range.stop_at Range.in_range output_fits bytes_with if_else order Life.close_runner_input Life.end_grace Life.give_up Life.abandon_launch Life.abandon_open_streams Life.begin_termination Life.terminate Life.pass_grace Life.pass_timeout Life.pass_settlement Life.give_up_unless_clean Life.pass_give_up Life.drop_launch Life.drop_streams Life.pass_abandonment Life.fire Life.ticked Life.deadline_of Life.note_started Life.note_launch Life.launched_next Life.note_exit Life.note_exit_once Life.exited_next Life.is_ready Life.outcome_of Streams.hung_up_next Message.sendable_of Message.choose Message.output_paid Message.output_sent Message.effect Message.payload Message.buffer_after Message.said_for Message.wish_for Message.wish Message.wish_effect has_notes
computed = record {
  answers = refl;
  not_four = refl;
  not_earlier = refl;
  not_before = refl;
  not_exited = refl;
  not_above = refl;
  not_beyond = refl;
}

-- ---- the first of these lists meets every condition

unended : Unended 10 (calls_of conf (run_entries (begins conf) running))
unfolding made
unended = (
  (λ now x e. cc, λ now e. cc),
  ((λ now x e. cc, λ now e. subst (λ (m : ℕ). m ≤ 10) (same_Some 9 now e) (omega arith)), ((λ now x e. cc, λ now e. cc), ((λ now x e. cc, λ now e. cc), tt))),
)

-- so Terminal comes in it by the claim alone, too
pub ends : any_terminal_in (run_entries (begins conf) (list_of running 10 18 five)) ≡ true
unfolding made Calls.«open» bytes_with has_notes
ends = hung conf 0 (0 ∷ 0 ∷ 0 ∷ []) [] refl running asked five 10 10 18 refl (omega arith) unended (omega arith) (omega arith) (omega arith)
