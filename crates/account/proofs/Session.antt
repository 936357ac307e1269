-- The session of 01's card, computed from the definitions: the answers of its 13 calls after open. The stores are any of which
-- the bytes are at least the 16 that the limits need.
use Rattle.std.specs.Prelude.{Some, None, Ok}
use Rattle.exec.specs.declared.Cause.{Cause}
use mathlib.Core.Bool.{true, false}
use mathlib.Core.Path.{◌≡◌, refl, ap, ◌∙◌}
use mathlib.Core.List.{List, [], ◌∷◌, map}
use Prim.Native.Nat.{ℕ, ◌≤◌}
use native.Mathlib.Omega.{arith}
use borrow.Author.Tests.{le-leb}
use lib.ListN.{length}
use Rattle.exec.specs.declared.Outcome.{Outcome}
use Rattle.exec.specs.declared.Pool.TheVariants as Pool
use Rattle.exec.specs.declared.Stream.TheVariants.{Stdout, Stderr}
use Rattle.exec.specs.Key.{admits}
use Rattle.exec.specs.Limits.{cost, bytes_with, bytes_window, limits_for, has_notes}
use Rattle.ring.specs.Ring.{wrap, ring_read, ring_from, ring_write}
use Rattle.ring.specs.Runs.{copied}
use Rattle.output.specs.Output.{taken_in, sent}
use Rattle.runner.specs.Calls as Calls
use Rattle.choice.specs.Order.{if_else, order}
use Rattle.runner.specs.Life.{close_runner_input, end_grace, give_up, abandon_launch, abandon_open_streams, begin_termination, pass_grace, terminate, pass_timeout, pass_settlement, give_up_unless_clean, pass_give_up, drop_launch, drop_streams, pass_abandonment, fire, ticked, cancelled, cancel_answer, cancel_next, note_started, note_launch, launched_next, is_ready, outcome_of}
use Rattle.runner.specs.Message.{sendable_of, choose, output_paid, output_sent, effect, payload}
use Rattle.runner.specs.Range.{fresh}
use Rattle.runner.specs.Streams.{output_taken, output_next, output_store, output_took, credit_in, credit_answer, credit_next}
use Rattle.calls.specs.Call as Call
use Rattle.calls.specs.Call.{Conf, Call, Answer, Done}
use Rattle.account.specs.Claim.{Opens}
use Rattle.account.specs.Step as Step
use Rattle.account.proofs.Plain.{said, next, answer, begun, run}
use Rattle.account.proofs.Demand.{same_run}

-- open,0,7,2,4,B,8,B,8,0,-,10,5
abbrev pub conf : Conf
conf = record {
  key = record { id = 7; generation = 2 };
  limits = limits_for 4 (bytes_window 8) (bytes_window 8) false;
  timers = record { timeout = Some 3600000000000; grace = 10; settlement = 5 };
  smallest = 1;
}

-- message,16
abbrev pub message : Call
message = Call.next_message (0 ∷ 0 ∷ 0 ∷ 0 ∷ 0 ∷ 0 ∷ 0 ∷ 0 ∷ 0 ∷ 0 ∷ 0 ∷ 0 ∷ 0 ∷ 0 ∷ 0 ∷ 0 ∷ [])

abbrev calls : List Call
calls = Call.launched (Ok tt)
    ∷ Call.credit (record { id = 7; generation = 2 }) Pool.Stdout 3
    ∷ Call.output Stdout (97 ∷ 98 ∷ 99 ∷ 100 ∷ 101 ∷ [])
    ∷ message
    ∷ message
    ∷ message
    ∷ Call.cancel 20 (record { id = 7; generation = 2 }) Cause.Cancelled
    ∷ Call.tick 35
    ∷ message
    ∷ message
    ∷ message
    ∷ message
    ∷ message
    ∷ []

-- cancelled and given up: both streams truncated, and nothing to be used again
abbrev pub cut_short : Outcome
cut_short = record {
  status = None;
  cause = Some Cause.Cancelled;
  launch_failure = None;
  stdout_truncated = true;
  stderr_truncated = true;
  notes_truncated = false;
  reusable = false;
}

abbrev answers : List Answer
answers = Call.Ok
    ∷ Call.Applied
    ∷ Call.Taken 4
    ∷ Call.Says (Call.Credit 8)
    ∷ Call.Says Call.Started
    ∷ Call.Says (Call.Output Stdout (97 ∷ 98 ∷ 99 ∷ []))
    ∷ Call.Applied
    ∷ Call.Ok
    ∷ Call.Says Call.InputClosed
    ∷ Call.Says (Call.End Stdout)
    ∷ Call.Says (Call.End Stderr)
    ∷ Call.Says (Call.Terminal cut_short)
    ∷ Call.Nothing
    ∷ []

abbrev pub answers_of : List Done → List Answer
answers_of ds = map (λ (d : Done). d.answer) ds

-- only the first four bytes of the store are written
computed : (a0 a1 a2 a3 : ℕ) (rest lengths : List ℕ)
    → answers_of (run (begun conf 0 (a0 ∷ a1 ∷ a2 ∷ a3 ∷ rest) lengths) calls) ≡ answers
unfolding next answer said admits cost wrap ring_read ring_from ring_write copied taken_in sent if_else close_runner_input end_grace give_up abandon_launch abandon_open_streams begin_termination pass_grace terminate pass_timeout pass_settlement give_up_unless_clean pass_give_up drop_launch drop_streams pass_abandonment fire ticked cancelled cancel_answer cancel_next note_started note_launch launched_next is_ready outcome_of sendable_of order choose output_paid output_sent effect payload fresh output_taken output_next output_store output_took credit_in credit_answer credit_next has_notes
computed a0 a1 a2 a3 rest lengths = refl

-- what holds of every store whose first four bytes are named holds of every one that open takes
pub named_four : (P : List ℕ → Type 0) → ((a0 a1 a2 a3 : ℕ) (rest : List ℕ) → P (a0 ∷ a1 ∷ a2 ∷ a3 ∷ rest)) → (bytes : List ℕ) → 16 ≤ length bytes → P bytes
named_four P p (a0 ∷ a1 ∷ a2 ∷ a3 ∷ rest) h = p a0 a1 a2 a3 rest
named_four P p _ h = absurd (omega arith)

plain : (bytes lengths : List ℕ) → 16 ≤ length bytes → answers_of (run (begun conf 0 bytes lengths) calls) ≡ answers
plain bytes lengths h =
    named_four (λ (b : List ℕ). answers_of (run (begun conf 0 b lengths) calls) ≡ answers) (λ a0 a1 a2 a3 rest. computed a0 a1 a2 a3 rest lengths) bytes h

-- line 1: open is answered ok
pub open_ok : (bytes lengths : List ℕ) → 16 ≤ length bytes → Opens conf 0 bytes lengths
unfolding Calls.«open» bytes_with has_notes
open_ok bytes lengths h = rw (le-leb 16 (length bytes) h, le-leb 0 (length lengths) (omega arith)) refl

-- lines 2 to 14
pub session : (bytes lengths : List ℕ) → 16 ≤ length bytes → answers_of (Step.run (Step.opened conf 0 bytes lengths) calls) ≡ answers
session bytes lengths h = ap answers_of (same_run conf 0 bytes lengths (open_ok bytes lengths h) calls) ∙ plain bytes lengths h
