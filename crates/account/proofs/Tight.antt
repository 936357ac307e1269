-- Five is tight: a list on which the fifth next_message after the tick is Terminal and the four before it are other messages.
use Rattle.exec.specs.Limits.{has_notes}
use Rattle.std.specs.Prelude.{Ok}
use mathlib.Core.Bool.{false}
use mathlib.Core.Path.{◌≡◌, refl, ap, ◌∙◌}
use mathlib.Core.List.{List, [], ◌∷◌, ◌++◌}
use Prim.Native.Nat.{ℕ, ◌≤◌}
use lib.ListN.{length}
use Rattle.exec.specs.declared.Cause.TheVariants as Cause
use Rattle.exec.specs.declared.Stream.TheVariants.{Stdout, Stderr}
use Rattle.exec.specs.Key.{admits}
use Rattle.choice.specs.Order.{if_else, order}
use Rattle.runner.specs.Life.{close_runner_input, end_grace, give_up, abandon_launch, abandon_open_streams, begin_termination, pass_grace, terminate, pass_timeout, pass_settlement, give_up_unless_clean, pass_give_up, drop_launch, drop_streams, pass_abandonment, fire, ticked, cancelled, cancel_answer, cancel_next, note_started, note_launch, launched_next, is_ready, outcome_of}
use Rattle.runner.specs.Message.{sendable_of, choose, output_paid, output_sent, effect, payload}
use Rattle.runner.specs.Range.{fresh}
use Rattle.output.specs.Output.{sent}
use Rattle.calls.specs.Call as Call
use Rattle.calls.specs.Call.{Call, Answer}
use Rattle.account.specs.Claim.{any_terminal, messages}
use Rattle.account.specs.Step as Step
use Rattle.account.proofs.Plain.{said, next, answer, begun, run}
use Rattle.account.proofs.Demand.{same_run}
use Rattle.account.proofs.Session.{conf, message, cut_short, answers_of, open_ok}

-- the launch is reported and the Credit sent; then a cancel at 20, and the tick at 20 + 10 + 5
abbrev pub before : List Call
before = message ∷ Call.launched (Ok tt) ∷ Call.cancel 20 (record { id = 7; generation = 2 }) Cause.Cancelled ∷ Call.tick 35 ∷ []

abbrev pub four : List Call
four = message ∷ message ∷ message ∷ message ∷ []

abbrev pub answers : List Answer
answers = Call.Says (Call.Credit 8)
    ∷ Call.Ok
    ∷ Call.Applied
    ∷ Call.Ok
    ∷ Call.Says Call.Started
    ∷ Call.Says Call.InputClosed
    ∷ Call.Says (Call.End Stdout)
    ∷ Call.Says (Call.End Stderr)
    ∷ Call.Says (Call.Terminal cut_short)
    ∷ []

computed : (bytes lengths : List ℕ) → answers_of (run (begun conf 0 bytes lengths) (before ++ (four ++ (message ∷ [])))) ≡ answers
unfolding next answer said admits if_else close_runner_input end_grace give_up abandon_launch abandon_open_streams begin_termination pass_grace terminate pass_timeout pass_settlement give_up_unless_clean pass_give_up drop_launch drop_streams pass_abandonment fire ticked cancelled cancel_answer cancel_next note_started note_launch launched_next is_ready outcome_of sendable_of order choose output_paid output_sent effect payload fresh sent has_notes
computed bytes lengths = refl

none : (bytes lengths : List ℕ) → any_terminal (run (begun conf 0 bytes lengths) (before ++ four)) ≡ false
unfolding next answer said admits if_else close_runner_input end_grace give_up abandon_launch abandon_open_streams begin_termination pass_grace terminate pass_timeout pass_settlement give_up_unless_clean pass_give_up drop_launch drop_streams pass_abandonment fire ticked cancelled cancel_answer cancel_next note_started note_launch launched_next is_ready outcome_of sendable_of order choose output_paid output_sent effect payload fresh sent has_notes
none bytes lengths = refl

-- the answers: Terminal is the fifth message after the tick
pub fifth : (bytes lengths : List ℕ) → 16 ≤ length bytes
    → answers_of (Step.run (Step.opened conf 0 bytes lengths) (before ++ (four ++ (message ∷ [])))) ≡ answers
fifth bytes lengths h = ap answers_of (same_run conf 0 bytes lengths (open_ok bytes lengths h) (before ++ (four ++ (message ∷ [])))) ∙ computed bytes lengths

-- so four next_messages do not do
pub not_four : (bytes lengths : List ℕ) → 16 ≤ length bytes
    → (messages four ≡ 4) × (any_terminal (Step.run (Step.opened conf 0 bytes lengths) (before ++ four)) ≡ false)
not_four bytes lengths h = (refl, ap any_terminal (same_run conf 0 bytes lengths (open_ok bytes lengths h) (before ++ four)) ∙ none bytes lengths)
