-- Two cards, computed. Of one the times fall: opened at 1000 by one counter, it is cancelled at 20 and ticked at 19 and at 35 by another.
-- On the other the turn is taken.
use Rattle.exec.specs.Limits.{has_notes}
use Rattle.std.specs.Prelude.{Some, None, Ok}
use mathlib.Core.Path.{◌≡◌, refl, sym, ap, ◌∙◌}
use mathlib.Core.List.{List, [], ◌∷◌, ◌++◌, map}
use Prim.Native.Nat.{ℕ, ◌≤◌}
use native.Mathlib.Omega.{arith}
use Rattle.exec.specs.declared.Cause.TheVariants as Cause
use Rattle.exec.specs.declared.Stream.TheVariants.{Stdout, Stderr}
use Rattle.exec.specs.Key.{new_key, admits}
use Rattle.choice.specs.Order.{if_else, order}
use Rattle.output.specs.Output.{sent}
use Rattle.runner.specs.Life.{close_runner_input, end_grace, give_up, abandon_launch, abandon_open_streams, begin_termination, pass_grace, terminate, pass_timeout, pass_settlement, give_up_unless_clean, pass_give_up, drop_launch, drop_streams, pass_abandonment, fire, ticked, cancelled, cancel_answer, cancel_next, note_started, note_launch, launched_next, is_ready, outcome_of, deadline_of}
use Rattle.runner.specs.Message.{sendable_of, choose, output_paid, output_sent, effect, payload}
use Rattle.runner.specs.Range.{fresh}
use Rattle.calls.specs.Call as Call
use Rattle.calls.specs.Call.{Call, Answer}
use Rattle.account.specs.Step as Step
use Rattle.account.specs.Step.{State}
use Rattle.account.proofs.Plain.{said, next, answer, begun, run}
use Rattle.account.proofs.Demand.{same_run}
use Rattle.account.proofs.Session.{message, cut_short}
use Rattle.account.proofs.Session as Session
use Rattle.account.proofs.TurnSession as TurnSession
use Rattle.syntax.specs.Zeros.{zeros_length}
use Rattle.cards.proofs.Lines.{entry_answer}
use lib.ListN.{length}
use Rattle.syntax.specs.Table.{calls}
use Rattle.syntax.specs.Words.{bytes}
use Rattle.syntax.specs.Lines.{zeros}
use Rattle.opening.specs.Open.{Opening, line_open, timeout, open_of, is_open, opening_of, limits_of, timers_of, smallest_of}
use Rattle.grammar.specs.Feed.{First, Running, Answered, prints, answer_of}
use Rattle.textlines.specs.Lines.{lines_in}
use Rattle.grammar.specs.ByLine.{answers_from, text_from}
use Rattle.grammar.proofs.ByLine.{by_line}
use Rattle.grammar.proofs.Made.{calls_in, as_calls}
use Rattle.grammar.proofs.LeftOpen.{every_card, timed, opens}
use Rattle.opening.specs.Only.{line_says}
use Rattle.cards.specs.Runs.{StartsOk, just_opened}

-- ---- a card whose times fall

abbrev lines : List (List ℕ)
lines = bytes "message,16"
    ∷ bytes "launched,0,-,-"
    ∷ bytes "cancel,20,7,2,Cancelled"
    ∷ bytes "tick,19"
    ∷ bytes "deadline"
    ∷ bytes "tick,35"
    ∷ bytes "message,16"
    ∷ bytes "message,16"
    ∷ bytes "message,16"
    ∷ bytes "message,16"
    ∷ bytes "message,16"
    ∷ []

abbrev made : List Call
made = message
    ∷ Call.launched (Ok tt)
    ∷ Call.cancel 20 (new_key 7 2) Cause.Cancelled
    ∷ Call.tick 19
    ∷ Call.deadline
    ∷ Call.tick 35
    ∷ message
    ∷ message
    ∷ message
    ∷ message
    ∷ message
    ∷ []

are_calls : calls_in lines ≡ map Some made
unfolding calls zeros
are_calls = refl

abbrev answers : List Answer
answers = Call.Says (Call.Credit 8)
    ∷ Call.Ok
    ∷ Call.Applied
    ∷ Call.Ok
    ∷ Call.Time (Some 30)
    ∷ Call.Ok
    ∷ Call.Says Call.Started
    ∷ Call.Says Call.InputClosed
    ∷ Call.Says (Call.End Stdout)
    ∷ Call.Says (Call.End Stderr)
    ∷ Call.Says (Call.Terminal cut_short)
    ∷ []

computed : (bs lengths : List ℕ) → Session.answers_of (run (begun (timed None) 1000 bs lengths) made) ≡ answers
unfolding next answer said admits if_else close_runner_input end_grace give_up abandon_launch abandon_open_streams begin_termination pass_grace terminate pass_timeout pass_settlement give_up_unless_clean pass_give_up drop_launch drop_streams pass_abandonment fire ticked cancelled cancel_answer cancel_next note_started note_launch launched_next is_ready outcome_of deadline_of sendable_of order choose output_paid output_sent effect payload fresh sent has_notes
computed bs lengths = refl

abbrev opening : Opening
opening = record { conf = timed None; now = 1000 }

first : answer_of First (bytes "open,1000,7,2,4,B,8,B,8,0,never,10,5") ≡ record { stage = Running (just_opened opening); answer = Call.Ok }
unfolding calls timeout open_of is_open opening_of limits_of timers_of smallest_of has_notes
first =
    let line = bytes "open,1000,7,2,4,B,8,B,8,0,never,10,5" in
    let e : line_open line ≡ Some opening = refl in
    every_card.opens line opening refl (line_says line opening e) (opens None 1000)

-- its first line is answered ok
pub starts : StartsOk (lines_in (bytes "open,1000,7,2,4,B,8,B,8,0,never,10,5\nmessage,16\nlaunched,0,-,-\ncancel,20,7,2,Cancelled\ntick,19\ndeadline\ntick,35\nmessage,16\nmessage,16\nmessage,16\nmessage,16\nmessage,16"))
unfolding lines_in bytes
starts = ap (λ (a : Answered). a.answer) first

-- and the fifth message after the tick at 20 + 10 + 5 is Terminal
pub prints_answers : prints (bytes "open,1000,7,2,4,B,8,B,8,0,never,10,5\nmessage,16\nlaunched,0,-,-\ncancel,20,7,2,Cancelled\ntick,19\ndeadline\ntick,35\nmessage,16\nmessage,16\nmessage,16\nmessage,16\nmessage,16")
    ≡ text_from 0 (Call.Ok ∷ answers)
unfolding lines_in bytes
prints_answers =
    (by_line _).printed
    ∙ ap (λ (a : Answered). text_from 0 (a.answer ∷ answers_from a.stage lines)) first
    ∙ ap (λ (rest : List Answer). text_from 0 (Call.Ok ∷ rest))
    (as_calls lines made (just_opened opening) are_calls ∙ ap Session.answers_of (same_run (timed None) 1000 (zeros 65536) (zeros 1024) (opens None 1000) made) ∙ computed (zeros 65536) (zeros 1024))

-- ---- a card on which the turn is taken

pub rows : List (List ℕ)
unfolding bytes
rows = bytes "launched,0,-,-"
    ∷ bytes "credit,7,2,Stdout,3"
    ∷ bytes "output,Stdout,6162636465"
    ∷ bytes "message,16"
    ∷ bytes "message,16"
    ∷ bytes "message,16"
    ∷ bytes "output,Stdout,656667"
    ∷ bytes "credit,7,2,Stdout,8"
    ∷ bytes "message,16"
    ∷ bytes "output_closed,Stdout"
    ∷ bytes "output_closed,Stderr"
    ∷ bytes "exited,20,E0"
    ∷ bytes "settled,Settled"
    ∷ bytes "message,16"
    ∷ bytes "message,16"
    ∷ bytes "message,16"
    ∷ bytes "message,16"
    ∷ []

rows_calls : calls_in rows ≡ map Some (TurnSession.calls ++ (message ∷ []))
unfolding rows calls zeros
rows_calls = refl

-- the answers of a list and of one call more
answers_behind : (s : State) (cs : List Call) (c : Call) → Session.answers_of (Step.run s (cs ++ (c ∷ []))) ≡ Session.answers_of (Step.run s cs) ++ (Step.answer (Step.after s cs) c ∷ [])
answers_behind s [] c = refl
answers_behind s (b ∷ cs) c = ap (λ (rest : List Answer). Step.answer s b ∷ rest) (answers_behind (Step.next s b) cs c)

-- its last line is answered by a Terminal that reports both streams untruncated, so what `Turn` asks can be met
pub turn_taken : answers_from (Running (just_opened (record { conf = Session.conf; now = 0 }))) rows
    ≡ Session.answers_of (Step.run (just_opened (record { conf = Session.conf; now = 0 })) TurnSession.calls) ++ (Call.Says (Call.Terminal TurnSession.complete) ∷ [])
turn_taken =
    let s : State = just_opened (record { conf = Session.conf; now = 0 }) in
    let room : 16 ≤ length (zeros 65536) = rw (zeros_length 65536) (omega arith) in
    as_calls rows (TurnSession.calls ++ (message ∷ [])) s rows_calls
    ∙ answers_behind s TurnSession.calls message
    ∙ ap (λ (a : Answer). Session.answers_of (Step.run s TurnSession.calls) ++ (a ∷ []))
    (sym (entry_answer s TurnSession.calls message) ∙ TurnSession.terminal (zeros 65536) (zeros 1024) room)
