-- 02's A9 as whole cards, their bytes in and their bytes out, computed from the definitions: what a smallest grant holds back, in bytes and
-- in frames, and which ones open refuses.
use Rattle.std.specs.Prelude.{Result, Some, None, Ok, Err}
use Rattle.exec.specs.declared.Refusal.{Refusal}
use Rattle.exec.specs.declared.Refusal.TheVariants.{NoLimits, StoreShort, SmallestGrant}
use Rattle.exec.specs.Refusal.{number}
use mathlib.Core.Bool.{true, false}
use mathlib.Core.Path.{◌≡◌, refl, ap, ◌∙◌}
use mathlib.Core.List.{List, [], ◌∷◌, map}
use Prim.Native.Nat.{ℕ}
use lib.IntN.{pos}
use Rattle.exec.specs.declared.Settlement.TheVariants as Settlement
use Rattle.exec.specs.declared.Status.{Status}
use Rattle.exec.specs.declared.Stream.TheVariants.{Stdout, Stderr}
use Rattle.exec.specs.declared.Window.{Window}
use Rattle.exec.specs.Key.{new_key, admits}
use Rattle.exec.specs.Limits.{cost, bytes_with, bytes_window, frames_window, limits_for, has_notes}
use Rattle.decimal.specs.Decimal.{signed_of, digits_of, digits_before}
use Rattle.ring.specs.Frames.{pop_from}
use Rattle.ring.specs.Ring.{wrap}
use Rattle.choice.specs.Order.{if_else, order}
use Rattle.input.specs.Input as Input
use Rattle.runner.specs.Calls as Calls
use Rattle.runner.specs.Life as Life
use Rattle.runner.specs.Message as Message
use Rattle.runner.specs.Range as Range
use Rattle.runner.specs.Streams as Streams
use Rattle.calls.specs.Call as Call
use Rattle.calls.specs.Call.{Conf, Call, Answer}
use Rattle.account.specs.Claim.{Opens}
use Rattle.account.specs.Step as Step
use Rattle.account.proofs.Plain as Plain
use Rattle.account.proofs.Plain.{begun, run}
use Rattle.account.proofs.Demand.{same_run}
use Rattle.account.proofs.Session.{message, answers_of}
use Rattle.syntax.specs.Answers.{line_text, answer_text}
use Rattle.syntax.specs.Table.{calls}
use Rattle.syntax.specs.Words.{bytes}
use Rattle.syntax.specs.Lines.{zeros}
use Rattle.syntax.specs.Zeros.{zeros_length}
use Rattle.opening.specs.Open.{line_open, timeout, open_of, is_open, opening_of, limits_of, timers_of, smallest_of}
use Rattle.textlines.specs.Lines.{lines_in}
use Rattle.grammar.specs.Feed.{First, Over, Answered, prints, is_short, answer_of, answered, opened_by, first}
use Rattle.grammar.specs.ByLine.{answers_from, text_from}
use Rattle.grammar.proofs.ByLine.{by_line}
use Rattle.grammar.proofs.Made.{calls_in, as_calls}
use Rattle.grammar.proofs.Opened.{card_opened}

-- what a card prints whose further lines are all calls
called_card : (card line : List ℕ) (conf : Conf) (ls : List (List ℕ)) (cs : List Call) (answers : List Answer) → lines_in card ≡ line ∷ ls → is_short line ≡ true
    → line_open line ≡ Some (record { conf = conf; now = 0 }) → Opens conf 0 (zeros 65536) (zeros 1024)
    → calls_in ls ≡ map Some cs → answers_of (run (begun conf 0 (zeros 65536) (zeros 1024)) cs) ≡ answers → prints card ≡ text_from 0 (Call.Ok ∷ answers)
called_card card line conf ls cs answers l h e o c a =
    card_opened card line conf 0 ls l h e o
    ∙ ap (λ (x : List Answer). text_from 0 (Call.Ok ∷ x))
    (as_calls ls cs (Step.opened conf 0 (zeros 65536) (zeros 1024)) c ∙ ap answers_of (same_run conf 0 (zeros 65536) (zeros 1024) o cs) ∙ a)

-- open,0,7,2,CHUNK,UNIT,SIZE,B,8,0,never,10,5,SMALLEST
abbrev granting : (chunk : ℕ) (input : Window) (smallest : ℕ) → Conf
granting chunk input smallest = record {
  key = new_key 7 2;
  limits = limits_for chunk input (bytes_window 8) false;
  timers = record { timeout = None; grace = 10; settlement = 5 };
  smallest = smallest;
}

opens : Opens (granting 4 (bytes_window 8) 1) 0 (zeros 65536) (zeros 1024)
    × Opens (granting 4 (bytes_window 8) 4) 0 (zeros 65536) (zeros 1024)
    × Opens (granting 4 (bytes_window 8) 8) 0 (zeros 65536) (zeros 1024)
    × Opens (granting 4 (frames_window 2) 2) 0 (zeros 65536) (zeros 1024)
unfolding Calls.«open» bytes_with has_notes
opens = rw (zeros_length 65536, zeros_length 1024) (refl, refl, refl, refl)

-- ---- left out, it is 1: what is taken is granted at the next message, however few

abbrev each_lines : List (List ℕ)
each_lines = bytes "launched,0,-,-"
    ∷ bytes "message,16"
    ∷ bytes "message,16"
    ∷ bytes "input,7,2,616263"
    ∷ bytes "input_written,1"
    ∷ bytes "message,16"
    ∷ []

abbrev each_calls : List Call
each_calls = Call.launched (Ok tt)
    ∷ message
    ∷ message
    ∷ Call.input (new_key 7 2) (97 ∷ 98 ∷ 99 ∷ [])
    ∷ Call.input_written 1
    ∷ message
    ∷ []

abbrev each_answers : List Answer
each_answers = Call.Ok
    ∷ Call.Says (Call.Credit 8)
    ∷ Call.Says Call.Started
    ∷ Call.Applied
    ∷ Call.Came 0
    ∷ Call.Says (Call.Credit 1)
    ∷ []

are_each : calls_in each_lines ≡ map Some each_calls
unfolding calls zeros
are_each = refl

each_answered : (bs lengths : List ℕ) → answers_of (run (begun (granting 4 (bytes_window 8) 1) 0 bs lengths) each_calls) ≡ each_answers
unfolding Plain.next Plain.answer Plain.said admits cost if_else order Message.choose Message.effect Range.fresh Life.note_started Life.note_launch Life.launched_next Streams.input_answer Streams.input_next Input.receive_answer Input.receive_input Streams.written_next Streams.written_came Input.written_input Input.written_came has_notes
each_answered bs lengths = refl

pub each_at_once : (prints (bytes "open,0,7,2,4,B,8,B,8,0,never,10,5\nlaunched,0,-,-\nmessage,16\nmessage,16\ninput,7,2,616263\ninput_written,1\nmessage,16\n")
    ≡ bytes "1,ok,-,-\n2,ok,-,-\n3,Credit,8,-\n4,Started,-,-\n5,Applied,-,-\n6,ok,0,-\n7,Credit,1,-\n")
    × (prints (bytes "open,0,7,2,4,B,8,B,8,0,never,10,5,1\nlaunched,0,-,-\nmessage,16\nmessage,16\ninput,7,2,616263\ninput_written,1\nmessage,16\n")
    ≡ bytes "1,ok,-,-\n2,ok,-,-\n3,Credit,8,-\n4,Started,-,-\n5,Applied,-,-\n6,ok,0,-\n7,Credit,1,-\n")
unfolding calls timeout open_of is_open opening_of limits_of timers_of smallest_of lines_in line_text answer_text digits_of digits_before has_notes
each_at_once = (
  called_card _ (bytes "open,0,7,2,4,B,8,B,8,0,never,10,5") (granting 4 (bytes_window 8) 1) each_lines each_calls each_answers refl refl refl opens.0 are_each
      (each_answered (zeros 65536) (zeros 1024)),
  called_card _ (bytes "open,0,7,2,4,B,8,B,8,0,never,10,5,1") (granting 4 (bytes_window 8) 1) each_lines each_calls each_answers refl refl refl opens.0 are_each
      (each_answered (zeros 65536) (zeros 1024)),
)

-- ---- eight bytes, four at once: three are too few, and then all four come in one

abbrev four_lines : List (List ℕ)
four_lines = bytes "launched,0,-,-"
    ∷ bytes "message,16"
    ∷ bytes "message,16"
    ∷ bytes "input,7,2,61626364"
    ∷ bytes "input_written,3"
    ∷ bytes "message,16"
    ∷ bytes "input_written,1"
    ∷ bytes "message,16"
    ∷ bytes "message,16"
    ∷ bytes "input,7,2,61"
    ∷ bytes "input_written,1"
    ∷ bytes "message,16"
    ∷ []

abbrev four_calls : List Call
four_calls = Call.launched (Ok tt)
    ∷ message
    ∷ message
    ∷ Call.input (new_key 7 2) (97 ∷ 98 ∷ 99 ∷ 100 ∷ [])
    ∷ Call.input_written 3
    ∷ message
    ∷ Call.input_written 1
    ∷ message
    ∷ message
    ∷ Call.input (new_key 7 2) (97 ∷ [])
    ∷ Call.input_written 1
    ∷ message
    ∷ []

abbrev four_answers : List Answer
four_answers = Call.Ok
    ∷ Call.Says (Call.Credit 8)
    ∷ Call.Says Call.Started
    ∷ Call.Applied
    ∷ Call.Came 0
    ∷ Call.Nothing
    ∷ Call.Came 0
    ∷ Call.Says (Call.Credit 4)
    ∷ Call.Nothing
    ∷ Call.Applied
    ∷ Call.Came 0
    ∷ Call.Nothing
    ∷ []

are_four : calls_in four_lines ≡ map Some four_calls
unfolding calls zeros
are_four = refl

four_answered : (bs lengths : List ℕ) → answers_of (run (begun (granting 4 (bytes_window 8) 4) 0 bs lengths) four_calls) ≡ four_answers
unfolding Plain.next Plain.answer Plain.said admits cost if_else order Message.sendable_of Message.choose Message.effect Range.fresh Life.note_started Life.note_launch Life.launched_next Life.is_ready Streams.input_answer Streams.input_next Input.receive_answer Input.receive_input Streams.written_next Streams.written_came Input.written_input Input.written_came has_notes
four_answered bs lengths = refl

pub four_at_once : prints (bytes "open,0,7,2,4,B,8,B,8,0,never,10,5,4\nlaunched,0,-,-\nmessage,16\nmessage,16\ninput,7,2,61626364\ninput_written,3\nmessage,16\ninput_written,1\nmessage,16\nmessage,16\ninput,7,2,61\ninput_written,1\nmessage,16\n")
    ≡ bytes "1,ok,-,-\n2,ok,-,-\n3,Credit,8,-\n4,Started,-,-\n5,Applied,-,-\n6,ok,0,-\n7,none,-,-\n8,ok,0,-\n9,Credit,4,-\n10,none,-,-\n11,Applied,-,-\n12,ok,0,-\n13,none,-,-\n"
unfolding calls timeout open_of is_open opening_of limits_of timers_of smallest_of lines_in line_text answer_text digits_of digits_before has_notes
four_at_once =
    called_card _ (bytes "open,0,7,2,4,B,8,B,8,0,never,10,5,4") (granting 4 (bytes_window 8) 4) four_lines four_calls four_answers refl refl refl opens.1 are_four
    (four_answered (zeros 65536) (zeros 1024))

-- ---- two frames, both at once: a frame that is finished waits for the other

abbrev two_lines : List (List ℕ)
two_lines = bytes "launched,0,-,-"
    ∷ bytes "message,16"
    ∷ bytes "message,16"
    ∷ bytes "input,7,2,6162"
    ∷ bytes "input,7,2,63"
    ∷ bytes "input_written,1"
    ∷ bytes "message,16"
    ∷ bytes "input_written,1"
    ∷ bytes "message,16"
    ∷ bytes "input_written,1"
    ∷ bytes "message,16"
    ∷ bytes "message,16"
    ∷ []

abbrev two_calls : List Call
two_calls = Call.launched (Ok tt)
    ∷ message
    ∷ message
    ∷ Call.input (new_key 7 2) (97 ∷ 98 ∷ [])
    ∷ Call.input (new_key 7 2) (99 ∷ [])
    ∷ Call.input_written 1
    ∷ message
    ∷ Call.input_written 1
    ∷ message
    ∷ Call.input_written 1
    ∷ message
    ∷ message
    ∷ []

abbrev two_answers : List Answer
two_answers = Call.Ok
    ∷ Call.Says (Call.Credit 2)
    ∷ Call.Says Call.Started
    ∷ Call.Applied
    ∷ Call.Applied
    ∷ Call.Came 1
    ∷ Call.Nothing
    ∷ Call.Came 1
    ∷ Call.Nothing
    ∷ Call.Came 1
    ∷ Call.Says (Call.Credit 2)
    ∷ Call.Nothing
    ∷ []

are_two : calls_in two_lines ≡ map Some two_calls
unfolding calls zeros
are_two = refl

-- only the first two lengths are written
two_answered : (bs : List ℕ) (m n : ℕ) (rest : List ℕ) → answers_of (run (begun (granting 4 (frames_window 2) 2) 0 bs (m ∷ n ∷ rest)) two_calls) ≡ two_answers
unfolding Plain.next Plain.answer Plain.said admits cost wrap if_else order pop_from Message.sendable_of Message.choose Message.effect Range.fresh Life.note_started Life.note_launch Life.launched_next Life.is_ready Streams.input_answer Streams.input_next Streams.input_lengths Input.receive_answer Input.receive_input Input.receive_lengths Streams.written_next Streams.written_came Streams.written_lengths Input.written_input Input.written_came Input.written_lengths has_notes
two_answered bs m n rest = refl

two_zeros : zeros 1024 ≡ 0 ∷ 0 ∷ zeros 1022
unfolding zeros
two_zeros = refl

pub two_at_once : prints (bytes "open,0,7,2,4,F,2,B,8,0,never,10,5,2\nlaunched,0,-,-\nmessage,16\nmessage,16\ninput,7,2,6162\ninput,7,2,63\ninput_written,1\nmessage,16\ninput_written,1\nmessage,16\ninput_written,1\nmessage,16\nmessage,16\n")
    ≡ bytes "1,ok,-,-\n2,ok,-,-\n3,Credit,2,-\n4,Started,-,-\n5,Applied,-,-\n6,Applied,-,-\n7,ok,1,-\n8,none,-,-\n9,ok,1,-\n10,none,-,-\n11,ok,1,-\n12,Credit,2,-\n13,none,-,-\n"
unfolding calls timeout open_of is_open opening_of limits_of timers_of smallest_of lines_in line_text answer_text digits_of digits_before has_notes
two_at_once =
    called_card _ (bytes "open,0,7,2,4,F,2,B,8,0,never,10,5,2") (granting 4 (frames_window 2) 2) two_lines two_calls two_answers refl refl refl opens.3 are_two
    (rw two_zeros (two_answered (zeros 65536) 0 0 (zeros 1022)))

-- ---- the input is closed while three wait to be granted: they never are

abbrev closed_lines : List (List ℕ)
closed_lines = bytes "launched,0,-,-"
    ∷ bytes "message,16"
    ∷ bytes "message,16"
    ∷ bytes "input,7,2,616263"
    ∷ bytes "input_written,3"
    ∷ bytes "message,16"
    ∷ bytes "input_closed"
    ∷ bytes "message,16"
    ∷ bytes "message,16"
    ∷ bytes "output_closed,Stdout"
    ∷ bytes "output_closed,Stderr"
    ∷ bytes "exited,20,E0"
    ∷ bytes "settled,Settled"
    ∷ bytes "message,16"
    ∷ bytes "message,16"
    ∷ bytes "message,16"
    ∷ bytes "message,16"
    ∷ []

abbrev closed_calls : List Call
closed_calls = Call.launched (Ok tt)
    ∷ message
    ∷ message
    ∷ Call.input (new_key 7 2) (97 ∷ 98 ∷ 99 ∷ [])
    ∷ Call.input_written 3
    ∷ message
    ∷ Call.input_closed
    ∷ message
    ∷ message
    ∷ Call.output_closed Stdout
    ∷ Call.output_closed Stderr
    ∷ Call.exited 20 (Some (Status.Exited (pos 0)))
    ∷ Call.settled Settlement.Settled
    ∷ message
    ∷ message
    ∷ message
    ∷ message
    ∷ []

abbrev closed_answers : List Answer
closed_answers = Call.Ok
    ∷ Call.Says (Call.Credit 8)
    ∷ Call.Says Call.Started
    ∷ Call.Applied
    ∷ Call.Came 0
    ∷ Call.Nothing
    ∷ Call.Ok
    ∷ Call.Says Call.InputClosed
    ∷ Call.Nothing
    ∷ Call.Ok
    ∷ Call.Ok
    ∷ Call.Ok
    ∷ Call.Ok
    ∷ Call.Says (Call.End Stdout)
    ∷ Call.Says (Call.End Stderr)
    ∷ Call.Says (Call.Terminal (record {
      status = Some (Status.Exited (pos 0));
      cause = None;
      launch_failure = None;
      stdout_truncated = false;
      stderr_truncated = false;
      notes_truncated = false;
      reusable = true;
    }))
    ∷ Call.Nothing
    ∷ []

are_closed : calls_in closed_lines ≡ map Some closed_calls
unfolding calls zeros
are_closed = refl

closed_answered : (bs lengths : List ℕ) → answers_of (run (begun (granting 4 (bytes_window 8) 4) 0 bs lengths) closed_calls) ≡ closed_answers
unfolding Plain.next Plain.answer Plain.said admits cost if_else order Message.sendable_of Message.choose Message.effect Range.fresh Life.note_started Life.note_launch Life.launched_next Life.is_ready Life.outcome_of Life.close_runner_input Life.pass_grace Life.pass_timeout Life.pass_settlement Life.pass_give_up Life.pass_abandonment Life.fire Life.ticked Life.note_exit Life.note_exit_once Life.exited_next Life.settled_next Streams.input_answer Streams.input_next Streams.closed_next Input.receive_answer Input.receive_input Streams.written_next Streams.written_came Input.written_input Input.written_came has_notes
closed_answered bs lengths = refl

pub closed_below : prints (bytes "open,0,7,2,4,B,8,B,8,0,never,10,5,4\nlaunched,0,-,-\nmessage,16\nmessage,16\ninput,7,2,616263\ninput_written,3\nmessage,16\ninput_closed\nmessage,16\nmessage,16\noutput_closed,Stdout\noutput_closed,Stderr\nexited,20,E0\nsettled,Settled\nmessage,16\nmessage,16\nmessage,16\nmessage,16\n")
    ≡ bytes "1,ok,-,-\n2,ok,-,-\n3,Credit,8,-\n4,Started,-,-\n5,Applied,-,-\n6,ok,0,-\n7,none,-,-\n8,ok,-,-\n9,InputClosed,-,-\n10,none,-,-\n11,ok,-,-\n12,ok,-,-\n13,ok,-,-\n14,ok,-,-\n15,End,Stdout,-\n16,End,Stderr,-\n17,Terminal,-,-,E0,-,-,00,1\n18,none,-,-\n"
unfolding calls timeout open_of is_open opening_of limits_of timers_of smallest_of lines_in line_text answer_text digits_of digits_before signed_of has_notes
closed_below =
    called_card _ (bytes "open,0,7,2,4,B,8,B,8,0,never,10,5,4") (granting 4 (bytes_window 8) 4) closed_lines closed_calls closed_answers refl refl refl opens.1 are_closed
    (closed_answered (zeros 65536) (zeros 1024))

-- ---- which grants open takes: 1 to the window's size, in its own unit. Another is 46, behind 10 and ahead of 11; every later line is 30

taken : (prints (bytes "open,0,7,2,4,B,8,B,8,0,never,10,5,0004\n") ≡ bytes "1,ok,-,-\n")
    × (prints (bytes "open,0,7,2,4,B,8,B,8,0,never,10,5,8\n") ≡ bytes "1,ok,-,-\n")
unfolding calls timeout open_of is_open opening_of limits_of timers_of smallest_of lines_in line_text answer_text digits_of digits_before has_notes
taken = (
  card_opened _ (bytes "open,0,7,2,4,B,8,B,8,0,never,10,5,0004") (granting 4 (bytes_window 8) 4) 0 [] refl refl refl opens.1,
  card_opened _ (bytes "open,0,7,2,4,B,8,B,8,0,never,10,5,8") (granting 4 (bytes_window 8) 8) 0 [] refl refl refl opens.2,
)

-- open refuses it by x, of the stores that the program lends
abbrev Refuses : (conf : Conf) → Refusal → Type 0
Refuses conf x = (Calls.«open» conf.key conf.limits conf.timers conf.smallest 0 (zeros 65536) (zeros 1024)).answer ≡ Err x

-- what a card prints whose first line says limits and a grant that open refuses
refused_card : (card line : List ℕ) (conf : Conf) (x : Refusal) → lines_in card ≡ line ∷ bytes "deadline" ∷ [] → is_short line ≡ true
    → line_open line ≡ Some (record { conf = conf; now = 0 }) → Refuses conf x → prints card ≡ text_from 0 (Call.Refused (number x) ∷ Call.Refused 30 ∷ [])
unfolding bytes answer_of answered first
refused_card card line conf x l h e o =
    let refused : answer_of First line ≡ record { stage = Over; answer = Call.Refused (number x) } =
    rw (h, e) (ap (λ (r : Result (Unit {0}) Refusal). opened_by r (record { conf = conf; now = 0 })) o) in
    (by_line card).printed
    ∙ ap (λ (ls : List (List ℕ)). text_from 0 (answers_from First ls)) l
    ∙ ap (λ (a : Answered). text_from 0 (a.answer ∷ answers_from a.stage (bytes "deadline" ∷ []))) refused

-- none, one above eight bytes, one above two frames; of no limits, and of stores that are short
refuses : Refuses (granting 4 (bytes_window 8) 0) SmallestGrant
    × Refuses (granting 4 (bytes_window 8) 9) SmallestGrant
    × Refuses (granting 4 (frames_window 2) 3) SmallestGrant
    × Refuses (granting 0 (bytes_window 8) 0) NoLimits
    × Refuses (granting 40000 (bytes_window 8) 0) SmallestGrant
    × Refuses (granting 40000 (bytes_window 8) 1) StoreShort
unfolding Calls.«open» bytes_with has_notes
refuses = (refl, refl, refl, refl, refl, rw (zeros_length 65536) refl)

pub refused : (prints (bytes "open,0,7,2,4,B,8,B,8,0,never,10,5,0\ndeadline\n") ≡ bytes "1,refused,46,-\n2,refused,30,-\n")
    × (prints (bytes "open,0,7,2,4,B,8,B,8,0,never,10,5,9\ndeadline\n") ≡ bytes "1,refused,46,-\n2,refused,30,-\n")
    × (prints (bytes "open,0,7,2,4,F,2,B,8,0,never,10,5,3\ndeadline\n") ≡ bytes "1,refused,46,-\n2,refused,30,-\n")
    × (prints (bytes "open,0,7,2,0,B,8,B,8,0,never,10,5,0\ndeadline\n") ≡ bytes "1,refused,10,-\n2,refused,30,-\n")
    × (prints (bytes "open,0,7,2,40000,B,8,B,8,0,never,10,5,0\ndeadline\n") ≡ bytes "1,refused,46,-\n2,refused,30,-\n")
    × (prints (bytes "open,0,7,2,40000,B,8,B,8,0,never,10,5,1\ndeadline\n") ≡ bytes "1,refused,11,-\n2,refused,30,-\n")
unfolding calls timeout open_of is_open opening_of limits_of timers_of smallest_of lines_in line_text answer_text digits_of digits_before has_notes
refused = (
  refused_card _ (bytes "open,0,7,2,4,B,8,B,8,0,never,10,5,0") (granting 4 (bytes_window 8) 0) SmallestGrant refl refl refl refuses.0,
  refused_card _ (bytes "open,0,7,2,4,B,8,B,8,0,never,10,5,9") (granting 4 (bytes_window 8) 9) SmallestGrant refl refl refl refuses.1,
  refused_card _ (bytes "open,0,7,2,4,F,2,B,8,0,never,10,5,3") (granting 4 (frames_window 2) 3) SmallestGrant refl refl refl refuses.2,
  refused_card _ (bytes "open,0,7,2,0,B,8,B,8,0,never,10,5,0") (granting 0 (bytes_window 8) 0) NoLimits refl refl refl refuses.3,
  refused_card _ (bytes "open,0,7,2,40000,B,8,B,8,0,never,10,5,0") (granting 40000 (bytes_window 8) 0) SmallestGrant refl refl refl refuses.4,
  refused_card _ (bytes "open,0,7,2,40000,B,8,B,8,0,never,10,5,1") (granting 40000 (bytes_window 8) 1) StoreShort refl refl refl refuses.5,
)

-- what is written and is no number of 32 bits is no line of the card: 30
pub unread : (prints (bytes "open,0,7,2,4,B,8,B,8,0,never,10,5,\ndeadline\n") ≡ bytes "1,refused,30,-\n2,refused,30,-\n")
    × (prints (bytes "open,0,7,2,4,B,8,B,8,0,never,10,5,-\ndeadline\n") ≡ bytes "1,refused,30,-\n2,refused,30,-\n")
    × (prints (bytes "open,0,7,2,4,B,8,B,8,0,never,10,5,4294967296\ndeadline\n") ≡ bytes "1,refused,30,-\n2,refused,30,-\n")
    × (prints (bytes "open,0,7,2,4,B,8,B,8,0,never,10,5,4,4\ndeadline\n") ≡ bytes "1,refused,30,-\n2,refused,30,-\n")
unfolding calls timeout open_of is_open opening_of limits_of timers_of smallest_of lines_in answer_of answered first line_text answer_text digits_of digits_before has_notes
unread = (
  (by_line (bytes "open,0,7,2,4,B,8,B,8,0,never,10,5,\ndeadline\n")).printed,
  (by_line (bytes "open,0,7,2,4,B,8,B,8,0,never,10,5,-\ndeadline\n")).printed,
  (by_line (bytes "open,0,7,2,4,B,8,B,8,0,never,10,5,4294967296\ndeadline\n")).printed,
  (by_line (bytes "open,0,7,2,4,B,8,B,8,0,never,10,5,4,4\ndeadline\n")).printed,
)
