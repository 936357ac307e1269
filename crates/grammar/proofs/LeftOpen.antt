-- 02's A3, of every card; and as whole cards, their bytes in and their answers out, computed from the definitions on each side of every number.
use Rattle.std.specs.Prelude.{Option, Some, None, option_map}
use Rattle.std.proofs.lemmas.Option.{same_Some}
use mathlib.Core.Bool.{true, false}
use mathlib.Core.Path.{◌≡◌, refl, sym, ap, ◌∙◌}
use mathlib.Core.List.{List, [], ◌∷◌}
use Prim.Native.Nat.{ℕ, ◌≤◌}
use native.Mathlib.Omega.{arith}
use borrow.Author.Tests.{le-leb}
use lib.ListN.{length, get_or}
use Rattle.exec.specs.declared.Cause.TheVariants as Cause
use Rattle.exec.specs.Key.{new_key}
use Rattle.exec.specs.Time.{after, earliest, timeout_at}
use Rattle.exec.specs.Limits.{bytes_with, bytes_window, limits_for, has_notes}
use Rattle.output.specs.Output.{output_fits}
use Rattle.runner.specs.Calls as Calls
use Rattle.runner.specs.Life as Life
use Rattle.runner.specs.Message as Message
use Rattle.runner.specs.Range as Range
use Rattle.calls.specs.Call as Call
use Rattle.calls.specs.Call.{Conf, Answer, is_refused}
use Rattle.account.specs.Claim.{Opens}
use Rattle.account.specs.Step as Step
use Rattle.account.specs.Step.{State}
use Rattle.account.proofs.Flags.{either}
use Rattle.account.proofs.Plain as Plain
use Rattle.account.proofs.Plain.{begun}
use Rattle.account.proofs.Demand.{open_same, same_answer}
use Rattle.syntax.specs.Table.{calls}
use Rattle.syntax.specs.Words.{bytes}
use Rattle.syntax.specs.Lines.{fields, u64, zeros}
use Rattle.syntax.specs.Zeros.{zeros_length}
use Rattle.opening.specs.Open.{Opening, line_open, timeout, open_of, is_open, opening_of, limits_of, timers_of, smallest_of}
use Rattle.opening.specs.Timeout.{number_else, number_itself, line_bad, line_opens}
use Rattle.opening.specs.Only.{line_says}
use Rattle.grammar.specs.Feed.{First, Running, Over, Answered, bad, prints, is_short, answer_of, answered, first, later, too_long}
use Rattle.grammar.specs.LeftOpen.{asked, Starts, EveryCard}
use Rattle.textlines.specs.Lines.{lines_in}
use Rattle.grammar.specs.ByLine.{answers_from, text_from}
use Rattle.grammar.proofs.ByLine.{by_line}
use Rattle.grammar.proofs.Opened.{Opened, opened_so, first_line, card_opened}

-- ---- its deadline

still : (d : Option ℕ) → earliest (earliest (earliest (earliest d None) None) None) None ≡ d
still None = refl
still (Some t) = refl

-- of a fresh runner no other timer runs
fresh_deadline : (conf : Conf) (now : ℕ) (bs lengths : List ℕ) → Plain.answer (begun conf now bs lengths) Call.deadline ≡ Call.Time (timeout_at conf.timers.timeout now)
unfolding Plain.answer Range.fresh Life.deadline_of has_notes
fresh_deadline conf now bs lengths = ap Call.Time (still (timeout_at conf.timers.timeout now))

deadline_line : (s : State) → (answer_of (Running s) (bytes "deadline")).answer ≡ Step.answer s Call.deadline
unfolding calls answer_of answered later
deadline_line s = refl

asked_is : (line : List ℕ) (x : Opened line) → asked line ≡ Call.Ok ∷ Call.Time (timeout_at x.given.conf.timers.timeout x.given.now) ∷ []
asked_is line x =
    let conf : Conf = x.given.conf in let now : ℕ = x.given.now in
    ap (λ (a : Answered). a.answer ∷ answers_from a.stage (bytes "deadline" ∷ [])) (first_line line x)
    ∙ ap (λ (a : Answer). Call.Ok ∷ a ∷ []) (deadline_line (Step.opened conf now (zeros 65536) (zeros 1024))
    ∙ same_answer conf now (zeros 65536) (zeros 1024) x.opens [] Call.deadline
    ∙ fresh_deadline conf now (zeros 65536) (zeros 1024))

-- by what its TIMEOUT says, and its NOW
asked_by : (line : List ℕ) (now : ℕ) (t : Option ℕ) → Starts line now → timeout (get_or (fields line) 10 []) ≡ Some t → asked line ≡ Call.Ok ∷ Call.Time (timeout_at t now) ∷ []
asked_by line now t h e =
    let x : Opened line = opened_so line h.0 in
    let m : x.given.now ≡ now = same_Some _ _ (sym (line_says line x.given x.reads).now ∙ h.1) in
    let u : x.given.conf.timers.timeout ≡ t = same_Some _ _ (sym (line_says line x.given x.reads).limit ∙ e) in
    asked_is line x ∙ rw (m, u) refl

texts : (timeout (bytes "-") ≡ Some (Some 3600000000000)) × (timeout (bytes "never") ≡ Some None)
unfolding calls timeout
texts = (refl, refl)

-- a first line that is no line of the card
unopened : (line : List ℕ) → line_open line ≡ None → answer_of First line ≡ bad Over
unfolding answer_of answered first too_long
unopened line e = rw e (either (λ (x : Answered). x ≡ bad Over) (is_short line) _ _ refl refl)

-- EVERY CARD
pub every_card : EveryCard
every_card = record {
  opens = λ line o h e x. first_line line (record { given = o; short = h; reads = line_opens line o e; opens = x });
  only = λ line h. let x = opened_so line h in (x.given, line_says line x.given x.reads);
  missing = λ line now h e. asked_by line now (Some 3600000000000) h (ap timeout e ∙ texts.0);
  never = λ line now h e. asked_by line now None h (ap timeout e ∙ texts.1);
  number = λ line now n h e. asked_by line now (Some n) h (number_itself (get_or (fields line) 10 []) n e);
  other = λ line m n e. unopened line (line_bad line (number_else (get_or (fields line) 10 []) m n ∙ ap (option_map Some) e));
}

-- ---- cards

-- what it prints, where its further lines are answered so whatever the stores hold
opened_card : (card line : List ℕ) (conf : Conf) (now : ℕ) (ls : List (List ℕ)) (answers : List Answer) → lines_in card ≡ line ∷ ls → is_short line ≡ true
    → line_open line ≡ Some (record { conf = conf; now = now }) → Opens conf now (zeros 65536) (zeros 1024)
    → ((bs lengths : List ℕ) → answers_from (Running (begun conf now bs lengths)) ls ≡ answers) → prints card ≡ text_from 0 (Call.Ok ∷ answers)
opened_card card line conf now ls answers l h e o f =
    card_opened card line conf now ls l h e o
    ∙ ap (λ (s : State). text_from 0 (Call.Ok ∷ answers_from (Running s) ls)) (open_same conf now (zeros 65536) (zeros 1024) o)
    ∙ ap (λ (x : List Answer). text_from 0 (Call.Ok ∷ x)) (f (zeros 65536) (zeros 1024))

abbrev hour : Option ℕ
hour = Some 3600000000000

-- 01's limits, with a timeout
abbrev pub timed : Option ℕ → Conf
timed x = record { key = new_key 7 2; limits = limits_for 4 (bytes_window 8) (bytes_window 8) false; timers = record { timeout = x; grace = 10; settlement = 5 }; smallest = 1 }

pub opens : (x : Option ℕ) (now : ℕ) → Opens (timed x) now (zeros 65536) (zeros 1024)
unfolding Calls.«open» bytes_with has_notes
opens x now =
    let b : 16 ≤ length (zeros 65536) = rw (zeros_length 65536) (omega arith) in
    let l : 0 ≤ length (zeros 1024) = omega arith in
    rw (le-leb 16 (length (zeros 65536)) b, le-leb 0 (length (zeros 1024)) l) refl

-- ---- each of the claims of every card is met, on both sides of every number

pub met : (line : List ℕ) (x : Option ℕ) (now : ℕ) → is_short line ≡ true → line_open line ≡ Some (record { conf = timed x; now = now }) → (answer_of First line).answer ≡ Call.Ok
met line x now h e =
    let o : Opening = record { conf = timed x; now = now } in
    ap (λ (a : Answered). a.answer) (every_card.opens line o h (line_says line o e) (opens x now))

numbered : (line : List ℕ) (now n : ℕ) → is_short line ≡ true → line_open line ≡ Some (record { conf = timed (Some n); now = now })
    → u64 (get_or (fields line) 1 []) ≡ Some now → u64 (get_or (fields line) 10 []) ≡ Some n → asked line ≡ Call.Ok ∷ Call.Time (after now n) ∷ []
numbered line now n h e i k = every_card.number line now n (met line (Some n) now h e, i) k

cards_met : (asked (bytes "open,5,7,2,4,B,8,B,8,0,-,10,5") ≡ Call.Ok ∷ Call.Time (Some 3600000000005) ∷ [])
    × (asked (bytes "open,5,7,2,4,B,8,B,8,0,never,10,5") ≡ Call.Ok ∷ Call.Time None ∷ [])
    × (asked (bytes "open,5,7,2,4,B,8,B,8,0,0,10,5") ≡ Call.Ok ∷ Call.Time (Some 5) ∷ [])
    × (asked (bytes "open,5,7,2,4,B,8,B,8,0,3600000000000,10,5") ≡ Call.Ok ∷ Call.Time (Some 3600000000005) ∷ [])
    × (asked (bytes "open,5,7,2,4,B,8,B,8,0,3600000000001,10,5") ≡ Call.Ok ∷ Call.Time (Some 3600000000006) ∷ [])
    × (asked (bytes "open,0,7,2,4,B,8,B,8,0,18446744073709551615,10,5") ≡ Call.Ok ∷ Call.Time (Some 18446744073709551615) ∷ [])
    × (asked (bytes "open,1,7,2,4,B,8,B,8,0,18446744073709551615,10,5") ≡ Call.Ok ∷ Call.Time None ∷ [])
    × (answer_of First (bytes "open,5,7,2,4,B,8,B,8,0,18446744073709551616,10,5") ≡ bad Over)
unfolding calls timeout open_of is_open opening_of limits_of timers_of smallest_of answer_of answered first has_notes
cards_met = (
  every_card.missing (bytes "open,5,7,2,4,B,8,B,8,0,-,10,5") 5 (met (bytes "open,5,7,2,4,B,8,B,8,0,-,10,5") hour 5 refl refl, refl) refl,
  every_card.never (bytes "open,5,7,2,4,B,8,B,8,0,never,10,5") 5 (met (bytes "open,5,7,2,4,B,8,B,8,0,never,10,5") None 5 refl refl, refl) refl,
  numbered (bytes "open,5,7,2,4,B,8,B,8,0,0,10,5") 5 0 refl refl refl refl,
  numbered (bytes "open,5,7,2,4,B,8,B,8,0,3600000000000,10,5") 5 3600000000000 refl refl refl refl,
  numbered (bytes "open,5,7,2,4,B,8,B,8,0,3600000000001,10,5") 5 3600000000001 refl refl refl refl,
  numbered (bytes "open,0,7,2,4,B,8,B,8,0,18446744073709551615,10,5") 0 18446744073709551615 refl refl refl refl,
  numbered (bytes "open,1,7,2,4,B,8,B,8,0,18446744073709551615,10,5") 1 18446744073709551615 refl refl refl refl,
  refl,
)

-- ---- missing: an hour from open, and then the termination

hung : List (List ℕ)
unfolding bytes
hung = bytes "launched,0,-,-"
    ∷ bytes "deadline"
    ∷ bytes "tick,3600000000004"
    ∷ bytes "request"
    ∷ bytes "tick,3600000000005"
    ∷ bytes "request"
    ∷ bytes "deadline"
    ∷ []

abbrev times_out : List Answer
times_out = Call.Ok
    ∷ Call.Time (Some 3600000000005)
    ∷ Call.Ok
    ∷ Call.Nothing
    ∷ Call.Ok
    ∷ Call.Asks (Call.Terminate Cause.TimedOut)
    ∷ Call.Time (Some 3600000000015)
    ∷ []

hung_answers : (bs lengths : List ℕ) → answers_from (Running (begun (timed hour) 5 bs lengths)) hung ≡ times_out
unfolding hung calls answer_of answered later Step.next Step.answer Calls.launched Calls.tick Calls.deadline Calls.next_request Range.fresh Range.stop Range.in_range bytes_with output_fits Life.close_runner_input Life.end_grace Life.begin_termination Life.terminate Life.pass_grace Life.pass_timeout Life.pass_settlement Life.give_up_unless_clean Life.pass_give_up Life.drop_launch Life.drop_streams Life.pass_abandonment Life.fire Life.ticked Life.deadline_of Life.note_started Life.note_launch Life.launched_next Message.wish_for Message.wish Message.wish_effect has_notes
hung_answers bs lengths = refl

left_open : prints (bytes "open,5,7,2,4,B,8,B,8,0,-,10,5\nlaunched,0,-,-\ndeadline\ntick,3600000000004\nrequest\ntick,3600000000005\nrequest\ndeadline\n")
    ≡ text_from 0 (Call.Ok ∷ times_out)
unfolding hung calls timeout open_of is_open opening_of limits_of timers_of smallest_of lines_in bytes has_notes
left_open = opened_card _ (bytes "open,5,7,2,4,B,8,B,8,0,-,10,5") (timed hour) 5 hung times_out refl refl refl (opens hour 5) hung_answers

-- ---- never: no limit, not the largest number either

overnight : List (List ℕ)
unfolding bytes
overnight = bytes "launched,0,-,-"
    ∷ bytes "deadline"
    ∷ bytes "tick,18446744073709551615"
    ∷ bytes "request"
    ∷ bytes "deadline"
    ∷ []

abbrev goes_on : List Answer
goes_on = Call.Ok ∷ Call.Time None ∷ Call.Ok ∷ Call.Nothing ∷ Call.Time None ∷ []

overnight_answers : (bs lengths : List ℕ) → answers_from (Running (begun (timed None) 0 bs lengths)) overnight ≡ goes_on
unfolding overnight calls answer_of answered later Step.next Step.answer Calls.launched Calls.tick Calls.deadline Calls.next_request Range.fresh Range.stop Range.in_range bytes_with output_fits Life.pass_grace Life.pass_timeout Life.pass_settlement Life.pass_give_up Life.pass_abandonment Life.fire Life.ticked Life.deadline_of Life.note_started Life.note_launch Life.launched_next Message.wish_for Message.wish Message.wish_effect has_notes
overnight_answers bs lengths = refl

no_limit : prints (bytes "open,0,7,2,4,B,8,B,8,0,never,10,5\nlaunched,0,-,-\ndeadline\ntick,18446744073709551615\nrequest\ndeadline\n")
    ≡ text_from 0 (Call.Ok ∷ goes_on)
unfolding overnight calls timeout open_of is_open opening_of limits_of timers_of smallest_of lines_in bytes has_notes
no_limit = opened_card _ (bytes "open,0,7,2,4,B,8,B,8,0,never,10,5") (timed None) 0 overnight goes_on refl refl refl (opens None 0) overnight_answers

-- ---- opened at the last instant from which the hour ends, and one later

latest : List (List ℕ)
unfolding bytes
latest = bytes "launched,0,-,-" ∷ bytes "deadline" ∷ bytes "tick,18446744073709551615" ∷ bytes "request" ∷ []

abbrev just_ends : List Answer
just_ends = Call.Ok ∷ Call.Time (Some 18446744073709551615) ∷ Call.Ok ∷ Call.Asks (Call.Terminate Cause.TimedOut) ∷ []

abbrev never_ends : List Answer
never_ends = Call.Ok ∷ Call.Time None ∷ Call.Ok ∷ Call.Nothing ∷ []

latest_answers : (bs lengths : List ℕ)
    → (answers_from (Running (begun (timed hour) 18446740473709551615 bs lengths)) latest ≡ just_ends)
    × (answers_from (Running (begun (timed hour) 18446740473709551616 bs lengths)) latest ≡ never_ends)
unfolding latest calls answer_of answered later Step.next Step.answer Calls.launched Calls.tick Calls.deadline Calls.next_request Range.fresh Range.stop Range.in_range bytes_with output_fits Life.close_runner_input Life.end_grace Life.begin_termination Life.terminate Life.pass_grace Life.pass_timeout Life.pass_settlement Life.give_up_unless_clean Life.pass_give_up Life.drop_launch Life.drop_streams Life.pass_abandonment Life.fire Life.ticked Life.deadline_of Life.note_started Life.note_launch Life.launched_next Message.wish_for Message.wish Message.wish_effect has_notes
latest_answers bs lengths = (refl, refl)

last_hour : (prints (bytes "open,18446740473709551615,7,2,4,B,8,B,8,0,-,10,5\nlaunched,0,-,-\ndeadline\ntick,18446744073709551615\nrequest\n") ≡ text_from 0 (Call.Ok ∷ just_ends))
    × (prints (bytes "open,18446740473709551616,7,2,4,B,8,B,8,0,-,10,5\nlaunched,0,-,-\ndeadline\ntick,18446744073709551615\nrequest\n") ≡ text_from 0 (Call.Ok ∷ never_ends))
unfolding latest calls timeout open_of is_open opening_of limits_of timers_of smallest_of lines_in bytes has_notes
last_hour = (
  opened_card _ (bytes "open,18446740473709551615,7,2,4,B,8,B,8,0,-,10,5") (timed hour) 18446740473709551615 latest just_ends refl refl refl (opens hour 18446740473709551615) (λ bs lengths. (latest_answers bs lengths).0),
  opened_card _ (bytes "open,18446740473709551616,7,2,4,B,8,B,8,0,-,10,5") (timed hour) 18446740473709551616 latest never_ends refl refl refl (opens hour 18446740473709551616) (λ bs lengths. (latest_answers bs lengths).1),
)

-- ---- any other text opens nothing

misspelt : prints (bytes "open,5,7,2,4,B,8,B,8,0,Never,10,5\ndeadline\n") ≡ text_from 0 (Call.Refused 30 ∷ Call.Refused 30 ∷ [])
unfolding calls timeout open_of is_open opening_of limits_of timers_of smallest_of lines_in bytes answer_of answered first has_notes
misspelt = (by_line (bytes "open,5,7,2,4,B,8,B,8,0,Never,10,5\ndeadline\n")).printed
