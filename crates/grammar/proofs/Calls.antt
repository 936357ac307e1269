-- From any session: the runner and its stores after bytes are those after the calls that the bytes make, and what is printed are their answers.
use Rattle.std.specs.Prelude.{Bool, true, false, cond, ◌≡◌, refl, List, [], ◌∷◌, ◌++◌, ℕ, eqb, length, Option, Some, None}
use Rattle.std.proofs.Common.{sym, ap, ◌∙◌, append_assoc, append-nil}
use Rattle.calls.specs.Call.{Call, Done}
use Rattle.account.specs.Step.{State, next, answer, after, run}
use Rattle.account.specs.Records.{alike}
use Rattle.syntax.specs.Lines.{line_call}
use Rattle.grammar.specs.Feed.{Running, Session, Step, Answered, later, answered, too_long, is_short, answer_of, line_ends, hold, eat, feeds, ends}
use Rattle.grammar.specs.Calls.{made_of, line_calls, eat_calls, calls_of, IsRunning, Line, line_of, eat_lines, lines_of, text_of, dones_of, IsBad, Answers, BadUncalled}

-- ---- the runner

later_runs : (c : Option Call) (s : State) → IsRunning (later c s).stage (after s (made_of c))
unfolding later
later_runs None s = refl
later_runs (Some c) s = refl

line_runs : (s : State) (line : List ℕ) → IsRunning (answer_of (Running s) line).stage (after s (line_calls (Running s) line))
unfolding answer_of answered too_long
line_runs s line = by (is_short line)
  where
    by : (b : Bool) → IsRunning (cond {A = Answered} b (later (line_call line) s) (too_long (Running s))).stage (after s (cond b (made_of (line_call line)) []))
    by true = later_runs (line_call line) s
    by false = refl

-- one byte
eat_runs : (x : Session) (s : State) (b : ℕ) → IsRunning x.stage s → IsRunning (eat x b).session.stage (after s (eat_calls x b))
unfolding eat line_ends
eat_runs x s b r = by (eqb b 10)
  where
    held : IsRunning (answer_of x.stage x.held).stage (after s (line_calls x.stage x.held))
    held = rw r (line_runs s x.held)

    by : (e : Bool) → IsRunning (cond {A = Step} e (line_ends x) (record { session = record { stage = x.stage; lines = x.lines; held = hold b x.held }; printed = [] })).session.stage (after s (cond e (line_calls x.stage x.held) []))
    by true = held
    by false = r

after_append : (s : State) (a b : List Call) → after s (a ++ b) ≡ after (after s a) b
after_append s [] b = refl
after_append s (c ∷ a) b = after_append (next s c) a b

-- THE RUNNER AND ITS STORES AFTER A CARD ARE THOSE AFTER ITS CALLS
pub runs : (x : Session) (s : State) (bs : List ℕ) → IsRunning x.stage s → IsRunning (feeds x bs).session.stage (after s (calls_of x bs))
unfolding feeds calls_of
runs x s [] r = r
runs x s (b ∷ bs) r =
    rw (after_append s (eat_calls x b) (calls_of (eat x b).session bs))
    (runs (eat x b).session (after s (eat_calls x b)) bs (eat_runs x s b r))

-- ---- the answers

-- A CARD PRINTS THE ANSWERS OF ITS LINES
pub lines_printed : (x : Session) (bs : List ℕ) → (feeds x bs).printed ≡ text_of x.lines (lines_of x bs)
unfolding feeds lines_of eat line_ends
lines_printed x [] = refl
lines_printed x (b ∷ bs) = ap (λ (t : List ℕ). (eat x b).printed ++ t) (lines_printed (eat x b).session bs) ∙ by (eqb b 10) refl
  where
    by : (e : Bool) → eqb b 10 ≡ e
        → (eat x b).printed ++ text_of (eat x b).session.lines (lines_of (eat x b).session bs) ≡ text_of x.lines (eat_lines x b ++ lines_of (eat x b).session bs)
    by true h = rw h refl
    by false h = rw h refl

later_answers : (c : Option Call) (s : State) → Answers s (record { calls = made_of c; answer = (later c s).answer })
unfolding later
later_answers None s = record { called = refl; uncalled = λ e. (30, refl, refl) }
later_answers (Some c) s = record { called = refl; uncalled = λ e. cc }

line_answers : (s : State) (line : List ℕ) → Answers s (line_of (Running s) line)
unfolding answer_of answered too_long
line_answers s line = by (is_short line)
  where
    by : (b : Bool) → Answers s (record {
      calls = cond b (made_of (line_call line)) [];
      answer = (cond {A = Answered} b (later (line_call line) s) (too_long (Running s))).answer;
    })
    by true = later_answers (line_call line) s
    by false = record { called = refl; uncalled = λ e. (30, refl, refl) }

run_append : (s : State) (a b : List Call) → run s (a ++ b) ≡ run s a ++ run (after s a) b
run_append s [] b = refl
run_append s (c ∷ a) b = ap (λ (ds : List Done). record { call = c; answer = answer s c } ∷ ds) (run_append (next s c) a b)

dones_append : (a b : List Line) → dones_of (a ++ b) ≡ dones_of a ++ dones_of b
dones_append [] b = refl
dones_append (l ∷ a) b =
    ap (λ (ds : List Done). alike l.answer l.calls ++ ds) (dones_append a b) ∙ sym (append_assoc (alike l.answer l.calls) (dones_of a) (dones_of b))

eat_answers : (x : Session) (s : State) (b : ℕ) → IsRunning x.stage s → dones_of (eat_lines x b) ≡ run s (eat_calls x b)
eat_answers x s b r = by (eqb b 10)
  where
    held : alike (answer_of x.stage x.held).answer (line_calls x.stage x.held) ≡ run s (line_calls x.stage x.held)
    held = rw r (line_answers s x.held).called

    by : (e : Bool) → dones_of (cond e (line_of x.stage x.held ∷ []) []) ≡ run s (cond e (line_calls x.stage x.held) [])
    by true = append-nil _ ∙ held
    by false = refl

-- AND THE CALLS OF THE LINES ARE ANSWERED AS THE LIST OF CALLS IS
pub answers : (x : Session) (s : State) (bs : List ℕ) → IsRunning x.stage s → dones_of (lines_of x bs) ≡ run s (calls_of x bs)
unfolding lines_of calls_of
answers x s [] r = refl
answers x s (b ∷ bs) r =
    let rest = answers (eat x b).session (after s (eat_calls x b)) bs (eat_runs x s b r) in
    dones_append (eat_lines x b) (lines_of (eat x b).session bs)
    ∙ ap (λ (ds : List Done). ds ++ dones_of (lines_of (eat x b).session bs)) (eat_answers x s b r)
    ∙ ap (λ (ds : List Done). run s (eat_calls x b) ++ ds) rest
    ∙ sym (run_append s (eat_calls x b) (calls_of (eat x b).session bs))

-- AND A LINE WITHOUT A CALL IS REFUSED BY 30
pub uncalled : (x : Session) (s : State) (bs : List ℕ) → IsRunning x.stage s → BadUncalled (lines_of x bs)
unfolding lines_of
uncalled x s [] r = tt
uncalled x s (b ∷ bs) r = by (eqb b 10) (uncalled (eat x b).session (after s (eat_calls x b)) bs (eat_runs x s b r))
  where
    held : line_calls x.stage x.held ≡ [] → IsBad (answer_of x.stage x.held).answer
    held = rw r (line_answers s x.held).uncalled

    by : (e : Bool) → BadUncalled (lines_of (eat x b).session bs) → BadUncalled (cond e (line_of x.stage x.held ∷ []) [] ++ lines_of (eat x b).session bs)
    by true h = (held, h)
    by false h = h

-- the end of the input ends a line as 0a does, so the three hold of a last line without one too
pub ends_so : (x : Session) → eqb (length x.held) 0 ≡ false → ends x ≡ (feeds x (10 ∷ [])).printed
unfolding ends feeds eat
ends_so x h = rw h (sym (append-nil (line_ends x).printed))
