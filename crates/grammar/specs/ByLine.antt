-- A card line by line: its lines, the calls that they make of the runner, and their answers, each where the one before it left the
-- session.
use Rattle.std.specs.Prelude.{cond, ◌≡◌, List, [], ◌∷◌, ◌++◌, ℕ, ◌+◌, Option, Some, None}
use Rattle.calls.specs.Call as Call
use Rattle.calls.specs.Call.{Call, Answer}
use Rattle.account.specs.Step.{State, next, answer}
use Rattle.textlines.specs.Lines.{lines_in}
use Rattle.syntax.specs.Lines.{line_call}
use Rattle.syntax.specs.Answers.{line_text}
use Rattle.grammar.specs.Feed.{Stage, First, Running, Over, start, is_short, answer_of, feeds, ended, prints}

-- ---- calls and answers

-- the call that a line says, if any
abbrev pub call_said : (line : List ℕ) → Option Call
call_said line = cond (is_short line) (line_call line) None

-- what it leaves and is answered: a line that says no call is 30
abbrev pub next_by : State → Option Call → State
next_by s None = s
next_by s (Some c) = next s c

abbrev pub answer_by : State → Option Call → Answer
answer_by s None = Call.Refused 30
answer_by s (Some c) = answer s c

-- ONCE A RUNNER IS OPEN A LINE MAKES THE CALL THAT IT SAYS, whatever was called before it and at whatever time
abbrev pub LaterLine : Type 0
LaterLine = (s : State) (line : List ℕ)
    → answer_of (Running s) line ≡ record { stage = Running (next_by s (call_said line)); answer = answer_by s (call_said line) }

-- the call that it makes at a stage
abbrev pub call_in : Stage → (line : List ℕ) → Option Call
call_in First line = None
call_in (Running s) line = call_said line
call_in Over line = None

-- a line that was answered
pub record Line : Type 0 where
  pub call : Option Call
  pub answer : Answer

-- lines from a stage on, and the stage behind them
abbrev pub lines_from : Stage → (lines : List (List ℕ)) → List Line
lines_from x [] = []
lines_from x (l ∷ ls) = record { call = call_in x l; answer = (answer_of x l).answer } ∷ lines_from (answer_of x l).stage ls

abbrev pub stage_after : Stage → (lines : List (List ℕ)) → Stage
stage_after x [] = x
stage_after x (l ∷ ls) = stage_after (answer_of x l).stage ls

abbrev pub answers_of : List Line → List Answer
answers_of [] = []
answers_of (l ∷ ls) = l.answer ∷ answers_of ls

abbrev pub answers_from : Stage → (lines : List (List ℕ)) → List Answer
answers_from x ls = answers_of (lines_from x ls)

-- what is printed of answers, after the first n
abbrev pub text_from : (n : ℕ) → List Answer → List ℕ
text_from n [] = []
text_from n (a ∷ rest) = line_text (n + 1) a ++ text_from (n + 1) rest

-- EVERY CARD IS ITS LINES: IT PRINTS WHAT THEY ARE ANSWERED, AND ENDS WHERE THEY LEAVE THE SESSION
pub record ByLine (card : List ℕ) : Type 0 where
  pub printed : prints card ≡ text_from 0 (answers_from First (lines_in card))
  pub stage : (ended (feeds start card).session).stage ≡ stage_after First (lines_in card)
