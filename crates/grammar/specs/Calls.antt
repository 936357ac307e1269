-- What bytes make of a runner is a list of calls, from any session: the runner and its stores after them are those after the calls, and the
-- answers that they print are theirs, line by line, but for the lines that are refused by 30 and make no call.
use Rattle.std.specs.Prelude.{true, cond, ◌≡◌, List, [], ◌∷◌, ◌++◌, ℕ, ◌+◌, eqb, Option, Some, None}
use Rattle.calls.specs.Call as Call
use Rattle.calls.specs.Call.{Call, Answer, Done}
use Rattle.account.specs.Step.{State, run}
use Rattle.account.specs.Records.{alike, among}
use Rattle.syntax.specs.Lines.{line_call}
use Rattle.syntax.specs.Answers.{line_text}
use Rattle.grammar.specs.Feed.{Stage, First, Running, Over, Session, is_short, answer_of, eat}

-- ---- the calls

-- of what a line says, if that is a call
abbrev pub made_of : Option Call → List Call
made_of None = []
made_of (Some c) = c ∷ []

-- of a line, once a runner is open
abbrev pub line_calls : Stage → (line : List ℕ) → List Call
line_calls First line = []
line_calls (Running s) line = cond (is_short line) (made_of (line_call line)) []
line_calls Over line = []

-- of a byte, and of bytes
abbrev pub eat_calls : Session → ℕ → List Call
eat_calls s b = cond (eqb b 10) (line_calls s.stage s.held) []

unfoldable pub calls_of : Session → List ℕ → List Call
calls_of s [] = []
calls_of s (b ∷ rest) = eat_calls s b ++ calls_of (eat s b).session rest

-- ---- the runner after them

-- a stage with a runner
abbrev pub IsRunning : Stage → State → Type 0
IsRunning x s = x ≡ Running s

-- ---- the answers

-- a line that ended: the call that it made, if any, and its answer
pub record Line : Type 0 where
  pub calls : List Call
  pub answer : Answer

abbrev pub line_of : Stage → (line : List ℕ) → Line
line_of x line = record { calls = line_calls x line; answer = (answer_of x line).answer }

-- of a byte, and of bytes
abbrev pub eat_lines : Session → ℕ → List Line
eat_lines s b = cond (eqb b 10) (line_of s.stage s.held ∷ []) []

unfoldable pub lines_of : Session → List ℕ → List Line
lines_of s [] = []
lines_of s (b ∷ rest) = eat_lines s b ++ lines_of (eat s b).session rest

-- what the lines after the first n print
abbrev pub text_of : (n : ℕ) → List Line → List ℕ
text_of n [] = []
text_of n (l ∷ ls) = line_text (n + 1) l.answer ++ text_of (n + 1) ls

-- the calls of the lines, each with its line's answer
abbrev pub dones_of : List Line → List Done
dones_of [] = []
dones_of (l ∷ ls) = alike l.answer l.calls ++ dones_of ls

-- what the card itself refuses a line by
abbrev pub of_lines : List ℕ
of_lines = 30 ∷ []

abbrev pub IsBad : Answer → Type 0
IsBad a = (n : ℕ) × (a ≡ Call.Refused n) × (among n of_lines ≡ true)

-- what a line of a session with a runner is answered: as its call, or by 30 where it makes none
pub record Answers (s : State) (l : Line) : Type 0 where
  pub called : alike l.answer l.calls ≡ run s l.calls
  pub uncalled : l.calls ≡ [] → IsBad l.answer

abbrev pub BadUncalled : List Line → Type 0
BadUncalled [] = Unit
BadUncalled (l ∷ ls) = (l.calls ≡ [] → IsBad l.answer) × BadUncalled ls
