-- Texts as their lines, lines by where a session stands and how long they are, and the numbers of answers.
use Rattle.std.specs.Prelude.{◌≡◌, refl, List, [], ◌∷◌, ℕ, true, length}
use Rattle.calls.specs.Call as Call
use Rattle.calls.specs.Call.{Call}
use Rattle.decimal.specs.Decimal.{digits_of, digits_before}
use Rattle.syntax.specs.Answers.{line_text, answer_text}
use Rattle.syntax.specs.Table.{calls}
use Rattle.syntax.specs.Words.{bytes}
use Rattle.syntax.specs.Lines.{line_call}
use Rattle.opening.specs.Open.{open_of, is_open}
use Rattle.account.specs.Step.{State, next, answer}
use Rattle.grammar.specs.Feed.{Stage, First, Running, Over, bad, first, later, answered, too_long, is_short, answer_of}
use Rattle.textlines.specs.Lines.{lines_in}
use Rattle.grammar.specs.ByLine.{call_said, text_from}

-- 0a alone ends a line; a last line needs none, and behind a last 0a there is none
texts : (lines_in [] ≡ [])
    × (lines_in (bytes "\n") ≡ [] ∷ [])
    × (lines_in (bytes "ab") ≡ bytes "ab" ∷ [])
    × (lines_in (bytes "ab\n") ≡ bytes "ab" ∷ [])
    × (lines_in (bytes "ab\n\nc\r") ≡ bytes "ab" ∷ [] ∷ bytes "c\r" ∷ [])
unfolding lines_in bytes
texts = (refl, refl, refl, refl, refl)

-- a session's lines: open is first and only first; where line 1 opened no runner, every later line is 30
session_lines : (s : State)
    → (answered (Running s) (bytes "tick,x") ≡ bad (Running s))
    × (answered (Running s) (bytes "tick,9\r") ≡ bad (Running s))
    × (answered (Running s) (bytes "open,9,7,2,4,B,8,B,8,0,-,10,5") ≡ bad (Running s))
    × (answered First (bytes "tick,8") ≡ bad Over)
    × (answered Over (bytes "tick,9") ≡ bad Over)
unfolding calls open_of is_open answered first later
session_lines s = (refl, refl, refl, refl, refl)

-- of times no line remembers any: a tick at 8 behind a tick at 9 is the runner's own affair
times_fall : (s : State)
    → (answered (Running s) (bytes "tick,9") ≡ record { stage = Running (next s (Call.tick 9)); answer = answer s (Call.tick 9) })
    × (answered (Running (next s (Call.tick 9))) (bytes "tick,8") ≡ record { stage = Running (next (next s (Call.tick 9)) (Call.tick 8)); answer = answer (next s (Call.tick 9)) (Call.tick 8) })
unfolding calls answered later
times_fall s = (refl, refl)

-- a line of 65,536 bytes is refused whole, whatever it says
long_line : (s : State) (line : List ℕ) → length line ≡ 65536 → answer_of (Running s) line ≡ bad (Running s)
unfolding answer_of too_long
long_line s line e = rw e refl

-- one of 65,535 is not
whole_line : (x : Stage) (line : List ℕ) → length line ≡ 65535 → answer_of x line ≡ answered x line
unfolding answer_of
whole_line x line e = rw e refl

-- and it says the call that its words say, whole as they stand
says : (line : List ℕ) → is_short line ≡ true → call_said line ≡ line_call line
says line e = rw e refl

-- what is printed: answers are numbered from 1
numbered : text_from 0 (Call.Ok ∷ Call.Refused 30 ∷ []) ≡ bytes "1,ok,-,-\n2,refused,30,-\n"
unfolding bytes line_text answer_text digits_of digits_before
numbered = refl
