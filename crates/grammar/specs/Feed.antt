-- A session that is fed bytes: each line is answered where it ends. The program lends 65,536 bytes and 1,024 lengths.
use Rattle.std.specs.Prelude.{Bool, cond, ◌≡◌, refl, List, [], ◌∷◌, ◌++◌, ℕ, ◌+◌, eqb, ltb, leb, length, Option, Result, Some, None, Ok, Err}
use Rattle.std.proofs.Common.{sym, ap, ◌∙◌, append_assoc}
use Rattle.exec.specs.declared.Refusal.{Refusal}
use Rattle.runner.specs.Calls as Calls
use Rattle.calls.specs.Call as Call
use Rattle.calls.specs.Call.{Call, Answer}
use Rattle.account.specs.Step.{State, replied, next, answer, opened}
use Rattle.opening.specs.Open.{Opening, line_open}
use Rattle.syntax.specs.Lines.{line_call, zeros}
use Rattle.syntax.specs.Answers.{line_text}

-- where a session stands: before its first line; with a runner; or without one, where every line is 30
pub data Stage : Type 0 where
  First : Stage
  Running : State → Stage
  Over : Stage

pub record Session : Type 0 where
  pub stage : Stage
  pub lines : ℕ  -- answered so far
  pub held : List ℕ  -- of the line that has not ended: at most 65,536 bytes, which are too many already

abbrev pub start : Session
start = record { stage = First; lines = 0; held = [] }

-- what a step leaves, and what it prints
pub record Step : Type 0 where
  pub session : Session
  pub printed : List ℕ

-- ---- a line

-- what a line makes of the stage, and its answer
pub record Answered : Type 0 where
  pub stage : Stage
  pub answer : Answer

abbrev pub bad : Stage → Answered
bad x = record { stage = x; answer = Call.Refused 30 }

-- open is first and only first; where line 1 opened no runner, every later line is 30
abbrev pub opened_by : Result (Unit {0}) Refusal → Opening → Answered
opened_by (Ok tt) o =
    record { stage = Running (opened o.conf o.now (zeros 65536) (zeros 1024)); answer = Call.Ok }
opened_by (Err x) o = record { stage = Over; answer = replied (Err x) }

unfoldable pub first : Option Opening → Answered
first None = bad Over
first (Some o) =
    opened_by (Calls.«open» o.conf.key o.conf.limits o.conf.timers o.conf.smallest o.now (zeros 65536) (zeros 1024)).answer o

-- 30 before the runner's own; a call's time may be any
unfoldable pub later : Option Call → State → Answered
later None s = bad (Running s)
later (Some c) s = record { stage = Running (next s c); answer = answer s c }

unfoldable pub answered : Stage → (line : List ℕ) → Answered
answered First line = first (line_open line)
answered (Running s) line = later (line_call line) s
answered Over line = bad Over

-- a line that is too long is refused whole; it is the first line where it stands first
unfoldable pub too_long : Stage → Answered
too_long First = bad Over
too_long (Running s) = bad (Running s)
too_long Over = bad Over

-- a line has at most 65,535 bytes
abbrev pub is_short : (line : List ℕ) → Bool
is_short line = leb (length line) 65535

unfoldable pub answer_of : Stage → (line : List ℕ) → Answered
answer_of x line = cond (is_short line) (answered x line) (too_long x)

-- the line that is held, answered
unfoldable pub line_ends : Session → Step
line_ends s = record {
  session = record { stage = (answer_of s.stage s.held).stage; lines = s.lines + 1; held = [] };
  printed = line_text (s.lines + 1) (answer_of s.stage s.held).answer;
}

-- ---- bytes

abbrev pub hold : ℕ → List ℕ → List ℕ
hold b held = cond (ltb (length held) 65536) (held ++ (b ∷ [])) held

-- a byte: 0a ends a line
unfoldable pub eat : Session → ℕ → Step
eat s b =
    cond (eqb b 10) (line_ends s)
    (record { session = record { stage = s.stage; lines = s.lines; held = hold b s.held }; printed = [] })

-- bytes, one after the other
unfoldable pub feeds : Session → List ℕ → Step
feeds s [] = record { session = s; printed = [] }
feeds s (b ∷ rest) = record {
  session = (feeds (eat s b).session rest).session;
  printed = (eat s b).printed ++ (feeds (eat s b).session rest).printed;
}

-- the end of the input ends a line that has begun: the session after it, and what it prints
unfoldable pub ended : Session → Session
ended s = cond (eqb (length s.held) 0) s (line_ends s).session

unfoldable pub ends : Session → List ℕ
ends s = cond (eqb (length s.held) 0) [] (line_ends s).printed

-- what a card prints
unfoldable pub prints : (card : List ℕ) → List ℕ
prints card = (feeds start card).printed ++ ends (feeds start card).session

-- CUTTING THE INPUT INTO PIECES ANYWHERE MAKES NO DIFFERENCE
pub pieces : (s : Session) (a b : List ℕ)
    → ((feeds s (a ++ b)).session ≡ (feeds (feeds s a).session b).session)
    × ((feeds s (a ++ b)).printed ≡ (feeds s a).printed ++ (feeds (feeds s a).session b).printed)
unfolding feeds
pieces s [] b = (refl, refl)
pieces s (x ∷ a) b =
    let p = pieces (eat s x).session a b in (
      p.0,
      ap (λ (t : List ℕ). (eat s x).printed ++ t) p.1
          ∙ sym (append_assoc (eat s x).printed (feeds (eat s x).session a).printed (feeds (feeds (eat s x).session a).session b).printed),
    )
