-- A log list by list: its lines, what they print, and what is said of a list of items; with the claims, which proofs/ByList proves.
use Rattle.std.specs.Prelude.{true, ◌≡◌, List, [], ◌∷◌, ◌++◌, ℕ, ◌+◌, ◌^◌, ◌<◌, ltb, length, map, Option, Result, Some, None, Ok, Err}
use Rattle.exec.specs.declared.Limits.{Limits}
use Rattle.exec.specs.declared.Refusal.{Refusal}
use Rattle.exec.specs.Limits.{is_valid}
use Rattle.textlines.specs.Lines.{lines_in}
use Rattle.judge.specs.declared.Item.{Item}
use Rattle.judge.specs.declared.Judge.{Judge}
use Rattle.judge.specs.Judge.{new_judge, hear, after, first}
use Rattle.listening.specs.declared.lines.Line.{Line}
use Rattle.listening.specs.declared.stage.Stage.{Stage}
use Rattle.listening.specs.declared.stage.Verdict.{Verdict}
use Rattle.listening.specs.Log.{line_most, read, last, heard, refused_text, verdict_text, said_text, heard_text, prints}

-- ---- the lines of a log

-- a line, which is a bad item where it is too long
abbrev pub read_line : (line : List ℕ) → Line
read_line line = read (ltb line_most (length line)) line

-- what lines print, one after the other, and behind them the end
unfoldable pub lines_print : Stage → List Line → List ℕ
lines_print s [] = said_text (last s)
lines_print s (x ∷ xs) = heard_text (heard s x) ++ lines_print (heard s x).stage xs

-- ---- a list of items

-- how many items a judge hears ahead of the first that it refuses
abbrev pub ahead_by : Result (Unit {0}) Refusal → (rest : ℕ) → ℕ
ahead_by (Ok tt) rest = rest + 1
ahead_by (Err r) rest = 0

unfoldable pub heard_ahead : Judge → List Item → ℕ
heard_ahead j [] = 0
heard_ahead j (x ∷ xs) = ahead_by (hear j x).answer (heard_ahead (hear j x).judge xs)

-- what is said of it: by the judge's first refusal, and where that is
abbrev pub verdict_by : (first : Result (Unit {0}) Refusal) → (whole ahead : ℕ) → Verdict
verdict_by (Ok tt) whole ahead = Verdict.Accepted whole
verdict_by (Err r) whole ahead = Verdict.Refused r (ahead + 1)

abbrev pub verdict_of : Judge → List Item → Verdict
verdict_of j xs = verdict_by (first j xs) (length xs) (heard_ahead j xs)

-- where an item is refused, the list is parted there: the judge hears the items before it, and refuses it behind them
pub record Parted (j : Judge) (xs : List Item) (r : Refusal) : Type 0 where
  pub before : List Item
  pub item : Item
  pub behind : List Item
  pub whole : xs ≡ before ++ (item ∷ behind)
  pub heard : first j before ≡ Ok tt
  pub refused : (hear (after j before) item).answer ≡ Err r
  pub place : heard_ahead j xs ≡ length before

-- a line that reads as an item
abbrev pub item_line : Item → Line
item_line x = Line.Says (Some x)

-- ---- THE CLAIMS

-- A LOG IS ITS LINES
abbrev pub ByLine : Type 0
ByLine = (log : List ℕ) → prints log ≡ lines_print Stage.Before (map read_line (lines_in log))

-- THE LOG OF A LIST IS JUDGED AS THE LIST: where its first line reads as valid limits and the others as items
abbrev pub Judged : Type 0
Judged = (log line : List ℕ) (lines : List (List ℕ)) (l : Limits) (xs : List Item)
    → lines_in log ≡ line ∷ lines
    → read_line line ≡ Line.Begins (Some l)
    → is_valid l ≡ true
    → map read_line lines ≡ map item_line xs
    → length xs < 2 ^ 64
    → prints log ≡ verdict_text (verdict_of (new_judge l) xs)

-- and the place that is said is that of the first refused item
abbrev pub FirstRefused : Type 0
FirstRefused = (j : Judge) (xs : List Item) (r : Refusal) → first j xs ≡ Err r → Parted j xs r

-- A BAD LINE BEHIND ITEMS THAT ARE HEARD is refused by 30 at its place, whatever stands behind it up to other limits
abbrev pub BadLine : Type 0
BadLine = (log line : List ℕ) (lines : List (List ℕ)) (l : Limits) (xs : List Item) (rest : List (Option Item))
    → lines_in log ≡ line ∷ lines
    → read_line line ≡ Line.Begins (Some l)
    → is_valid l ≡ true
    → map read_line lines ≡ map item_line xs ++ (Line.Says None ∷ map Line.Says rest)
    → first (new_judge l) xs ≡ Ok tt
    → length xs + 1 < 2 ^ 64
    → prints log ≡ refused_text Refusal.BadLine (length xs + 1)

-- LISTS MAKE NO DIFFERENCE TO EACH OTHER: where lines stand behind others and begin with limits, each prints what it prints alone
abbrev pub Apart : Type 0
Apart = (x : Line) (xs : List Line) (l : Option Limits) (ys : List Line)
    → lines_print Stage.Before (x ∷ xs ++ (Line.Begins l ∷ ys))
    ≡ lines_print Stage.Before (x ∷ xs) ++ lines_print Stage.Before (Line.Begins l ∷ ys)
