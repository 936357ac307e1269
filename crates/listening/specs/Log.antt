-- A log: lines of fields parted by commas, as on the session card. A line of limits begins a list; the others are its items, in order.
use Rattle.std.specs.Prelude.{Bool, true, false, cond, List, [], ◌∷◌, ◌++◌, ℕ, ◌+◌, ◌-◌, ◌^◌, min, eqb, ltb, length, Option, Result, Some, None, Ok, Err, option_map}
use Rattle.exec.specs.declared.Limits.{Limits}
use Rattle.exec.specs.declared.Refusal.{Refusal}
use Rattle.exec.specs.declared.Stream.{Stream}
use Rattle.exec.specs.declared.Window.{Window}
use Rattle.exec.specs.Limits.{is_valid, limits_for}
use Rattle.exec.specs.Refusal.{number}
use Rattle.decimal.specs.Decimal.{digits_of}
use Rattle.judge.specs.declared.Item.{Item}
use Rattle.judge.specs.declared.Judge.{Judge}
use Rattle.judge.specs.Judge.{new_judge, hear}
use Rattle.syntax.specs.Words.{bytes, same, stream, pool}
use Rattle.syntax.specs.Lines.{on, fields, u64, u32, digit, Entry, entry, find}
use Rattle.opening.specs.Open.{window}
use Rattle.listening.specs.declared.lines.Line.{Line}
use Rattle.listening.specs.declared.stage.Heard.{Heard}
use Rattle.listening.specs.declared.stage.Stage.{Stage}
use Rattle.listening.specs.declared.stage.Verdict.{Verdict}

-- ---- limits: the fields behind the word, which are CHUNK to SHARED of the card's first line

abbrev pub limits_by : (chunk : List ℕ) (input output : Option Window) (shared : List ℕ) → Option Limits
limits_by chunk input output shared =
    on (u32 chunk) λ c. on input λ i. on output λ o. on (digit shared) λ b. Some (limits_for c i o b)

-- limits,CHUNK,UNIT,SIZE,UNIT,SIZE,SHARED
unfoldable pub limits_of : List (List ℕ) → Option Limits
limits_of (c ∷ u ∷ n ∷ v ∷ m ∷ b ∷ []) = limits_by c (window u n) (window v m) b
limits_of _ = None

-- ---- items: a word, and the fields behind it

-- with none: the messages, as the card prints them behind the line's number
abbrev pub plain_items : List (Entry Item)
plain_items =
    entry (bytes "Started") Item.Started
    ∷ entry (bytes "InputClosed") Item.InputClosed
    ∷ entry (bytes "Terminal") Item.Terminal
    ∷ []

-- with one (an Output's word is its stream, and Notes is none: a log names two streams, as a card does)
abbrev pub input_of : List ℕ → Option Item
input_of a = option_map Item.Input (u64 a)

abbrev pub units_of : List ℕ → Option Item
units_of a = option_map Item.Credit (u32 a)

abbrev pub output_of : Stream → List ℕ → Option Item
output_of x a = option_map (Item.Output x) (u64 a)

abbrev pub end_of : List ℕ → Option Item
end_of a = option_map Item.End (stream a)

abbrev pub items1 : List (Entry (List ℕ → Option Item))
items1 =
    entry (bytes "input") input_of
    ∷ entry (bytes "Credit") units_of
    ∷ entry (bytes "Stdout") (output_of Stream.Stdout)
    ∷ entry (bytes "Stderr") (output_of Stream.Stderr)
    ∷ entry (bytes "End") end_of
    ∷ []

abbrev pub item1_of : (name a : List ℕ) → Option Item
item1_of name a = on (find name items1) λ f. f a

-- with two: credit that was granted
abbrev pub granted_of : (pool units : List ℕ) → Option Item
granted_of a b = on (pool a) λ p. on (u32 b) λ n. Some (Item.Granted p n)

abbrev pub items2 : List (Entry (List ℕ → List ℕ → Option Item))
items2 = entry (bytes "credit") granted_of ∷ []

abbrev pub item2_of : (name a b : List ℕ) → Option Item
item2_of name a b = on (find name items2) λ f. f a b

unfoldable pub item_of : (name : List ℕ) → (rest : List (List ℕ)) → Option Item
item_of name [] = find name plain_items
item_of name (a ∷ []) = item1_of name a
item_of name (a ∷ b ∷ []) = item2_of name a b
item_of name (a ∷ b ∷ c ∷ rest) = None

-- ---- a line: where its first field is `limits` it begins a list, however bad it is otherwise

abbrev pub is_limits : (name : List ℕ) → Bool
is_limits name = same name (bytes "limits")

unfoldable pub line_of : (fields : List (List ℕ)) → Line
line_of [] = Line.Says None
line_of (name ∷ rest) = cond (is_limits name) (Line.Begins (limits_of rest)) (Line.Says (item_of name rest))

-- the most bytes of a line; a longer one is a bad item, whatever it begins with
abbrev pub line_most : ℕ
line_most = 255

unfoldable pub read : (long : Bool) (held : List ℕ) → Line
read long held = cond long (Line.Says None) (line_of (fields held))

-- ---- where a log stands: before its first line; in a list, with its judge and how many items it heard; or where the rest of a list is
-- skipped

-- one item more; no run comes to the most that is counted
abbrev pub more : ℕ → ℕ
more n = min (n + 1) (2 ^ 64 - 1)

-- what a line leaves, and what is said of the list that it ends and of its own
abbrev pub goes_on : Stage → (ended : Option Verdict) → Heard
goes_on s e = record { stage = s; ended = e; said = None }

abbrev pub refused : (ended : Option Verdict) → Refusal → (place : ℕ) → Heard
refused e r n = record { stage = Stage.Skipped; ended = e; said = Some (Verdict.Refused r n) }

-- limits are item 0 of their list: bad ones 30, and 10 where one is 0
abbrev pub begun_by : (is_valid : Bool) → Limits → (ended : Option Verdict) → Heard
begun_by true l e = goes_on (Stage.Hearing (new_judge l) 0) e
begun_by false l e = refused e Refusal.NoLimits 0

unfoldable pub begun : (ended : Option Verdict) → Option Limits → Heard
begun e None = refused e Refusal.BadLine 0
begun e (Some l) = begun_by (is_valid l) l e

-- an item is heard by the judge of its list; what it refuses, and a bad line, ends what is heard of the list
abbrev pub judged_by : Result (Unit {0}) Refusal → Judge → (place : ℕ) → Heard
judged_by (Ok tt) j n = goes_on (Stage.Hearing j n) None
judged_by (Err r) j n = refused None r n

abbrev pub item_heard : Option Item → Judge → (heard : ℕ) → Heard
item_heard None j n = refused None Refusal.BadLine (more n)
item_heard (Some x) j n = judged_by (hear j x).answer (hear j x).judge (more n)

-- what stands ahead of any limits is a list that is refused by 30 at item 0
abbrev pub told : Stage → Option Item → Heard
told Stage.Before x = refused None Refusal.BadLine 0
told (Stage.Hearing j n) x = item_heard x j n
told Stage.Skipped x = goes_on Stage.Skipped None

-- what is said where a list ends
abbrev pub accepted : Stage → Option Verdict
accepted Stage.Before = None
accepted (Stage.Hearing j n) = Some (Verdict.Accepted n)
accepted Stage.Skipped = None

-- and where the input ends: one with no line at all is refused
abbrev pub last : Stage → Option Verdict
last Stage.Before = Some (Verdict.Refused Refusal.BadLine 0)
last (Stage.Hearing j n) = Some (Verdict.Accepted n)
last Stage.Skipped = None

abbrev pub heard : Stage → Line → Heard
heard s (Line.Begins l) = begun (accepted s) l
heard s (Line.Says x) = told s x

-- ---- what is printed: accepted,N or refused,NUMBER,N

abbrev pub accepted_text : ℕ → List ℕ
accepted_text n = bytes "accepted," ++ digits_of n ++ bytes "\n"

abbrev pub refused_text : Refusal → ℕ → List ℕ
refused_text r n = bytes "refused," ++ digits_of (number r) ++ bytes "," ++ digits_of n ++ bytes "\n"

abbrev pub verdict_text : Verdict → List ℕ
verdict_text (Verdict.Accepted n) = accepted_text n
verdict_text (Verdict.Refused r n) = refused_text r n

abbrev pub said_text : Option Verdict → List ℕ
said_text None = []
said_text (Some v) = verdict_text v

abbrev pub heard_text : Heard → List ℕ
heard_text h = said_text h.ended ++ said_text h.said

-- ---- bytes, one after the other

pub record Listening : Type 0 where
  pub stage : Stage
  pub held : List ℕ  -- of the line that has not ended, the first bytes
  pub long : Bool  -- whether it has more than are held

abbrev pub start : Listening
start = record { stage = Stage.Before; held = []; long = false }

-- what a step leaves, and what it prints
pub record Step : Type 0 where
  pub listening : Listening
  pub printed : List ℕ

abbrev pub quiet : Listening → Step
quiet s = record { listening = s; printed = [] }

unfoldable pub hold : ℕ → Listening → Listening
hold b s =
    cond (ltb (length s.held) line_most)
    (record { stage = s.stage; held = s.held ++ (b ∷ []); long = s.long })
    (record { stage = s.stage; held = s.held; long = true })

unfoldable pub line_ends : Listening → Step
line_ends s = record {
  listening = record { stage = (heard s.stage (read s.long s.held)).stage; held = []; long = false };
  printed = heard_text (heard s.stage (read s.long s.held));
}

-- 0a ends a line
unfoldable pub eat : Listening → ℕ → Step
eat s b = cond (eqb b 10) (line_ends s) (quiet (hold b s))

unfoldable pub feeds : Listening → List ℕ → Step
feeds s [] = quiet s
feeds s (b ∷ rest) = record {
  listening = (feeds (eat s b).listening rest).listening;
  printed = (eat s b).printed ++ (feeds (eat s b).listening rest).printed;
}

-- the end of the input ends a line that has begun, and the list that stands
unfoldable pub ended : Listening → Step
ended s = cond (eqb (length s.held) 0) (quiet s) (line_ends s)

unfoldable pub ends : Listening → List ℕ
ends s = (ended s).printed ++ said_text (last (ended s).listening.stage)

-- what a log prints
unfoldable pub prints : (log : List ℕ) → List ℕ
prints log = (feeds start log).printed ++ ends (feeds start log).listening
