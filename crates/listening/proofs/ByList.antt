-- A log is its lines; the log of a list is judged as the list; lists make no difference to each other.
use Rattle.std.specs.Prelude.{Bool, true, false, cond, ◌≡◌, refl, List, [], ◌∷◌, ◌++◌, ℕ, suc, ◌+◌, ◌-◌, ◌^◌, ◌≤◌, ◌<◌, eqb, ltb, length, take, map, Option, Result, Some, None, Ok, Err}
use Rattle.std.proofs.Common.{sym, ap, ◌∙◌, arith, append_assoc, append-nil, length-append, length-take-le, take_all, lt-ltb, le-ltb, ne_eqb}
use Rattle.std.proofs.lemmas.List.{take-append-le}
use Rattle.std.proofs.lemmas.Bool.{false≢true}
use Rattle.std.proofs.Math.Decide.{dec_lt}
use Rattle.exec.specs.declared.Limits.{Limits}
use Rattle.exec.specs.declared.Refusal.{Refusal}
use Rattle.exec.specs.Limits.{is_valid}
use Rattle.textlines.specs.Lines.{start_with, lines_in}
use Rattle.judge.specs.declared.Item.{Item}
use Rattle.judge.specs.declared.Judge.{Judge}
use Rattle.judge.specs.Judge.{new_judge, hear, after, first, first_by}
use Rattle.listening.specs.declared.lines.Line.{Line}
use Rattle.listening.specs.declared.stage.Stage.{Stage}
use Rattle.listening.specs.declared.stage.Verdict.{Verdict}
use Rattle.listening.specs.Log.{Listening, Step, line_most, read, more, begun, begun_by, judged_by, accepted, last, heard, refused_text, verdict_text, said_text, heard_text, hold, line_ends, eat, feeds, ended, ends, prints}
use Rattle.listening.specs.ByList.{read_line, lines_print, ahead_by, heard_ahead, verdict_by, verdict_of, item_line, Parted, FirstRefused, ByLine, Judged, BadLine, Apart}

-- ---- a log is its lines

begun_line : (n : ℕ) → eqb (suc n) 0 ≡ false
begun_line n = ne_eqb (suc n) 0 (omega arith)

-- the lines of a text with what is held of the first in front
cut_from : (held log : List ℕ) → List (List ℕ)
cut_from held [] = cond (eqb (length held) 0) [] (held ∷ [])
cut_from held (b ∷ log) = cond (eqb b 10) (held ∷ cut_from [] log) (cut_from (held ++ (b ∷ [])) log)

put_first : (held : List ℕ) → List (List ℕ) → List (List ℕ)
put_first [] ls = ls
put_first (h ∷ held) [] = (h ∷ held) ∷ []
put_first (h ∷ held) (l ∷ ls) = ((h ∷ held) ++ l) ∷ ls

cut_is : (held log : List ℕ) → cut_from held log ≡ put_first held (lines_in log)
unfolding lines_in cut_from put_first
cut_is [] [] = refl
cut_is (h ∷ held) [] = rw (begun_line (length held)) refl
cut_is held (b ∷ log) = by (eqb b 10) held (lines_in log) (cut_is [] log) (cut_is (held ++ (b ∷ [])) log)
  where
    more : (held : List ℕ) (ls : List (List ℕ)) → put_first (held ++ (b ∷ [])) ls ≡ put_first held (start_with b ls)
    more [] [] = refl
    more [] (l ∷ ls) = refl
    more (h ∷ held) [] = refl
    more (h ∷ held) (l ∷ ls) = ap (λ (t : List ℕ). (h ∷ t) ∷ ls) (append_assoc held (b ∷ []) l)

    ended : (held : List ℕ) (ls : List (List ℕ)) → held ∷ ls ≡ put_first held ([] ∷ ls)
    ended [] ls = refl
    ended (h ∷ held) ls = ap (λ (t : List ℕ). (h ∷ t) ∷ ls) (sym (append-nil held))

    by : (e : Bool) (held : List ℕ) (ls : List (List ℕ)) → cut_from [] log ≡ ls → cut_from (held ++ (b ∷ [])) log ≡ put_first (held ++ (b ∷ [])) ls
        → cond e (held ∷ cut_from [] log) (cut_from (held ++ (b ∷ [])) log) ≡ put_first held (cond e ([] ∷ ls) (start_with b ls))
    by true held ls p q = ap (λ (t : List (List ℕ)). held ∷ t) p ∙ ended held ls
    by false held ls p q = q ∙ more held ls

-- a stage, and what is held of a line
abbrev holding : Stage → (held : List ℕ) → Listening
holding s held = record { stage = s; held = take line_most held; long = ltb line_most (length held) }

short : (held : List ℕ) → length held ≤ line_most → take line_most held ≡ held
short held h = take_all line_most held h

one_more : (held : List ℕ) (b : ℕ) → length (held ++ (b ∷ [])) ≡ length held + 1
one_more held b = length-append held (b ∷ [])

hold_one : (s : Stage) (held : List ℕ) (b : ℕ) → hold b (holding s held) ≡ holding s (held ++ (b ∷ []))
unfolding hold
hold_one s held b =
    elim (dec_lt (length held) line_most) [
      | yes h ↦
          rw
          (short held (omega arith), lt-ltb (length held) line_most h, le-ltb line_most (length held) (omega arith), one_more held b, le-ltb line_most (length held + 1) (omega arith), short (held ++ (b ∷ [])) (omega (arith, one_more held b)))
          refl
      | no h ↦
          let l : length (take line_most held) ≡ line_most = length-take-le line_most held (omega arith) in
          rw
          (take-append-le line_most held (b ∷ []) (omega arith), one_more held b, lt-ltb line_most (length held + 1) (omega arith), le-ltb (length (take line_most held)) line_most (omega arith))
          refl
    ]

read_held : (held : List ℕ) → read (ltb line_most (length held)) (take line_most held) ≡ read_line held
unfolding read
read_held held =
    elim (dec_lt line_most (length held)) [
      | yes h ↦ rw (lt-ltb line_most (length held) h) refl
      | no h ↦ ap (read (ltb line_most (length held))) (short held (omega arith))
    ]

-- the line that is held ends
ends_held : (s : Stage) (held : List ℕ)
    → line_ends (holding s held) ≡ record { listening = holding (heard s (read_line held)).stage []; printed = heard_text (heard s (read_line held)) }
unfolding line_ends
ends_held s held = ap (λ (x : Line). record { listening = holding (heard s x).stage []; printed = heard_text (heard s x) }) (read_held held)

abbrev Feeds : List ℕ → Type 0
Feeds log = (s : Stage) (held : List ℕ)
    → (feeds (holding s held) log).printed ++ ends (feeds (holding s held) log).listening ≡ lines_print s (map read_line (cut_from held log))

feeds_none : Feeds []
unfolding feeds ends ended cut_from lines_print
feeds_none s [] = refl
feeds_none s (b ∷ held) =
    rw
    (begun_line (length (take (line_most - 1) held)), begun_line (length held))
    (ap (λ (x : Step). x.printed ++ said_text (last x.listening.stage)) (ends_held s (b ∷ held)))

feeds_more : (b : ℕ) (log : List ℕ) → Feeds log → Feeds (b ∷ log)
unfolding feeds eat cut_from lines_print
feeds_more b log f s held = by (eqb b 10)
  where
    on : Step → List ℕ
    on x = (x.printed ++ (feeds x.listening log).printed) ++ ends (feeds x.listening log).listening

    by : (e : Bool) → on (cond e (line_ends (holding s held)) (record { listening = hold b (holding s held); printed = [] }))
        ≡ lines_print s (map read_line (cond e (held ∷ cut_from [] log) (cut_from (held ++ (b ∷ [])) log)))
    by true =
        ap on (ends_held s held)
        ∙ append_assoc (heard_text (heard s (read_line held))) _ _
        ∙ ap (λ (t : List ℕ). heard_text (heard s (read_line held)) ++ t) (f (heard s (read_line held)).stage [])
    by false = ap (λ (x : Listening). (feeds x log).printed ++ ends (feeds x log).listening) (hold_one s held b) ∙ f s (held ++ (b ∷ []))

all_feeds : (log : List ℕ) → Feeds log
all_feeds [] = feeds_none
all_feeds (b ∷ log) = feeds_more b log (all_feeds log)

pub by_line : ByLine
unfolding prints put_first
by_line log = all_feeds log Stage.Before [] ∙ ap (λ (ls : List (List ℕ)). lines_print Stage.Before (map read_line ls)) (cut_is [] log)

-- ---- a list

-- where a list is skipped, what stands in it says nothing
skipped : {A : Type 0} (f : A → Option Item) (xs : List A) → lines_print Stage.Skipped (map (λ x. Line.Says (f x)) xs) ≡ []
unfolding lines_print
skipped f [] = refl
skipped f (x ∷ xs) = skipped f xs

counted : (n : ℕ) → n + 1 < 2 ^ 64 → more n ≡ n + 1
counted n h = omega arith

hears : (j : Judge) (n : ℕ) (xs : List Item) → n + length xs < 2 ^ 64
    → lines_print (Stage.Hearing j n) (map item_line xs) ≡ verdict_text (verdict_by (first j xs) (n + length xs) (n + heard_ahead j xs))
unfolding lines_print heard_ahead
hears j n [] h = ap (λ (k : ℕ). verdict_text (Verdict.Accepted k)) (omega arith)
hears j n (x ∷ xs) h = by (hear j x).answer (hears (hear j x).judge (n + 1) xs (omega arith))
  where
    by : (r : Result (Unit {0}) Refusal)
        → lines_print (Stage.Hearing (hear j x).judge (n + 1)) (map item_line xs)
        ≡ verdict_text (verdict_by (first (hear j x).judge xs) (n + 1 + length xs) (n + 1 + heard_ahead (hear j x).judge xs))
        → heard_text (judged_by r (hear j x).judge (more n)) ++ lines_print (judged_by r (hear j x).judge (more n)).stage (map item_line xs)
        ≡ verdict_text (verdict_by (first_by r (first (hear j x).judge xs)) (n + length (x ∷ xs)) (n + ahead_by r (heard_ahead (hear j x).judge xs)))
    by (Ok u) f =
        ap (λ (i : ℕ). lines_print (Stage.Hearing (hear j x).judge i) (map item_line xs)) (counted n (omega arith))
        ∙ f
        ∙ ap (λ (i : ℕ). verdict_text (verdict_by (first (hear j x).judge xs) i (n + 1 + heard_ahead (hear j x).judge xs))) (omega arith)
        ∙ ap (λ (i : ℕ). verdict_text (verdict_by (first (hear j x).judge xs) (n + length (x ∷ xs)) i)) (omega arith)
    by (Err r) f =
        let m : more n ≡ n + 0 + 1 = omega arith in
        ap (λ (t : List ℕ). verdict_text (Verdict.Refused r (more n)) ++ t) (skipped Some xs)
        ∙ append-nil (verdict_text (Verdict.Refused r (more n)))
        ∙ ap (λ (i : ℕ). verdict_text (Verdict.Refused r i)) m

begins : (l : Limits) → is_valid l ≡ true → heard Stage.Before (Line.Begins (Some l)) ≡ record { stage = Stage.Hearing (new_judge l) 0; ended = None; said = None }
unfolding begun
begins l h = rw h refl

hears_all : (l : Limits) (xs : List Item) → length xs < 2 ^ 64
    → lines_print (Stage.Hearing (new_judge l) 0) (map item_line xs) ≡ verdict_text (verdict_of (new_judge l) xs)
hears_all l xs few =
    let j = new_judge l in
    hears j 0 xs (omega (arith, few))
    ∙ ap (λ (i : ℕ). verdict_text (verdict_by (first j xs) i (0 + heard_ahead j xs))) (omega arith)
    ∙ ap (λ (i : ℕ). verdict_text (verdict_by (first j xs) (length xs) i)) (omega arith)

pub judged : Judged
unfolding lines_print
judged log line lines l xs cut read_as valid items few =
    by_line log
    ∙ ap (λ (t : List (List ℕ)). lines_print Stage.Before (map read_line t)) cut
    ∙ rw (read_as, begins l valid, items) (hears_all l xs few)

abbrev is_ok : Result (Unit {0}) Refusal → Bool
is_ok (Ok u) = true
is_ok (Err r) = false

-- items that are heard, and lines behind them
heard_before : (j : Judge) (n : ℕ) (xs : List Item) (tail : List Line) → first j xs ≡ Ok tt → n + length xs < 2 ^ 64
    → lines_print (Stage.Hearing j n) (map item_line xs ++ tail) ≡ lines_print (Stage.Hearing (after j xs) (n + length xs)) tail
unfolding lines_print
heard_before j n [] tail e h = ap (λ (i : ℕ). lines_print (Stage.Hearing j i) tail) (omega arith)
heard_before j n (x ∷ xs) tail e h =
    by (hear j x).answer e (λ e. heard_before (hear j x).judge (n + 1) xs tail e (omega arith))
  where
    by : (r : Result (Unit {0}) Refusal) → first_by r (first (hear j x).judge xs) ≡ Ok tt
        → (first (hear j x).judge xs ≡ Ok tt
        → lines_print (Stage.Hearing (hear j x).judge (n + 1)) (map item_line xs ++ tail)
        ≡ lines_print (Stage.Hearing (after (hear j x).judge xs) (n + 1 + length xs)) tail)
        → heard_text (judged_by r (hear j x).judge (more n)) ++ lines_print (judged_by r (hear j x).judge (more n)).stage (map item_line xs ++ tail)
        ≡ lines_print (Stage.Hearing (after (hear j x).judge xs) (n + length (x ∷ xs))) tail
    by (Ok u) e f =
        ap (λ (i : ℕ). lines_print (Stage.Hearing (hear j x).judge i) (map item_line xs ++ tail)) (counted n (omega arith))
        ∙ f e
        ∙ ap (λ (i : ℕ). lines_print (Stage.Hearing (after (hear j x).judge xs) i) tail) (omega arith)
    by (Err r) e f = absurd (false≢true (ap is_ok e))

bad_behind : (l : Limits) (xs : List Item) (rest : List (Option Item)) → first (new_judge l) xs ≡ Ok tt → length xs + 1 < 2 ^ 64
    → lines_print (Stage.Hearing (new_judge l) 0) (map item_line xs ++ (Line.Says None ∷ map Line.Says rest)) ≡ refused_text Refusal.BadLine (length xs + 1)
unfolding lines_print
bad_behind l xs rest e h =
    let m : more (0 + length xs) ≡ length xs + 1 = omega arith in
    heard_before (new_judge l) 0 xs (Line.Says None ∷ map Line.Says rest) e (omega arith)
    ∙ ap (λ (t : List ℕ). refused_text Refusal.BadLine (more (0 + length xs)) ++ t) (skipped (λ x. x) rest)
    ∙ append-nil (refused_text Refusal.BadLine (more (0 + length xs)))
    ∙ ap (refused_text Refusal.BadLine) m

pub bad_line : BadLine
unfolding lines_print
bad_line log line lines l xs rest cut read_as valid items all few =
    by_line log
    ∙ ap (λ (t : List (List ℕ)). lines_print Stage.Before (map read_line t)) cut
    ∙ rw (read_as, begins l valid, items) (bad_behind l xs rest all few)

-- the first refused item
pub first_refused : FirstRefused
unfolding heard_ahead
first_refused j [] r e = absurd (false≢true (sym (ap is_ok e)))
first_refused j (x ∷ xs) r e = by (hear j x).answer refl e (λ e. first_refused (hear j x).judge xs r e)
  where
    by : (a : Result (Unit {0}) Refusal) → (hear j x).answer ≡ a → first_by a (first (hear j x).judge xs) ≡ Err r
        → (first (hear j x).judge xs ≡ Err r → Parted (hear j x).judge xs r) → Parted j (x ∷ xs) r
    by (Ok u) w e f =
        let p = f e in
        record {
          before = x ∷ p.before;
          item = p.item;
          behind = p.behind;
          whole = ap (λ (t : List Item). x ∷ t) p.whole;
          heard = rw w p.heard;
          refused = p.refused;
          place = rw w (ap (λ (k : ℕ). k + 1) p.place ∙ omega arith);
        }
    by (Err q) w e f = record {
      before = [];
      item = x;
      behind = xs;
      whole = refl;
      heard = refl;
      refused = w ∙ e;
      place = rw w refl;
    }

-- ---- lists

-- limits say the same of their own list, whatever list they end
begun_text : (e : Option Verdict) (l : Option Limits) → heard_text (begun e l) ≡ said_text e ++ heard_text (begun None l)
unfolding begun
begun_text e None = refl
begun_text e (Some l) = by (is_valid l)
  where
    by : (b : Bool) → heard_text (begun_by b l e) ≡ said_text e ++ heard_text (begun_by b l None)
    by true = refl
    by false = refl

begun_stage : (e : Option Verdict) (l : Option Limits) → (begun e l).stage ≡ (begun None l).stage
unfolding begun
begun_stage e None = refl
begun_stage e (Some l) = by (is_valid l)
  where
    by : (b : Bool) → (begun_by b l e).stage ≡ (begun_by b l None).stage
    by true = refl
    by false = refl

-- behind a line no log stands before its first
abbrev is_before : Stage → Bool
is_before Stage.Before = true
is_before _ = false

moved : (s : Stage) (x : Line) → is_before (heard s x).stage ≡ false
unfolding begun
moved s (Line.Begins None) = refl
moved s (Line.Begins (Some l)) = by (is_valid l)
  where
    by : (b : Bool) → is_before (begun_by b l (accepted s)).stage ≡ false
    by true = refl
    by false = refl
moved Stage.Before (Line.Says x) = refl
moved (Stage.Hearing j n) (Line.Says None) = refl
moved (Stage.Hearing j n) (Line.Says (Some x)) = by (hear j x).answer
  where
    by : (r : Result (Unit {0}) Refusal) → is_before (judged_by r (hear j x).judge (more n)).stage ≡ false
    by (Ok u) = refl
    by (Err r) = refl
moved Stage.Skipped (Line.Says x) = refl

at_end : (s : Stage) → is_before s ≡ false → accepted s ≡ last s
at_end Stage.Before h = absurd (false≢true (sym h))
at_end (Stage.Hearing j n) h = refl
at_end Stage.Skipped h = refl

-- so what is said of a list where the input ends is said where other limits begin
behind : (s : Stage) (xs : List Line) (l : Option Limits) (ys : List Line) → is_before s ≡ false
    → lines_print s (xs ++ (Line.Begins l ∷ ys)) ≡ lines_print s xs ++ lines_print Stage.Before (Line.Begins l ∷ ys)
unfolding lines_print
behind s [] l ys h =
    rw
    (begun_text (accepted s) l, begun_stage (accepted s) l, at_end s h)
    (append_assoc (said_text (last s)) (heard_text (begun None l)) (lines_print (begun None l).stage ys))
behind s (x ∷ xs) l ys h =
    ap (λ (t : List ℕ). heard_text (heard s x) ++ t) (behind (heard s x).stage xs l ys (moved s x))
    ∙ sym (append_assoc (heard_text (heard s x)) (lines_print (heard s x).stage xs) (lines_print Stage.Before (Line.Begins l ∷ ys)))

pub apart : Apart
unfolding lines_print
apart x xs l ys =
    ap (λ (t : List ℕ). heard_text (heard Stage.Before x) ++ t) (behind (heard Stage.Before x).stage xs l ys (moved Stage.Before x))
    ∙ sym (append_assoc (heard_text (heard Stage.Before x)) (lines_print (heard Stage.Before x).stage xs) (lines_print Stage.Before (Line.Begins l ∷ ys)))
