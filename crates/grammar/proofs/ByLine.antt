-- A card is answered line by line, its last line too where no 0a ends it.
use Rattle.std.specs.Prelude.{Bool, true, false, cond, ◌≡◌, refl, List, [], ◌∷◌, ◌++◌, ℕ, suc, ◌+◌, eqb, length, take}
use Rattle.std.proofs.lemmas.Bool.{lt-leb}
use Rattle.std.proofs.Common.{sym, ap, ◌∙◌, append_assoc, append-nil, arith, lt-ltb, le-ltb, length-append, take_all, length-take-le}
use Rattle.std.proofs.Math.Decide.{dec_lt}
use Rattle.std.proofs.lemmas.List.{take-append-le}
use borrow.Author.Tests.{ne_eqb}
use mathlib.Core.Path.{subst}
use Rattle.syntax.specs.Answers.{line_text}
use Rattle.grammar.specs.Feed.{Stage, First, Session, Step, Answered, answer_of, line_ends, hold, eat, feeds, ended, ends, prints}
use Rattle.textlines.specs.Lines.{start_with, lines_in}
use Rattle.grammar.specs.ByLine.{stage_after, answers_from, text_from, ByLine}

-- ---- a line

-- of a line that is too long, as much is held as shows it
abbrev held_of : List ℕ → List ℕ
held_of l = take 65536 l

hold_on : (b : ℕ) (l : List ℕ) → hold b (held_of l) ≡ held_of (l ++ (b ∷ []))
hold_on b l =
    elim (dec_lt (length l) 65536) [
      | yes h ↦
          let all : held_of l ≡ l = take_all 65536 l (omega arith) in
          let more : length (l ++ (b ∷ [])) ≡ length l + 1 = length-append l (b ∷ []) in
          ap (hold b) all ∙ ap (λ (e : Bool). cond e (l ++ (b ∷ [])) l) (lt-ltb (length l) 65536 h) ∙ sym (take_all 65536 (l ++ (b ∷ [])) (omega arith))
      | no h ↦
          let full : length (held_of l) ≡ 65536 = length-take-le 65536 l (omega arith) in
          ap (λ (e : Bool). cond e (held_of l ++ (b ∷ [])) (held_of l)) (le-ltb (length (held_of l)) 65536 (omega arith)) ∙ sym (take-append-le 65536 l (b ∷ []) (omega arith))
    ]

-- a line is answered by what is held of it
held_answer : (x : Stage) (l : List ℕ) → answer_of x (held_of l) ≡ answer_of x l
unfolding answer_of
held_answer x l =
    elim (dec_lt (length l) 65536) [
      | yes h ↦ ap (answer_of x) (take_all 65536 l (omega arith))
      | no h ↦
          let full : length (held_of l) ≡ 65536 = length-take-le 65536 l (omega arith) in
          rw (lt-leb (length (held_of l)) 65535 (omega arith), lt-leb (length l) 65535 (omega arith)) refl
    ]

abbrev holding : Stage → (n : ℕ) (held : List ℕ) → Session
holding x n held = record { stage = x; lines = n; held = held }

-- a byte that is no end is held
kept : (x : Stage) (n b : ℕ) (p rest : List ℕ) → eqb b 10 ≡ false
    → feeds (holding x n (held_of p)) (b ∷ rest) ≡ feeds (holding x n (held_of (p ++ (b ∷ [])))) rest
unfolding feeds eat
kept x n b p rest h = rw h (ap (λ (q : List ℕ). feeds (holding x n q) rest) (hold_on b p))

-- its end answers it
abbrev answered_on : (n : ℕ) → Answered → (rest : List ℕ) → Step
answered_on n a rest = record {
  session = (feeds (holding a.stage (n + 1) []) rest).session;
  printed = line_text (n + 1) a.answer ++ (feeds (holding a.stage (n + 1) []) rest).printed;
}

line_ended : (x : Stage) (n b : ℕ) (l rest : List ℕ) → eqb b 10 ≡ true → feeds (holding x n (held_of l)) (b ∷ rest) ≡ answered_on n (answer_of x l) rest
unfolding feeds eat line_ends
line_ended x n b l rest h = rw h (ap (λ (a : Answered). answered_on n a rest) (held_answer x l))

-- ---- a card

-- the lines of a text, of whose first a part was held before
abbrev behind : (p : List ℕ) (lines : List (List ℕ)) → List (List ℕ)
behind p [] = cond (eqb (length p) 0) [] (p ∷ [])
behind p (l ∷ ls) = (p ++ l) ∷ ls

behind_none : (ls : List (List ℕ)) → behind [] ls ≡ ls
behind_none [] = refl
behind_none (l ∷ ls) = refl

behind_more : (p : List ℕ) (b : ℕ) (ls : List (List ℕ)) → behind (p ++ (b ∷ [])) ls ≡ behind p (start_with b ls)
behind_more p b [] =
    let n : length (p ++ (b ∷ [])) ≡ length p + 1 = length-append p (b ∷ []) in
    rw (n, ne_eqb (length p + 1) 0 (λ z. absurd (omega arith))) refl
behind_more p b (l ∷ ls) = ap (λ (q : List ℕ). q ∷ ls) (append_assoc p (b ∷ []) l)

-- what is printed of a text and its end, and the stage behind them
abbrev printed_of : Step → List ℕ
printed_of t = t.printed ++ ends t.session

abbrev stage_of : Step → Stage
stage_of t = (ended t.session).stage

abbrev Lines : (x : Stage) (n : ℕ) → Step → (lines : List (List ℕ)) → Type 0
Lines x n t ls = (printed_of t ≡ text_from n (answers_from x ls)) × (stage_of t ≡ stage_after x ls)

some : (n : ℕ) → eqb (suc n) 0 ≡ false
some n = ne_eqb (suc n) 0 (λ z. absurd (omega arith))

empty_take : (n : ℕ) (p : List ℕ) → eqb (length (take (suc n) p)) 0 ≡ eqb (length p) 0
empty_take n [] = refl
empty_take n (b ∷ p) = some (length (take n p)) ∙ sym (some (length p))

empty_held : (p : List ℕ) → eqb (length (held_of p)) 0 ≡ eqb (length p) 0
empty_held p = empty_take 65535 p

lines_end : (x : Stage) (n : ℕ) (p : List ℕ) → Lines x n (feeds (holding x n (held_of p)) []) (behind p [])
unfolding feeds ends ended line_ends
lines_end x n p = subst (λ (e : Bool). Lines x n (feeds (holding x n (held_of p)) []) (cond e [] (p ∷ []))) (empty_held p) (by (eqb (length (held_of p)) 0))
  where
    by : (e : Bool) → (cond e [] (line_text (n + 1) (answer_of x (held_of p)).answer) ≡ text_from n (answers_from x (cond e [] (p ∷ []))))
        × ((cond {A = Session} e (holding x n (held_of p)) (holding (answer_of x (held_of p)).stage (n + 1) [])).stage ≡ stage_after x (cond e [] (p ∷ [])))
    by true = (refl, refl)
    by false = rw (held_answer x p) (sym (append-nil _), refl)

lines_more : (x : Stage) (n : ℕ) (p text : List ℕ) → Lines x n (feeds (holding x n (held_of p)) text) (behind p (lines_in text))
unfolding lines_in
lines_more x n p [] = lines_end x n p
lines_more x n p (b ∷ text) = by (eqb b 10) refl (λ y m q. lines_more y m q text)
  where
    by : (e : Bool) → eqb b 10 ≡ e → ((y : Stage) (m : ℕ) (q : List ℕ) → Lines y m (feeds (holding y m (held_of q)) text) (behind q (lines_in text)))
        → Lines x n (feeds (holding x n (held_of p)) (b ∷ text)) (behind p (cond e ([] ∷ lines_in text) (start_with b (lines_in text))))
    by true q more =
        let a = answer_of x p in
        let h = rw (behind_none (lines_in text)) at (more a.stage (n + 1) []) in
        let s = feeds (holding a.stage (n + 1) []) text in
        let line = line_text (n + 1) a.answer in
        rw (line_ended x n b p text q, append-nil p) (append_assoc line s.printed (ends s.session) ∙ ap (λ (t : List ℕ). line ++ t) h.0, h.1)
    by false q more = rw (kept x n b p text q, ← behind_more p b (lines_in text)) (more x n (p ++ (b ∷ [])))

pub by_line : (card : List ℕ) → ByLine card
unfolding prints
by_line card =
    let h = rw (behind_none (lines_in card)) at (lines_more First 0 [] card) in
    record { printed = h.0; stage = h.1 }
