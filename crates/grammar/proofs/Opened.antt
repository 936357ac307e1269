-- A first line that is answered ok leaves the runner that open gives, and its card prints from there.
use Rattle.std.specs.Prelude.{Option, Result, Some, None, Ok, Err}
use Rattle.exec.specs.declared.Refusal.{Refusal}
use mathlib.Core.Bool.{Bool, true, false, cond}
use mathlib.Core.Path.{◌≡◌, refl, ap, ◌∙◌}
use mathlib.Core.List.{List, ◌∷◌}
use mathlib.Core.Logic.{◌⊎◌, inl, inr}
use Prim.Native.Nat.{ℕ}
use Rattle.exec.specs.Refusal.{number}
use Rattle.calls.specs.Call as Call
use Rattle.calls.specs.Call.{Conf, Answer, is_refused}
use Rattle.account.specs.Claim.{Opens}
use Rattle.account.specs.Step as Step
use Rattle.account.specs.Step.{State}
use Rattle.syntax.specs.Lines.{zeros}
use Rattle.opening.specs.Open.{Opening, line_open}
use Rattle.textlines.specs.Lines.{lines_in}
use Rattle.grammar.specs.Feed.{First, Running, Answered, prints, is_short, answer_of, answered, opened_by, first, too_long}
use Rattle.grammar.specs.ByLine.{answers_from, text_from}
use Rattle.grammar.proofs.ByLine.{by_line}

-- a first line that is answered ok
pub record Opened (line : List ℕ) : Type 0 where
  pub given : Opening
  pub short : is_short line ≡ true
  pub reads : line_open line ≡ Some given
  pub opens : Opens given.conf given.now (zeros 65536) (zeros 1024)

accepted : (r : Result (Unit {0}) Refusal) (o : Opening) → (opened_by r o).answer ≡ Call.Ok → r ≡ Ok tt
accepted (Ok tt) o e = refl
accepted (Err x) o e = cc

pub opened_so : (line : List ℕ) → (answer_of First line).answer ≡ Call.Ok → Opened line
unfolding answer_of answered first too_long
opened_so line = by (is_short line) refl (line_open line) refl
  where
    by : (b : Bool) → is_short line ≡ b → (x : Option Opening) → line_open line ≡ x → (cond {A = Answered} b (first x) (too_long First)).answer ≡ Call.Ok → Opened line
    by true h None r e = cc
    by true h (Some o) r e = record { given = o; short = h; reads = r; opens = accepted _ o e }
    by false h x r e = cc

-- leaves the runner that open gives
pub first_line : (line : List ℕ) (x : Opened line)
    → answer_of First line ≡ record { stage = Running (Step.opened x.given.conf x.given.now (zeros 65536) (zeros 1024)); answer = Call.Ok }
unfolding answer_of answered first
first_line line x = rw (x.short, x.reads) (ap (λ (r : (Result (Unit {0}) Refusal)). opened_by r x.given) x.opens)

-- so its card prints ok and, from that runner on, the answers of its further lines
pub card_opened : (card line : List ℕ) (conf : Conf) (now : ℕ) (ls : List (List ℕ)) → lines_in card ≡ line ∷ ls → is_short line ≡ true
    → line_open line ≡ Some (record { conf = conf; now = now }) → Opens conf now (zeros 65536) (zeros 1024)
    → prints card ≡ text_from 0 (Call.Ok ∷ answers_from (Running (Step.opened conf now (zeros 65536) (zeros 1024))) ls)
card_opened card line conf now ls l h e o =
    (by_line card).printed
    ∙ ap (λ (x : List (List ℕ)). text_from 0 (answers_from First x)) l
    ∙ ap (λ (x : Answered). text_from 0 (x.answer ∷ answers_from x.stage ls)) (first_line line (record { given = record { conf = conf; now = now }; short = h; reads = e; opens = o }))

-- and one that is not is refused
pub first_either : (line : List ℕ) → ((answer_of First line).answer ≡ Call.Ok) ⊎ ((n : ℕ) × ((answer_of First line).answer ≡ Call.Refused n))
unfolding answer_of answered first too_long
first_either line = by (is_short line) (line_open line)
  where
    met : (o : Opening) (r : Result (Unit {0}) Refusal) → ((opened_by r o).answer ≡ Call.Ok) ⊎ ((n : ℕ) × ((opened_by r o).answer ≡ Call.Refused n))
    met o (Ok tt) = inl refl
    met o (Err x) = inr (number x, refl)

    by : (b : Bool) (x : Option Opening) → ((cond {A = Answered} b (first x) (too_long First)).answer ≡ Call.Ok) ⊎ ((n : ℕ) × ((cond {A = Answered} b (first x) (too_long First)).answer ≡ Call.Refused n))
    by true None = inr (30, refl)
    by true (Some o) = met o _
    by false x = inr (30, refl)
