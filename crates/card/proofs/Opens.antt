-- A runner that is open stays open, so that places one after the other are the last.
use Rattle.std.specs.Prelude.{Option, Some, None}
use mathlib.Core.Bool.{Bool, true, false, cond, true≢false}
use mathlib.Core.Path.{◌≡◌, refl, sym}
use mathlib.Core.List.{List, [], ◌∷◌}
use lib.Dec.{eqb, leb}
use lib.ListN.{length}
use Prim.Native.Nat.{ℕ}
use Rattle.calls.specs.Call.{Call}
use Rattle.account.specs.Step.{State}
use Rattle.syntax.specs.Lines.{line_call}
use Rattle.grammar.specs.Feed.{Session, later, answered, too_long, answer_of, line_ends, hold, eat, feeds}
use Rattle.grammar.specs.Feed as Feed
use Rattle.standing.specs.Standing.{Place, placed}

abbrev is_open : Feed.Stage → Bool
is_open Feed.First = false
is_open (Feed.Running s) = true
is_open Feed.Over = false

abbrev chosen : Bool → (x y : Feed.Answered) → Feed.Answered
chosen b x y = cond b x y

either : (b : Bool) (x y : Feed.Answered) → is_open x.stage ≡ true → is_open y.stage ≡ true → is_open (chosen b x y).stage ≡ true
either true x y h k = h
either false x y h k = k

later_open : (c : Option Call) (s : State) → is_open (later c s).stage ≡ true
unfolding later
later_open None s = refl
later_open (Some c) s = refl

answer_open : (x : Feed.Stage) (line : List ℕ) → is_open x ≡ true → is_open (answer_of x line).stage ≡ true
unfolding answer_of answered too_long
answer_open Feed.First line h = absurd (true≢false (sym h))
answer_open (Feed.Running s) line h = either (leb (length line) 65535) _ _ (later_open (line_call line) s) refl
answer_open Feed.Over line h = absurd (true≢false (sym h))

abbrev step_if : Bool → (x y : Feed.Step) → Feed.Step
step_if e x y = cond e x y

eat_open : (s : Session) (b : ℕ) → is_open s.stage ≡ true → is_open (eat s b).session.stage ≡ true
unfolding eat line_ends
eat_open s b h = by (eqb b 10)
  where
    by : (e : Bool) → is_open (step_if e (line_ends s) (record { session = record { stage = s.stage; lines = s.lines; held = hold b s.held }; printed = [] })).session.stage ≡ true
    by true = answer_open s.stage s.held h
    by false = h

feeds_open : (s : Session) (bs : List ℕ) → is_open s.stage ≡ true → is_open (feeds s bs).session.stage ≡ true
unfolding feeds
feeds_open s [] h = h
feeds_open s (b ∷ bs) h = feeds_open (eat s b).session bs (eat_open s b h)

-- so that places one after the other are the last
placed_twice : (x y : Feed.Stage) (p : Place) → (is_open x ≡ true → is_open y ≡ true) → placed y (placed x p) ≡ placed y p
unfolding placed
placed_twice Feed.First Feed.First p h = refl
placed_twice Feed.First (Feed.Running s) p h = refl
placed_twice Feed.First Feed.Over p h = refl
placed_twice (Feed.Running s) Feed.First p h = absurd (true≢false (sym (h refl)))
placed_twice (Feed.Running s) (Feed.Running t) p h = refl
placed_twice (Feed.Running s) Feed.Over p h = absurd (true≢false (sym (h refl)))
placed_twice Feed.Over Feed.First p h = refl
placed_twice Feed.Over (Feed.Running s) p h = refl
placed_twice Feed.Over Feed.Over p h = refl

pub placed_on : (s : Session) (bs : List ℕ) (p : Place) → placed (feeds s bs).session.stage (placed s.stage p) ≡ placed (feeds s bs).session.stage p
placed_on s bs p = placed_twice s.stage (feeds s bs).session.stage p (feeds_open s bs)
