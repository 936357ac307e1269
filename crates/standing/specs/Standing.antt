-- Where a session of the code stands, with the stores that are lent to it, and how a line is answered there.
use Rattle.std.specs.Prelude.{◌≡◌, refl, List, ℕ, Option, Result, Some, Ok, Err}
use Rattle.std.proofs.Common.{ap, ◌∙◌}
use Rattle.exec.specs.declared.Refusal.{Refusal}
use Rattle.runner.specs.declared.runner.Runner.{Runner}
use Rattle.runner.specs.declared.answer.After.{After}
use Rattle.runner.specs.Calls as Calls
use Rattle.calls.specs.Call.{Call}
use Rattle.account.specs.Step.{State, replied}
use Rattle.standing.specs.declared.Standing.{Standing}
use Rattle.standing.specs.declared.areas.Areas.{Areas}
use Rattle.syntax.specs.Lines.{zeros}
use Rattle.grammar.specs.Feed.{first, later, answered, too_long, answer_of}
use Rattle.opening.specs.Meaning.{opening_is}
use Rattle.answering.specs.Answering.{answer_is}
use Rattle.making.specs.Making.{state_of}
use Rattle.answering.specs.declared.Answer.{Answer}
use Rattle.calls.specs.Call as Account
use Rattle.standing.specs.declared.Stage as Stages
use Rattle.standing.specs.declared.Stage.TheVariants as Stage
use Rattle.opening.specs.declared.Opening as Openings
use Rattle.grammar.specs.Feed as Feed

-- the runner's stores
pub record Stores : Type 0 where
  pub bytes : List ℕ
  pub lengths : List ℕ

abbrev pub stores : (bytes lengths : List ℕ) → Stores
stores bytes lengths = record { bytes = bytes; lengths = lengths }

-- the stage, and the runner with its stores
pub record Place : Type 0 where
  pub stage : Stages.Stage
  pub state : State

abbrev pub place_of : Standing → Stores → Place
place_of s x = record { stage = s.stage; state = state_of s.runner x.bytes x.lengths }

-- the stage of the session
abbrev pub stage_is : Stages.Stage → State → Feed.Stage
stage_is Stage.First s = Feed.First
stage_is Stage.Running s = Feed.Running s
stage_is Stage.Over s = Feed.Over

abbrev pub stage_at : Place → Feed.Stage
stage_at p = stage_is p.stage p.state

-- the place after a session came to a stage: the runner and its stores are the stage's; while no runner is open they are as they
-- were
unfoldable pub placed : Feed.Stage → (was : Place) → Place
placed Feed.First was = record { stage = Stage.First; state = was.state }
placed (Feed.Running s) was = record { stage = Stage.Running; state = s }
placed Feed.Over was = record { stage = Stage.Over; state = was.state }

-- ---- laws of places

abbrev pub place : Stages.Stage → State → Place
place x s = record { stage = x; state = s }

-- a place is that of its own stage
pub placed_own : (p : Place) → p ≡ placed (stage_at p) p
unfolding placed
placed_own p = by p.stage
  where
    by : (x : Stages.Stage) → place x p.state ≡ placed (stage_is x p.state) (place x p.state)
    by Stage.First = refl
    by Stage.Running = refl
    by Stage.Over = refl

-- and has the stage that it was made for
stage_placed : (x : Feed.Stage) (p : Place) → stage_at (placed x p) ≡ x
unfolding placed
stage_placed Feed.First p = refl
stage_placed (Feed.Running s) p = refl
stage_placed Feed.Over p = refl

pub placed_is : (q : Place) (x : Feed.Stage) (p : Place) → q ≡ placed x p → stage_at q ≡ x
placed_is q x p h = ap stage_at h ∙ stage_placed x p

-- ---- a line

-- the place after a line, with both stores, and the line's answer, of which bytes may stand in `work`
abbrev pub Told : Feed.Answered → (was : Place) → Standing → Answer → (after : Stores) → (work : List ℕ) → Type 0
Told f was s a after work = (place_of s after ≡ placed f.stage was) × (answer_is a work ≡ f.answer)

-- the stores as they are lent
abbrev pub stores_in : Areas → Stores
stores_in x = stores x.store.now x.lengths.now

-- the areas stay where they are, whatever is written to them
abbrev pub Kept : Areas → Areas → Type 0
Kept x y = (y.store.ghost_name ≡ x.store.ghost_name) × (y.lengths.ghost_name ≡ x.lengths.ghost_name) × (y.work.ghost_name ≡ x.work.ghost_name)

-- A LINE IS ANSWERED AS f SAYS OF THE PLACE BEFORE IT
abbrev pub Answers : (f : Place → Feed.Answered) → Standing → (before : Areas) → Standing → Answer → (after : Areas) → Type 0
Answers f s before s' a after = Told (f (place_of s (stores_in before))) (place_of s (stores_in before)) s' a (stores_in after) after.work.now

-- (a first line: by its own words alone, and whatever stands in `work`)
abbrev pub AnswersFirst : Feed.Answered → Standing → (before : Areas) → Standing → Answer → (after : Areas) → Type 0
AnswersFirst f s before s' a after = (work : List ℕ) → Told f (place_of s (stores_in before)) s' a (stores_in after) work

-- (whatever stands in the stores, which are not lent and stay, and in `work`)
abbrev pub AnswersAny : (f : Place → Feed.Answered) → Standing → Standing → Answer → Type 0
AnswersAny f s s' a = (x : Stores) (work : List ℕ) → Told (f (place_of s x)) (place_of s x) s' a x work

-- a line that is refused, and the stage from then on
abbrev pub bad_at : Stages.Stage → Place → Feed.Answered
bad_at x p = Feed.bad (stage_is x p.state)

-- what open makes of the first line's words
abbrev pub noted : Openings.Opening → Stores → After (Unit {0})
noted o x = Calls.«open» o.key o.limits o.timers o.smallest o.now x.bytes x.lengths

-- what it made, from its reply
abbrev pub opened_as : Result (Unit {0}) Refusal → Runner → Feed.Answered
opened_as (Ok tt) r = record { stage = Feed.Running (state_of r (zeros 65536) (zeros 1024)); answer = Account.Ok }
opened_as (Err x) r = record { stage = Feed.Over; answer = replied (Err x) }

abbrev pub first_of : Openings.Opening → Feed.Answered
first_of o = first (opening_is (Some o))

-- a line, at a place
abbrev pub later_at : Option Call → Place → Feed.Answered
later_at c p = later c p.state

abbrev pub answered_at : (line : List ℕ) → Place → Feed.Answered
answered_at line p = answered (stage_at p) line

abbrev pub too_long_at : Place → Feed.Answered
too_long_at p = too_long (stage_at p)

abbrev pub answer_at : (line : List ℕ) → Place → Feed.Answered
answer_at line p = answer_of (stage_at p) line
