-- How a session's standing changes, by the way of a line.
use Rattle.std.specs.Prelude.{Result, Ok, Err}
use Rattle.exec.specs.declared.Refusal.{Refusal}
use mathlib.Core.Path.{◌≡◌, refl, ◌∙◌}
use mathlib.Core.List.{List}
use lib.ListN.{length}
use Prim.Native.Nat.{ℕ}
use Rattle.runner.specs.declared.answer.After.{After}
use Rattle.answering.specs.declared.Answer.{Answer}
use Rattle.standing.specs.declared.Standing.{Standing}
use Rattle.syntax.specs.Lines.{zeros}
use Rattle.grammar.specs.Feed.{opened_by, first}
use Rattle.syntax.specs.Zeros.{zeros_length}
use Rattle.runner.specs.Calls as Calls
use Rattle.standing.specs.declared.Stage as Stages
use Rattle.standing.specs.declared.Stage.TheVariants as Stage
use Rattle.opening.specs.declared.Opening as Openings
use Rattle.standing.specs.Standing.{Stores, stores, Place, place, place_of, placed, stage_is, noted, Told, opened_as, first_of}

-- a place at a stage is the place after a session came to it
pub placed_at : (y : Stages.Stage) (p : Place) → place y p.state ≡ placed (stage_is y p.state) p
unfolding placed
placed_at Stage.First p = refl
placed_at Stage.Running p = refl
placed_at Stage.Over p = refl

-- the first line: whether it opens a runner is decided by how long the stores are
abbrev cleared : Stores
cleared = stores (zeros 65536) (zeros 1024)

same_opening : (o : Openings.Opening) (x : Stores) → length x.bytes ≡ 65536 → length x.lengths ≡ 1024 → noted o x ≡ noted o cleared
unfolding Calls.«open»
same_opening o x hb hl = rw (hb, hl, zeros_length 65536, zeros_length 1024) refl

pub opened_first : (o : Openings.Opening) (s : Standing) (before : Stores) (s' : Standing) (a : Answer) (after : Stores) (n : After (Unit {0})) (work : List ℕ)
    → n ≡ noted o before → length before.bytes ≡ 65536 → length before.lengths ≡ 1024
    → Told (opened_as n.answer n.runner) (place_of s before) s' a after work → Told (first_of o) (place_of s before) s' a after work
unfolding first
opened_first o s before s' a after n work e hb hl h = by (noted o cleared).answer (rw (e ∙ same_opening o before hb hl) at h)
  where
    by : (x : Result (Unit {0}) Refusal) → Told (opened_as x (noted o cleared).runner) (place_of s before) s' a after work
        → Told (opened_by x (record { conf = record { key = o.key; limits = o.limits; timers = o.timers; smallest = o.smallest }; now = o.now })) (place_of s before) s' a after work
    by (Ok tt) h = h
    by (Err y) h = h
