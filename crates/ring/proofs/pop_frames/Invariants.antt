-- What is left to pop, from here on, gives what the whole gives.
use Rattle.std.proofs.Common.{◌-◌, ◌≡◌, ◌≤◌, length}
use Rattle.ring.specs.Frames.{pop_from, popped}
use Rattle.ring.proofs.pop_frames.Given as goal

abbrev pub invariant-loop-left : goal.invariant-loop-left
invariant-loop-left l =
    (l.done ≤ l.frames)
    × (popped l.frames (length l.initial.lengths) l.start l.count l.initial.lengths ≡ pop_from (l.frames - l.done) (length l.initial.lengths) l.start l.left l.done l.lengths)
    × (length l.lengths ≡ length l.initial.lengths)

abbrev pub decreases-loop-left : goal.decreases-loop-left
decreases-loop-left l = l.frames - l.done
