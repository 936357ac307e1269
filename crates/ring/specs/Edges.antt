-- Small examples of frames and rings, computed from the definitions; 01's twelve edges stand together in the crate channel.
use Rattle.std.specs.Prelude.{◌≡◌, refl, [], ◌∷◌}
use Rattle.ring.specs.Runs.{copied}
use Rattle.ring.specs.Ring.{wrap, ring_read, ring_from, ring_write}
use Rattle.ring.specs.Frames.{stop, pop_from, popped}

-- a frame of foreign length 0 is freed while bytes are left to take, and not after
foreign : popped 3 3 1 2 (0 ∷ 0 ∷ 2 ∷ []) ≡ stop 2 2 (0 ∷ 0 ∷ 2 ∷ [])
unfolding pop_from wrap
foreign = refl

-- the frames come to: those finished and the one left unfinished; two of length 0 on the way to it; none where no byte is to be
-- taken; no more than there are; and none beyond the frame that the last byte finishes
unfinished : popped 2 2 0 4 (3 ∷ 2 ∷ []) ≡ stop 1 2 (3 ∷ 1 ∷ [])
unfolding pop_from wrap
unfinished = refl

empty_on_the_way : popped 3 3 0 1 (0 ∷ 0 ∷ 3 ∷ []) ≡ stop 2 3 (0 ∷ 0 ∷ 2 ∷ [])
unfolding pop_from wrap
empty_on_the_way = refl

nothing_to_take : popped 2 2 0 0 (0 ∷ 2 ∷ []) ≡ stop 0 0 (0 ∷ 2 ∷ [])
unfolding pop_from wrap
nothing_to_take = refl

nothing_left : popped 1 2 0 5 (1 ∷ 2 ∷ []) ≡ stop 1 1 (1 ∷ 2 ∷ [])
unfolding pop_from wrap
nothing_left = refl

just_finished : popped 2 2 0 2 (2 ∷ 2 ∷ []) ≡ stop 1 1 (2 ∷ 2 ∷ [])
unfolding pop_from wrap
just_finished = refl

-- a write over the end of the area: the byte below the area and the one above are kept
around : ring_write 1 4 3 0 (7 ∷ 8 ∷ 9 ∷ []) 2 (0 ∷ 1 ∷ 2 ∷ 3 ∷ 4 ∷ 5 ∷ []) ≡ 0 ∷ 8 ∷ 2 ∷ 3 ∷ 7 ∷ 5 ∷ []
unfolding ring_write ring_from copied wrap
around = refl

-- and a read over the end
back : ring_read 1 4 3 2 (0 ∷ 8 ∷ 2 ∷ 3 ∷ 7 ∷ 5 ∷ []) ≡ 7 ∷ 8 ∷ []
unfolding ring_read
back = refl
