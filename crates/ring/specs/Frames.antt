-- Taking bytes from frames: from frame to frame until the count is used up or no frame is left. Only a finished frame frees a unit.
-- First on a plain list of frame lengths, then in the ring of lengths, as the code does it; `FrameLaws` says that the two agree.
use Rattle.std.specs.Prelude.{cond, List, [], ◌∷◌, ℕ, zero, suc, ◌+◌, ◌-◌, ltb, eqb, get_or, set}
use Rattle.ring.specs.Ring.{wrap}

-- the frames that taking n bytes finishes
unfoldable pub freed_of : List ℕ → (n : ℕ) → ℕ
freed_of [] n = 0
freed_of (f ∷ fs) n = cond (eqb n 0) 0 (cond (ltb n f) 0 (suc (freed_of fs (n - f))))

-- the frames that are left, of which the first may have been taken in part
unfoldable pub rest_of : List ℕ → (n : ℕ) → List ℕ
rest_of [] n = []
rest_of (f ∷ fs) n = cond (eqb n 0) (f ∷ fs) (cond (ltb n f) ((f - n) ∷ fs) (rest_of fs (n - f)))

-- the frames that taking n bytes comes to with bytes still to take: those that it finishes, and one that it leaves unfinished
unfoldable pub came_of : List ℕ → (n : ℕ) → ℕ
came_of [] n = 0
came_of (f ∷ fs) n = cond (eqb n 0) 0 (cond (ltb n f) 1 (suc (came_of fs (n - f))))

-- the bytes of all frames
abbrev pub sum : List ℕ → ℕ
sum [] = 0
sum (f ∷ fs) = f + sum fs

-- the units freed, the frames come to, and the store of lengths afterwards
pub record Popped : Type 0 where
  pub freed : ℕ
  pub came : ℕ
  pub lengths : List ℕ

abbrev pub stop : (freed came : ℕ) → List ℕ → Popped
stop freed came s = record { freed = freed; came = came; lengths = s }

-- with `done` frames finished, `frames` more and `left` bytes still to take
unfoldable pub pop_from : (frames size start left done : ℕ) → List ℕ → Popped
pop_from zero size start left done s = stop done done s
pop_from (suc k) size start left done s =
    let at = wrap size (start + done) in
    let len = get_or s at 0 in
    cond (eqb left 0) (stop done done s)
    (cond (ltb left len) (stop done (done + 1) (set s at (len - left))) (pop_from k size start (left - len) (done + 1) s))

-- count bytes taken from the `frames` frames of a ring of lengths
abbrev pub popped : (frames size start count : ℕ) → List ℕ → Popped
popped frames size start count s = pop_from frames size start count 0 s
