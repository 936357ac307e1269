-- Document 01: "pop takes at most what waits. It goes from frame to frame until the count is used up or no frame is left;
-- only a finished frame frees a unit." So for a plain list of frames; and the ring of lengths does what the list does.
use Rattle.std.specs.Prelude.{◌≡◌, true, false, List, [], ◌∷◌, ◌++◌, ℕ, zero, suc, ◌+◌, ◌-◌, ◌≤◌, ◌<◌, ltb, eqb, length, take, get_or, set}
use Rattle.std.proofs.Math.Path.{refl}
use Rattle.std.proofs.Common.{sym, ap, ◌∙◌, lt-ltb, le-ltb, eq-eqb, ne_eqb, length-set, get_or-set_same, get_or-set_other}
use native.Mathlib.Omega.{arith}
use Rattle.std.proofs.lemmas.Bool.Decides.{nat_tests}
use Rattle.std.proofs.Math.Decide.{dec_lt}
use Rattle.ring.specs.Runs.{copied, copied_zero, copied_one}
use Rattle.ring.specs.Ring.{wrap, first_run, ring_read, ring_from, ring_write}
use Rattle.ring.specs.RingLaws.{wrap_below, wrap_le, wrap_lt, wrap_wrap, wrap_apart, ring_at, read_length, read_at, read_past, read_is, read_none, read_wrapped, write_read}
use Rattle.ring.specs.Frames.{freed_of, rest_of, came_of, sum, Popped, stop, pop_from, popped}

-- ---- a plain list

-- with n bytes to take, the ways of a frame of f bytes: it is not reached, taken in part, or finished
data Way (f n : ℕ) : Type 0 where
  used : n ≡ 0 → eqb n 0 ≡ true → Way f n
  part : n < f → eqb n 0 ≡ false → ltb n f ≡ true → Way f n
  whole : f ≤ n → eqb n 0 ≡ false → ltb n f ≡ false → Way f n

way : (f n : ℕ) → Way f n
way f n =
    elim (dec_lt 0 n) [
      | yes m ↦
          elim (dec_lt n f) [
            | yes l ↦ part l (ne_eqb n 0 (omega arith)) (lt-ltb n f l)
            | no l ↦ whole (omega arith) (ne_eqb n 0 (omega arith)) (le-ltb n f (omega arith))
          ]
      | no m ↦ used (omega arith) (eq-eqb n 0 (omega arith))
    ]

-- the count is used up or nothing is left: all n bytes are taken, or all that wait
pub rest_sum : (fs : List ℕ) (n : ℕ) → sum (rest_of fs n) ≡ sum fs - n
unfolding rest_of
rest_sum [] n = omega arith
rest_sum (f ∷ fs) n = grind (arith, nat_tests, rest_sum fs (n - f))

-- every frame is freed or left
pub rest_length : (fs : List ℕ) (n : ℕ) → freed_of fs n + length (rest_of fs n) ≡ length fs
unfolding freed_of rest_of
rest_length [] n = omega arith
rest_length (f ∷ fs) n = grind (arith, nat_tests, rest_length fs (n - f))

-- only a finished frame frees a unit: the n bytes cover all frames that are freed
pub freed_finished : (fs : List ℕ) (n : ℕ) → sum (take (freed_of fs n) fs) ≤ n
unfolding freed_of
freed_finished [] n = omega arith
freed_finished (f ∷ fs) n = grind (arith, nat_tests, freed_finished fs (n - f))

-- and every finished frame frees one, where no frame is empty: the n bytes do not cover one frame more
pub freed_all : (fs : List ℕ) (n : ℕ) → ((i : ℕ) → i < length fs → 0 < get_or fs i 0) → freed_of fs n < length fs
    → n < sum (take (suc (freed_of fs n)) fs)
unfolding freed_of
freed_all [] n some = λ h. absurd (omega arith)
freed_all (f ∷ fs) n some = grind (arith, nat_tests, some 0, freed_all fs (n - f) (λ i l. some (suc i) (omega arith)))

-- it comes to each frame that it finishes, and to one more at most: the one that it leaves unfinished
pub came_finished : (fs : List ℕ) (n : ℕ) → (freed_of fs n ≤ came_of fs n) × (came_of fs n ≤ freed_of fs n + 1) × (came_of fs n ≤ length fs)
unfolding freed_of came_of
came_finished [] n = (omega arith, omega arith, omega arith)
came_finished (f ∷ fs) n = let h = came_finished fs (n - f) in (grind (arith, nat_tests, h.0), grind (arith, nat_tests, h.1), grind (arith, nat_tests, h.2))

-- and it comes to a frame exactly where the frames before it hold fewer bytes than are to be taken: some are left when it is there
pub came_before : (fs : List ℕ) (n i : ℕ) → i < came_of fs n → sum (take i fs) < n
unfolding came_of
came_before [] n i h = absurd (omega arith)
came_before (f ∷ fs) n zero h = grind (arith, nat_tests, h)
came_before (f ∷ fs) n (suc i) h = grind (arith, nat_tests, h, came_before fs (n - f) i)

pub came_all : (fs : List ℕ) (n i : ℕ) → i < length fs → sum (take i fs) < n → i < came_of fs n
unfolding came_of
came_all [] n i l h = absurd (omega arith)
came_all (f ∷ fs) n zero l h = grind (arith, nat_tests, h)
came_all (f ∷ fs) n (suc i) l h = grind (arith, nat_tests, h, came_all fs (n - f) i (omega arith))

-- ---- the ring of lengths: a push

module _ (size start frames len : ℕ) (s : List ℕ) (area : size ≤ length s) (begins : start ≤ size) (room : frames < size) where
  -- one store is a write of one element, so that the laws of a ring hold of it
  pub push_is_write : set s (wrap size (start + frames)) len ≡ ring_write 0 size start frames (len ∷ []) 1 s
  unfolding ring_write ring_from
  push_is_write =
      let p = wrap size (start + frames) in
      let h : p < size = wrap_lt size (start + frames) (omega arith) in
      let k : first_run size p 1 ≡ 1 = omega arith in
      let z : 0 + p ≡ p = omega arith in
      copied_one s p len (omega arith)
      ∙ copied_zero (copied s p (len ∷ []) 0 1) 0 (len ∷ []) 1
      ∙ rw (k, z) refl

  -- a pushed length is the last of the frames
  pub push_read : ring_read 0 size start (frames + 1) (set s (wrap size (start + frames)) len) ≡ ring_read 0 size start frames s ++ len ∷ []
  push_read =
      ap (ring_read 0 size start (frames + 1)) push_is_write
      ∙ write_read 0 size start frames (len ∷ []) 1 s (omega arith) begins (omega arith) (omega arith)

  pub push_length : length (set s (wrap size (start + frames)) len) ≡ length s
  push_length = length-set s (wrap size (start + frames)) len

-- ---- the ring of lengths: a pop

-- a turn of the code: no byte to take, no frame left, a frame taken in part, a frame finished
pub pop_used : (k size start left done : ℕ) (s : List ℕ) → left ≡ 0 → pop_from k size start left done s ≡ stop done done s
unfolding pop_from
pop_used zero size start left done s h = refl
pop_used (suc k) size start left done s h = grind (arith, nat_tests)

pub pop_none : (k size start left done : ℕ) (s : List ℕ) → k ≡ 0 → pop_from k size start left done s ≡ stop done done s
unfolding pop_from
pop_none k size start left done s h = rw h

pub pop_part : (k size start left done at : ℕ) (s : List ℕ) → at ≡ wrap size (start + done) → 0 < k → (left ≡ 0 → ⊥) → left < get_or s at 0
    → pop_from k size start left done s ≡ stop done (done + 1) (set s at (get_or s at 0 - left))
unfolding pop_from
pop_part zero size start left done at s e h n l = absurd (omega arith)
pop_part (suc k) size start left done at s e h n l = rw (← e) (grind (arith, nat_tests))

pub pop_whole : (k size start left done at : ℕ) (s : List ℕ) → at ≡ wrap size (start + done) → 0 < k → (left ≡ 0 → ⊥) → get_or s at 0 ≤ left
    → pop_from k size start left done s ≡ pop_from (k - 1) size start (left - get_or s at 0) (done + 1) s
unfolding pop_from
pop_whole zero size start left done at s e h n l = absurd (omega arith)
pop_whole (suc k) size start left done at s e h n l =
    let less : suc k - 1 ≡ k = omega arith in rw (less, ← e) (grind (arith, nat_tests))

-- the store keeps its length
pub pop_length : (k size start left done : ℕ) (s : List ℕ) → length (pop_from k size start left done s).lengths ≡ length s
unfolding pop_from
pop_length zero size start left done s = refl
pop_length (suc k) size start left done s =
    let f = get_or s (wrap size (start + done)) 0 in
    grind (arith, nat_tests, length-set {A = ℕ}, pop_length k size start (left - f) (done + 1) s)

-- no more frames are freed than it comes to, and at most one fewer; and it comes to none past the last: of any store, place and count
pub came_within : (k size start left done : ℕ) (s : List ℕ)
    → (let q = pop_from k size start left done s in (q.freed ≤ q.came) × (q.came ≤ q.freed + 1) × (q.came ≤ done + k))
unfolding pop_from
came_within zero size start left done s = (omega arith, omega arith, omega arith)
came_within (suc k) size start left done s =
    let h = came_within k size start (left - get_or s (wrap size (start + done)) 0) (done + 1) s in
    (grind (arith, nat_tests, h.0), grind (arith, nat_tests, h.1), grind (arith, nat_tests, h.2))

-- k + 1 frames from place x on, which may be past the end of the area
module _ (size x k : ℕ) (s : List ℕ) (area : size ≤ length s) (twice : x + k < size + size) (room : k < size) where
  here : wrap size x < size
  here = wrap_lt size x (omega arith)

  next : wrap size (x + 1) ≤ size
  next = wrap_le size (x + 1) (omega arith)

  others : length (ring_read 0 size (wrap size (x + 1)) k s) ≡ k
  others = read_length 0 size (wrap size (x + 1)) k s (omega arith) next (omega arith)

  -- the oldest frame, and the others
  read_cons : ring_read 0 size (wrap size x) (suc k) s ≡ get_or s (wrap size x) 0 ∷ ring_read 0 size (wrap size (x + 1)) k s
  read_cons =
      read_is 0 size (wrap size x) (suc k) s (omega arith) (omega (arith, here)) room
      (get_or s (wrap size x) 0 ∷ ring_read 0 size (wrap size (x + 1)) k s) (omega (arith, others))
      (λ i.
      elim i as (λ j. j < suc k → get_or s (ring_at 0 size (wrap size x) j) 0
      ≡ get_or (get_or s (wrap size x) 0 ∷ ring_read 0 size (wrap size (x + 1)) k s) j 0) [
        | zero ↦ λ h. ap (λ (j : ℕ). get_or s j 0) (omega (arith, wrap_below size (wrap size x + 0) (omega (arith, here))))
        | suc i ↦
            λ h.
            ap (λ (j : ℕ). get_or s (0 + j) 0) (wrap_wrap size x (suc i) (omega arith) ∙ ap (wrap size) (omega arith))
            ∙ sym (read_past 0 size (x + 1) k s (omega arith) (omega arith) (omega arith) i (omega arith))
      ])

  -- lowering the oldest length leaves the others
  read_behind : (v : ℕ) → ring_read 0 size (wrap size (x + 1)) k (set s (wrap size x) v) ≡ ring_read 0 size (wrap size (x + 1)) k s
  read_behind v =
      read_is 0 size (wrap size (x + 1)) k (set s (wrap size x) v) (simp length-set (omega arith)) next (omega arith)
      (ring_read 0 size (wrap size (x + 1)) k s) others
      (λ i h.
      let e : wrap size (wrap size (x + 1) + i) ≡ wrap size (x + (1 + i)) =
      wrap_wrap size (x + 1) i (omega arith) ∙ ap (wrap size) (omega arith) in
      get_or-set_other s (wrap size x) (ring_at 0 size (wrap size (x + 1)) i) v 0
      (let apart = wrap_apart size x (1 + i) (omega arith) (omega arith) (omega arith) in λ q. apart (omega arith))
      ∙ sym (read_at 0 size (wrap size (x + 1)) k s (omega arith) next (omega arith) i h))

-- q, which began with `done` frames finished and k more, has x of these finished, came to y of them and leaves the frames fs
record Leaves (k size start done : ℕ) (q : Popped) (x y : ℕ) (fs : List ℕ) : Type 0 where
  freed : q.freed ≡ done + x
  came : q.came ≡ done + y
  rest : ring_read 0 size (wrap size (start + q.freed)) (done + k - q.freed) q.lengths ≡ fs

leaves : (k size start left done : ℕ) (s : List ℕ) → size ≤ length s → start ≤ size → done + k ≤ size
    → (let fs = ring_read 0 size (wrap size (start + done)) k s in Leaves k size start done (pop_from k size start left done s) (freed_of fs left) (came_of fs left) (rest_of fs left))
unfolding pop_from freed_of came_of rest_of
leaves zero size start left done s area begins room =
    let none : done + 0 - done ≡ 0 = omega arith in
    let empty = read_none 0 size (wrap size (start + done)) s in
    rw empty (record { freed = omega arith; came = omega arith; rest = rw none empty })
leaves (suc k) size start left done s area begins room =
    let x = start + done in
    let at = wrap size x in
    let f = get_or s at 0 in
    let all : done + suc k - done ≡ suc k = omega arith in
    let cons = read_cons size x k s area (omega arith) (omega arith) in
    rw cons
    (elim (way f left) [
      | used z e ↦ rw e (record { freed = omega arith; came = omega arith; rest = rw all cons })
      | part l e t ↦
          let same = get_or-set_same s at (f - left) 0 (omega (arith, here size x k s area (omega arith) (omega arith))) in
          let behind = read_behind size x k s area (omega arith) (omega arith) (f - left) in
          rw (e, t)
          (record {
            freed = omega arith;
            came = omega arith;
            rest = rw all (read_cons size x k (set s at (f - left)) (simp length-set area) (omega arith) (omega arith) ∙ rw (same, behind) refl);
          })
      | whole l e t ↦
          let on : start + (done + 1) ≡ x + 1 = omega arith in
          let more : done + 1 + k ≡ done + suc k = omega arith in
          let r = rw on at (leaves k size start (left - f) (done + 1) s area begins (omega arith)) in
          rw (e, t) (record { freed = r.freed ∙ omega arith; came = r.came ∙ omega arith; rest = rw more at r.rest })
    ])

-- popping from the ring is popping from the list of its frames: the same units are freed, the same frames come to, and the same are left
module _ (frames size start count : ℕ) (s : List ℕ) (area : size ≤ length s) (begins : start ≤ size) (room : frames ≤ size) where
  abbrev waiting : List ℕ
  waiting = ring_read 0 size start frames s

  abbrev after : Popped
  after = popped frames size start count s

  both : Leaves frames size start 0 after (freed_of waiting count) (came_of waiting count) (rest_of waiting count)
  both =
      let none : start + 0 ≡ start = omega arith in
      rw (none, ← read_wrapped 0 size start frames s (omega arith) begins room) at (leaves frames size start count 0 s area begins (omega arith))

  pub pop_freed : after.freed ≡ freed_of waiting count
  pop_freed = both.freed ∙ omega arith

  pub pop_came : after.came ≡ came_of waiting count
  pop_came = both.came ∙ omega arith

  pub pop_rest : ring_read 0 size (wrap size (start + after.freed)) (frames - after.freed) after.lengths ≡ rest_of waiting count
  pop_rest = let all : 0 + frames ≡ frames = omega arith in rw all at both.rest

  -- no more units are freed than frames wait
  pub pop_most : after.freed ≤ frames
  pop_most =
      omega (arith, pop_freed, rest_length waiting count, read_length 0 size start frames s (omega arith) begins room)
