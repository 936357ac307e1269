-- A ring that stands in a lent part of a store is the ring in the store: bytes stand in the part of `size` from index `base` on,
-- lengths in that of `size` at the front.
use Rattle.std.specs.Prelude.{◌≡◌, refl, List, ◌++◌, ℕ, zero, suc, ◌+◌, ◌-◌, ◌≤◌, ◌<◌, length, take, drop, set, get_or}
use Rattle.std.proofs.Common.{sym, ap, ◌∙◌, append_assoc, arith, take-append-drop, drop-drop, add_assoc, length-take-le, length-drop}
use Rattle.std.proofs.lemmas.Grind.{common_steps}
use Rattle.std.proofs.lemmas.Bool.Decides.{nat_tests}
use Rattle.std.proofs.lemmas.List.{take-append-le, drop-append-le, take-take, get_or_append_left, set-append_left}
use Rattle.std.proofs.lemmas.Slice.{between_is}
use Rattle.std.proofs.Math.Seq.{take-append-add, drop-append-add}
use Rattle.ring.specs.Runs.{copied, copied_length}
use Rattle.ring.specs.Lent.{copied_same}
use Rattle.ring.specs.Ring.{wrap, first_run, ring_read, ring_from, ring_write}
use Rattle.ring.specs.RingLaws.{wrap_le, wrap_lt, read_copied}
use Rattle.ring.specs.Frames.{Popped, stop, pop_from, popped}

-- ---- reading

-- a run of a part
run_part : (base size at k : ℕ) (s : List ℕ) → at + k ≤ size → take k (drop at (take size (drop base s))) ≡ take k (drop (base + at) s)
run_part base size at k s fits =
    ap (take k) (sym (between_is (drop base s) at size)) ∙ take-take k (size - at) _ (omega arith) ∙ ap (take k) (drop-drop at base s)

length_part : (base size : ℕ) (s : List ℕ) → base + size ≤ length s → length (take size (drop base s)) ≡ size
length_part base size s area = length-take-le size (drop base s) (simp length-drop (omega arith))

pub pending_part : (base size start count : ℕ) (s : List ℕ) → base + size ≤ length s → start ≤ size
    → take (first_run (length (take size (drop base s))) start count) (drop start (take size (drop base s)))
    ≡ take (first_run size start count) (drop (base + start) s)
pending_part base size start count s area begins =
    rw (length_part base size s area) (run_part base size start (first_run size start count) s (omega arith))

-- as many bytes are read as the front of b that is lent with the part has places
pub read_part : (base size start n : ℕ) (s b : List ℕ) → base + size ≤ length s → start ≤ size → n ≤ size → n ≤ length b
    → ring_read 0 (length (take size (drop base s))) start (length (take n b)) (take size (drop base s)) ≡ ring_read base size start n s
unfolding ring_read
read_part base size start n s b area begins most room =
    let k = first_run size start n in
    let z : 0 + start ≡ start = omega arith in
    rw (length_part base size s area, length-take-le n b room, z, run_part base size start k s (omega arith), take-take (n - k) size (drop base s) (omega arith)) refl

-- the two copies of a read that fills all of b
pub read_filled : (size start : ℕ) (s b : List ℕ) → size ≤ length s → start ≤ size → length b ≤ size
    → copied (copied b 0 s start (first_run size start (length b))) (first_run size start (length b)) s 0 (length b - first_run size start (length b))
    ≡ ring_read 0 size start (length b) s
read_filled size start s b area begins most =
    let z : 0 + start ≡ start = omega arith in
    rw z at (read_copied 0 size start (length b) s b (omega arith) begins most (omega arith)) ∙ grind (arith, common_steps)

-- ---- writing

-- a copy into a, which stands between p and q, and a write from a place of a on
copied_part : (p a q : List ℕ) (at : ℕ) (src : List ℕ) (from n : ℕ) → at + n ≤ length a
    → copied (p ++ (a ++ q)) (length p + at) src from n ≡ p ++ (copied a at src from n ++ q)
unfolding copied
copied_part p a q at src from n room =
    let h : at ≤ length a = omega arith in
    rw (add_assoc, take-append-add, drop-append-add, take-append-le, drop-append-le) (simp append_assoc)

from_part : (p a q : List ℕ) (size place : ℕ) (bytes : List ℕ) (n : ℕ) → size ≤ length a → place ≤ size → n ≤ size → n ≤ length bytes
    → ring_from (length p) size place bytes n (p ++ (a ++ q)) ≡ p ++ (ring_from 0 size place bytes n a ++ q)
unfolding ring_from
from_part p a q size place bytes n area begins most has =
    let k = first_run size place n in
    let half = copied a place bytes 0 k in
    let l = copied_length a place bytes 0 k (omega arith) (omega arith) in
    let z : 0 + place ≡ place = omega arith in
    let e : length p + 0 ≡ length p = omega arith in
    rw (copied_part p a q place bytes 0 k (omega arith), z) (rw e at (copied_part p half q 0 bytes k (n - k) (omega arith)))

pub write_part : (base size start count : ℕ) (bytes : List ℕ) (n : ℕ) (s : List ℕ) → base + size ≤ length s → start ≤ size → count + n ≤ size → n ≤ length bytes
    → take base s ++ (ring_write 0 (length (take size (drop base s))) start count bytes n (take size (drop base s)) ++ drop size (drop base s))
    ≡ ring_write base size start count bytes n s
unfolding ring_write
write_part base size start count bytes n s area begins fits has =
    let p : length (take base s) ≡ base = length-take-le base s (omega arith) in
    let a = length_part base size s area in
    let place = wrap size (start + count) in
    let written = from_part (take base s) (take size (drop base s)) (drop size (drop base s)) size place bytes n
    (omega arith) (wrap_le size (start + count) (omega arith)) (omega arith) has in
    rw a (sym (rw (p, take-append-drop, take-append-drop) at written))

-- a write of all of the first n bytes is one of n bytes
pub write_front : (base size start count : ℕ) (bytes : List ℕ) (n : ℕ) (s : List ℕ) → n ≤ length bytes
    → ring_write base size start count (take n bytes) (length (take n bytes)) s ≡ ring_write base size start count bytes n s
unfolding ring_write ring_from
write_front base size start count bytes n s has =
    let at = base + wrap size (start + count) in
    let k = first_run size (wrap size (start + count)) n in
    let z : 0 + k ≡ k = omega arith in
    rw (length-take-le n bytes has)
    (ap (λ (x : List ℕ). copied x base (take n bytes) k (n - k)) (copied_same s at (take n bytes) 0 bytes 0 k (take-take k n bytes (omega arith)))
    ∙ copied_same (copied s at bytes 0 k) base (take n bytes) k bytes k (n - k) (rw z at (run_part 0 n k (n - k) bytes (omega arith))))

-- ---- lengths

pub pushed_part : (size start frames len : ℕ) (s : List ℕ) → size ≤ length s → start ≤ size → frames < size
    → set (take size s) (wrap (length (take size s)) (start + frames)) len ++ drop size s ≡ set s (wrap size (start + frames)) len
pushed_part size start frames len s area begins room =
    let a = length-take-le size s area in
    let w = wrap_lt size (start + frames) (omega arith) in
    rw (a, ← set-append_left (take size s) (drop size s) (wrap size (start + frames)) len (omega arith), take-append-drop) refl

-- what is popped, with q behind the lengths
abbrev pub behind : List ℕ → Popped → Popped
behind q p = stop p.freed p.came (p.lengths ++ q)

pop_behind : (k size start left done : ℕ) (a q : List ℕ) → size ≤ length a → start ≤ size → done + k ≤ size
    → pop_from k size start left done (a ++ q) ≡ behind q (pop_from k size start left done a)
unfolding pop_from
pop_behind zero size start left done a q area begins room = refl
pop_behind (suc k) size start left done a q area begins room =
    let at = wrap size (start + done) in
    let f = get_or a at 0 in
    let h : at < length a = omega (arith, wrap_lt) in
    rw (get_or_append_left, set-append_left, pop_behind k size start (left - f) (done + 1) a q area begins (omega arith)) (grind (arith, nat_tests))

pub popped_part : (frames size start count : ℕ) (s : List ℕ) → size ≤ length s → start ≤ size → frames ≤ size
    → popped frames size start count s ≡ behind (drop size s) (popped frames (length (take size s)) start count (take size s))
popped_part frames size start count s area begins room =
    let a : length (take size s) ≡ size = length-take-le size s area in
    rw a (rw take-append-drop at (pop_behind frames size start count 0 (take size s) (drop size s) (omega arith) begins (omega arith)))
