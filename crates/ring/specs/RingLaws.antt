-- Laws of a ring in a store. The queue is the list `ring_read base size start count store`: writing appends to it, taking drops from its front.
-- Each law asks that the area is within the store, and that the start is at most the size: below it, or 0 where the size is 0.
use Rattle.std.specs.Prelude.{◌≡◌, refl, ◌⊎◌, List, [], ◌++◌, ℕ, ◌+◌, ◌-◌, ◌≤◌, ◌<◌, take, drop}
use Rattle.std.proofs.Math.Path.{sym, ap}
use Rattle.std.proofs.Common.{◌∙◌, inl, inr, arith, lt-ltb, le-ltb, length-take, length-drop, length-take-le, drop-drop, take_at, drop_at, ext_get_or}
use Rattle.std.proofs.lemmas.Bool.Decides.{nat_tests}
use Rattle.std.proofs.Math.Logic.{⊎_elim}
use Rattle.std.proofs.Math.Decide.{dec_lt}
use Rattle.std.proofs.Math.ListN.{length, get_or, length-append, get_or-append}
use Rattle.std.proofs.Math.Seq.{get_or-take, get_or-drop}
use Rattle.ring.specs.Runs.{copied, get_or_append_ge, copied_length, copied_before, copied_in, copied_after}
use Rattle.ring.specs.Ring.{wrap, first_run, ring_read, ring_from, ring_write}

-- ---- places

pub wrap_below : (size x : ℕ) → x < size → wrap size x ≡ x
unfolding wrap
wrap_below size x h = simp (lt-ltb x size h)

pub wrap_past : (size x : ℕ) → size ≤ x → wrap size x ≡ x - size
unfolding wrap
wrap_past size x h = simp (le-ltb x size h)

pub wrap_le : (size x : ℕ) → x ≤ size + size → wrap size x ≤ size
unfolding wrap
wrap_le size x h = grind (arith, nat_tests)

pub wrap_lt : (size x : ℕ) → x < size + size → wrap size x < size
unfolding wrap
wrap_lt size x h = grind (arith, nat_tests)

-- going on from a place brought into the area is going on from the place itself
pub wrap_wrap : (size x i : ℕ) → x + i < size + size → wrap size (wrap size x + i) ≡ wrap size (x + i)
unfolding wrap
wrap_wrap size x i h = grind (arith, nat_tests)

-- places less than a size apart differ
pub wrap_apart : (size x i : ℕ) → 0 < i → i < size → x + i < size + size → wrap size (x + i) ≡ wrap size x → ⊥
unfolding wrap
wrap_apart size x i some less h e = grind (arith, nat_tests)

-- the index in the store of the ring's byte number i
abbrev pub ring_at : (base size start i : ℕ) → ℕ
ring_at base size start i = base + wrap size (start + i)

-- ---- reading

-- the bytes up to the end of the area, and those from its start
abbrev run₁ : (base size start n : ℕ) → List ℕ → List ℕ
run₁ base size start n s = take (first_run size start n) (drop (base + start) s)

abbrev run₂ : (base size start n : ℕ) → List ℕ → List ℕ
run₂ base size start n s = take (n - first_run size start n) (drop base s)

module _ (base size start n : ℕ) (s : List ℕ) (area : base + size ≤ length s) (begins : start ≤ size) (most : n ≤ size) where
  length₁ : length (run₁ base size start n s) ≡ first_run size start n
  length₁ = simp (length-take, length-drop) (omega arith)

  length₂ : length (run₂ base size start n s) ≡ n - first_run size start n
  length₂ = simp (length-take, length-drop) (omega arith)

  pub read_length : length (ring_read base size start n s) ≡ n
  unfolding ring_read
  read_length =
      length-append (run₁ base size start n s) (run₂ base size start n s) ∙ omega (arith, length₁, length₂)

  pub read_at : (i : ℕ) → i < n → get_or (ring_read base size start n s) i 0 ≡ get_or s (ring_at base size start i) 0
  unfolding ring_read
  read_at i h =
      let r₁ = run₁ base size start n s in
      let r₂ = run₂ base size start n s in
      elim (dec_lt (start + i) size) [
        | yes l ↦
            get_or-append r₁ r₂ 0 i (omega (arith, length₁))
            ∙ get_or-take (first_run size start n) (drop (base + start) s) i 0 (omega arith)
            ∙ get_or-drop (base + start) s i 0
            ∙ ap (λ (k : ℕ). get_or s k 0) (omega (arith, wrap_below size (start + i) l))
        | no l ↦
            get_or_append_ge r₁ r₂ i (omega (arith, length₁))
            ∙ get_or-take (n - first_run size start n) (drop base s) (i - length r₁) 0 (omega (arith, length₁))
            ∙ get_or-drop base s (i - length r₁) 0
            ∙ ap (λ (k : ℕ). get_or s k 0) (omega (arith, length₁, wrap_past size (start + i) (omega arith)))
      ]

-- a list is what a ring reads, if it has as many elements and the same at each index
pub read_is : (base size start n : ℕ) (s : List ℕ) → base + size ≤ length s → start ≤ size → n ≤ size → (l : List ℕ) → length l ≡ n
    → ((i : ℕ) → i < n → get_or s (ring_at base size start i) 0 ≡ get_or l i 0) → ring_read base size start n s ≡ l
read_is base size start n s area begins most l same at_each =
    let long = read_length base size start n s area begins most in
    ext_get_or 0 (ring_read base size start n s) l (long ∙ sym same)
    (λ i h. read_at base size start n s area begins most i (omega arith) ∙ at_each i (omega arith))

-- no byte is read of an empty ring
pub read_none : (base size start : ℕ) (s : List ℕ) → ring_read base size start 0 s ≡ []
unfolding ring_read
read_none base size start s =
    let k : first_run size start 0 ≡ 0 = omega arith in
    let m : 0 - first_run size start 0 ≡ 0 = omega arith in
    rw (m, k) refl

-- what stands at each index of a read that starts at a place brought into the area
pub read_past : (base size x n : ℕ) (s : List ℕ) → base + size ≤ length s → x + n ≤ size + size → n ≤ size
    → (i : ℕ) → i < n → get_or (ring_read base size (wrap size x) n s) i 0 ≡ get_or s (ring_at base size x i) 0
read_past base size x n s area twice most i h =
    read_at base size (wrap size x) n s area (wrap_le size x (omega arith)) most i h
    ∙ ap (λ (j : ℕ). get_or s (base + j) 0) (wrap_wrap size x i (omega arith))

-- so a start at the end of the area is one at place 0
pub read_wrapped : (base size start n : ℕ) (s : List ℕ) → base + size ≤ length s → start ≤ size → n ≤ size
    → ring_read base size start n s ≡ ring_read base size (wrap size start) n s
read_wrapped base size start n s area begins most =
    read_is base size start n s area begins most (ring_read base size (wrap size start) n s)
    (read_length base size (wrap size start) n s area (wrap_le size start (omega arith)) most)
    (λ i h. sym (read_past base size start n s area (omega arith) most i h))

-- reading on: the first m bytes, and then n from where they end. So taking m bytes moves the start on by m and leaves the rest
pub read_on : (base size start m n : ℕ) (s : List ℕ) → base + size ≤ length s → start ≤ size → m + n ≤ size
    → ring_read base size start (m + n) s ≡ ring_read base size start m s ++ ring_read base size (wrap size (start + m)) n s
read_on base size start m n s area begins fits =
    let p = wrap size (start + m) in
    let a = ring_read base size start m s in
    let b = ring_read base size p n s in
    let p_le : p ≤ size = wrap_le size (start + m) (omega arith) in
    let n_a : length a ≡ m = read_length base size start m s area begins (omega arith) in
    let n_b : length b ≡ n = read_length base size p n s area p_le (omega arith) in
    read_is base size start (m + n) s area begins fits (a ++ b) (length-append a b ∙ omega arith)
    (λ i h.
    elim (dec_lt i m) [
      | yes l ↦ sym (get_or-append a b 0 i (omega arith) ∙ read_at base size start m s area begins (omega arith) i l)
      | no l ↦
          sym (get_or_append_ge a b i (omega arith)
          ∙ ap (λ (j : ℕ). get_or b j 0) (omega arith)
          ∙ read_past base size (start + m) n s area (omega arith) (omega arith) (i - m) (omega arith)
          ∙ ap (λ (j : ℕ). get_or s (base + wrap size j) 0) (omega arith))
    ])

-- ---- writing from a place of the area

module _ (base size place : ℕ) (bytes : List ℕ) (n : ℕ) (s : List ℕ) (area : base + size ≤ length s) (within : place ≤ size)
    (has : n ≤ length bytes) (most : n ≤ size) where
  -- the length of the first run, the store after it, and what the laws of a copy ask of the two runs
  abbrev k : ℕ
  k = first_run size place n

  abbrev half : List ℕ
  half = copied s (base + place) bytes 0 k

  room₁ : base + place + k ≤ length s
  room₁ = omega arith

  has₁ : 0 + k ≤ length bytes
  has₁ = omega arith

  half_length : length half ≡ length s
  half_length = copied_length s (base + place) bytes 0 k room₁ has₁

  room₂ : base + (n - k) ≤ length half
  room₂ = omega (arith, half_length)

  has₂ : k + (n - k) ≤ length bytes
  has₂ = omega arith

  from_length : length (ring_from base size place bytes n s) ≡ length s
  unfolding ring_from
  from_length = copied_length half base bytes k (n - k) room₂ has₂ ∙ half_length

  -- what lies outside the area
  from_outside : (j : ℕ) → (j < base) ⊎ (base + size ≤ j) → get_or (ring_from base size place bytes n s) j 0 ≡ get_or s j 0
  unfolding ring_from
  from_outside j side =
      ⊎_elim
      (λ (below : j < base).
      copied_before half base bytes k (n - k) room₂ has₂ j below
      ∙ copied_before s (base + place) bytes 0 k room₁ has₁ j (omega arith))
      (λ (above : base + size ≤ j).
      copied_after half base bytes k (n - k) room₂ has₂ j (omega arith)
      ∙ copied_after s (base + place) bytes 0 k room₁ has₁ j (omega arith))
      side

  -- the byte number i that is written
  from_new : (i : ℕ) → i < n → get_or (ring_from base size place bytes n s) (base + wrap size (place + i)) 0 ≡ get_or bytes i 0
  unfolding ring_from
  from_new i h =
      elim (dec_lt (place + i) size) [
        | yes l ↦
            ap (λ (j : ℕ). get_or (ring_from base size place bytes n s) j 0) (omega (arith, wrap_below size (place + i) l))
            ∙ copied_after half base bytes k (n - k) room₂ has₂ (base + place + i) (omega arith)
            ∙ copied_in s (base + place) bytes 0 k room₁ has₁ i (omega arith)
            ∙ ap (λ (j : ℕ). get_or bytes j 0) (omega arith)
        | no l ↦
            ap (λ (j : ℕ). get_or (ring_from base size place bytes n s) (base + j) 0) (wrap_past size (place + i) (omega arith))
            ∙ copied_in half base bytes k (n - k) room₂ has₂ (place + i - size) (omega arith)
            ∙ ap (λ (j : ℕ). get_or bytes j 0) (omega arith)
      ]

  -- a place of the area that neither run reaches
  from_kept : (j : ℕ) → n - first_run size place n ≤ j → (j < place) ⊎ (place + n ≤ j) → get_or (ring_from base size place bytes n s) (base + j) 0 ≡ get_or s (base + j) 0
  unfolding ring_from
  from_kept j h side =
      copied_after half base bytes k (n - k) room₂ has₂ (base + j) (omega arith)
      ∙ ⊎_elim
      (λ (w : j < place). copied_before s (base + place) bytes 0 k room₁ has₁ (base + j) (omega arith))
      (λ (w : place + n ≤ j). copied_after s (base + place) bytes 0 k room₁ has₁ (base + j) (omega arith))
      side

-- ---- appending to a queue

module _ (base size start count : ℕ) (bytes : List ℕ) (n : ℕ) (s : List ℕ) (area : base + size ≤ length s) (begins : start ≤ size)
    (has : n ≤ length bytes) (fits : count + n ≤ size) where
  -- the place of the first byte that is written, and the store after the write
  abbrev p : ℕ
  p = wrap size (start + count)

  abbrev t : List ℕ
  t = ring_write base size start count bytes n s

  p_le : p ≤ size
  p_le = wrap_le size (start + count) (omega arith)

  pub write_length : length (ring_write base size start count bytes n s) ≡ length s
  unfolding ring_write
  write_length = from_length base size p bytes n s area p_le has (omega arith)

  -- a byte that waits stays
  write_kept : (i : ℕ) → i < count → get_or t (ring_at base size start i) 0 ≡ get_or s (ring_at base size start i) 0
  unfolding ring_write
  write_kept i h =
      let kept = from_kept base size p bytes n s area p_le has (omega arith) (wrap size (start + i)) in
      elim (dec_lt (start + count) size) [
        | yes l ↦
            let e : p ≡ start + count = wrap_below size (start + count) l in
            let w : wrap size (start + i) ≡ start + i = wrap_below size (start + i) (omega arith) in
            kept (omega arith) (inl (omega arith))
        | no l ↦
            let e : p ≡ start + count - size = wrap_past size (start + count) (omega arith) in
            elim (dec_lt (start + i) size) [
              | yes m ↦
                  let w : wrap size (start + i) ≡ start + i = wrap_below size (start + i) m in
                  kept (omega arith) (inr (omega arith))
              | no m ↦
                  let w : wrap size (start + i) ≡ start + i - size = wrap_past size (start + i) (omega arith) in
                  kept (omega arith) (inl (omega arith))
            ]
      ]

  -- the bytes that are appended stand behind those that wait
  write_new : (i : ℕ) → i < n → get_or t (ring_at base size start (count + i)) 0 ≡ get_or bytes i 0
  unfolding ring_write
  write_new i h =
      let e : wrap size (start + (count + i)) ≡ wrap size (p + i) =
      ap (wrap size) (omega arith) ∙ sym (wrap_wrap size (start + count) i (omega arith)) in
      ap (λ (j : ℕ). get_or t (base + j) 0) e ∙ from_new base size p bytes n s area p_le has (omega arith) i h

  -- a read after a write: what was there, and then what was written
  pub write_read : ring_read base size start (count + n) (ring_write base size start count bytes n s) ≡ ring_read base size start count s ++ take n bytes
  write_read =
      let old = ring_read base size start count s in
      let n_old : length old ≡ count = read_length base size start count s area begins (omega arith) in
      let n_new : length (take n bytes) ≡ n = length-take-le n bytes has in
      read_is base size start (count + n) t (omega (arith, write_length)) begins fits (old ++ take n bytes)
      (length-append old (take n bytes) ∙ omega arith)
      (λ i h.
      elim (dec_lt i count) [
        | yes l ↦
            write_kept i l
            ∙ sym (get_or-append old (take n bytes) 0 i (omega arith) ∙ read_at base size start count s area begins (omega arith) i l)
        | no l ↦
            ap (λ (j : ℕ). get_or t (ring_at base size start j) 0) (omega arith)
            ∙ write_new (i - count) (omega arith)
            ∙ sym (get_or_append_ge old (take n bytes) i (omega arith) ∙ get_or-take n bytes (i - length old) 0 (omega arith) ∙ ap (λ (j : ℕ). get_or bytes j 0) (omega arith))
      ])

  write_outside : (j : ℕ) → (j < base) ⊎ (base + size ≤ j) → get_or t j 0 ≡ get_or s j 0
  unfolding ring_write
  write_outside = from_outside base size p bytes n s area p_le has (omega arith)

  -- the spare bytes behind a need that covers the area are kept
  pub write_spare : (need : ℕ) → base + size ≤ need → drop need (ring_write base size start count bytes n s) ≡ drop need s
  write_spare need h =
      ext_get_or 0 (drop need t) (drop need s)
      (length-drop need t ∙ ap (λ (j : ℕ). j - need) write_length ∙ sym (length-drop need s))
      (λ i _. get_or-drop need t i 0 ∙ write_outside (need + i) (inr (omega arith)) ∙ sym (get_or-drop need s i 0))

  -- another ring, below or above, reads as before
  pub write_other : (base₂ size₂ start₂ m : ℕ) → base₂ + size₂ ≤ length s → start₂ ≤ size₂ → m ≤ size₂
      → (base₂ + size₂ ≤ base) ⊎ (base + size ≤ base₂)
      → ring_read base₂ size₂ start₂ m (ring_write base size start count bytes n s) ≡ ring_read base₂ size₂ start₂ m s
  write_other base₂ size₂ start₂ m area₂ begins₂ most side =
      read_is base₂ size₂ start₂ m t (omega (arith, write_length)) begins₂ most (ring_read base₂ size₂ start₂ m s)
      (read_length base₂ size₂ start₂ m s area₂ begins₂ most)
      (λ i h.
      let w : wrap size₂ (start₂ + i) < size₂ = wrap_lt size₂ (start₂ + i) (omega arith) in
      write_outside (ring_at base₂ size₂ start₂ i)
      (⊎_elim (λ (l : base₂ + size₂ ≤ base). inl (omega arith)) (λ (l : base + size ≤ base₂). inr (omega arith)) side)
      ∙ sym (read_at base₂ size₂ start₂ m s area₂ begins₂ most i h))

-- ---- the two copies of a read, and the part of the store that is handed out

-- copying the two runs to the start of b leaves the ring's first n bytes, and b from there on
pub read_copied : (base size start n : ℕ) (s b : List ℕ) → base + size ≤ length s → start ≤ size → n ≤ size → n ≤ length b
    → copied (copied b 0 s (base + start) (first_run size start n)) (first_run size start n) s base (n - first_run size start n)
    ≡ ring_read base size start n s ++ drop n b
unfolding copied ring_read
read_copied base size start n s b area begins most room =
    let k = first_run size start n in
    let r₁ = run₁ base size start n s in
    let r₂ = run₂ base size start n s in
    let l : length r₁ ≡ k = length₁ base size start n s area begins most in
    let e : 0 + k + (n - k) ≡ n = omega arith in
    let after : drop (k + (n - k)) (r₁ ++ drop (0 + k) b) ≡ drop n b =
    sym (drop-drop (n - k) k (r₁ ++ drop (0 + k) b))
    ∙ ap (drop (n - k)) (drop_at r₁ (drop (0 + k) b) k l)
    ∙ drop-drop (n - k) (0 + k) b
    ∙ ap (λ (j : ℕ). drop j b) e in
    ap (λ (x : List ℕ). x ++ r₂ ++ drop (k + (n - k)) (r₁ ++ drop (0 + k) b)) (take_at r₁ (drop (0 + k) b) k l)
    ∙ ap (λ (x : List ℕ). r₁ ++ r₂ ++ x) after

module _ (base size start count : ℕ) (s : List ℕ) (area : base + size ≤ length s) (begins : start ≤ size) (most : count ≤ size) where
  -- what is handed out is a front of the queue
  pub pending_front : take (first_run size start count) (drop (base + start) s) ≡ take (first_run size start count) (ring_read base size start count s)
  unfolding ring_read
  pending_front =
      sym (take_at (run₁ base size start count s) (run₂ base size start count s) (first_run size start count) (length₁ base size start count s area begins most))

  -- and is not empty unless the queue is
  pub pending_some : start < size → 0 < count → 0 < length (take (first_run size start count) (drop (base + start) s))
  pending_some h some = omega (arith, length₁ base size start count s area begins most)
