-- A ring of bytes in an area of a store: `size` places from `base` on, of which `start` holds the oldest byte.
-- Past the end of the area it goes on from the area's start, so a ring is read and written in at most two runs.
use Rattle.std.specs.Prelude.{cond, List, ◌++◌, ℕ, ◌+◌, ◌-◌, min, ltb, take, drop}
use Rattle.ring.specs.Runs.{copied}

-- a place past the end of an area goes on from the area's start
unfoldable pub wrap : (size x : ℕ) → ℕ
wrap size x = cond (ltb x size) x (x - size)

-- of n bytes from a place on, those that fit before the end of the area: the first of the two runs
abbrev pub first_run : (size place n : ℕ) → ℕ
first_run size place n = min n (size - place)

-- the ring's first n bytes: a run up to the end of the area, and the rest from its start
unfoldable pub ring_read : (base size start n : ℕ) → List ℕ → List ℕ
ring_read base size start n s =
    take (first_run size start n) (drop (base + start) s) ++ take (n - first_run size start n) (drop base s)

-- the store with the first n of bytes written from a place of the area on, in two runs
unfoldable pub ring_from : (base size place : ℕ) (bytes : List ℕ) (n : ℕ) → List ℕ → List ℕ
ring_from base size place bytes n s =
    let k = first_run size place n in copied (copied s (base + place) bytes 0 k) base bytes k (n - k)

-- the store with the first n of bytes appended to a ring that holds count
unfoldable pub ring_write : (base size start count : ℕ) (bytes : List ℕ) (n : ℕ) → List ℕ → List ℕ
ring_write base size start count bytes n s = ring_from base size (wrap size (start + count)) bytes n s
