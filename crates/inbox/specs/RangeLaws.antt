-- The ranges as facts: what the calls on an inbox ask follows from them and from the needs of the stores.
use Rattle.std.specs.Prelude.{ℕ, ◌+◌, ◌*◌, ◌^◌, ◌≤◌, ◌<◌, min, ◌≡◌, refl, Bool, true, false, ◌&&◌, List, leb, ltb, eqb, length}
use native.Mathlib.Omega.{arith}
use Rattle.std.proofs.Math.Nat.{mul-le-mul}
use Rattle.std.proofs.Common.{mul-pos, sym, leb-true, ne_eqb, le-leb}
use Rattle.std.proofs.lemmas.Bool.Decides.{nat_tests}
use Rattle.std.proofs.Math.Bool.{or-false}
use Rattle.exec.specs.declared.Limits.{Limits}
use Rattle.exec.specs.declared.Unit as Units
use Rattle.exec.specs.declared.Unit.TheVariants.{Bytes, Frames}
use Rattle.exec.specs.Limits.{cost, bytes_with, input_bytes}
use Rattle.ring.specs.FrameLaws.{pop_most}
use Rattle.inbox.specs.declared.Inbox.{Inbox}
use Rattle.inbox.specs.declared.receiver.Granted.{Granted}
use Rattle.inbox.specs.Inbox.{inbox_held, freed_by, pop_freed}
use Rattle.inbox.specs.Receiver.{units_fit}
use Rattle.inbox.specs.Need.{byte_need, length_need}
use Rattle.inbox.specs.Need as Need
use Rattle.inbox.specs.Range.{ring_fits, frames_fit, inbox_fits, inbox_within, Waiting, Pushable, Poppable}
-- two flags that hold together hold each
pub use Rattle.std.proofs.lemmas.Bool.{and_parts as both}

-- a start in range is at most the size, and below it unless that is 0
pub ring_start : (start size : ℕ) → ring_fits start size ≡ true → start ≤ size
ring_start start size h = grind (arith, nat_tests)

pub ring_below : (start size : ℕ) → ring_fits start size ≡ true → 0 < size → start < size
ring_below start size h some = grind (arith, nat_tests)

-- where the size is not 0
pub ring_valid : (start size : ℕ) → 0 < size → ring_fits start size ≡ ltb start size
ring_valid start size some = rw (ne_eqb size 0 (omega arith)) (or-false (ltb start size))

-- in Frames, the lengths and the bytes of the frames
pub record FramesIn (u : Units.Unit) (size chunk : ℕ) (b : Inbox) : Type 0 where
  pub first : u ≡ Frames → b.first ≤ size
  pub held : u ≡ Frames → b.length ≤ b.frames * chunk

frames_in : (u : Units.Unit) (size chunk : ℕ) (b : Inbox) → frames_fit u size chunk b ≡ true → FramesIn u size chunk b
frames_in Bytes size chunk b h = record { first = λ e. cc; held = λ e. cc }
frames_in Frames size chunk b h =
    let p = both (ring_fits b.first size) (leb b.length (b.frames * chunk)) h in record {
      first = λ e. ring_start b.first size p.0;
      held = λ e. leb-true b.length (b.frames * chunk) p.1;
    }

-- an inbox and its window in range
pub record InRange (l : Limits) (g : Granted) (b : Inbox) : Type 0 where
  pub begins : b.start ≤ input_bytes l
  pub most : b.length ≤ input_bytes l
  pub units : g.open + g.returnable + inbox_held l.input.unit b ≤ l.input.size
  pub frames : FramesIn l.input.unit l.input.size l.chunk b

pub in_range_lem : (l : Limits) (g : Granted) (b : Inbox) → inbox_fits l g b ≡ true → InRange l g b
in_range_lem l g b h =
    let ring = ring_fits b.start (input_bytes l) in
    let most = leb b.length (input_bytes l) in
    let units = units_fit g (inbox_held l.input.unit b) l.input.size in
    let frames = frames_fit l.input.unit l.input.size l.chunk b in
    let p = both (ring && most) (units && frames) h in
    let q = both ring most p.0 in
    let r = both units frames p.1 in
    record {
      begins = ring_start b.start (input_bytes l) q.0;
      most = leb-true b.length (input_bytes l) q.1;
      units = leb-true (g.open + g.returnable + inbox_held l.input.unit b) l.input.size r.0;
      frames = frames_in l.input.unit l.input.size l.chunk b r.1;
    }

-- ---- the quicker test

-- x need not be asked where u and f imply it
implied : (a x u f : Bool) → (u ≡ true → f ≡ true → x ≡ true) → ((a && x) && (u && f)) ≡ (a && (u && f))
implied true true u f h = refl
implied false x u f h = refl
implied true false true true h = h refl refl
implied true false true false h = refl
implied true false false f h = refl

within_as : (u : Units.Unit) (size chunk : ℕ) (g : Granted) (b : Inbox) → 0 < size → 0 < chunk
    → inbox_within u size chunk g b
    ≡ ((ring_fits b.start (bytes_with u size chunk) && leb b.length (bytes_with u size chunk))
    && (units_fit g (inbox_held u b) size && frames_fit u size chunk b))
unfolding bytes_with
within_as Bytes size chunk g b hs hc =
    let most = leb-true (g.open + g.returnable + b.length) size in
    rw (ring_valid b.start size hs)
    (sym (implied (ltb b.start size) (leb b.length size) (units_fit g b.length size) (eqb b.first 0 && eqb b.frames 0) (λ u f. le-leb b.length size (omega (arith, most u)))))
within_as Frames size chunk g b hs hc =
    let units = leb-true (g.open + g.returnable + b.frames) size in
    rw (ring_valid b.start (size * chunk) (mul-pos hs hc), ring_valid b.first size hs)
    (sym (implied (ltb b.start (size * chunk)) (leb b.length (size * chunk)) (units_fit g b.frames size) (ltb b.first size && leb b.length (b.frames * chunk))
    (λ u f.
    let held = leb-true b.length (b.frames * chunk) (both (ltb b.first size) (leb b.length (b.frames * chunk)) f).1 in
    let all : b.frames * chunk ≤ size * chunk = mul-le-mul (omega (arith, units u)) (omega arith) in
    le-leb b.length (size * chunk) (omega (arith, held, all)))))

pub within_fits : (l : Limits) (g : Granted) (b : Inbox) → 0 < l.input.size → 0 < l.chunk
    → inbox_within l.input.unit l.input.size l.chunk g b ≡ inbox_fits l g b
within_fits l g b hs hc = within_as l.input.unit l.input.size l.chunk g b hs hc

-- ---- what follows, for limits of 32 bits and stores that do

module _ (l : Limits) (g : Granted) (b : Inbox) (r : InRange l g b) where
  -- in Frames no more frames wait than the window has
  pub frames_most : l.input.unit ≡ Frames → b.frames ≤ l.input.size
  frames_most e = let h : g.open + g.returnable + inbox_held Frames b ≤ l.input.size = rw e at r.units in omega arith

  pub is_waiting : (store : List ℕ) → byte_need l ≤ length store → Waiting l b store
  is_waiting store need = record { area = need; begins = r.begins; most = r.most }

  slots_do : (lengths : List ℕ) → length_need l ≤ length lengths → l.input.unit ≡ Frames → l.input.size ≤ length lengths
  slots_do lengths need e = rw e at need

  pub is_poppable : (lengths : List ℕ) → l.input.size < 2 ^ 32 → length_need l ≤ length lengths → Poppable l b lengths
  unfolding bytes_with
  is_poppable lengths small need = record {
    begins = r.begins;
    most = r.most;
    units = λ n h. record {
      few = λ e. let m : b.length ≤ bytes_with Bytes l.input.size l.chunk = rw e at r.most in omega arith;
      slots = slots_do lengths need;
      first = r.frames.first;
      frames = frames_most;
    };
  }

  -- a message that its window paid for has room
  room_as : (u : Units.Unit) (n : ℕ) → n ≤ l.chunk → cost u n ≤ g.open → g.open + g.returnable + inbox_held u b ≤ l.input.size
      → FramesIn u l.input.size l.chunk b → b.length + n ≤ bytes_with u l.input.size l.chunk
  unfolding cost bytes_with
  room_as Bytes n chunk paid units f = omega arith
  room_as Frames n chunk paid units f =
      let more : b.frames + 1 ≤ l.input.size = omega arith in
      let all : (b.frames + 1) * l.chunk ≤ l.input.size * l.chunk = mul-le-mul more (omega arith) in
      let step : (b.frames + 1) * l.chunk ≡ b.frames * l.chunk + l.chunk = omega arith in
      omega (arith, f.held refl)

  pub has_room : (n : ℕ) → n ≤ l.chunk → cost l.input.unit n ≤ g.open → b.length + n ≤ input_bytes l
  has_room n chunk paid = room_as l.input.unit n chunk paid r.units r.frames

  frame_free : (n : ℕ) → cost l.input.unit n ≤ g.open → l.input.unit ≡ Frames → b.frames < l.input.size
  unfolding cost
  frame_free n paid e =
      let h : g.open + g.returnable + inbox_held Frames b ≤ l.input.size = rw e at r.units in
      let p : cost Frames n ≤ g.open = rw e at paid in
      omega arith

  pub is_pushable : (n : ℕ) (store lengths : List ℕ) → n ≤ l.chunk → cost l.input.unit n ≤ g.open → l.chunk < 2 ^ 32 → l.input.size < 2 ^ 32
      → byte_need l ≤ length store → length_need l ≤ length lengths → Pushable l b n store lengths
  is_pushable n store lengths chunk paid hc hs bytes need =
      let room = has_room n chunk paid in
      record {
        waiting = is_waiting store bytes;
        room = room;
        frame = record {
          counts = omega (arith, room, Need.inbox_fits l hc hs);
          small = omega arith;
          slots = slots_do lengths need;
          first = r.frames.first;
          frames = frame_free n paid;
        };
      }

  -- no more units are freed than are held, so that what is to be granted stays within the window
  freed_as : (u : Units.Unit) (n : ℕ) (lengths : List ℕ) → n ≤ b.length → g.open + g.returnable + inbox_held u b ≤ l.input.size
      → (u ≡ Frames → l.input.size ≤ length lengths) → FramesIn u l.input.size l.chunk b
      → g.open + g.returnable + freed_by u l.input.size n b lengths ≤ l.input.size
  freed_as Bytes n lengths h units slots f = omega arith
  freed_as Frames n lengths h units slots f =
      omega (arith, pop_most b.frames l.input.size b.first n lengths (slots refl) (f.first refl) (omega arith))

  pub freed_fits : (count : ℕ) (lengths : List ℕ) → length_need l ≤ length lengths
      → g.open + g.returnable + pop_freed l b count lengths ≤ l.input.size
  freed_fits count lengths need =
      freed_as l.input.unit (min count b.length) lengths (omega arith) r.units (slots_do lengths need) r.frames
