-- The ranges of refusal 12 that concern the credit, and what the calls above ask, which follows from them.
use Rattle.std.specs.Prelude.{ℕ, ◌+◌, ◌*◌, ◌^◌, ◌≤◌, ◌<◌, ◌≡◌, Bool, ◌&&◌, ◌||◌, List, leb, ltb, eqb, length}
use Rattle.exec.specs.declared.Limits.{Limits}
use Rattle.exec.specs.declared.Unit as Units
use Rattle.exec.specs.declared.Unit.TheVariants.{Bytes, Frames}
use Rattle.exec.specs.declared.Window.{Window}
use Rattle.exec.specs.Limits.{input_bytes}
use Rattle.inbox.specs.declared.Inbox.{Inbox}
use Rattle.inbox.specs.declared.receiver.Granted.{Granted}
use Rattle.inbox.specs.Receiver.{units_fit}
use Rattle.inbox.specs.Inbox.{inbox_base, inbox_held}

-- a ring's start is below its size, or 0 where the size is 0
abbrev pub ring_fits : (start size : ℕ) → Bool
ring_fits start size = ltb start size || (eqb size 0 && eqb start 0)

-- in Bytes there are no frames; in Frames their lengths stand in a ring, and no more bytes wait than the frames hold
abbrev pub frames_fit : Units.Unit → (size chunk : ℕ) → Inbox → Bool
frames_fit Bytes size chunk b = eqb b.first 0 && eqb b.frames 0
frames_fit Frames size chunk b = ring_fits b.first size && leb b.length (b.frames * chunk)

-- the inbox is within its ring, and its window's units are open, to be granted or held
abbrev pub inbox_fits : Limits → Granted → Inbox → Bool
inbox_fits l g b =
    (ring_fits b.start (input_bytes l) && leb b.length (input_bytes l))
    && (units_fit g (inbox_held l.input.unit b) l.input.size && frames_fit l.input.unit l.input.size l.chunk b)

-- the same, of a chunk and a size that are not 0: a start is below its ring's size, and what waits is within the ring by its units
abbrev pub inbox_within : Units.Unit → (size chunk : ℕ) → Granted → Inbox → Bool
inbox_within Bytes size chunk g b = ltb b.start size && (units_fit g b.length size && (eqb b.first 0 && eqb b.frames 0))
inbox_within Frames size chunk g b =
    ltb b.start (size * chunk) && (units_fit g b.frames size && (ltb b.first size && leb b.length (b.frames * chunk)))

-- ---- what the calls on an inbox ask

-- in Frames there is a place for a length more
pub record FrameRoom (w : Window) (b : Inbox) (n : ℕ) (lengths : List ℕ) : Type 0 where
  pub counts : b.length + n < 2 ^ 64
  pub small : n < 2 ^ 32
  pub slots : w.unit ≡ Frames → w.size ≤ length lengths
  pub first : w.unit ≡ Frames → b.first ≤ w.size
  pub frames : w.unit ≡ Frames → b.frames < w.size

pub record Waiting (l : Limits) (b : Inbox) (store : List ℕ) : Type 0 where
  pub area : inbox_base l + input_bytes l ≤ length store
  pub begins : b.start ≤ input_bytes l
  pub most : b.length ≤ input_bytes l

-- there is room for n bytes more
pub record Pushable (l : Limits) (b : Inbox) (n : ℕ) (store lengths : List ℕ) : Type 0 where
  pub waiting : Waiting l b store
  pub room : b.length + n ≤ input_bytes l
  pub frame : FrameRoom l.input b n lengths

-- n bytes' units can be freed
pub record Slots (w : Window) (b : Inbox) (n : ℕ) (lengths : List ℕ) : Type 0 where
  pub few : w.unit ≡ Bytes → n < 2 ^ 32
  pub slots : w.unit ≡ Frames → w.size ≤ length lengths
  pub first : w.unit ≡ Frames → b.first ≤ w.size
  pub frames : w.unit ≡ Frames → b.frames ≤ w.size

pub record Poppable (l : Limits) (b : Inbox) (lengths : List ℕ) : Type 0 where
  pub begins : b.start ≤ input_bytes l
  pub most : b.length ≤ input_bytes l
  pub units : (n : ℕ) → n ≤ b.length → Slots l.input b n lengths
