-- The inbox: the waiting bytes in a ring of the byte store behind the rings of the output streams, and in Frames the bytes
-- left of each frame in a ring of the length store.
use Rattle.std.specs.Prelude.{ℕ, ◌+◌, ◌-◌, min, List, length, take, drop, set}
use Rattle.exec.specs.declared.Limits.{Limits}
use Rattle.exec.specs.declared.Unit as Units
use Rattle.exec.specs.declared.Unit.TheVariants.{Bytes, Frames}
use Rattle.exec.specs.declared.Window.{Window}
use Rattle.exec.specs.Limits.{input_bytes}
use Rattle.ring.specs.Ring.{wrap, first_run, ring_write}
use Rattle.ring.specs.Frames.{popped}
use Rattle.inbox.specs.declared.Inbox.{Inbox}
use Rattle.inbox.specs.declared.Popping.{Popping}
use Rattle.inbox.specs.Need.{rings_of}

abbrev pub new_inbox : Inbox
new_inbox = record { start = 0; length = 0; first = 0; frames = 0 }

-- the units held
abbrev pub inbox_held : Units.Unit → Inbox → ℕ
inbox_held Bytes b = b.length
inbox_held Frames b = b.frames

-- where the inbox's ring begins in the byte store
abbrev pub inbox_base : Limits → ℕ
inbox_base l = rings_of l

-- ---- push: the bytes behind those that wait, and in Frames their number behind those of the other frames

-- what a push leaves: the inbox and both stores
pub record PushAfter : Type 0 where
  pub inbox : Inbox
  pub bytes : List ℕ
  pub lengths : List ℕ

abbrev pub push_after : Inbox → List ℕ → List ℕ → PushAfter
push_after b bytes lengths = record { inbox = b; bytes = bytes; lengths = lengths }

pub record FrameAfter : Type 0 where
  pub inbox : Inbox
  pub lengths : List ℕ

abbrev pub frame_after : Inbox → List ℕ → FrameAfter
frame_after b lengths = record { inbox = b; lengths = lengths }

-- the frames with one more, and with some gone: none are counted in Bytes
abbrev pub frames_pushed : Units.Unit → ℕ → ℕ
frames_pushed Bytes frames = frames
frames_pushed Frames frames = frames + 1

abbrev pub frames_popped : Units.Unit → (freed frames : ℕ) → ℕ
frames_popped Bytes freed frames = frames
frames_popped Frames freed frames = frames - freed

abbrev pub pushed : Units.Unit → ℕ → Inbox → Inbox
pushed u n b = record { start = b.start; length = b.length + n; first = b.first; frames = frames_pushed u b.frames }

abbrev pub lengths_pushed : Units.Unit → (size n : ℕ) → Inbox → List ℕ → List ℕ
lengths_pushed Bytes size n b lengths = lengths
lengths_pushed Frames size n b lengths = set lengths (wrap size (b.first + b.frames)) n

abbrev pub bytes_pushed : Limits → Inbox → (bytes store : List ℕ) → List ℕ
bytes_pushed l b bytes store =
    ring_write (inbox_base l) (input_bytes l) b.start b.length bytes (length bytes) store

unfoldable pub pushed_frame : Window → Inbox → ℕ → List ℕ → FrameAfter
pushed_frame w b n lengths = frame_after (pushed w.unit n b) (lengths_pushed w.unit w.size n b lengths)

unfoldable pub push : Limits → Inbox → (bytes store lengths : List ℕ) → PushAfter
push l b bytes store lengths =
    push_after
    (pushed l.input.unit (length bytes) b)
    (bytes_pushed l b bytes store)
    (lengths_pushed l.input.unit l.input.size (length bytes) b lengths)

-- ---- front: from the ring's head to the end of its area or the last waiting byte

unfoldable pub front : Limits → Inbox → List ℕ → List ℕ
front l b store =
    take (first_run (input_bytes l) b.start b.length) (drop (inbox_base l + b.start) store)

-- ---- pop: at most what waits

-- what a pop leaves: its answer with the inbox, and the length store
pub record PopAfter : Type 0 where
  pub popping : Popping
  pub lengths : List ℕ

abbrev pub pop_after : Popping → List ℕ → PopAfter
pop_after p lengths = record { popping = p; lengths = lengths }

-- the units that n bytes free: each byte's, or that of each frame finished
abbrev pub freed_by : Units.Unit → (size n : ℕ) → Inbox → List ℕ → ℕ
freed_by Bytes size n b lengths = n
freed_by Frames size n b lengths = (popped b.frames size b.first n lengths).freed

-- the frames that n bytes come to: in Bytes there are none
abbrev pub came_by : Units.Unit → (size n : ℕ) → Inbox → List ℕ → ℕ
came_by Bytes size n b lengths = 0
came_by Frames size n b lengths = (popped b.frames size b.first n lengths).came

abbrev pub lengths_popped : Units.Unit → (size n : ℕ) → Inbox → List ℕ → List ℕ
lengths_popped Bytes size n b lengths = lengths
lengths_popped Frames size n b lengths = (popped b.frames size b.first n lengths).lengths

-- the first frame's place once so many are gone
abbrev pub first_after : Units.Unit → (size freed : ℕ) → Inbox → ℕ
first_after Bytes size freed b = b.first
first_after Frames size freed b = wrap size (b.first + freed)

unfoldable pub pop_units : Window → Inbox → ℕ → List ℕ → PopAfter
pop_units w b n lengths =
    let f : ℕ = freed_by w.unit w.size n b lengths in
    pop_after
    (record {
      inbox = record {
        start = b.start;
        length = b.length;
        first = first_after w.unit w.size f b;
        frames = frames_popped w.unit f b.frames;
      };
      freed = f;
      came = came_by w.unit w.size n b lengths;
    })
    (lengths_popped w.unit w.size n b lengths)

-- a pop of count bytes, at most of those that wait: the units that it frees, the frames that it came to with bytes still to take, and
-- what it leaves of the inbox and of the lengths
abbrev pub pop_freed : Limits → Inbox → (count : ℕ) → List ℕ → ℕ
pop_freed l b count lengths = freed_by l.input.unit l.input.size (min count b.length) b lengths

abbrev pub pop_came : Limits → Inbox → (count : ℕ) → List ℕ → ℕ
pop_came l b count lengths = came_by l.input.unit l.input.size (min count b.length) b lengths

abbrev pub pop_inbox : Limits → Inbox → (count : ℕ) → List ℕ → Inbox
pop_inbox l b count lengths = record {
  start = wrap (input_bytes l) (b.start + min count b.length);
  length = b.length - min count b.length;
  first = first_after l.input.unit l.input.size (pop_freed l b count lengths) b;
  frames = frames_popped l.input.unit (pop_freed l b count lengths) b.frames;
}

abbrev pub pop_lengths : Limits → Inbox → (count : ℕ) → List ℕ → List ℕ
pop_lengths l b count lengths = lengths_popped l.input.unit l.input.size (min count b.length) b lengths

unfoldable pub pop : Limits → Inbox → (count : ℕ) → List ℕ → PopAfter
pop l b count lengths =
    pop_after
    (record { inbox = pop_inbox l b count lengths; freed = pop_freed l b count lengths; came = pop_came l b count lengths })
    (pop_lengths l b count lengths)
