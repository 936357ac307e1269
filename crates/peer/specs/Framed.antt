-- The two streams of RFC 9113 as a wire: the bytes that the sender puts on it, what its peer makes of them, and what is to be heard of
-- a message. The peer has the bytes in one run, and cuts them by what they say themselves: no message, length or answer.
use Rattle.std.specs.Prelude.{Bool, true, false, cond, List, [], ◌∷◌, map, ℕ, zero, suc, ◌+◌, eqb, length, take, drop, get_or, Result, Ok, Err}
use Rattle.runner.specs.declared.answer.Message.{Message}
use Rattle.exec.specs.declared.Refusal.{Refusal}
use Rattle.exec.specs.declared.Stream.{Stream}
use Rattle.exec.specs.declared.Stream.TheVariants.{Stdout, Stderr}
use Rattle.exec.specs.Each.{Each, one}
use Rattle.exec.specs.Stream.{all, same_stream}
use Rattle.octets.specs.Bytes.{be24_at}
use Rattle.framing.specs.declared.Frame.{Frame}
use Rattle.framing.specs.Framing as Framing
use Rattle.framing.specs.Framing.{number31_at, is_set}
use Rattle.frames.specs.Calls as Frames
use Rattle.calls.specs.Call as Call
use Rattle.account.specs.Step.{State}
use Rattle.account.specs.Records.{Entry, call, read_record, write_record, read_frame, write_frame}
use Rattle.wire.specs.Heard.{joined, written}

-- ---- what stands on it

-- the n bytes that a message left at the buffer's start
abbrev pub front : Message → (n : ℕ) → (buffer : List ℕ) → List ℕ
front m n buffer = take n buffer

-- the bytes that an entry writes
unfoldable pub on_wire : State → Entry → List ℕ
on_wire s (call c) = []
on_wire s (read_record now channel b) = []
on_wire s (write_record channel buffer) = []
on_wire s (read_frame now stream b) = []
on_wire s (write_frame stream buffer) =
    written front (Frames.write_frame s.runner stream s.bytes buffer).writing.answer (Frames.write_frame s.runner stream s.bytes buffer).buffer

-- ---- what its peer makes of them

-- how long the first frame is: nine bytes, and as many as the first three say (4.1)
abbrev pub first_of : List ℕ → ℕ
first_of b = 9 + be24_at b 0

-- frames, one behind the other, while there are bytes, and at most so many
unfoldable pub cut_by : (most : ℕ) → List ℕ → List (List ℕ)
cut_by zero b = []
cut_by (suc most) [] = []
cut_by (suc most) (x ∷ b) = take (first_of (x ∷ b)) (x ∷ b) ∷ cut_by most (drop (first_of (x ∷ b)) (x ∷ b))

-- as each has a byte at least, as many as there are bytes
abbrev pub cut : List ℕ → List (List ℕ)
cut b = cut_by (length b) b

-- what a frame is heard as
pub data Heard : Type 0 where
  Window : (units : ℕ) → Heard  -- so many units more may be sent
  Bytes : Stream → (payload : List ℕ) → Heard
  Ended : Stream → Heard  -- no more bytes of it
  Reset : Stream → Heard  -- it was broken off
  Unread : Heard  -- the reader refused it, or it is none that is sent

abbrev pub read_if : Bool → Heard → Heard
read_if b h = cond b h Unread

-- by the stream, which stands at 5 behind a reserved bit: s is stdout's, s + 2 is stderr's
abbrev pub by_stream : (s : ℕ) → (stdout stderr : Heard) → List ℕ → Heard
by_stream s stdout stderr b = cond (eqb (number31_at b 5) s) stdout (read_if (eqb (number31_at b 5) (s + 2)) stderr)

-- DATA (6.1): END_STREAM is bit 0 of the flags, at 4, and comes without bytes; the payload stands at 9
abbrev pub as_data : Stream → List ℕ → Heard
as_data x b = cond (is_set 1 (get_or b 4 0)) (read_if (eqb (length b) 9) (Ended x)) (Bytes x (drop 9 b))

-- a frame that the codec's reader accepts, by the type, at 3: DATA 0; RST_STREAM 3 (6.4); WINDOW_UPDATE 8 (6.9), which is for the input
-- and so on s, with its units at 9 behind a reserved bit
abbrev pub by_kind : (s kind : ℕ) → List ℕ → Heard
by_kind s kind b =
    cond (eqb kind 0) (by_stream s (as_data Stdout b) (as_data Stderr b) b)
    (cond (eqb kind 3) (by_stream s (Reset Stdout) (Reset Stderr) b)
    (cond (eqb kind 8) (by_stream s (Window (number31_at b 9)) Unread b) Unread))

abbrev pub as_frame : (s : ℕ) → Result Frame Refusal → List ℕ → Heard
as_frame s (Ok f) b = by_kind s (get_or b 3 0) b
as_frame s (Err x) b = Unread

abbrev pub hear : (s : ℕ) → List ℕ → Heard
hear s b = as_frame s (Framing.read s b) b

-- what it hears of all the bytes
abbrev pub heard : (s : ℕ) → List ℕ → List Heard
heard s b = map (hear s) (cut b)

-- what it has of that
abbrev pub bytes_in : Stream → Heard → List ℕ
bytes_in x (Window n) = []
bytes_in x (Bytes y b) = cond (same_stream y x) b []
bytes_in x (Ended y) = []
bytes_in x (Reset y) = []
bytes_in x Unread = []

abbrev pub units_in : Heard → List ℕ
units_in (Window n) = n ∷ []
units_in (Bytes x b) = []
units_in (Ended x) = []
units_in (Reset x) = []
units_in Unread = []

abbrev pub is_ended : Stream → Heard → Bool
is_ended x (Window n) = false
is_ended x (Bytes y b) = false
is_ended x (Ended y) = same_stream y x
is_ended x (Reset y) = false
is_ended x Unread = false

abbrev pub is_reset : Stream → Heard → Bool
is_reset x (Window n) = false
is_reset x (Bytes y b) = false
is_reset x (Ended y) = false
is_reset x (Reset y) = same_stream y x
is_reset x Unread = false

-- a frame of the stream's own direction
abbrev pub is_on : Stream → Heard → Bool
is_on x (Window n) = false
is_on x (Bytes y b) = same_stream y x
is_on x (Ended y) = same_stream y x
is_on x (Reset y) = same_stream y x
is_on x Unread = false

abbrev pub is_unread : Heard → Bool
is_unread (Window n) = false
is_unread (Bytes x b) = false
is_unread (Ended x) = false
is_unread (Reset x) = false
is_unread Unread = true

-- ---- what is to be heard of a message

-- a stream whose End was not told is reset
abbrev pub reset_in : Each Bool → Stream → List Heard
reset_in e x = cond (one x e) [] (Reset x ∷ [])

-- Credit its units, Output its bytes, End its stream's end, Terminal the resets, in the order of the streams; Started and InputClosed nothing
abbrev pub speaks : Each Bool → Call.Message → List Heard
speaks e (Call.Credit n) = Window n ∷ []
speaks e Call.Started = []
speaks e (Call.Output x b) = Bytes x b ∷ []
speaks e (Call.End x) = Ended x ∷ []
speaks e Call.InputClosed = []
speaks e (Call.Terminal o) = joined (reset_in e) all
