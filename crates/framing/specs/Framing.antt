-- The frames of RFC 9113 on the two streams of a runner: stdout and input on stream s, stderr on s + 2. WINDOW_UPDATE (6.9), DATA
-- (6.1) and RST_STREAM (6.4), written and read.
use Rattle.std.specs.Prelude.{Bool, true, false, cond, not, ◌&&◌, List, ◌∷◌, ◌++◌, ℕ, ◌+◌, ◌/◌, ◌%◌, eqb, leb, length, take, drop, get_or, Option, Some, None, Result, Ok, Err}
use Rattle.exec.specs.declared.Refusal.{Refusal}
use Rattle.exec.specs.declared.Refusal.TheVariants.{BufferShort, NotFramed, BadFrame, PaddedFrame}
use Rattle.exec.specs.declared.Stream.{Stream}
use Rattle.exec.specs.declared.Stream.TheVariants.{Stdout, Stderr, Notes}
use Rattle.exec.specs.Stream.{is_notes}
use Rattle.exec.specs.Written.{WrittenAfter, written_after}
use Rattle.octets.specs.Bytes.{be24, be24_at, be32, number_at}
use Rattle.framing.specs.declared.Frame.{Frame}
use Rattle.framing.specs.declared.Frame.TheVariants.{Update, Data, Reset}

-- ---- the streams

-- s is from 1 to 2^31 - 3, so that s + 2 is a stream's number too
abbrev pub is_stream : (s : ℕ) → Bool
is_stream s = leb 1 s && leb s 2147483645

-- frames have no third stream
abbrev pub is_framed : Stream → Bool
is_framed x = not (is_notes x)

-- Notes has the number that is no stream's
abbrev pub id_of : (s : ℕ) → Stream → ℕ
id_of s Stdout = s
id_of s Stderr = s + 2
id_of s Notes = 0

-- ---- a frame in bytes

-- the nine bytes that all frames begin with (4.1): how many follow, the type, the flags, and the stream
abbrev pub head : (n kind flags id : ℕ) → List ℕ
head n kind flags id = be24 n ++ (kind ∷ flags ∷ be32 id)

-- of DATA's flags END_STREAM is bit 0, and PADDED bit 3
abbrev pub flags_of : (ends : Bool) → ℕ
flags_of true = 1
flags_of false = 0

-- the stream that a frame names
abbrev pub named : Frame → Stream
named (Update x units) = x
named (Data x n ends) = x
named (Reset x) = x

-- what stands before the payload: type 8 WINDOW_UPDATE, 0 DATA, 3 RST_STREAM with the code CANCEL, 8
unfoldable pub header : (s : ℕ) → Frame → List ℕ
header s (Update x units) = head 4 8 0 (id_of s x) ++ be32 units
header s (Data x n ends) = head n 0 (flags_of ends) (id_of s x)
header s (Reset x) = head 4 3 0 (id_of s x) ++ be32 8

-- where the payload begins
abbrev pub start : Frame → ℕ
start (Update x units) = 13
start (Data x n ends) = 9
start (Reset x) = 13

-- how many bytes it has
abbrev pub size : Frame → ℕ
size (Update x units) = 0
size (Data x n ends) = n
size (Reset x) = 0

-- its number fits the field: 31 bits of units, 24 bits of a length
abbrev pub fits : Frame → Bool
fits (Update x units) = leb units 2147483647
fits (Data x n ends) = leb n 16777215
fits (Reset x) = true

-- the whole frame
unfoldable pub bytes_of : (s : ℕ) → Frame → (payload : List ℕ) → List ℕ
bytes_of s f payload = header s f ++ payload

-- ---- reading: 43 (the length, the type, the stream), then 44

-- as many bytes stand behind the first nine as they say
unfoldable pub is_whole : List ℕ → Bool
is_whole b = eqb (length b) (9 + be24_at b 0)

-- the reserved bit before the stream is ignored (4.1), as is the one before the units (6.9)
unfoldable pub number31_at : List ℕ → (at : ℕ) → ℕ
number31_at b at = number_at b at % 2147483648

-- none where s is no stream, so that the connection's own frames, on 0, are none of ours
unfoldable pub stream_of : (s id : ℕ) → Option Stream
stream_of s id = cond (is_stream s) (cond (eqb id s) (Some Stdout) (cond (eqb id (s + 2)) (Some Stderr) None)) None

abbrev pub is_set : (bit flags : ℕ) → Bool
is_set bit flags = eqb (flags / bit % 2) 1

-- padding is refused on the stream of the input; on s + 2 the peer sends no DATA, and Notes has no stream
abbrev pub padded : Stream → Refusal
padded Stdout = PaddedFrame
padded Stderr = BadFrame
padded Notes = BadFrame

-- all flags but these two are ignored (4.1)
unfoldable pub data_in : (flags : ℕ) → Stream → (n : ℕ) → Result Frame Refusal
data_in flags x n = cond (is_set 8 flags) (Err (padded x)) (Ok (Data x n (is_set 1 flags)))

-- with four bytes behind the first nine
unfoldable pub of_four : (n : ℕ) → Frame → Result Frame Refusal
of_four n f = cond (eqb n 4) (Ok f) (Err BadFrame)

unfoldable pub kinded : List ℕ → Stream → Result Frame Refusal
kinded b x =
    cond (eqb (get_or b 3 0) 0) (data_in (get_or b 4 0) x (be24_at b 0))
    (cond (eqb (get_or b 3 0) 3) (of_four (be24_at b 0) (Reset x))
    (cond (eqb (get_or b 3 0) 8) (of_four (be24_at b 0) (Update x (number31_at b 9))) (Err BadFrame)))

unfoldable pub on_stream : List ℕ → Option Stream → Result Frame Refusal
on_stream b None = Err BadFrame
on_stream b (Some x) = kinded b x

unfoldable pub read : (s : ℕ) → List ℕ → Result Frame Refusal
read s b = cond (is_whole b) (on_stream b (stream_of s (number31_at b 5))) (Err BadFrame)

-- ---- writing: 25, then 43 for a payload of another length than the frame's, then 42 for Notes, or 43 for numbers that bytes cannot hold

unfoldable pub is_writable : (s : ℕ) → Frame → Bool
is_writable s f = (is_framed (named f) && is_stream s) && fits f

-- what a frame is refused by that is not
abbrev pub unwritable : Frame → Refusal
unwritable f = cond (is_framed (named f)) BadFrame NotFramed

-- the frame at the buffer's start; nothing else is written
unfoldable pub put_frame : (s : ℕ) → Frame → (payload buffer : List ℕ) → WrittenAfter
put_frame s f payload buffer =
    cond (is_writable s f)
    (written_after (Ok (start f + size f)) (bytes_of s f payload ++ drop (start f + size f) buffer))
    (written_after (Err (unwritable f)) buffer)

unfoldable pub write : (s : ℕ) → Frame → (payload buffer : List ℕ) → WrittenAfter
write s f payload buffer =
    cond (leb (start f + size f) (length buffer))
    (cond (eqb (length payload) (size f))
    (put_frame s f payload buffer)
    (written_after (Err BadFrame) buffer))
    (written_after (Err BufferShort) buffer)

-- the same of a payload that stands in the buffer already, from byte 9 on, where a frame has it
abbrev pub lay : (s : ℕ) → Frame → List ℕ → WrittenAfter
lay s f buffer = write s f (take (size f) (drop 9 buffer)) buffer
