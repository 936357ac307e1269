-- The two frame calls on a runner, each whole: 12, 10, 46, 11 and 42 first, then the frame's own refusals, 43 and 44, which all change
-- nothing, and then the calls that the frame makes. A message is written as no frame, one, or two.
use Rattle.std.specs.Prelude.{Bool, true, false, cond, not, ◌&&◌, List, [], ◌∷◌, ◌++◌, ℕ, ◌+◌, eqb, leb, length, take, drop, Result, Ok, Err}
use Rattle.exec.specs.declared.Receipt.{Receipt}
use Rattle.exec.specs.declared.Limits.{Limits}
use Rattle.exec.specs.declared.Pool.{Pool}
use Rattle.exec.specs.declared.Pool.TheVariants as Pools
use Rattle.exec.specs.declared.Key.{Key}
use Rattle.exec.specs.declared.Refusal.{Refusal}
use Rattle.exec.specs.declared.Refusal.TheVariants.{NotFramed, BadFrame}
use Rattle.exec.specs.declared.Stream.{Stream}
use Rattle.exec.specs.declared.Stream.TheVariants.{Stdout, Stderr, Notes}
use Rattle.exec.specs.Limits.{has_notes}
use Rattle.runner.specs.declared.answer.Message.{Message}
use Rattle.runner.specs.declared.runner.Runner.{Runner}
use Rattle.runner.specs.Calls as Calls
use Rattle.runner.specs.Calls.{stores_do}
use Rattle.runner.specs.State.{out_of}
use Rattle.runner.specs.Streams.{InputAfter}
use Rattle.carrier.specs.Carrier.{is_bytes, admitted, ReadAfter, read_after, heard, noted, unread, accepted, WriteAfter, Laying, Carriage, write}
use Rattle.framing.specs.declared.Frame.{Frame}
use Rattle.framing.specs.declared.Frame.TheVariants.{Update, Data, Reset}
use Rattle.framing.specs.Framing.{is_stream, start, size, bytes_of, read}

-- ---- what is met before a frame: 12, 10, 46, 11, 42

-- two streams with a pool for each, and bytes counted both ways
abbrev pub is_plain : Limits → Bool
is_plain l = not l.shared && is_bytes l.input.unit && is_bytes l.output.unit && not (has_notes l)

-- the longest payload that every peer takes (RFC 9113, 4.2), and the largest window (6.9.1)
abbrev pub most_payload : ℕ
most_payload = 16384

abbrev pub most_window : ℕ
most_window = 2147483647

abbrev pub is_small : Limits → Bool
is_small l = leb l.chunk most_payload && leb l.input.size most_window && leb l.output.size most_window

abbrev pub is_framed : Limits → (s : ℕ) → Bool
is_framed l s = is_plain l && is_small l && is_stream s

-- ---- a frame read

abbrev pub pool_of : Stream → Pool
pool_of Stdout = Pools.Stdout
pool_of Stderr = Pools.Stderr
pool_of Notes = Pools.Notes

abbrev pub is_ok : Result Receipt Refusal → Bool
is_ok (Ok x) = true
is_ok (Err x) = false

-- where input was made: if the frame ends the stream, end_input behind it, unless the bytes were refused
unfoldable pub then_end : (ends : Bool) → Key → InputAfter → ReadAfter
then_end ends key i =
    read_after (cond (ends && is_ok i.hearing.answer) (heard (Calls.end_input i.hearing.runner key)) (heard i.hearing)) i.bytes i.lengths

-- DATA: without bytes and with END_STREAM it is end_input alone
unfoldable pub data_made : (ends : Bool) → (bytes : List ℕ) → Runner → (store lengths : List ℕ) → ReadAfter
data_made ends bytes r store lengths =
    cond (ends && eqb (length bytes) 0)
    (read_after (heard (Calls.end_input r r.key)) store lengths)
    (then_end ends r.key (Calls.input r r.key bytes store lengths))

-- the calls that a frame makes under the runner's own key: WINDOW_UPDATE credit on its stream's pool, DATA input and end_input,
-- RST_STREAM reset; DATA on stderr's stream none (Notes has no stream, and is never read)
unfoldable pub made : Frame → Runner → (at : ℕ) → (b store lengths : List ℕ) → ReadAfter
made (Update x units) r at b store lengths = read_after (heard (Calls.credit r r.key (pool_of x) units)) store lengths
made (Data Stdout n ends) r at b store lengths = data_made ends (drop 9 b) r store lengths
made (Data Stderr n ends) r at b store lengths = read_after (unread BadFrame r) store lengths
made (Data Notes n ends) r at b store lengths = read_after (unread BadFrame r) store lengths
made (Reset x) r at b store lengths = read_after (noted (Calls.reset r at)) store lengths

unfoldable pub parsed_read : Result Frame Refusal → Runner → (at : ℕ) → (b store lengths : List ℕ) → ReadAfter
parsed_read (Ok f) r at b store lengths = made f r at b store lengths
parsed_read (Err x) r at b store lengths = read_after (unread x r) store lengths

-- the frame b, read at an instant for the streams s and s + 2
unfoldable pub read_frame : Runner → (at s : ℕ) → (b store lengths : List ℕ) → ReadAfter
read_frame r at s b store lengths =
    parsed_read (accepted (admitted r (stores_do r store lengths) (is_framed r.limits s) NotFramed) (read s b)) r at b store lengths

-- ---- a frame written

-- RST_STREAM on a stream whose End was not told
abbrev pub reset_unless : (ended : Bool) → Stream → List Frame
reset_unless true x = []
reset_unless false x = Reset x ∷ []

-- the frames that a message is sent as, where stdout and stderr say of which stream the End was told: Credit WINDOW_UPDATE, Output DATA, End
-- an empty DATA with END_STREAM, Terminal the resets; Started and InputClosed none
unfoldable pub sent_as : (stdout stderr : Bool) → Message → List Frame
sent_as stdout stderr (Message.Credit units) = Update Stdout units ∷ []
sent_as stdout stderr Message.Started = []
sent_as stdout stderr (Message.Output x n) = Data x n false ∷ []
sent_as stdout stderr (Message.End x) = Data x 0 true ∷ []
sent_as stdout stderr Message.InputClosed = []
sent_as stdout stderr (Message.Terminal outcome) = reset_unless stdout Stdout ++ reset_unless stderr Stderr

-- how many bytes they have, and these bytes, one frame behind the other; a payload stands in the buffer from byte 9 on, where its frame has it
abbrev pub length_all : List Frame → ℕ
length_all [] = 0
length_all (f ∷ fs) = start f + size f + length_all fs

abbrev pub bytes_all : (s : ℕ) → List Frame → (buffer : List ℕ) → List ℕ
bytes_all s [] buffer = []
bytes_all s (f ∷ fs) buffer = bytes_of s f (take (size f) (drop 9 buffer)) ++ bytes_all s fs buffer

unfoldable pub laid : (s : ℕ) → List Frame → (buffer : List ℕ) → List ℕ
laid s fs buffer = bytes_all s fs buffer ++ drop (length_all fs) buffer

abbrev pub laying : (s : ℕ) (stdout stderr : Bool) → Laying
laying s stdout stderr = record {
  size = λ (m : Message). length_all (sent_as stdout stderr m);
  lay = λ (m : Message) (b : List ℕ). laid s (sent_as stdout stderr m) b;
}

-- the next message, as frames on the streams s and s + 2
abbrev pub carriage : Runner → (s : ℕ) → Carriage
carriage r s = record {
  at = 9;
  carries = is_framed r.limits s;
  own = NotFramed;
  left = false;
  laying = laying s (out_of Stdout r).ended (out_of Stderr r).ended;
}

unfoldable pub write_frame : Runner → (s : ℕ) → (store buffer : List ℕ) → WriteAfter
write_frame r s store buffer = write (carriage r s) r store buffer
