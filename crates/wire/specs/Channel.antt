-- A channel of RFC 4254 as a wire: the records that the sender puts on it, what its peer's readers make of them, and what is to be
-- heard of a message. The sender cuts what a write left by its answer; the peer has the bytes, and no message, length or answer.
use Rattle.std.specs.Prelude.{Bool, true, false, cond, List, [], ◌∷◌, ◌++◌, map, ℕ, ◌-◌, eqb, length, take, drop, get_or, Option, Result, Some, None, Ok, Err}
use Rattle.runner.specs.declared.answer.Message.{Message}
use Rattle.codec.specs.declared.Record.{Record}
use Rattle.exec.specs.declared.Status.{Status}
use Rattle.exec.specs.declared.Refusal.{Refusal}
use Rattle.exec.specs.declared.Stream.{Stream}
use Rattle.exec.specs.declared.Stream.TheVariants.{Stdout, Stderr, Notes}
use Rattle.exec.specs.Each.{Each, every}
use Rattle.exec.specs.Stream.{same_stream}
use Rattle.runner.specs.declared.answer.Message as Messages
use Rattle.octets.specs.Bytes.{number_at}
use Rattle.codec.specs.Codec as Codec
use Rattle.exits.specs.Exit as Exits
use Rattle.channel.specs.Calls as Channel
use Rattle.calls.specs.Call as Call
use Rattle.account.specs.Step.{State}
use Rattle.account.specs.Records.{Entry, call, read_record, write_record, read_frame, write_frame}
use Rattle.wire.specs.Messages.{ends_by}
use Rattle.wire.specs.Heard.{written}

-- ---- what stands on it

-- bytes as a record, if there are any
abbrev pub packet : List ℕ → List (List ℕ)
packet b = cond (eqb (length b) 0) [] (b ∷ [])

-- the n bytes that a message left at the buffer's start, as the sender cuts them: of a Terminal the last 5 are a record of their own
abbrev pub packets : Messages.Message → (n : ℕ) → (buffer : List ℕ) → List (List ℕ)
packets (Message.Credit units) n buffer = packet (take n buffer)
packets Message.Started n buffer = packet (take n buffer)
packets (Message.Output x k) n buffer = packet (take n buffer)
packets (Message.End x) n buffer = packet (take n buffer)
packets Message.InputClosed n buffer = packet (take n buffer)
packets (Message.Terminal o) n buffer = packet (take (n - 5) buffer) ++ packet (take 5 (drop (n - 5) buffer))

-- the records that an entry writes
unfoldable pub on_wire : State → Entry → List (List ℕ)
on_wire s (call c) = []
on_wire s (read_record now channel b) = []
on_wire s (write_record channel buffer) =
    written packets (Channel.write_record s.runner channel s.bytes buffer).writing.answer (Channel.write_record s.runner channel s.bytes buffer).buffer
on_wire s (read_frame now stream b) = []
on_wire s (write_frame stream buffer) = []

-- ---- what its peer hears

-- what a record is heard as
pub data Heard : Type 0 where
  Window : (units : ℕ) → Heard  -- so many units more may be sent
  Bytes : Stream → (payload : List ℕ) → Heard
  Eof : Heard  -- no more bytes
  Exit : Status → Heard  -- how the program ended
  Close : Heard
  Unread : Heard  -- the reader refused it

-- what the peer has of it
abbrev pub bytes_in : Stream → Heard → List ℕ
bytes_in x (Window n) = []
bytes_in x (Bytes y b) = cond (same_stream y x) b []
bytes_in x Eof = []
bytes_in x (Exit s) = []
bytes_in x Close = []
bytes_in x Unread = []

abbrev pub units_in : Heard → List ℕ
units_in (Window n) = n ∷ []
units_in (Bytes x b) = []
units_in Eof = []
units_in (Exit s) = []
units_in Close = []
units_in Unread = []

abbrev pub is_eof : Heard → Bool
is_eof (Window n) = false
is_eof (Bytes x b) = false
is_eof Eof = true
is_eof (Exit s) = false
is_eof Close = false
is_eof Unread = false

abbrev pub is_close : Heard → Bool
is_close (Window n) = false
is_close (Bytes x b) = false
is_close Eof = false
is_close (Exit s) = false
is_close Close = true
is_close Unread = false

abbrev pub is_unread : Heard → Bool
is_unread (Window n) = false
is_unread (Bytes x b) = false
is_unread Eof = false
is_unread (Exit s) = false
is_unread Close = false
is_unread Unread = true

abbrev pub read_if : Bool → Heard → Heard
read_if b h = cond b h Unread

-- by the type of a 95: 1 is stderr's, 0xFE000000 Notes'
abbrev pub by_type : (type : ℕ) → List ℕ → Heard
by_type type b = cond (eqb type 1) (Bytes Stderr b) (cond (eqb type 4261412864) (Bytes Notes b) Unread)

-- a record that the codec's reader accepts, by its first byte and by RFC 4254's places: the channel stands at 1; of a 93 the units at
-- 5; of a 94 the payload's length at 5 and the payload at 9; of a 95 the type at 5, the length at 9 and the payload at 13
abbrev pub by_kind : (channel kind : ℕ) → List ℕ → Heard
by_kind channel kind b =
    read_if (eqb (number_at b 1) channel)
    (cond (eqb kind 93) (Window (number_at b 5))
    (cond (eqb kind 94) (read_if (eqb (number_at b 5) (length b - 9)) (Bytes Stdout (drop 9 b)))
    (cond (eqb kind 95) (read_if (eqb (number_at b 9) (length b - 13)) (by_type (number_at b 5) (drop 13 b)))
    (cond (eqb kind 96) Eof
    (cond (eqb kind 97) Close Unread)))))

abbrev pub as_record : (channel : ℕ) → Result Record Refusal → List ℕ → Heard
as_record channel (Ok rec) b = by_kind channel (get_or b 0 0) b
as_record channel (Err x) b = Unread

-- 98, by the reader of the exit requests
abbrev pub as_request : Result Status Refusal → Heard
as_request (Ok s) = Exit s
as_request (Err x) = Unread

abbrev pub hear : (channel : ℕ) → List ℕ → Heard
hear channel b = cond (eqb (get_or b 0 0) 98) (as_request (Exits.read channel b)) (as_record channel (Codec.read channel b) b)

abbrev pub heard : (channel : ℕ) → List (List ℕ) → List Heard
heard channel bs = map (hear channel) bs

-- ---- what is to be heard of a message

abbrev pub exit_of : Option Status → List Heard
exit_of None = []
exit_of (Some s) = Exit s ∷ []

-- Credit its units, Output its bytes, the End with which every stream has ended an EOF, Terminal the status, if there is one, and
-- then CLOSE; Started, InputClosed and any other End nothing
abbrev pub speaks : Each Bool → Call.Message → List Heard
speaks e (Call.Credit n) = Window n ∷ []
speaks e Call.Started = []
speaks e (Call.Output x b) = Bytes x b ∷ []
speaks e (Call.End x) = cond (every (ends_by (Call.End x) e)) (Eof ∷ []) []
speaks e Call.InputClosed = []
speaks e (Call.Terminal o) = exit_of o.status ++ (Close ∷ [])
