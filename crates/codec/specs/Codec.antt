-- The records of an open channel, by RFC 4254, 5.2 and 5.3: kind, channel, and what the kind has behind them.
use Rattle.std.specs.Prelude.{Bool, true, cond, List, ◌∷◌, ◌++◌, ℕ, ◌+◌, ◌^◌, ◌<◌, eqb, leb, length, take, drop, get_or, Option, Some, None, Result, Ok, Err}
use Rattle.exec.specs.declared.Refusal.{Refusal}
use Rattle.exec.specs.Written.{WrittenAfter, written_after}
use Rattle.exec.specs.declared.Refusal.TheVariants.{BadLength, UnknownKind, OtherChannel, BadType, BufferShort}
use Rattle.codec.specs.declared.Record.{Record}
use Rattle.codec.specs.declared.Record.TheVariants.{Adjust, Data, Extended, Notes, Eof, Close}
use Rattle.octets.specs.Bytes.{be32, number_at, number_within}

-- ---- a record in bytes

-- the types of extended data (5.2): 1 is stderr's; that of Notes is 0xFE000000, the first of those for private use
abbrev pub stderr_type : ℕ
stderr_type = 1

abbrev pub notes_type : ℕ
notes_type = 4261412864

-- what stands before the payload: 93 WINDOW_ADJUST, 94 DATA, 95 EXTENDED_DATA, 96 EOF, 97 CLOSE
unfoldable pub header : (channel : ℕ) → Record → List ℕ
header channel (Adjust units) = 93 ∷ (be32 channel ++ be32 units)
header channel (Data n) = 94 ∷ (be32 channel ++ be32 n)
header channel (Extended n) = 95 ∷ (be32 channel ++ be32 stderr_type ++ be32 n)
header channel (Notes n) = 95 ∷ (be32 channel ++ be32 notes_type ++ be32 n)
header channel Eof = 96 ∷ be32 channel
header channel Close = 97 ∷ be32 channel

-- where the payload begins
abbrev pub start : Record → ℕ
start (Adjust units) = 9
start (Data n) = 9
start (Extended n) = 13
start (Notes n) = 13
start Eof = 5
start Close = 5

-- how many bytes it has
abbrev pub size : Record → ℕ
size (Adjust units) = 0
size (Data n) = n
size (Extended n) = n
size (Notes n) = n
size Eof = 0
size Close = 0

-- the number that it carries fits a u32, as it does in every record of the code
abbrev pub number : Record → ℕ
number (Adjust units) = units
number (Data n) = n
number (Extended n) = n
number (Notes n) = n
number Eof = 0
number Close = 0

abbrev pub Fits : Record → Type 0
Fits rec = number rec < 2 ^ 32

-- the whole record
unfoldable pub bytes_of : (channel : ℕ) → Record → (payload : List ℕ) → List ℕ
bytes_of channel rec payload = header channel rec ++ payload

-- ---- reading: 20 (empty), 21, 20, 22, 23

-- extended data of a type: all but that of Notes is taken for stderr's, so that length and channel are looked at before its type (`fitting`)
abbrev pub extended : (t n : ℕ) → Record
extended t n = cond (eqb t notes_type) (Notes n) (Extended n)

-- the record of a kind, with the number that its bytes have where that kind has one
unfoldable pub kinded : (kind : ℕ) → List ℕ → Result Record Refusal
kinded kind s =
    cond (eqb kind 93) (Ok (Adjust (number_at s 5)))
    (cond (eqb kind 94) (Ok (Data (number_at s 5)))
    (cond (eqb kind 95) (Ok (extended (number_at s 5) (number_at s 9)))
    (cond (eqb kind 96) (Ok Eof)
    (cond (eqb kind 97) (Ok Close) (Err UnknownKind)))))

-- as the code reads it: where the bytes end before the number, their length is refused at once (`checked_spelled`)
abbrev pub numbered : (ℕ → Record) → Option ℕ → Result Record Refusal
numbered rec None = Err BadLength
numbered rec (Some n) = Ok (rec n)

unfoldable pub spelled : (kind : ℕ) → List ℕ → Result Record Refusal
spelled kind s =
    cond (eqb kind 93) (numbered Adjust (number_within s 5))
    (cond (eqb kind 94) (numbered Data (number_within s 5))
    (cond (eqb kind 95) (numbered (extended (number_at s 5)) (number_within s 9))
    (cond (eqb kind 96) (Ok Eof)
    (cond (eqb kind 97) (Ok Close) (Err UnknownKind)))))

-- the type of extended data is its record's
abbrev pub is_typed : Record → List ℕ → Bool
is_typed (Adjust units) s = true
is_typed (Data n) s = true
is_typed (Extended n) s = eqb (number_at s 5) stderr_type
is_typed (Notes n) s = eqb (number_at s 5) notes_type
is_typed Eof s = true
is_typed Close s = true

-- exactly its length, for the channel, and of a type that is known
unfoldable pub fitting : (channel : ℕ) → List ℕ → Record → Result Record Refusal
fitting channel s rec =
    cond (eqb (length s) (start rec + size rec))
    (cond (eqb (number_at s 1) channel)
    (cond (is_typed rec s) (Ok rec) (Err BadType))
    (Err OtherChannel))
    (Err BadLength)

unfoldable pub checked : (channel : ℕ) → List ℕ → Result Record Refusal → Result Record Refusal
checked channel s (Ok rec) = fitting channel s rec
checked channel s (Err x) = Err x

unfoldable pub read : (channel : ℕ) → List ℕ → Result Record Refusal
read channel s =
    cond (eqb (length s) 0) (Err BadLength) (checked channel s (kinded (get_or s 0 0) s))

-- ---- writing: 25, then 20 for a payload that has not the record's length

-- the record at the buffer's start; nothing else is written
unfoldable pub write : (channel : ℕ) → Record → (payload buffer : List ℕ) → WrittenAfter
write channel rec payload buffer =
    cond (leb (start rec + size rec) (length buffer))
    (cond (eqb (length payload) (size rec))
    (written_after (Ok (start rec + size rec)) (bytes_of channel rec payload ++ drop (start rec + size rec) buffer))
    (written_after (Err BadLength) buffer))
    (written_after (Err BufferShort) buffer)

-- the record at the buffer's start, with its payload from byte 13 on of the buffer
unfoldable pub laid_record : (channel : ℕ) → Record → List ℕ → List ℕ
laid_record channel rec buffer =
    bytes_of channel rec (take (size rec) (drop 13 buffer)) ++ drop (start rec + size rec) buffer

-- 25 where the buffer has no room for the payload there
unfoldable pub lay : (channel : ℕ) → Record → List ℕ → WrittenAfter
lay channel rec buffer =
    cond (leb (13 + size rec) (length buffer))
    (written_after (Ok (start rec + size rec)) (laid_record channel rec buffer))
    (written_after (Err BufferShort) buffer)
