-- How a program ended, on the wire: RFC 4254, 6.10, exit-status or exit-signal, and CLOSE behind it.
use Rattle.std.specs.Prelude.{Bool, false, cond, not, ◌&&◌, ◌||◌, List, [], ◌∷◌, ◌++◌, ℕ, ◌-◌, ◌^◌, eqb, leb, ltb, pos, negsuc, length, take, drop, get_or, Option, Result, Some, None, Ok, Err, is_some}
use Rattle.std.specs.Option.{option_map, unwrap_or}
use Rattle.exec.specs.declared.Refusal.{Refusal}
use Rattle.exec.specs.declared.Refusal.TheVariants.{BadLength, UnknownKind, OtherChannel, BufferShort, UntoldStatus, BadRequest}
use Rattle.exec.specs.declared.Status.{Status}
use Rattle.exec.specs.declared.Status.TheVariants.{Exited, Signaled}
use Rattle.octets.specs.Bytes.{be32, number_at}
use Rattle.octets.specs.Text.{bytes, same}
use Rattle.codec.specs.declared.Record.TheVariants.{Close}
use Rattle.exec.specs.Written.{WrittenAfter, written_after}
use Rattle.codec.specs.Codec.{bytes_of}
use Rattle.exits.specs.Signals.{name_of, number_of}

-- ---- the request of a status

-- a string of RFC 4251: its length, and its bytes
abbrev pub string : List ℕ → List ℕ
string s = be32 (length s) ++ s

-- 98, the channel, the request's name, and a false byte: no reply is wanted
abbrev pub head : (channel : ℕ) (name : List ℕ) → List ℕ
head channel name = 98 ∷ be32 channel ++ string name ++ 0 ∷ []

-- behind it a signal's name, a false byte (no core was dumped), no error message and no language
abbrev pub named : (channel : ℕ) → (name : List ℕ) → List ℕ
named channel name = head channel (bytes "exit-signal") ++ string name ++ (0 ∷ string [] ++ string [])

-- or the code; of what no request tells there are no bytes
unfoldable pub request : (channel : ℕ) → Status → List ℕ
request channel (Exited (pos code)) = head channel (bytes "exit-status") ++ be32 code
request channel (Exited (negsuc n)) = []
request channel (Signaled n) = named channel (unwrap_or (name_of n) [])

-- a request tells a code from 0 to 2^31 − 1, and a signal of the table
unfoldable pub is_told : Status → Bool
is_told (Exited (pos code)) = ltb code (2 ^ 31)
is_told (Exited (negsuc n)) = false
is_told (Signaled n) = is_some (name_of n)

-- the request of a status that is told
unfoldable pub told : (channel : ℕ) → Status → Option (List ℕ)
told channel status = cond (is_told status) (Some (request channel status)) None

-- bytes put at a buffer's start, where there are any to be put
abbrev pub put : Option (List ℕ) → (buffer : List ℕ) → List ℕ
put None buffer = buffer
put (Some bs) buffer = bs ++ drop (length bs) buffer

-- ---- the end of a channel

-- a missing status has no request, and none is left untold
abbrev pub request_of : (channel : ℕ) → Option Status → List ℕ
request_of channel None = []
request_of channel (Some status) = request channel status

unfoldable pub is_untold : Option Status → Bool
is_untold None = false
is_untold (Some status) = not (is_told status)

-- the request, and CLOSE directly behind it
unfoldable pub ending : (channel : ℕ) → Option Status → List ℕ
ending channel status = request_of channel status ++ bytes_of channel Close []

-- both at the buffer's start, and nothing else is written
unfoldable pub closed : (channel : ℕ) → Option Status → List ℕ → WrittenAfter
closed channel status buffer =
    written_after (Ok (length (ending channel status))) (ending channel status ++ drop (length (ending channel status)) buffer)

-- 25 asks for the longest, 43 bytes; then 40
unfoldable pub close : (channel : ℕ) → Option Status → List ℕ → WrittenAfter
close channel status buffer =
    cond (leb 43 (length buffer))
    (cond (is_untold status)
    (written_after (Err UntoldStatus) buffer)
    (closed channel status buffer))
    (written_after (Err BufferShort) buffer)

-- ---- reading a request: 20 (empty), 21, 22 (which fewer than 5 bytes skip), 41

-- a signal's name would stand between byte 25 and the last 9
abbrev pub name_in : List ℕ → List ℕ
name_in s = take (length s - 34) (drop 25 s)

-- the only status that bytes can tell, by their length: a code that a status holds, or a signal that has a name
abbrev pub code_in : ℕ → Option Status
code_in code = cond (ltb code (2 ^ 31)) (Some (Exited (pos code))) None

unfoldable pub guess : List ℕ → Option Status
guess s = cond (eqb (length s) 25) (code_in (number_at s 21)) (option_map Signaled (number_of (name_in s)))

-- bytes tell a status where they are its request, and no others
unfoldable pub matching : (channel : ℕ) → List ℕ → Option Status → Result Status Refusal
matching channel s None = Err BadRequest
matching channel s (Some status) = cond (is_told status && same (request channel status) s) (Ok status) (Err BadRequest)

-- bytes are for the channel, as far as they name one
abbrev pub is_mine : (channel : ℕ) → List ℕ → Bool
is_mine channel s = ltb (length s) 5 || eqb (number_at s 1) channel

unfoldable pub read : (channel : ℕ) → List ℕ → Result Status Refusal
read channel s =
    cond (eqb (length s) 0) (Err BadLength)
    (cond (eqb (get_or s 0 0) 98)
    (cond (is_mine channel s) (matching channel s (guess s)) (Err OtherChannel))
    (Err UnknownKind))
