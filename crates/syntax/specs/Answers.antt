-- An answer as a line: line number, word, number or name, bytes, with commas between them and `-` for what is missing.
use Rattle.std.specs.Prelude.{Bool, true, false, List, [], ◌∷◌, ◌++◌, ℕ, length, Option, Some, None}
use Rattle.exec.specs.declared.LaunchFailure.{LaunchFailure}
use Rattle.exec.specs.declared.Status.{Status}
use Rattle.exec.specs.declared.Outcome.{Outcome}
use Rattle.decimal.specs.Decimal.{digits_of, signed_of}
use Rattle.hexadecimal.specs.Hexadecimal.{hex_of}
use Rattle.calls.specs.Call as Call
use Rattle.calls.specs.Call.{Answer, Message, Request}
use Rattle.syntax.specs.Words.{bytes, stream_name, cause_name}

-- ---- fields

abbrev pub dash : List ℕ
dash = bytes "-"

abbrev pub flag : Bool → List ℕ
flag true = bytes "1"
flag false = bytes "0"

-- a field that may be missing
abbrev pub or_dash : {A : Type 0} → (A → List ℕ) → Option A → List ℕ
or_dash text None = dash
or_dash text (Some x) = text x

abbrev pub status_text : Status → List ℕ
status_text (Status.Exited n) = bytes "E" ++ signed_of n
status_text (Status.Signaled n) = bytes "S" ++ signed_of n

abbrev pub failure_text : LaunchFailure → List ℕ
failure_text x = digits_of x.stage ++ bytes "/" ++ signed_of x.error

-- ---- an answer behind its line number

-- word, number or name, bytes
abbrev pub three : (word what bs : List ℕ) → List ℕ
three word what bs = word ++ bytes "," ++ what ++ bytes "," ++ bs

abbrev pub word : List ℕ → List ℕ
word w = three w dash dash

abbrev pub counted : (word : List ℕ) → ℕ → List ℕ
counted w n = three w (digits_of n) dash

abbrev pub filled : (word bs : List ℕ) → List ℕ
filled w bs = three w (digits_of (length bs)) (hex_of bs)

-- Terminal has five more: status, cause, launch failure, two truncation digits (stdout first; Notes, which no card opens, has none), reusable digit
abbrev pub outcome_text : Outcome → List ℕ
outcome_text o =
    word (bytes "Terminal") ++ bytes "," ++ or_dash status_text o.status ++ bytes "," ++ or_dash cause_name o.cause ++ bytes ","
    ++ or_dash failure_text o.launch_failure ++ bytes "," ++ flag o.stdout_truncated ++ flag o.stderr_truncated ++ bytes "," ++ flag o.reusable

abbrev pub message_text : Message → List ℕ
message_text (Call.Credit n) = counted (bytes "Credit") n
message_text Call.Started = word (bytes "Started")
message_text (Call.Output x bs) = filled (stream_name x) bs
message_text (Call.End x) = three (bytes "End") (stream_name x) dash
message_text Call.InputClosed = word (bytes "InputClosed")
message_text (Call.Terminal o) = outcome_text o

abbrev pub request_text : Request → List ℕ
request_text (Call.Terminate c) = three (bytes "Terminate") (cause_name c) dash
request_text (Call.Discard x) = three (bytes "Discard") (stream_name x) dash
request_text Call.CloseInput = word (bytes "CloseInput")
request_text Call.Settle = word (bytes "Settle")

abbrev pub time_text : Option ℕ → List ℕ
time_text None = word (bytes "none")
time_text (Some t) = counted (bytes "value") t

-- (key and limits are not on the card)
unfoldable pub answer_text : Answer → List ℕ
answer_text Call.Ok = word (bytes "ok")
answer_text Call.Applied = word (bytes "Applied")
answer_text Call.Stale = word (bytes "Stale")
answer_text Call.Late = word (bytes "Late")
answer_text (Call.Refused n) = counted (bytes "refused") n
answer_text (Call.Taken n) = counted (bytes "taken") n
answer_text (Call.Came n) = counted (bytes "ok") n
answer_text (Call.Pending bs) = filled (bytes "pending") bs
answer_text (Call.Value n) = counted (bytes "value") n
answer_text (Call.Time d) = time_text d
answer_text (Call.Truth b) = three (bytes "value") (flag b) dash
answer_text (Call.Asks q) = request_text q
answer_text (Call.Says m) = message_text m
answer_text (Call.IsKey k) = []
answer_text (Call.AreLimits l) = []
answer_text Call.Nothing = word (bytes "none")

-- the whole line, with its end (10)
unfoldable pub line_text : (line : ℕ) → Answer → List ℕ
line_text n a = digits_of n ++ bytes "," ++ answer_text a ++ (10 ∷ [])
