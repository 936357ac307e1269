-- Demand 3 whole: lists that mix the runner's calls with channel records and with frames, read into it and written from it. Each record or
-- frame stands in the list as the calls that it makes, told from the arguments of open, its own, and its answer; one that is refused
-- first makes none.
use Rattle.exec.specs.Limits.{streams}
use Rattle.std.specs.Prelude.{Bool, true, false, cond, not, ◌&&◌, ◌||◌, ◌≡◌, List, [], ◌∷◌, ◌++◌, ℕ, ◌+◌, ◌-◌, ◌^◌, ◌≤◌, ◌<◌, leb, eqb, length, take, drop, Option, Result, Some, None, Ok, Err}
use Rattle.runner.specs.declared.answer.Message.{Message}
use Rattle.codec.specs.declared.Record.{Record}
use Rattle.exec.specs.declared.Receipt.{Receipt}
use Rattle.exec.specs.declared.Refusal.{Refusal}
use Rattle.exec.specs.declared.Cause.{Cause}
use Rattle.exec.specs.declared.Key.{Key}
use Rattle.exec.specs.declared.Outcome.{Outcome}
use Rattle.exec.specs.declared.Pool.TheVariants as Pool
use Rattle.exec.specs.declared.Stream.{Stream}
use Rattle.exec.specs.declared.Stream.TheVariants.{Stdout, Stderr, Notes}
use Rattle.exec.specs.Outcome.{is_truncated}
use Rattle.exec.specs.Refusal.{number}
use Rattle.runner.specs.declared.answer.Message as Messages
use Rattle.carrier.specs.Carrier.{ReadAfter, WriteAfter, room}
use Rattle.channel.specs.Calls as Channel
use Rattle.channel.specs.Calls.{is_channel}
use Rattle.frames.specs.Calls as Frames
use Rattle.frames.specs.Calls.{is_framed}
use Rattle.framing.specs.declared.Frame.{Frame}
use Rattle.framing.specs.Framing as Framing
use Rattle.codec.specs.Codec.{read}
use Rattle.exits.specs.Exit.{is_untold}
use Rattle.calls.specs.Call as Call
use Rattle.calls.specs.Call.{Conf, Call, Answer, Done, is_refused}
use Rattle.account.specs.Step.{State, on_runner, next, answer, opened}
use Rattle.account.specs.Account.{Account, start, account, tally_of, cut, tick_a}
use Rattle.account.specs.Claim.{IsPrefix, is_message, is_terminal, messages, is_stop}

-- an entry of a list: a call, a record or a frame read at an instant, a record or a frame written; the stores are lent to each as the
-- last left them
pub data Entry : Type 0 where
  call : Call → Entry
  read_record : (now channel : ℕ) (bytes : List ℕ) → Entry
  write_record : (channel : ℕ) (buffer : List ℕ) → Entry
  read_frame : (now s : ℕ) (bytes : List ℕ) → Entry
  write_frame : (s : ℕ) (buffer : List ℕ) → Entry

-- an entry with its answer
pub record EntryDone : Type 0 where
  pub entry : Entry
  pub answer : Answer

-- ---- what an entry leaves and answers: the definitions that the code's promises cite, and nothing else

-- what a read leaves
abbrev pub leaves : ReadAfter → State
leaves x = record { runner = x.reading.runner; bytes = x.bytes; lengths = x.lengths }

unfoldable pub next_entry : State → Entry → State
next_entry s (call c) = next s c
next_entry s (read_record now channel b) = leaves (Channel.read_record s.runner now channel b s.bytes s.lengths)
next_entry s (write_record channel buffer) = on_runner (Channel.write_record s.runner channel s.bytes buffer).writing.runner s
next_entry s (read_frame now stream b) = leaves (Frames.read_frame s.runner now stream b s.bytes s.lengths)
next_entry s (write_frame stream buffer) = on_runner (Frames.write_frame s.runner stream s.bytes buffer).writing.runner s

-- what is read answers as the call that it makes last
abbrev pub read_as : Result (Option Receipt) Refusal → Answer
read_as (Ok (Some Receipt.Applied)) = Call.Applied
read_as (Ok (Some Receipt.Stale)) = Call.Stale
read_as (Ok (Some Receipt.Late)) = Call.Late
read_as (Ok None) = Call.Ok
read_as (Err x) = Call.Refused (number x)

-- the message of what was written, of whole bytes: the payload of an Output is the last of them
abbrev pub message_in : Messages.Message → (whole : ℕ) (buffer : List ℕ) → Answer
message_in (Message.Credit n) whole buffer = Call.Says (Call.Credit n)
message_in Message.Started whole buffer = Call.Says Call.Started
message_in (Message.Output x n) whole buffer = Call.Says (Call.Output x (drop (whole - n) (take whole buffer)))
message_in (Message.End x) whole buffer = Call.Says (Call.End x)
message_in Message.InputClosed whole buffer = Call.Says Call.InputClosed
message_in (Message.Terminal o) whole buffer = Call.Says (Call.Terminal o)

abbrev pub wrote_as : (Result (Option (Message × ℕ)) Refusal) → (buffer : List ℕ) → Answer
wrote_as (Ok None) buffer = Call.Nothing
wrote_as (Ok (Some (m, whole))) buffer = message_in m whole buffer
wrote_as (Err x) buffer = Call.Refused (number x)

-- what a write answers
abbrev pub answers : WriteAfter → Answer
answers w = wrote_as w.writing.answer w.buffer

unfoldable pub answer_entry : State → Entry → Answer
answer_entry s (call c) = answer s c
answer_entry s (read_record now channel b) = read_as (Channel.read_record s.runner now channel b s.bytes s.lengths).reading.answer
answer_entry s (write_record channel buffer) = answers (Channel.write_record s.runner channel s.bytes buffer)
answer_entry s (read_frame now stream b) = read_as (Frames.read_frame s.runner now stream b s.bytes s.lengths).reading.answer
answer_entry s (write_frame stream buffer) = answers (Frames.write_frame s.runner stream s.bytes buffer)

abbrev pub after_entries : State → List Entry → State
after_entries s [] = s
after_entries s (e ∷ es) = after_entries (next_entry s e) es

abbrev pub run_entries : State → List Entry → List EntryDone
run_entries s [] = []
run_entries s (e ∷ es) = record { entry = e; answer = answer_entry s e } ∷ run_entries (next_entry s e) es

-- ---- the calls of a list

-- the call that a record's bytes make: 93 credit on pool Output, 94 input, 96 end_input, 97 disconnect
unfoldable pub call_of : Conf → (now : ℕ) → (bytes : List ℕ) → Result Record Refusal → List Call
call_of conf now b (Ok (Record.Adjust units)) = Call.credit conf.key Pool.Output units ∷ []
call_of conf now b (Ok (Record.Data n)) = Call.input conf.key (drop 9 b) ∷ []
call_of conf now b (Ok (Record.Extended n)) = []
call_of conf now b (Ok (Record.Notes n)) = []
call_of conf now b (Ok Record.Eof) = Call.end_input conf.key ∷ []
call_of conf now b (Ok Record.Close) = Call.disconnect now ∷ []
call_of conf now b (Err x) = []

-- DATA: without bytes and with END_STREAM end_input alone; else input, and behind it, where the frame ends its stream and is not
-- refused, end_input
abbrev pub data_calls : Key → (ends : Bool) → (bytes : List ℕ) → Answer → List Call
data_calls k ends b a =
    cond (ends && eqb (length b) 0)
    (Call.end_input k ∷ [])
    (Call.input k b ∷ cond (ends && not (is_refused a)) (Call.end_input k ∷ []) [])

-- the calls that a frame's bytes make, where it is answered so: WINDOW_UPDATE credit on its stream's pool, DATA as above, RST_STREAM
-- reset; DATA on any other stream than stdout's none
unfoldable pub frame_calls : Conf → (now : ℕ) → (bytes : List ℕ) → Result Frame Refusal → Answer → List Call
frame_calls conf now b (Ok (Frame.Update Stdout units)) a = Call.credit conf.key Pool.Stdout units ∷ []
frame_calls conf now b (Ok (Frame.Update Stderr units)) a = Call.credit conf.key Pool.Stderr units ∷ []
frame_calls conf now b (Ok (Frame.Update Notes units)) a = Call.credit conf.key Pool.Notes units ∷ []
frame_calls conf now b (Ok (Frame.Data Stdout n ends)) a = data_calls conf.key ends (drop 9 b) a
frame_calls conf now b (Ok (Frame.Data Stderr n ends)) a = []
frame_calls conf now b (Ok (Frame.Data Notes n ends)) a = []
frame_calls conf now b (Ok (Frame.Reset x)) a = Call.reset now ∷ []
frame_calls conf now b (Err x) a = []

-- a write asks for a buffer of at least chunk + 13 bytes, and 43
abbrev pub roomy : Conf → (buffer : List ℕ) → Bool
roomy conf buffer = leb (room conf.limits) (length buffer)

-- refused by 40: the message was not taken
abbrev pub is_untaken : Answer → Bool
is_untaken Call.Ok = false
is_untaken Call.Applied = false
is_untaken Call.Stale = false
is_untaken Call.Late = false
is_untaken (Call.Refused n) = eqb n 40
is_untaken (Call.Taken n) = false
is_untaken (Call.Came n) = false
is_untaken (Call.Pending b) = false
is_untaken (Call.Value n) = false
is_untaken (Call.Time d) = false
is_untaken (Call.Truth b) = false
is_untaken (Call.Asks r) = false
is_untaken (Call.Says m) = false
is_untaken (Call.IsKey k) = false
is_untaken (Call.AreLimits l) = false
is_untaken Call.Nothing = false

-- a write that its carrier is for, and that has room, asks for a message in the buffer's part from an index on
abbrev pub written_call : Conf → (carries : Bool) (at : ℕ) → (buffer : List ℕ) → Answer → List Call
written_call conf carries at buffer a =
    cond (carries && roomy conf buffer)
    (cond (is_untaken a) [] (Call.next_message (take conf.limits.chunk (drop at buffer)) ∷ []))
    []

-- the calls that an entry makes, where it is answered so
unfoldable pub made : Conf → Entry → Answer → List Call
made conf (call c) a = c ∷ []
made conf (read_record now channel b) a = cond (is_channel conf.limits) (call_of conf now b (read channel b)) []
made conf (write_record channel buffer) a = written_call conf (is_channel conf.limits) 13 buffer a
made conf (read_frame now stream b) a = cond (is_framed conf.limits stream) (frame_calls conf now b (Framing.read stream b) a) []
made conf (write_frame stream buffer) a = written_call conf (is_framed conf.limits stream) 9 buffer a

abbrev pub calls_of : Conf → List EntryDone → List Call
calls_of conf [] = []
calls_of conf (d ∷ ds) = made conf d.entry d.answer ++ calls_of conf ds

-- calls that are answered alike
abbrev pub alike : Answer → List Call → List Done
alike a [] = []
alike a (c ∷ cs) = record { call = c; answer = a } ∷ alike a cs

-- the calls made, each with its entry's answer
abbrev pub dones_of : Conf → List EntryDone → List Done
dones_of conf [] = []
dones_of conf (d ∷ ds) = alike d.answer (made conf d.entry d.answer) ++ dones_of conf ds

-- ---- refusals of a record's own

abbrev pub among : ℕ → List ℕ → Bool
among n [] = false
among n (x ∷ xs) = eqb n x || among n xs

-- what a record or a frame that is read, or written, is refused by where it makes no call
abbrev pub of_reads : List ℕ
of_reads = 13 ∷ 20 ∷ 21 ∷ 22 ∷ 23 ∷ 24 ∷ []

abbrev pub of_writes : List ℕ
of_writes = 13 ∷ 25 ∷ 40 ∷ []

abbrev pub of_frames_read : List ℕ
of_frames_read = 42 ∷ 43 ∷ 44 ∷ []

abbrev pub of_frames_written : List ℕ
of_frames_written = 42 ∷ 25 ∷ []

abbrev pub of_entry : Entry → List ℕ
of_entry (call c) = []
of_entry (read_record now channel b) = of_reads
of_entry (write_record channel buffer) = of_writes
of_entry (read_frame now stream b) = of_frames_read
of_entry (write_frame stream buffer) = of_frames_written

-- ---- the demand

-- the account after a list, from its entries and their answers
abbrev pub entry_account : Conf → ℕ → (bytes lengths : List ℕ) → List Entry → Account
entry_account conf now bytes lengths es = account (start conf now) (dones_of conf (run_entries (opened conf now bytes lengths) es))

abbrev pub any_terminal_in : List EntryDone → Bool
any_terminal_in [] = false
any_terminal_in (d ∷ ds) = is_terminal d.answer || any_terminal_in ds

abbrev pub SilentIn : List EntryDone → Type 0
SilentIn [] = Unit
SilentIn (d ∷ ds) = (is_message d.answer ≡ false) × SilentIn ds

-- DEMAND 3 WHOLE, for a runner that open answered ok, stores of any content, and every list of calls, records and frames
pub record Whole (conf : Conf) (now : ℕ) (bytes lengths : List ℕ) : Type 0 where
  -- on each stream what was sent is a prefix of what was taken
  pub joined : (es : List Entry) (x : Stream) → IsPrefix (tally_of x (entry_account conf now bytes lengths es)).sent (tally_of x (entry_account conf now bytes lengths es)).taken
  -- no message after Terminal, so Terminal at most once
  pub once : (es : List Entry) (e : Entry) (ds : List Entry) → is_terminal (answer_entry (after_entries (opened conf now bytes lengths) es) e) ≡ true
      → SilentIn (run_entries (next_entry (after_entries (opened conf now bytes lengths) es) e) ds)
  -- Terminal marks a stream exactly when the account before it does
  pub marks : (es : List Entry) (e : Entry) (o : Outcome) → answer_entry (after_entries (opened conf now bytes lengths) es) e ≡ Call.Says (Call.Terminal o)
      → (x : Stream) → is_truncated o x ≡ cut (tally_of x (entry_account conf now bytes lengths es))
  -- an Applied cancel is itself the first of the three events: none had come before it, nor in its own tick
  pub first : (es : List Entry) (t : ℕ) (k : Key) (c : Cause) → answer_entry (after_entries (opened conf now bytes lengths) es) (call (Call.cancel t k c)) ≡ Call.Applied
      → (tick_a t (entry_account conf now bytes lengths es)).rep.begun ≡ false
  -- after a cancel Applied at t, Terminal has come by message 3 + the number of streams (with two the fifth) asked for, by call or by record,
  -- after a tick at or past t + grace + settlement; what is refused asks for none
  pub late : (cs ds es : List Entry) (t n : ℕ) (k : Key) (c : Cause) → answer_entry (after_entries (opened conf now bytes lengths) cs) (call (Call.cancel t k c)) ≡ Call.Applied
      → t + conf.timers.grace + conf.timers.settlement < 2 ^ 64 → t + conf.timers.grace + conf.timers.settlement ≤ n
      → 3 + streams conf.limits ≤ messages (calls_of conf (run_entries (next_entry (after_entries (next_entry (after_entries (opened conf now bytes lengths) cs) (call (Call.cancel t k c))) ds) (call (Call.tick n))) es))
      → any_terminal_in (run_entries (opened conf now bytes lengths) (cs ++ (call (Call.cancel t k c) ∷ (ds ++ (call (Call.tick n) ∷ es))))) ≡ true
  -- from open on no entry is refused by 10, 11 or 12
  pub ranged : (es : List Entry) (e : Entry) → is_stop (answer_entry (after_entries (opened conf now bytes lengths) es) e) ≡ false
  -- an entry that makes no call is refused by a number of its own, and leaves runner and stores as they were
  pub refused : (es : List Entry) (e : Entry) → made conf e (answer_entry (after_entries (opened conf now bytes lengths) es) e) ≡ []
      → (next_entry (after_entries (opened conf now bytes lengths) es) e ≡ after_entries (opened conf now bytes lengths) es)
      × ((n : ℕ) × (answer_entry (after_entries (opened conf now bytes lengths) es) e ≡ Call.Refused n) × (among n (of_entry e) ≡ true))
  -- a write answered 40 leaves the Terminal with the runner: next_message gives it, into any buffer, and its status is one that no
  -- request tells
  pub untold : (es : List Entry) (channel : ℕ) (buffer : List ℕ) → answer_entry (after_entries (opened conf now bytes lengths) es) (write_record channel buffer) ≡ Call.Refused 40
      → (part : List ℕ) → (o : Outcome) × (answer (after_entries (opened conf now bytes lengths) es) (Call.next_message part) ≡ Call.Says (Call.Terminal o)) × (is_untold o.status ≡ true)
  -- and wherever next_message would give such a Terminal, a write with room is answered 40
  pub left : (es : List Entry) (part : List ℕ) (o : Outcome) → answer (after_entries (opened conf now bytes lengths) es) (Call.next_message part) ≡ Call.Says (Call.Terminal o)
      → is_untold o.status ≡ true → (channel : ℕ) (buffer : List ℕ) → (is_channel conf.limits && roomy conf buffer) ≡ true
      → answer_entry (after_entries (opened conf now bytes lengths) es) (write_record channel buffer) ≡ Call.Refused 40
