-- Demand 1: a refusal carries its number and leaves state, stores and buffers unchanged. Over EVERY state, whether a list of
-- calls from open reaches it or not. Stale and Late are answers and no refusals: Stale changes nothing either, a Late input is
-- charged. Of the lines of a card crate `grammar` tells.
use Rattle.inbox.specs.Need.{byte_need}
use Rattle.std.specs.Prelude.{◌-◌, ◌^◌, true, cond, ◌&&◌, ◌||◌, ◌≡◌, List, [], ◌∷◌, ℕ, leb, ltb, Option, Err}
use Rattle.exec.specs.declared.Status.{Status}
use Rattle.exec.specs.declared.Refusal.{Refusal}
use Rattle.exec.specs.Limits.{is_valid}
use Rattle.exec.specs.Refusal.{number}
use Rattle.runner.specs.Calls as Calls
use Rattle.runner.specs.Range.{bytes_do, lengths_do}
use Rattle.codec.specs.declared.Record.{Record}
use Rattle.codec.specs.Codec as Codec
use Rattle.exec.specs.Written.{WrittenAfter}
use Rattle.exits.specs.Exit as Exit
use Rattle.channel.specs.Calls as Channel
use Rattle.framing.specs.declared.Frame.{Frame}
use Rattle.framing.specs.Framing as Framing
use Rattle.frames.specs.Calls as Frames
use Rattle.calls.specs.Call as Call
use Rattle.calls.specs.Call.{Conf, Call, Answer}
use Rattle.account.specs.Step.{State, replied, next, answer, opened}
use Rattle.account.specs.Records.{Entry, write_record, write_frame, next_entry, answer_entry, after_entries, among, of_entry}

-- what a call may be refused by
abbrev pub of_calls : List ℕ
of_calls = 1 ∷ 2 ∷ 3 ∷ 4 ∷ 5 ∷ 6 ∷ 10 ∷ 11 ∷ 12 ∷ 46 ∷ []

abbrev pub open_answer : Conf → ℕ → (bytes lengths : List ℕ) → Answer
open_answer conf now bytes lengths = replied (Calls.«open» conf.key conf.limits conf.timers conf.smallest now bytes lengths).answer

-- a writer that refuses does so by one of the numbers, and leaves the buffer as it was
abbrev pub Unwritten : List ℕ → WrittenAfter → (buffer : List ℕ) → Type 0
Unwritten numbers w buffer = (x : Refusal) → w.answer ≡ Err x → (among (number x) numbers ≡ true) × (w.buffer ≡ buffer)

-- DEMAND 1, of refusals: for every state, call or record, and number
pub record Refusals : Type 0 where
  -- a call that is refused leaves the runner and both stores as they were
  pub call_kept : (s : State) (c : Call) (n : ℕ) → answer s c ≡ Call.Refused n → next s c ≡ s
  -- and next_message the buffer
  pub message_kept : (s : State) (buffer : List ℕ) (n : ℕ) → answer s (Call.next_message buffer) ≡ Call.Refused n
      → (Calls.next_message s.runner s.bytes buffer).buffer ≡ buffer
  pub call_number : (s : State) (c : Call) (n : ℕ) → answer s c ≡ Call.Refused n → among n of_calls ≡ true
  -- so does a record or a frame that is refused
  pub entry_kept : (s : State) (e : Entry) (n : ℕ) → answer_entry s e ≡ Call.Refused n → next_entry s e ≡ s
  -- and a record that is not written leaves the record buffer
  pub buffer_kept : (s : State) (channel : ℕ) (buffer : List ℕ) (n : ℕ) → answer_entry s (write_record channel buffer) ≡ Call.Refused n
      → (Channel.write_record s.runner channel s.bytes buffer).buffer ≡ buffer
  -- and one whose frames are not written
  pub frame_buffer_kept : (s : State) (stream : ℕ) (buffer : List ℕ) (n : ℕ) → answer_entry s (write_frame stream buffer) ≡ Call.Refused n
      → (Frames.write_frame s.runner stream s.bytes buffer).buffer ≡ buffer
  pub entry_number : (s : State) (e : Entry) (n : ℕ) → answer_entry s e ≡ Call.Refused n → (among n of_calls || among n (of_entry e)) ≡ true
  -- 'Same id, lower generation: Stale, and nothing else happens, not even the tick of cancel'
  pub stale_kept : (s : State) (c : Call) → answer s c ≡ Call.Stale → next s c ≡ s
  pub stale_read : (s : State) (e : Entry) → answer_entry s e ≡ Call.Stale → next_entry s e ≡ s
  -- open is refused by 10 exactly where the limits are not valid, by 46 where they are and the smallest grant is 0 or above the input's
  -- size, by 11 where neither is so and a lent store is short, or the need is past 2^64 - 1, and by nothing else; it is lent the stores to
  -- read only
  pub open_number : (conf : Conf) (now : ℕ) (bytes lengths : List ℕ)
      → open_answer conf now bytes lengths
      ≡ cond (is_valid conf.limits)
      (cond (ltb 0 conf.smallest && leb conf.smallest conf.limits.input.size)
      (cond (leb (byte_need conf.limits) (2 ^ 64 - 1) && (bytes_do conf.limits bytes && lengths_do conf.limits lengths)) Call.Ok (Call.Refused 11)) (Call.Refused 46))
      (Call.Refused 10)
  -- and on the runner that it then gives every call and record is refused by 10, with any stores, and after any others
  pub unopened : (conf : Conf) (now : ℕ) (bytes lengths : List ℕ) (n : ℕ) → open_answer conf now bytes lengths ≡ Call.Refused n
      → (store slots : List ℕ) (es : List Entry) (e : Entry)
      → answer_entry (after_entries (record { runner = (opened conf now bytes lengths).runner; bytes = store; lengths = slots }) es) e ≡ Call.Refused 10
  -- what writes the bytes of a record, or of a frame, without a runner
  pub write_kept : (channel : ℕ) (rec : Record) (payload buffer : List ℕ) → Unwritten (20 ∷ 25 ∷ []) (Codec.write channel rec payload buffer) buffer
  pub lay_kept : (channel : ℕ) (rec : Record) (buffer : List ℕ) → Unwritten (25 ∷ []) (Codec.lay channel rec buffer) buffer
  pub close_kept : (channel : ℕ) (status : Option Status) (buffer : List ℕ) → Unwritten (25 ∷ 40 ∷ []) (Exit.close channel status buffer) buffer
  pub frame_kept : (stream : ℕ) (f : Frame) (payload buffer : List ℕ) → Unwritten (25 ∷ 42 ∷ 43 ∷ []) (Framing.write stream f payload buffer) buffer
  -- and what reads them, which changes nothing
  pub read_number : (channel : ℕ) (bytes : List ℕ) (x : Refusal) → Codec.read channel bytes ≡ Err x → among (number x) (20 ∷ 21 ∷ 22 ∷ 23 ∷ []) ≡ true
  pub request_number : (channel : ℕ) (bytes : List ℕ) (x : Refusal) → Exit.read channel bytes ≡ Err x → among (number x) (20 ∷ 21 ∷ 22 ∷ 41 ∷ []) ≡ true
  pub frame_number : (stream : ℕ) (bytes : List ℕ) (x : Refusal) → Framing.read stream bytes ≡ Err x → among (number x) (43 ∷ 44 ∷ []) ≡ true
