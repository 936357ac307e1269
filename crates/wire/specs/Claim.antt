-- What a peer can know from the bytes of a channel. That a stream is truncated is not among them: RFC 4254 has no word for it, and the
-- same bytes may stand for both (`proofs/Session`, `blind`).
use Rattle.std.specs.Prelude.{true, false, not, ◌||◌, ◌≡◌, List, [], ◌∷◌, ◌++◌, ℕ, ◌+◌, ◌^◌, ◌≤◌, ◌<◌, length, take, drop}
use Rattle.exec.specs.declared.Outcome.{Outcome}
use Rattle.exec.specs.declared.Stream.{Stream}
use Rattle.exec.specs.Limits.{has}
use Rattle.exec.specs.Outcome.{is_truncated}
use Rattle.exec.specs.Stream.{every_stream}
use Rattle.channel.specs.Calls.{is_channel}
use Rattle.calls.specs.Call as Call
use Rattle.calls.specs.Call.{Conf, Message}
use Rattle.account.specs.Step.{answer, opened}
use Rattle.account.specs.Claim.{IsPrefix, messages, is_terminal, terminal_message}
use Rattle.account.specs.Records.{Entry, call, read_record, write_record, read_frame, write_frame, next_entry, answer_entry, after_entries, run_entries, is_untaken}
use Rattle.account.specs.TurnClaim.{taken_in, sent_in}
use Rattle.wire.specs.Messages.{said, credit_in, is_end, any, no_ends}
use Rattle.wire.specs.Heard.{AllOf, joined, count, once, wire, told_by}
use Rattle.wire.specs.Channel.{on_wire, Heard, Close, bytes_in, units_in, is_eof, is_close, is_unread, heard, exit_of, speaks}

-- limits of a channel, in u32 as open takes them, and a channel's number
pub record OfChannel (conf : Conf) (channel : ℕ) : Type 0 where
  pub limits : is_channel conf.limits ≡ true
  pub chunk : conf.limits.chunk < 2 ^ 32
  pub input : conf.limits.input.size < 2 ^ 32
  pub number : channel < 2 ^ 32

-- every message is taken by a record for the channel; other calls, records read, and frames, which a channel's runner refuses, are free
abbrev pub Lone : (channel : ℕ) → Entry → Type 0
Lone channel (call c) = messages (c ∷ []) ≡ 0
Lone channel (read_record now other b) = Unit
Lone channel (write_record other buffer) = other ≡ channel
Lone channel (read_frame now s b) = Unit
Lone channel (write_frame s buffer) = Unit

-- what the peer heard of the records that a list from open wrote
abbrev pub heard_of : Conf → ℕ → (bytes lengths : List ℕ) → (channel : ℕ) → List Entry → List Heard
heard_of conf now bytes lengths channel es = heard channel (wire on_wire (opened conf now bytes lengths) es)

-- WHAT THE PEER KNOWS, for a runner that open answered ok, stores of any content, and every list whose messages all go to the channel
pub record Wire (conf : Conf) (now : ℕ) (bytes lengths : List ℕ) (channel : ℕ) : Type 0 where
  -- record by record it heard what was told, message by message: nothing else, nothing less, and in that order
  pub follows : (es : List Entry) → AllOf (Lone channel) es → heard_of conf now bytes lengths channel es ≡ told_by speaks (no_ends conf.limits) (said conf now bytes lengths es)
  -- and what is told is what next_message tells, after any list: a write into chunk + 13 bytes, and 43, answers as that call does in
  -- its part of the buffer, or leaves a Terminal by 40
  pub asks : (es : List Entry) (buffer : List ℕ) → conf.limits.chunk + 13 ≤ length buffer → 43 ≤ length buffer
      → is_untaken (answer_entry (after_entries (opened conf now bytes lengths) es) (write_record channel buffer)) ≡ false
      → answer_entry (after_entries (opened conf now bytes lengths) es) (write_record channel buffer)
      ≡ answer (after_entries (opened conf now bytes lengths) es) (Call.next_message (take conf.limits.chunk (drop 13 buffer)))
  -- so it read every record
  pub unread : (es : List Entry) → AllOf (Lone channel) es → count is_unread (heard_of conf now bytes lengths channel es) ≡ 0
  -- what it has of a stream is what was sent of it: 94 carries stdout, 95 by its type stderr or Notes
  pub sent : (es : List Entry) (x : Stream) → AllOf (Lone channel) es
      → joined (bytes_in x) (heard_of conf now bytes lengths channel es) ≡ sent_in x (run_entries (opened conf now bytes lengths) es)
  -- and so the first bytes that the program handed over
  pub front : (es : List Entry) (x : Stream) → AllOf (Lone channel) es
      → IsPrefix (joined (bytes_in x) (heard_of conf now bytes lengths channel es)) (taken_in x (run_entries (opened conf now bytes lengths) es))
  -- each 93 is a Credit, with its units
  pub windows : (es : List Entry) → AllOf (Lone channel) es
      → joined units_in (heard_of conf now bytes lengths channel es) ≡ joined credit_in (said conf now bytes lengths es)
  -- one 96 where the End of each stream that is open was told, and none before
  pub eofs : (es : List Entry) → AllOf (Lone channel) es
      → count is_eof (heard_of conf now bytes lengths channel es) ≡ once (every_stream (λ (x : Stream). not (has conf.limits x) || any (is_end x) (said conf now bytes lengths es)))
  -- and no bytes behind it
  pub mute : (es ds : List Entry) (x : Stream) → AllOf (Lone channel) (es ++ ds) → count is_eof (heard_of conf now bytes lengths channel es) ≡ 1
      → joined (bytes_in x) (heard_of conf now bytes lengths channel (es ++ ds)) ≡ joined (bytes_in x) (heard_of conf now bytes lengths channel es)
  -- one 97 where Terminal was told, and none before (nor where it is left by 40: then no record tells the end)
  pub closes : (es : List Entry) → AllOf (Lone channel) es
      → count is_close (heard_of conf now bytes lengths channel es) ≡ once (any terminal_message (said conf now bytes lengths es))
  -- right before it the status, exactly where the outcome has one: after any list
  pub exits : (es : List Entry) (buffer : List ℕ) (o : Outcome)
      → answer_entry (after_entries (opened conf now bytes lengths) es) (write_record channel buffer) ≡ Call.Says (Call.Terminal o)
      → heard channel (on_wire (after_entries (opened conf now bytes lengths) es) (write_record channel buffer)) ≡ exit_of o.status ++ (Close ∷ [])
  -- and nothing behind it, whatever is called
  pub last : (es : List Entry) (e : Entry) (ds : List Entry) → is_terminal (answer_entry (after_entries (opened conf now bytes lengths) es) e) ≡ true
      → wire on_wire (next_entry (after_entries (opened conf now bytes lengths) es) e) ds ≡ []
  -- where Terminal, on the runner's side, reports a stream untruncated, the peer has every byte of it that the program handed over
  pub whole : (es : List Entry) (e : Entry) (o : Outcome) (x : Stream) → AllOf (Lone channel) es
      → answer_entry (after_entries (opened conf now bytes lengths) es) e ≡ Call.Says (Call.Terminal o) → is_truncated o x ≡ false
      → joined (bytes_in x) (heard_of conf now bytes lengths channel es) ≡ taken_in x (run_entries (opened conf now bytes lengths) es)
