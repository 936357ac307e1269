-- What a peer can know from the frames of RFC 9113. That a stream is truncated is not among them: a stream of which bytes were
-- discarded ends as any other, and the same bytes may stand for both (`proofs/Session`, `blind`); nor is the status.
use Rattle.std.specs.Prelude.{true, false, not, ◌&&◌, ◌≡◌, List, ◌++◌, [], ◌∷◌, ℕ, ◌+◌, ◌≤◌, length, take, drop}
use Rattle.exec.specs.declared.Outcome.{Outcome}
use Rattle.exec.specs.declared.Stream.{Stream}
use Rattle.exec.specs.Limits.{has}
use Rattle.exec.specs.Outcome.{is_truncated}
use Rattle.calls.specs.Call as Call
use Rattle.calls.specs.Call.{Conf}
use Rattle.account.specs.Step.{answer, opened}
use Rattle.account.specs.Claim.{IsPrefix, messages, is_terminal, terminal_message}
use Rattle.account.specs.Records.{Entry, call, read_record, write_record, read_frame, write_frame, next_entry, answer_entry, after_entries, run_entries}
use Rattle.account.specs.TurnClaim.{taken_in, sent_in}
use Rattle.wire.specs.Messages.{said, credit_in, is_end, any, no_ends}
use Rattle.wire.specs.Heard.{AllOf, joined, count, once, wire, told_by}
use Rattle.peer.specs.Framed.{on_wire, Heard, heard, bytes_in, units_in, is_ended, is_reset, is_on, is_unread, speaks}

-- every message is taken by a frame on s; other calls, frames read, and records, which a framed runner refuses, are free
abbrev pub Lone : (s : ℕ) → Entry → Type 0
Lone s (call c) = messages (c ∷ []) ≡ 0
Lone s (read_record now channel b) = Unit
Lone s (write_record channel buffer) = Unit
Lone s (read_frame now other b) = Unit
Lone s (write_frame other buffer) = other ≡ s

-- what the peer heard of the bytes that a list from open wrote
abbrev pub heard_of : Conf → ℕ → (bytes lengths : List ℕ) → (s : ℕ) → List Entry → List Heard
heard_of conf now bytes lengths s es = heard s (wire on_wire (opened conf now bytes lengths) es)

-- WHAT THE PEER KNOWS, for a framed runner that open answered ok, stores of any content, and every list whose messages all go to s and s + 2
pub record Peer (conf : Conf) (now : ℕ) (bytes lengths : List ℕ) (s : ℕ) : Type 0 where
  -- frame by frame it heard what was told, message by message: nothing else, nothing less, and in that order
  pub follows : (es : List Entry) → AllOf (Lone s) es → heard_of conf now bytes lengths s es ≡ told_by speaks (no_ends conf.limits) (said conf now bytes lengths es)
  -- and what is told is what next_message tells, after any list: a write into chunk + 13 bytes, and 43, answers as that call does in
  -- its part of the buffer
  pub asks : (es : List Entry) (buffer : List ℕ) → conf.limits.chunk + 13 ≤ length buffer → 43 ≤ length buffer
      → answer_entry (after_entries (opened conf now bytes lengths) es) (write_frame s buffer)
      ≡ answer (after_entries (opened conf now bytes lengths) es) (Call.next_message (take conf.limits.chunk (drop 9 buffer)))
  -- so it read every frame
  pub unread : (es : List Entry) → AllOf (Lone s) es → count is_unread (heard_of conf now bytes lengths s es) ≡ 0
  -- what it has of a stream is what was sent of it: DATA on s carries stdout, on s + 2 stderr
  pub sent : (es : List Entry) (x : Stream) → AllOf (Lone s) es
      → joined (bytes_in x) (heard_of conf now bytes lengths s es) ≡ sent_in x (run_entries (opened conf now bytes lengths) es)
  -- and so the first bytes that the program handed over
  pub front : (es : List Entry) (x : Stream) → AllOf (Lone s) es
      → IsPrefix (joined (bytes_in x) (heard_of conf now bytes lengths s es)) (taken_in x (run_entries (opened conf now bytes lengths) es))
  -- each WINDOW_UPDATE is a Credit, with its units
  pub windows : (es : List Entry) → AllOf (Lone s) es
      → joined units_in (heard_of conf now bytes lengths s es) ≡ joined credit_in (said conf now bytes lengths es)
  -- of each stream one END_STREAM where its End was told, and none before
  pub ends : (es : List Entry) (x : Stream) → has conf.limits x ≡ true → AllOf (Lone s) es
      → count (is_ended x) (heard_of conf now bytes lengths s es) ≡ once (any (is_end x) (said conf now bytes lengths es))
  -- so where the peer sees a stream ended, its End was told: of each stream by itself, which a channel does not tell
  pub seen : (es : List Entry) (x : Stream) → has conf.limits x ≡ true → AllOf (Lone s) es → 1 ≤ count (is_ended x) (heard_of conf now bytes lengths s es)
      → any (is_end x) (said conf now bytes lengths es) ≡ true
  -- and no frame on it behind that: no bytes, no second end, no reset
  pub mute : (es ds : List Entry) (x : Stream) → has conf.limits x ≡ true → AllOf (Lone s) (es ++ ds) → count (is_ended x) (heard_of conf now bytes lengths s es) ≡ 1
      → count (is_on x) (heard_of conf now bytes lengths s (es ++ ds)) ≡ count (is_on x) (heard_of conf now bytes lengths s es)
  -- one RST_STREAM where Terminal was told and its End was not
  pub resets : (es : List Entry) (x : Stream) → has conf.limits x ≡ true → AllOf (Lone s) es
      → count (is_reset x) (heard_of conf now bytes lengths s es)
      ≡ once (any terminal_message (said conf now bytes lengths es) && not (any (is_end x) (said conf now bytes lengths es)))
  -- so none before Terminal
  pub unbroken : (es : List Entry) (x : Stream) → has conf.limits x ≡ true → AllOf (Lone s) es → any terminal_message (said conf now bytes lengths es) ≡ false
      → count (is_reset x) (heard_of conf now bytes lengths s es) ≡ 0
  -- by which each stream has ended, once, by one of the two
  pub over : (es : List Entry) (x : Stream) → has conf.limits x ≡ true → AllOf (Lone s) es → any terminal_message (said conf now bytes lengths es) ≡ true
      → count (is_ended x) (heard_of conf now bytes lengths s es) + count (is_reset x) (heard_of conf now bytes lengths s es) ≡ 1
  -- and nothing stands on the wire behind it, whatever is called
  pub last : (es : List Entry) (e : Entry) (ds : List Entry) → is_terminal (answer_entry (after_entries (opened conf now bytes lengths) es) e) ≡ true
      → wire on_wire (next_entry (after_entries (opened conf now bytes lengths) es) e) ds ≡ []
  -- where Terminal, on the runner's side, reports a stream untruncated, the peer has every byte of it that the program handed over
  pub whole : (es : List Entry) (e : Entry) (o : Outcome) (x : Stream) → AllOf (Lone s) es
      → answer_entry (after_entries (opened conf now bytes lengths) es) e ≡ Call.Says (Call.Terminal o) → is_truncated o x ≡ false
      → joined (bytes_in x) (heard_of conf now bytes lengths s es) ≡ taken_in x (run_entries (opened conf now bytes lengths) es)
