-- The turn. 'The turn is taken when Terminal reports stdout untruncated; one row lost unreported ruins a carpet's length of pile.'
-- What such a Terminal says of the stream, over every list of calls, records and frames: its rows are all sent, it is the program that
-- closed it, none of it was reported lost, and no byte is taken or sent any more. All of it is told from the list of what was done;
-- the account is not asked.
use Rattle.std.specs.Prelude.{true, false, cond, ◌≡◌, List, [], ◌∷◌, ◌++◌, ◌⊎◌, ℕ, ◌<◌, take}
use Rattle.exec.specs.declared.Outcome.{Outcome}
use Rattle.exec.specs.declared.Stream.{Stream}
use Rattle.exec.specs.Outcome.{is_truncated}
use Rattle.exec.specs.Limits.{has}
use Rattle.exec.specs.Stream.{same_stream}
use Rattle.calls.specs.Call as Call
use Rattle.calls.specs.Call.{Conf, Call, Answer, Message, count}
use Rattle.account.specs.Step.{opened}
use Rattle.account.specs.Claim.{is_terminal}
use Rattle.account.specs.Records.{Entry, EntryDone, call, read_record, write_record, read_frame, write_frame, answer_entry, after_entries, run_entries}

-- something stands in a list
abbrev pub Has : {A : Type 0} → A → List A → Type 0
Has a [] = ⊥
Has a (b ∷ bs) = (a ≡ b) ⊎ Has a bs

-- the program's call output_closed, answered ok
abbrev pub closing : Stream → EntryDone
closing x = record { entry = call (Call.output_closed x); answer = Call.Ok }

-- ---- what was taken and sent of a stream, by calls, records and frames and their answers

-- the bytes of it that a call offers
abbrev pub offered : Stream → Call → List ℕ
offered x Call.key = []
offered x Call.limits = []
offered x (Call.credit k p u) = []
offered x (Call.input k b) = []
offered x (Call.end_input k) = []
offered x (Call.cancel now k c) = []
offered x (Call.launched r) = []
offered x (Call.read_allowance y) = []
offered x (Call.output y b) = cond (same_stream y x) b []
offered x (Call.discarded y n) = []
offered x (Call.output_closed y) = []
offered x (Call.output_failed y) = []
offered x (Call.output_hung_up y) = []
offered x Call.pending_input = []
offered x (Call.input_written n) = []
offered x Call.input_closed = []
offered x (Call.exited now s) = []
offered x (Call.settled s) = []
offered x (Call.dropped now) = []
offered x (Call.reset now) = []
offered x (Call.disconnect now) = []
offered x (Call.tick now) = []
offered x Call.deadline = []
offered x Call.next_request = []
offered x (Call.next_message b) = []
offered x Call.is_finished = []
offered x Call.is_detached = []
offered x Call.awaits_settlement = []
offered x Call.memory_bound = []
offered x Call.buffered = []
offered x Call.high_water = []

-- a record or a frame offers none
abbrev pub offered_in : Stream → Entry → List ℕ
offered_in x (call c) = offered x c
offered_in x (read_record now channel b) = []
offered_in x (write_record channel buffer) = []
offered_in x (read_frame now stream b) = []
offered_in x (write_frame stream buffer) = []

-- the bytes of it that a message carries, and so an answer, to a call or a record
abbrev pub carried_by : Stream → Message → List ℕ
carried_by x (Call.Credit n) = []
carried_by x Call.Started = []
carried_by x (Call.Output y b) = cond (same_stream y x) b []
carried_by x (Call.End y) = []
carried_by x Call.InputClosed = []
carried_by x (Call.Terminal o) = []

abbrev pub carried : Stream → Answer → List ℕ
carried x Call.Ok = []
carried x Call.Applied = []
carried x Call.Stale = []
carried x Call.Late = []
carried x (Call.Refused n) = []
carried x (Call.Taken n) = []
carried x (Call.Came n) = []
carried x (Call.Pending b) = []
carried x (Call.Value n) = []
carried x (Call.Time d) = []
carried x (Call.Truth b) = []
carried x (Call.Asks r) = []
carried x (Call.Says m) = carried_by x m
carried x (Call.IsKey k) = []
carried x (Call.AreLimits l) = []
carried x Call.Nothing = []

-- joined over a list: of what was offered the first n bytes where the answer is 'n taken'; and what was carried
abbrev pub taken_in : Stream → List EntryDone → List ℕ
taken_in x [] = []
taken_in x (d ∷ ds) = take (count d.answer) (offered_in x d.entry) ++ taken_in x ds

abbrev pub sent_in : Stream → List EntryDone → List ℕ
sent_in x [] = []
sent_in x (d ∷ ds) = carried x d.answer ++ sent_in x ds

-- ---- the turn

-- the answer to the next entry after a list from open
abbrev pub answer_after : Conf → ℕ → (bytes lengths : List ℕ) → List Entry → Entry → Answer
answer_after conf now bytes lengths es e = answer_entry (after_entries (opened conf now bytes lengths) es) e

-- THE TURN, for a runner that open answered ok, stores of any content, and every list of calls, records and frames
pub record Turn (conf : Conf) (now : ℕ) (bytes lengths : List ℕ) : Type 0 where
  -- Terminal reports a stream untruncated: the bytes sent of it are the bytes taken of it, all of them
  pub rows : (es : List Entry) (e : Entry) (o : Outcome) (x : Stream) → answer_after conf now bytes lengths es e ≡ Call.Says (Call.Terminal o) → is_truncated o x ≡ false
      → sent_in x (run_entries (opened conf now bytes lengths) es) ≡ taken_in x (run_entries (opened conf now bytes lengths) es)
  -- and, if it is open, the program itself closed it before
  pub own : (es : List Entry) (e : Entry) (o : Outcome) (x : Stream) → has conf.limits x ≡ true → answer_after conf now bytes lengths es e ≡ Call.Says (Call.Terminal o) → is_truncated o x ≡ false
      → Has (closing x) (run_entries (opened conf now bytes lengths) es)
  -- and it reported no byte of it discarded, and no failure to read it, whatever that was answered
  pub undropped : (es : List Entry) (e : Entry) (o : Outcome) (x : Stream) (n : ℕ) → has conf.limits x ≡ true → answer_after conf now bytes lengths es e ≡ Call.Says (Call.Terminal o) → is_truncated o x ≡ false
      → 0 < n → Has (call (Call.discarded x n)) es → ⊥
  pub unfailed : (es : List Entry) (e : Entry) (o : Outcome) (x : Stream) → has conf.limits x ≡ true → answer_after conf now bytes lengths es e ≡ Call.Says (Call.Terminal o) → is_truncated o x ≡ false
      → Has (call (Call.output_failed x)) es → ⊥
  -- after Terminal no call and no record adds to the bytes taken or sent of any stream
  pub final : (es : List Entry) (e : Entry) (ds : List Entry) (x : Stream) → is_terminal (answer_after conf now bytes lengths es e) ≡ true
      → (taken_in x (run_entries (opened conf now bytes lengths) (es ++ (e ∷ ds))) ≡ taken_in x (run_entries (opened conf now bytes lengths) es))
      × (sent_in x (run_entries (opened conf now bytes lengths) (es ++ (e ∷ ds))) ≡ sent_in x (run_entries (opened conf now bytes lengths) es))
