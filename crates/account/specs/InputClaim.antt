-- The workload's input is a queue: over every list of calls, records and frames the bytes that input_written hands to the workload and
-- those that pending_input shows next, joined, are a prefix of the bytes of the inputs answered Applied, joined, whether a call
-- brought them or a record that was read.
use Rattle.std.specs.Prelude.{Bool, true, false, cond, ◌≡◌, List, [], ◌∷◌, ◌++◌, ℕ, min}
use Rattle.exec.specs.declared.Limits.{Limits}
use Rattle.exec.specs.Limits.{input_bytes}
use Rattle.ring.specs.Ring.{ring_read}
use Rattle.inbox.specs.Inbox.{inbox_base}
use Rattle.input.specs.declared.Input.{Input}
use Rattle.calls.specs.Call.{Conf, Done, Call, key, limits, credit, input, end_input, cancel, launched, read_allowance, output, discarded, output_closed, output_failed, output_hung_up, pending_input, input_written, input_closed, exited, settled, dropped, reset, disconnect, tick, deadline, next_request, next_message, is_finished, is_detached, awaits_settlement, memory_bound, buffered, high_water, Answer, Ok, Applied, Stale, Late, Refused, Taken, Came, Pending, Value, Time, Truth, Asks, Says, IsKey, AreLimits, Nothing}
use Rattle.account.specs.Step.{State, next, answer, opened}
use Rattle.account.specs.Claim.{IsPrefix}
use Rattle.account.specs.Records.{Entry, after_entries, run_entries, calls_of, dones_of}

abbrev pub is_applied : Answer → Bool
is_applied Ok = false
is_applied Applied = true
is_applied Stale = false
is_applied Late = false
is_applied (Refused n) = false
is_applied (Taken n) = false
is_applied (Came n) = false
is_applied (Pending b) = false
is_applied (Value n) = false
is_applied (Time d) = false
is_applied (Truth b) = false
is_applied (Asks r) = false
is_applied (Says m) = false
is_applied (IsKey k) = false
is_applied (AreLimits l) = false
is_applied Nothing = false

-- the first n bytes of the inbox's ring
abbrev pub front : Limits → Input → List ℕ → ℕ → List ℕ
front l i bytes n = ring_read (inbox_base l) (input_bytes l) i.inbox.start n bytes

-- the bytes that a call hands to the workload: those written, while the input is open, and at most those that wait
unfoldable pub handed_by : State → Call → List ℕ
handed_by s key = []
handed_by s limits = []
handed_by s (credit k p u) = []
handed_by s (input k b) = []
handed_by s (end_input k) = []
handed_by s (cancel now k c) = []
handed_by s (launched x) = []
handed_by s (read_allowance x) = []
handed_by s (output x b) = []
handed_by s (discarded x n) = []
handed_by s (output_closed x) = []
handed_by s (output_failed x) = []
handed_by s (output_hung_up x) = []
handed_by s pending_input = []
handed_by s (input_written n) =
    cond s.runner.input.closed [] (front s.runner.limits s.runner.input s.bytes (min n s.runner.input.inbox.length))
handed_by s input_closed = []
handed_by s (exited now x) = []
handed_by s (settled x) = []
handed_by s (dropped now) = []
handed_by s (reset now) = []
handed_by s (disconnect now) = []
handed_by s (tick now) = []
handed_by s deadline = []
handed_by s next_request = []
handed_by s (next_message buffer) = []
handed_by s is_finished = []
handed_by s is_detached = []
handed_by s awaits_settlement = []
handed_by s memory_bound = []
handed_by s buffered = []
handed_by s high_water = []

abbrev pub handed : State → List Call → List ℕ
handed s [] = []
handed s (c ∷ cs) = handed_by s c ++ handed (next s c) cs

-- the bytes that a call brings: those of an input answered Applied
unfoldable pub brought_by : Call → Answer → List ℕ
brought_by key r = []
brought_by limits r = []
brought_by (credit k p u) r = []
brought_by (input k b) r = cond (is_applied r) b []
brought_by (end_input k) r = []
brought_by (cancel now k c) r = []
brought_by (launched x) r = []
brought_by (read_allowance x) r = []
brought_by (output x b) r = []
brought_by (discarded x n) r = []
brought_by (output_closed x) r = []
brought_by (output_failed x) r = []
brought_by (output_hung_up x) r = []
brought_by pending_input r = []
brought_by (input_written n) r = []
brought_by input_closed r = []
brought_by (exited now x) r = []
brought_by (settled x) r = []
brought_by (dropped now) r = []
brought_by (reset now) r = []
brought_by (disconnect now) r = []
brought_by (tick now) r = []
brought_by deadline r = []
brought_by next_request r = []
brought_by (next_message buffer) r = []
brought_by is_finished r = []
brought_by is_detached r = []
brought_by awaits_settlement r = []
brought_by memory_bound r = []
brought_by buffered r = []
brought_by high_water r = []

abbrev pub brought : List Done → List ℕ
brought [] = []
brought (d ∷ ds) = brought_by d.call d.answer ++ brought ds

-- over a list of calls, records and frames from a runner just opened, those of the calls that it makes
abbrev pub handed_in : Conf → ℕ → (bytes lengths : List ℕ) → List Entry → List ℕ
handed_in conf now bytes lengths es = handed (opened conf now bytes lengths) (calls_of conf (run_entries (opened conf now bytes lengths) es))

abbrev pub brought_in : Conf → ℕ → (bytes lengths : List ℕ) → List Entry → List ℕ
brought_in conf now bytes lengths es = brought (dones_of conf (run_entries (opened conf now bytes lengths) es))

-- for a runner that open answered ok, stores of any content, and every list of calls, records and frames
pub record InputFifo (conf : Conf) (now : ℕ) (bytes lengths : List ℕ) : Type 0 where
  -- what was handed over is a prefix of what was brought
  pub joined : (es : List Entry) → IsPrefix (handed_in conf now bytes lengths es) (brought_in conf now bytes lengths es)
  -- and what pending_input shows comes right behind it
  pub shown : (es : List Entry) (b : List ℕ) → answer (after_entries (opened conf now bytes lengths) es) pending_input ≡ Pending b
      → IsPrefix (handed_in conf now bytes lengths es ++ b) (brought_in conf now bytes lengths es)
