-- The units of the input's window: after every list of calls, records and frames open + returnable + held + lost = size. Lost are those
-- charged by an input answered Late, counted from arguments and answers, and those of an inbox that was cleared as the input
-- closed.
use Rattle.std.specs.Prelude.{Bool, true, false, cond, not, ◌&&◌, ◌||◌, ◌≡◌, List, [], ◌∷◌, ℕ, ◌+◌, length}
use Rattle.exec.specs.declared.Limits.{Limits}
use Rattle.exec.specs.Limits.{cost}
use Rattle.inbox.specs.Inbox.{inbox_held}
use Rattle.input.specs.declared.Input.{Input}
use Rattle.runner.specs.declared.runner.Runner.{Runner}
use Rattle.calls.specs.Call.{Conf, Call, key, limits, credit, input, end_input, cancel, launched, read_allowance, output, discarded, output_closed, output_failed, output_hung_up, pending_input, input_written, input_closed, exited, settled, dropped, reset, disconnect, tick, deadline, next_request, next_message, is_finished, is_detached, awaits_settlement, memory_bound, buffered, high_water, Answer, Ok, Applied, Stale, Late, Refused, Taken, Came, Pending, Value, Time, Truth, Asks, Says, IsKey, AreLimits, Nothing}
use Rattle.account.specs.Step.{State, next, answer, opened}
use Rattle.account.specs.Claim.{is_terminal}
use Rattle.account.specs.Records.{Entry, after_entries, run_entries, calls_of}

-- open + returnable + held
abbrev pub units_in : Limits → Input → ℕ
units_in l i = i.window.open + i.window.returnable + inbox_held l.input.unit i.inbox

abbrev pub is_late : Answer → Bool
is_late Ok = false
is_late Applied = false
is_late Stale = false
is_late Late = true
is_late (Refused n) = false
is_late (Taken n) = false
is_late (Came n) = false
is_late (Pending b) = false
is_late (Value n) = false
is_late (Time d) = false
is_late (Truth b) = false
is_late (Asks r) = false
is_late (Says m) = false
is_late (IsKey k) = false
is_late (AreLimits l) = false
is_late Nothing = false

-- the cost of a message answered Late, unless Terminal had come: then nothing is charged
abbrev pub late_cost : (over : Bool) → Limits → (n : ℕ) → Answer → ℕ
late_cost over l n a = cond (is_late a && not over) (cost l.input.unit n) 0

-- what the inbox held, where a call closed the input
abbrev pub cleared : Runner → Runner → ℕ
cleared r r' = cond (not r.input.closed && r'.input.closed) (inbox_held r.limits.input.unit r.input.inbox) 0

-- the units that a call loses, where over says whether Terminal had come (the runner's own request closes an input whose every byte was taken: it clears nothing)
unfoldable pub lost_by : (over : Bool) → State → Call → ℕ
lost_by over s key = 0
lost_by over s limits = 0
lost_by over s (credit k p u) = 0
lost_by over s (input k b) = late_cost over s.runner.limits (length b) (answer s (input k b))
lost_by over s (end_input k) = 0
lost_by over s (cancel now k c) = cleared s.runner (next s (cancel now k c)).runner
lost_by over s (launched x) = cleared s.runner (next s (launched x)).runner
lost_by over s (read_allowance x) = 0
lost_by over s (output x b) = 0
lost_by over s (discarded x n) = 0
lost_by over s (output_closed x) = 0
lost_by over s (output_failed x) = 0
lost_by over s (output_hung_up x) = 0
lost_by over s pending_input = 0
lost_by over s (input_written n) = 0
lost_by over s input_closed = cleared s.runner (next s input_closed).runner
lost_by over s (exited now x) = cleared s.runner (next s (exited now x)).runner
lost_by over s (settled x) = 0
lost_by over s (dropped now) = cleared s.runner (next s (dropped now)).runner
lost_by over s (reset now) = cleared s.runner (next s (reset now)).runner
lost_by over s (disconnect now) = cleared s.runner (next s (disconnect now)).runner
lost_by over s (tick now) = cleared s.runner (next s (tick now)).runner
lost_by over s deadline = 0
lost_by over s next_request = 0
lost_by over s (next_message buffer) = 0
lost_by over s is_finished = 0
lost_by over s is_detached = 0
lost_by over s awaits_settlement = 0
lost_by over s memory_bound = 0
lost_by over s buffered = 0
lost_by over s high_water = 0

abbrev pub lost : (over : Bool) → State → List Call → ℕ
lost over s [] = 0
lost over s (c ∷ cs) = lost_by over s c + lost (over || is_terminal (answer s c)) (next s c) cs

-- 01: open + returnable + units held in the inbox + units lost = size; a record loses what the call that it makes does
abbrev pub Units : Conf → ℕ → (bytes lengths : List ℕ) → Type 0
Units conf now bytes lengths =
    (es : List Entry) → units_in conf.limits (after_entries (opened conf now bytes lengths) es).runner.input
    + lost false (opened conf now bytes lengths) (calls_of conf (run_entries (opened conf now bytes lengths) es)) ≡ conf.limits.input.size
