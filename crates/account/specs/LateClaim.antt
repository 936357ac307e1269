-- Demand 3's bound after every call that ticks, not only after tick itself, and after every record that makes such a call.
use Rattle.exec.specs.Limits.{streams}
use Rattle.std.specs.Prelude.{true, ◌≡◌, List, [], ◌∷◌, ◌++◌, ℕ, ◌+◌, ◌^◌, ◌≤◌, ◌<◌, Option, Result, Some, None, Ok, Err}
use Rattle.exec.specs.declared.Admission.TheVariants.{Own, Stale}
use Rattle.exec.specs.declared.Admission.{Admission}
use Rattle.exec.specs.declared.Refusal.{Refusal}
use Rattle.exec.specs.declared.Cause.{Cause}
use Rattle.exec.specs.declared.Key.{Key}
use Rattle.exec.specs.Key.{admits}
use Rattle.calls.specs.Call.{Conf, Call, key, limits, credit, input, end_input, cancel, launched, read_allowance, output, discarded, output_closed, output_failed, output_hung_up, pending_input, input_written, input_closed, exited, settled, dropped, reset, disconnect, tick, deadline, next_request, next_message, is_finished, is_detached, awaits_settlement, memory_bound, buffered, high_water, Applied}
use Rattle.account.specs.Step.{opened}
use Rattle.account.specs.Claim.{messages}
use Rattle.account.specs.Records.{Entry, call, next_entry, answer_entry, after_entries, run_entries, made, calls_of, any_terminal_in}

-- a cancellation ticks only for the execution's own key
abbrev pub own_tick : Result Admission Refusal → ℕ → Option ℕ
own_tick (Ok Own) now = Some now
own_tick (Ok Stale) now = None
own_tick (Err x) now = None

-- the instant of a call's tick
abbrev pub tick_of : Conf → Call → Option ℕ
tick_of conf key = None
tick_of conf limits = None
tick_of conf (credit k p u) = None
tick_of conf (input k b) = None
tick_of conf (end_input k) = None
tick_of conf (cancel now k c) = own_tick (admits conf.key k) now
tick_of conf (launched x) = None
tick_of conf (read_allowance x) = None
tick_of conf (output x b) = None
tick_of conf (discarded x m) = None
tick_of conf (output_closed x) = None
tick_of conf (output_failed x) = None
tick_of conf (output_hung_up x) = None
tick_of conf pending_input = None
tick_of conf (input_written m) = None
tick_of conf input_closed = None
tick_of conf (exited now x) = Some now
tick_of conf (settled x) = None
tick_of conf (dropped now) = Some now
tick_of conf (reset now) = Some now
tick_of conf (disconnect now) = Some now
tick_of conf (tick now) = Some now
tick_of conf deadline = None
tick_of conf next_request = None
tick_of conf (next_message buffer) = None
tick_of conf is_finished = None
tick_of conf is_detached = None
tick_of conf awaits_settlement = None
tick_of conf memory_bound = None
tick_of conf buffered = None
tick_of conf high_water = None

-- after a cancel Applied at t, Terminal has come by message 3 + the number of streams asked for, by call or by record, after an entry whose
-- call ticks at or past t + grace + settlement: a call, or a CLOSE that is read, which disconnects
abbrev pub LateAny : Conf → ℕ → (bytes lengths : List ℕ) → Type 0
LateAny conf now bytes lengths =
    (cs ds es : List Entry) (t n : ℕ) (k : Key) (c : Cause) (e : Entry) (ticks : Call)
    → let cancelled = next_entry (after_entries (opened conf now bytes lengths) cs) (call (cancel t k c)) in
    let before = after_entries cancelled ds in
    answer_entry (after_entries (opened conf now bytes lengths) cs) (call (cancel t k c)) ≡ Applied
    → t + conf.timers.grace + conf.timers.settlement < 2 ^ 64 → t + conf.timers.grace + conf.timers.settlement ≤ n
    → made conf e (answer_entry before e) ≡ ticks ∷ [] → tick_of conf ticks ≡ Some n → 3 + streams conf.limits ≤ messages (calls_of conf (run_entries (next_entry before e) es))
    → any_terminal_in (run_entries (opened conf now bytes lengths) (cs ++ (call (cancel t k c) ∷ (ds ++ (e ∷ es))))) ≡ true
