-- A program that hangs: its timeout passes. Where up to a tick at t, at or past the timeout's instant, no exit was reported of it and no call had a time
-- above t, Terminal has come by message 3 + the number of streams (with two the fifth) asked for after a tick at or past t + grace + settlement,
-- whatever else was called before, and whatever between the two ticks and after them.
use Rattle.exec.specs.Limits.{streams}
use Rattle.std.specs.Prelude.{true, ◌≡◌, List, [], ◌∷◌, ◌++◌, ℕ, ◌+◌, ◌^◌, ◌≤◌, ◌<◌, Option, Some}
use Rattle.exec.specs.declared.Status.{Status}
use Rattle.exec.specs.Time.{timeout_at}
use Rattle.calls.specs.Call.{Conf, Call, exited, tick, time_of}
use Rattle.account.specs.Step.{opened}
use Rattle.account.specs.Claim.{messages}
use Rattle.account.specs.Records.{Entry, call, next_entry, after_entries, run_entries, calls_of, any_terminal_in}

-- the program runs on: the call reports no exit, and its own time is not above t
abbrev pub RunsOn : ℕ → Call → Type 0
RunsOn t c = ((now : ℕ) (x : Option Status) → c ≡ exited now x → ⊥) × ((now : ℕ) → time_of c ≡ Some now → now ≤ t)

-- up to t, by each of the calls
abbrev pub Unended : ℕ → List Call → Type 0
Unended t [] = Unit
Unended t (c ∷ cs) = RunsOn t c × Unended t cs

-- THE TIMEOUT ENDS A PROGRAM THAT HANGS: cs is called before the tick at t, ds up to the tick at n, es after it; each holds calls, records and frames
abbrev pub Hung : Conf → ℕ → (bytes lengths : List ℕ) → Type 0
Hung conf now bytes lengths =
    (cs ds es : List Entry) (d t n : ℕ)
    → let ticked = next_entry (after_entries (opened conf now bytes lengths) cs) (call (tick t)) in
    let before = after_entries ticked ds in
    timeout_at conf.timers.timeout now ≡ Some d → d ≤ t
    → Unended t (calls_of conf (run_entries (opened conf now bytes lengths) cs))
    → t + conf.timers.grace + conf.timers.settlement < 2 ^ 64 → t + conf.timers.grace + conf.timers.settlement ≤ n
    → 3 + streams conf.limits ≤ messages (calls_of conf (run_entries (next_entry before (call (tick n))) es))
    → any_terminal_in (run_entries (opened conf now bytes lengths) (cs ++ (call (tick t) ∷ (ds ++ (call (tick n) ∷ es))))) ≡ true
