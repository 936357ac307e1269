-- Demand 3, for every list of calls from a runner just opened.
use Rattle.exec.specs.Limits.{streams}
use Rattle.std.specs.Prelude.{Bool, true, false, ◌||◌, ◌≡◌, List, [], ◌∷◌, ◌++◌, ℕ, suc, ◌+◌, ◌^◌, ◌≤◌, ◌<◌, eqb, Result}
use Rattle.exec.specs.declared.Cause.{Cause}
use Rattle.exec.specs.declared.Key.{Key}
use Rattle.exec.specs.declared.Outcome.{Outcome}
use Rattle.exec.specs.declared.Stream.{Stream}
use Rattle.exec.specs.Outcome.{is_truncated}
use Rattle.runner.specs.Calls as Calls
use Rattle.calls.specs.Call.{Conf, Done, Call, key, limits, credit, input, end_input, cancel, launched, read_allowance, output, discarded, output_closed, output_failed, output_hung_up, pending_input, input_written, input_closed, exited, settled, dropped, reset, disconnect, tick, deadline, next_request, next_message, is_finished, is_detached, awaits_settlement, memory_bound, buffered, high_water, Answer, Ok, Applied, Stale, Late, Refused, Taken, Came, Pending, Value, Time, Truth, Asks, Says, IsKey, AreLimits, Nothing, Message, Credit, Started, Output, End, InputClosed, Terminal}
use Rattle.account.specs.Step.{next, answer, opened, after, run}
use Rattle.account.specs.Account.{Account, start, account, tally_of, cut, tick_a}

abbrev pub IsPrefix : List ℕ → List ℕ → Type 0
IsPrefix a b = (rest : List ℕ) × (b ≡ a ++ rest)

-- the account after a list of calls
abbrev pub account_of : Conf → ℕ → List ℕ → List ℕ → List Call → Account
account_of c now bytes lengths cs = account (start c now) (run (opened c now bytes lengths) cs)

abbrev pub is_message : Answer → Bool
is_message Ok = false
is_message Applied = false
is_message Stale = false
is_message Late = false
is_message (Refused n) = false
is_message (Taken n) = false
is_message (Came n) = false
is_message (Pending b) = false
is_message (Value n) = false
is_message (Time d) = false
is_message (Truth b) = false
is_message (Asks r) = false
is_message (Says m) = true
is_message (IsKey k) = false
is_message (AreLimits l) = false
is_message Nothing = false

abbrev pub terminal_message : Message → Bool
terminal_message (Credit n) = false
terminal_message Started = false
terminal_message (Output x b) = false
terminal_message (End x) = false
terminal_message InputClosed = false
terminal_message (Terminal o) = true

abbrev pub is_terminal : Answer → Bool
is_terminal Ok = false
is_terminal Applied = false
is_terminal Stale = false
is_terminal Late = false
is_terminal (Refused n) = false
is_terminal (Taken n) = false
is_terminal (Came n) = false
is_terminal (Pending b) = false
is_terminal (Value n) = false
is_terminal (Time d) = false
is_terminal (Truth b) = false
is_terminal (Asks r) = false
is_terminal (Says m) = terminal_message m
is_terminal (IsKey k) = false
is_terminal (AreLimits l) = false
is_terminal Nothing = false

abbrev pub any_terminal : List Done → Bool
any_terminal [] = false
any_terminal (d ∷ ds) = is_terminal d.answer || any_terminal ds

abbrev pub Silent : List Done → Type 0
Silent [] = Unit
Silent (d ∷ ds) = (is_message d.answer ≡ false) × Silent ds

abbrev pub counts_message : Call → ℕ → ℕ
counts_message (credit k p u) n = n
counts_message (input k b) n = n
counts_message (end_input k) n = n
counts_message (cancel now k c) n = n
counts_message (launched x) n = n
counts_message (output x b) n = n
counts_message (discarded x k) n = n
counts_message (output_closed x) n = n
counts_message (output_failed x) n = n
counts_message (output_hung_up x) n = n
counts_message (input_written k) n = n
counts_message input_closed n = n
counts_message (exited now x) n = n
counts_message (settled ok) n = n
counts_message (dropped now) n = n
counts_message (reset now) n = n
counts_message (disconnect now) n = n
counts_message (tick now) n = n
counts_message next_request n = n
counts_message (next_message k) n = suc n
counts_message (read_allowance x) n = n
counts_message pending_input n = n
counts_message deadline n = n
counts_message is_finished n = n
counts_message is_detached n = n
counts_message awaits_settlement n = n
counts_message buffered n = n
counts_message high_water n = n
counts_message memory_bound n = n
counts_message key n = n
counts_message limits n = n

-- how many of the calls are next_message
abbrev pub messages : List Call → ℕ
messages [] = 0
messages (c ∷ cs) = counts_message c (messages cs)

-- refused by 10, 11, 12 or 46
abbrev pub is_stop : Answer → Bool
is_stop Ok = false
is_stop Applied = false
is_stop Stale = false
is_stop Late = false
is_stop (Refused n) = ((eqb n 10 || eqb n 11) || eqb n 12) || eqb n 46
is_stop (Taken n) = false
is_stop (Came n) = false
is_stop (Pending b) = false
is_stop (Value n) = false
is_stop (Time d) = false
is_stop (Truth b) = false
is_stop (Asks r) = false
is_stop (Says m) = false
is_stop (IsKey k) = false
is_stop (AreLimits l) = false
is_stop Nothing = false

-- open is answered ok
abbrev pub Opens : Conf → ℕ → (bytes lengths : List ℕ) → Type 0
Opens conf now bytes lengths = (Calls.«open» conf.key conf.limits conf.timers conf.smallest now bytes lengths).answer ≡ Result.Ok tt

-- DEMAND 3, for a runner that open answered ok, stores of any content, and every list of calls
pub record Demand3 (conf : Conf) (now : ℕ) (bytes lengths : List ℕ) : Type 0 where
  -- on each stream what was sent is a prefix of what was taken
  pub joined : (cs : List Call) (x : Stream) → IsPrefix (tally_of x (account_of conf now bytes lengths cs)).sent (tally_of x (account_of conf now bytes lengths cs)).taken
  -- no message after Terminal, so Terminal at most once
  pub once : (cs : List Call) (c : Call) (ds : List Call) → is_terminal (answer (after (opened conf now bytes lengths) cs) c) ≡ true
      → Silent (run (next (after (opened conf now bytes lengths) cs) c) ds)
  -- Terminal marks a stream exactly when the account before it does
  pub marks : (cs : List Call) (c : Call) (o : Outcome) → answer (after (opened conf now bytes lengths) cs) c ≡ Says (Terminal o)
      → (x : Stream) → is_truncated o x ≡ cut (tally_of x (account_of conf now bytes lengths cs))
  -- an Applied cancel is itself the first of the three events: none had come before it, nor in its own tick
  pub first : (cs : List Call) (t : ℕ) (k : Key) (c : Cause) → answer (after (opened conf now bytes lengths) cs) (cancel t k c) ≡ Applied
      → (tick_a t (account_of conf now bytes lengths cs)).rep.begun ≡ false
  -- after a cancel Applied at t, Terminal has come by next_message 3 + the number of streams (with two the fifth) after a tick at or past
  -- t + grace + settlement
  pub late : (cs ds es : List Call) (t n : ℕ) (k : Key) (c : Cause) → answer (after (opened conf now bytes lengths) cs) (cancel t k c) ≡ Applied
      → t + conf.timers.grace + conf.timers.settlement < 2 ^ 64 → t + conf.timers.grace + conf.timers.settlement ≤ n → 3 + streams conf.limits ≤ messages es
      → any_terminal (run (opened conf now bytes lengths) (cs ++ (cancel t k c ∷ (ds ++ (tick n ∷ es))))) ≡ true
  -- from open on no call is refused by 10, 11 or 12
  pub ranged : (cs : List Call) (c : Call) → is_stop (answer (after (opened conf now bytes lengths) cs) c) ≡ false
