-- Credit under a smallest grant, of every list of calls, records and frames from open: 'take_grant gives nothing until returnable is at
-- least g, then all of it', whatever carries the message; which peers are never left to wait for it; and what 46 refuses.
use Rattle.std.specs.Prelude.{true, false, not, ◌&&◌, ◌≡◌, List, ◌⊎◌, ℕ, ◌+◌, ◌≤◌, ◌<◌, ltb}
use Rattle.exec.specs.Limits.{is_valid}
use Rattle.inbox.specs.Inbox.{inbox_held}
use Rattle.input.specs.Input.{can_grant}
use Rattle.runner.specs.Range.{in_range}
use Rattle.calls.specs.Call.{Conf, Call, is_finished, is_detached, next_message, Refused, Truth, Says, Credit}
use Rattle.account.specs.Claim.{Opens}
use Rattle.account.specs.Refused.{open_answer}
use Rattle.account.specs.Step.{State, next, answer, opened}
use Rattle.account.specs.Records.{Entry, next_entry, answer_entry, after_entries}

-- ---- from open

-- of a runner that was opened so
pub record Grants (conf : Conf) (now : ℕ) (bytes lengths : List ℕ) : Type 0 where
  -- nothing while fewer than the smallest grant are returnable
  pub nothing : (es : List Entry) (e : Entry) (u : ℕ) → let s = after_entries (opened conf now bytes lengths) es in
      s.runner.input.window.returnable < conf.smallest → answer_entry s e ≡ Says (Credit u) → ⊥
  -- then all of it: the units of a Credit are those that were returnable, which are open from then on
  pub all : (es : List Entry) (e : Entry) (u : ℕ) → let s = after_entries (opened conf now bytes lengths) es in
      let was = s.runner.input.window in let is = (next_entry s e).runner.input.window in
      answer_entry s e ≡ Says (Credit u) → (u ≡ was.returnable) × (is.returnable ≡ 0) × (is.open ≡ was.open + u)
  -- so that no Credit has fewer
  pub least : (es : List Entry) (e : Entry) (u : ℕ) → answer_entry (after_entries (opened conf now bytes lengths) es) e ≡ Says (Credit u) → conf.smallest ≤ u
  -- while the input is open and the peer has not ended it, credit waits as soon as that many are returnable, whatever else waits; and only then
  pub due : (es : List Entry) → let i = (after_entries (opened conf now bytes lengths) es).runner.input in
      i.closed ≡ false → i.peer_ended ≡ false → conf.smallest ≤ i.window.returnable → can_grant i ≡ true
  pub only : (es : List Entry) → let i = (after_entries (opened conf now bytes lengths) es).runner.input in
      can_grant i ≡ true → (i.closed ≡ false) × (i.peer_ended ≡ false) × (conf.smallest ≤ i.window.returnable)
  -- with 1, as in the Rust, where there is a unit
  pub as_before : (es : List Entry) → let i = (after_entries (opened conf now bytes lengths) es).runner.input in
      conf.smallest ≡ 1 → can_grant i ≡ ((not i.closed && not i.peer_ended) && ltb 0 i.window.returnable)
  -- what waits is the first message asked for or the second, until Terminal and while the peer is there
  pub soon : (es : List Entry) (b c : List ℕ) → let s = after_entries (opened conf now bytes lengths) es in
      let credit = Says (Credit s.runner.input.window.returnable) in
      can_grant s.runner.input ≡ true → answer s is_finished ≡ Truth false → answer s is_detached ≡ Truth false
      → (answer s (next_message b) ≡ credit) ⊎ (answer (next s (next_message b)) (next_message c) ≡ credit)
  -- GRANTS COME: while the input is open to the peer and the workload has taken everything, a peer with fewer than n units left has a
  -- grant waiting, of all the rest of the window, if n + smallest ≤ size + 1; for n = 1 that is so of every smallest grant that open takes
  pub come : (es : List Entry) (n : ℕ) → let i = (after_entries (opened conf now bytes lengths) es).runner.input in
      i.closed ≡ false → i.peer_ended ≡ false → inbox_held conf.limits.input.unit i.inbox ≡ 0 → i.window.open < n → n + conf.smallest ≤ conf.limits.input.size + 1
      → (can_grant i ≡ true) × (i.window.open + i.window.returnable ≡ conf.limits.input.size)

-- THE CLAIM: of every runner that open answered ok, stores of any content
abbrev pub SmallestGrant : Type 0
SmallestGrant = (conf : Conf) (now : ℕ) (bytes lengths : List ℕ) → Opens conf now bytes lengths → Grants conf now bytes lengths

-- ---- 46

-- one of 0, or above the input's size
abbrev pub Misfits : (smallest size : ℕ) → Type 0
Misfits smallest size = (smallest ≡ 0) ⊎ (size < smallest)

-- WHAT 46 REFUSES, 'after 10': an open with such a smallest grant, whatever it is lent, and no other
pub record Refuses : Type 0 where
  pub at_open : (conf : Conf) (now : ℕ) (bytes lengths : List ℕ) → is_valid conf.limits ≡ true → Misfits conf.smallest conf.limits.input.size
      → open_answer conf now bytes lengths ≡ Refused 46
  pub fitting : (conf : Conf) (now : ℕ) (bytes lengths : List ℕ) → 0 < conf.smallest → conf.smallest ≤ conf.limits.input.size
      → open_answer conf now bytes lengths ≡ Refused 46 → ⊥
  -- and every call of a runner in range that has one, which changes nothing
  pub in_calls : (s : State) (c : Call) → in_range s.runner ≡ true → is_valid s.runner.limits ≡ true
      → Misfits s.runner.input.window.smallest s.runner.limits.input.size → (next s c ≡ s) × (answer s c ≡ Refused 46)
