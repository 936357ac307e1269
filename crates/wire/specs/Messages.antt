-- The messages that a list told, by calls and by records alike, in their order; and the order that every list keeps.
use Rattle.std.specs.Prelude.{Bool, true, false, not, ◌||◌, ◌≡◌, List, [], ◌∷◌, ◌++◌, ℕ}
use Rattle.exec.specs.declared.Stream.{Stream}
use Rattle.exec.specs.declared.Limits.{Limits}
use Rattle.exec.specs.Each.{Each, on_one, per}
use Rattle.exec.specs.Limits.{has}
use Rattle.exec.specs.Stream.{same_stream}
use Rattle.calls.specs.Call as Call
use Rattle.calls.specs.Call.{Conf, Answer, Message}
use Rattle.account.specs.Step.{State, opened}
use Rattle.account.specs.Claim.{terminal_message}
use Rattle.account.specs.Records.{Entry, EntryDone, after_entries, run_entries}

-- ---- the messages

abbrev pub said_in : Answer → List Message
said_in Call.Ok = []
said_in Call.Applied = []
said_in Call.Stale = []
said_in Call.Late = []
said_in (Call.Refused n) = []
said_in (Call.Taken n) = []
said_in (Call.Came n) = []
said_in (Call.Pending b) = []
said_in (Call.Value n) = []
said_in (Call.Time d) = []
said_in (Call.Truth b) = []
said_in (Call.Asks r) = []
said_in (Call.Says m) = m ∷ []
said_in (Call.IsKey k) = []
said_in (Call.AreLimits l) = []
said_in Call.Nothing = []

abbrev pub said_by : List EntryDone → List Message
said_by [] = []
said_by (d ∷ ds) = said_in d.answer ++ said_by ds

-- by a list from a state on
abbrev pub said_from : State → List Entry → List Message
said_from s es = said_by (run_entries s es)

-- by a list from open
abbrev pub said : Conf → ℕ → (bytes lengths : List ℕ) → List Entry → List Message
said conf now bytes lengths es = said_from (opened conf now bytes lengths) es

-- ---- what they tell

-- the units of a Credit
abbrev pub credit_in : Message → List ℕ
credit_in (Call.Credit n) = n ∷ []
credit_in Call.Started = []
credit_in (Call.Output x b) = []
credit_in (Call.End x) = []
credit_in Call.InputClosed = []
credit_in (Call.Terminal o) = []

-- ---- what they tell of a stream

-- its End
abbrev pub is_end : Stream → Message → Bool
is_end x (Call.Credit n) = false
is_end x Call.Started = false
is_end x (Call.Output y b) = false
is_end x (Call.End y) = same_stream y x
is_end x Call.InputClosed = false
is_end x (Call.Terminal o) = false

-- its End, or bytes of it
abbrev pub is_of : Stream → Message → Bool
is_of x (Call.Credit n) = false
is_of x Call.Started = false
is_of x (Call.Output y b) = same_stream y x
is_of x (Call.End y) = same_stream y x
is_of x Call.InputClosed = false
is_of x (Call.Terminal o) = false

-- one of them is so
abbrev pub any : (Message → Bool) → List Message → Bool
any p [] = false
any p (m ∷ ms) = p m || any p ms

-- the streams whose End was told, once a message more is
abbrev pub ends_by : Message → Each Bool → Each Bool
ends_by (Call.Credit n) e = e
ends_by Call.Started e = e
ends_by (Call.Output x b) e = e
ends_by (Call.End x) e = on_one x (λ (b : Bool). true) e
ends_by Call.InputClosed e = e
ends_by (Call.Terminal o) e = e

-- before any message: the End of a stream that is not open counts as told
abbrev pub no_ends : Limits → Each Bool
no_ends l = per (λ (x : Stream). not (has l x))

-- ---- the order that they keep

-- THE ORDER, for a runner that open answered ok, stores of any content, and every list of calls, records and frames
pub record Ordered (conf : Conf) (now : ℕ) (bytes lengths : List ℕ) : Type 0 where
  -- once the End of a stream was told, no message is of it any more: no bytes, and no second End
  pub ended : (es ds : List Entry) (x : Stream) → any (is_end x) (said_from (opened conf now bytes lengths) es) ≡ true
      → any (is_of x) (said_from (after_entries (opened conf now bytes lengths) es) ds) ≡ false
  -- and once Terminal was, there is none
  pub over : (es ds : List Entry) → any terminal_message (said_from (opened conf now bytes lengths) es) ≡ true
      → said_from (after_entries (opened conf now bytes lengths) es) ds ≡ []
