-- What a judge is told of our runner, and that it refuses nothing of it. No condition is on the list: 02 asks this of lists into buffers not
-- empty, with no launch reported after give-up or abandonment, and these are among all.
use Rattle.std.specs.Prelude.{cond, ◌≡◌, List, [], ◌∷◌, ◌++◌, ℕ, length, Ok}
use mathlib.Core.List.{map}
use Rattle.judge.specs.declared.Item.{Item}
use Rattle.judge.specs.Judge.{new_judge, first}
use Rattle.judge.specs.Rules.{Keeps}
use Rattle.calls.specs.Call as Call
use Rattle.calls.specs.Call.{Conf, Done, Call, Answer, Message}
use Rattle.account.specs.Claim.{Opens}
use Rattle.account.specs.InputClaim.{is_applied}
use Rattle.account.specs.Records.{Entry, run_entries, dones_of}
use Rattle.account.specs.Step.{opened}
use Rattle.wire.specs.Messages.{said_in}

-- credit and input that are answered Applied
abbrev pub applied_of : Call → Answer → List Item
applied_of (Call.credit k p u) a = cond (is_applied a) (Item.Granted p u ∷ []) []
applied_of (Call.input k b) a = cond (is_applied a) (Item.Input (length b) ∷ []) []
applied_of _ a = []

-- a message
abbrev pub item_of : Message → Item
item_of (Call.Credit n) = Item.Credit n
item_of Call.Started = Item.Started
item_of (Call.Output x b) = Item.Output x (length b)
item_of (Call.End x) = Item.End x
item_of Call.InputClosed = Item.InputClosed
item_of (Call.Terminal o) = Item.Terminal

-- what the judge is told of a call and its answer
abbrev pub items_by : Call → Answer → List Item
items_by c a = applied_of c a ++ map item_of (said_in a)

-- and of a list, in its order
abbrev pub items_of : List Done → List Item
items_of [] = []
items_of (d ∷ ds) = items_by d.call d.answer ++ items_of ds

-- what the judge is told of a list from open
abbrev pub told : Conf → ℕ → (bytes lengths : List ℕ) → List Entry → List Item
told conf now bytes lengths es = items_of (dones_of conf (run_entries (opened conf now bytes lengths) es))

-- of a runner that was opened so, and every list of calls, records and frames
pub record Ours (conf : Conf) (now : ℕ) (bytes lengths : List ℕ) : Type 0 where
  -- the judge of its limits refuses no item of it
  pub accepted : (es : List Entry) → first (new_judge conf.limits) (told conf now bytes lengths es) ≡ Ok tt
  -- so it keeps 02's rules, sentence by sentence
  pub keeps : (es : List Entry) → Keeps conf.limits (told conf now bytes lengths es)

-- THE CLAIM: of every runner that open answered ok, stores of any content
abbrev pub OurRunner : Type 0
OurRunner = (conf : Conf) (now : ℕ) (bytes lengths : List ℕ) → Opens conf now bytes lengths → Ours conf now bytes lengths
