-- What is heard over whatever wire: what stands on it of a list, record by record or byte by byte, what is to be heard of messages, and
-- what a peer has of what it heard. A wire says what a peer makes of it, and what is to be heard of a message (`speaks`).
use Rattle.std.specs.Prelude.{Bool, cond, List, [], ◌∷◌, ◌++◌, ℕ, suc, Option, Result, Some, None, Ok, Err}
use Rattle.exec.specs.declared.Refusal.{Refusal}
use Rattle.exec.specs.Each.{Each}
use Rattle.runner.specs.declared.answer.Message as Messages
use Rattle.calls.specs.Call.{Message}
use Rattle.account.specs.Step.{State}
use Rattle.account.specs.Records.{Entry, next_entry}
use Rattle.wire.specs.Messages.{ends_by}

-- ---- what the peer has

-- what each gives, joined
abbrev pub joined : {A B : Type 0} → (A → List B) → List A → List B
joined f [] = []
joined f (a ∷ rest) = f a ++ joined f rest

-- how many are so
abbrev pub count : {A : Type 0} → (A → Bool) → List A → ℕ
count p [] = 0
count p (a ∷ rest) = cond (p a) (suc (count p rest)) (count p rest)

-- one where it is so, and none where it is not
abbrev pub once : Bool → ℕ
once b = cond b 1 0

-- ---- the wire

-- what a write left for it, where left_by has what a message of n bytes left in the buffer
abbrev pub written : {A : Type 0} → (left_by : Messages.Message → (n : ℕ) → (buffer : List ℕ) → List A) → Result (Option (Messages.Message × ℕ)) Refusal → (buffer : List ℕ) → List A
written left_by (Ok None) buffer = []
written left_by (Ok (Some (m, n))) buffer = left_by m n buffer
written left_by (Err x) buffer = []

-- every entry of a list is so
abbrev pub AllOf : (Entry → Type 0) → List Entry → Type 0
AllOf P [] = Unit
AllOf P (e ∷ es) = P e × AllOf P es

-- what stands on the wire of a list, where on_wire has what stands there of an entry
abbrev pub wire : {A : Type 0} → (State → Entry → List A) → State → List Entry → List A
wire on_wire s [] = []
wire on_wire s (e ∷ es) = on_wire s e ++ wire on_wire (next_entry s e) es

-- what is to be heard of messages, where speaks says it of one, by the streams whose End was told before
abbrev pub told_by : {H : Type 0} → (speaks : Each Bool → Message → List H) → Each Bool → List Message → List H
told_by speaks e [] = []
told_by speaks e (m ∷ ms) = speaks e m ++ told_by speaks (ends_by m e) ms
