-- The calls of which a judge may be told: credit, input and next_message.
use Rattle.std.specs.Prelude.{◌≡◌, refl, Bool, true, false, List, [], ℕ}
use Rattle.std.proofs.lemmas.Bool.{true≢false}
use Rattle.exec.specs.declared.Key.{Key}
use Rattle.exec.specs.declared.Pool.{Pool}
use Rattle.calls.specs.Call.{Call, Answer}
use Rattle.account.specs.Step.{State}
use Rattle.account.proofs.Plain.{answer}
use Rattle.account.proofs.Finish.{Kind, quiet, kind}
use Rattle.account.proofs.Finish as Finish
use Rattle.wire.specs.Messages.{said_in}
use Rattle.wire.proofs.Ends.{unsaid}
use Rattle.talk.specs.TalkClaim.{applied_of, items_by}

abbrev pub speaks : Call → Bool
speaks (Call.next_message b) = true
speaks _ = false

abbrev pub is_told : Call → Bool
is_told (Call.credit k p u) = true
is_told (Call.input k b) = true
is_told (Call.next_message b) = true
is_told _ = false

pub data Sort : Call → Type 0 where
  granted : (k : Key) (p : Pool) (units : ℕ) → Sort (Call.credit k p units)
  brought : (k : Key) (bytes : List ℕ) → Sort (Call.input k bytes)
  spoken : (buffer : List ℕ) → Sort (Call.next_message buffer)
  untold : {c : Call} → is_told c ≡ false → speaks c ≡ false → Sort c

pub sort : (c : Call) → Sort c
sort (Call.credit k p u) = granted k p u
sort (Call.input k b) = brought k b
sort (Call.next_message b) = spoken b
sort _ = untold refl refl

none_applied : (c : Call) (a : Answer) → is_told c ≡ false → applied_of c a ≡ []
none_applied (Call.credit k p u) a e = absurd (true≢false e)
none_applied (Call.input k b) a e = absurd (true≢false e)
none_applied _ a e = refl

-- of any other it is told nothing
pub none_said : (c : Call) (s : State) → speaks c ≡ false → said_in (answer s c) ≡ []
none_said c s e = go c (kind c s) e
  where
    go : (c : Call) → Kind s c → speaks c ≡ false → said_in (answer s c) ≡ []
    go c (quiet q) e = unsaid (answer s c) q
    go c (Finish.speaks b) e = absurd (true≢false e)

pub none_told : (c : Call) (s : State) → is_told c ≡ false → speaks c ≡ false → items_by c (answer s c) ≡ []
none_told c s e m = rw (none_applied c (answer s c) e, none_said c s m) refl
