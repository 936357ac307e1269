-- What a call and its answer add to the account of a stream is what they tell: of the bytes offered those that were answered taken,
-- and the bytes that the answer carries.
use mathlib.Core.Bool.{Bool, false, true≢false}
use mathlib.Core.Path.{◌≡◌, refl, sym, ap, ◌∙◌}
use mathlib.Core.List.{List, [], ◌++◌, append-nil}
use Prim.Native.Nat.{ℕ}
use lib.ListN.{take}
use Rattle.exec.specs.declared.Stream.{Stream}
use Rattle.choice.specs.declared.Choice.{Choice}
use Rattle.runner.specs.declared.runner.Runner.{Runner}
use Rattle.runner.specs.Message.{payload}
use Rattle.calls.specs.Call as Call
use Rattle.calls.specs.Call.{Conf, Call, Answer, count}
use Rattle.account.specs.Account.{Account, Tally, taken_by, sent_by, add, adds, tally_of}
use Rattle.account.specs.Claim.{is_message}
use Rattle.account.specs.TurnClaim.{offered, carried}
use Rattle.account.proofs.Plain.{said}
use Rattle.account.proofs.Sides.{same_self, on_each}
use Rattle.account.proofs.Keeps.{All, add_keeps}
use Rattle.std.proofs.Math.Seq.{take-nil}

-- ---- a call that takes nothing and says no Output

pub take_zero : (n : ℕ) (b : List ℕ) → n ≡ 0 → take n b ≡ []
take_zero n b e = rw e refl

-- what was taken and sent by the account z is as it was
module _ (z : Account) where
  abbrev pub Same : Stream → Bool → Tally → Type 0
  Same x k t = (t.taken ≡ (tally_of x z).taken) × (t.sent ≡ (tally_of x z).sent)

  pub quiet_same : (c : Call) (r : Answer) (a : Account) → ((x : Stream) (b : List ℕ) → c ≡ Call.output x b → take (count r) b ≡ [])
      → ((x : Stream) (b : List ℕ) → r ≡ Call.Says (Call.Output x b) → ⊥) → All Same a → All Same (add a c r)
  quiet_same c r a g m h = add_keeps Same c r (record {
    marks = λ x b k t p. p;
    lost = λ x k t p. p;
    fails = λ x k t d p. p;
    closes = λ x k t d f p. p;
    takes = λ x b k t d p. (ap (λ (l : List ℕ). t.taken ++ l) (g x b d) ∙ append-nil t.taken ∙ p.0, p.1);
    sends = λ x b k t d p. absurd (m x b d);
  }) a h

-- ---- a call

-- the call c with the answer r, and so the tally t from that of z: what was offered and taken is added, and what was carried
module _ (z : Account) (c : Call) (r : Answer) where
  abbrev pub Told : Stream → Tally → Type 0
  Told x t = (t.taken ≡ (tally_of x z).taken ++ take (count r) (offered x c)) × (t.sent ≡ (tally_of x z).sent ++ carried x r)

  abbrev pub Tells : Type 0
  Tells = (x : Stream) → Told x (tally_of x (add z c r))

-- a call that offers nothing, or output
pub data Offers : Call → Type 0 where
  silent : {c : Call} → ((x : Stream) → offered x c ≡ []) → Offers c
  gives : (x : Stream) (b : List ℕ) → Offers (Call.output x b)

pub offers : (c : Call) → Offers c
offers (Call.output x b) = gives x b
offers _ = silent (λ x. refl)

no_bytes : (c : Call) (r : Answer) → ((x : Stream) → offered x c ≡ []) → (x : Stream) (b : List ℕ) → c ≡ Call.output x b → take (count r) b ≡ []
no_bytes c r h x b e =
    let o : offered x (Call.output x b) ≡ b = rw (same_self x) refl in
    ap (take (count r)) (sym o ∙ ap (offered x) (sym e) ∙ h x) ∙ take-nil (count r)

pub quiet_carries : (r : Answer) (x : Stream) → is_message r ≡ false → carried x r ≡ []
quiet_carries (Call.Says m) x e = absurd (true≢false e)
quiet_carries _ x e = refl

-- the same, and nothing added
none_added : (t s l : List ℕ) → t ≡ s → l ≡ [] → t ≡ s ++ l
none_added t s l e n = e ∙ sym (append-nil s) ∙ ap (λ (q : List ℕ). s ++ q) (sym n)

pub quiet_kept : (c : Call) (r : Answer) (z : Account) → ((x : Stream) → offered x c ≡ []) → is_message r ≡ false → (x : Stream) → Same z x false (tally_of x (add z c r))
quiet_kept c r z o q x = quiet_same z c r z (no_bytes c r o) (λ y b e. true≢false (sym (ap is_message e) ∙ q)) (λ y. (refl, refl)) x

pub quiet_told : (c : Call) (r : Answer) (z : Account) → ((x : Stream) → offered x c ≡ []) → is_message r ≡ false → Tells z c r
quiet_told c r z o q x =
    let h = quiet_kept c r z o q x in
    (none_added _ _ _ h.0 (ap (take (count r)) (o x) ∙ take-nil (count r)), none_added _ _ _ h.1 (quiet_carries r x q))

pub output_told : (y : Stream) (b : List ℕ) (n : ℕ) (z : Account) → Tells z (Call.output y b) (Call.Taken n)
unfolding add adds
output_told y b n z =
    on_each (Told z (Call.output y b) (Call.Taken n)) y (taken_by (take n b)) z.tallies
    (rw (same_self y) (refl, sym (append-nil _)))
    (λ x d. rw d (none_added _ _ _ refl (take-nil n), sym (append-nil _)))

-- one that is refused
pub unkept_told : (y : Stream) (b : List ℕ) (n : ℕ) (z : Account) → Tells z (Call.output y b) (Call.Refused n)
unfolding add
unkept_told y b n z x = (sym (append-nil _), sym (append-nil _))

pub said_told : (m : Choice) (b : List ℕ) (s : Runner) (store : List ℕ) (z : Account) → Tells z (Call.next_message b) (said m s store)
unfolding said add adds
said_told (Choice.Output y n) b s store z x =
    on_each (Told z (Call.next_message b) (Call.Says (Call.Output y (payload s y n store)))) y (sent_by (payload s y n store)) z.tallies
    (rw (same_self y) (sym (append-nil _), refl))
    (λ x d. rw d (sym (append-nil _), sym (append-nil _))) x
said_told _ b s store z x = (sym (append-nil _), sym (append-nil _))
