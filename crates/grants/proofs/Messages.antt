-- Credit among the messages: what one brings, and that what can be granted is the first message asked for or the second.
use Rattle.std.specs.Prelude.{Bool, true, false, ◌≡◌, refl, ℕ, ◌+◌, List, length}
use Rattle.std.proofs.lemmas.Bool.{true≢false}
use Rattle.std.proofs.Common.{sym, ap, ◌∙◌, arith}
use mathlib.Core.Logic.{◌⊎◌, inl, inr}
use mathlib.Core.Path.{subst⁻¹}
use Rattle.inbox.specs.Receiver.{is_due}
use Rattle.input.specs.Input.{can_grant}
use Rattle.choice.specs.declared.Choice.{Choice}
use Rattle.choice.specs.Order.{if_else, order}
use Rattle.runner.specs.declared.runner.Runner.{Runner}
use Rattle.runner.specs.Message.{choose, output_paid, output_sent, effect}
use Rattle.runner.specs.MessageLaws.{pick_if, credit_due}
use Rattle.calls.specs.Call as Call
use Rattle.calls.specs.Call.{Call, Answer}
use Rattle.account.specs.Claim.{is_message}
use Rattle.account.specs.Step as Step
use Rattle.account.specs.Step.{State}
use Rattle.account.proofs.Demand.{Fine, fine_next, next_same, answer_same}
use Rattle.account.proofs.Finish.{Kind, kind, quiet, speaks}
use Rattle.account.proofs.Plain.{said, next, answer}

-- ---- what a Credit brings

credit_said : (m : Choice) (r : Runner) (bytes : List ℕ) (u : ℕ) → said m r bytes ≡ Call.Says (Call.Credit u) → (m ≡ Choice.Credit) × (u ≡ r.input.window.returnable)
unfolding said
credit_said Choice.Credit r bytes u e = (refl, cc)
credit_said _ r bytes u e = let z : ◌≡◌ {A = ℕ} 0 1 = cc in absurd (omega arith)

-- the units that were returnable, which were due, and are open from then on
pub record Brought (r t : Runner) (u : ℕ) : Type 0 where
  pub due : is_due r.input.window ≡ true
  pub all : u ≡ r.input.window.returnable
  pub none : t.input.window.returnable ≡ 0
  pub opens : t.input.window.open ≡ r.input.window.open + r.input.window.returnable

brought_by : (m : Choice) (r : Runner) → m ≡ Choice.Credit → ((effect m r).input.window.returnable ≡ 0) × ((effect m r).input.window.open ≡ r.input.window.open + r.input.window.returnable)
unfolding effect
brought_by m r e = rw e (refl, refl)

message_brings : (buffer : List ℕ) (s : State) (u : ℕ) → answer s (Call.next_message buffer) ≡ Call.Says (Call.Credit u) → Brought s.runner (next s (Call.next_message buffer)).runner u
unfolding answer next
message_brings buffer s u e =
    let p = credit_said (choose s.runner (length buffer)) s.runner s.bytes u e in
    let q = brought_by (choose s.runner (length buffer)) s.runner p.0 in
    record { due = credit_due s.runner (length buffer) (sym p.0); all = p.1; none = q.0; opens = q.1 }

plain_brings : (c : Call) (s : State) (u : ℕ) → Kind s c → answer s c ≡ Call.Says (Call.Credit u) → Brought s.runner (next s c).runner u
plain_brings c s u (quiet q) e = absurd (true≢false (sym (ap is_message e) ∙ q))
plain_brings c s u (speaks b) e = message_brings b s u e

pub brings : (c : Call) (s : State) (u : ℕ) → Fine s → Step.answer s c ≡ Call.Says (Call.Credit u) → Brought s.runner (Step.next s c).runner u
brings c s u f e =
    subst⁻¹ (λ (t : State). Brought s.runner t.runner u) (next_same s c f) (plain_brings c s u (kind c s) (sym (answer_same s c f) ∙ e))

-- ---- the first or the second

-- a message that says nothing of credit, nor is the last
abbrev IsBrief : Choice → Bool
IsBrief Choice.None = false
IsBrief Choice.Credit = false
IsBrief Choice.Started = true
IsBrief Choice.InputClosed = true
IsBrief (Choice.End x) = true
IsBrief (Choice.Output x n) = true
IsBrief Choice.Terminal = false

-- credit waits, and there is a peer to be told
pub record Waits (r : Runner) : Type 0 where
  pub can : can_grant r.input ≡ true
  pub goes_on : r.flags.finished ≡ false
  pub attached : r.flags.detached ≡ false

-- then Credit is chosen, or what is said before it
credit_or : (r : Runner) (n : ℕ) → Waits r → (choose r n ≡ Choice.Credit) ⊎ (IsBrief (choose r n) ≡ true)
unfolding choose order
credit_or r n w =
    let P : Choice → Type 0 = λ c. (c ≡ Choice.Credit) ⊎ (IsBrief c ≡ true) in
    pick_if P _ _ _ (λ f. absurd (true≢false (sym f ∙ w.goes_on))) (λ _.
    pick_if P _ _ _ (λ d. absurd (true≢false (sym d ∙ w.attached))) (λ _.
    pick_if P _ _ _ (λ _. inl refl) (λ _.
    pick_if P _ _ _ (λ _. inr refl) (λ _.
    pick_if P _ _ _ (λ _. inr refl) (λ _.
    pick_if P _ _ _ (λ _. inr refl) (λ _.
    pick_if P _ _ _ (λ _. inr refl) (λ _.
    pick_if P _ _ _ (λ _. inr refl) (λ _.
    pick_if P _ _ _ (λ _. inr refl) (λ _.
    pick_if P _ _ _ (λ _. inr refl) (λ _.
    pick_if P _ _ _ (λ _. inr refl) (λ _.
    pick_if P _ _ _ (λ _. inl refl) (λ c. absurd (true≢false (sym w.can ∙ c))))))))))))))

-- which leaves it waiting, and next
brief_leaves : (c : Choice) (r : Runner) → IsBrief c ≡ true → Waits r
    → Waits (effect c r) × ((effect c r).flags.credited ≡ false) × ((effect c r).input.window.returnable ≡ r.input.window.returnable)
unfolding effect output_sent output_paid
brief_leaves Choice.Started r b w = (record { can = w.can; goes_on = w.goes_on; attached = w.attached }, refl, refl)
brief_leaves Choice.InputClosed r b w = (record { can = w.can; goes_on = w.goes_on; attached = w.attached }, refl, refl)
brief_leaves (Choice.End x) r b w = (record { can = w.can; goes_on = w.goes_on; attached = w.attached }, refl, refl)
brief_leaves (Choice.Output x n) r b w = (record { can = w.can; goes_on = w.goes_on; attached = w.attached }, refl, refl)
brief_leaves _ r b w = absurd (true≢false (sym b))

credit_next : (r : Runner) (n : ℕ) → Waits r → r.flags.credited ≡ false → choose r n ≡ Choice.Credit
unfolding choose order if_else
credit_next r n w c = rw (w.goes_on, w.attached, w.can, c) refl

says_credit : (buffer : List ℕ) (s : State) (u : ℕ) → choose s.runner (length buffer) ≡ Choice.Credit → s.runner.input.window.returnable ≡ u
    → answer s (Call.next_message buffer) ≡ Call.Says (Call.Credit u)
unfolding answer said
says_credit buffer s u e h = rw e (ap (λ (n : ℕ). Call.Says (Call.Credit n)) h)

-- what it answers then, twice asked
soon_by : (b c : List ℕ) (s : State) → Waits s.runner
    → (choose s.runner (length b) ≡ Choice.Credit) ⊎ (IsBrief (choose s.runner (length b)) ≡ true)
    → (answer s (Call.next_message b) ≡ Call.Says (Call.Credit s.runner.input.window.returnable))
    ⊎ (answer (next s (Call.next_message b)) (Call.next_message c) ≡ Call.Says (Call.Credit s.runner.input.window.returnable))
unfolding next
soon_by b c s w (inl e) = inl (says_credit b s _ e refl)
soon_by b c s w (inr e) =
    let p = brief_leaves (choose s.runner (length b)) s.runner e w in
    inr (says_credit c (next s (Call.next_message b)) _ (credit_next _ (length c) p.0 p.1) p.2)

pub soon : (b c : List ℕ) (s : State) → Fine s → Waits s.runner
    → (Step.answer s (Call.next_message b) ≡ Call.Says (Call.Credit s.runner.input.window.returnable))
    ⊎ (Step.answer (Step.next s (Call.next_message b)) (Call.next_message c) ≡ Call.Says (Call.Credit s.runner.input.window.returnable))
soon b c s f w =
    rw (next_same s (Call.next_message b) f, answer_same s (Call.next_message b) f, answer_same (next s (Call.next_message b)) (Call.next_message c) (fine_next (Call.next_message b) s f))
    (soon_by b c s w (credit_or s.runner (length b) w))
