-- While the input is open no unit is lost: a message is answered Late, and an inbox cleared, only where the input is closed.
use Rattle.std.specs.Prelude.{Bool, true, false, cond, not, ◌&&◌, ◌||◌, ◌≡◌, refl, List, [], ◌∷◌, ℕ, length, Result, Ok, Err}
use Rattle.std.proofs.lemmas.Bool.{true≢false, false_from_ne_true}
use Rattle.std.proofs.Common.{sym, ap, ◌∙◌, arith}
use Rattle.std.proofs.Math.Bool.{and-false}
use mathlib.Core.Path.{subst⁻¹}
use Rattle.exec.specs.declared.Admission.{Admission}
use Rattle.exec.specs.declared.Key.{Key}
use Rattle.exec.specs.declared.Admission.TheVariants.{Own, Stale}
use Rattle.exec.specs.declared.Receipt.TheVariants.{Applied}
use Rattle.exec.specs.declared.Refusal.{Refusal}
use Rattle.exec.specs.declared.Limits.{Limits}
use Rattle.exec.specs.Key.{admits}
use Rattle.exec.specs.Limits.{off_chunk}
use Rattle.input.specs.declared.Input.{Input}
use Rattle.input.specs.Input.{off_window, receive_answer}
use Rattle.runner.specs.declared.runner.Runner.{Runner}
use Rattle.runner.specs.Streams.{input_answer}
use Rattle.calls.specs.Call.{Call, Answer}
use Rattle.account.specs.Claim.{is_terminal}
use Rattle.account.specs.Step as Step
use Rattle.account.specs.Step.{State, received_as}
use Rattle.account.specs.Units.{is_late, late_cost, lost_by, lost}
use Rattle.account.proofs.Demand.{Fine, fine_next, next_same, answer_same}
use Rattle.account.proofs.InputFifo.{stays_closed}
use Rattle.account.proofs.Plain.{next, answer}
use Rattle.account.proofs.Units.{over_next}

-- ---- a call

-- an input that is open answers no message by Late
open_answers : (l : Limits) (i : Input) (n : ℕ) → i.closed ≡ false → is_late (received_as (receive_answer l i n)) ≡ false
unfolding receive_answer
open_answers l i n e = rw e (by i.peer_ended (off_chunk l n) (off_window l i n))
  where
    by : (over off unpaid : Bool) → is_late (received_as (cond over (Err Refusal.Ended) (cond off (Err Refusal.Chunk) (cond unpaid (Err Refusal.Window) (Ok Applied))))) ≡ false
    by true off unpaid = refl
    by false true unpaid = refl
    by false false true = refl
    by false false false = refl

none_late : (a : Result Admission Refusal) (r : Runner) (n : ℕ) (over : Bool) → r.flags.finished ≡ over → r.input.closed ≡ false
    → late_cost over r.limits n (received_as (input_answer a r n)) ≡ 0
unfolding input_answer
none_late (Ok Own) r n true f e = rw f refl
none_late (Ok Own) r n false f e = rw (f, open_answers r.limits r.input n e) refl
none_late (Ok Stale) r n over f e = refl
none_late (Err x) r n over f e = refl

-- an inbox is cleared only where the input was closed
none_cleared : (was is : Bool) (n : ℕ) → is ≡ false → cond (not was && is) n 0 ≡ 0
none_cleared was is n e = rw (e, and-false (not was)) refl

input_lost : (k : Key) (b : List ℕ) (s : State) (over : Bool) → s.runner.flags.finished ≡ over → s.runner.input.closed ≡ false
    → late_cost over s.runner.limits (length b) (answer s (Call.input k b)) ≡ 0
unfolding answer
input_lost k b s over f e = none_late (admits s.runner.key k) s.runner (length b) over f e

-- an input that is open after a call was open before it
open_before : (c : Call) (s : State) → Fine s → (Step.next s c).runner.input.closed ≡ false → s.runner.input.closed ≡ false
open_before c s h e =
    false_from_ne_true s.runner.input.closed (λ t. true≢false (sym (ap (λ (x : State). x.runner.input.closed) (next_same s c h) ∙ stays_closed c s h t) ∙ e))

-- nor does a call that leaves it open clear its inbox
none_lost : (c : Call) (s : State) (over : Bool) → s.runner.flags.finished ≡ over → Fine s → (Step.next s c).runner.input.closed ≡ false → lost_by over s c ≡ 0
unfolding lost_by
none_lost (Call.input k b) s over f h e = rw (answer_same s (Call.input k b) h) (input_lost k b s over f (open_before (Call.input k b) s h e))
none_lost (Call.cancel now k c) s over f h e = none_cleared s.runner.input.closed _ _ e
none_lost (Call.launched x) s over f h e = none_cleared s.runner.input.closed _ _ e
none_lost Call.input_closed s over f h e = none_cleared s.runner.input.closed _ _ e
none_lost (Call.exited now x) s over f h e = none_cleared s.runner.input.closed _ _ e
none_lost (Call.dropped now) s over f h e = none_cleared s.runner.input.closed _ _ e
none_lost (Call.reset now) s over f h e = none_cleared s.runner.input.closed _ _ e
none_lost (Call.disconnect now) s over f h e = none_cleared s.runner.input.closed _ _ e
none_lost (Call.tick now) s over f h e = none_cleared s.runner.input.closed _ _ e
none_lost _ s over f h e = refl

-- ---- a list

step_fine : (c : Call) (s : State) → Fine s → Fine (Step.next s c)
step_fine c s h = subst⁻¹ Fine (next_same s c h) (fine_next c s h)

open_first : (cs : List Call) (s : State) → Fine s → (Step.after s cs).runner.input.closed ≡ false → s.runner.input.closed ≡ false
open_first [] s h e = e
open_first (c ∷ cs) s h e = open_before c s h (open_first cs (Step.next s c) (step_fine c s h) e)

pub unlost : (cs : List Call) (s : State) (over : Bool) → s.runner.flags.finished ≡ over → Fine s → (Step.after s cs).runner.input.closed ≡ false → lost over s cs ≡ 0
unlost [] s over f h e = refl
unlost (c ∷ cs) s over f h e =
    let t : State = Step.next s c in
    let same : t ≡ next s c = next_same s c h in
    let fine : Fine t = step_fine c s h in
    let next_over : t.runner.flags.finished ≡ (over || is_terminal (Step.answer s c)) =
    ap (λ (x : State). x.runner.flags.finished) same ∙ over_next c s over f ∙ ap (λ (a : Answer). over || is_terminal a) (sym (answer_same s c h)) in
    omega (arith, none_lost c s over f h (open_first cs t fine e), unlost cs t (over || is_terminal (Step.answer s c)) next_over fine e)
