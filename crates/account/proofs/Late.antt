-- The bound of demand 3 after every call that ticks: what the late tick leaves, the rest of the call keeps.
use Rattle.exec.specs.Limits.{streams}
use Rattle.std.specs.Prelude.{Option, Result, Some, None, Ok}
use Rattle.std.proofs.lemmas.Option.{none-some, same_Some}
use Rattle.exec.specs.declared.Admission.TheVariants.{Own}
use Rattle.exec.specs.declared.Admission.{Admission}
use Rattle.exec.specs.declared.Status.{Status}
use Rattle.exec.specs.declared.Refusal.{Refusal}
use mathlib.Core.Bool.{Bool, true, false, ◌||◌, or-true}
use mathlib.Core.Path.{◌≡◌, refl, ap, ◌∙◌, subst⁻¹}
use mathlib.Core.List.{List, ◌∷◌, ◌++◌, []}
use Prim.Native.Nat.{ℕ, ◌+◌, ◌^◌, ◌≤◌, ◌<◌}
use native.Mathlib.Omega.{arith}
use Rattle.exec.specs.declared.Cause.{Cause}
use Rattle.exec.specs.declared.Key.{Key}
use Rattle.exec.specs.Key.{admits}
use Rattle.lifecycle.specs.Life.{exit_known}
use Rattle.lifecycle.specs.Setters.{set_timeout_at}
use Rattle.runner.specs.declared.runner.Runner.{Runner}
use Rattle.runner.specs.Life as Life
use Rattle.runner.specs.Life.{ticked, exited_next, note_exit_once, detach_next, cut_off_once, cut_off}
use Rattle.runner.specs.Range.{fresh}
use Rattle.runner.specs.State.{with_clocks}
use Rattle.calls.specs.Call as Call
use Rattle.calls.specs.Call.{Conf, Call}
use Rattle.account.specs.Step.{State}
use Rattle.account.specs.Claim.{is_terminal, any_terminal, messages}
use Rattle.account.specs.LateClaim.{own_tick, tick_of}
use Rattle.account.proofs.Plain.{next, answer, begun, after_all, run}
use Rattle.account.proofs.Stages.{late, cancel_next}
use Rattle.account.proofs.Lives.{conf_of}
use Rattle.account.proofs.Finish.{ends_by, run_append, finished_came, conf_list}
use Rattle.account.proofs.Timing.{low_cancel_if, low_detach_if, low_exited_if}
use Rattle.account.proofs.Five.{Gone, gone_lower, Before, After, late_ticked, cancelled, count, bits, before_list}

-- ---- the calls that tick

at_now : (sum n now : ℕ) → sum ≤ n → Some now ≡ Some n → sum ≤ now
at_now sum n now l e = subst⁻¹ (λ (m : ℕ). sum ≤ m) (same_Some now n e) l

-- an exit comes too late: it is known by then
after_exited : (sum now : ℕ) (x : Option Status) (s : Runner) → s.flags.finished ≡ false → sum ≤ now → Before sum s → After (exited_next s now x)
unfolding exited_next note_exit_once
after_exited sum now x s f l h =
    let s' : Runner = with_clocks (set_timeout_at None s.clocks) s in let t : Runner = ticked s' now in
    (low_exited_if Gone gone_lower (exit_known t.life.exit) t.flags.gave_up now x t refl (late_ticked sum now s' f l h)).hold

-- a detachment drops what is dropped already
after_detach : (sum now : ℕ) (c : Cause) (s : Runner) → s.flags.finished ≡ false → sum ≤ now → Before sum s → After (detach_next s now c)
unfolding detach_next cut_off_once cut_off
after_detach sum now c s f l h =
    let t : Runner = ticked s now in
    (low_detach_if Gone gone_lower t.flags.finished t.flags.detached now c t (late_ticked sum now s f l h)).hold

-- a cancel is late
after_cancel : (sum n now : ℕ) (k : Result Admission Refusal) (c : Cause) (s : Runner) → s.flags.finished ≡ false → sum ≤ n → Before sum s → own_tick k now ≡ Some n → After (cancel_next k now c s)
unfolding Life.cancel_next
after_cancel sum n now (Ok Own) c s f l h e =
    let t : Runner = ticked s now in
    (low_cancel_if Gone gone_lower (late t) now c t (late_ticked sum now s f (at_now sum n now l e) h)).hold
after_cancel sum n now _ c s f l h e = absurd (none-some n e)

after_call : (sum n : ℕ) (call : Call) (s : State) → s.runner.flags.finished ≡ false → sum ≤ n → Before sum s.runner → tick_of (conf_of s.runner) call ≡ Some n → After (next s call).runner
unfolding next
after_call sum n (Call.cancel now k c) s f l h e = after_cancel sum n now (admits s.runner.key k) c s.runner f l h e
after_call sum n (Call.exited now x) s f l h e = after_exited sum now x s.runner f (at_now sum n now l e) h
after_call sum n (Call.dropped now) s f l h e = after_detach sum now Cause.Dropped s.runner f (at_now sum n now l e) h
after_call sum n (Call.reset now) s f l h e = after_detach sum now Cause.Reset s.runner f (at_now sum n now l e) h
after_call sum n (Call.disconnect now) s f l h e = after_detach sum now Cause.Disconnected s.runner f (at_now sum n now l e) h
after_call sum n (Call.tick now) s f l h e = late_ticked sum now s.runner f (at_now sum n now l e) h
after_call sum n _ s f l h e = absurd (none-some n e)

-- ---- the whole list

pub from_call : (sum n : ℕ) (call : Call) (es : List Call) (s : State) → s.runner.flags.finished ≡ false → sum ≤ n → Before sum s.runner → tick_of (conf_of s.runner) call ≡ Some n → 3 + streams s.runner.limits ≤ messages es
    → any_terminal (run s (call ∷ es)) ≡ true
from_call sum n call es s f l h e m = go (next s call).runner.flags.finished refl
  where
    go : (b : Bool) → (next s call).runner.flags.finished ≡ b → (is_terminal (answer s call) || any_terminal (run (next s call) es)) ≡ true
    go true g = rw (ends_by call s f g) refl
    go false g =
        let b = bits (next s call).runner in
        let c = ap (λ (x : Conf). streams x.limits) (conf_list (call ∷ []) s) in
        rw (count es (next s call) (after_call sum n call s f l h e) g (omega arith)) (or-true (is_terminal (answer s call)))

-- Terminal has come in the first calls, or comes in the rest from a runner not finished
pub either_part : (ds rest : List Call) (s : State) → s.runner.flags.finished ≡ false → ((after_all s ds).runner.flags.finished ≡ false → any_terminal (run (after_all s ds) rest) ≡ true) → any_terminal (run s (ds ++ rest)) ≡ true
either_part ds rest s f r = rw (run_append ds rest s) (go (after_all s ds).runner.flags.finished refl)
  where
    go : (b : Bool) → (after_all s ds).runner.flags.finished ≡ b → (any_terminal (run s ds) || any_terminal (run (after_all s ds) rest)) ≡ true
    go true e = rw (finished_came ds s f e) refl
    go false e = rw (r e) (or-true (any_terminal (run s ds)))

pub opened_conf : (conf : Conf) (now : ℕ) (bytes lengths : List ℕ) → conf_of (begun conf now bytes lengths).runner ≡ conf
unfolding fresh
opened_conf conf now bytes lengths = refl

pub any : (conf : Conf) (now : ℕ) (bytes lengths : List ℕ) (cs ds es : List Call) (t n : ℕ) (k : Key) (c : Cause) (call : Call) → answer (after_all (begun conf now bytes lengths) cs) (Call.cancel t k c) ≡ Call.Applied
    → t + conf.timers.grace + conf.timers.settlement < 2 ^ 64 → t + conf.timers.grace + conf.timers.settlement ≤ n → tick_of conf call ≡ Some n → 3 + streams conf.limits ≤ messages es
    → any_terminal (run (begun conf now bytes lengths) (cs ++ (Call.cancel t k c ∷ (ds ++ (call ∷ es))))) ≡ true
any conf now bytes lengths cs ds es t n k c call e l m i v =
    let s : State = after_all (begun conf now bytes lengths) cs in
    let u : State = next s (Call.cancel t k c) in
    let cf : conf_of s.runner ≡ conf = conf_list cs (begun conf now bytes lengths) ∙ opened_conf conf now bytes lengths in
    let cu : conf_of (after_all u ds).runner ≡ conf = conf_list (Call.cancel t k c ∷ ds) s ∙ cf in
    let tm : s.runner.timers ≡ conf.timers = ap (λ (x : Conf). x.timers) cf in
    let b = cancelled t k c s e (rw tm l) in
    let sum : ℕ = t + s.runner.timers.grace + s.runner.timers.settlement in
    let r : any_terminal (run u (ds ++ (call ∷ es))) ≡ true = either_part ds (call ∷ es) u b.1
    (λ f. from_call sum n call es (after_all u ds) f (rw tm m) (before_list sum ds u b.0) (subst⁻¹ (λ (x : Conf). tick_of x call ≡ Some n) cu i)
    (subst⁻¹ (λ (x : Conf). 3 + streams x.limits ≤ messages es) cu v)) in
    rw (run_append cs (Call.cancel t k c ∷ (ds ++ (call ∷ es))) (begun conf now bytes lengths))
    (rw r (rw (or-true (is_terminal (answer s (Call.cancel t k c)))) (or-true (any_terminal (run (begun conf now bytes lengths) cs)))))
