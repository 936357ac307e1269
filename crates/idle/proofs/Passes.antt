-- The timers, pass by pass, and what ticks: each sees no more of a runner than is shown.
use Rattle.std.specs.Prelude.{Option, Result, None, Ok}
use Rattle.exec.specs.declared.Admission.TheVariants.{Own}
use Rattle.exec.specs.declared.Admission.{Admission}
use Rattle.exec.specs.declared.Status.{Status}
use Rattle.exec.specs.declared.Refusal.{Refusal}
use mathlib.Core.Bool.{Bool, true, false, cond, not, ◌&&◌, ◌||◌, true≢false}
use mathlib.Core.Path.{◌≡◌, refl, sym, ◌∙◌, ap}
use mathlib.Core.List.{List}
use Prim.Native.Nat.{ℕ}
use Rattle.exec.specs.declared.Cause.{Cause}
use Rattle.exec.specs.declared.Cause.TheVariants.{TimedOut}
use Rattle.exec.specs.Time.{after, earliest, due}
use Rattle.lifecycle.specs.Life.{launch_known, exit_known, is_fenced, expired}
use Rattle.lifecycle.specs.Setters.{set_give_up_at, set_abandon_at}
use Rattle.output.specs.declared.Output.{Output}
use Rattle.output.specs.Output.{grace_ended, given_up, abandoned}
use Rattle.exec.specs.declared.Stream.TheVariants.{Notes}
use Rattle.exec.specs.Limits.{has_notes}
use Rattle.runner.specs.declared.runner.Runner.{Runner}
use Rattle.runner.specs.Life.{awaits_launch, is_cleaned_up, close_runner_input, end_grace, give_up, abandon_launch, abandon_open_streams, begin_termination, pass_grace, terminate, pass_timeout, pass_settlement, give_up_unless_clean, pass_give_up, drop_launch, drop_streams, pass_abandonment, fire, ticked, is_late, cancel_answer, cancel_next, note_exit, is_over, note_exit_once, timeout_cleared, exited_next, silenced, give_up_soon, cut_off, cut_off_once, detach_next}
use Rattle.runner.specs.State.{with, with_clocks, out_of}
use Rattle.std.proofs.lemmas.Bool.{or_left}
use Rattle.account.proofs.Sides.{out_each, each_kept}
use Rattle.idle.proofs.Calm.{Sees, is_moot, swap, unless, give_up_shown, abandon_shown, calm, kept, anew, plain, still, on, branch, clean_settled, clean_exit, clean_awaits, moot_awaits, moot_fenced, moot_held, unsettled, settle_sees}

-- ---- timeout, grace and settlement

pub grace_sees : Sees end_grace
unfolding end_grace
grace_sees r =
    let third = out_each (has_notes r.limits) r.outputs grace_ended refl Notes in
    plain r (end_grace r) refl refl (λ e. rw third e) (λ e. rw third e)

pass_grace_lem : (now : ℕ) → Sees (λ (x : Runner). pass_grace x now)
unfolding pass_grace
pass_grace_lem now r = branch (due r.clocks.grace_until now) (end_grace (calm r)) (calm r) (end_grace r) r (grace_sees r) (still r)

begin_sees : (now : ℕ) (c : Cause) → Sees (λ (x : Runner). begin_termination x now c)
unfolding begin_termination
begin_sees now c r = anew r (begin_termination r now c) refl (λ e. e)

pub terminate_sees : (now : ℕ) (c : Cause) → Sees (λ (x : Runner). terminate x now c)
unfolding terminate
terminate_sees now c r =
    branch r.clocks.terminated (calm r) (pass_grace (begin_termination (calm r) now c) now) r (pass_grace (begin_termination r now c) now) (still r)
    (on (λ x. pass_grace x now) (pass_grace_lem now) (begin_termination (calm r) now c) (begin_termination r now c) (begin_sees now c r))

cleared_sees : Sees timeout_cleared
cleared_sees r = plain r (timeout_cleared r) refl refl (λ e. e) (λ e. e)

pass_timeout_lem : (now : ℕ) → Sees (λ (x : Runner). pass_timeout x now)
unfolding pass_timeout
pass_timeout_lem now r =
    branch (due r.clocks.timeout_at now) (terminate (timeout_cleared (calm r)) now TimedOut) (calm r) (terminate (timeout_cleared r) now TimedOut) r
    (on (λ x. terminate x now TimedOut) (terminate_sees now TimedOut) (timeout_cleared (calm r)) (timeout_cleared r) (cleared_sees r)) (still r)

pass_settlement_lem : (now : ℕ) → Sees (λ (x : Runner). pass_settlement x now)
unfolding pass_settlement
pass_settlement_lem now r =
    settle_sees (λ s. expired s now) r refl refl

-- ---- give-up

-- where all is cleaned up its time is not shown, and nothing else is changed
pub given_clean : (b : Bool) (r : Runner) → is_cleaned_up r ≡ true → calm (cond b (with_clocks (set_give_up_at None r.clocks) r) r) ≡ calm r
given_clean true r e = rw e refl
given_clean false r e = refl

-- and there is nothing to abandon after it
give_up_sees : Sees give_up
unfolding give_up
give_up_sees r = anew r (give_up r) refl (λ e. rw (out_each (has_notes r.limits) r.outputs given_up refl Notes) (moot (not (launch_known r.life.launch))))
  where
    moot : (l : Bool) → ((not ((l && false) && not r.flags.launch_abandoned) && true) && true) ≡ true
    moot true = refl
    moot false = refl

pass_give_up_lem : (now : ℕ) → Sees (λ (x : Runner). pass_give_up x now)
unfolding pass_give_up give_up_unless_clean
pass_give_up_lem now r = by (is_cleaned_up r) refl
  where
    by : (c : Bool) → is_cleaned_up r ≡ c
        → calm (cond (due (unless c r.clocks.give_up_at) now) (cond c (with_clocks (set_give_up_at None (calm r).clocks) (calm r)) (give_up (calm r))) (calm r))
        ≡ calm (cond (due r.clocks.give_up_at now) (cond c (with_clocks (set_give_up_at None r.clocks) r) (give_up r)) r)
    by true e = still r ∙ sym (given_clean (due r.clocks.give_up_at now) r e)
    by false e = branch (due r.clocks.give_up_at now) (give_up (calm r)) (calm r) (give_up r) r (give_up_sees r) (still r)

-- ---- abandonment

-- a launch is awaited: nothing is cleaned up, nor is abandonment without work
drop_launch_lem : Sees drop_launch
unfolding drop_launch abandon_launch
drop_launch_lem r = by (awaits_launch r) refl
  where
    by : (b : Bool) → awaits_launch r ≡ b → calm (cond b (abandon_launch (calm r)) (calm r)) ≡ calm (cond b (abandon_launch r) r)
    by true e =
        plain r (abandon_launch r) refl refl (λ c. absurd (true≢false (sym e ∙ clean_awaits r c))) (λ m. absurd (true≢false (sym e ∙ moot_awaits r m)))
    by false e = still r

-- settling is fenced: not all is cleaned up
drop_streams_lem : Sees drop_streams
unfolding drop_streams abandon_open_streams
drop_streams_lem r = by (is_fenced r.life.settling) refl
  where
    by : (b : Bool) → is_fenced r.life.settling ≡ b → calm (cond b (abandon_open_streams (calm r)) (calm r)) ≡ calm (cond b (abandon_open_streams r) r)
    by true e =
        let t : Runner = abandon_open_streams r in
        ap (λ (g : (Option ℕ)). swap g (abandon_shown t) t)
        (kept (is_cleaned_up r) (is_cleaned_up t) r.clocks.give_up_at (λ c. absurd (unsettled r.life.settling e (clean_settled r c))))
    by false e = still r

-- a stream that is not held stays as it is
unheld : (o : Output) (c h : Bool) → o.closed ≡ c → o.hung_up ≡ h → (not c && not h) ≡ false → abandoned o ≡ o
unheld o true h e f n = rw e refl
unheld o false true e f n = rw (e, f) refl
unheld o false false e f n = absurd (true≢false n)

-- there is nothing to abandon: its time is not shown, and nothing else is changed
moot_streams : (r : Runner) → is_moot r ≡ true → calm (abandon_open_streams r) ≡ calm r
unfolding abandon_open_streams
moot_streams r m =
    ap (λ (os : List Output). calm (with (set_abandon_at None r.clocks) r.life r.flags r.input os r))
    (each_kept (has_notes r.limits) r.outputs abandoned (λ x. unheld (out_of x r) (out_of x r).closed (out_of x r).hung_up refl refl (moot_held r m x)))
    ∙ ap (λ (d : (Option ℕ)). swap (give_up_shown r) d r) (hidden (is_moot r) m)
  where
    hidden : (b : Bool) → b ≡ true → unless b None ≡ unless b r.clocks.abandon_at
    hidden true e = refl
    hidden false e = absurd (true≢false (sym e))

pub moot_drops : (b : Bool) (r : Runner) → is_moot r ≡ true → calm (cond b (drop_streams (drop_launch r)) r) ≡ calm r
unfolding drop_streams drop_launch
moot_drops false r m = refl
moot_drops true r m =
    let l : drop_launch r ≡ r = rw (moot_awaits r m) in
    let s : drop_streams r ≡ abandon_open_streams r = rw (moot_fenced r m) in
    ap (λ (x : Runner). calm (drop_streams x)) l ∙ ap calm s ∙ moot_streams r m

pass_abandonment_lem : (now : ℕ) → Sees (λ (x : Runner). pass_abandonment x now)
unfolding pass_abandonment
pass_abandonment_lem now r = by (is_moot r) refl
  where
    by : (m : Bool) → is_moot r ≡ m
        → calm (cond (due (unless m r.clocks.abandon_at) now) (drop_streams (drop_launch (calm r))) (calm r)) ≡ calm (cond (due r.clocks.abandon_at now) (drop_streams (drop_launch r)) r)
    by true e = still r ∙ sym (moot_drops (due r.clocks.abandon_at now) r e)
    by false e =
        branch (due r.clocks.abandon_at now) (drop_streams (drop_launch (calm r))) (calm r) (drop_streams (drop_launch r)) r
        (on drop_streams drop_streams_lem (drop_launch (calm r)) (drop_launch r) (drop_launch_lem r)) (still r)

pub abandonment_sees : (now : ℕ) (x y : Runner) → calm x ≡ calm y → calm (pass_abandonment x now) ≡ calm (pass_abandonment y now)
abandonment_sees now = on (λ x. pass_abandonment x now) (pass_abandonment_lem now)

-- ---- a tick

fire_sees : (now : ℕ) → Sees (λ (x : Runner). fire x now)
unfolding fire
fire_sees now r =
    abandonment_sees now _ _ (on (λ x. pass_give_up x now) (pass_give_up_lem now) _ _
    (on (λ x. pass_settlement x now) (pass_settlement_lem now) _ _
    (on (λ x. pass_grace x now) (pass_grace_lem now) (pass_timeout (calm r) now) (pass_timeout r now) (pass_timeout_lem now r))))

pub tick_sees : (now : ℕ) → Sees (λ (x : Runner). ticked x now)
unfolding ticked
tick_sees now r = branch r.flags.finished (calm r) (fire (calm r) now) r (fire r now) (still r) (fire_sees now r)

-- ---- the other calls that tick

pub cancel_sees : (a : (Result Admission Refusal)) (now : ℕ) (c : Cause) → Sees (λ (x : Runner). cancel_next a x now c)
unfolding cancel_next
cancel_sees (Ok Own) now c r =
    let t : Runner = ticked r now in let u : Runner = ticked (calm r) now in
    rw (ap is_late (tick_sees now r))
    (branch (is_late t) u (terminate u now c) t (terminate t now c) (tick_sees now r) (on (λ x. terminate x now c) (terminate_sees now c) u t (tick_sees now r)))
cancel_sees _ now c r = still r

pub cancel_shows : (a : Result Admission Refusal) (now : ℕ) (r : Runner) → cancel_answer a (calm r) now ≡ cancel_answer a r now
unfolding cancel_answer
cancel_shows (Ok Own) now r = rw (ap is_late (tick_sees now r)) refl
cancel_shows _ now r = refl

-- an exit that counts finds nothing cleaned up, and sets the time of abandonment anew
exit_sees : (now : ℕ) (x : (Option Status)) → Sees (λ (z : Runner). note_exit_once z now x)
unfolding note_exit_once note_exit close_runner_input
exit_sees now x r = by (is_over r) refl
  where
    by : (b : Bool) → is_over r ≡ b → calm (cond b (calm r) (note_exit (calm r) now x)) ≡ calm (cond b r (note_exit r now x))
    by true e = still r
    by false e =
        let t : Runner = note_exit r now x in
        ap (λ (g : (Option ℕ)). swap g (abandon_shown t) t)
        (kept (is_cleaned_up r) (is_cleaned_up t) r.clocks.give_up_at (λ c. absurd (true≢false (sym (or_left (exit_known r.life.exit) _ (clean_exit r c)) ∙ e))))

pub exited_sees : (now : ℕ) (x : (Option Status)) → Sees (λ (z : Runner). exited_next z now x)
unfolding exited_next
exited_sees now x r =
    on (λ y. note_exit_once y now x) (exit_sees now x) _ _ (on (λ y. ticked y now) (tick_sees now) (timeout_cleared (calm r)) (timeout_cleared r) (cleared_sees r))

silenced_sees : Sees silenced
unfolding silenced
silenced_sees r = plain r (silenced r) refl refl (λ e. e) (λ e. e)

-- the earlier of a time that is not shown and another is not shown either
soon_sees : (now : ℕ) → Sees (λ (x : Runner). give_up_soon x now)
unfolding give_up_soon
soon_sees now r =
    ap (λ (g : (Option ℕ)). swap g (unless (is_moot r) (abandon_shown r)) r) (sooner (is_cleaned_up r) r.clocks.give_up_at (after now r.timers.settlement))
    ∙ anew r (give_up_soon r now) refl (λ e. e)
  where
    sooner : (c : Bool) (g x : Option ℕ) → unless c (earliest (unless c g) x) ≡ unless c (earliest g x)
    sooner true g x = refl
    sooner false g x = refl

pub detach_sees : (now : ℕ) (c : Cause) → Sees (λ (x : Runner). detach_next x now c)
unfolding detach_next cut_off_once cut_off
detach_sees now c r =
    let t : Runner = ticked r now in let u : Runner = ticked (calm r) now in
    rw (ap (λ (x : Runner). x.flags.finished || x.flags.detached) (tick_sees now r))
    (branch (t.flags.finished || t.flags.detached) u (give_up_soon (end_grace (silenced (terminate u now c))) now) t (give_up_soon (end_grace (silenced (terminate t now c))) now)
    (tick_sees now r)
    (on (λ x. give_up_soon x now) (soon_sees now) _ _ (on end_grace grace_sees _ _
    (on silenced silenced_sees _ _ (on (λ x. terminate x now c) (terminate_sees now c) u t (tick_sees now r))))))
