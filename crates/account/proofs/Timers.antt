-- A claim on a runner that six changes keep is kept by all that the timers do, and so by a launch and by every call that ticks. The six:
-- clocks, life and flags set (none of which finishes the runner), the input closed, its message told, and the three changes of every output.
use Rattle.exec.specs.Limits.{has_notes}
use Rattle.std.specs.Prelude.{Option, Result, None, Ok, Err}
use Rattle.exec.specs.declared.Admission.TheVariants.{Own}
use Rattle.exec.specs.declared.Admission.{Admission}
use Rattle.exec.specs.declared.Status.{Status}
use Rattle.exec.specs.declared.LaunchFailure.{LaunchFailure}
use Rattle.exec.specs.declared.Refusal.{Refusal}
use Rattle.exec.specs.declared.Cause.{Cause}
use mathlib.Core.Bool.{◌||◌}
use mathlib.Core.Path.{◌≡◌, refl}
use Prim.Native.Nat.{ℕ}
use Rattle.exec.specs.Time.{due}
use Rattle.lifecycle.specs.declared.clocks.Clocks.{Clocks}
use Rattle.lifecycle.specs.declared.life.Life.{Life}
use Rattle.lifecycle.specs.Life.{is_fenced}
use Rattle.lifecycle.specs.Setters.{set_timeout_at}
use Rattle.input.specs.Input.{message_told}
use Rattle.output.specs.Output.{grace_ended, given_up, abandoned}
use Rattle.output.specs.Outputs.{each_output}
use Rattle.lifecycle.specs.declared.flags.Flags.{Flags}
use Rattle.runner.specs.declared.runner.Runner.{Runner}
use Rattle.runner.specs.Life.{awaits_launch, is_cleaned_up, is_late, is_over, timeout_cleared, close_runner_input, end_grace, give_up, abandon_launch, abandon_open_streams, begin_termination, pass_grace, terminate, pass_timeout, pass_settlement, give_up_unless_clean, pass_give_up, drop_launch, drop_streams, pass_abandonment, fire, ticked, cancel_next, note_started, note_launch, launched_next, note_exit, note_exit_once, exited_next, silenced, give_up_soon, cut_off, cut_off_once, detach_next}
use Rattle.runner.specs.State.{with, with_input, with_outputs}
use Rattle.account.proofs.Flags.{either}

pub record Kept (P : Runner → Type 0) : Type 0 where
  pub moves : (r : Runner) (c : Clocks) (l : Life) (f : Flags) → f.finished ≡ r.flags.finished → P r → P (with c l f r.input r.outputs r)
  pub closes : (r : Runner) → P r → P (close_runner_input r)
  pub tells : (r : Runner) → P r → P (with_input (message_told r.input) r)
  pub grace : (r : Runner) → P r → P (with_outputs (each_output (has_notes r.limits) grace_ended r.outputs) r)
  pub gives : (r : Runner) → P r → P (with_outputs (each_output (has_notes r.limits) given_up r.outputs) r)
  pub abandons : (r : Runner) → P r → P (with_outputs (each_output (has_notes r.limits) abandoned r.outputs) r)

module _ (P : Runner → Type 0) (k : Kept P) where
  -- ---- the timers

  grace_keeps : (r : Runner) → P r → P (end_grace r)
  unfolding end_grace
  grace_keeps r p = k.moves (with_outputs (each_output (has_notes r.limits) grace_ended r.outputs) r) _ _ _ refl (k.grace r p)

  pass_grace_lem : (now : ℕ) (r : Runner) → P r → P (pass_grace r now)
  unfolding pass_grace
  pass_grace_lem now r p = either P (due r.clocks.grace_until now) (end_grace r) r (grace_keeps r p) p

  terminate_keeps : (now : ℕ) (c : Cause) (r : Runner) → P r → P (terminate r now c)
  unfolding terminate begin_termination close_runner_input
  terminate_keeps now c r p =
      either P r.clocks.terminated r _ p (pass_grace_lem now (begin_termination r now c) (k.moves (close_runner_input r) _ _ _ refl (k.closes r p)))

  cleared_keeps : (r : Runner) → P r → P (timeout_cleared r)
  cleared_keeps r p = k.moves r (set_timeout_at None r.clocks) r.life r.flags refl p

  timeout_keeps : (now : ℕ) (r : Runner) → P r → P (pass_timeout r now)
  unfolding pass_timeout
  timeout_keeps now r p = either P (due r.clocks.timeout_at now) _ r (terminate_keeps now Cause.TimedOut (timeout_cleared r) (cleared_keeps r p)) p

  settlement_keeps : (now : ℕ) (r : Runner) → P r → P (pass_settlement r now)
  unfolding pass_settlement
  settlement_keeps now r p = k.moves r _ _ _ refl p

  give_up_keeps : (now : ℕ) (r : Runner) → P r → P (pass_give_up r now)
  unfolding pass_give_up give_up_unless_clean give_up
  give_up_keeps now r p =
      either P (due r.clocks.give_up_at now) _ r
      (either P (is_cleaned_up r) _ (give_up r) (k.moves r _ _ _ refl p) (k.moves (with_outputs (each_output (has_notes r.limits) given_up r.outputs) r) _ _ _ refl (k.gives r p))) p

  launch_keeps : (r : Runner) → P r → P (drop_launch r)
  unfolding drop_launch abandon_launch
  launch_keeps r p = either P (awaits_launch r) (abandon_launch r) r (k.moves r _ _ _ refl p) p

  streams_keeps : (r : Runner) → P r → P (drop_streams r)
  unfolding drop_streams abandon_open_streams
  streams_keeps r p =
      either P (is_fenced r.life.settling) (abandon_open_streams r) r (k.moves (with_outputs (each_output (has_notes r.limits) abandoned r.outputs) r) _ _ _ refl (k.abandons r p)) p

  abandonment_keeps : (now : ℕ) (r : Runner) → P r → P (pass_abandonment r now)
  unfolding pass_abandonment
  abandonment_keeps now r p = either P (due r.clocks.abandon_at now) _ r (streams_keeps (drop_launch r) (launch_keeps r p)) p

  pub tick_keeps : (now : ℕ) (r : Runner) → P r → P (ticked r now)
  unfolding ticked fire
  tick_keeps now r p =
      let r1 : Runner = pass_timeout r now in let r2 : Runner = pass_grace r1 now in let r3 : Runner = pass_settlement r2 now in
      either P r.flags.finished r (fire r now) p
      (abandonment_keeps now (pass_give_up r3 now) (give_up_keeps now r3 (settlement_keeps now r2 (pass_grace_lem now r1 (timeout_keeps now r p)))))

  -- ---- the calls that tick, and a launch

  pub cancel_keeps : (a : Result Admission Refusal) (now : ℕ) (c : Cause) (r : Runner) → P r → P (cancel_next a r now c)
  unfolding cancel_next
  cancel_keeps (Ok Own) now c r p =
      let t : Runner = ticked r now in
      let q : P t = tick_keeps now r p in either P (is_late t) t (terminate t now c) q (terminate_keeps now c t q)
  cancel_keeps _ now c r p = p

  pub detach_keeps : (now : ℕ) (c : Cause) (r : Runner) → P r → P (detach_next r now c)
  unfolding detach_next cut_off_once cut_off give_up_soon silenced
  detach_keeps now c r p =
      let t : Runner = ticked r now in
      let q : P t = tick_keeps now r p in
      let u : Runner = terminate t now c in
      let told : P (silenced u) = k.moves (with_input (message_told u.input) u) _ _ _ refl (k.tells u (terminate_keeps now c t q)) in
      either P (t.flags.finished || t.flags.detached) t (cut_off t now c) q (k.moves (end_grace (silenced u)) _ _ _ refl (grace_keeps (silenced u) told))

  pub exited_keeps : (now : ℕ) (x : Option Status) (r : Runner) → P r → P (exited_next r now x)
  unfolding exited_next note_exit_once note_exit
  exited_keeps now x r p =
      let t : Runner = ticked (timeout_cleared r) now in
      let q : P t = tick_keeps now (timeout_cleared r) (cleared_keeps r p) in
      either P (is_over t) t (note_exit t now x) q (k.closes _ (k.moves t _ _ _ refl q))

  pub launched_keeps : (x : Result (Unit {0}) LaunchFailure) (r : Runner) → P r → P (launched_next r x)
  unfolding launched_next note_launch note_started
  launched_keeps (Ok tt) r p = either P (awaits_launch r) (note_started r) r (k.moves r _ _ _ refl p) p
  launched_keeps (Err f) r p = either P (awaits_launch r) _ r (k.closes _ (k.moves r _ _ _ refl p)) p
