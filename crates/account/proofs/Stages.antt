-- The stages of a tick with their tests as arguments, so that lemmas go by clauses on the test.
use Rattle.std.specs.Prelude.{Option, Result, None}
use Rattle.exec.specs.declared.Admission.{Admission}
use Rattle.exec.specs.declared.LaunchFailure.{LaunchFailure}
use Rattle.exec.specs.declared.Status.{Status}
use Rattle.exec.specs.declared.Refusal.{Refusal}
use mathlib.Core.Bool.{Bool, cond, ◌||◌}
use mathlib.Core.Path.{◌≡◌, refl}
use Prim.Native.Nat.{ℕ}
use Rattle.exec.specs.declared.Cause.{Cause}
use Rattle.lifecycle.specs.declared.life.Settling.{Settling}
use Rattle.runner.specs.declared.runner.Runner.{Runner}
use Rattle.exec.specs.Time.{due}
use Rattle.lifecycle.specs.Life.{is_fenced, is_settled, expired}
use Rattle.lifecycle.specs.Setters.{set_timeout_at, set_give_up_at, set_settling}
use Rattle.runner.specs.State.{with_clocks, with_life}
use Rattle.runner.specs.Life as Life
use Rattle.runner.specs.Life.{is_cleaned_up, end_grace, give_up, abandon_launch, abandon_open_streams, begin_termination, pass_grace, terminate, pass_timeout, pass_settlement, give_up_unless_clean, pass_give_up, drop_launch, drop_streams, pass_abandonment, fire, ticked, note_launch, note_exit, silenced, give_up_soon}

abbrev pub grace_if : Bool → Runner → Runner
grace_if b r = cond b (end_grace r) r

abbrev pub terminate_if : Bool → ℕ → Cause → Runner → Runner
terminate_if b now c r = cond b r (pass_grace (begin_termination r now c) now)

abbrev pub timeout_if : Bool → ℕ → Runner → Runner
timeout_if b now r = cond b (terminate (with_clocks (set_timeout_at None r.clocks) r) now Cause.TimedOut) r

abbrev pub give_up_if : Bool → Bool → Runner → Runner
give_up_if b clean r = cond b (cond clean (with_clocks (set_give_up_at None r.clocks) r) (give_up r)) r

abbrev pub drop_launch_if : Bool → Runner → Runner
drop_launch_if b r = cond b (abandon_launch r) r

abbrev pub abandon_streams_if : Bool → Runner → Runner
abandon_streams_if b r = cond b (abandon_open_streams r) r

abbrev pub abandon_if : Bool → Runner → Runner
abandon_if b r = cond b (abandon_streams_if (is_fenced (drop_launch r).life.settling) (drop_launch r)) r

abbrev pub stage1 : ℕ → Runner → Runner
stage1 now r = timeout_if (due r.clocks.timeout_at now) now r

abbrev pub stage2 : ℕ → Runner → Runner
stage2 now r = grace_if (due r.clocks.grace_until now) r

abbrev pub stage3 : ℕ → Runner → Runner
stage3 now r = with_life (set_settling (expired r.life.settling now) r.life) r

abbrev pub stage4 : ℕ → Runner → Runner
stage4 now r = give_up_if (due r.clocks.give_up_at now) (is_cleaned_up r) r

abbrev pub stage5 : ℕ → Runner → Runner
stage5 now r = abandon_if (due r.clocks.abandon_at now) r

abbrev pub tick_if : Bool → ℕ → Runner → Runner
tick_if b now r = cond b r (stage5 now (stage4 now (stage3 now (stage2 now (stage1 now r)))))

pub tick_is : (r : Runner) (now : ℕ) → ticked r now ≡ tick_if r.flags.finished now r
unfolding ticked fire pass_timeout pass_grace pass_settlement pass_give_up give_up_unless_clean pass_abandonment drop_streams
tick_is r now = refl

-- a cancellation: late once finished or begun
abbrev pub cancel_if : Bool → ℕ → Cause → Runner → Runner
cancel_if b now c r = cond b r (terminate r now c)

abbrev pub late : Runner → Bool
late r = r.flags.finished || r.clocks.terminated

abbrev pub detached_now : ℕ → Runner → Runner
detached_now now r = give_up_soon (end_grace (silenced r)) now

abbrev pub detach_if : Bool → Bool → ℕ → Cause → Runner → Runner
detach_if f d now c r = cond (f || d) r (detached_now now (terminate r now c))

abbrev pub exited_if : Bool → Bool → ℕ → Option Status → Runner → Runner
exited_if e g now x r = cond (e || g) r (note_exit r now x)

abbrev pub launched_if : Bool → Result (Unit {0}) LaunchFailure → Runner → Runner
launched_if b x r = cond b (note_launch r x) r

abbrev pub cancel_next : Result Admission Refusal → ℕ → Cause → Runner → Runner
cancel_next k now c r = Life.cancel_next k r now c

abbrev pub over : Settling → Bool
over x = is_settled x || is_fenced x
