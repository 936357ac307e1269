-- The runner in time: terminations, the timers and what they do, launch, exit and settlement. What each call does once it is
-- not refused.
use Rattle.std.specs.Prelude.{ℕ, Bool, true, false, cond, not, ◌&&◌, ◌||◌, Option, Result, None, Ok, Err}
use Rattle.exec.specs.declared.Receipt.{Receipt}
use Rattle.exec.specs.declared.Admission.TheVariants.{Own, Stale}
use Rattle.exec.specs.declared.Admission.{Admission}
use Rattle.exec.specs.declared.LaunchFailure.{LaunchFailure}
use Rattle.exec.specs.declared.Status.{Status}
use Rattle.exec.specs.declared.Refusal.{Refusal}
use Rattle.exec.specs.declared.Cause.{Cause}
use Rattle.exec.specs.declared.Cause.TheVariants.{TimedOut}
use Rattle.exec.specs.declared.Outcome.{Outcome}
use Rattle.exec.specs.declared.Receipt.TheVariants.{Applied, Stale, Late}
use Rattle.exec.specs.declared.Settlement.{Settlement}
use Rattle.exec.specs.declared.Stream.TheVariants.{Stdout, Stderr, Notes}
use Rattle.exec.specs.Limits.{has_notes}
use Rattle.exec.specs.Time.{after, then, due}
use Rattle.lifecycle.specs.declared.life.Launch.TheVariants as Launch
use Rattle.lifecycle.specs.declared.life.Settling.TheVariants.{Fenced}
use Rattle.lifecycle.specs.Clocks.{terminate_clocks, stop_waiting, give_up_by, clocks_due, first_of}
use Rattle.lifecycle.specs.Life.{launch_known, exit_known, is_fenced, is_settled, settling_late, expected_by, end_for, end_with, life_given_up, life_expired, life_settled, life_outcome}
use Rattle.lifecycle.specs.Setters.{set_timeout_at, set_grace_until, set_give_up_at, set_abandon_at, set_launch, set_settling}
use Rattle.input.specs.Input.{close_input, message_told}
use Rattle.output.specs.Output.{grace_ended, given_up, abandoned}
use Rattle.output.specs.Outputs.{each_output, all_closed, any_held, all_delivered}
use Rattle.runner.specs.declared.answer.After.{After}
use Rattle.runner.specs.declared.runner.Runner.{Runner}
use Rattle.runner.specs.State.{with, with_clocks, with_life, flags_of, outputs_of, out_of}

-- the launch result is still waited for: it has not arrived, and the runner has not given up on it
abbrev pub awaits_launch : Runner → Bool
awaits_launch r =
    (not (launch_known r.life.launch) && not r.flags.gave_up) && not r.flags.launch_abandoned

-- launch and exit are reported, every stream is closed and settling is Settled
abbrev pub is_cleaned_up : Runner → Bool
is_cleaned_up r =
    ((launch_known r.life.launch && exit_known r.life.exit) && all_closed (outputs_of r))
    && is_settled r.life.settling

unfoldable pub close_runner_input : Runner → Runner
close_runner_input r =
    with r.clocks r.life r.flags (close_input r.input r.flags.detached) r.outputs r

-- ---- the end of grace, give-up and abandonment

-- ended grace drops every queue, and asks to discard each stream that is still open
unfoldable pub end_grace : Runner → Runner
end_grace r =
    with (set_grace_until None r.clocks) r.life r.flags r.input (each_output (has_notes r.limits) grace_ended r.outputs) r

-- drops every queue, closes and marks each stream still open, sets a missing exit to no status, and fences settling
unfoldable pub give_up : Runner → Runner
give_up r =
    with (stop_waiting r.clocks) (life_given_up r.life)
    (flags_of r.flags.started_message false true r.flags.launch_abandoned r.flags.detached r.flags.credited r.flags.finished)
    r.input (each_output (has_notes r.limits) given_up r.outputs) r

-- ends the wait for a launch, fencing settling
unfoldable pub abandon_launch : Runner → Runner
abandon_launch r =
    with r.clocks (set_settling Fenced r.life)
    (flags_of r.flags.started_message r.flags.settle_request r.flags.gave_up true r.flags.detached r.flags.credited r.flags.finished)
    r.input r.outputs r

-- closes and marks each stream neither closed nor hung up
unfoldable pub abandon_open_streams : Runner → Runner
abandon_open_streams r =
    with (set_abandon_at None r.clocks) r.life r.flags r.input (each_output (has_notes r.limits) abandoned r.outputs) r

-- ---- a termination

-- closes input, clears the timeout, sets the end of grace and give-up after that
unfoldable pub begin_termination : Runner → ℕ → Cause → Runner
begin_termination r now cause =
    with (terminate_clocks r.clocks now r.timers.grace r.timers.settlement) (end_for r.life cause) r.flags
    (close_input r.input r.flags.detached) r.outputs r

unfoldable pub pass_grace : Runner → ℕ → Runner
pass_grace r now = cond (due r.clocks.grace_until now) (end_grace r) r

-- only the first counts
unfoldable pub terminate : Runner → ℕ → Cause → Runner
terminate r now cause = cond r.clocks.terminated r (pass_grace (begin_termination r now cause) now)

-- ---- the timers in their order: timeout, grace, settlement, give-up, abandonment; each is due at its time exactly

unfoldable pub pass_timeout : Runner → ℕ → Runner
pass_timeout r now =
    cond (due r.clocks.timeout_at now) (terminate (with_clocks (set_timeout_at None r.clocks) r) now TimedOut) r

unfoldable pub pass_settlement : Runner → ℕ → Runner
pass_settlement r now = with_life (life_expired r.life now) r

-- give-up does nothing if all is cleaned up
unfoldable pub give_up_unless_clean : Runner → Runner
give_up_unless_clean r = cond (is_cleaned_up r) (with_clocks (set_give_up_at None r.clocks) r) (give_up r)

unfoldable pub pass_give_up : Runner → ℕ → Runner
pass_give_up r now = cond (due r.clocks.give_up_at now) (give_up_unless_clean r) r

unfoldable pub drop_launch : Runner → Runner
drop_launch r = cond (awaits_launch r) (abandon_launch r) r

unfoldable pub drop_streams : Runner → Runner
drop_streams r = cond (is_fenced r.life.settling) (abandon_open_streams r) r

unfoldable pub pass_abandonment : Runner → ℕ → Runner
pass_abandonment r now = cond (due r.clocks.abandon_at now) (drop_streams (drop_launch r)) r

unfoldable pub fire : Runner → ℕ → Runner
fire r now = pass_abandonment (pass_give_up (pass_settlement (pass_grace (pass_timeout r now) now) now) now) now

unfoldable pub ticked : Runner → ℕ → Runner
ticked r now = cond r.flags.finished r (fire r now)

-- a tick has something to do: the execution has not ended, and a timer is due
abbrev pub any_due : Runner → ℕ → Bool
any_due r now = not r.flags.finished && (clocks_due r.clocks now || settling_late r.life.settling now)

-- when the next timer fires; give-up and abandonment count only while there is something for them to do
unfoldable pub deadline_of : Runner → Option ℕ
deadline_of r =
    cond r.flags.finished None
    (first_of r.clocks (expected_by r.life.settling) (not (is_cleaned_up r))
    (awaits_launch r || (is_fenced r.life.settling && any_held (outputs_of r))))

-- ---- the peer's cancellation: not even a tick for a stale key; Late once a termination began or the execution ended

abbrev pub is_late : Runner → Bool
is_late r = r.flags.finished || r.clocks.terminated

-- on an execution that has ticked
unfoldable pub cancelled : Runner → ℕ → Cause → After Receipt
cancelled r now cause = record {
  runner = cond (is_late r) r (terminate r now cause);
  answer = cond (is_late r) (Ok Late) (Ok Applied);
}

unfoldable pub cancel_answer : Result Admission Refusal → Runner → ℕ → Result Receipt Refusal
cancel_answer (Err x) r now = Err x
cancel_answer (Ok Stale) r now = Ok Stale
cancel_answer (Ok Own) r now = cond (is_late (ticked r now)) (Ok Late) (Ok Applied)

-- the tick comes first, also where the answer is Late
unfoldable pub cancel_next : Result Admission Refusal → Runner → ℕ → Cause → Runner
cancel_next (Err x) r now cause = r
cancel_next (Ok Stale) r now cause = r
cancel_next (Ok Own) r now cause =
    cond (is_late (ticked r now)) (ticked r now) (terminate (ticked r now) now cause)

-- ---- the workload

-- only the first launch result counts, and none once the runner gave up on it; a failed launch closes input
unfoldable pub note_started : Runner → Runner
note_started r =
    with r.clocks (set_launch Launch.Started r.life)
    (flags_of (not r.flags.detached) r.flags.settle_request r.flags.gave_up r.flags.launch_abandoned r.flags.detached r.flags.credited r.flags.finished)
    r.input r.outputs r

unfoldable pub note_launch : Runner → Result (Unit {0}) LaunchFailure → Runner
note_launch r (Ok tt) = note_started r
note_launch r (Err f) = close_runner_input (with_life (set_launch (Launch.Failed f) r.life) r)

unfoldable pub launched_next : Runner → Result (Unit {0}) LaunchFailure → Runner
launched_next r x = cond (awaits_launch r) (note_launch r x) r

-- closes input, sets the settlement time, and abandonment a grace after it
unfoldable pub note_exit : Runner → ℕ → Option Status → Runner
note_exit r now status =
    close_runner_input (with
    (set_abandon_at (then (after now r.timers.settlement) r.timers.grace) r.clocks)
    (end_with r.life status (after now r.timers.settlement))
    (flags_of r.flags.started_message true r.flags.gave_up r.flags.launch_abandoned r.flags.detached r.flags.credited r.flags.finished)
    r.input r.outputs r)

-- the exit is known, or given up on
abbrev pub is_over : Runner → Bool
is_over r = exit_known r.life.exit || r.flags.gave_up

unfoldable pub note_exit_once : Runner → ℕ → Option Status → Runner
note_exit_once r now status = cond (is_over r) r (note_exit r now status)

abbrev pub timeout_cleared : Runner → Runner
timeout_cleared r = with_clocks (set_timeout_at None r.clocks) r

-- the timeout is cleared before the tick; only the first exit counts
unfoldable pub exited_next : Runner → ℕ → Option Status → Runner
exited_next r now status = note_exit_once (ticked (timeout_cleared r) now) now status

unfoldable pub settled_next : Runner → Settlement → Runner
settled_next r s = with_life (life_settled r.life s) r

-- ---- detachment: grace ends then and there, and give-up is a settlement time from now at the latest

-- nothing more is told
unfoldable pub silenced : Runner → Runner
silenced r =
    with r.clocks r.life
    (flags_of false r.flags.settle_request r.flags.gave_up r.flags.launch_abandoned true r.flags.credited r.flags.finished)
    (message_told r.input) r.outputs r

unfoldable pub give_up_soon : Runner → ℕ → Runner
give_up_soon r now = with_clocks (give_up_by r.clocks now r.timers.settlement) r

unfoldable pub cut_off : Runner → ℕ → Cause → Runner
cut_off r now cause = give_up_soon (end_grace (silenced (terminate r now cause))) now

unfoldable pub cut_off_once : Runner → ℕ → Cause → Runner
cut_off_once r now cause = cond (r.flags.finished || r.flags.detached) r (cut_off r now cause)

unfoldable pub detach_next : Runner → ℕ → Cause → Runner
detach_next r now cause = cut_off_once (ticked r now) now cause

-- ---- the outcome, once everything that it reports is known

unfoldable pub is_ready : Runner → Bool
is_ready r =
    ((not (awaits_launch r) && exit_known r.life.exit) && all_delivered (outputs_of r) r.flags.detached)
    && (is_settled r.life.settling || is_fenced r.life.settling)

unfoldable pub outcome_of : Runner → Outcome
outcome_of r = life_outcome r.life (out_of Stdout r).truncated (out_of Stderr r).truncated (out_of Notes r).truncated
