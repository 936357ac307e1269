-- Launch, exit and settling; the life that holds them, and what each event does to it.
use Rattle.std.specs.Prelude.{ℕ, ◌≡◌, refl, Bool, true, false, cond, Option, Result, Some, None, Ok, Err}
use Rattle.std.proofs.Common.{ap, sym}
use Rattle.exec.specs.declared.LaunchFailure.{LaunchFailure}
use Rattle.exec.specs.declared.Status.{Status}
use Rattle.exec.specs.declared.Cause.{Cause}
use Rattle.exec.specs.declared.Outcome.{Outcome}
use Rattle.exec.specs.declared.Settlement.{Settlement}
use Rattle.exec.specs.Time.{due}
use Rattle.lifecycle.specs.declared.life.Launch.{Launch}
use Rattle.lifecycle.specs.declared.life.Launch.TheVariants.{Awaited, Started, Failed}
use Rattle.lifecycle.specs.declared.life.Exit.{Exit}
use Rattle.lifecycle.specs.declared.life.Exit.TheVariants.{Running, Ended}
use Rattle.lifecycle.specs.declared.life.Settling.{Settling}
use Rattle.lifecycle.specs.declared.life.Settling.TheVariants.{Idle, Requested, Settled, Fenced}
use Rattle.lifecycle.specs.declared.life.Life.{Life}
use Rattle.lifecycle.specs.Setters.{set_exit, set_settling}

abbrev pub launch_of : Result (Unit {0}) LaunchFailure → Launch
launch_of (Ok tt) = Started
launch_of (Err failure) = Failed failure

abbrev pub launch_known : Launch → Bool
launch_known Awaited = false
launch_known Started = true
launch_known (Failed failure) = true

abbrev pub failure_of : Launch → Option LaunchFailure
failure_of Awaited = None
failure_of Started = None
failure_of (Failed failure) = Some failure

abbrev pub exit_known : Exit → Bool
exit_known Running = false
exit_known (Ended status) = true

abbrev pub status_of : Exit → Option Status
status_of Running = None
status_of (Ended status) = status

-- the status of an end that is not known is lost
abbrev pub or_lost : Exit → Exit
or_lost Running = Ended None
or_lost (Ended status) = Ended status

abbrev pub is_fenced : Settling → Bool
is_fenced Idle = false
is_fenced (Requested by) = false
is_fenced Settled = false
is_fenced Fenced = true

abbrev pub is_settled : Settling → Bool
is_settled Idle = false
is_settled (Requested by) = false
is_settled Settled = true
is_settled Fenced = false

abbrev pub is_requested : Settling → Bool
is_requested Idle = false
is_requested (Requested by) = true
is_requested Settled = false
is_requested Fenced = false

-- the result that was requested is late
abbrev pub settling_late : Settling → ℕ → Bool
settling_late Idle now = false
settling_late (Requested by) now = due by now
settling_late Settled now = false
settling_late Fenced now = false

-- fenced once that result is late
abbrev pub expired : Settling → ℕ → Settling
expired Idle now = Idle
expired (Requested by) now = cond (due by now) Fenced (Requested by)
expired Settled now = Settled
expired Fenced now = Fenced

-- what is not late stays
pub expired_in_time : (s : Settling) (now : ℕ) → settling_late s now ≡ false → expired s now ≡ s
expired_in_time Idle now h = refl
expired_in_time (Requested by) now h = rw h
expired_in_time Settled now h = refl
expired_in_time Fenced now h = refl

-- the result of the settlement, if one is awaited
abbrev pub settle_with : Settling → Settlement → Settling
settle_with Idle result = Idle
settle_with (Requested by) Settlement.Settled = Settled
settle_with (Requested by) Settlement.Failed = Fenced
settle_with Settled result = Settled
settle_with Fenced result = Fenced

abbrev pub expected_by : Settling → Option ℕ
expected_by Idle = None
expected_by (Requested by) = by
expected_by Settled = None
expected_by Fenced = None

-- the cause, while the workload runs
abbrev pub cause_for : Exit → Cause → Option Cause → Option Cause
cause_for Running cause old = Some cause
cause_for (Ended status) cause old = old

abbrev pub end_for_at : Exit → Life → Cause → Life
end_for_at exit l cause = record {
  launch = l.launch;
  exit = l.exit;
  cause = cause_for exit cause l.cause;
  terminate_request = cause_for exit cause l.terminate_request;
  settling = l.settling;
}

-- the runner ends the workload, if it still runs
abbrev pub end_for : Life → Cause → Life
end_for l cause = end_for_at l.exit l cause

-- a life whose end is known stays as it is
pub end_known : (l : Life) (cause : Cause) (status : Option Status) → l.exit ≡ Ended status → l ≡ end_for l cause
end_known l cause status h = ap (λ (x : Exit). end_for_at x l cause) (sym h)

-- the workload ended, and its settlement is requested
abbrev pub end_with : Life → Option Status → Option ℕ → Life
end_with l status by = set_settling (Requested by) (set_exit (Ended status) l)

-- a missing exit becomes one of no status, and the execution is fenced
abbrev pub life_given_up : Life → Life
life_given_up l = set_settling Fenced (set_exit (or_lost l.exit) l)

-- the request to end the workload was returned
abbrev pub terminate_taken : Life → Life
terminate_taken l = record {
  launch = l.launch;
  exit = l.exit;
  cause = l.cause;
  terminate_request = None;
  settling = l.settling;
}

abbrev pub life_expired : Life → ℕ → Life
life_expired l now = set_settling (expired l.settling now) l

abbrev pub life_settled : Life → Settlement → Life
life_settled l result = set_settling (settle_with l.settling result) l

-- what the outcome says of the workload, with the truncation of the streams
abbrev pub life_outcome : Life → (out err notes : Bool) → Outcome
life_outcome l out err notes = record {
  status = status_of l.exit;
  cause = l.cause;
  launch_failure = failure_of l.launch;
  stdout_truncated = out;
  stderr_truncated = err;
  notes_truncated = notes;
  reusable = is_settled l.settling;
}
