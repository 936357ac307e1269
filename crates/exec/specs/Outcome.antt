-- The outcome of an execution, built field by field.
use Rattle.std.specs.Prelude.{Bool, true, false, Option, Some, None}
use Rattle.exec.specs.declared.Status.{Status}
use Rattle.exec.specs.declared.Cause.{Cause}
use Rattle.exec.specs.declared.LaunchFailure.{LaunchFailure}
use Rattle.exec.specs.declared.Outcome.{Outcome}
use Rattle.exec.specs.declared.Stream.{Stream}
use Rattle.exec.specs.declared.Stream.TheVariants.{Stdout, Stderr, Notes}

-- no cause, no launch failure, no truncation, and fenced
abbrev pub new_outcome : Option Status → Outcome
new_outcome status = record {
  status = status;
  cause = None;
  launch_failure = None;
  stdout_truncated = false;
  stderr_truncated = false;
  notes_truncated = false;
  reusable = false;
}

abbrev pub with_cause : Outcome → Cause → Outcome
with_cause o cause = record {
  status = o.status;
  cause = Some cause;
  launch_failure = o.launch_failure;
  stdout_truncated = o.stdout_truncated;
  stderr_truncated = o.stderr_truncated;
  notes_truncated = o.notes_truncated;
  reusable = o.reusable;
}

abbrev pub with_launch_failure : Outcome → LaunchFailure → Outcome
with_launch_failure o failure = record {
  status = o.status;
  cause = o.cause;
  launch_failure = Some failure;
  stdout_truncated = o.stdout_truncated;
  stderr_truncated = o.stderr_truncated;
  notes_truncated = o.notes_truncated;
  reusable = o.reusable;
}

abbrev pub with_truncated : Outcome → Stream → Outcome
with_truncated o Stdout = record {
  status = o.status;
  cause = o.cause;
  launch_failure = o.launch_failure;
  stdout_truncated = true;
  stderr_truncated = o.stderr_truncated;
  notes_truncated = o.notes_truncated;
  reusable = o.reusable;
}
with_truncated o Stderr = record {
  status = o.status;
  cause = o.cause;
  launch_failure = o.launch_failure;
  stdout_truncated = o.stdout_truncated;
  stderr_truncated = true;
  notes_truncated = o.notes_truncated;
  reusable = o.reusable;
}
with_truncated o Notes = record {
  status = o.status;
  cause = o.cause;
  launch_failure = o.launch_failure;
  stdout_truncated = o.stdout_truncated;
  stderr_truncated = o.stderr_truncated;
  notes_truncated = true;
  reusable = o.reusable;
}

abbrev pub with_reusable : Outcome → Outcome
with_reusable o = record {
  status = o.status;
  cause = o.cause;
  launch_failure = o.launch_failure;
  stdout_truncated = o.stdout_truncated;
  stderr_truncated = o.stderr_truncated;
  notes_truncated = o.notes_truncated;
  reusable = true;
}

abbrev pub is_truncated : Outcome → Stream → Bool
is_truncated o Stdout = o.stdout_truncated
is_truncated o Stderr = o.stderr_truncated
is_truncated o Notes = o.notes_truncated
