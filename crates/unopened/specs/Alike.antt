-- A runner whose every call answers as another's does, and leaves the like of what that one leaves.
use Rattle.std.specs.Prelude.{ℕ, ◌≡◌, List, Option, Result}
use Rattle.exec.specs.declared.Cause.{Cause}
use Rattle.exec.specs.declared.Key.{Key}
use Rattle.exec.specs.declared.LaunchFailure.{LaunchFailure}
use Rattle.exec.specs.declared.Pool.{Pool}
use Rattle.exec.specs.declared.Settlement.{Settlement}
use Rattle.exec.specs.declared.Status.{Status}
use Rattle.exec.specs.declared.Stream.{Stream}
use Rattle.runner.specs.declared.answer.After.{After}
use Rattle.runner.specs.declared.runner.Runner.{Runner}
use Rattle.runner.specs.Calls as Calls
use Rattle.runner.specs.Calls.{WrittenAfter, written_after}
use Rattle.runner.specs.Message.{MessageAfter, message_after}
use Rattle.runner.specs.Streams.{InputAfter, input_after, OutputAfter, output_after}

-- the same answer, with the like of the runner that is left; and so with the lists that a call leaves beside it
abbrev pub kept : {T : Type 0} → (like : Runner → Runner) → After T → After T
kept like a = record { runner = like a.runner; answer = a.answer }

abbrev pub input_kept : (like : Runner → Runner) → InputAfter → InputAfter
input_kept like a = input_after (kept like a.hearing) a.bytes a.lengths

abbrev pub output_kept : (like : Runner → Runner) → OutputAfter → OutputAfter
output_kept like a = output_after (kept like a.taking) a.bytes

abbrev pub written_kept : (like : Runner → Runner) → WrittenAfter → WrittenAfter
written_kept like a = written_after (kept like a.counting) a.lengths

abbrev pub message_kept : (like : Runner → Runner) → MessageAfter → MessageAfter
message_kept like a = message_after (kept like a.saying) a.buffer

-- each call of the like of a runner, in the Rust's order, gives what it gives of the runner, and leaves the like
pub record Alike (like : Runner → Runner) (r : Runner) : Type 0 where
  pub key : Calls.key (like r) ≡ Calls.key r
  pub limits : Calls.limits (like r) ≡ Calls.limits r
  pub credit : (k : Key) (p : Pool) (units : ℕ) → Calls.credit (like r) k p units ≡ kept like (Calls.credit r k p units)
  pub input : (k : Key) (bytes store lengths : List ℕ) → Calls.input (like r) k bytes store lengths ≡ input_kept like (Calls.input r k bytes store lengths)
  pub end_input : (k : Key) → Calls.end_input (like r) k ≡ kept like (Calls.end_input r k)
  pub cancel : (now : ℕ) (k : Key) (cause : Cause) → Calls.cancel (like r) now k cause ≡ kept like (Calls.cancel r now k cause)
  pub launched : (x : Result (Unit {0}) LaunchFailure) → Calls.launched (like r) x ≡ kept like (Calls.launched r x)
  pub read_allowance : (x : Stream) → Calls.read_allowance (like r) x ≡ Calls.read_allowance r x
  pub output : (x : Stream) (bytes store : List ℕ) → Calls.output (like r) x bytes store ≡ output_kept like (Calls.output r x bytes store)
  pub discarded : (x : Stream) (n : ℕ) → Calls.discarded (like r) x n ≡ kept like (Calls.discarded r x n)
  pub output_closed : (x : Stream) → Calls.output_closed (like r) x ≡ kept like (Calls.output_closed r x)
  pub output_failed : (x : Stream) → Calls.output_failed (like r) x ≡ kept like (Calls.output_failed r x)
  pub output_hung_up : (x : Stream) → Calls.output_hung_up (like r) x ≡ kept like (Calls.output_hung_up r x)
  pub pending_input : (store : List ℕ) → Calls.pending_input (like r) store ≡ Calls.pending_input r store
  pub input_written : (count : ℕ) (lengths : List ℕ) → Calls.input_written (like r) count lengths ≡ written_kept like (Calls.input_written r count lengths)
  pub input_closed : Calls.input_closed (like r) ≡ kept like (Calls.input_closed r)
  pub exited : (now : ℕ) (status : Option Status) → Calls.exited (like r) now status ≡ kept like (Calls.exited r now status)
  pub settled : (s : Settlement) → Calls.settled (like r) s ≡ kept like (Calls.settled r s)
  pub dropped : (now : ℕ) → Calls.dropped (like r) now ≡ kept like (Calls.dropped r now)
  pub reset : (now : ℕ) → Calls.reset (like r) now ≡ kept like (Calls.reset r now)
  pub disconnect : (now : ℕ) → Calls.disconnect (like r) now ≡ kept like (Calls.disconnect r now)
  pub tick : (now : ℕ) → Calls.tick (like r) now ≡ kept like (Calls.tick r now)
  pub deadline : Calls.deadline (like r) ≡ Calls.deadline r
  pub next_request : Calls.next_request (like r) ≡ kept like (Calls.next_request r)
  pub next_message : (store buffer : List ℕ) → Calls.next_message (like r) store buffer ≡ message_kept like (Calls.next_message r store buffer)
  pub is_finished : Calls.is_finished (like r) ≡ Calls.is_finished r
  pub is_detached : Calls.is_detached (like r) ≡ Calls.is_detached r
  pub awaits_settlement : Calls.awaits_settlement (like r) ≡ Calls.awaits_settlement r
  pub memory_bound : Calls.memory_bound (like r) ≡ Calls.memory_bound r
  pub buffered : Calls.buffered (like r) ≡ Calls.buffered r
  pub high_water : Calls.high_water (like r) ≡ Calls.high_water r
