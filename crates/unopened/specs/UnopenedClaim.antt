-- A stream that is not open (`has`, by the runner's limits) is none to a maker: nothing is said or asked of it, a call that names it is
-- refused and changes nothing, and no bytes are held for it. So of ANY runner, also of one that open never gave.
use Rattle.std.specs.Prelude.{ℕ, ◌+◌, ◌*◌, true, false, ◌≡◌, List, Result, Some, Ok, Err}
use Rattle.exec.specs.declared.Admission.TheVariants.{Own}
use Rattle.exec.specs.declared.Key.{Key}
use Rattle.exec.specs.declared.Outcome.{Outcome}
use Rattle.exec.specs.declared.Pool.{Pool}
use Rattle.exec.specs.declared.Refusal.{Refusal}
use Rattle.exec.specs.declared.Stream.{Stream}
use Rattle.exec.specs.declared.Stream.TheVariants.{Stdout, Stderr, Notes}
use Rattle.exec.specs.Key.{admits}
use Rattle.exec.specs.Limits.{input_bytes}
use Rattle.exec.specs.Outcome.{is_truncated}
use Rattle.exec.specs.Stream.{index}
use Rattle.credit.specs.declared.sender.Credit.{Credit}
use Rattle.inbox.specs.Need.{rings_of}
use Rattle.output.specs.declared.Output.{Output}
use Rattle.output.specs.Outputs.{stdout, stderr, put_output}
use Rattle.runner.specs.declared.answer.After.{After}
use Rattle.runner.specs.declared.answer.Message.{Message}
use Rattle.runner.specs.declared.answer.Request.{Request}
use Rattle.runner.specs.declared.runner.Runner.{Runner}
use Rattle.runner.specs.Calls as Calls
use Rattle.runner.specs.Calls.{unless}
use Rattle.runner.specs.Range.{bytes_do, stop}
use Rattle.runner.specs.State.{with_outputs, with_flow, put_credit}
use Rattle.runner.specs.Streams.{output_after}
use Rattle.unopened.specs.Alike.{Alike}

-- what refuses a call that names it: what every call meets (12, 10, 46, 11), and behind that 2
abbrev pub refusal : (met : Result (Unit {0}) Refusal) → Refusal
refusal (Ok tt) = Refusal.Pool
refusal (Err z) = z

-- such a call leaves the runner as it was
abbrev pub refused : {T : Type 0} → Runner → (met : Result (Unit {0}) Refusal) → After T
refused r met = record { runner = r; answer = Err (refusal met) }

-- the pool of a stream's name
abbrev pub pool_named : Stream → Pool
pool_named Stdout = Pool.Stdout
pool_named Stderr = Pool.Stderr
pool_named Notes = Pool.Notes

-- the runner with another output and another account in a stream's place
abbrev pub replaced : Stream → Output → Credit → Runner → Runner
replaced x o c r =
    with_flow (put_credit (index x) c r.credits) r.turn r.flags r.high_water (with_outputs (put_output x o r.outputs) r)

-- THE CLAIM, of any runner and a stream that its limits do not have
pub record Unopened (r : Runner) (x : Stream) : Type 0 where
  -- ---- what is said and asked
  -- no message has bytes of it, whatever store and buffer are lent
  pub no_output : (store buffer : List ℕ) (n : ℕ) → (Calls.next_message r store buffer).saying.answer ≡ Ok (Some (Message.Output x n)) → ⊥
  -- none is its end
  pub no_end : (store buffer : List ℕ) → (Calls.next_message r store buffer).saying.answer ≡ Ok (Some (Message.End x)) → ⊥
  -- no outcome says that some of it was lost
  pub not_truncated : (store buffer : List ℕ) (o : Outcome) → (Calls.next_message r store buffer).saying.answer ≡ Ok (Some (Message.Terminal o))
      → is_truncated o x ≡ false
  -- no request is to discard it
  pub no_discard : (Calls.next_request r).answer ≡ Ok (Some (Request.Discard x)) → ⊥
  -- ---- the calls that name it, credit under the own key of the execution: none is ever Ok
  -- how many bytes may be read of it is refused
  pub read_allowance : Calls.read_allowance r x ≡ Err (refusal (stop r true))
  -- bytes of it are refused, behind a short store, and the store is as it was
  pub output : (bytes store : List ℕ) → Calls.output r x bytes store ≡ output_after (refused r (stop r (bytes_do r.limits store))) store
  -- so are bytes that were read and dropped
  pub discarded : (n : ℕ) → Calls.discarded r x n ≡ refused r (stop r true)
  -- so is its end
  pub output_closed : Calls.output_closed r x ≡ refused r (stop r true)
  -- so is a failure to read it
  pub output_failed : Calls.output_failed r x ≡ refused r (stop r true)
  -- and so is the word that nobody writes it any more
  pub output_hung_up : Calls.output_hung_up r x ≡ refused r (stop r true)
  -- credit on the pool of its name is refused so too, under the execution's own key
  pub credit : (k : Key) (units : ℕ) → admits r.key k ≡ Ok Own → Calls.credit r k (pool_named x) units ≡ refused r (stop r true)
  -- ---- what is held
  -- the byte store has the rings of two streams, and none of its own
  pub rings : rings_of r.limits ≡ 2 * r.limits.chunk
  -- so that the bound of memory is theirs and the inbox's
  pub memory_bound : Calls.memory_bound r ≡ unless (stop r true) (2 * r.limits.chunk + input_bytes r.limits)
  -- and the bytes that wait are theirs and the inbox's
  pub buffered : Calls.buffered r ≡ unless (stop r true) (((stdout r.outputs).queued + (stderr r.outputs).queued) + r.input.inbox.length)
  -- ---- what stands in its place in the state
  -- it makes no difference: with another output and another account there, every call answers alike, and leaves what it leaves but for
  -- that place
  pub blind : (o : Output) (c : Credit) → Alike (replaced x o c) r
