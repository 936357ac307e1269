-- Which parts of a runner the calls that move bytes and credit move: the others stay.
use Rattle.std.proofs.Common.{◌≡◌, refl, true, ℕ, List, length}
use Rattle.std.specs.Prelude.{Result, Ok, Err}
use Rattle.exec.specs.declared.Receipt.{Receipt}
use Rattle.exec.specs.declared.Refusal.{Refusal}
use Rattle.choice.specs.declared.Choice.{Choice}
use Rattle.exec.specs.declared.Key.{Key}
use Rattle.exec.specs.declared.Pool.{Pool}
use Rattle.exec.specs.declared.Stream.{Stream}
use Rattle.exec.specs.Key.{admits}
use Rattle.exec.specs.Limits.{output_pool, has_notes}
use Rattle.runner.specs.declared.runner.Runner.{Runner}
use Rattle.runner.specs.Calls.{calling, credit, stores_do, input_by, input, output_by, output, written_by, input_written, message_by, next_message}
use Rattle.runner.specs.Message.{choose, effect, say, output_sent, output_paid}
use Rattle.runner.specs.Range.{bytes_do, lengths_do, stop, stop_at}
use Rattle.runner.specs.State.{with_input, with_outputs, with_flow}
use Rattle.runner.specs.Streams.{credit_answer, credit_next, received, input_next, output_took, output_next, written_next}

-- the accounts
abbrev pub credit_moved : (r next : Runner) → Runner
credit_moved r next = with_flow next.credits r.turn r.flags r.high_water r

pub credit_kept : (r : Runner) (k : Key) (p : Pool) (units : ℕ) → (credit r k p units).runner ≡ credit_moved r (credit r k p units).runner
unfolding credit credit_next
credit_kept r k p units = by (stop r true)
  where
    next : Runner
    next = credit_next (admits r.key k) (output_pool r.limits.shared (has_notes r.limits) p) r units

    answer : Result Receipt Refusal
    answer = credit_answer (admits r.key k) (output_pool r.limits.shared (has_notes r.limits) p) r units

    by : (x : Result (Unit {0}) Refusal) → (calling x answer next r).runner ≡ credit_moved r (calling x answer next r).runner
    by (Ok tt) = refl
    by (Err x) = refl

-- input, and what was held at once
abbrev pub input_moved : (r next : Runner) → Runner
input_moved r next = with_flow r.credits r.turn r.flags next.high_water (with_input next.input r)

pub input_kept : (r : Runner) (k : Key) (bytes store lengths : List ℕ) → (input r k bytes store lengths).hearing.runner ≡ input_moved r (input r k bytes store lengths).hearing.runner
unfolding input received input_next
input_kept r k bytes store lengths = by (stop r (stores_do r store lengths))
  where
    by : (x : Result (Unit {0}) Refusal) → (input_by x (admits r.key k) r bytes store lengths).hearing.runner ≡ input_moved r (input_by x (admits r.key k) r bytes store lengths).hearing.runner
    by (Ok tt) = refl
    by (Err x) = refl

-- the outputs, and what was held at once
abbrev pub output_moved : (r next : Runner) → Runner
output_moved r next = with_flow r.credits r.turn r.flags next.high_water (with_outputs next.outputs r)

pub output_kept : (r : Runner) (x : Stream) (bytes store : List ℕ) → (output r x bytes store).taking.runner ≡ output_moved r (output r x bytes store).taking.runner
unfolding output output_took output_next
output_kept r x bytes store = by (stop_at r x (bytes_do r.limits store))
  where
    by : (z : Result (Unit {0}) Refusal) → (output_by z r x bytes store).taking.runner ≡ output_moved r (output_by z r x bytes store).taking.runner
    by (Ok tt) = refl
    by (Err z) = refl

pub written_kept : (r : Runner) (count : ℕ) (lengths : List ℕ) → (input_written r count lengths).counting.runner ≡ with_input (input_written r count lengths).counting.runner.input r
unfolding input_written written_next
written_kept r count lengths = by (stop r (lengths_do r.limits lengths))
  where
    by : (x : Result (Unit {0}) Refusal) → (written_by x r count lengths).counting.runner ≡ with_input (written_by x r count lengths).counting.runner.input r
    by (Ok tt) = refl
    by (Err x) = refl

-- all that a message moves
abbrev pub said_moved : (r next : Runner) → Runner
said_moved r next = with_flow next.credits next.turn next.flags r.high_water (with_input next.input (with_outputs next.outputs r))

effect_kept : (c : Choice) (r : Runner) → effect c r ≡ said_moved r (effect c r)
unfolding effect output_sent output_paid
effect_kept Choice.None r = refl
effect_kept Choice.Credit r = refl
effect_kept Choice.Started r = refl
effect_kept Choice.InputClosed r = refl
effect_kept (Choice.End x) r = refl
effect_kept (Choice.Output x n) r = refl
effect_kept Choice.Terminal r = refl

pub said_kept : (r : Runner) (store buffer : List ℕ) → (next_message r store buffer).saying.runner ≡ said_moved r (next_message r store buffer).saying.runner
unfolding next_message say
said_kept r store buffer = by (stop r (bytes_do r.limits store))
  where
    by : (x : Result (Unit {0}) Refusal) → (message_by x r store buffer).saying.runner ≡ said_moved r (message_by x r store buffer).saying.runner
    by (Ok tt) = effect_kept (choose r (length buffer)) r
    by (Err x) = refl
