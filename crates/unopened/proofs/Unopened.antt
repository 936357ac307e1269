-- THE CLAIM, proved: only Notes can be a stream that is not open.
use Rattle.std.specs.Prelude.{◌+◌, true, false, ◌≡◌, refl}
use Rattle.std.proofs.Common.{arith, sym, ◌∙◌, ap}
use Rattle.std.proofs.lemmas.Bool.{true≢false}
use Rattle.exec.specs.declared.Stream.{Stream}
use Rattle.exec.specs.declared.Stream.TheVariants.{Stdout, Stderr, Notes}
use Rattle.exec.specs.Limits.{input_bytes, has, has_notes}
use Rattle.runner.specs.declared.runner.Runner.{Runner}
use Rattle.runner.specs.Calls as Calls
use Rattle.runner.specs.Calls.{unless}
use Rattle.runner.specs.Range.{bytes_do, stop}
use Rattle.runner.specs.Streams.{credit_in, credit_answer, credit_next}
use Rattle.unopened.specs.UnopenedClaim.{Unopened}
use Rattle.unopened.proofs.Named.{said, asked}
use Rattle.unopened.proofs.Refused.{never, no_pool, credit_met}
use Rattle.unopened.proofs.Alike.{alike}

module _ (r : Runner) (h : has_notes r.limits ≡ false) where
  unopened_notes : Unopened r Notes
  unfolding Calls.read_allowance Calls.output Calls.discarded Calls.output_closed Calls.output_failed Calls.output_hung_up Calls.credit credit_answer credit_in credit_next Calls.memory_bound Calls.buffered
  unopened_notes = record {
    no_output = λ store buffer n e. true≢false (sym (rw e at (said r store buffer)) ∙ h);
    no_end = λ store buffer e. true≢false (sym (rw e at (said r store buffer)) ∙ h);
    not_truncated = λ store buffer o e. (rw e at (said r store buffer)) Notes h;
    no_discard = λ e. true≢false (sym (rw e at (asked r)) ∙ h);
    read_allowance = rw (never r Notes true h) refl;
    output = λ bytes store. rw (never r Notes (bytes_do r.limits store) h) refl;
    discarded = λ n. rw (never r Notes true h) refl;
    output_closed = rw (never r Notes true h) refl;
    output_failed = rw (never r Notes true h) refl;
    output_hung_up = rw (never r Notes true h) refl;
    credit = λ k units own. rw (h, no_pool r.limits.shared, own) (credit_met r (stop r true));
    rings = rw h (omega arith);
    memory_bound = rw h (ap (λ n. unless (stop r true) (n + input_bytes r.limits)) (omega arith));
    buffered = rw h (ap (λ n. unless (stop r true) (n + r.input.inbox.length)) (omega arith));
    blind = λ o c. alike o c r h;
  }

pub unopened : (r : Runner) (x : Stream) → has r.limits x ≡ false → Unopened r x
unopened r Stdout h = absurd (true≢false h)
unopened r Stderr h = absurd (true≢false h)
unopened r Notes h = unopened_notes r h
