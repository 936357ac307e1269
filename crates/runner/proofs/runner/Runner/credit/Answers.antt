-- What credit leaves differs from what it was by the accounts alone.
use Rattle.std.proofs.Common.{◌≡◌, refl, ℕ, true}
use Rattle.std.specs.Prelude.{Result, Ok, Err}
use Rattle.exec.specs.declared.Receipt.{Receipt}
use Rattle.exec.specs.declared.Refusal.{Refusal}
use Rattle.exec.specs.declared.Key.{Key}
use Rattle.exec.specs.declared.Pool.{Pool}
use Rattle.exec.specs.Key.{admits}
use Rattle.exec.specs.Limits.{output_pool, has_notes}
use Rattle.runner.specs.declared.runner.Runner.{Runner}
use Rattle.runner.specs.Calls.{calling, credit}
use Rattle.runner.specs.Range.{stop}
use Rattle.runner.specs.State.{with_flow}
use Rattle.runner.specs.Streams.{credit_answer, credit_next}
use Rattle.runner.proofs.runner.Runner.credit.Goals as goal

credit-back : (r : Runner) (k : Key) (p : Pool) (units : ℕ)
    → (let a = credit r k p units in record { runner = with_flow a.runner.credits r.turn r.flags r.high_water r; answer = a.answer } ≡ a)
unfolding credit credit_next
credit-back r k p units = by (stop r true)
  where
    next : Runner
    next = credit_next (admits r.key k) (output_pool r.limits.shared (has_notes r.limits) p) r units

    answer : Result Receipt Refusal
    answer = credit_answer (admits r.key k) (output_pool r.limits.shared (has_notes r.limits) p) r units

    by : (g : Result (Unit {0}) Refusal) → (let a = calling g answer next r in record { runner = with_flow a.runner.credits r.turn r.flags r.high_water r; answer = a.answer } ≡ a)
    by (Ok tt) = refl
    by (Err x) = refl

pub returns : goal.returns
returns c = rw (c.grant-answer.ensures.0, c.grant-answer.ensures.1) (credit-back _ _ _ _)
