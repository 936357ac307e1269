-- A message that is not under the execution's own key ends nothing.
use Rattle.std.proofs.Common.{◌≡◌, refl}
use Rattle.std.specs.Prelude.{Ok, Err}
use Rattle.exec.specs.declared.Admission.TheVariants.{Stale}
use Rattle.exec.specs.declared.Refusal.{Refusal}
use Rattle.runner.specs.declared.runner.Runner.{Runner}
use Rattle.runner.specs.Streams.{end_next}

pub end_stale : (r : Runner) → end_next (Ok Stale) r ≡ r
unfolding end_next
end_stale r = refl

pub end_refused : (x : Refusal) (r : Runner) → end_next (Err x) r ≡ r
unfolding end_next
end_refused x r = refl
