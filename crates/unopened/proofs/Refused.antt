-- A call that names a stream that is not open is refused, and so is credit on the pool of its name.
use Rattle.std.specs.Prelude.{Bool, true, false, ◌≡◌, refl, Result, Ok, Err}
use Rattle.exec.specs.declared.Pool.TheVariants as Pool
use Rattle.exec.specs.declared.Receipt.{Receipt}
use Rattle.exec.specs.declared.Refusal.{Refusal}
use Rattle.exec.specs.declared.Stream.{Stream}
use Rattle.exec.specs.Limits.{output_pool, has}
use Rattle.runner.specs.declared.runner.Runner.{Runner}
use Rattle.runner.specs.Calls.{calling}
use Rattle.runner.specs.Range.{unless_closed, stop, stop_at}
use Rattle.unopened.specs.UnopenedClaim.{refusal, refused}

-- one that names a stream that is not open is refused, by what it meets or by 2
pub never : (r : Runner) (x : Stream) (stores : Bool) → has r.limits x ≡ false → stop_at r x stores ≡ Err (refusal (stop r stores))
unfolding stop_at
never r x stores h = rw h (by (stop r stores))
  where
    by : (met : Result (Unit {0}) Refusal) → unless_closed false met ≡ Err (refusal met)
    by (Ok tt) = refl
    by (Err z) = refl

-- the pool of its name is none, whether the pools are shared or not
pub no_pool : (shared : Bool) → output_pool shared false Pool.Notes ≡ Err Refusal.Pool
no_pool true = refl
no_pool false = refl

-- and then credit is refused so, and changes nothing
pub credit_met : (r : Runner) (met : Result (Unit {0}) Refusal) → calling {T = Receipt} met (Err Refusal.Pool) r r ≡ refused r met
credit_met r (Ok tt) = refl
credit_met r (Err z) = refl
