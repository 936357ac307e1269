-- What the runner's stages do to the workload's input: they keep it, or close it with its inbox cleared.
use Rattle.std.specs.Prelude.{Option, Result}
use Rattle.exec.specs.declared.Admission.{Admission}
use Rattle.exec.specs.declared.LaunchFailure.{LaunchFailure}
use Rattle.exec.specs.declared.Status.{Status}
use Rattle.exec.specs.declared.Refusal.{Refusal}
use mathlib.Core.Bool.{Bool, true, false}
use mathlib.Core.Path.{◌≡◌, refl, sym, ◌∙◌}
use Prim.Native.Nat.{ℕ}
use Rattle.exec.specs.declared.Cause.{Cause}
use Rattle.inbox.specs.Inbox.{new_inbox}
use Rattle.input.specs.declared.Input.{Input}
use Rattle.input.specs.Input.{close_input}
use Rattle.runner.specs.declared.runner.Runner.{Runner}
use Rattle.runner.specs.Life.{close_runner_input, ticked, cancel_next, launched_next, exited_next, detach_next}
use Rattle.account.proofs.Timers.{Kept, tick_keeps, cancel_keeps, detach_keeps, exited_keeps, launched_keeps}

pub data Moves (i i' : Input) : Type 0 where
  same : i'.window ≡ i.window → i'.inbox ≡ i.inbox → i'.closed ≡ i.closed → Moves i i'
  shut : i'.window ≡ i.window → i'.inbox ≡ new_inbox → i.closed ≡ false → i'.closed ≡ true → Moves i i'

pub stays : (i : Input) → Moves i i
stays i = same refl refl refl

pub then_moves : {i j k : Input} → Moves i j → Moves j k → Moves i k
then_moves (same a b c) (same a' b' c') = same (a' ∙ a) (b' ∙ b) (c' ∙ c)
then_moves (same a b c) (shut a' b' c' d') = shut (a' ∙ a) b' (sym c ∙ c') d'
then_moves (shut a b c d) (same a' b' c') = shut (a' ∙ a) (b' ∙ b) c (c' ∙ d)
then_moves (shut a b c d) (shut a' b' c' d') = cc

pub close_by : (i : Input) (detached b : Bool) → i.closed ≡ b → Moves i (close_input i detached)
close_by i d true e = rw e (same refl refl refl)
close_by i d false e = rw e (shut refl refl refl refl)

pub close_moves : (i : Input) (detached : Bool) → Moves i (close_input i detached)
close_moves i d = close_by i d i.closed refl

-- ---- by the timers

abbrev pub Keeps : Runner → Runner → Type 0
Keeps r r' = Moves r.input r'.input

timed : (i : Input) → Kept (λ r. Moves i r.input)
unfolding close_runner_input
timed i = record {
  moves = λ r c l f e m. m;
  closes = λ r m. then_moves m (close_moves r.input r.flags.detached);
  tells = λ r m. then_moves m (same refl refl refl);
  grace = λ r m. m;
  gives = λ r m. m;
  abandons = λ r m. m;
}

pub close : (r : Runner) → Keeps r (close_runner_input r)
close r = (timed r.input).closes r (stays r.input)

pub ticks : (r : Runner) (now : ℕ) → Keeps r (ticked r now)
ticks r now = tick_keeps _ (timed r.input) now r (stays r.input)

pub launches : (r : Runner) (x : Result (Unit {0}) LaunchFailure) → Keeps r (launched_next r x)
launches r x = launched_keeps _ (timed r.input) x r (stays r.input)

pub exits : (r : Runner) (now : ℕ) (x : Option Status) → Keeps r (exited_next r now x)
exits r now x = exited_keeps _ (timed r.input) now x r (stays r.input)

pub detaches : (r : Runner) (now : ℕ) (c : Cause) → Keeps r (detach_next r now c)
detaches r now c = detach_keeps _ (timed r.input) now c r (stays r.input)

pub cancels : (a : Result Admission Refusal) (r : Runner) (now : ℕ) (c : Cause) → Keeps r (cancel_next a r now c)
cancels a r now c = cancel_keeps _ (timed r.input) a now c r (stays r.input)
