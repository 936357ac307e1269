-- The smallest grant is what open was given: no change of the input moves it.
use Rattle.std.specs.Prelude.{ℕ, ◌≡◌, refl, Bool, true, false, cond, List, Result}
use Rattle.exec.specs.declared.Admission.{Admission}
use Rattle.exec.specs.declared.Refusal.{Refusal}
use Rattle.input.specs.declared.Input.{Input}
use Rattle.input.specs.Input as Input
use Rattle.input.specs.Input.{receive_input, end_input, written_input}
use Rattle.runner.specs.declared.runner.Runner.{Runner}
use Rattle.runner.specs.Life.{close_runner_input}
use Rattle.runner.specs.Streams.{is_taken, input_next, end_next, written_next}

-- so of each way that a change may go
by_ways : (b : Bool) (x y i : Input) → x.window.smallest ≡ i.window.smallest → y.window.smallest ≡ i.window.smallest → (cond b x y).window.smallest ≡ i.window.smallest
by_ways true x y i p q = p
by_ways false x y i p q = q

pub input_smallest : (a : Result Admission Refusal) (r : Runner) (n : ℕ) → (input_next a r n).input.window.smallest ≡ r.input.window.smallest
unfolding input_next receive_input
input_smallest a r n = by_ways _ _ _ r.input refl refl

pub end_smallest : (a : Result Admission Refusal) (r : Runner) → (end_next a r).input.window.smallest ≡ r.input.window.smallest
unfolding end_next end_input
end_smallest a r = by_ways (is_taken a r) (Input.end_input r.input) r.input r.input (by_ways _ _ _ r.input refl refl) refl

pub written_smallest : (r : Runner) (count : ℕ) (lengths : List ℕ) → (written_next r count lengths).input.window.smallest ≡ r.input.window.smallest
unfolding written_next written_input
written_smallest r count lengths = by_ways _ _ _ r.input refl refl

pub close_smallest : (r : Runner) → (close_runner_input r).input.window.smallest ≡ r.input.window.smallest
unfolding close_runner_input
close_smallest r = by_ways _ _ _ r.input refl refl
