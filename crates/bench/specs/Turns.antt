-- What a turn of a loop does to its counter, in plain numbers.
use Rattle.std.specs.Prelude.{ℕ, ◌+◌, ◌-◌, ◌^◌, ◌<◌, ◌≤◌}
use Rattle.std.proofs.Common.{arith}

pub fits : (i n : ℕ) → i < n → n < 2 ^ 64 → i + 1 < 2 ^ 64
fits i n below short = omega arith

pub less : (i n : ℕ) → i < n → n - (i + 1) < n - i
less i n below = omega arith

pub again : (i n : ℕ) → i < n → i + 1 ≤ n
again i n below = omega arith
