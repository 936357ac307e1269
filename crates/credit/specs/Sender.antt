-- The credit of a pool: what was granted and is not spent.
use Rattle.std.specs.Prelude.{ℕ, ◌+◌, ◌-◌, min, Bool, cond, ◌&&◌, leb, ltb, Result, Ok, Err}
use Rattle.exec.specs.declared.Refusal.{Refusal}
use Rattle.exec.specs.declared.Unit as Units
use Rattle.exec.specs.declared.Unit.TheVariants.{Bytes, Frames}
use Rattle.credit.specs.declared.sender.Credit.{Credit}

abbrev pub new_credit : ℕ → Credit
new_credit window = record { window = window; available = 0 }

-- what a grant leaves, and its answer
pub record Granting : Type 0 where
  pub credit : Credit
  pub reply : Result (Unit {0}) Refusal

-- a grant of 0, or of a sum above the window, is refused
abbrev pub grantable : Credit → ℕ → Bool
grantable c units = ltb 0 units && leb (c.available + units) c.window

abbrev pub grant : Credit → ℕ → Granting
grant c units = record {
  credit = record { window = c.window; available = cond (grantable c units) (c.available + units) c.available };
  reply = cond (grantable c units) (Ok tt) (Err Refusal.Credit);
}

-- in Frames the whole length if one unit is left
abbrev pub sendable : Units.Unit → (available length : ℕ) → ℕ
sendable Bytes available length = min length available
sendable Frames available length = cond (ltb 0 available) length 0

abbrev pub spent : Credit → ℕ → Credit
spent c cost = record { window = c.window; available = c.available - cost }

abbrev pub credit_fits : Credit → Bool
credit_fits c = leb c.available c.window
