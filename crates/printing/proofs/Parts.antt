-- An i32 handed on is the same.
use Rattle.std.proofs.Common.{List, ℕ, ℤ, ap, SFits}
use mir.Syntax.{w32}
use mir.Val.{to_z, of_z}
use mir.ValLaws.{to_z-of_z}
use Rattle.printing.specs.declared.Text.{Text}
use Rattle.printing.specs.Adding.{Adds, told_as}

pub handed_on : {n : ℕ} {t u : Text} (text : ℤ → List ℕ) (z : ℤ) → SFits w32 z → Adds n t u (text (to_z w32 (of_z w32 z))) → Adds n t u (text z)
handed_on text z fit x = told_as (ap text (to_z-of_z w32 z fit)) x
