-- The runner is in range.
use Rattle.std.proofs.Common.{sym, ◌∙◌}
use Rattle.runner.specs.RangeLaws.{goes_at, is_good_lem}
use Rattle.runner.proofs.runner.Runner.read_allowance.Goals as goal

pub allowance-requires : goal.allowance-requires
allowance-requires c = (is_good_lem _ _ (goes_at _ _ _ (sym c.check_at.ensures ∙ c.in_ok-check_at.was)).1).range
