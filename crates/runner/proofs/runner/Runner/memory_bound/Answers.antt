-- The need is one that a store can have.
use Rattle.std.proofs.Common.{sym, ◌∙◌}
use Rattle.runner.specs.RangeLaws.{is_good_lem}
use Rattle.runner.proofs.runner.Runner.memory_bound.Goals as goal

pub byte_need-requires : goal.byte_need-requires
byte_need-requires c = (is_good_lem _ _ (sym c.check.ensures ∙ c.in_ok-check.was)).need
