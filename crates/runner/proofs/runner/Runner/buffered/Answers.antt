-- What is held is no more than the need of the byte store.
use Rattle.std.proofs.Common.{arith, sym, ◌∙◌, true, ◌-◌, ◌^◌, leb-true}
use Rattle.inbox.specs.Need.{byte_need}
use Rattle.runner.proofs.Flows.{held_fits}
use Rattle.runner.specs.RangeLaws.{is_good_lem}
use Rattle.runner.proofs.runner.Runner.buffered.Goals as goal

pub held-requires : goal.held-requires
held-requires c =
    let r = c.args.self in
    let g = is_good_lem r true (sym c.check.ensures ∙ c.in_ok-check.was) in
    omega (arith, held_fits r g.range, leb-true (byte_need r.limits) (2 ^ 64 - 1) g.need)
