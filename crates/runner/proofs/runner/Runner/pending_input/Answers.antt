-- The inbox waits in a store that does.
use Rattle.std.proofs.Common.{sym, ◌∙◌}
use Rattle.inbox.specs.RangeLaws.{is_waiting}
use Rattle.runner.proofs.Guards.{admitted_bytes}
use Rattle.runner.proofs.runner.Runner.pending_input.Goals as goal

pub pending-requires : goal.pending-requires
pending-requires c =
    let a = c.args in
    let g = admitted_bytes a.self a.store.now _ c.bytes_do.ensures (sym c.check.ensures ∙ c.in_ok-check.was) in
    is_waiting a.self.limits a.self.input.window a.self.input.inbox g.0.input a.store.now g.1
