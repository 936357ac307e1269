-- Credit that was chosen is due, and the units stay within the window; an output is paid for, queued in a store that does, and fits the buffer.
use Rattle.std.proofs.Common.{arith, sym, ap, ◌∙◌}
use Rattle.runner.specs.MessageLaws.{is_said, credit_due, is_payable, is_sendable}
use Rattle.runner.proofs.runner.Runner.say.Goals as goal

pub take_credit-crediting-requires : goal.take_credit-crediting-requires
take_credit-crediting-requires c =
    let a = c.args in
    let e = c.in-Credit.is in
    let p = c.requires (ap is_said e) in
    (credit_due a.self _ (sym e ∙ p.2), omega (arith, p.0.input.units, c.well_formed.0.1.1.1.0.1.1.1.0.1.1.1.0.1))

pub paid-paid-requires : goal.paid-paid-requires
paid-paid-requires c =
    let a = c.args in
    let e = c.in-Output.is in
    let p = c.requires (ap is_said e) in
    is_payable a.self _ _ a.store.now a.buffer.now p.0 p.1 (sym e ∙ p.2)

pub sent-sent-requires : goal.sent-sent-requires
sent-sent-requires c =
    let e = c.in-Output.is in
    let p = c.requires (ap is_said e) in
    is_sendable _ _ _ _ _ p.0 p.1 (sym e ∙ p.2)
