-- By whether the message is left.
use Rattle.std.proofs.Common.{◌^◌, ◌<◌, arith, sym, ◌∙◌}
use Rattle.carrier.specs.Carrier.{told}
use Rattle.channel.proofs.Steps.{sent_left, told_fits, sent_told}
use Rattle.channel.proofs.calls.send.Goals as goal

pub returns-then-is_left : goal.returns-then-is_left
returns-then-is_left c =
    let a = c.args in
    sent_left a.runner a.channel a.store.now a.buffer.now _ _ c.ask-saying.ensures (sym c.is_left.ensures ∙ c.if-is_left.true)

pub tell-requires : goal.tell-requires
tell-requires c =
    let a = c.args in
    let n : a.runner.limits.chunk < 2 ^ 32 = grind arith in
    told_fits a.runner a.channel a.store.now a.buffer.now _ _ c.ask-saying.ensures n c.requires c.ask-saying.auto.buffer (sym c.is_left.ensures ∙ c.if-is_left.false)

pub returns : goal.returns
unfolding told
returns c =
    let a = c.args in
    let r = c.tell.ensures.0 in
    let b = c.tell.ensures.1 in
    sent_told a.runner a.channel a.store.now a.buffer.now _ _ c.ask-saying.ensures _ _ _ (rw c.has_notes.ensures at c.seen-outputs.ensures) (sym c.is_left.ensures ∙ c.if-is_left.false) cc
