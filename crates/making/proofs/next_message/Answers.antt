-- The message's buffer is the part of `work` that was cleared.
use Rattle.std.proofs.Common.{◌≡◌, ◌-◌, ◌∙◌, rules, arith, ap, sym, length, take}
use Rattle.runner.specs.Calls.{next_message}
use Rattle.syntax.specs.Lines.{zeros}
use Rattle.making.specs.Making.{cleared, said_made}
use Rattle.making.proofs.Kept.{said_moved, said_kept}
use Rattle.making.proofs.next_message.Goals as goal

pub returns : goal.returns
returns c =
    let a = c.args in
    let buffer = c.next_message-saying.new.buffer in
    let size : length buffer ≡ a.n - 0 = search rules in
    let lent : take (a.n - 0) c.clear.new.work ≡ zeros a.n = cleared a.work.now c.clear.new.work a.n c.clear.ensures in
    let e = c.next_message-saying.ensures ∙ ap (next_message a.runner.now a.store.now) lent in
    let m = said_made a.runner.now a.store.now a.n _ buffer _ c.into.result e (omega arith) c.into.ensures in
    (ap (said_moved a.runner.now) m.0 ∙ sym (said_kept a.runner.now a.store.now (zeros a.n)), m.1)
