-- The stream is open and its queue in range, its ring stands in a store that does, and what is held then is no more than the store's need.
use Rattle.std.proofs.Common.{arith, sym, ◌∙◌}
use Rattle.inbox.specs.RangeLaws.{both}
use Rattle.runner.specs.MessageLaws.{area_of}
use Rattle.runner.proofs.Flows.{filled_small}
use Rattle.runner.proofs.Guards.{bytes_good}
use Rattle.runner.proofs.runner.Runner.output.Goals as goal

pub take_in-intake-requires : goal.take_in-intake-requires
take_in-intake-requires c =
    let a = c.args in
    let p = both _ _ c.if-good-has.true in
    let g = bytes_good a.self c.stands.ensures c.agrees.ensures p.0 a.store.now c.bytes_do-enough.ensures in
    let q = g.0.queue a.stream in
    rw (c.out_of-output.ensures, c.ring_base-base.ensures) (area_of a.self a.stream a.store.now (sym c.has.ensures ∙ p.1) g.1, q.begins, q.most)

pub mark-requires : goal.mark-requires
mark-requires c =
    let a = c.args in
    let g = bytes_good a.self c.stands.ensures c.agrees.ensures (both _ _ c.if-good-has.true).0 a.store.now c.bytes_do-enough.ensures in
    filled_small a.self a.stream a.bytes.now a.store.now _ _ _ _ _ c.out_of-output.ensures c.take_in-intake.ensures c.put_output-outputs.ensures g.0
    (omega (arith, g.1))
