-- The input is in range, its bytes and lengths stand in stores that do, and what is held then is no more than the need.
use Rattle.std.proofs.Common.{arith, refl}
use Rattle.runner.proofs.Flows.{received_small}
use Rattle.runner.proofs.Guards.{heard, stores_good}
use Rattle.runner.proofs.runner.Runner.input.Goals as goal

pub receive-receiving-requires : goal.receive-receiving-requires
receive-receiving-requires c =
    let a = c.args in
    let h = heard a.self a.key _ _ c.hears.ensures c.if-hears.true in
    let g = stores_good a.self c.stands.ensures c.agrees.ensures h.good a.store.now a.lengths.now _ _ refl c.bytes_do.ensures c.lengths_do.ensures in
    record { range = g.0.input; bytes = g.1; slots = g.2 }

pub mark-requires : goal.mark-requires
mark-requires c =
    let a = c.args in
    let h = heard a.self a.key _ _ c.hears.ensures c.if-hears.true in
    let g = stores_good a.self c.stands.ensures c.agrees.ensures h.good a.store.now a.lengths.now _ _ refl c.bytes_do.ensures c.lengths_do.ensures in
    received_small a.self a.bytes.now a.store.now a.lengths.now _ _ _ g.0 c.receive-receiving.ensures (omega (arith, g.1))
