-- The input is in range, and its lengths stand in a store that does.
use Rattle.runner.proofs.Guards.{lengths_good}
use Rattle.runner.proofs.runner.Runner.input_written.Goals as goal

pub written-writing-requires : goal.written-writing-requires
written-writing-requires c =
    let a = c.args in
    let g = lengths_good a.self c.stands.ensures c.agrees.ensures c.if-good.true a.lengths.now c.lengths_do-enough.ensures in
    record { range = g.0.input; slots = g.1 }
