-- Where no line has begun, nothing is said of it.
use Rattle.std.proofs.Common.{sym, arith}
use Rattle.printing.specs.Adding.{told_as}
use Rattle.listening.specs.Listens.{adds_none, ended_none, held_most}
use Rattle.listening.proofs.listener.Listener.end_held.Goals as goal

pub returns-else-self-gt0-clause-said : goal.returns-else-self-gt0-clause-said
returns-else-self-gt0-clause-said c =
    let x = c.args.self.now in
    told_as (sym (ended_none _ (omega (arith, held_most x.held x.line (omega arith), c.if-self-gt0.false)))) (adds_none 100 _ c.requires)
