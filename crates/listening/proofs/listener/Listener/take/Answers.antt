-- A byte within a line prints nothing.
use Rattle.std.proofs.Common.{sym, ne_eqb}
use Rattle.printing.specs.Adding.{told_as}
use Rattle.listening.specs.Listens.{adds_none, eat_held}
use Rattle.listening.proofs.listener.Listener.take.Goals as goal

pub returns-else-byte-eq10-clause-said : goal.returns-else-byte-eq10-clause-said
returns-else-byte-eq10-clause-said c = told_as (sym (eat_held _ c.args.byte (ne_eqb _ _ c.if-byte-eq10.false))) (adds_none 150 _ c.requires)
