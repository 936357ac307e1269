-- No more bytes wait than the store has.
use Rattle.std.proofs.Common.{arith, refl, sym, ap}
use Rattle.account.specs.Step.{answer, waits}
use Rattle.making.specs.Making.{pending_most, copied_first}
use Rattle.making.proofs.pending_input.Goals as goal

pub copy_in-requires : goal.copy_in-requires
copy_in-requires c =
    let m = pending_most _ _ _ (sym c.in-Ok.ensures) in
    (omega (arith, m), omega arith)

pub returns-in-Ok : goal.returns-in-Ok
unfolding answer
returns-in-Ok c =
    let m = pending_most _ _ _ (sym c.in-Ok.ensures) in
    rw (c.copy_in.ensures, copied_first c.args.work.now c.in-Ok.pending.now _ refl (omega (arith, m))) (ap waits c.in-Ok.ensures)
