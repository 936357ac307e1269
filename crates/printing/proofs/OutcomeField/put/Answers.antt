-- Each part stands behind the one before it.
use Rattle.syntax.specs.Words.{bytes}
use Rattle.printing.specs.Adding.{both, marked}
use Rattle.printing.proofs.OutcomeField.put.Goals as goal

pub returns : goal.returns
unfolding bytes
returns c =
    let ended = marked (marked c.put.ensures c.put_after.ensures) c.put_after-2.ensures in
    let failed = marked ended c.put_after-3.ensures in
    marked (both (marked failed c.put_after-4.ensures) c.put-2.ensures) c.put_after-5.ensures
