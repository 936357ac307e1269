-- Behind the word stands what is missing, number and bytes.
use Rattle.std.proofs.Common.{[], ◌∷◌, ◌∙◌, arith}
use Rattle.syntax.specs.Words.{bytes}
use Rattle.printing.specs.Written.{joined_four, within}
use Rattle.printing.proofs.Text.alone.Goals as goal

pub returns : goal.returns
unfolding bytes
returns c =
    let x = c.put.ensures in
    let y = c.put-2.ensures in
    record {
      wrote = within (joined_four (44 ∷ []) (45 ∷ []) (44 ∷ []) (45 ∷ []) x.wrote y.wrote) (omega arith);
      same = y.same ∙ x.same;
    }
