-- The parts of a split are the fields.
use Rattle.std.proofs.Common.{rules, tests, ap, ◌∙◌, length, eqb}
use Rattle.std.proofs.lemmas.Iterator.Consumers.{count_from_yields_List}
use Rattle.std.proofs.lemmas.Iterator.Splits.{YieldsList-from_slice_split}
use Rattle.opening.specs.PlaceLaws.{split_fields}
use Rattle.opening.proofs.count.Goals as goal

pub returns : goal.returns
returns c =
    count_from_yields_List _ _ c.count.ensures.ran
    (YieldsList-from_slice_split _ (λ b. eqb b 44) c.args.line.now c.split.ensures.rest c.split.ensures.done c.split.ensures.closure (λ x b q k. search (rules, tests)))
    ∙ ap length (split_fields _)
