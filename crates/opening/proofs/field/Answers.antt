-- The parts of a split are the fields.
use Rattle.std.proofs.Common.{◌≡◌, refl, rules, tests, ap, ◌∙◌, ℕ, List, [], Option, Some, None, option_map, Bor, eqb}
use Rattle.std.specs.Option.{unwrap_or}
use Rattle.std.proofs.lemmas.Option.{unwrap_or-slice_get}
use Rattle.std.specs.List.{slice_get}
use Rattle.syntax.specs.Lines.{fields}
use Rattle.std.proofs.lemmas.Iterator.Consumers.{nth_from_yields_List}
use Rattle.std.proofs.lemmas.Iterator.Splits.{YieldsList-from_slice_split}
use Rattle.opening.specs.PlaceLaws.{split_fields}
use Rattle.opening.proofs.field.Goals as goal

shown : (r : Option (Bor (List ℕ))) (d : Bor (List ℕ)) → (unwrap_or r d).now ≡ unwrap_or (option_map (λ x. x.now) r) d.now
shown None d = refl
shown (Some x) d = refl

pub returns : goal.returns
returns c =
    let part =
    nth_from_yields_List c.nth.result c.nth.new.self c.args.k c.nth.ensures.ran
    (YieldsList-from_slice_split _ (λ b. eqb b 44) c.args.line.now c.split.ensures.rest c.split.ensures.done c.split.ensures.closure (λ x b q k. search (rules, tests))) in
    ap (λ (x : Bor (List ℕ)). x.now) c.unwrap_or.ensures
    ∙ shown c.nth.result _
    ∙ ap (λ (o : Option (List ℕ)). unwrap_or o []) (part ∙ ap (λ (fs : List (List ℕ)). slice_get fs c.args.k) (split_fields _))
    ∙ unwrap_or-slice_get (fields c.args.line.now) c.args.k []
