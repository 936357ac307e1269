-- What the code finds in its table is what the definition finds.
use Rattle.std.proofs.Common.{rules, ◌≡◌, refl, ap, ◌∙◌}
use Rattle.std.specs.Option.{option_copied, option_map}
use Rattle.std.proofs.lemmas.Iterator.{YieldsList-from_slice}
use Rattle.std.proofs.lemmas.Iterator.Search.{find_from_yields_List}
use borrow.Author.Tests.{tests}
use Rattle.octets.specs.Text.{bytes}
use Rattle.exits.specs.Signals.{name_of, is_number}
use Rattle.exits.proofs.Found.{shown, found}
use Rattle.exits.proofs.signals.name_of.Goals as goal

pub returns : goal.returns
unfolding bytes name_of
returns c =
    let test = is_number c.args.number in
    let first =
    find_from_yields_List (λ x. test (shown x)) _ _ c.find.result c.find.ensures.ran (YieldsList-from_slice _ refl)
    (λ x b q k. search (rules, tests)) in
    let told : option_copied c.map.result ≡ option_map (λ x. x.name) (option_map (λ x. shown x.now) c.find.result) = search rules in
    told ∙ ap (option_map (λ x. x.name)) (found test c.iter.result.rest.now _ c.find.result c.iter.ensures.rest refl first)
