-- What the code finds in its table is what the definition finds.
use Rattle.std.proofs.Common.{rules, ◌≡◌, refl, ap, ◌∙◌}
use Rattle.std.specs.Option.{option_map}
use Rattle.std.proofs.lemmas.Iterator.{YieldsList-from_slice}
use Rattle.std.proofs.lemmas.Iterator.Search.{find_from_yields_List}
use borrow.Author.Tests.{tests}
use Rattle.octets.specs.Text.{bytes}
use Rattle.exits.specs.Signals.{number_of, is_named}
use Rattle.exits.proofs.Found.{shown, found, compared}
use Rattle.exits.proofs.signals.number_of.Goals as goal

pub returns : goal.returns
unfolding bytes number_of
returns c =
    let test = is_named c.args.name.now in
    let first =
    find_from_yields_List (λ x. test (shown x)) _ _ c.find.result c.find.ensures.ran (YieldsList-from_slice _ refl)
    (λ x b q k. search (rules, tests, compared)) in
    let told : c.map.result ≡ option_map (λ x. x.number) (option_map (λ x. shown x.now) c.find.result) = search rules in
    told ∙ ap (option_map (λ x. x.number)) (found test c.iter.result.rest.now _ c.find.result c.iter.ensures.rest refl first)
