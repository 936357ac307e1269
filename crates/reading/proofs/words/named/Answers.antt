-- The entry that is found first, and its value.
use Rattle.std.proofs.Common.{◌≡◌, rules, tests, ap, ◌∙◌, eqb, ℕ, List, Bor, Option, Some, None, option_map}
use Rattle.std.specs.Cmp.Lexicographic.{pointwise}
use Rattle.std.specs.Option.{MatchOption, IsSomeAnd}
use Rattle.std.proofs.lemmas.Iterator.{YieldsList-from_slice}
use Rattle.std.proofs.lemmas.Iterator.Search.{find_from_yields_List}
use Rattle.reading.specs.Naming.{find_entries}
use Rattle.reading.proofs.words.named.Goals as goal

mapped : {V : Type 0} (P : Bor (Bor (List ℕ) × V) → V → Type 0) (r : Option (Bor (Bor (List ℕ) × V))) (m : Option V)
    → MatchOption r (m ≡ None) (λ x. IsSomeAnd m (P x)) → ((x : _) (y : V) → P x y → y ≡ x.now.1) → m ≡ option_map (λ e. e.1) (option_map (λ x. x.now) r)
mapped P None m h value = h
mapped P (Some x) None h value = search rules
mapped P (Some x) (Some y) h value = ap Some (value x y h)

pub returns : goal.returns
returns g c =
    let found = find_from_yields_List (λ e. pointwise eqb c.args.field.now e.0.now) _ _ _ c.find.ensures.ran (YieldsList-from_slice c.args.table.now (cc)) (λ x b q k. search (rules, tests)) in
    mapped _ c.find.result c.map.result c.map.ensures.cases (λ x y h. search (rules, tests))
    ∙ ap (option_map (λ e. e.1)) found
    ∙ find_entries _ _
