-- The fields of a line: the parts that `split` gives, how many, and each by its place.
use Rattle.std.specs.Prelude.{◌≡◌, refl, List, [], ◌∷◌, ℕ, suc, ◌+◌, ◌<◌, eqb, length, take, drop, count_by}
use Rattle.std.specs.List.{slice_split, onto_first}
use Rattle.std.proofs.Common.{sym, ap, ◌∙◌, arith, add-one, take_all}
use Rattle.std.proofs.Math.Decide.{dec_lt}
use Rattle.std.proofs.lemmas.List.Splits.{length-slice_split}
use Rattle.search.specs.SearchLaws.{index_most}
use Rattle.syntax.specs.Lines.{in_first, fields}
use Rattle.reading.specs.FieldLaws.{comma_at, fields_last, fields_cut}
use Rattle.opening.specs.Open.{at}

first_same : (b : ℕ) (fs : List (List ℕ)) → onto_first b fs ≡ in_first b fs
first_same b [] = refl
first_same b (f ∷ fs) = refl

pub split_fields : (s : List ℕ) → slice_split (λ b. eqb b 44) s ≡ fields s
unfolding fields
split_fields [] = refl
split_fields (b ∷ s) = rw (split_fields s, first_same b (fields s)) refl

-- one field more than there are commas
pub fields_count : (s : List ℕ) → length (fields s) ≡ count_by (λ b. eqb b 44) s + 1
fields_count s = ap length (sym (split_fields s)) ∙ length-slice_split (λ b. eqb b 44) s

-- the first field ends at the first comma
pub first_field : (s : List ℕ) → at (fields s) 0 ≡ take (comma_at s) s
first_field s =
    elim (dec_lt (comma_at s) (length s)) [
      | yes h ↦ rw (fields_cut s h) refl
      | no h ↦ let e : comma_at s ≡ length s = omega (arith, index_most 44 s) in rw (fields_last s e) (sym (take_all (comma_at s) s (omega arith)))
    ]

-- one field further on: behind the first comma, or none
pub place_on : (s : List ℕ) (m : ℕ) → comma_at s < length s → at (fields s) (m + 1) ≡ at (fields (drop (comma_at s + 1) s)) m
place_on s m h = ap (at (fields s)) (add-one m) ∙ ap (λ (fs : List (List ℕ)). at fs (suc m)) (fields_cut s h)

pub place_end : (s : List ℕ) (m : ℕ) → comma_at s ≡ length s → at (fields s) (m + 1) ≡ []
place_end s m e = ap (at (fields s)) (add-one m) ∙ rw (fields_last s e) refl
