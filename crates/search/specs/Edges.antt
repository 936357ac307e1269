-- Small examples, computed from the definition, of commas (44).
use Rattle.std.specs.Prelude.{◌≡◌, refl, [], ◌∷◌}
use Rattle.search.specs.Search.{index_of}

-- ---- none: the length
empty : index_of 44 [] ≡ 0
unfolding index_of
empty = refl

absent : index_of 44 (43 ∷ 45 ∷ []) ≡ 2
unfolding index_of
absent = refl

-- ---- at both ends, and twice
first : index_of 44 (44 ∷ 97 ∷ []) ≡ 0
unfolding index_of
first = refl

last : index_of 44 (97 ∷ 98 ∷ 44 ∷ []) ≡ 2
unfolding index_of
last = refl

twice : index_of 44 (97 ∷ 44 ∷ 98 ∷ 44 ∷ []) ≡ 1
unfolding index_of
twice = refl
