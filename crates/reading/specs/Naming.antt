-- A field looked up in a table of names and what they stand for.
use Rattle.std.specs.Prelude.{Bool, true, false, cond, ◌≡◌, refl, ℕ, List, [], ◌∷◌, eqb, map, Some, option_map}
use Rattle.std.specs.Cmp.Lexicographic.{pointwise}
use Rattle.std.specs.List as Lists
use denote.Ref.{Bor}
use Rattle.syntax.specs.Words.{same, named}
use Rattle.syntax.specs.Lines.{Entry, entry, find}

-- the table as the code holds it
abbrev pub entries : {A : Type 0} → List (Bor (List ℕ) × A) → List (Entry A)
entries table = map (λ e. entry e.0.now e.1) table

-- `==` of two texts
pub same_pointwise : (s t : List ℕ) → pointwise eqb s t ≡ same s t
unfolding same
same_pointwise [] [] = refl
same_pointwise [] (c ∷ t) = refl
same_pointwise (b ∷ s) [] = refl
same_pointwise (b ∷ s) (c ∷ t) = rw (same_pointwise s t) refl

-- the first entry that has the name, and what it stands for
pub find_entries : {A : Type 0} (field : List ℕ) (table : List (Bor (List ℕ) × A))
    → option_map (λ e. e.1) (Lists.find (λ e. pointwise eqb field e.0.now) table) ≡ find field (entries table)
unfolding find
find_entries field [] = refl
find_entries field (e ∷ t) = rw (same_pointwise field e.0.now) (by (same field e.0.now) (find_entries field t))
  where
    by : (b : Bool) → option_map (λ e. e.1) (Lists.find (λ e. pointwise eqb field e.0.now) t) ≡ find field (entries t)
        → option_map (λ e. e.1) (cond b (Some e) (Lists.find (λ e. pointwise eqb field e.0.now) t)) ≡ cond b (Some e.1) (find field (entries t))
    by true h = refl
    by false h = h

-- what stands for something else, entry by entry
abbrev pub map_calls : {A B : Type 0} → (A → B) → List (Entry A) → List (Entry B)
map_calls f es = map (λ e. entry e.name (f e.call)) es

pub find_map : {A B : Type 0} (f : A → B) (field : List ℕ) (es : List (Entry A))
    → option_map f (find field es) ≡ find field (map_calls f es)
unfolding find
find_map f field [] = refl
find_map f field (e ∷ es) = by (same field e.name) (find_map f field es)
  where
    by : (b : Bool) → option_map f (find field es) ≡ find field (map_calls f es)
        → option_map f (cond b (Some e.call) (find field es)) ≡ cond b (Some (f e.call)) (find field (map_calls f es))
    by true h = refl
    by false h = h

-- a table of calls is a table of names
pub find_named : {A : Type 0} (field : List ℕ) (es : List (Entry A)) → option_map (λ e. e.call) (named (λ e. e.name) es field) ≡ find field es
unfolding find named
find_named field [] = refl
find_named field (e ∷ es) = by (same field e.name) (find_named field es)
  where
    by : (b : Bool) → option_map (λ e. e.call) (named (λ e. e.name) es field) ≡ find field es
        → option_map (λ e. e.call) (cond b (Some e) (named (λ e. e.name) es field)) ≡ cond b (Some e.call) (find field es)
    by true h = refl
    by false h = h
