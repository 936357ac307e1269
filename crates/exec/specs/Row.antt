-- Three things in a row, in the order of Stream::ALL, by position; `other` stands for one that is not there.
use Rattle.std.specs.Prelude.{ℕ, cond, ◌||◌, List, [], ◌∷◌, eqb, get_or}

abbrev pub at : {A : Type 0} → ℕ → (other : A) → List A → A
at i other row = cond (eqb i 0) (get_or row 0 other) (cond (eqb i 1) (get_or row 1 other) (get_or row 2 other))

abbrev pub put : {A : Type 0} → ℕ → (item other : A) → List A → List A
put i item other row =
    cond (eqb i 0) item (get_or row 0 other)
    ∷ cond (eqb i 1) item (get_or row 1 other)
    ∷ cond (eqb i 0 || eqb i 1) (get_or row 2 other) item
    ∷ []
