-- The lines of a text, for a card and for a log.
use Rattle.std.specs.Prelude.{false, cond, ◌≡◌, List, [], ◌∷◌, ◌++◌, ℕ, eqb}

-- a byte before them stands at the start of the first
abbrev pub start_with : ℕ → (lines : List (List ℕ)) → List (List ℕ)
start_with b [] = (b ∷ []) ∷ []
start_with b (l ∷ ls) = (b ∷ l) ∷ ls

-- 0a ends a line, and so does the end of the text where a line has begun
unfoldable pub lines_in : (text : List ℕ) → List (List ℕ)
lines_in [] = []
lines_in (b ∷ text) = cond (eqb b 10) ([] ∷ lines_in text) (start_with b (lines_in text))

-- the text of lines, each with its 0a
abbrev pub joined : (lines : List (List ℕ)) → List ℕ
joined [] = []
joined (l ∷ ls) = l ++ (10 ∷ joined ls)

-- a text, with a 0a behind it where a line has begun
abbrev pub closed : (text : List ℕ) → List ℕ
closed [] = []
closed (b ∷ []) = cond (eqb b 10) (b ∷ []) (b ∷ 10 ∷ [])
closed (b ∷ c ∷ text) = b ∷ closed (c ∷ text)

abbrev pub NoEnd : (line : List ℕ) → Type 0
NoEnd [] = Unit
NoEnd (b ∷ line) = (eqb b 10 ≡ false) × NoEnd line

abbrev pub NoEnds : (lines : List (List ℕ)) → Type 0
NoEnds [] = Unit
NoEnds (l ∷ ls) = NoEnd l × NoEnds ls

-- THE LINES OF A TEXT ARE THE TEXT, CUT AT EACH 0a
pub record Cut (text : List ℕ) : Type 0 where
  pub whole : joined (lines_in text) ≡ closed text
  pub plain : NoEnds (lines_in text)
