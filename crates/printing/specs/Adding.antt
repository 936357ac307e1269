-- What is added to a text in a lent area, piece by piece.
use Rattle.std.specs.Prelude.{◌≡◌, List, [], ◌∷◌, ◌++◌, ℕ, ◌+◌, ◌≤◌, length}
use Rattle.std.proofs.Common.{◌∙◌}
use Rattle.printing.specs.declared.Text.{Text}
use Rattle.printing.specs.Written.{Wrote, joined, joined_two, within, same_text}

-- the most bytes of an answer behind its line number: a word of 12, 20 digits and 131,072 of hexadecimal, with two commas
abbrev pub answer_most : ℕ
answer_most = 131106

-- a word of an answer
abbrev pub IsWord : List ℕ → Type 0
IsWord name = length name ≤ 12

-- so many bytes of the area are free behind the text
abbrev pub HasRoom : (most : ℕ) → Text → Type 0
HasRoom most t = t.end + most ≤ length t.area.now

-- `t` became `u`, in the same area, by these bytes behind what it had, which are at most `most`
pub record Adds (most : ℕ) (t u : Text) (bs : List ℕ) : Type 0 where
  pub wrote : Wrote most t.area.now u.area.now t.end u.end bs
  pub same : u.area.ghost_name ≡ t.area.ghost_name

-- ONE PIECE BEHIND THE OTHER
pub both : {a b : ℕ} {t u v : Text} {p q : List ℕ} → Adds a t u p → Adds b u v q → Adds (a + b) t v (p ++ q)
both x y = record { wrote = joined x.wrote y.wrote; same = y.same ∙ x.same }

-- with a larger bound, and told otherwise
pub at_most : {a b : ℕ} {t u : Text} {p : List ℕ} → Adds a t u p → a ≤ b → Adds b t u p
at_most x h = record { wrote = within x.wrote h; same = x.same }

pub told_as : {a : ℕ} {t u : Text} {p q : List ℕ} → p ≡ q → Adds a t u p → Adds a t u q
told_as e x = record { wrote = same_text e x.wrote; same = x.same }

-- a piece, and behind it a mark of one byte and a field
pub marked : {a b : ℕ} {t u v : Text} {p field : List ℕ} {mark : ℕ} → Adds a t u p → Adds b u v (mark ∷ field)
    → Adds (a + b) t v (p ++ (mark ∷ []) ++ field)
marked {field} {mark} x y = record { wrote = joined_two (mark ∷ []) field x.wrote y.wrote; same = y.same ∙ x.same }
