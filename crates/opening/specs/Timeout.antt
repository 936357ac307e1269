-- 02's A3, of every field: TIMEOUT is `-`, `never`, a number, or is not read; and of every line: what it says is what open is given.
use Rattle.std.specs.Prelude.{Bool, true, false, cond, ◌≡◌, refl, List, [], ℕ, length, get_or, Option, Some, None, option_map}
use Rattle.std.proofs.Common.{sym, ap, ◌∙◌}
use Rattle.std.proofs.lemmas.Bool.{le-leb}
use Rattle.std.proofs.lemmas.Option.{none-some}
use Rattle.exec.specs.declared.Limits.{Limits}
use Rattle.exec.specs.declared.Timers.{Timers}
use Rattle.exec.specs.Key.{new_key}
use Rattle.octets.specs.Text.{same_is}
use Rattle.syntax.specs.Lines.{on, fields, u64}
use Rattle.syntax.specs.Table.{calls}
use Rattle.syntax.specs.Words.{bytes, same}
use Rattle.opening.specs.Open.{Opening, at, timeout, is_open, open_of, opening_of, limits_of, timers_of, smallest_of, line_open}
use Rattle.opening.specs.Says.{Says}

-- ---- the field

unlike : (s t : List ℕ) → (s ≡ t → ⊥) → same s t ≡ false
unlike s t n = by (same s t) refl
  where
    by : (b : Bool) → same s t ≡ b → b ≡ false
    by true e = absurd (n (same_is s t e))
    by false e = refl

-- every field but `-` and `never` is a number or none
pub number_else : (field : List ℕ) → (field ≡ bytes "-" → ⊥) → (field ≡ bytes "never" → ⊥)
    → timeout field ≡ option_map Some (u64 field)
unfolding timeout
number_else field m n = rw (unlike field (bytes "-") m, unlike field (bytes "never") n) refl

-- neither of which is a number
no_number : (u64 (bytes "-") ≡ None) × (u64 (bytes "never") ≡ None)
unfolding calls
no_number = (refl, refl)

pub number_itself : (field : List ℕ) (n : ℕ) → u64 field ≡ Some n → timeout field ≡ Some (Some n)
number_itself field n e =
    number_else field (λ h. other (bytes "-") h no_number.0) (λ h. other (bytes "never") h no_number.1)
    ∙ ap (option_map Some) e
  where
    other : (t : List ℕ) → field ≡ t → u64 t ≡ None → ⊥
    other t h x = none-some n (sym x ∙ ap (λ (t : List ℕ). u64 t) (sym h) ∙ e)

-- ---- the line

-- a line whose TIMEOUT is not read opens nothing
unread : (now id generation : Option ℕ) (l : Option Limits) (smallest : Option ℕ)
    → ◌≡◌ {A = Option Opening} (on now λ n. on id λ i. on generation λ g. on l λ k. on {A = Timers} None λ x. on smallest λ s. Some (record { conf = record { key = new_key i g; limits = k; timers = x; smallest = s }; now = n })) None
unread None id generation l smallest = refl
unread (Some n) None generation l smallest = refl
unread (Some n) (Some i) None l smallest = refl
unread (Some n) (Some i) (Some g) None smallest = refl
unread (Some n) (Some i) (Some g) (Some k) smallest = refl

no_timers : (fs : List (List ℕ)) → timers_of fs ≡ None → open_of fs ≡ None
unfolding open_of opening_of
no_timers fs h = rw h (by (is_open fs))
  where
    by : (b : Bool) → cond b (on (u64 (at fs 1)) λ n. on (u64 (at fs 2)) λ i. on (u64 (at fs 3)) λ g. on (limits_of fs) λ k. on {A = Timers} {B = Opening} None λ x. on (smallest_of fs) λ s. Some (record { conf = record { key = new_key i g; limits = k; timers = x; smallest = s }; now = n })) None ≡ None
    by true = unread (u64 (at fs 1)) (u64 (at fs 2)) (u64 (at fs 3)) (limits_of fs) (smallest_of fs)
    by false = refl

pub line_bad : (line : List ℕ) → timeout (get_or (fields line) 10 []) ≡ None → line_open line ≡ None
unfolding timers_of
line_bad line h = no_timers (fields line) (rw h refl)

-- A LINE THAT SAYS AN OPENING OPENS WITH IT
pub line_opens : (line : List ℕ) (o : Opening) → Says line o → line_open line ≡ Some o
unfolding is_open open_of opening_of limits_of timers_of same bytes
line_opens line o h =
    let fs = fields line in
    rw (le-leb 13 (length fs) h.count.0, le-leb (length fs) 14 h.count.1, h.name, h.now, h.id, h.generation, h.chunk, h.input_unit, h.input_size, h.output_unit, h.output_size, h.shared, h.limit, h.grace, h.settlement, h.smallest) refl
