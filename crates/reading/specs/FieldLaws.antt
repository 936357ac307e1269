-- Where the fields of a line are cut.
use Rattle.std.specs.Prelude.{Bool, true, false, cond, ◌≡◌, refl, List, [], ◌∷◌, ℕ, suc, ◌+◌, ◌-◌, ◌≤◌, ◌<◌, eqb, length, take, drop, get_or, Option, Some, None, option_map}
use denote.Ref.{Bor}
use Rattle.std.proofs.Common.{ap, ◌∙◌, arith, add-one, length-drop, take_all}
use Rattle.search.specs.Search.{index_of}
use Rattle.syntax.specs.Lines.{in_first, missing, fields, status, call_of}
use Rattle.exec.specs.declared.Status.{Status}
use Rattle.decimal.specs.Decimal.{signed}

-- the index of the first comma, or the length where there is none
abbrev pub comma_at : List ℕ → ℕ
comma_at = index_of 44

-- no comma: one field
pub fields_last : (s : List ℕ) → comma_at s ≡ length s → fields s ≡ s ∷ []
unfolding index_of fields
fields_last [] h = refl
fields_last (b ∷ s) h = by (eqb b 44) (fields_last s) h
  where
    by : (e : Bool) → (comma_at s ≡ length s → fields s ≡ s ∷ []) → cond e 0 (suc (comma_at s)) ≡ suc (length s)
        → cond e ([] ∷ fields s) (in_first b (fields s)) ≡ (b ∷ s) ∷ []
    by true f h = absurd (omega arith)
    by false f h = ap (in_first b) (f (omega arith))

-- a comma: the field before it, and the fields behind
cut : (s : List ℕ) → comma_at s < length s → fields s ≡ take (comma_at s) s ∷ fields (drop (suc (comma_at s)) s)
unfolding index_of fields
cut [] h = absurd (omega arith)
cut (b ∷ s) h = by (eqb b 44) (cut s) h
  where
    by : (e : Bool) → (comma_at s < length s → fields s ≡ take (comma_at s) s ∷ fields (drop (suc (comma_at s)) s)) → cond e 0 (suc (comma_at s)) < suc (length s)
        → cond e ([] ∷ fields s) (in_first b (fields s)) ≡ take (cond e 0 (suc (comma_at s))) (b ∷ s) ∷ fields (drop (suc (cond e 0 (suc (comma_at s)))) (b ∷ s))
    by true f h = refl
    by false f h = ap (in_first b) (f (omega arith))

pub fields_cut : (s : List ℕ) → comma_at s < length s → fields s ≡ take (comma_at s) s ∷ fields (drop (comma_at s + 1) s)
fields_cut s h = rw add-one (cut s h)

-- the fields that are left of a text that is cut behind its first
abbrev pub fields_left : Option (Bor (List ℕ)) → List (List ℕ)
fields_left None = []
fields_left (Some rest) = fields rest.now

-- there is a first field always
pub record Begun (fs : List (List ℕ)) : Type 0 where
  pub head : List ℕ
  pub tail : List (List ℕ)
  pub is : fs ≡ head ∷ tail

first_of : (b : ℕ) (e : Bool) (fs : List (List ℕ)) → Begun fs → Begun (cond e ([] ∷ fs) (in_first b fs))
first_of b true fs x = record { head = []; tail = fs; is = refl }
first_of b false fs x = record { head = b ∷ x.head; tail = x.tail; is = ap (in_first b) x.is }

pub fields_some : (s : List ℕ) → Begun (fields s)
unfolding fields
fields_some [] = record { head = []; tail = []; is = refl }
fields_some (b ∷ s) = first_of b (eqb b 44) (fields s) (fields_some s)

-- five arguments or more are none
pub five_none : (name a b c d t : List ℕ) → call_of (name ∷ a ∷ b ∷ c ∷ d ∷ fields t) ≡ None
unfolding call_of
five_none name a b c d t = let f = fields_some t in rw f.is refl

-- the same with the parts of a text as the code makes them
pub fields_at : (s : List ℕ) (at : ℕ) → comma_at s ≡ at → at < length s → fields s ≡ take at s ∷ fields (take (length s - (at + 1)) (drop (at + 1) s))
fields_at s at e l =
    let all : take (length s - (at + 1)) (drop (at + 1) s) ≡ drop (at + 1) s = take_all (length s - (at + 1)) (drop (at + 1) s) (simp length-drop (omega arith)) in
    fields_cut s (omega arith) ∙ rw (e, all) refl

-- a status by its first byte
pub status_by : (s : List ℕ) → 1 ≤ length s
    → status s
    ≡ cond (missing s) (Some None)
    (cond (eqb (get_or s 0 0) 69) (option_map (λ n. Some (Status.Exited n)) (signed (drop 1 s)))
    (cond (eqb (get_or s 0 0) 83) (option_map (λ n. Some (Status.Signaled n)) (signed (drop 1 s))) None))
unfolding status
status_by [] h = absurd (omega arith)
status_by (b ∷ s) h = refl

pub status_none : (s : List ℕ) → length s ≡ 0 → status s ≡ None
unfolding status
status_none [] e = refl
status_none (b ∷ s) e = absurd (omega arith)
