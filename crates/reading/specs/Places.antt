-- A field by its place among names, what a table has at that place, and a field or a status as parts of a text: laws that stay,
-- though no proof of ours goes by places any more.
use Rattle.std.specs.Prelude.{Bool, true, false, cond, ◌≡◌, refl, List, [], ◌∷◌, ℕ, zero, suc, ◌+◌, ◌-◌, ◌≤◌, ◌<◌, eqb, length, take, drop, get_or, ◌&&◌, Option, Result, Some, None, Ok, Err, option_map}
use Rattle.std.proofs.Common.{sym, ap, ◌∙◌, arith, length-drop, take_all}
use Rattle.exec.specs.declared.LaunchFailure.{LaunchFailure}
use Rattle.exec.specs.declared.Status.{Status}
use Rattle.decimal.specs.Decimal.{signed}
use Rattle.syntax.specs.Words.{same, named}
use Rattle.syntax.specs.Lines.{Entry, find, on, calls1, u32, missing, fields, status}
use Rattle.calls.specs.Call.{Call}
use Rattle.reading.specs.FieldLaws.{comma_at, fields_cut}
use Rattle.reading.specs.Naming.{find_named}

-- the place of what `named` finds; how many there are where it finds none
unfoldable pub place_named : {A : Type 0} → (A → List ℕ) → List A → (field : List ℕ) → ℕ
place_named name [] field = 0
place_named name (x ∷ xs) field = cond (same field (name x)) 0 (suc (place_named name xs field))

abbrev pub place_among : (field : List ℕ) → List (List ℕ) → ℕ
place_among field names = place_named (λ t. t) names field

-- what stands at a place of a list, or else behind the list
unfoldable pub stands_at : {A : Type 0} → List A → ℕ → Option A → Option A
stands_at [] k rest = rest
stands_at (x ∷ xs) zero rest = Some x
stands_at (x ∷ xs) (suc k) rest = stands_at xs k rest

-- the last arm of a `match` on the place knows that it is none of the first n
unfoldable pub Beyond : ℕ → ℕ → Type 0
Beyond r zero = Unit {0}
Beyond r (suc n) = Beyond r n × (r ≡ n → ⊥)

beyond : (r n : ℕ) → Beyond r n → n ≤ r
unfolding Beyond
beyond r zero h = omega arith
beyond r (suc n) h = let l = beyond r n h.0 in let e = h.1 in omega arith

stands_rest : {A : Type 0} (xs : List A) (n k : ℕ) (rest : Option A) → n ≤ k → stands_at (take n xs) k rest ≡ rest
unfolding stands_at
stands_rest [] zero k rest h = refl
stands_rest [] (suc n) k rest h = refl
stands_rest (x ∷ xs) zero k rest h = refl
stands_rest (x ∷ xs) (suc n) zero rest h = absurd (omega arith)
stands_rest (x ∷ xs) (suc n) (suc k) rest h = stands_rest xs n k rest (omega arith)

-- n names of a table are looked at, and then what is left of it
named_place : {A : Type 0} (name : A → List ℕ) (xs : List A) (field : List ℕ) (n : ℕ)
    → stands_at (take n xs) (place_named name (take n xs) field) (named name (drop n xs) field) ≡ named name xs field
unfolding named place_named stands_at
named_place name [] field zero = refl
named_place name [] field (suc n) = refl
named_place name (x ∷ xs) field zero = refl
named_place name (x ∷ xs) field (suc n) = by (same field (name x)) (named_place name xs field n)
  where
    by : (b : Bool) → stands_at (take n xs) (place_named name (take n xs) field) (named name (drop n xs) field) ≡ named name xs field
        → stands_at (x ∷ take n xs) (cond b 0 (suc (place_named name (take n xs) field))) (named name (drop n xs) field) ≡ cond b (Some x) (named name xs field)
    by true h = refl
    by false h = h

module _ {A : Type 0} (name : A → List ℕ) (xs : List A) (field : List ℕ) {r : ℕ} (n : ℕ) where
  pub named_at : (k : ℕ) → r ≡ place_named name (take n xs) field → r ≡ k → stands_at (take n xs) k (named name (drop n xs) field) ≡ named name xs field
  named_at k p e = ap (λ (i : ℕ). stands_at (take n xs) i (named name (drop n xs) field)) (sym e ∙ p) ∙ named_place name xs field n

  named_rest : r ≡ place_named name (take n xs) field → Beyond r n → named name (drop n xs) field ≡ named name xs field
  named_rest p h = sym (stands_rest xs n r (named name (drop n xs) field) (beyond r n h)) ∙ named_at r p refl

  pub named_none : r ≡ place_named name (take n xs) field → Beyond r n → drop n xs ≡ [] → None ≡ named name xs field
  unfolding named
  named_none p h e = sym (ap (λ (ys : List A). named name ys field) e) ∙ named_rest p h

module _ {A : Type 0} (field : List ℕ) (es : List (Entry A)) {r : ℕ} (n : ℕ) where
  pub find_at : (k : ℕ) → r ≡ place_named (λ e. e.name) (take n es) field → r ≡ k
      → option_map (λ e. e.call) (stands_at (take n es) k (named (λ e. e.name) (drop n es) field)) ≡ find field es
  find_at k p e = ap (option_map (λ (e : Entry A). e.call)) (named_at (λ e. e.name) es field n k p e) ∙ find_named field es

  pub find_rest : r ≡ place_named (λ e. e.name) (take n es) field → Beyond r n → find field (drop n es) ≡ find field es
  find_rest p h =
      sym (find_named field (drop n es)) ∙ ap (option_map (λ (e : Entry A). e.call)) (named_rest (λ e. e.name) es field n p h) ∙ find_named field es

  pub find_none : r ≡ place_named (λ e. e.name) (take n es) field → Beyond r n → drop n es ≡ [] → None ≡ find field es
  unfolding find
  find_none p h e = sym (ap (λ (ys : List (Entry A)). find field ys) e) ∙ find_rest p h

-- a call with one argument, by what is left of its table
unfoldable pub call1_from : ℕ → (name a : List ℕ) → Option Call
call1_from n name a = on (find name (drop n calls1)) λ f. f a

pub made1 : (n : ℕ) (name a : List ℕ) (o : Option (List ℕ → Option Call)) → o ≡ find name (drop n calls1) → on o (λ f. f a) ≡ call1_from n name a
unfolding call1_from
made1 n name a o h = ap (λ (o : Option (List ℕ → Option Call)). on o λ f. f a) h

-- ---- the parts of a status and of a launch result

abbrev pub exited_with : List ℕ → Option (Option Status)
exited_with field = option_map (λ n. Some (Status.Exited n)) (signed field)

abbrev pub signaled_with : List ℕ → Option (Option Status)
signaled_with field = option_map (λ n. Some (Status.Signaled n)) (signed field)

abbrev pub failure_of : (stage error : List ℕ) → Option (Result (Unit {0}) LaunchFailure)
failure_of stage error = on (u32 stage) λ n. on (signed error) λ e. Some (Err (record { stage = n; error = e }))

abbrev pub started_of : (stage error : List ℕ) → Option (Result (Unit {0}) LaunchFailure)
started_of stage error = cond (missing stage && missing error) (Some (Ok tt)) None

-- ---- a text

-- the same with the parts of a line as the code makes them
pub fields_at : (s : List ℕ) (at n : ℕ) → at ≡ comma_at s → at ≤ length s → n ≡ length s → (at ≡ n → ⊥)
    → fields s ≡ take (at - 0) s ∷ fields (take (n - (at + 1)) (drop (at + 1) s))
fields_at s at n e l m ne =
    let less : comma_at s < length s = omega arith in
    let start : at - 0 ≡ at = omega arith in
    let all : take (n - (at + 1)) (drop (at + 1) s) ≡ drop (at + 1) s = take_all (n - (at + 1)) (drop (at + 1) s) (simp length-drop (omega arith)) in
    fields_cut s less ∙ rw (start, ← e) (ap (λ (t : List ℕ). take at s ∷ fields t) (sym all))

-- a status by its first byte
pub status_by : (s : List ℕ) (n : ℕ) → n ≡ length s → 1 ≤ n
    → status s
    ≡ cond (missing s) (Some None)
    (cond (eqb (get_or s 0 0) 69) (exited_with (take (n - 1) (drop 1 s)))
    (cond (eqb (get_or s 0 0) 83) (signaled_with (take (n - 1) (drop 1 s))) None))
unfolding status
status_by [] n e h = absurd (omega arith)
status_by (b ∷ s) n e h = let all : take (n - 1) s ≡ s = take_all (n - 1) s (omega arith) in rw all refl
