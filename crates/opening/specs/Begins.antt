-- The fields of a line by where they begin: laws that stay, though the code splits a line now.
use Rattle.std.specs.Prelude.{Bool, true, false, cond, ◌≡◌, refl, List, [], ◌∷◌, ℕ, zero, suc, ◌+◌, ◌-◌, ◌≤◌, ◌<◌, eqb, length, take, drop, get_or}
use Rattle.std.proofs.Common.{sym, ap, ◌∙◌, arith, add-one, eq-eqb, ne_eqb, length-drop, drop-cons, take_all, drop-drop}
use Rattle.std.proofs.Math.Decide.{dec_lt}
use Rattle.std.proofs.Math.Seq.{drop-length}
use Rattle.search.specs.SearchLaws.{index_most}
use Rattle.syntax.specs.Lines.{in_first, fields}
use Rattle.reading.specs.FieldLaws.{Begun, comma_at, fields_last, fields_cut, fields_some}
use Rattle.opening.specs.Open.{at}

-- where the text behind the first field begins; the text's end, where there is one field only
unfoldable pub behind_of : List ℕ → ℕ
behind_of s = cond (eqb (comma_at s) (length s)) (length s) (comma_at s + 1)

-- i is where the k-th field begins
pub record Begins (s : List ℕ) (k i : ℕ) : Type 0 where
  pub is : at (fields s) k ≡ at (fields (drop i s)) 0
  pub most : i ≤ length s

-- one field further on
none_left : (m : ℕ) → at ([] ∷ []) m ≡ []
none_left zero = refl
none_left (suc m) = refl

pub place_on : (t : List ℕ) (m : ℕ) → comma_at t ≤ length t → at (fields t) (m + 1) ≡ at (fields (drop (behind_of t) t)) m
unfolding behind_of fields
place_on t m l =
    elim (dec_lt (comma_at t) (length t)) [
      | yes h ↦
          let b : cond (eqb (comma_at t) (length t)) (length t) (comma_at t + 1) ≡ comma_at t + 1 = simp (ne_eqb (comma_at t) (length t) (λ e. absurd (omega arith))) in
          ap (at (fields t)) (add-one m)
          ∙ ap (λ (fs : List (List ℕ)). at fs (suc m)) (fields_cut t h)
          ∙ sym (ap (λ (k : ℕ). at (fields (drop k t)) m) b)
      | no h ↦ let e : comma_at t ≡ length t = omega arith in rw (eq-eqb (comma_at t) (length t) e, fields_last t e, drop-length t, add-one) (sym (none_left m))
    ]

-- a field that begins at i
first_field : (t : List ℕ) → comma_at t ≤ length t → at (fields t) 0 ≡ take (comma_at t) t
first_field t l =
    elim (dec_lt (comma_at t) (length t)) [
      | yes h ↦ rw (fields_cut t h) refl
      | no h ↦ let e : comma_at t ≡ length t = omega arith in rw (fields_last t e) (sym (take_all (comma_at t) t (omega arith)))
    ]

pub place_field : (s : List ℕ) (k i : ℕ) → Begins s k i → at (fields s) k ≡ take (comma_at (drop i s)) (drop i s)
place_field s k i p = p.is ∙ first_field (drop i s) (index_most 44 (drop i s))

-- a turn of the loop that counts
in_first_lem : (b : ℕ) (fs : List (List ℕ)) → Begun fs → length (in_first b fs) ≡ length fs
in_first_lem b fs x = rw x.is refl

pub count_turn : (s : List ℕ) (i : ℕ) → i < length s → length (fields (drop i s)) ≡ cond (eqb (get_or s i 0) 44) 1 0 + length (fields (drop (i + 1) s))
unfolding fields
count_turn s i h = rw (drop-cons s i 0 h, add-one) (by (eqb (get_or s i 0) 44))
  where
    by : (e : Bool) → length (cond e ([] ∷ fields (drop (suc i) s)) (in_first (get_or s i 0) (fields (drop (suc i) s)))) ≡ cond e 1 0 + length (fields (drop (suc i) s))
    by true = omega arith
    by false = in_first_lem (get_or s i 0) (fields (drop (suc i) s)) (fields_some (drop (suc i) s)) ∙ omega arith

pub count_end : (s : List ℕ) → length (fields (drop (length s) s)) ≡ 1
unfolding fields
count_end s = rw (drop-length s) refl

-- behind a field of the part of a line that begins at i
pub record Behind (s : List ℕ) (i b : ℕ) : Type 0 where
  pub is : b ≡ behind_of (drop i s)
  pub most : i + b ≤ length s

-- a part up to the end is all that is left
pub rest_whole : (s : List ℕ) (i : ℕ) → take (length s - i) (drop i s) ≡ drop i s
rest_whole s i = take_all (length s - i) (drop i s) (simp length-drop (omega arith))

pub part_behind : (s : List ℕ) (i b : ℕ) → i ≤ length s → b ≡ behind_of (take (length s - i) (drop i s)) → b ≤ length (take (length s - i) (drop i s)) → Behind s i b
part_behind s i b l e m =
    let all = rest_whole s i in
    let rest : length (drop i s) ≡ length s - i = length-drop i s in
    let m' : b ≤ length (drop i s) = rw all at m in
    record { is = rw all at e; most = omega arith }

pub place_turn : (s : List ℕ) (k i j b : ℕ) → j < k → Behind s i b → at (fields (drop i s)) (k - j) ≡ at (fields (drop (i + b) s)) (k - (j + 1))
place_turn s k i j b l x =
    let m : k - j ≡ (k - (j + 1)) + 1 = omega arith in
    let further : drop b (drop i s) ≡ drop (i + b) s = drop-drop b i s in
    rw m (place_on (drop i s) (k - (j + 1)) (index_most 44 (drop i s)) ∙ rw (← x.is, further) refl)

-- the k-th field as the code makes it
pub place_part : (s : List ℕ) (k i e : ℕ) → Begins s k i → e ≡ i + comma_at (drop i s) → take (e - i) (drop i s) ≡ at (fields s) k
place_part s k i e p h =
    let n : e - i ≡ comma_at (drop i s) = omega arith in ap (λ (x : ℕ). take x (drop i s)) n ∙ sym (place_field s k i p)

-- the first field as the code makes it
pub first_part : (s : List ℕ) (e : ℕ) → e ≡ comma_at s → take (e - 0) s ≡ at (fields s) 0
first_part s e h = let n : e - 0 ≡ comma_at s = omega arith in ap (λ (x : ℕ). take x s) n ∙ sym (first_field s (index_most 44 s))
