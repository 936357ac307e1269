-- A copy of a run of one list into another, and its laws.
-- Proofs use the laws and leave the definition shut, so that they meet one name and not three lists joined.
use Rattle.std.specs.Prelude.{◌≡◌, List, [], ◌∷◌, ◌++◌, ℕ, suc, ◌+◌, ◌-◌, ◌≤◌, ◌<◌, drop, set}
use Rattle.std.proofs.Common.{sym, ◌∙◌, arith, add-one, length-drop, refl}
use Rattle.std.proofs.Math.Path.{ap}
use Rattle.std.proofs.Math.ListN.{length, take, get_or, get_or-append}
use Rattle.std.proofs.Math.Seq.{paste-zero, paste-suc, length-paste, get_or-take, get_or-drop, length_paste_head, length-take-le, append_snoc}
use Rattle.std.proofs.lemmas.List.{set_split, get_or-append_right}

-- d, with the n elements from index at on replaced by those of src from index from on
unfoldable pub copied : (d : List ℕ) (at : ℕ) (src : List ℕ) (from n : ℕ) → List ℕ
copied d at src from n = take at d ++ take n (drop from src) ++ drop (at + n) d

-- an element of two lists joined that is past the first
pub get_or_append_ge : (xs ys : List ℕ) (i : ℕ) → length xs ≤ i → get_or (xs ++ ys) i 0 ≡ get_or ys (i - length xs) 0
get_or_append_ge xs ys i h = get_or-append_right xs ys (length xs) i 0 refl h

-- where a loop that copies begins
pub copied_zero : (d : List ℕ) (at : ℕ) (src : List ℕ) (from : ℕ) → d ≡ copied d at src from 0
unfolding copied
copied_zero d at src from = paste-zero d at (drop from src)

-- a turn of that loop
pub copied_step : (d : List ℕ) (at : ℕ) (src : List ℕ) (from j : ℕ) → at + j < length d → from + j < length src
    → set (copied d at src from j) (at + j) (get_or src (from + j) 0) ≡ copied d at src from (j + 1)
unfolding copied
copied_step d at src from j hd hs =
    rw (← get_or-drop from src j 0, add-one) (paste-suc d at (drop from src) j 0 hd (simp length-drop (omega arith)))

-- a copy of one element
pub copied_one : (d : List ℕ) (at x : ℕ) → at < length d → set d at x ≡ copied d at (x ∷ []) 0 1
unfolding copied
copied_one d at x h = set_split d at x h ∙ rw add-one (sym (append_snoc (take at d) x (drop (suc at) d)))

module _ (d : List ℕ) (at : ℕ) (src : List ℕ) (from n : ℕ) (room : at + n ≤ length d) (has : from + n ≤ length src) where
  source : n ≤ length (drop from src)
  source = simp length-drop (omega arith)

  head : length (take at d ++ take n (drop from src)) ≡ at + n
  head = length_paste_head d at (drop from src) n (omega arith) source

  pub copied_length : length (copied d at src from n) ≡ length d
  unfolding copied
  copied_length = length-paste d at (drop from src) n room source

  -- an element below the run, in it, and above it
  pub copied_before : (j : ℕ) → j < at → get_or (copied d at src from n) j 0 ≡ get_or d j 0
  unfolding copied
  copied_before j h =
      let l : length (take at d) ≡ at = length-take-le at d (omega arith) in
      get_or-append (take at d ++ take n (drop from src)) (drop (at + n) d) 0 j (omega (arith, head))
      ∙ get_or-append (take at d) (take n (drop from src)) 0 j (omega arith)
      ∙ get_or-take at d j 0 h

  pub copied_in : (j : ℕ) → j < n → get_or (copied d at src from n) (at + j) 0 ≡ get_or src (from + j) 0
  unfolding copied
  copied_in j h =
      let l : length (take at d) ≡ at = length-take-le at d (omega arith) in
      get_or-append (take at d ++ take n (drop from src)) (drop (at + n) d) 0 (at + j) (omega (arith, head))
      ∙ get_or_append_ge (take at d) (take n (drop from src)) (at + j) (omega arith)
      ∙ ap (λ (k : ℕ). get_or (take n (drop from src)) k 0) (omega arith)
      ∙ get_or-take n (drop from src) j 0 h
      ∙ get_or-drop from src j 0

  pub copied_after : (j : ℕ) → at + n ≤ j → get_or (copied d at src from n) j 0 ≡ get_or d j 0
  unfolding copied
  copied_after j h =
      get_or_append_ge (take at d ++ take n (drop from src)) (drop (at + n) d) j (omega (arith, head))
      ∙ get_or-drop (at + n) d (j - length (take at d ++ take n (drop from src))) 0
      ∙ ap (λ (k : ℕ). get_or d k 0) (omega (arith, head))
