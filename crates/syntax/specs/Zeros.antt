-- A run of zeros at the start of an area.
use Rattle.std.specs.Prelude.{◌≡◌, refl, List, [], ◌∷◌, ◌++◌, ℕ, zero, suc, ◌+◌, ◌<◌, length, drop, set, replicate}
use Rattle.std.proofs.Common.{ap, append-nil, arith, add-one}
use Rattle.std.proofs.Math.Seq.{drop-length}
use Rattle.syntax.specs.Lines.{zeros}

pub zeros_length : (n : ℕ) → length (zeros n) ≡ n
unfolding zeros
zeros_length zero = refl
zeros_length (suc n) = ap suc (zeros_length n)

one_more : (n : ℕ) (w : List ℕ) → n < length w → set (zeros n ++ drop n w) n 0 ≡ zeros (suc n) ++ drop (suc n) w
unfolding zeros
one_more n [] h = absurd (omega arith)
one_more zero (x ∷ w) h = refl
one_more (suc n) (x ∷ w) h = ap (λ (t : List ℕ). 0 ∷ t) (one_more n w (omega arith))

-- a turn of the loop that clears
pub zeros_turn : (n : ℕ) (w : List ℕ) → n < length w → set (zeros n ++ drop n w) n 0 ≡ zeros (n + 1) ++ drop (n + 1) w
zeros_turn n w h = rw add-one (one_more n w h)

pub zeros_start : (w : List ℕ) → w ≡ zeros 0 ++ drop 0 w
unfolding zeros
zeros_start w = refl

-- all of it
pub zeros_all : (n : ℕ) (w : List ℕ) → n ≡ length w → zeros n ++ drop n w ≡ zeros n
zeros_all n w h = rw (h, drop-length w) (append-nil (zeros (length w)))

-- as the library has it
pub zeros_are : (n : ℕ) → replicate n 0 ≡ zeros n
unfolding zeros
zeros_are zero = refl
zeros_are (suc n) = ap (λ (t : List ℕ). 0 ∷ t) (zeros_are n)
