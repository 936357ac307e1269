-- Bytes that are frames, one behind the other, are cut into these; and whatever the bytes, none is left out.
use Rattle.std.specs.Prelude.{◌≡◌, refl, List, [], ◌∷◌, ◌++◌, ℕ, zero, suc, ◌≤◌, length, take, drop}
use Rattle.std.proofs.Common.{ap, ◌∙◌, arith, length-append, length-drop, take-append-drop, take_at, drop_at}
use Rattle.octets.specs.Bytes.{be24_at}
use Rattle.wire.specs.Heard.{joined}
use Rattle.peer.specs.Framed.{first_of, cut_by, cut}

-- behind the first frame there are fewer bytes
fewer : (n x : ℕ) (b : List ℕ) → length (x ∷ b) ≤ suc n → length (drop (first_of (x ∷ b)) (x ∷ b)) ≤ n
fewer n x b h = simp (length-drop) (omega arith)

-- as many frames as there are bytes are enough
enough : (n m : ℕ) (b : List ℕ) → length b ≤ n → length b ≤ m → cut_by n b ≡ cut_by m b
unfolding cut_by
enough zero zero b h k = refl
enough zero (suc m) [] h k = refl
enough (suc n) zero [] h k = refl
enough (suc n) (suc m) [] h k = refl
enough (suc n) (suc m) (x ∷ b) h k =
    ap (λ (fs : List (List ℕ)). take (first_of (x ∷ b)) (x ∷ b) ∷ fs) (enough n m (drop (first_of (x ∷ b)) (x ∷ b)) (fewer n x b h) (fewer m x b k))
enough _ _ (x ∷ b) h k = absurd (omega arith)

-- a number is told by the bytes that it stands in
number_front : (f rest : List ℕ) → 3 ≤ length f → be24_at (f ++ rest) 0 ≡ be24_at f 0
unfolding be24_at
number_front (a ∷ b ∷ c ∷ f) rest h = refl
number_front _ rest h = absurd (omega arith)

-- A FRAME IS CUT, WHATEVER STANDS BEHIND IT
pub cut_first : (f rest : List ℕ) → length f ≡ first_of f → cut (f ++ rest) ≡ f ∷ cut rest
unfolding cut_by
cut_first [] rest e = absurd (omega arith)
cut_first (x ∷ f) rest e =
    let n : first_of ((x ∷ f) ++ rest) ≡ length (x ∷ f) = omega (arith, e, number_front (x ∷ f) rest (omega arith)) in
    rw (n, take_at (x ∷ f) rest (length (x ∷ f)) refl, drop_at (x ∷ f) rest (length (x ∷ f)) refl)
    (ap (λ (fs : List (List ℕ)). (x ∷ f) ∷ fs) (enough (length (f ++ rest)) (length rest) rest (simp length-append (omega arith)) (omega arith)))

-- and every byte is of a frame
all_by : (n : ℕ) (b : List ℕ) → length b ≤ n → joined (λ (f : List ℕ). f) (cut_by n b) ≡ b
unfolding cut_by
all_by zero [] h = refl
all_by zero (x ∷ b) h = absurd (omega arith)
all_by (suc n) [] h = refl
all_by (suc n) (x ∷ b) h =
    ap (λ (r : List ℕ). take (first_of (x ∷ b)) (x ∷ b) ++ r) (all_by n (drop (first_of (x ∷ b)) (x ∷ b)) (fewer n x b h)) ∙ take-append-drop (first_of (x ∷ b)) (x ∷ b)

pub cut_all : (b : List ℕ) → joined (λ (f : List ℕ). f) (cut b) ≡ b
cut_all b = all_by (length b) b (omega arith)
