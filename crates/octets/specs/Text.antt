-- Bytes as text: the bytes of a string, and two texts compared byte by byte.
use Rattle.std.specs.Prelude.{Bool, true, false, ◌&&◌, List, [], ◌∷◌, ◌≡◌, refl, ℕ, suc, ◌+◌, ◌<◌, eqb, length, drop, get_or}
use Rattle.std.specs.Bool.{Decides}
use Rattle.std.proofs.lemmas.Bool.{false≢true}
use Rattle.std.proofs.Common.{sym, ap, ◌∙◌, add-one, drop-cons, eq-eqb, eqb-true}
use Prim.Native.Char.{code}
use Prim.Native.String as Text
use Prim.Native.String.{String}
use Rattle.std.proofs.Math.Seq.{drop-length}
use Rattle.ring.specs.Flags.{and_l, and_r}

-- the bytes of a text
unfoldable pub bytes : String → List ℕ
bytes Text.[] = []
bytes (Text.◌∷◌ c s) = code c ∷ bytes s

-- two texts are the same
unfoldable pub same : List ℕ → List ℕ → Bool
same [] [] = true
same [] (c ∷ t) = false
same (b ∷ s) [] = false
same (b ∷ s) (c ∷ t) = eqb b c && same s t

-- ---- laws of the loop that compares them

and_false : (a b : Bool) → b ≡ false → a && b ≡ false
and_false false b h = refl
and_false true b h = h

-- texts of unlike lengths are not the same
pub same_length : (s t : List ℕ) → (length s ≡ length t → ⊥) → same s t ≡ false
unfolding same
same_length [] [] h = absurd (h refl)
same_length [] (c ∷ t) h = refl
same_length (b ∷ s) [] h = refl
same_length (b ∷ s) (c ∷ t) h = and_false (eqb b c) (same s t) (same_length s t (λ e. h (ap suc e)))

-- a turn of the loop
pub same_turn : (s t : List ℕ) (i : ℕ) → i < length s → i < length t
    → same (drop i s) (drop i t) ≡ eqb (get_or s i 0) (get_or t i 0) && same (drop (i + 1) s) (drop (i + 1) t)
unfolding same
same_turn s t i hs ht = rw (drop-cons s i 0 hs, drop-cons t i 0 ht, add-one) refl

pub same_end : (s t : List ℕ) (i : ℕ) → i ≡ length s → i ≡ length t → same (drop i s) (drop i t) ≡ true
unfolding same
same_end s t i hs ht = ap (λ (x : List ℕ). same x (drop i t)) (ap (λ (k : ℕ). drop k s) hs ∙ drop-length s) ∙ ap (λ (x : List ℕ). same [] x) (ap (λ (k : ℕ). drop k t) ht ∙ drop-length t)

-- ---- what is the same is equal, and the other way round

pub same_refl : (s : List ℕ) → same s s ≡ true
unfolding same
same_refl [] = refl
same_refl (b ∷ s) = rw (eq-eqb b b refl) (same_refl s)

pub same_is : (s t : List ℕ) → same s t ≡ true → s ≡ t
unfolding same
same_is [] [] h = refl
same_is [] (c ∷ t) h = absurd (false≢true h)
same_is (b ∷ s) [] h = absurd (false≢true h)
same_is (b ∷ s) (c ∷ t) h =
    let e : b ≡ c = eqb-true b c (and_l (eqb b c) (same s t) h) in
    let f : s ≡ t = same_is s t (and_r (eqb b c) (same s t) h) in
    cc

no_true : (b : Bool) → (b ≡ true → ⊥) → false ≡ b
no_true false h = refl
no_true true h = absurd (h refl)

-- an answer that says whether they are equal
pub same_decided : (b : Bool) (s t : List ℕ) → Decides b (s ≡ t) → b ≡ same s t
same_decided true s t h = rw (h.0 refl) (sym (same_refl t))
same_decided false s t h = no_true (same s t) (λ e. false≢true (h.1 (same_is s t e)))
