-- Laws of a search: how far it goes, and what tells its answer.
use Rattle.std.specs.Prelude.{Bool, true, false, cond, ◌≡◌, refl, List, [], ◌∷◌, ℕ, zero, suc, ◌≤◌, ◌<◌, ◌+◌, eqb, length, drop, get_or}
use Rattle.std.proofs.Common.{ap, arith, add-one, drop-cons}
use Rattle.std.proofs.Math.Seq.{drop-length}
use Rattle.search.specs.Search.{index_of}

-- at most the length
pub index_most : (byte : ℕ) (s : List ℕ) → index_of byte s ≤ length s
unfolding index_of
index_most byte [] = omega arith
index_most byte (b ∷ s) = by (eqb b byte) (index_most byte s)
  where
    by : (e : Bool) → index_of byte s ≤ length s → cond e 0 (suc (index_of byte s)) ≤ suc (length s)
    by true l = omega arith
    by false l = omega arith

-- the byte stands at no place below n
abbrev pub Absent : (byte : ℕ) → List ℕ → (n : ℕ) → Type 0
Absent byte s n = (k : ℕ) → k < n → ¬ eqb (get_or s k 0) byte ≡ true

-- a place up to the length: before it the byte stands nowhere, and below the length it stands there
pub index_is : (byte : ℕ) (s : List ℕ) (n : ℕ) → n ≤ length s → (n < length s → eqb (get_or s n 0) byte ≡ true) → Absent byte s n
    → index_of byte s ≡ n
unfolding index_of
index_is byte [] n h here before = omega arith
index_is byte (b ∷ s) zero h here before = rw (here (omega arith)) refl
index_is byte (b ∷ s) (suc n) h here before =
    by (eqb b byte) (before 0 (omega arith))
    (index_is byte s n (omega arith) (λ l. here (omega arith)) (λ k l. before (suc k) (omega arith)))
  where
    by : (e : Bool) → (¬ e ≡ true) → index_of byte s ≡ n → cond e 0 (suc (index_of byte s)) ≡ suc n
    by true off i = absurd (off refl)
    by false off i = ap suc i

-- a search from byte i on, and from behind the last
pub index_turn : (byte : ℕ) (s : List ℕ) (i : ℕ) → i < length s
    → index_of byte (drop i s) ≡ cond (eqb (get_or s i 0) byte) 0 (suc (index_of byte (drop (i + 1) s)))
unfolding index_of
index_turn byte s i h = rw (drop-cons s i 0 h, add-one) refl

pub index_end : (byte : ℕ) (s : List ℕ) → index_of byte (drop (length s) s) ≡ 0
unfolding index_of
index_end byte s = rw (drop-length s) refl
