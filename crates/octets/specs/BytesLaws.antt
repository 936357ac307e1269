-- Laws of numbers in bytes, each side undone by the other, and of the copies that write them.
use Rattle.std.specs.Prelude.{◌≡◌, refl, Bool, true, false, cond, List, [], ◌∷◌, ◌++◌, ℕ, suc, ◌+◌, ◌*◌, ◌/◌, ◌%◌, ◌^◌, ◌≤◌, ◌<◌, leb, length, drop, get_or, set, Some, None}
use Rattle.std.proofs.Common.{sym, ap, ◌∙◌, arith, add-one, div-add-mod', mod-eq_of_lt, le-leb, length-append, drop-cons, get_or-append-add}
use Rattle.std.proofs.Math.Nat.{div-div-eq-div-mul}
use Rattle.std.proofs.lemmas.Bool.{lt-leb}
use Rattle.std.proofs.Math.Seq.{get_or-append_seam}
use Rattle.std.proofs.lemmas.List.Edits.{sets-eq}
use Rattle.ring.specs.Runs.{copied, copied_step, copied_after}
use Rattle.ring.specs.Lent.{copied_all, copied_join}
use Rattle.octets.specs.Bytes.{be24, be24_at, be32, be32_at, number_at, number_within}

-- ---- a number and its bytes

-- the number that four bytes stand for
abbrev of_bytes : (a b c d : ℕ) → ℕ
of_bytes a b c d = a * 16777216 + b * 65536 + c * 256 + d

pub be32_back : (v : ℕ) → v < 2 ^ 32 → of_bytes (v / 16777216 % 256) (v / 65536 % 256) (v / 256 % 256) (v % 256) ≡ v
be32_back v h =
    let two : v / 256 / 256 ≡ v / 65536 = div-div-eq-div-mul v 256 256 in
    let three : v / 65536 / 256 ≡ v / 16777216 = div-div-eq-div-mul v 65536 256 in
    let w : v / 16777216 < 256 = omega arith in
    let a = div-add-mod' v 256 in
    let b = div-add-mod' (v / 256) 256 in
    let c = div-add-mod' (v / 65536) 256 in
    let d : v / 16777216 % 256 ≡ v / 16777216 = mod-eq_of_lt w in
    omega arith

be32_of : (a b c d : ℕ) → a < 256 → b < 256 → c < 256 → d < 256 → be32 (of_bytes a b c d) ≡ a ∷ b ∷ c ∷ d ∷ []
be32_of a b c d ha hb hc hd =
    let v = of_bytes a b c d in
    let w : v / 16777216 % 256 ≡ a = omega arith in
    let x : v / 65536 % 256 ≡ b = omega arith in
    let y : v / 256 % 256 ≡ c = omega arith in
    let z : v % 256 ≡ d = omega arith in
    cc

-- ---- a number in a list of bytes

pub number_there : (s : List ℕ) (at : ℕ) → at + 4 ≤ length s → number_at s at ≡ be32_at s at
unfolding number_at
number_there s at h = simp (le-leb (at + 4) (length s) h)

-- where the bytes hold it, and where they end before
pub within_some : (s : List ℕ) (at : ℕ) → at + 4 ≤ length s → number_within s at ≡ Some (number_at s at)
unfolding number_within
within_some s at h = simp (le-leb (at + 4) (length s) h, number_there s at h)

pub within_none : (s : List ℕ) (at : ℕ) → length s < at + 4 → number_within s at ≡ None
unfolding number_within
within_none s at h = simp (lt-leb (at + 4) (length s) h)

-- a number is read where it was written
pub number_written : (p t : List ℕ) (v : ℕ) → v < 2 ^ 32 → number_at (p ++ (be32 v ++ t)) (length p) ≡ v
unfolding be32_at
number_written p t v h =
    let q = be32 v ++ t in
    let e₀ = get_or-append_seam p (v / 16777216 % 256) (drop 1 q) 0 in
    let e₁ = get_or-append-add p q 1 0 in
    let e₂ = get_or-append-add p q 2 0 in
    let e₃ = get_or-append-add p q 3 0 in
    number_there (p ++ q) (length p) (simp length-append (omega arith)) ∙ rw (e₀, e₁, e₂, e₃) (be32_back v h)

cond_below : (b : Bool) (x y n : ℕ) → x < n → y < n → cond b x y < n
cond_below true x y n hx hy = hx
cond_below false x y n hx hy = hy

next : (s : List ℕ) (i j : ℕ) → j ≡ i + 1 → j ≤ length s → drop i s ≡ get_or s i 0 ∷ drop j s
next s i j e h = rw (e, add-one) (drop-cons s i 0 (omega arith))

module _ (s : List ℕ) (bytes : (i : ℕ) → get_or s i 0 < 256) where
  below : (at : ℕ) → be32_at s at < 2 ^ 32
  unfolding be32_at
  below at = omega (arith, bytes at, bytes (at + 1), bytes (at + 2), bytes (at + 3))

  pub number_fits : (at : ℕ) → number_at s at < 2 ^ 32
  unfolding number_at
  number_fits at = cond_below (leb (at + 4) (length s)) (be32_at s at) 0 (2 ^ 32) (below at) (omega arith)

  be32_there : (at : ℕ) → be32 (be32_at s at) ≡ get_or s at 0 ∷ get_or s (at + 1) 0 ∷ get_or s (at + 2) 0 ∷ get_or s (at + 3) 0 ∷ []
  unfolding be32_at
  be32_there at = be32_of _ _ _ _ (bytes at) (bytes (at + 1)) (bytes (at + 2)) (bytes (at + 3))

  -- the list from a number on: the number's bytes, and what stands behind them
  pub peel : (at v : ℕ) → at + 4 ≤ length s → number_at s at ≡ v → drop at s ≡ be32 v ++ drop (at + 4) s
  peel at v h e =
      let four : drop at s ≡ get_or s at 0 ∷ get_or s (at + 1) 0 ∷ get_or s (at + 2) 0 ∷ get_or s (at + 3) 0 ∷ drop (at + 4) s =
      cc (
        next s at (at + 1) refl (omega arith),
        next s (at + 1) (at + 2) (omega arith) (omega arith),
        next s (at + 2) (at + 3) (omega arith) (omega arith),
        next s (at + 3) (at + 4) (omega arith) h,
      ) in
      four
      ∙ ap (λ (x : List ℕ). x ++ drop (at + 4) s) (sym (be32_there at) ∙ ap be32 (sym (number_there s at h) ∙ e))

-- ---- writing

-- four stores are a copy of four bytes
pub put_four : (d : List ℕ) (at w x y z : ℕ) → at + 4 ≤ length d
    → set (set (set (set d at w) (at + 1) x) (at + 2) y) (at + 3) z ≡ copied d at (w ∷ x ∷ y ∷ z ∷ []) 0 4
unfolding copied
put_four d at w x y z h =
    let e₁ : at + 1 ≡ suc at = omega arith in
    let e₂ : at + 2 ≡ suc (suc at) = omega arith in
    let e₃ : at + 3 ≡ suc (suc (suc at)) = omega arith in
    rw (e₁, e₂, e₃) (sets-eq (w ∷ x ∷ y ∷ z ∷ []) d at h)

-- p laid at the front of d, and q behind it
pub laid_first : (d p : List ℕ) (k : ℕ) → length p ≡ k → copied d 0 p 0 k ≡ p ++ drop k d
laid_first d p k hp = let z : 0 + k ≡ k = omega arith in rw z at (copied_all d 0 p k hp)

pub laid_behind : (d p q : List ℕ) (k m : ℕ) → length p ≡ k → length q ≡ m → k + m ≤ length d
    → copied (p ++ drop k d) k q 0 m ≡ p ++ q ++ drop (k + m) d
laid_behind d p q k m hp hq room =
    let z : 0 + k ≡ k = omega arith in
    ap (λ (x : List ℕ). copied x k q 0 m) (sym (laid_first d p k hp))
    ∙ rw z at (copied_join d 0 p q k m hp hq (omega arith))
    ∙ laid_first d (p ++ q) (k + m) (simp length-append (omega arith))

-- a turn of a loop that moves bytes down: what it reads was not yet written
pub slide_step : (d : List ℕ) (at from j : ℕ) → at ≤ from → from + j < length d
    → set (copied d at d from j) (at + j) (get_or (copied d at d from j) (from + j) 0) ≡ copied d at d from (j + 1)
slide_step d at from j h hd =
    rw (copied_after d at d from j (omega arith) (omega arith) (from + j) (omega arith))
    (copied_step d at d from j (omega arith) hd)

-- ---- three bytes

be24_back : (v : ℕ) → v < 2 ^ 24 → v / 65536 % 256 * 65536 + v / 256 % 256 * 256 + v % 256 ≡ v
be24_back v h =
    let two : v / 256 / 256 ≡ v / 65536 = div-div-eq-div-mul v 256 256 in
    let a = div-add-mod' v 256 in
    let b = div-add-mod' (v / 256) 256 in
    let d : v / 65536 % 256 ≡ v / 65536 = mod-eq_of_lt (omega arith) in
    omega arith

-- a length is read where it was written
pub be24_written : (p t : List ℕ) (v : ℕ) → v < 2 ^ 24 → be24_at (p ++ (be24 v ++ t)) (length p) ≡ v
unfolding be24_at
be24_written p t v h =
    let q = be24 v ++ t in
    let e₀ = get_or-append_seam p (v / 65536 % 256) (drop 1 q) 0 in
    let e₁ = get_or-append-add p q 1 0 in
    let e₂ = get_or-append-add p q 2 0 in
    rw (e₀, e₁, e₂) (be24_back v h)

module _ (s : List ℕ) (bytes : (i : ℕ) → get_or s i 0 < 256) where
  pub be24_fits : (at : ℕ) → be24_at s at < 2 ^ 24
  unfolding be24_at
  be24_fits at = omega (arith, bytes at, bytes (at + 1), bytes (at + 2))

  be24_there : (at : ℕ) → be24 (be24_at s at) ≡ get_or s at 0 ∷ get_or s (at + 1) 0 ∷ get_or s (at + 2) 0 ∷ []
  unfolding be24_at
  be24_there at =
      let ha = bytes at in
      let hb = bytes (at + 1) in
      let hc = bytes (at + 2) in
      let x : be24_at s at / 65536 % 256 ≡ get_or s at 0 = omega arith in
      let y : be24_at s at / 256 % 256 ≡ get_or s (at + 1) 0 = omega arith in
      let z : be24_at s at % 256 ≡ get_or s (at + 2) 0 = omega arith in
      cc

  -- the list from a length on
  pub peel24 : (at v : ℕ) → at + 3 ≤ length s → be24_at s at ≡ v → drop at s ≡ be24 v ++ drop (at + 3) s
  peel24 at v h e =
      let three : drop at s ≡ get_or s at 0 ∷ get_or s (at + 1) 0 ∷ get_or s (at + 2) 0 ∷ drop (at + 3) s =
      cc (
        next s at (at + 1) refl (omega arith),
        next s (at + 1) (at + 2) (omega arith) (omega arith),
        next s (at + 2) (at + 3) (omega arith) h,
      ) in
      three ∙ ap (λ (x : List ℕ). x ++ drop (at + 3) s) (sym (be24_there at) ∙ ap be24 e)
