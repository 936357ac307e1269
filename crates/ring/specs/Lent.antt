-- For callers that write a store in several runs or lend a part of it on: copies that meet, what a lent part leaves, and a copy read back.
use Rattle.std.specs.Prelude.{◌≡◌, refl, List, ◌++◌, ℕ, ◌+◌, ◌≤◌, length, take, drop}
use Rattle.std.proofs.Common.{sym, ap, ◌∙◌, append_assoc, arith, add_assoc, length-append, length-take, length-drop, take-append-drop, length-take-le, take_all, take-add, take_at, drop_at, drop-drop}
use Rattle.std.proofs.Math.Seq.{length_paste_head}
use Rattle.std.proofs.lemmas.List.{take-append-le, drop-append-le}
use Rattle.ring.specs.Runs.{copied}

-- a copy of all of p is p between what stands before and behind
pub copied_all : (d : List ℕ) (at : ℕ) (p : List ℕ) (n : ℕ) → length p ≡ n → copied d at p 0 n ≡ take at d ++ p ++ drop (at + n) d
unfolding copied
copied_all d at p n h = ap (λ (x : List ℕ). take at d ++ x ++ drop (at + n) d) (take_all n p (omega arith))

-- of its source a copy asks the run alone
pub copied_same : (d : List ℕ) (at : ℕ) (p : List ℕ) (i : ℕ) (q : List ℕ) (j n : ℕ) → take n (drop i p) ≡ take n (drop j q)
    → copied d at p i n ≡ copied d at q j n
unfolding copied
copied_same d at p i q j n e = ap (λ (x : List ℕ). take at d ++ x ++ drop (at + n) d) e

-- a run copied in two parts is copied at once
pub copied_on : (d : List ℕ) (at : ℕ) (src : List ℕ) (from k m : ℕ) → at + k ≤ length d → from + k ≤ length src
    → copied (copied d at src from k) (at + k) src (from + k) m ≡ copied d at src from (k + m)
unfolding copied
copied_on d at src from k m room has =
    let p = take k (drop from src) in
    let q = take m (drop (from + k) src) in
    let s = take at d ++ p in
    let r = drop (at + k) d in
    let ls : length s ≡ at + k =
    length_paste_head d at (drop from src) k (omega arith) (simp length-drop (omega arith)) in
    let behind : drop (at + k + m) (s ++ r) ≡ drop (at + (k + m)) d =
    sym (drop-drop m (at + k) (s ++ r)) ∙ ap (drop m) (drop_at s r (at + k) ls) ∙ drop-drop m (at + k) d ∙ rw add_assoc refl in
    let both : p ++ q ≡ take (k + m) (drop from src) =
    ap (λ (x : List ℕ). p ++ take m x) (sym (drop-drop k from src)) ∙ sym (take-add k m (drop from src)) in
    ap (λ (x : List ℕ). x ++ q ++ drop (at + k + m) (s ++ r)) (take_at s r (at + k) ls)
    ∙ ap (λ (x : List ℕ). s ++ q ++ x) behind
    ∙ ap (λ (x : List ℕ). x ++ drop (at + (k + m)) d) (append_assoc (take at d) p q ∙ ap (λ (x : List ℕ). take at d ++ x) both)

-- two copies side by side are one
pub copied_join : (d : List ℕ) (at : ℕ) (p q : List ℕ) (k m : ℕ) → length p ≡ k → length q ≡ m → at + k + m ≤ length d
    → copied (copied d at p 0 k) (at + k) q 0 m ≡ copied d at (p ++ q) 0 (k + m)
copied_join d at p q k m hp hq room =
    let first : copied d at p 0 k ≡ copied d at (p ++ q) 0 k =
    copied_same d at p 0 (p ++ q) 0 k (sym (take-append-le k p q (omega arith))) in
    ap (λ (x : List ℕ). copied x (at + k) q 0 m) first
    ∙ copied_same (copied d at (p ++ q) 0 k) (at + k) q 0 (p ++ q) (0 + k) m (ap (take m) (sym (drop_at p q (0 + k) (omega arith))))
    ∙ copied_on d at (p ++ q) 0 k m (omega arith) (simp length-append (omega arith))

-- d, whose part of k from index at on was lent and came back with p at its front, is d with p written there
pub lent_front : (d : List ℕ) (at k : ℕ) (p : List ℕ) (n : ℕ) → length p ≡ n → n ≤ k → at + k ≤ length d
    → take at d ++ ((p ++ drop n (take k (drop at d))) ++ drop k (drop at d)) ≡ copied d at p 0 n
lent_front d at k p n h most room =
    let x = drop at d in
    let l : n ≤ length (take k x) = simp (length-take, length-drop) (omega arith) in
    let behind : drop n (take k x) ++ drop k x ≡ drop (at + n) d =
    sym (drop-append-le n (take k x) (drop k x) l) ∙ ap (drop n) (take-append-drop k x) ∙ drop-drop n at d in
    ap (λ (y : List ℕ). take at d ++ y) (append_assoc p (drop n (take k x)) (drop k x) ∙ ap (λ (y : List ℕ). p ++ y) behind)
    ∙ sym (append_assoc (take at d) p (drop (at + n) d))
    ∙ sym (copied_all d at p n h)

-- the same where all of the part is known
pub lent_whole : (d : List ℕ) (at : ℕ) (p : List ℕ) (k : ℕ) → length p ≡ k → take at d ++ (p ++ drop k (drop at d)) ≡ copied d at p 0 k
lent_whole d at p k h =
    ap (λ (x : List ℕ). take at d ++ (p ++ x)) (drop-drop k at d)
    ∙ sym (append_assoc (take at d) p (drop (at + k) d))
    ∙ sym (copied_all d at p k h)

-- a copy stands at its place, before what stood behind it
pub copied_drop : (d : List ℕ) (at : ℕ) (src : List ℕ) (from n : ℕ) → at ≤ length d
    → drop at (copied d at src from n) ≡ take n (drop from src) ++ drop (at + n) d
unfolding copied
copied_drop d at src from n h =
    ap (drop at) (append_assoc (take at d) (take n (drop from src)) (drop (at + n) d))
    ∙ drop_at (take at d) (take n (drop from src) ++ drop (at + n) d) at (length-take-le at d h)

-- so the run is read back from where it was copied to
pub copied_read : (d : List ℕ) (at : ℕ) (src : List ℕ) (from n : ℕ) → at ≤ length d → from + n ≤ length src
    → take n (drop at (copied d at src from n)) ≡ take n (drop from src)
copied_read d at src from n h has =
    ap (take n) (copied_drop d at src from n h)
    ∙ take_at (take n (drop from src)) (drop (at + n) d) n (length-take-le n (drop from src) (simp length-drop (omega arith)))

-- and all of p where p was copied
pub copied_back : (d : List ℕ) (at : ℕ) (p : List ℕ) (n : ℕ) → length p ≡ n → at + n ≤ length d → take n (drop at (copied d at p 0 n)) ≡ p
copied_back d at p n h room = copied_read d at p 0 n (omega arith) (omega arith) ∙ take_all n p (omega arith)

-- a run copied by way of the start of b is copied
pub copied_through : (d : List ℕ) (at : ℕ) (b src : List ℕ) (from n : ℕ) → from + n ≤ length src
    → copied d at (copied b 0 src from n) 0 n ≡ copied d at src from n
copied_through d at b src from n has =
    copied_same d at (copied b 0 src from n) 0 src from n (copied_read b 0 src from n (omega arith) has)
