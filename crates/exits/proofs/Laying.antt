-- A request is laid into a buffer part by part, each behind the last.
use mathlib.Core.List.{List, [], ◌∷◌, ◌++◌}
use mathlib.Core.Path.{◌≡◌, refl, sym, ap, ◌∙◌}
use Prim.Native.Nat.{ℕ, ◌+◌, ◌≤◌, ◌<◌}
use native.Mathlib.Omega.{arith}
use lib.ListN.{length, drop, set, length-append, length-drop}
use Rattle.std.specs.Prelude.{replicate}
use borrow.Rule.Slice.PartMut.{put_mid}
use Rattle.octets.specs.Bytes.{be32}
use Rattle.octets.specs.Text.{bytes}
use Rattle.octets.specs.BytesLaws.{laid_first, laid_behind}
use Rattle.ring.specs.Lent.{lent_whole}
use Rattle.ring.specs.Runs.{copied, copied_one}
use Rattle.exits.specs.Exit.{string, head, named}

-- q behind the k bytes p that were laid over d
pub laid_next : (d b p q : List ℕ) (k m : ℕ) → b ≡ p ++ drop k d → length p ≡ k → length q ≡ m → k + m ≤ length d
    → copied b k q 0 m ≡ (p ++ q) ++ drop (k + m) d
laid_next d b p q k m e hp hq room =
    ap (λ (x : List ℕ). copied x k q 0 m) e ∙ laid_behind d p q k m hp hq room

-- the head, in five parts
pub head_laid : (d : List ℕ) (channel : ℕ) (name b₁ b₂ p : List ℕ) → length name ≡ 11 → 21 ≤ length d
    → b₁ ≡ copied (set d 0 98) 1 (be32 channel) 0 4 → b₂ ≡ copied b₁ 5 (be32 11) 0 4 → p ≡ name
    → set (put_mid 9 11 b₂ p) 20 0 ≡ head channel name ++ drop 21 d
head_laid d channel name b₁ b₂ p eleven room e₁ e₂ e₃ =
    let kind : List ℕ = 98 ∷ [] in
    let before = ((kind ++ be32 channel) ++ be32 11) ++ name in
    let l₀ = copied_one d 0 98 (omega arith) ∙ laid_first d kind 1 refl in
    let l₁ = e₁ ∙ laid_next d (set d 0 98) kind (be32 channel) 1 4 l₀ refl refl (omega arith) in
    let l₂ = e₂ ∙ laid_next d b₁ (kind ++ be32 channel) (be32 11) 5 4 l₁ refl refl (omega arith) in
    let l₃ : put_mid 9 11 b₂ p ≡ before ++ drop 20 d =
    ap (put_mid 9 11 b₂) e₃ ∙ lent_whole b₂ 9 name 11 eleven ∙ laid_next d b₂ ((kind ++ be32 channel) ++ be32 11) name 9 11 l₂ refl eleven (omega arith) in
    let has : 20 < length (put_mid 9 11 b₂ p) = rw l₃ (simp (length-append, length-drop) (omega (arith, eleven))) in
    copied_one (put_mid 9 11 b₂ p) 20 0 has
    ∙ laid_next d (put_mid 9 11 b₂ p) before (0 ∷ []) 20 1 l₃ (omega (arith, eleven)) refl room
    ∙ ap (λ (n : ℕ). (98 ∷ be32 channel ++ (be32 n ++ name) ++ 0 ∷ []) ++ drop 21 d) (sym eleven)

-- the length of a name and the name behind the head
pub name_laid : (d : List ℕ) (channel : ℕ) (name b₀ b₁ p : List ℕ) (n : ℕ) → length name ≤ 4 → 29 ≤ length d
    → b₀ ≡ head channel (bytes "exit-signal") ++ drop 21 d → b₁ ≡ copied b₀ 21 (be32 (length name)) 0 4 → p ≡ name → n ≡ length name
    → put_mid 25 n b₁ p ≡ (head channel (bytes "exit-signal") ++ string name) ++ drop (25 + length name) d
unfolding bytes
name_laid d channel name b₀ b₁ p n most room e₀ e₁ e₂ e₃ =
    let q = head channel (bytes "exit-signal") in
    let l₁ = e₁ ∙ laid_next d b₀ q (be32 (length name)) 21 4 e₀ refl refl (omega arith) in
    rw (e₂, e₃) (lent_whole b₁ 25 name (length name) refl ∙ laid_next d b₁ (q ++ be32 (length name)) name 25 (length name) l₁ refl refl (omega arith))

-- nine zeros behind a name
pub signal_laid : (d : List ℕ) (channel : ℕ) (name b p : List ℕ) (at n : ℕ) → length name ≤ 4 → 38 ≤ length d
    → b ≡ (head channel (bytes "exit-signal") ++ string name) ++ drop (25 + length name) d → p ≡ replicate n 0 → at ≡ 25 + length name → n ≡ 9
    → put_mid at n b p ≡ named channel name ++ drop (34 + length name) d
unfolding bytes
signal_laid d channel name b p at n most room e e₁ e₂ e₃ =
    let q = head channel (bytes "exit-signal") ++ string name in
    let z : p ≡ 0 ∷ string [] ++ string [] = e₁ ∙ ap (λ (k : ℕ). replicate k 0) e₃ in
    let m : 25 + length name + 9 ≡ 34 + length name = omega arith in
    rw (z, e₂, e₃)
    (lent_whole b (25 + length name) (0 ∷ string [] ++ string []) 9 refl
    ∙ rw m at (laid_next d b q (0 ∷ string [] ++ string []) (25 + length name) 9 e (simp length-append (omega arith)) refl (omega arith)))
