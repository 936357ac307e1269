-- A text is cut at each 0a into its lines.
use mathlib.Core.Bool.{Bool, true, false, cond}
use mathlib.Core.Path.{◌≡◌, refl, sym, ap, ◌∙◌}
use mathlib.Core.List.{List, [], ◌∷◌}
use Prim.Native.Nat.{ℕ}
use lib.Dec.{eqb}
use Rattle.std.proofs.Common.{eqb-true}
use Rattle.textlines.specs.Lines.{start_with, lines_in, joined, closed, NoEnds, Cut}

-- a byte before a line that has begun
more_joined : (b c : ℕ) (text : List ℕ) → joined (start_with b (lines_in (c ∷ text))) ≡ b ∷ joined (lines_in (c ∷ text))
unfolding lines_in
more_joined b c text = by (eqb c 10) (lines_in text)
  where
    by : (e : Bool) (ls : List (List ℕ)) → joined (start_with b (cond e ([] ∷ ls) (start_with c ls))) ≡ b ∷ joined (cond e ([] ∷ ls) (start_with c ls))
    by true ls = refl
    by false [] = refl
    by false (l ∷ ls) = refl

lines_joined : (text : List ℕ) → joined (lines_in text) ≡ closed text
unfolding lines_in
lines_joined [] = refl
lines_joined (b ∷ []) = by (eqb b 10) refl
  where
    by : (e : Bool) → eqb b 10 ≡ e → joined (cond e ([] ∷ []) ((b ∷ []) ∷ [])) ≡ cond e (b ∷ []) (b ∷ 10 ∷ [])
    by true q = ap (λ (x : ℕ). x ∷ []) (sym (eqb-true b 10 q))
    by false q = refl
lines_joined (b ∷ c ∷ text) = by (eqb b 10) refl (lines_joined (c ∷ text))
  where
    by : (e : Bool) → eqb b 10 ≡ e → joined (lines_in (c ∷ text)) ≡ closed (c ∷ text)
        → joined (cond e ([] ∷ lines_in (c ∷ text)) (start_with b (lines_in (c ∷ text)))) ≡ b ∷ closed (c ∷ text)
    by true q h = ap (λ (x : ℕ). x ∷ joined (lines_in (c ∷ text))) (sym (eqb-true b 10 q)) ∙ ap (λ (x : List ℕ). b ∷ x) h
    by false q h = more_joined b c text ∙ ap (λ (x : List ℕ). b ∷ x) h

no_ends : (text : List ℕ) → NoEnds (lines_in text)
unfolding lines_in
no_ends [] = tt
no_ends (b ∷ text) = by (eqb b 10) refl (lines_in text) (no_ends text)
  where
    by : (e : Bool) → eqb b 10 ≡ e → (ls : List (List ℕ)) → NoEnds ls → NoEnds (cond e ([] ∷ ls) (start_with b ls))
    by true q ls h = (tt, h)
    by false q [] h = ((q, tt), tt)
    by false q (l ∷ ls) h = ((q, h.0), h.1)

pub cut : (text : List ℕ) → Cut text
cut text = record { whole = lines_joined text; plain = no_ends text }
