-- The search of the code's table, over plain variables: what it finds is what the definition finds.
use Rattle.std.specs.Prelude.{◌≡◌, refl, List, [], ◌∷◌, Bool, true, false, cond, ◌&&◌, eqb, ℕ, nat_eq, Option, Some, None, find, map}
use Rattle.std.specs.Cmp.Lexicographic.{pointwise}
use Rattle.std.specs.Option.{option_map}
use Rattle.std.proofs.Common.{ap, ◌∙◌}
use denote.Bor.{Bor}
use Rattle.octets.specs.Text.{same}
use Rattle.exits.specs.declared.signals.Signal as Code
use Rattle.exits.specs.Signals.{Signal, signals}

-- a signal of the code, as its number and its name
abbrev pub shown : Code.Signal → Signal
shown x = record { number = x.number; name = x.name.now }

either : (b : Bool) (x : Code.Signal) (o : Option Code.Signal) (p : Option Signal) → option_map shown o ≡ p
    → option_map shown (cond b (Some x) o) ≡ cond b (Some (shown x)) p
either true x o p h = refl
either false x o p h = h

shown_found : (P : Signal → Bool) (xs : List Code.Signal) → option_map shown (find (λ x. P (shown x)) xs) ≡ find P (map shown xs)
shown_found P [] = refl
shown_found P (x ∷ xs) = either (P (shown x)) x _ _ (shown_found P xs)

behind : (o : Option (Bor Code.Signal)) → option_map (λ x. shown x.now) o ≡ option_map shown (option_map (λ x. x.now) o)
behind None = refl
behind (Some x) = refl

-- xs is the code's table
pub found : (P : Signal → Bool) (xs ys : List Code.Signal) (o : Option (Bor Code.Signal)) → xs ≡ ys → map shown ys ≡ signals
    → option_map (λ x. x.now) o ≡ find (λ x. P (shown x)) xs → option_map (λ x. shown x.now) o ≡ find P signals
found P xs ys o e t h =
    behind o ∙ ap (option_map shown) h ∙ shown_found P xs ∙ ap (λ (zs : List Code.Signal). find P (map shown zs)) e ∙ ap (find P) t

-- bytes compared by `==`
pub compared : (s t : List ℕ) → pointwise nat_eq s t ≡ same s t
unfolding same
compared [] [] = refl
compared [] (c ∷ t) = refl
compared (b ∷ s) [] = refl
compared (b ∷ s) (c ∷ t) = ap (λ (x : Bool). eqb b c && x) (compared s t)
