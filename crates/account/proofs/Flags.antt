-- Laws of flags that more than one of these files cites, beside the library's.
use mathlib.Core.Bool.{Bool, true, false, cond, ◌||◌, or-true}
use mathlib.Core.Path.{◌≡◌, refl, sym}

pub either : {A : Type 0} (P : A → Type 0) (b : Bool) (x y : A) → P x → P y → P (cond b x y)
either P true x y p q = p
either P false x y p q = q

pub or_swap : (m a b : Bool) → (m || (a || b)) ≡ (a || (m || b))
or_swap true a b = sym (or-true a)
or_swap false a b = refl
