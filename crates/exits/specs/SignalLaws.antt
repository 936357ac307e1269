-- Laws of the table: what is found in it, and that number and name find the same signal.
use Rattle.std.specs.Prelude.{Bool, true, false, cond, ◌||◌, List, [], ◌∷◌, ◌≡◌, refl, ℕ, ◌≤◌, ◌<◌, ◌^◌, leb, ltb, ℤ, pos, negsuc, length, Option, Some, None, is_some, find}
use Rattle.std.specs.List.{list_all, list_any}
use Rattle.std.specs.Option.{option_map, option_map_or, unwrap_or}
use Rattle.std.specs.Ordering.{int_eq}
use Rattle.std.proofs.lemmas.Bool.{false≢true}
use Rattle.std.proofs.lemmas.Bool.Decides.{Decides-int_eq}
use Rattle.std.proofs.Common.{sym, ap, ◌∙◌, subst, arith, leb-true, ltb-true}
use Rattle.ring.specs.Flags.{and_l, and_r}
use Rattle.octets.specs.Text.{bytes, same, same_is}
use Rattle.exits.specs.Signals.{Signal, signals, is_number, is_named, name_of, number_of}

-- ---- a search

turn : (R : Signal → Type 0) (b : Bool) (x y : Signal) (o : Option Signal) → (b ≡ true → R y) → (o ≡ Some x → R x)
    → cond b (Some y) o ≡ Some x → R x
turn R true x y o here behind h = let e : y ≡ x = cc in subst R e (here refl)
turn R false x y o here behind h = behind h

-- what is found passed, and whatever all of the list pass
pub found : (P Q : Signal → Bool) (xs : List Signal) (x : Signal) → list_all Q xs ≡ true → find P xs ≡ Some x
    → (P x ≡ true) × (Q x ≡ true)
found P Q [] x a h = let z : ◌≡◌ {A = ℕ} 0 1 = cc in absurd (omega arith)
found P Q (y ∷ xs) x a h =
    turn (λ z. (P z ≡ true) × (Q z ≡ true)) (P y) x y (find P xs) (λ p. (p, and_l (Q y) (list_all Q xs) a))
    (found P Q xs x (and_r (Q y) (list_all Q xs) a)) h

-- one is found where one passes
sooner : (b c : Bool) (x : Signal) (o : Option Signal) → is_some o ≡ c → is_some (cond b (Some x) o) ≡ (b || c)
sooner true c x o h = refl
sooner false c x o h = h

pub find_any : (P : Signal → Bool) (xs : List Signal) → is_some (find P xs) ≡ list_any P xs
find_any P [] = refl
find_any P (x ∷ xs) = sooner (P x) (list_any P xs) x (find P xs) (find_any P xs)

-- ---- what is told of the signal that is found

is_some_map : {V : Type 0} (f : Signal → V) (o : Option Signal) → is_some (option_map f o) ≡ is_some o
is_some_map f None = refl
is_some_map f (Some x) = refl

mapped : {V : Type 0} (f : Signal → V) (o : Option Signal) (v : V) → option_map f o ≡ Some v → (x : Signal) × ((o ≡ Some x) × (f x ≡ v))
mapped f None v h = let z : ◌≡◌ {A = ℕ} 0 1 = cc in absurd (omega arith)
mapped f (Some x) v h = (x, (refl, cc))

-- a number has a name where it is in the table
pub named_any : (n : ℤ) → is_some (name_of n) ≡ list_any (is_number n) signals
unfolding name_of
named_any n = is_some_map (λ x. x.name) (find (is_number n) signals) ∙ find_any (is_number n) signals

-- of at most four bytes
is_short : Signal → Bool
is_short x = leb (length x.name) 4

pub name_most : (n : ℤ) (name : List ℕ) → name_of n ≡ Some name → length name ≤ 4
unfolding name_of is_short bytes
name_most n name h =
    let x = mapped (λ x. x.name) (find (is_number n) signals) name h in
    subst (λ (s : List ℕ). length s ≤ 4) x.1.1 (leb-true _ 4 (found (is_number n) is_short signals x.0 refl x.1.0).1)

short_or : (o : Option (List ℕ)) → ((name : List ℕ) → o ≡ Some name → length name ≤ 4) → length (unwrap_or o []) ≤ 4
short_or None h = omega arith
short_or (Some name) h = h name refl

pub name_short : (n : ℤ) → length (unwrap_or (name_of n) []) ≤ 4
name_short n = short_or (name_of n) (name_most n)

-- and a number that an i32 holds
abbrev pub Low : ℤ → Type 0
Low (pos n) = n < 2 ^ 31
Low (negsuc n) = ⊥

is_low : ℤ → Bool
is_low (pos n) = ltb n (2 ^ 31)
is_low (negsuc n) = false

is_low_lem : (n : ℤ) → is_low n ≡ true → Low n
unfolding is_low
is_low_lem (pos n) h = ltb-true n (2 ^ 31) h
is_low_lem (negsuc n) h = false≢true h

pub number_low : (name : List ℕ) (n : ℤ) → number_of name ≡ Some n → Low n
unfolding number_of bytes is_low
number_low name n h =
    let x = mapped (λ x. x.number) (find (is_named name) signals) n h in
    subst Low x.1.1 (is_low_lem x.0.number (found (is_named name) (λ y. is_low y.number) signals x.0 refl x.1.0).1)

-- the signal that a name finds is found by its number, and the other way round
has_name : (name : List ℕ) (o : Option (List ℕ)) → option_map_or (λ s. same s name) o false ≡ true → o ≡ Some name
has_name name None h = absurd (false≢true h)
has_name name (Some s) h = ap (λ (t : List ℕ). Some t) (same_is s name h)

has_number : (n : ℤ) (o : Option ℤ) → option_map_or (λ m. int_eq m n) o false ≡ true → o ≡ Some n
has_number n None h = absurd (false≢true h)
has_number n (Some m) h = ap (λ (k : ℤ). Some k) ((Decides-int_eq m n).0 h)

again : Signal → Bool
unfolding bytes same name_of
again x = option_map_or (λ s. same s x.name) (name_of x.number) false

anew : Signal → Bool
unfolding bytes same number_of
anew x = option_map_or (λ m. int_eq m x.number) (number_of x.name) false

-- NUMBER AND NAME: a number of the table is that of its name, and a name of the table that of its number
pub name_number : (n : ℤ) (name : List ℕ) → name_of n ≡ Some name → number_of name ≡ Some n
unfolding name_of anew
name_number n name h =
    let x = mapped (λ x. x.name) (find (is_number n) signals) name h in
    let q = found (is_number n) anew signals x.0 refl x.1.0 in
    let e : x.0.number ≡ n = (Decides-int_eq x.0.number n).0 q.0 in
    ap number_of (sym x.1.1) ∙ has_number x.0.number (number_of x.0.name) q.1 ∙ ap (λ (k : ℤ). Some k) e

pub number_name : (name : List ℕ) (n : ℤ) → number_of name ≡ Some n → name_of n ≡ Some name
unfolding number_of again
number_name name n h =
    let x = mapped (λ x. x.number) (find (is_named name) signals) n h in
    let q = found (is_named name) again signals x.0 refl x.1.0 in
    ap name_of (sym x.1.1) ∙ has_name x.0.name (name_of x.0.number) q.1 ∙ ap (λ (s : List ℕ). Some s) (same_is x.0.name name q.0)
