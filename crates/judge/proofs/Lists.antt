-- Lists of items: what one more brings, and where an item stands in one.
use Rattle.std.specs.Prelude.{Bool, true, false, ◌||◌, ◌≡◌, refl, List, [], ◌∷◌, ◌++◌, ℕ, ◌+◌, ◌≤◌}
use Rattle.std.proofs.Common.{sym, ap, ◌∙◌, subst, arith, append_assoc, append-nil}
use Rattle.std.proofs.Math.Bool.{or-false}
use Rattle.std.proofs.lemmas.Bool.{false≢true, or_parts, or_left, or_right}
use Rattle.judge.specs.declared.Item.{Item}
use Rattle.judge.specs.Rules.{any, total, counted, count}

-- ---- one more, and more

pub any_append : (p : Item → Bool) (xs ys : List Item) → any p (xs ++ ys) ≡ (any p xs || any p ys)
any_append p [] ys = refl
any_append p (x ∷ xs) ys = ap (λ (b : Bool). p x || b) (any_append p xs ys) ∙ by (p x)
  where
    by : (b : Bool) → (b || (any p xs || any p ys)) ≡ ((b || any p xs) || any p ys)
    by true = refl
    by false = refl

pub any_more : (p : Item → Bool) (pre : List Item) (x : Item) → any p (pre ++ (x ∷ [])) ≡ (any p pre || p x)
any_more p pre x = any_append p pre (x ∷ []) ∙ ap (λ (b : Bool). any p pre || b) (or-false (p x))

pub total_append : (f : Item → ℕ) (xs ys : List Item) → total f (xs ++ ys) ≡ total f xs + total f ys
total_append f [] ys = omega arith
total_append f (x ∷ xs) ys = omega (arith, total_append f xs ys)

pub total_more : (f : Item → ℕ) (pre : List Item) (x : Item) → total f (pre ++ (x ∷ [])) ≡ total f pre + f x
total_more f pre x = omega (arith, total_append f pre (x ∷ []))

-- none is so, and none is counted
pub none_counted : (p : Item → Bool) (xs : List Item) → any p xs ≡ false → count p xs ≡ 0
none_counted p [] e = refl
none_counted p (x ∷ xs) e =
    let q = or_parts (p x) (any p xs) e in
    let c : counted p x ≡ 0 = rw q.0 refl in
    omega (arith, c, none_counted p xs q.1)

pub counted_none : (p : Item → Bool) (xs : List Item) → count p xs ≡ 0 → any p xs ≡ false
counted_none p [] e = refl
counted_none p (x ∷ xs) e = by (p x) refl (λ z. counted_none p xs z)
  where
    by : (b : Bool) → p x ≡ b → (count p xs ≡ 0 → any p xs ≡ false) → (p x || any p xs) ≡ false
    by true h rest = let c : counted p x ≡ 1 = rw h refl in absurd (omega (arith, e, c))
    by false h rest = let c : counted p x ≡ 0 = rw h refl in rw h (rest (omega (arith, e, c)))

-- ---- an item in a list

-- one of them is so: it stands behind some
abbrev pub Found : (p : Item → Bool) → List Item → Type 0
Found p xs = (pre : List Item) × (x : Item) × (post : List Item) × (xs ≡ pre ++ (x ∷ post)) × (p x ≡ true)

pub found : (p : Item → Bool) (xs : List Item) → any p xs ≡ true → Found p xs
found p [] e = absurd (false≢true e)
found p (x ∷ xs) e = by (p x) refl (λ a. found p xs a)
  where
    by : (b : Bool) → p x ≡ b → (any p xs ≡ true → Found p xs) → Found p (x ∷ xs)
    by true h rest = ([], x, xs, refl, h)
    by false h rest =
        let q = rest (sym (ap (λ (c : Bool). c || any p xs) h) ∙ e) in
        (x ∷ q.0, q.1, q.2, ap (λ (ys : List Item). x ∷ ys) q.3, q.4)

-- unless it is so
unless : (b : Bool) → (b ≡ true → ⊥) → b ≡ false
unless true h = absurd (h refl)
unless false h = refl

-- none of a list is so, where each is not
pub none_of : (p : Item → Bool) (xs : List Item) → ((pre : List Item) (x : Item) (post : List Item) → xs ≡ pre ++ (x ∷ post) → p x ≡ false) → any p xs ≡ false
none_of p xs h = unless (any p xs) λ a.
    let f = found p xs a in
    false≢true (sym (h f.0 f.1 f.2 f.3) ∙ f.4)

pub each_of : (p : Item → Bool) (xs : List Item) → any p xs ≡ false → (pre : List Item) (x : Item) (post : List Item) → xs ≡ pre ++ (x ∷ post) → p x ≡ false
each_of p xs n pre x post e = (or_parts (p x) (any p post) (or_parts (any p pre) (p x || any p post) (sym (any_append p pre (x ∷ post)) ∙ sym (ap (any p) e) ∙ n)).1).0

-- where one that is q stands, none before it is p
abbrev pub NoneBefore : (p q : Item → Bool) → List Item → Type 0
NoneBefore p q xs = (pre : List Item) (x : Item) (post : List Item) → xs ≡ pre ++ (x ∷ post) → q x ≡ true → any p pre ≡ false

-- and where one that is p stands, none behind it is q
abbrev pub NoneBehind : (p q : Item → Bool) → List Item → Type 0
NoneBehind p q xs = (pre : List Item) (x : Item) (post : List Item) → xs ≡ pre ++ (x ∷ post) → p x ≡ true → any q post ≡ false

pub behind : (p q : Item → Bool) (xs : List Item) → NoneBefore p q xs → NoneBehind p q xs
behind p q xs h pre x post e t = unless (any q post) λ a.
    let f = found q post a in
    let s : xs ≡ (pre ++ (x ∷ f.0)) ++ (f.1 ∷ f.2) = e ∙ ap (λ (ys : List Item). pre ++ (x ∷ ys)) f.3 ∙ sym (append_assoc pre (x ∷ f.0) (f.1 ∷ f.2)) in
    false≢true (sym (h (pre ++ (x ∷ f.0)) f.1 f.2 s f.4) ∙ any_append p pre (x ∷ f.0) ∙ or_right (any p pre) (p x || any p f.0) (or_left (p x) (any p f.0) t))

pub before : (p q : Item → Bool) (xs : List Item) → NoneBehind p q xs → NoneBefore p q xs
before p q xs h pre x post e t = unless (any p pre) λ a.
    let f = found p pre a in
    let s : xs ≡ f.0 ++ (f.1 ∷ (f.2 ++ (x ∷ post))) = e ∙ ap (λ (ys : List Item). ys ++ (x ∷ post)) f.3 ∙ append_assoc f.0 (f.1 ∷ f.2) (x ∷ post) in
    false≢true (sym (h f.0 f.1 (f.2 ++ (x ∷ post)) s f.4) ∙ any_append q f.2 (x ∷ post) ∙ or_right (any q f.2) (q x || any q post) (or_left (q x) (any q post) t))

-- at most one is so, where none stands before another
pub one_before : (p : Item → Bool) (xs : List Item) → count p xs ≤ 1 → NoneBefore p p xs
one_before p xs h pre x post e t =
    let c : counted p x ≡ 1 = rw t refl in
    counted_none p pre (omega (arith, h, c, total_append (counted p) pre (x ∷ post), ap (count p) e))

pub before_one : (p : Item → Bool) (xs : List Item) → NoneBefore p p xs → count p xs ≤ 1
before_one p [] h = omega arith
before_one p (x ∷ xs) h = by (p x) refl (before_one p xs (λ pre y post e t. (or_parts (p x) (any p pre) (h (x ∷ pre) y post (ap (λ (ys : List Item). x ∷ ys) e) t)).1))
  where
    by : (b : Bool) → p x ≡ b → count p xs ≤ 1 → count p (x ∷ xs) ≤ 1
    by true t rest =
        let c : counted p x ≡ 1 = rw t refl in
        omega (arith, c, none_counted p xs (behind p p (x ∷ xs) h [] x xs refl t))
    by false f rest = let c : counted p x ≡ 0 = rw f refl in omega (arith, c, rest)

-- what holds of no items, and of one more where it held, holds of all that a list begins with
pub along : (P : List Item → Type 0) (xs : List Item) → P [] → ((pre : List Item) (x : Item) (post : List Item) → xs ≡ pre ++ (x ∷ post) → P pre → P (pre ++ (x ∷ [])))
    → (pre post : List Item) → xs ≡ pre ++ post → P pre
along P xs none one pre post e = go [] pre none e
  where
    go : (done rest : List Item) → P done → xs ≡ done ++ (rest ++ post) → P (done ++ rest)
    go done [] h e = subst P (sym (append-nil done)) h
    go done (x ∷ rest) h e =
        subst P (append_assoc done (x ∷ []) rest)
        (go (done ++ (x ∷ [])) rest (one done x (rest ++ post) e h) (e ∙ sym (append_assoc done (x ∷ []) (rest ++ post))))
