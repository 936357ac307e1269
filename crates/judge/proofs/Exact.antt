-- THE JUDGE IS THE RULES, and is careful in any state.
use Rattle.std.specs.Prelude.{true, ◌≡◌, refl, List, [], ◌∷◌, ◌++◌, Result, Ok, Err}
use Rattle.std.proofs.Common.{sym, ap, ◌∙◌, subst, append_assoc, append-nil}
use Rattle.exec.specs.declared.Limits.{Limits}
use Rattle.exec.specs.declared.Refusal.{Refusal}
use Rattle.exec.specs.Limits.{is_valid}
use Rattle.judge.specs.declared.Item.{Item}
use Rattle.judge.specs.declared.Judge.{Judge}
use Rattle.judge.specs.Judge.{Hearing, new_judge, judged, noted, hear, hear_by, after, first, first_by}
use Rattle.judge.specs.Rules.{Keeps, breaks_order, breaks_length, breaks_cost, breaks_window, breach}
use Rattle.judge.specs.Exact.{TheJudge, AnyJudge}
use Rattle.judge.proofs.Heard.{Heard, none_heard, same, same_cost, passed, more}
use Rattle.judge.proofs.Keeps.{AtEach, keeps, passes}

-- ---- any judge

pub careful : AnyJudge
unfolding judged
careful j x = record {
  limits = λ e. rw e refl;
  left = λ r e. by (judged j x) r e;
}
  where
    by : (a : Result (Unit {0}) Refusal) (r : Refusal) → (hear_by a j x).answer ≡ Err r → (hear_by a j x).judge ≡ j
    by (Ok tt) r e = cc
    by (Err q) r e = refl

-- what it is judged by is what it answers
answer_by : (a : Result (Unit {0}) Refusal) (j : Judge) (x : Item) → (hear_by a j x).answer ≡ a
answer_by (Ok tt) j x = refl
answer_by (Err r) j x = refl

-- ---- one that heard a list

module _ (l : Limits) (v : is_valid l ≡ true) where
  -- none of xs breaks a rule behind pre
  abbrev PassFrom : (pre xs : List Item) → Type 0
  PassFrom pre xs = AtEach (λ a x. breach l (pre ++ a) x ≡ Ok tt) xs

  -- the first of them
  head_passes : (pre : List Item) (x : Item) (xs : List Item) → PassFrom pre (x ∷ xs) → breach l pre x ≡ Ok tt
  head_passes pre x xs p = ap (λ (a : List Item). breach l a x) (sym (append-nil pre)) ∙ p [] x xs refl

  -- and the rest
  rest_passes : (pre : List Item) (x : Item) (xs : List Item) → PassFrom pre (x ∷ xs) → PassFrom (pre ++ (x ∷ [])) xs
  rest_passes pre x xs p a y b e =
      ap (λ (c : List Item). breach l c y) (append_assoc pre (x ∷ []) a) ∙ p (x ∷ a) y b (ap (λ (c : List Item). x ∷ c) e)

  passes_both : (pre : List Item) (x : Item) (xs : List Item) → breach l pre x ≡ Ok tt → PassFrom (pre ++ (x ∷ [])) xs → PassFrom pre (x ∷ xs)
  passes_both pre x xs h p [] y b e =
      let q : x ≡ y = cc in
      ap (λ (a : List Item). breach l a y) (append-nil pre) ∙ subst (λ (z : Item). breach l pre z ≡ Ok tt) q h
  passes_both pre x xs h p (z ∷ a) y b e =
      let q : x ≡ z = cc in
      let w : xs ≡ a ++ (y ∷ b) = cc in
      subst (λ (z : Item). breach l (pre ++ (z ∷ a)) y ≡ Ok tt) q (ap (λ (c : List Item). breach l c y) (sym (append_assoc pre (x ∷ []) a)) ∙ p a y b w)

  -- no items
  none_pass : (pre : List Item) → PassFrom pre []
  none_pass pre [] x b e = cc
  none_pass pre (y ∷ a) x b e = cc

  -- what passes is answered Ok, and heard
  answered : (pre : List Item) (j : Judge) → Heard l pre j → (x : Item) → (a : Result (Unit {0}) Refusal) → breach l pre x ≡ a → hear j x ≡ hear_by a j x
  answered pre j h x a e = ap (λ (b : Result (Unit {0}) Refusal). hear_by b j x) (same l pre j h v x ∙ e)

  goes_on : (pre : List Item) (j : Judge) → Heard l pre j → (x : Item) → breach l pre x ≡ Ok tt → Heard l (pre ++ (x ∷ [])) (noted j x)
  goes_on pre j h x e = more l pre j h x (same_cost l pre j h x ∙ (passed (breaks_order l pre x) (breaks_length l x) (breaks_cost l pre x) (breaks_window l pre x) e).2)

  all_heard : (xs pre : List Item) (j : Judge) → Heard l pre j → PassFrom pre xs → (first j xs ≡ Ok tt) × Heard l (pre ++ xs) (after j xs)
  all_heard [] pre j h p = (refl, subst (λ (a : List Item). Heard l a j) (sym (append-nil pre)) h)
  all_heard (x ∷ xs) pre j h p =
      let e = head_passes pre x xs p in
      let q = all_heard xs (pre ++ (x ∷ [])) (noted j x) (goes_on pre j h x e) (rest_passes pre x xs p) in
      rw (answered pre j h x (Ok tt) e) (q.0, subst (λ (a : List Item). Heard l a (after (noted j x) xs)) (append_assoc pre (x ∷ []) xs) q.1)

  -- a list is accepted whole, or refused at an item that breaks a rule
  data Ends (pre xs : List Item) : Result (Unit {0}) Refusal → Type 0 where
    whole : PassFrom pre xs → Ends pre xs (Ok tt)
    at_item : (a : List Item) (x : Item) (b : List Item) (r : Refusal) → xs ≡ a ++ (x ∷ b) → PassFrom pre a → breach l (pre ++ a) x ≡ Err r → Ends pre xs (Err r)

  ends : (xs pre : List Item) (j : Judge) → Heard l pre j → Ends pre xs (first j xs)
  ends [] pre j h = whole (none_pass pre)
  ends (x ∷ xs) pre j h = by (breach l pre x) refl (λ e. ends xs (pre ++ (x ∷ [])) (noted j x) (goes_on pre j h x e))
    where
      by : (a : Result (Unit {0}) Refusal) → breach l pre x ≡ a → (breach l pre x ≡ Ok tt → Ends (pre ++ (x ∷ [])) xs (first (noted j x) xs)) → Ends pre (x ∷ xs) (first j (x ∷ xs))
      by (Err r) e rest = rw (answered pre j h x (Err r) e) (at_item [] x xs r refl (none_pass pre) (ap (λ (a : List Item). breach l a x) (append-nil pre) ∙ e))
      by (Ok tt) e rest = rw (answered pre j h x (Ok tt) e) (go (first (noted j x) xs) (rest e))
        where
          go : (a : Result (Unit {0}) Refusal) → Ends (pre ++ (x ∷ [])) xs a → Ends pre (x ∷ xs) a
          go a (whole p) = whole (passes_both pre x xs e p)
          go a (at_item c y b r w p z) = at_item (x ∷ c) y b r (ap (λ (ys : List Item). x ∷ ys) w) (passes_both pre x c e p) (ap (λ (ys : List Item). breach l ys y) (sym (append_assoc pre (x ∷ []) c)) ∙ z)

first_append : (xs ys : List Item) (j : Judge) → first j (xs ++ ys) ≡ first_by (first j xs) (first (after j xs) ys)
first_append [] ys j = refl
first_append (x ∷ xs) ys j = by (judged j x) (first_append xs ys (hear j x).judge)
  where
    by : (a : Result (Unit {0}) Refusal) → first (hear_by a j x).judge (xs ++ ys) ≡ first_by (first (hear_by a j x).judge xs) (first (after (hear_by a j x).judge xs) ys)
        → first_by (hear_by a j x).answer (first (hear_by a j x).judge (xs ++ ys)) ≡ first_by (first_by (hear_by a j x).answer (first (hear_by a j x).judge xs)) (first (after (hear_by a j x).judge xs) ys)
    by (Ok tt) h = h
    by (Err r) h = refl

-- ---- THE JUDGE IS THE RULES

pub exact : TheJudge
exact l v = record {
  accepts = λ xs k. (all_heard l v xs [] (new_judge l) (none_heard l) (passes l xs k)).0;
  only = λ xs e. only xs (first (new_judge l) xs) e (ends l v xs [] (new_judge l) (none_heard l));
  refuses = λ xs r e. refused xs (first (new_judge l) xs) r e (ends l v xs [] (new_judge l) (none_heard l));
  breaks = λ pre x post r k e.
      let q = heard pre k in
      first_append pre (x ∷ post) (new_judge l) ∙ ap (λ (a : Result (Unit {0}) Refusal). first_by a (first (after (new_judge l) pre) (x ∷ post))) q.0
      ∙ ap (λ (h : Hearing). first_by h.answer (first h.judge post)) (answered l v pre (after (new_judge l) pre) q.1 x (Err r) e);
  answers = λ pre x k. answer_by (judged (after (new_judge l) pre) x) (after (new_judge l) pre) x ∙ same l pre (after (new_judge l) pre) (heard pre k).1 v x;
}
  where
    heard : (pre : List Item) → Keeps l pre → (first (new_judge l) pre ≡ Ok tt) × Heard l pre (after (new_judge l) pre)
    heard pre k = all_heard l v pre [] (new_judge l) (none_heard l) (passes l pre k)

    only : (xs : List Item) (a : Result (Unit {0}) Refusal) → a ≡ Ok tt → Ends l v [] xs a → Keeps l xs
    only xs a e (whole p) = keeps l xs p
    only xs a e (at_item c y b r w p z) = cc

    refused : (xs : List Item) (a : Result (Unit {0}) Refusal) (r : Refusal) → a ≡ Err r → Ends l v [] xs a
        → (pre : List Item) × (x : Item) × (post : List Item) × (xs ≡ pre ++ (x ∷ post)) × Keeps l pre × (breach l pre x ≡ Err r)
    refused xs a r e (whole p) = cc
    refused xs a r e (at_item c y b q w p z) = (c, y, b, w, keeps l c p, z ∙ e)
