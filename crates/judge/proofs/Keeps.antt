-- A list of which no item breaks a rule behind those before it is one that keeps 02's sentences, and the other way round.
use Rattle.std.specs.Prelude.{Bool, true, false, cond, ◌||◌, ◌≡◌, refl, List, [], ◌∷◌, ◌++◌, ℕ, ◌+◌, ◌≤◌, eqb, ltb, Result, Ok, Err}
use Rattle.std.proofs.Common.{sym, ap, ◌∙◌, subst, arith, append_assoc, eqb-true, eq-eqb, ltb-false, le-ltb, ne_eqb}
use Rattle.std.proofs.lemmas.Bool.{false≢true, or_parts}
use Rattle.std.proofs.lemmas.Bool.Decides.{nat_tests}
use Rattle.exec.specs.declared.Limits.{Limits}
use Rattle.exec.specs.declared.Pool.{Pool}
use Rattle.exec.specs.declared.Refusal.{Refusal}
use Rattle.exec.specs.declared.Stream.{Stream}
use Rattle.exec.specs.declared.Stream.TheVariants.{Stdout, Stderr, Notes}
use Rattle.exec.specs.Limits.{cost, off_chunk, has_notes, output_pool, pool_of}
use Rattle.exec.specs.Stream.{index, same_stream}
use Rattle.judge.specs.declared.Item.{Item}
use Rattle.judge.specs.declared.Item.TheVariants.{Granted, Input, Credit, Started, Output, End, InputClosed, Terminal}
use Rattle.judge.specs.Rules.{is_message, is_credit, is_started, is_output, is_end, is_spoken, is_unopened, is_closed, is_terminal, any, total, units_at, granted_to, cost_to, brought_by, charge_of, Keeps, stream_breaks, breaks_order, breaks_length, breaks_cost, granted_breaks, breaks_window, breach}
use Rattle.judge.proofs.Lists.{total_more, NoneBefore, NoneBehind, none_of, each_of, behind, before, one_before, before_one, along}
use Rattle.judge.proofs.Heard.{passed}

-- what holds of each item of a list, behind those before it
abbrev pub AtEach : (List Item → Item → Type 0) → List Item → Type 0
AtEach P xs = (pre : List Item) (x : Item) (post : List Item) → xs ≡ pre ++ (x ∷ post) → P pre x

-- none breaks a rule
abbrev pub Passes : Limits → List Item → Type 0
Passes l xs = AtEach (λ pre x. breach l pre x ≡ Ok tt) xs

-- ---- order

record Ordered (l : Limits) (xs : List Item) : Type 0 where
  started : NoneBefore is_started is_started xs
  spoken : NoneBefore is_spoken is_started xs
  closed : NoneBefore is_closed is_closed xs
  credit : NoneBefore is_closed is_credit xs
  ends : (x : Stream) → NoneBefore (is_end x) (is_end x) xs
  outputs : (x : Stream) → NoneBefore (is_end x) (is_output x) xs
  last : NoneBefore is_terminal is_message xs
  unopened : any (is_unopened l) xs ≡ false

same_is : (y x : Stream) → same_stream y x ≡ true → y ≡ x
same_is Stdout Stdout e = refl
same_is Stderr Stderr e = refl
same_is Notes Notes e = refl
same_is _ _ e = absurd (false≢true e)

same_self : (x : Stream) → same_stream x x ≡ true
same_self Stdout = refl
same_self Stderr = refl
same_self Notes = refl

neither : (a b : Bool) → a ≡ false → b ≡ false → (a || b) ≡ false
neither a b e f = rw (e, f) refl

module _ (l : Limits) (pre : List Item) where
  abbrev t : Bool
  t = any is_terminal pre

  no_started : (x : Item) → is_started x ≡ true → breaks_order l pre x ≡ false → any is_started pre ≡ false
  no_started Started q e = (or_parts t (any is_started pre) (or_parts (t || any is_started pre) (any is_spoken pre) e).0).1
  no_started _ q e = absurd (false≢true q)

  no_spoken : (x : Item) → is_started x ≡ true → breaks_order l pre x ≡ false → any is_spoken pre ≡ false
  no_spoken Started q e = (or_parts (t || any is_started pre) (any is_spoken pre) e).1
  no_spoken _ q e = absurd (false≢true q)

  no_closed : (x : Item) → is_closed x ≡ true → breaks_order l pre x ≡ false → any is_closed pre ≡ false
  no_closed InputClosed q e = (or_parts t (any is_closed pre) e).1
  no_closed _ q e = absurd (false≢true q)

  no_closed_credit : (x : Item) → is_credit x ≡ true → breaks_order l pre x ≡ false → any is_closed pre ≡ false
  no_closed_credit (Credit u) q e = (or_parts t (any is_closed pre) e).1
  no_closed_credit _ q e = absurd (false≢true q)

  -- the stream had no End, and is open
  not_shut : (x : Stream) → (t || stream_breaks l pre x) ≡ false → (any (is_end x) pre ≡ false) × (is_unopened l (End x) ≡ false)
  not_shut x e = or_parts (any (is_end x) pre) _ (or_parts t (stream_breaks l pre x) e).1

  no_end : (y : Stream) (x : Item) → is_end y x ≡ true → breaks_order l pre x ≡ false → any (is_end y) pre ≡ false
  no_end y (End x) q e = subst (λ (z : Stream). any (is_end z) pre ≡ false) (same_is x y q) (not_shut x e).0
  no_end y _ q e = absurd (false≢true q)

  no_end_output : (y : Stream) (x : Item) → is_output y x ≡ true → breaks_order l pre x ≡ false → any (is_end y) pre ≡ false
  no_end_output y (Output x n) q e = subst (λ (z : Stream). any (is_end z) pre ≡ false) (same_is x y q) (not_shut x e).0
  no_end_output y _ q e = absurd (false≢true q)

  no_terminal : (x : Item) → is_message x ≡ true → breaks_order l pre x ≡ false → t ≡ false
  no_terminal (Granted p u) q e = absurd (false≢true q)
  no_terminal (Input n) q e = absurd (false≢true q)
  no_terminal Started q e = (or_parts t (any is_started pre) (or_parts (t || any is_started pre) (any is_spoken pre) e).0).0
  no_terminal Terminal q e = e
  no_terminal _ q e = (or_parts t _ e).0

  is_opened : (x : Item) → breaks_order l pre x ≡ false → is_unopened l x ≡ false
  is_opened (Output x n) e = (not_shut x e).1
  is_opened (End x) e = (not_shut x e).1
  is_opened _ e = refl

module _ (l : Limits) (xs : List Item) where
  ordered : AtEach (λ pre x. breaks_order l pre x ≡ false) xs → Ordered l xs
  ordered h = record {
    started = λ pre x post e q. no_started l pre x q (h pre x post e);
    spoken = λ pre x post e q. no_spoken l pre x q (h pre x post e);
    closed = λ pre x post e q. no_closed l pre x q (h pre x post e);
    credit = λ pre x post e q. no_closed_credit l pre x q (h pre x post e);
    ends = λ y pre x post e q. no_end l pre y x q (h pre x post e);
    outputs = λ y pre x post e q. no_end_output l pre y x q (h pre x post e);
    last = λ pre x post e q. no_terminal l pre x q (h pre x post e);
    unopened = none_of (is_unopened l) xs (λ pre x post e. is_opened l pre x (h pre x post e));
  }

  in_order : Ordered l xs → AtEach (λ pre x. breaks_order l pre x ≡ false) xs
  in_order h pre (Granted p u) post e = refl
  in_order h pre (Input n) post e = refl
  in_order h pre (Credit u) post e = neither _ _ (h.last pre _ post e refl) (h.credit pre _ post e refl)
  in_order h pre Started post e = neither _ _ (neither _ _ (h.last pre _ post e refl) (h.started pre _ post e refl)) (h.spoken pre _ post e refl)
  in_order h pre (Output x n) post e = neither _ _ (h.last pre _ post e refl) (neither _ _ (h.outputs x pre _ post e (same_self x)) (each_of (is_unopened l) xs h.unopened pre _ post e))
  in_order h pre (End x) post e = neither _ _ (h.last pre _ post e refl) (neither _ _ (h.ends x pre _ post e (same_self x)) (each_of (is_unopened l) xs h.unopened pre _ post e))
  in_order h pre InputClosed post e = neither _ _ (h.last pre _ post e refl) (h.closed pre _ post e refl)
  in_order h pre Terminal post e = h.last pre _ post e refl

-- ---- units

-- the pool that the limits have at a position is a stream's
stream_of : (l : Limits) (p : Pool) (i : ℕ) → output_pool l.shared (has_notes l) p ≡ Ok i → (x : Stream) × (pool_of l x ≡ i)
stream_of l p i e = by l.shared (has_notes l) p e
  where
    by : (s n : Bool) (p : Pool) → output_pool s n p ≡ Ok i → (x : Stream) × (cond s 0 (index x) ≡ i)
    by true n Pool.Output e = (Stdout, cc)
    by false n Pool.Stdout e = (Stdout, cc)
    by false n Pool.Stderr e = (Stderr, cc)
    by false true Pool.Notes e = (Notes, cc)
    by true n _ e = cc
    by false n _ e = cc

module _ (l : Limits) (pre : List Item) where
  -- costs stay within credit, item by item
  abbrev Paid : ℕ → List Item → Type 0
  Paid i ys = total (cost_to l i) ys ≤ total (granted_to l i) ys

  abbrev Fits : ℕ → List Item → Type 0
  Fits i ys = total (granted_to l i) ys ≤ l.output.size + total (cost_to l i) ys

  abbrev Charged : List Item → Type 0
  Charged ys = total (charge_of l) ys ≤ total brought_by ys

  abbrev Brought : List Item → Type 0
  Brought ys = total brought_by ys ≤ l.input.size + total (charge_of l) ys

  paid_one : (i : ℕ) (x : Item) → breaks_cost l pre x ≡ false → Paid i pre → total (cost_to l i) pre + cost_to l i x ≤ total (granted_to l i) pre + granted_to l i x
  paid_one i (Output x n) e h = by (eqb (pool_of l x) i) refl
    where
      by : (b : Bool) → eqb (pool_of l x) i ≡ b → total (cost_to l i) pre + cond b (cost l.output.unit n) 0 ≤ total (granted_to l i) pre + 0
      by true w =
          let q = eqb-true (pool_of l x) i w in
          omega (arith, ltb-false _ _ e, ap (λ (k : ℕ). total (granted_to l k) pre) q, ap (λ (k : ℕ). total (cost_to l k) pre) q)
      by false w = omega (arith, h)
  paid_one i _ e h = omega (arith, h)

  fits_by : (p : Result ℕ Refusal) (u i : ℕ) → granted_breaks p l pre u ≡ false → Fits i pre → total (granted_to l i) pre + units_at p i u ≤ l.output.size + total (cost_to l i) pre
  fits_by (Err x) u i e h = omega (arith, h)
  fits_by (Ok k) u i e h = by (eqb k i) refl
    where
      by : (b : Bool) → eqb k i ≡ b → total (granted_to l i) pre + cond b u 0 ≤ l.output.size + total (cost_to l i) pre
      by true w =
          let q = eqb-true k i w in
          omega (arith, ltb-false _ _ e, ap (λ (k : ℕ). total (granted_to l k) pre) q, ap (λ (k : ℕ). total (cost_to l k) pre) q)
      by false w = omega (arith, h)

  fits_one : (i : ℕ) (x : Item) → breaks_window l pre x ≡ false → Fits i pre → total (granted_to l i) pre + granted_to l i x ≤ l.output.size + (total (cost_to l i) pre + cost_to l i x)
  fits_one i (Granted p u) e h = omega (arith, fits_by (output_pool l.shared (has_notes l) p) u i e h)
  fits_one i _ e h = omega (arith, h)

  charged_one : (x : Item) → breaks_cost l pre x ≡ false → Charged pre → total (charge_of l) pre + charge_of l x ≤ total brought_by pre + brought_by x
  charged_one (Input n) e h = omega (arith, ltb-false _ _ e)
  charged_one _ e h = omega (arith, h)

  brought_one : (x : Item) → breaks_window l pre x ≡ false → Brought pre → total brought_by pre + brought_by x ≤ l.input.size + (total (charge_of l) pre + charge_of l x)
  brought_one (Credit u) e h = omega (arith, ltb-false _ _ (or_parts (eqb u 0) _ e).1)
  brought_one _ e h = omega (arith, h)

-- ---- WHAT PASSES KEEPS THE RULES

module _ (l : Limits) (xs : List Item) where
  four : Passes l xs → AtEach (λ pre x. (breaks_order l pre x ≡ false) × (breaks_length l x ≡ false) × (breaks_cost l pre x ≡ false) × (breaks_window l pre x ≡ false)) xs
  four h pre x post e = passed (breaks_order l pre x) (breaks_length l x) (breaks_cost l pre x) (breaks_window l pre x) (h pre x post e)

  pub keeps : Passes l xs → Keeps l xs
  keeps h =
      let o = ordered l xs (λ pre x post e. (four h pre x post e).0) in
      record {
        one_started = before_one is_started xs o.started;
        started_first = λ pre post e. o.spoken pre Started post e refl;
        one_closed = before_one is_closed xs o.closed;
        closed_last = λ pre post e. behind is_closed is_credit xs o.credit pre InputClosed post e refl;
        one_end = λ x. before_one (is_end x) xs (o.ends x);
        end_last = λ x pre post e. behind (is_end x) (is_output x) xs (o.outputs x) pre (End x) post e (same_self x);
        terminal_last = λ pre post e. behind is_terminal is_message xs o.last pre Terminal post e refl;
        none_unopened = o.unopened;
        lengths = λ x n pre post e. on_chunk n (four h pre (Output x n) post e).1;
        costs = λ x. along (Paid l [] (pool_of l x)) xs (omega arith) λ pre y post e k.
            omega (arith, paid_one l pre (pool_of l x) y (four h pre y post e).2 k, total_more (cost_to l (pool_of l x)) pre y, total_more (granted_to l (pool_of l x)) pre y);
        windows = λ x. along (Fits l [] (pool_of l x)) xs (omega arith) λ pre y post e k.
            omega (arith, fits_one l pre (pool_of l x) y (four h pre y post e).3 k, total_more (cost_to l (pool_of l x)) pre y, total_more (granted_to l (pool_of l x)) pre y);
        some_units = λ u pre post e. some u (or_parts (eqb u 0) (ltb (l.input.size + total (charge_of l) pre) (total brought_by pre + u)) (four h pre (Credit u) post e).3).0;
        charges = along (Charged l []) xs (omega arith) λ pre y post e k.
            omega (arith, charged_one l pre y (four h pre y post e).2 k, total_more (charge_of l) pre y, total_more brought_by pre y);
        window = along (Brought l []) xs (omega arith) λ pre y post e k.
            omega (arith, brought_one l pre y (four h pre y post e).3 k, total_more (charge_of l) pre y, total_more brought_by pre y);
      }
    where
      some : (u : ℕ) → eqb u 0 ≡ false → 1 ≤ u
      some u e = grind (arith, nat_tests, e)

      on_chunk : (n : ℕ) → off_chunk l n ≡ false → (1 ≤ n) × (n ≤ l.chunk)
      on_chunk n e = let q = or_parts (eqb n 0) (ltb l.chunk n) e in (some n q.0, ltb-false _ _ q.1)

  -- ---- AND WHAT KEEPS THEM PASSES

  order_kept : Keeps l xs → Ordered l xs
  order_kept k = record {
    started = one_before is_started xs k.one_started;
    spoken = first;
    closed = one_before is_closed xs k.one_closed;
    credit = before is_closed is_credit xs closed;
    ends = λ x. one_before (is_end x) xs (k.one_end x);
    outputs = λ y. before (is_end y) (is_output y) xs (ended y);
    last = before is_terminal is_message xs last;
    unopened = k.none_unopened;
  }
    where
      first : (pre : List Item) (x : Item) (post : List Item) → xs ≡ pre ++ (x ∷ post) → is_started x ≡ true → any is_spoken pre ≡ false
      first pre Started post e q = k.started_first pre post e
      first pre _ post e q = absurd (false≢true q)

      closed : NoneBehind is_closed is_credit xs
      closed pre InputClosed post e q = k.closed_last pre post e
      closed pre _ post e q = absurd (false≢true q)

      ended : (y : Stream) → NoneBehind (is_end y) (is_output y) xs
      ended y pre (End x) post e q = subst (λ (z : Stream). any (is_output z) post ≡ false) (same_is x y q) (k.end_last x pre post e)
      ended y pre _ post e q = absurd (false≢true q)

      last : NoneBehind is_terminal is_message xs
      last pre Terminal post e q = k.terminal_last pre post e
      last pre _ post e q = absurd (false≢true q)

  module _ (k : Keeps l xs) (pre : List Item) where
    -- what stands behind one more
    behind_one : (x : Item) (post : List Item) → xs ≡ pre ++ (x ∷ post) → xs ≡ (pre ++ (x ∷ [])) ++ post
    behind_one x post e = e ∙ sym (append_assoc pre (x ∷ []) post)

    length_kept : (x : Item) (post : List Item) → xs ≡ pre ++ (x ∷ post) → breaks_length l x ≡ false
    length_kept (Output x n) post e = let q = k.lengths x n pre post e in neither _ _ (ne_eqb n 0 (λ z. absurd (omega (arith, q.0, z)))) (le-ltb _ _ q.1)
    length_kept _ post e = refl

    cost_kept : (x : Item) (post : List Item) → xs ≡ pre ++ (x ∷ post) → breaks_cost l pre x ≡ false
    cost_kept (Input n) post e =
        le-ltb _ _ (omega (arith, k.charges (pre ++ (Input n ∷ [])) post (behind_one (Input n) post e), total_more (charge_of l) pre (Input n), total_more brought_by pre (Input n)))
    cost_kept (Output x n) post e =
        let i = pool_of l x in
        let own : cost_to l i (Output x n) ≡ cost l.output.unit n = rw (eq-eqb i i refl) refl in
        le-ltb _ _ (omega (arith, own, k.costs x (pre ++ (Output x n ∷ [])) post (behind_one (Output x n) post e), total_more (cost_to l i) pre (Output x n), total_more (granted_to l i) pre (Output x n)))
    cost_kept _ post e = refl

    window_kept : (x : Item) (post : List Item) → xs ≡ pre ++ (x ∷ post) → breaks_window l pre x ≡ false
    window_kept (Granted p u) post e = by (output_pool l.shared (has_notes l) p) refl
      where
        by : (q : Result ℕ Refusal) → output_pool l.shared (has_notes l) p ≡ q → granted_breaks q l pre u ≡ false
        by (Err x) w = refl
        by (Ok i) w =
            let s = stream_of l p i w in
            let own : granted_to l i (Granted p u) ≡ u = rw (w, eq-eqb i i refl) refl in
            le-ltb _ _ (omega (
              arith,
              own,
              subst (λ (m : ℕ). total (granted_to l m) (pre ++ (Granted p u ∷ [])) ≤ l.output.size + total (cost_to l m) (pre ++ (Granted p u ∷ []))) s.1
                  (k.windows s.0 (pre ++ (Granted p u ∷ [])) post (behind_one (Granted p u) post e)),
              total_more (cost_to l i) pre (Granted p u),
              total_more (granted_to l i) pre (Granted p u),
            ))
    window_kept (Credit u) post e =
        neither _ _ (ne_eqb u 0 (λ z. absurd (omega (arith, k.some_units u pre post e, z))))
        (le-ltb _ _ (omega (arith, k.window (pre ++ (Credit u ∷ [])) post (behind_one (Credit u) post e), total_more (charge_of l) pre (Credit u), total_more brought_by pre (Credit u))))
    window_kept _ post e = refl

  pub passes : Keeps l xs → Passes l xs
  passes k pre x post e =
      rw (in_order l xs (order_kept k) pre x post e, length_kept k pre x post e, cost_kept k pre x post e, window_kept k pre x post e) refl
