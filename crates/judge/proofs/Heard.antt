-- The judge that heard a list of items that keep the rules: what it answers to one more is that item's breach, and it has heard it then.
use Rattle.std.specs.Prelude.{Bool, true, false, cond, ◌||◌, ◌≡◌, refl, List, [], ◌∷◌, ◌++◌, ℕ, ◌+◌, ◌-◌, ◌≤◌, ◌<◌, eqb, ltb, Result, Ok, Err}
use Rattle.std.proofs.Common.{sym, ap, ◌∙◌, subst, arith, eqb-true, ltb-false}
use Rattle.std.proofs.Math.Bool.{or-false}
use Rattle.std.proofs.lemmas.Bool.Decides.{nat_tests}
use mathlib.Core.Bool.{or-true}
use Rattle.exec.specs.declared.Limits.{Limits}
use Rattle.exec.specs.declared.Pool.{Pool}
use Rattle.exec.specs.declared.Refusal.{Refusal}
use Rattle.exec.specs.declared.Stream.{Stream}
use Rattle.exec.specs.declared.Stream.TheVariants.{Stdout, Stderr, Notes}
use Rattle.exec.specs.Limits.{cost, is_valid, off_chunk, has_notes, output_pool, pool_of}
use Rattle.exec.specs.Row.{at, put}
use Rattle.exec.specs.Stream.{index, stream_at, index_stream_at, same_stream}
use Rattle.judge.specs.declared.Item.{Item}
use Rattle.judge.specs.declared.Item.TheVariants.{Granted, Input, Credit, Started, Output, End, InputClosed, Terminal}
use Rattle.judge.specs.declared.Judge.{Judge}
use Rattle.judge.specs.Judge.{new_judge, has_ended, left_at, is_out_of_order, is_off_chunk, is_unpaid, is_above_window, granted_above, judged, left_by, noted}
use Rattle.judge.specs.Rules.{verdict, is_started, is_end, is_spoken, is_closed, is_terminal, any, total, units_at, granted_to, cost_to, brought_by, charge_of, breaks_order, breaks_length, breaks_cost, granted_breaks, breaks_window, breach}
use Rattle.judge.proofs.Lists.{any_more, total_more}

-- the judge that heard the items pre
pub record Heard (l : Limits) (pre : List Item) (j : Judge) : Type 0 where
  pub limits : j.limits ≡ l
  pub started : j.started ≡ any is_started pre
  pub spoken : j.spoken ≡ any is_spoken pre
  pub closed : j.input_closed ≡ any is_closed pre
  pub terminal : j.terminal ≡ any is_terminal pre
  pub ended : (x : Stream) → has_ended x j ≡ any (is_end x) pre
  pub left : (i : ℕ) → i < 3 → left_at i j + total (cost_to l i) pre ≡ total (granted_to l i) pre
  pub input : j.input_left + total (charge_of l) pre ≡ total brought_by pre

pub none_heard : (l : Limits) → Heard l [] (new_judge l)
none_heard l = record {
  limits = refl;
  started = refl;
  spoken = refl;
  closed = refl;
  terminal = refl;
  ended = λ x. alike (eqb (index x) 0) (eqb (index x) 1) false;
  left = λ i h. ap (λ (n : ℕ). n + 0) (alike (eqb i 0) (eqb i 1) 0);
  input = refl;
}
  where
    alike : {A : Type 0} (b c : Bool) (v : A) → cond b v (cond c v v) ≡ v
    alike true c v = refl
    alike false true v = refl
    alike false false v = refl

-- ---- what it answers

-- a < b, with the same added to both
shifted : (a b c d k : ℕ) → a + k ≡ c → b + k ≡ d → ltb a b ≡ ltb c d
shifted a b c d k e f = grind (arith, nat_tests, e, f)

pool_least : (l : Limits) (x : Stream) → pool_of l x < 3
pool_least l x = by l.shared x
  where
    by : (s : Bool) (x : Stream) → cond s 0 (index x) < 3
    by true x = omega arith
    by false Stdout = omega arith
    by false Stderr = omega arith
    by false Notes = omega arith

-- a pool that the limits have stands at 0, 1 or 2
abbrev Stands : Result ℕ Refusal → Type 0
Stands (Ok i) = i < 3
Stands (Err x) = Unit

stands : (s n : Bool) (p : Pool) → Stands (output_pool s n p)
stands true n Pool.Output = omega arith
stands false n Pool.Stdout = omega arith
stands false n Pool.Stderr = omega arith
stands false true Pool.Notes = omega arith
stands true n _ = tt
stands false n _ = tt

module _ (l : Limits) (pre : List Item) (j : Judge) (h : Heard l pre j) where
  same_order : (x : Item) → is_out_of_order j x ≡ breaks_order l pre x
  same_order (Granted p u) = refl
  same_order (Input n) = refl
  same_order (Credit u) = cc (h.terminal, h.closed)
  same_order Started = cc (h.terminal, h.started, h.spoken)
  same_order (Output x n) = cc (h.terminal, h.ended x, h.limits)
  same_order (End x) = cc (h.terminal, h.ended x, h.limits)
  same_order InputClosed = cc (h.terminal, h.closed)
  same_order Terminal = h.terminal

  same_length : (x : Item) → is_off_chunk j x ≡ breaks_length l x
  same_length (Output x n) = ap (λ (m : Limits). off_chunk m n) h.limits
  same_length _ = refl

  pub same_cost : (x : Item) → is_unpaid j x ≡ breaks_cost l pre x
  same_cost (Input n) =
      ap (λ (m : Limits). ltb j.input_left (cost m.input.unit n)) h.limits
      ∙ shifted j.input_left (cost l.input.unit n) _ _ (total (charge_of l) pre) h.input (omega arith)
  same_cost (Output x n) =
      let i = pool_of l x in
      ap (λ (m : Limits). ltb (left_at (pool_of m x) j) (cost m.output.unit n)) h.limits
      ∙ shifted (left_at i j) (cost l.output.unit n) _ _ (total (cost_to l i) pre) (h.left i (pool_least l x)) (omega arith)
  same_cost _ = refl

  same_granted : (p : Result ℕ Refusal) (u : ℕ) → Stands p → granted_above p j u ≡ granted_breaks p l pre u
  same_granted (Err x) u k = refl
  same_granted (Ok i) u k =
      ap (λ (m : Limits). ltb m.output.size (left_at i j + u)) h.limits
      ∙ shifted l.output.size (left_at i j + u) _ _ (total (cost_to l i) pre) refl (omega (arith, h.left i k))

  same_window : (x : Item) → is_above_window j x ≡ breaks_window l pre x
  same_window (Granted p u) =
      ap (λ (m : Limits). granted_above (output_pool m.shared (has_notes m) p) j u) h.limits
      ∙ same_granted (output_pool l.shared (has_notes l) p) u (stands l.shared (has_notes l) p)
  same_window (Credit u) =
      cc (
      ap (λ (m : Limits). ltb m.input.size (j.input_left + u)) h.limits
      ∙ shifted l.input.size (j.input_left + u) (l.input.size + total (charge_of l) pre) (total brought_by pre + u) (total (charge_of l) pre) refl (omega (arith, h.input)))
  same_window _ = refl

  -- IT ANSWERS BY THE BREACH
  pub same : is_valid l ≡ true → (x : Item) → judged j x ≡ breach l pre x
  unfolding judged
  same v x =
      let v′ : is_valid j.limits ≡ true = ap is_valid h.limits ∙ v in
      rw (v′, same_order x, same_length x, same_cost x, same_window x) refl

-- ---- and what it has heard then

-- an item that breaks no rule passes the four tests
pub passed : (order length cost window : Bool) → verdict order length cost window ≡ Ok tt
    → (order ≡ false) × (length ≡ false) × (cost ≡ false) × (window ≡ false)
passed a b c d e = (grind (arith, e), grind (arith, e), grind (arith, e), grind (arith, e))

-- what stands at one position, once another is put
at_put : {A : Type 0} (k i : ℕ) (v other : A) (row : List A) → k < 3 → i < 3 → at k other (put i v other row) ≡ cond (eqb i k) v (at k other row)
at_put k i v other row h g =
    subst (λ (k : ℕ). at k other (put i v other row) ≡ cond (eqb i k) v (at k other row)) (index_stream_at k h)
    (subst (λ (i : ℕ). at (index (stream_at k)) other (put i v other row) ≡ cond (eqb i (index (stream_at k))) v (at (index (stream_at k)) other row))
    (index_stream_at i g)
    (by (stream_at k) (stream_at i)))
  where
    by : (x y : Stream) → at (index x) other (put (index y) v other row) ≡ cond (eqb (index y) (index x)) v (at (index x) other row)
    by Stdout Stdout = refl
    by Stderr Stderr = refl
    by Notes Notes = refl
    by _ _ = refl

-- a flag that an item sets, or not
set : (b : Bool) → true ≡ (b || true)
set b = sym (or-true b)

unset : (b : Bool) → b ≡ (b || false)
unset b = sym (or-false b)

module _ (j : Judge) where
  started_by : (x : Item) → (noted j x).started ≡ (j.started || is_started x)
  started_by Started = set j.started
  started_by _ = unset j.started

  spoken_by : (x : Item) → (noted j x).spoken ≡ (j.spoken || is_spoken x)
  spoken_by (Output x n) = set j.spoken
  spoken_by (End x) = set j.spoken
  spoken_by _ = unset j.spoken

  closed_by : (x : Item) → (noted j x).input_closed ≡ (j.input_closed || is_closed x)
  closed_by InputClosed = set j.input_closed
  closed_by _ = unset j.input_closed

  terminal_by : (x : Item) → (noted j x).terminal ≡ (j.terminal || is_terminal x)
  terminal_by Terminal = set j.terminal
  terminal_by _ = unset j.terminal

  ended_by : (y : Stream) (x : Item) → has_ended y (noted j x) ≡ (has_ended y j || is_end y x)
  ended_by y (End x) = by x y
    where
      by : (x y : Stream) → has_ended y (noted j (End x)) ≡ (has_ended y j || same_stream x y)
      by Stdout Stdout = set (has_ended Stdout j)
      by Stderr Stderr = set (has_ended Stderr j)
      by Notes Notes = set (has_ended Notes j)
      by x y = unset (has_ended y j)
  ended_by y _ = unset (has_ended y j)

  limits_by : (x : Item) → (noted j x).limits ≡ j.limits
  limits_by (Granted p u) = refl
  limits_by _ = refl

module _ (l : Limits) (pre : List Item) (j : Judge) (h : Heard l pre j) where
  module _ (i : ℕ) (k : i < 3) where
    -- units put to a pool
    added_at : (p : Result ℕ Refusal) (u : ℕ) → Stands p → at i 0 (left_by p u j.left) ≡ left_at i j + units_at p i u
    added_at (Err x) u s = omega arith
    added_at (Ok q) u s = at_put i q (left_at q j + u) 0 j.left k s ∙ by (eqb q i) refl
      where
        by : (b : Bool) → eqb q i ≡ b → cond b (left_at q j + u) (left_at i j) ≡ left_at i j + cond b u 0
        by true e = ap (λ (m : ℕ). left_at m j + u) (eqb-true q i e)
        by false e = omega arith

    -- and paid from one that has them
    paid_at : (q c : ℕ) → q < 3 → c ≤ left_at q j → at i 0 (put q (left_at q j - c) 0 j.left) + cond (eqb q i) c 0 ≡ left_at i j
    paid_at q c s e = ap (λ (m : ℕ). m + cond (eqb q i) c 0) (at_put i q (left_at q j - c) 0 j.left k s) ∙ by (eqb q i) refl
      where
        by : (b : Bool) → eqb q i ≡ b → cond b (left_at q j - c) (left_at i j) + cond b c 0 ≡ left_at i j
        by true w = omega (arith, e, ap (λ (m : ℕ). left_at m j) (eqb-true q i w))
        by false w = omega arith

    left_after : (x : Item) → is_unpaid j x ≡ false → left_at i (noted j x) + cost_to l i x ≡ left_at i j + granted_to l i x
    left_after (Granted p u) e =
        omega (arith, ap (λ (m : Limits). at i 0 (left_by (output_pool m.shared (has_notes m) p) u j.left)) h.limits ∙ added_at (output_pool l.shared (has_notes l) p) u (stands l.shared (has_notes l) p))
    left_after (Output x n) e =
        let f : ltb (left_at (pool_of l x) j) (cost l.output.unit n) ≡ false = ap (λ (m : Limits). ltb (left_at (pool_of m x) j) (cost m.output.unit n)) (sym h.limits) ∙ e in
        omega (
          arith,
          ap (λ (m : Limits). at i 0 (put (pool_of m x) (left_at (pool_of m x) j - cost m.output.unit n) 0 j.left)) h.limits,
          paid_at (pool_of l x) (cost l.output.unit n) (pool_least l x) (ltb-false _ _ f),
        )
    left_after _ e = refl

  input_after : (x : Item) → is_unpaid j x ≡ false → (noted j x).input_left + charge_of l x ≡ j.input_left + brought_by x
  input_after (Input n) e = omega (arith, ltb-false _ _ e, ap (λ (m : Limits). cost m.input.unit n) h.limits)
  input_after (Credit u) e = omega arith
  input_after _ e = refl

  pub more : (x : Item) → is_unpaid j x ≡ false → Heard l (pre ++ (x ∷ [])) (noted j x)
  more x e = record {
    limits = limits_by j x ∙ h.limits;
    started = flag is_started j.started h.started (started_by j x);
    spoken = flag is_spoken j.spoken h.spoken (spoken_by j x);
    closed = flag is_closed j.input_closed h.closed (closed_by j x);
    terminal = flag is_terminal j.terminal h.terminal (terminal_by j x);
    ended = λ y. flag (is_end y) (has_ended y j) (h.ended y) (ended_by j y x);
    left = λ i k. omega (arith, h.left i k, left_after i k x e, total_more (cost_to l i) pre x, total_more (granted_to l i) pre x);
    input = omega (arith, h.input, input_after x e, total_more (charge_of l) pre x, total_more brought_by pre x);
  }
    where
      flag : (p : Item → Bool) (f : Bool) {g : Bool} → f ≡ any p pre → g ≡ (f || p x) → g ≡ any p (pre ++ (x ∷ []))
      flag p f a b = b ∙ ap (λ (c : Bool). c || p x) a ∙ sym (any_more p pre x)
