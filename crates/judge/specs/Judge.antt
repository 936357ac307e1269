-- The judge: what was heard, the units left, and what one item more makes of it. A refused item leaves the judge as it was.
use Rattle.std.specs.Prelude.{Bool, true, false, cond, not, ◌||◌, List, [], ◌∷◌, ℕ, ◌+◌, ◌-◌, eqb, ltb, Result, Ok, Err}
use Rattle.exec.specs.declared.Limits.{Limits}
use Rattle.exec.specs.declared.Pool.{Pool}
use Rattle.exec.specs.declared.Refusal.{Refusal}
use Rattle.exec.specs.declared.Stream.{Stream}
use Rattle.exec.specs.Limits.{cost, is_valid, off_chunk, has, has_notes, output_pool, pool_of}
use Rattle.exec.specs.Row.{at, put}
use Rattle.exec.specs.Stream.{index}
use Rattle.judge.specs.declared.Item.{Item}
use Rattle.judge.specs.declared.Item.TheVariants.{Granted, Input, Credit, Started, Output, End, InputClosed, Terminal}
use Rattle.judge.specs.declared.Judge.{Judge}
use Rattle.judge.specs.Rules.{verdict}

abbrev pub new_judge : Limits → Judge
new_judge l = record {
  limits = l;
  started = false;
  spoken = false;
  input_closed = false;
  terminal = false;
  ended = false ∷ false ∷ false ∷ [];
  left = 0 ∷ 0 ∷ 0 ∷ [];
  input_left = 0;
}

abbrev pub has_ended : Stream → Judge → Bool
has_ended x j = at (index x) false j.ended

abbrev pub left_at : ℕ → Judge → ℕ
left_at i j = at i 0 j.left

-- ---- the tests

-- a stream may have no Output or End: its End was heard, or it is not open
abbrev pub is_shut : Stream → Judge → Bool
is_shut x j = has_ended x j || not (has j.limits x)

abbrev pub is_out_of_order : Judge → Item → Bool
is_out_of_order j (Granted p u) = false
is_out_of_order j (Input n) = false
is_out_of_order j (Credit u) = j.terminal || j.input_closed
is_out_of_order j Started = (j.terminal || j.started) || j.spoken
is_out_of_order j (Output x n) = j.terminal || is_shut x j
is_out_of_order j (End x) = j.terminal || is_shut x j
is_out_of_order j InputClosed = j.terminal || j.input_closed
is_out_of_order j Terminal = j.terminal

abbrev pub is_off_chunk : Judge → Item → Bool
is_off_chunk j (Output x n) = off_chunk j.limits n
is_off_chunk j _ = false

abbrev pub is_unpaid : Judge → Item → Bool
is_unpaid j (Input n) = ltb j.input_left (cost j.limits.input.unit n)
is_unpaid j (Output x n) = ltb (left_at (pool_of j.limits x) j) (cost j.limits.output.unit n)
is_unpaid j _ = false

-- credit on a pool that the limits lack counts for none
abbrev pub granted_above : Result ℕ Refusal → Judge → (units : ℕ) → Bool
granted_above (Ok i) j u = ltb j.limits.output.size (left_at i j + u)
granted_above (Err x) j u = false

abbrev pub is_granted_above : Judge → Pool → (units : ℕ) → Bool
is_granted_above j p u = granted_above (output_pool j.limits.shared (has_notes j.limits) p) j u

abbrev pub is_above_window : Judge → Item → Bool
is_above_window j (Granted p u) = is_granted_above j p u
is_above_window j (Credit u) = eqb u 0 || ltb j.limits.input.size (j.input_left + u)
is_above_window j _ = false

-- limits with a 0 are refused first
unfoldable pub judged : Judge → Item → Result (Unit {0}) Refusal
judged j x =
    cond (is_valid j.limits)
    (verdict (is_out_of_order j x) (is_off_chunk j x) (is_unpaid j x) (is_above_window j x))
    (Err Refusal.NoLimits)

-- ---- what is kept of an item that breaks no rule

-- the flags and the units that an item sets
abbrev pub with : (started spoken input_closed terminal : Bool) (ended : List Bool) (left : List ℕ) (input_left : ℕ) → Judge → Judge
with a b c t e l n j = record {
  limits = j.limits;
  started = a;
  spoken = b;
  input_closed = c;
  terminal = t;
  ended = e;
  left = l;
  input_left = n;
}

abbrev pub with_left : (spoken : Bool) → List ℕ → Judge → Judge
with_left spoken l j = with j.started spoken j.input_closed j.terminal j.ended l j.input_left j

abbrev pub with_input : ℕ → Judge → Judge
with_input n j = with j.started j.spoken j.input_closed j.terminal j.ended j.left n j

abbrev pub left_by : Result ℕ Refusal → (units : ℕ) → List ℕ → List ℕ
left_by (Ok i) u left = put i (at i 0 left + u) 0 left
left_by (Err x) u left = left

abbrev pub left_granted : Judge → Pool → (units : ℕ) → List ℕ
left_granted j p u = left_by (output_pool j.limits.shared (has_notes j.limits) p) u j.left

abbrev pub paid : Judge → Stream → (length : ℕ) → Judge
paid j x n =
    let i = pool_of j.limits x in
    with_left true (put i (left_at i j - cost j.limits.output.unit n) 0 j.left) j

abbrev pub ended_now : Judge → Stream → Judge
ended_now j x = with j.started true j.input_closed j.terminal (put (index x) true false j.ended) j.left j.input_left j

abbrev pub noted : Judge → Item → Judge
noted j (Granted p u) = with_left j.spoken (left_granted j p u) j
noted j (Input n) = with_input (j.input_left - cost j.limits.input.unit n) j
noted j (Credit u) = with_input (j.input_left + u) j
noted j Started = with true j.spoken j.input_closed j.terminal j.ended j.left j.input_left j
noted j (Output x n) = paid j x n
noted j (End x) = ended_now j x
noted j InputClosed = with j.started j.spoken true j.terminal j.ended j.left j.input_left j
noted j Terminal = with j.started j.spoken j.input_closed true j.ended j.left j.input_left j

-- ---- one item

-- what the judge answers, and is then
pub record Hearing : Type 0 where
  pub judge : Judge
  pub answer : Result (Unit {0}) Refusal

abbrev pub hear_by : Result (Unit {0}) Refusal → Judge → Item → Hearing
hear_by (Ok tt) j x = record { judge = noted j x; answer = Ok tt }
hear_by (Err r) j x = record { judge = j; answer = Err r }

abbrev pub hear : Judge → Item → Hearing
hear j x = hear_by (judged j x) j x

-- ---- a list

-- the judge after a list, what is refused of it left out
abbrev pub after : Judge → List Item → Judge
after j [] = j
after j (x ∷ xs) = after (hear j x).judge xs

-- the first refusal of a list, if there is one
abbrev pub first_by : Result (Unit {0}) Refusal → Result (Unit {0}) Refusal → Result (Unit {0}) Refusal
first_by (Ok tt) rest = rest
first_by (Err r) rest = Err r

abbrev pub first : Judge → List Item → Result (Unit {0}) Refusal
first j [] = Ok tt
first j (x ∷ xs) = first_by (hear j x).answer (first (hear j x).judge xs)
