-- 02's rules of A8 over whole lists, without a judge: which lists keep them, and by which number an item breaks them behind the items
-- before it. Credit and input are no messages; sums are of the items named, so nothing is subtracted.
use Rattle.std.specs.Prelude.{Bool, true, false, cond, not, ◌||◌, ◌≡◌, List, [], ◌∷◌, ◌++◌, ℕ, ◌+◌, ◌≤◌, eqb, ltb, Result, Ok, Err}
use Rattle.exec.specs.declared.Limits.{Limits}
use Rattle.exec.specs.declared.Refusal.{Refusal}
use Rattle.exec.specs.declared.Stream.{Stream}
use Rattle.exec.specs.Limits.{cost, off_chunk, has, has_notes, output_pool, pool_of}
use Rattle.exec.specs.Stream.{same_stream}
use Rattle.judge.specs.declared.Item.{Item}
use Rattle.judge.specs.declared.Item.TheVariants.{Granted, Input, Credit, Started, Output, End, InputClosed, Terminal}

-- ---- items

abbrev pub is_message : Item → Bool
is_message (Granted p u) = false
is_message (Input n) = false
is_message (Credit u) = true
is_message Started = true
is_message (Output x n) = true
is_message (End x) = true
is_message InputClosed = true
is_message Terminal = true

abbrev pub is_credit : Item → Bool
is_credit (Credit u) = true
is_credit _ = false

abbrev pub is_started : Item → Bool
is_started Started = true
is_started _ = false

abbrev pub is_output : Stream → Item → Bool
is_output x (Output y n) = same_stream y x
is_output x _ = false

abbrev pub is_end : Stream → Item → Bool
is_end x (End y) = same_stream y x
is_end x _ = false

-- an Output or End, of whatever stream
abbrev pub is_spoken : Item → Bool
is_spoken (Output x n) = true
is_spoken (End x) = true
is_spoken _ = false

-- one of a stream that is not open
abbrev pub is_unopened : Limits → Item → Bool
is_unopened l (Output x n) = not (has l x)
is_unopened l (End x) = not (has l x)
is_unopened l _ = false

abbrev pub is_closed : Item → Bool
is_closed InputClosed = true
is_closed _ = false

abbrev pub is_terminal : Item → Bool
is_terminal Terminal = true
is_terminal _ = false

-- one of them is so
abbrev pub any : (Item → Bool) → List Item → Bool
any p [] = false
any p (x ∷ xs) = p x || any p xs

-- ---- units

abbrev pub total : (Item → ℕ) → List Item → ℕ
total f [] = 0
total f (x ∷ xs) = f x + total f xs

abbrev pub counted : (Item → Bool) → Item → ℕ
counted p x = cond (p x) 1 0

-- how many of them are so
abbrev pub count : (Item → Bool) → List Item → ℕ
count p xs = total (counted p) xs

-- the units granted to the output pool at a position; a pool that the limits lack has none, so credit on it counts for none
abbrev pub units_at : Result ℕ Refusal → ℕ → (units : ℕ) → ℕ
units_at (Ok k) i u = cond (eqb k i) u 0
units_at (Err x) i u = 0

abbrev pub granted_to : Limits → ℕ → Item → ℕ
granted_to l i (Granted p u) = units_at (output_pool l.shared (has_notes l) p) i u
granted_to l i _ = 0

-- what an Output costs the pool at a position
abbrev pub cost_to : Limits → ℕ → Item → ℕ
cost_to l i (Output x n) = cond (eqb (pool_of l x) i) (cost l.output.unit n) 0
cost_to l i _ = 0

-- the units that a Credit brings the input, and what an input charges
abbrev pub brought_by : Item → ℕ
brought_by (Credit u) = u
brought_by _ = 0

abbrev pub charge_of : Limits → Item → ℕ
charge_of l (Input n) = cost l.input.unit n
charge_of l _ = 0

-- ---- WHICH LISTS KEEP THE RULES: 02's sentences, in their order. An item stands in a list behind some and before others; what is left
-- is so after every item.
pub record Keeps (l : Limits) (xs : List Item) : Type 0 where
  -- at most one Started, after no Output or End
  pub one_started : count is_started xs ≤ 1
  pub started_first : (pre post : List Item) → xs ≡ pre ++ (Started ∷ post) → any is_spoken pre ≡ false
  -- at most one InputClosed, with no Credit after it
  pub one_closed : count is_closed xs ≤ 1
  pub closed_last : (pre post : List Item) → xs ≡ pre ++ (InputClosed ∷ post) → any is_credit post ≡ false
  -- at most one End a stream, with no Output of it later
  pub one_end : (x : Stream) → count (is_end x) xs ≤ 1
  pub end_last : (x : Stream) (pre post : List Item) → xs ≡ pre ++ (End x ∷ post) → any (is_output x) post ≡ false
  -- no message after Terminal
  pub terminal_last : (pre post : List Item) → xs ≡ pre ++ (Terminal ∷ post) → any is_message post ≡ false
  -- no Output or End of a stream that is not open
  pub none_unopened : any (is_unopened l) xs ≡ false
  -- Output lengths from 1 to chunk
  pub lengths : (x : Stream) (n : ℕ) (pre post : List Item) → xs ≡ pre ++ (Output x n ∷ post) → (1 ≤ n) × (n ≤ l.chunk)
  -- costs within credit, and credit left at most its window: on the pool of each stream
  pub costs : (x : Stream) (pre post : List Item) → xs ≡ pre ++ post → total (cost_to l (pool_of l x)) pre ≤ total (granted_to l (pool_of l x)) pre
  pub windows : (x : Stream) (pre post : List Item) → xs ≡ pre ++ post → total (granted_to l (pool_of l x)) pre ≤ l.output.size + total (cost_to l (pool_of l x)) pre
  -- Credit units at least 1, input charges within them, and what is left at most the window
  pub some_units : (u : ℕ) (pre post : List Item) → xs ≡ pre ++ (Credit u ∷ post) → 1 ≤ u
  pub charges : (pre post : List Item) → xs ≡ pre ++ post → total (charge_of l) pre ≤ total brought_by pre
  pub window : (pre post : List Item) → xs ≡ pre ++ post → total brought_by pre ≤ l.input.size + total (charge_of l) pre

-- ---- BY WHICH NUMBER an item breaks them behind the items pre: order, then length, costs and charges, units and windows

-- an Output or End behind the stream's End, or of one that is not open
abbrev pub stream_breaks : Limits → (pre : List Item) → Stream → Bool
stream_breaks l pre x = any (is_end x) pre || not (has l x)

abbrev pub breaks_order : Limits → (pre : List Item) → Item → Bool
breaks_order l pre (Granted p u) = false
breaks_order l pre (Input n) = false
breaks_order l pre (Credit u) = any is_terminal pre || any is_closed pre
breaks_order l pre Started = (any is_terminal pre || any is_started pre) || any is_spoken pre
breaks_order l pre (Output x n) = any is_terminal pre || stream_breaks l pre x
breaks_order l pre (End x) = any is_terminal pre || stream_breaks l pre x
breaks_order l pre InputClosed = any is_terminal pre || any is_closed pre
breaks_order l pre Terminal = any is_terminal pre

abbrev pub breaks_length : Limits → Item → Bool
breaks_length l (Output x n) = off_chunk l n
breaks_length l _ = false

abbrev pub breaks_cost : Limits → (pre : List Item) → Item → Bool
breaks_cost l pre (Input n) = ltb (total brought_by pre) (total (charge_of l) pre + cost l.input.unit n)
breaks_cost l pre (Output x n) =
    ltb (total (granted_to l (pool_of l x)) pre) (total (cost_to l (pool_of l x)) pre + cost l.output.unit n)
breaks_cost l pre _ = false

abbrev pub granted_breaks : Result ℕ Refusal → Limits → (pre : List Item) (units : ℕ) → Bool
granted_breaks (Ok i) l pre u = ltb (l.output.size + total (cost_to l i) pre) (total (granted_to l i) pre + u)
granted_breaks (Err x) l pre u = false

abbrev pub breaks_window : Limits → (pre : List Item) → Item → Bool
breaks_window l pre (Granted p u) = granted_breaks (output_pool l.shared (has_notes l) p) l pre u
breaks_window l pre (Credit u) = eqb u 0 || ltb (l.input.size + total (charge_of l) pre) (total brought_by pre + u)
breaks_window l pre _ = false

-- 02: a breach of order with 45, then length by 4, costs and charges by 5, units and windows by 3
abbrev pub verdict : (order length cost window : Bool) → Result (Unit {0}) Refusal
verdict order length cost window =
    cond order (Err Refusal.OutOfOrder)
    (cond length (Err Refusal.Chunk)
    (cond cost (Err Refusal.Window)
    (cond window (Err Refusal.Credit)
    (Ok tt))))

abbrev pub breach : Limits → (pre : List Item) → Item → Result (Unit {0}) Refusal
breach l pre x = verdict (breaks_order l pre x) (breaks_length l x) (breaks_cost l pre x) (breaks_window l pre x)
