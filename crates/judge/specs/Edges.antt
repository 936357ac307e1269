-- 02's numbers and sentences of A8, computed from the judge's definition, on each side: in Bytes and in Frames, shared and not, and where input and
-- output differ in unit and size; and of each sentence of `Keeps` a list that it excludes.
use Rattle.std.specs.Prelude.{true, false, ◌≡◌, refl, List, [], ◌∷◌, ◌++◌, ◌+◌, ◌-◌, ◌^◌, ◌≤◌, Ok, Err}
use Rattle.std.proofs.Common.{arith}
use Rattle.std.proofs.lemmas.Bool.{true≢false}
use Rattle.exec.specs.declared.Limits.{Limits}
use Rattle.exec.specs.declared.Pool.TheVariants as Pool
use Rattle.exec.specs.declared.Refusal.{Refusal}
use Rattle.exec.specs.declared.Refusal.TheVariants.{OutOfOrder, Chunk, Window, NoLimits}
use Rattle.exec.specs.declared.Refusal.TheVariants as Refusals
use Rattle.exec.specs.declared.Stream.{Stream}
use Rattle.exec.specs.declared.Stream.TheVariants.{Stdout, Stderr, Notes}
use Rattle.exec.specs.Limits.{cost, bytes_window, frames_window, limits_for, has_notes}
use Rattle.exec.specs.Refusal.{number}
use Rattle.judge.specs.declared.Item.{Item}
use Rattle.judge.specs.declared.Item.TheVariants.{Granted, Input, Credit, Started, Output, End, InputClosed, Terminal}
use Rattle.judge.specs.Judge.{new_judge, judged, first}
use Rattle.judge.specs.Rules.{Keeps}

-- 45, then 4, 5, 3; and 10
numbers : (number OutOfOrder ≡ 45) × (number Chunk ≡ 4) × (number Window ≡ 5) × (number Refusals.Credit ≡ 3) × (number NoLimits ≡ 10)
numbers = (refl, refl, refl, refl, refl)

-- chunk 4, windows of 8
abbrev limits : Limits
limits = limits_for 4 (bytes_window 8) (bytes_window 8) false

abbrev shared : Limits
shared = limits_for 4 (bytes_window 8) (bytes_window 8) true

-- windows of 2 data messages
abbrev framed : Limits
framed = limits_for 4 (frames_window 2) (frames_window 2) false

abbrev shared_framed : Limits
shared_framed = limits_for 4 (frames_window 2) (frames_window 2) true

-- units and sizes of input and output that differ
abbrev mixed : Limits
mixed = limits_for 4 (bytes_window 3) (frames_window 9) false

abbrev other : Limits
other = limits_for 4 (frames_window 9) (bytes_window 3) false

-- a chunk above the windows
abbrev wide : Limits
wide = limits_for 9 (bytes_window 4) (bytes_window 4) false

-- windows as large as can be
abbrev most : Limits
most = limits_for 4 (bytes_window (2 ^ 32 - 1)) (bytes_window (2 ^ 32 - 1)) false

abbrev Accepted : Limits → List Item → Type 0
Accepted l xs = first (new_judge l) xs ≡ Ok tt

-- refused at its last item, x, and not before
abbrev RefusedAt : Limits → List Item → (x : Item) → Refusal → Type 0
RefusedAt l pre x r = Accepted l pre × (first (new_judge l) (pre ++ (x ∷ [])) ≡ Err r)

-- ---- order

-- no message after Terminal, whatever else it breaks or does not; but credit and input, which are none, and are counted on
terminal : RefusedAt limits (Terminal ∷ []) (Credit 0) OutOfOrder
    × RefusedAt limits (Terminal ∷ []) (Credit 1) OutOfOrder
    × RefusedAt limits (Terminal ∷ []) Started OutOfOrder
    × RefusedAt limits (Terminal ∷ []) (Output Stdout 0) OutOfOrder
    × RefusedAt limits (Granted Pool.Stdout 8 ∷ Terminal ∷ []) (Output Stdout 1) OutOfOrder
    × RefusedAt limits (Granted Pool.Stderr 8 ∷ Terminal ∷ []) (Output Stderr 1) OutOfOrder
    × RefusedAt limits (Terminal ∷ []) (End Stdout) OutOfOrder
    × RefusedAt limits (Terminal ∷ []) (End Stderr) OutOfOrder
    × RefusedAt limits (Terminal ∷ []) InputClosed OutOfOrder
    × RefusedAt limits (Terminal ∷ []) Terminal OutOfOrder
    × Accepted limits (Credit 8 ∷ Granted Pool.Stdout 8 ∷ Terminal ∷ Input 8 ∷ Granted Pool.Stderr 8 ∷ Granted Pool.Output 9 ∷ [])
    × RefusedAt limits (Terminal ∷ []) (Granted Pool.Stdout 9) Refusals.Credit
    × RefusedAt limits (Granted Pool.Stdout 8 ∷ Terminal ∷ []) (Granted Pool.Stdout 1) Refusals.Credit
    × RefusedAt limits (Terminal ∷ []) (Input 1) Window
unfolding judged cost
terminal = ((refl, refl), (refl, refl), (refl, refl), (refl, refl), (refl, refl), (refl, refl), (refl, refl), (refl, refl), (refl, refl), (refl, refl), refl, (refl, refl), (refl, refl), (refl, refl))

-- at most one Started, after no Output or End
started : RefusedAt limits (Started ∷ []) Started OutOfOrder
    × RefusedAt limits (Started ∷ InputClosed ∷ []) Started OutOfOrder
    × RefusedAt limits (Granted Pool.Stdout 1 ∷ Output Stdout 1 ∷ []) Started OutOfOrder
    × RefusedAt limits (Granted Pool.Stderr 1 ∷ Output Stderr 1 ∷ []) Started OutOfOrder
    × RefusedAt limits (End Stdout ∷ []) Started OutOfOrder
    × RefusedAt limits (End Stderr ∷ []) Started OutOfOrder
    × Accepted limits (Credit 1 ∷ InputClosed ∷ Started ∷ End Stdout ∷ [])
unfolding judged cost
started = ((refl, refl), (refl, refl), (refl, refl), (refl, refl), (refl, refl), (refl, refl), refl)

-- at most one InputClosed, with no Credit after it, of whatever units
closed : RefusedAt limits (InputClosed ∷ []) InputClosed OutOfOrder
    × RefusedAt limits (InputClosed ∷ []) (Credit 0) OutOfOrder
    × RefusedAt limits (InputClosed ∷ []) (Credit 1) OutOfOrder
    × RefusedAt limits (InputClosed ∷ []) (Credit 9) OutOfOrder
    × Accepted limits (Credit 8 ∷ InputClosed ∷ Input 8 ∷ Started ∷ [])
    × Accepted limits (End Stdout ∷ End Stderr ∷ InputClosed ∷ [])
unfolding judged cost
closed = ((refl, refl), (refl, refl), (refl, refl), (refl, refl), refl, refl)

-- at most one End a stream, with no Output of it later, paid or not
ended : RefusedAt limits (End Stdout ∷ []) (End Stdout) OutOfOrder
    × RefusedAt limits (End Stderr ∷ []) (End Stderr) OutOfOrder
    × RefusedAt limits (End Stdout ∷ End Stderr ∷ []) (End Stdout) OutOfOrder
    × RefusedAt limits (End Stdout ∷ End Stderr ∷ []) (End Stderr) OutOfOrder
    × RefusedAt limits (End Stdout ∷ []) (Output Stdout 0) OutOfOrder
    × RefusedAt limits (End Stdout ∷ []) (Output Stdout 1) OutOfOrder
    × RefusedAt limits (End Stderr ∷ []) (Output Stderr 5) OutOfOrder
    × RefusedAt shared (End Stdout ∷ []) (Output Stdout 0) OutOfOrder
    × RefusedAt limits (Granted Pool.Stdout 8 ∷ End Stdout ∷ []) (Output Stdout 1) OutOfOrder
    × RefusedAt limits (Granted Pool.Stderr 8 ∷ End Stderr ∷ []) (Output Stderr 1) OutOfOrder
    × Accepted limits (Granted Pool.Stderr 1 ∷ End Stdout ∷ Output Stderr 1 ∷ [])
    × RefusedAt limits (Granted Pool.Stdout 8 ∷ End Stdout ∷ []) (Granted Pool.Stdout 1) Refusals.Credit
unfolding judged cost
ended = ((refl, refl), (refl, refl), (refl, refl), (refl, refl), (refl, refl), (refl, refl), (refl, refl), (refl, refl), (refl, refl), (refl, refl), refl, (refl, refl))

-- no Output or End of a stream that is not open, as Notes is not with two streams: from the first item on, of whatever length, paid or not
unopened : RefusedAt limits [] (Output Notes 0) OutOfOrder
    × RefusedAt limits [] (Output Notes 1) OutOfOrder
    × RefusedAt limits [] (Output Notes 4) OutOfOrder
    × RefusedAt limits [] (Output Notes 5) OutOfOrder
    × RefusedAt limits [] (End Notes) OutOfOrder
    × RefusedAt framed [] (Output Notes 1) OutOfOrder
    × RefusedAt framed [] (End Notes) OutOfOrder
    × RefusedAt shared [] (Output Notes 1) OutOfOrder
    × RefusedAt shared (Granted Pool.Output 8 ∷ []) (Output Notes 1) OutOfOrder
    × RefusedAt shared [] (End Notes) OutOfOrder
    × RefusedAt limits (Granted Pool.Notes 8 ∷ []) (Output Notes 1) OutOfOrder
    × RefusedAt limits (Started ∷ End Stdout ∷ End Stderr ∷ []) (End Notes) OutOfOrder
    × RefusedAt limits (Terminal ∷ []) (End Notes) OutOfOrder
unfolding judged cost has_notes
unopened = ((refl, refl), (refl, refl), (refl, refl), (refl, refl), (refl, refl), (refl, refl), (refl, refl), (refl, refl), (refl, refl), (refl, refl), (refl, refl), (refl, refl), (refl, refl))

-- ---- lengths from 1 to chunk, ahead of costs

lengths : RefusedAt limits (Granted Pool.Stdout 8 ∷ []) (Output Stdout 0) Chunk
    × Accepted limits (Granted Pool.Stdout 8 ∷ Output Stdout 1 ∷ Output Stdout 4 ∷ [])
    × RefusedAt limits (Granted Pool.Stdout 8 ∷ []) (Output Stdout 5) Chunk
    × RefusedAt limits [] (Output Stderr 0) Chunk
    × RefusedAt limits [] (Output Stderr 5) Chunk
    × RefusedAt limits (Granted Pool.Stdout 8 ∷ []) (Output Stdout (2 ^ 32 + 1)) Chunk
    × RefusedAt framed (Granted Pool.Stdout 2 ∷ []) (Output Stdout 0) Chunk
    × RefusedAt framed (Granted Pool.Stdout 2 ∷ []) (Output Stdout 5) Chunk
    × RefusedAt framed (Granted Pool.Stderr 2 ∷ []) (Output Stderr 5) Chunk
    × RefusedAt framed [] (Output Stdout 5) Chunk
    × RefusedAt shared (Granted Pool.Output 8 ∷ []) (Output Stdout 0) Chunk
    × RefusedAt shared (Granted Pool.Output 8 ∷ []) (Output Stderr 5) Chunk
    × RefusedAt mixed (Granted Pool.Stdout 9 ∷ []) (Output Stdout 5) Chunk
    × RefusedAt wide (Granted Pool.Stdout 4 ∷ []) (Output Stdout 10) Chunk
    × RefusedAt wide (Granted Pool.Stdout 4 ∷ []) (Output Stdout 9) Window
    × Accepted wide (Granted Pool.Stdout 4 ∷ Output Stdout 4 ∷ [])
unfolding judged cost
lengths = ((refl, refl), refl, (refl, refl), (refl, refl), (refl, refl), (refl, refl), (refl, refl), (refl, refl), (refl, refl), (refl, refl), (refl, refl), (refl, refl), (refl, refl), (refl, refl), (refl, refl), refl)

-- ---- costs within credit

costs : RefusedAt limits [] (Output Stdout 4) Window
    × RefusedAt limits (Granted Pool.Stdout 3 ∷ []) (Output Stdout 4) Window
    × RefusedAt limits (Granted Pool.Stdout 8 ∷ Output Stdout 4 ∷ Output Stdout 4 ∷ []) (Output Stdout 1) Window
    × RefusedAt limits (Granted Pool.Stdout 8 ∷ []) (Output Stderr 1) Window
    × RefusedAt limits (Granted Pool.Stderr 8 ∷ []) (Output Stdout 1) Window
    × RefusedAt limits (Granted Pool.Stdout 1 ∷ Granted Pool.Stderr 8 ∷ []) (Output Stdout 2) Window
    × RefusedAt limits (Granted Pool.Stderr 1 ∷ Granted Pool.Stdout 8 ∷ []) (Output Stderr 2) Window
    × RefusedAt framed (Granted Pool.Stdout 2 ∷ Output Stdout 4 ∷ Output Stdout 1 ∷ []) (Output Stdout 1) Window
    × RefusedAt framed (Granted Pool.Stderr 1 ∷ Output Stderr 4 ∷ []) (Output Stderr 1) Window
    × RefusedAt shared (Granted Pool.Output 8 ∷ Output Stdout 4 ∷ Output Stderr 4 ∷ []) (Output Stderr 1) Window
    × RefusedAt shared_framed (Granted Pool.Output 2 ∷ Output Stdout 4 ∷ Output Stderr 4 ∷ []) (Output Stdout 1) Window
    × RefusedAt mixed (Granted Pool.Stdout 1 ∷ Output Stdout 4 ∷ []) (Output Stdout 1) Window
    × RefusedAt other (Granted Pool.Stdout 3 ∷ []) (Output Stdout 4) Window
unfolding judged cost
costs = ((refl, refl), (refl, refl), (refl, refl), (refl, refl), (refl, refl), (refl, refl), (refl, refl), (refl, refl), (refl, refl), (refl, refl), (refl, refl), (refl, refl), (refl, refl))

-- credit on a pool the limits lack counts for none
lacked : RefusedAt limits (Granted Pool.Output (2 ^ 32 - 1) ∷ Granted Pool.Input (2 ^ 32 - 1) ∷ []) (Output Stdout 1) Window
    × RefusedAt limits (Granted Pool.Output 8 ∷ Granted Pool.Input 8 ∷ []) (Output Stderr 1) Window
    × RefusedAt shared (Granted Pool.Stdout (2 ^ 32 - 1) ∷ Granted Pool.Stderr (2 ^ 32 - 1) ∷ []) (Output Stdout 1) Window
    × RefusedAt shared (Granted Pool.Input 8 ∷ []) (Output Stdout 1) Window
    × RefusedAt shared (Granted Pool.Stdout 8 ∷ Granted Pool.Stderr 8 ∷ Granted Pool.Input 8 ∷ []) (Output Stderr 1) Window
    × RefusedAt limits (Granted Pool.Input 8 ∷ []) (Input 1) Window
    × Accepted shared (Granted Pool.Input 0 ∷ Granted Pool.Input 9 ∷ Terminal ∷ Granted Pool.Stdout 9 ∷ [])
    × RefusedAt limits (Granted Pool.Notes 8 ∷ []) (Output Stdout 1) Window
    × RefusedAt limits (Granted Pool.Notes 8 ∷ []) (Output Stderr 1) Window
    × RefusedAt shared (Granted Pool.Notes 8 ∷ []) (Output Stdout 1) Window
    × Accepted limits (Granted Pool.Notes 0 ∷ Granted Pool.Notes 9 ∷ Granted Pool.Notes (2 ^ 32 - 1) ∷ Terminal ∷ Granted Pool.Notes 9 ∷ [])
unfolding judged cost has_notes
lacked = ((refl, refl), (refl, refl), (refl, refl), (refl, refl), (refl, refl), (refl, refl), refl, (refl, refl), (refl, refl), (refl, refl), refl)

-- ---- input charges within the Credits

charges : RefusedAt limits [] (Input 1) Window
    × RefusedAt limits (Credit 8 ∷ Input 8 ∷ []) (Input 1) Window
    × Accepted limits (Input 0 ∷ Credit 8 ∷ Input 5 ∷ Input 3 ∷ [])
    × RefusedAt framed [] (Input 0) Window
    × RefusedAt framed (Credit 2 ∷ Input 0 ∷ Input 100 ∷ []) (Input 1) Window
    × RefusedAt mixed (Credit 3 ∷ []) (Input 4) Window
    × RefusedAt other (Credit 1 ∷ Input 9 ∷ []) (Input 0) Window
    × RefusedAt most (Credit (2 ^ 32 - 1) ∷ []) (Input (2 ^ 32)) Window
    × Accepted most (Credit (2 ^ 32 - 1) ∷ Input (2 ^ 32 - 1) ∷ [])
unfolding judged cost
charges = ((refl, refl), (refl, refl), refl, (refl, refl), (refl, refl), (refl, refl), (refl, refl), (refl, refl), refl)

-- ---- windows

-- credit left at most its window, which is the output's, on each pool; a grant of none breaks no rule
windows : RefusedAt limits [] (Granted Pool.Stdout 9) Refusals.Credit
    × RefusedAt limits [] (Granted Pool.Stderr 9) Refusals.Credit
    × RefusedAt limits (Granted Pool.Stdout 8 ∷ []) (Granted Pool.Stdout 1) Refusals.Credit
    × RefusedAt limits (Granted Pool.Stderr 8 ∷ []) (Granted Pool.Stderr 1) Refusals.Credit
    × RefusedAt limits (Granted Pool.Stdout 8 ∷ Output Stdout 3 ∷ []) (Granted Pool.Stdout 4) Refusals.Credit
    × Accepted limits (Granted Pool.Stdout 8 ∷ Output Stdout 3 ∷ Granted Pool.Stdout 3 ∷ Granted Pool.Stdout 0 ∷ Granted Pool.Stderr 8 ∷ [])
    × Accepted limits (Granted Pool.Stderr 0 ∷ [])
    × Accepted shared (Granted Pool.Output 0 ∷ [])
    × RefusedAt framed [] (Granted Pool.Stdout 3) Refusals.Credit
    × RefusedAt framed (Granted Pool.Stdout 2 ∷ Output Stdout 4 ∷ []) (Granted Pool.Stdout 2) Refusals.Credit
    × RefusedAt shared (Granted Pool.Output 8 ∷ Output Stderr 4 ∷ []) (Granted Pool.Output 5) Refusals.Credit
    × RefusedAt shared_framed [] (Granted Pool.Output 3) Refusals.Credit
    × RefusedAt mixed [] (Granted Pool.Stdout 10) Refusals.Credit
    × Accepted mixed (Granted Pool.Stdout 9 ∷ Granted Pool.Stderr 9 ∷ Credit 3 ∷ [])
    × RefusedAt other [] (Granted Pool.Stdout 4) Refusals.Credit
    × RefusedAt other [] (Granted Pool.Stderr 4) Refusals.Credit
    × Accepted other (Granted Pool.Stdout 3 ∷ Granted Pool.Stderr 3 ∷ Credit 9 ∷ [])
    × RefusedAt limits [] (Granted Pool.Stdout (2 ^ 32 - 1)) Refusals.Credit
    × RefusedAt limits (Granted Pool.Stdout 8 ∷ []) (Granted Pool.Stdout (2 ^ 32 - 1)) Refusals.Credit
    × RefusedAt most (Granted Pool.Stdout (2 ^ 32 - 1) ∷ []) (Granted Pool.Stdout 1) Refusals.Credit
unfolding judged cost
windows = ((refl, refl), (refl, refl), (refl, refl), (refl, refl), (refl, refl), refl, refl, refl, (refl, refl), (refl, refl), (refl, refl), (refl, refl), (refl, refl), refl, (refl, refl), (refl, refl), refl, (refl, refl), (refl, refl), (refl, refl))

-- Credit units at least 1, and what is left at most the window
units : RefusedAt limits [] (Credit 0) Refusals.Credit
    × RefusedAt limits (Credit 1 ∷ []) (Credit 0) Refusals.Credit
    × RefusedAt framed [] (Credit 0) Refusals.Credit
    × Accepted limits (Credit 1 ∷ Credit 7 ∷ [])
    × RefusedAt limits [] (Credit 9) Refusals.Credit
    × Accepted limits (Credit 8 ∷ Input 3 ∷ Credit 3 ∷ [])
    × RefusedAt limits (Credit 8 ∷ Input 3 ∷ []) (Credit 4) Refusals.Credit
    × RefusedAt framed [] (Credit 3) Refusals.Credit
    × RefusedAt framed (Credit 2 ∷ Input 9 ∷ []) (Credit 2) Refusals.Credit
    × RefusedAt mixed [] (Credit 4) Refusals.Credit
    × RefusedAt other [] (Credit 10) Refusals.Credit
    × RefusedAt most (Credit (2 ^ 32 - 1) ∷ []) (Credit 1) Refusals.Credit
unfolding judged cost
units = ((refl, refl), (refl, refl), (refl, refl), refl, (refl, refl), refl, (refl, refl), (refl, refl), (refl, refl), (refl, refl), (refl, refl), (refl, refl))

-- the first refusal is the list's, whatever stands behind it
behind : first (new_judge limits) (Started ∷ Started ∷ Output Stdout 0 ∷ Credit 9 ∷ []) ≡ Err OutOfOrder
unfolding judged
behind = refl

-- ---- limits with a 0: ahead of all, at the first item

none : RefusedAt (limits_for 0 (bytes_window 8) (bytes_window 8) false) [] Started NoLimits
    × RefusedAt (limits_for 4 (bytes_window 0) (bytes_window 8) false) [] (Output Stdout 5) NoLimits
    × RefusedAt (limits_for 4 (bytes_window 8) (bytes_window 0) false) [] (Input 0) NoLimits
    × RefusedAt (limits_for 0 (bytes_window 8) (bytes_window 8) false) [] (Output Notes 1) NoLimits
    × RefusedAt (limits_for 4 (bytes_window 0) (bytes_window 8) false) [] (End Notes) NoLimits
unfolding judged
none = ((refl, refl), (refl, refl), (refl, refl), (refl, refl), (refl, refl))

-- ---- each sentence by itself: a list that it excludes

abbrev Excluded : Limits → List Item → Type 0
Excluded l xs = Keeps l xs → ⊥

second_started : Excluded limits (Started ∷ Started ∷ [])
second_started k = let q : 2 ≤ 1 = k.one_started in absurd (omega (arith, q))

late_started : Excluded limits (End Stderr ∷ Started ∷ [])
late_started k = true≢false (k.started_first (End Stderr ∷ []) [] refl)

second_closed : Excluded limits (InputClosed ∷ InputClosed ∷ [])
second_closed k = let q : 2 ≤ 1 = k.one_closed in absurd (omega (arith, q))

late_credit : Excluded limits (InputClosed ∷ Credit 1 ∷ [])
late_credit k = true≢false (k.closed_last [] (Credit 1 ∷ []) refl)

second_end : (x : Stream) → Excluded limits (End x ∷ End x ∷ [])
second_end Stdout k = let q : 2 ≤ 1 = k.one_end Stdout in absurd (omega (arith, q))
second_end Stderr k = let q : 2 ≤ 1 = k.one_end Stderr in absurd (omega (arith, q))
second_end Notes k = let q : 2 ≤ 1 = k.one_end Notes in absurd (omega (arith, q))

late_output : (x : Stream) → Excluded limits (Granted Pool.Stdout 1 ∷ Granted Pool.Stderr 1 ∷ End x ∷ Output x 1 ∷ [])
late_output Stdout k = true≢false (k.end_last Stdout (Granted Pool.Stdout 1 ∷ Granted Pool.Stderr 1 ∷ []) (Output Stdout 1 ∷ []) refl)
late_output Stderr k = true≢false (k.end_last Stderr (Granted Pool.Stdout 1 ∷ Granted Pool.Stderr 1 ∷ []) (Output Stderr 1 ∷ []) refl)
late_output Notes k = true≢false (k.end_last Notes (Granted Pool.Stdout 1 ∷ Granted Pool.Stderr 1 ∷ []) (Output Notes 1 ∷ []) refl)

late_message : Excluded limits (Terminal ∷ Credit 1 ∷ [])
late_message k = true≢false (k.terminal_last [] (Credit 1 ∷ []) refl)

unopened_output : Excluded shared (Granted Pool.Output 1 ∷ Output Notes 1 ∷ [])
unfolding has_notes
unopened_output k = true≢false k.none_unopened

unopened_end : Excluded limits (End Notes ∷ [])
unfolding has_notes
unopened_end k = true≢false k.none_unopened

short_output : Excluded framed (Granted Pool.Stdout 1 ∷ Output Stdout 0 ∷ [])
short_output k = let q : 1 ≤ 0 = (k.lengths Stdout 0 (Granted Pool.Stdout 1 ∷ []) [] refl).0 in absurd (omega (arith, q))

long_output : Excluded framed (Granted Pool.Stdout 1 ∷ Output Stdout 5 ∷ [])
long_output k = let q : 5 ≤ 4 = (k.lengths Stdout 5 (Granted Pool.Stdout 1 ∷ []) [] refl).1 in absurd (omega (arith, q))

unpaid : Excluded limits (Granted Pool.Stdout 3 ∷ Output Stdout 4 ∷ [])
unfolding cost
unpaid k = let q : 4 ≤ 3 = k.costs Stdout (Granted Pool.Stdout 3 ∷ Output Stdout 4 ∷ []) [] refl in absurd (omega (arith, q))

-- of one pool for both streams
unpaid_together : Excluded shared_framed (Granted Pool.Output 1 ∷ Output Stdout 4 ∷ Output Stderr 4 ∷ [])
unfolding cost
unpaid_together k = let q : 2 ≤ 1 = k.costs Stdout (Granted Pool.Output 1 ∷ Output Stdout 4 ∷ Output Stderr 4 ∷ []) [] refl in absurd (omega (arith, q))

above : Excluded limits (Granted Pool.Stderr 9 ∷ [])
above k = let q : 9 ≤ 8 = k.windows Stderr (Granted Pool.Stderr 9 ∷ []) [] refl in absurd (omega (arith, q))

above_together : Excluded shared (Granted Pool.Output 9 ∷ [])
above_together k = let q : 9 ≤ 8 = k.windows Stderr (Granted Pool.Output 9 ∷ []) [] refl in absurd (omega (arith, q))

no_units : Excluded limits (Credit 0 ∷ [])
no_units k = let q : 1 ≤ 0 = k.some_units 0 [] [] refl in absurd (omega (arith, q))

uncharged : Excluded limits (Credit 3 ∷ Input 4 ∷ [])
unfolding cost
uncharged k = let q : 4 ≤ 3 = k.charges (Credit 3 ∷ Input 4 ∷ []) [] refl in absurd (omega (arith, q))

too_many : Excluded mixed (Credit 4 ∷ [])
too_many k = let q : 4 ≤ 3 = k.window (Credit 4 ∷ []) [] refl in absurd (omega (arith, q))
