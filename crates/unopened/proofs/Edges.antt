-- Notes where limits have two streams, at its numbers, computed from the definitions: 2 behind 12, 10, 46 and 11, behind a key that is
-- another's or older, and before all else that credit meets; whatever stands in its place.
use Rattle.std.specs.Prelude.{◌≡◌, refl, Bool, false, true, List, [], ◌∷◌, ℕ, Option, Result, Some, None, Ok, Err}
use Rattle.exec.specs.declared.Key.{Key}
use Rattle.exec.specs.declared.Limits.{Limits}
use Rattle.exec.specs.declared.Pool.{Pool}
use Rattle.exec.specs.declared.Receipt.{Receipt}
use Rattle.exec.specs.declared.Refusal.{Refusal}
use Rattle.exec.specs.declared.Stream.{Stream}
use Rattle.exec.specs.declared.Stream.TheVariants.{Stdout, Notes}
use Rattle.exec.specs.declared.Timers.{Timers}
use Rattle.exec.specs.Key.{admits}
use Rattle.exec.specs.Limits.{bytes_window, bytes_with, limits_for, no_limits, has, has_notes}
use Rattle.exec.specs.Refusal.{number}
use Rattle.choice.specs.Order as Order
use Rattle.output.specs.Output.{output_fits}
use Rattle.runner.specs.declared.runner.Runner.{Runner}
use Rattle.runner.specs.Calls as Calls
use Rattle.runner.specs.Life as Life
use Rattle.runner.specs.Message as Messages
use Rattle.runner.specs.declared.answer.After.{After}
use Rattle.runner.specs.declared.answer.Message.{Message}
use Rattle.runner.specs.Range as Range
use Rattle.runner.specs.State.{with_flow, with_flags, flags_of}
use Rattle.runner.specs.Streams as Streams
use Rattle.runner.specs.Streams.{output_after}
use Rattle.unopened.specs.UnopenedClaim.{replaced, Unopened}
use Rattle.unopened.proofs.Unopened.{unopened}

-- chunk 4 and windows of 8 bytes, so that 16 bytes do: two rings and the inbox
abbrev two : (shared : Bool) → Limits
two shared = limits_for 4 (bytes_window 8) (bytes_window 8) shared

abbrev key : (id generation : ℕ) → Key
key id generation = record { id = id; generation = generation }

abbrev timers : Timers
timers = record { timeout = None; grace = 10; settlement = 5 }

abbrev short : List ℕ
short = 0 ∷ 0 ∷ 0 ∷ 0 ∷ 0 ∷ 0 ∷ 0 ∷ 0 ∷ 0 ∷ 0 ∷ 0 ∷ 0 ∷ 0 ∷ 0 ∷ 0 ∷ []

abbrev store : List ℕ
store = 0 ∷ short

-- as open gives it, by limits and a smallest grant; with a turn of its own; and after its end
made : Limits → (smallest : ℕ) → Runner
unfolding Range.fresh
made l smallest = Range.fresh (key 7 2) l timers smallest 0

fresh : Runner
unfolding made
fresh = made (two false) 1

turned : ℕ → Runner → Runner
turned turn r = with_flow r.credits turn r.flags r.high_water r

ended : Runner → Runner
ended r = with_flags (flags_of false false false false false false true) r

-- Notes is not open there, and the claim is met; Stdout is open
meets : Unopened fresh Notes
unfolding fresh made has_notes
meets = unopened fresh Notes refl

opens : (has fresh.limits Notes ≡ false) × (has fresh.limits Stdout ≡ true) × (number Refusal.Pool ≡ 2)
unfolding fresh made has_notes
opens = (refl, refl, refl)

-- ---- the calls that name it

writes : Runner → Stream → (store : List ℕ) → Result ℕ Refusal
writes r x store = (Calls.output r x (97 ∷ []) store).taking.answer

-- a byte of Notes is refused, where one of Stdout is taken; behind a short store, a smallest grant of none, limits that are none, and a turn
-- of three
order : (writes fresh Notes store ≡ Err Refusal.Pool) × (writes fresh Stdout store ≡ Ok 1)
    × (writes fresh Notes short ≡ Err Refusal.StoreShort)
    × (writes (made (two false) 0) Notes short ≡ Err Refusal.SmallestGrant)
    × (writes (made no_limits 0) Notes short ≡ Err Refusal.NoLimits)
    × (writes (turned 2 (made no_limits 0)) Notes short ≡ Err Refusal.StateOutOfRange)
    × (writes (turned 2 fresh) Notes store ≡ Err Refusal.StateOutOfRange)
    × (writes (turned 1 fresh) Notes store ≡ Err Refusal.Pool)
unfolding writes fresh made turned Calls.output Range.stop Range.stop_at Range.in_range Streams.output_took Streams.output_taken output_fits bytes_with has_notes
order = (refl, refl, refl, refl, refl, refl, refl, refl)

-- nothing is changed; and so it is after the end of the execution
refused : (Runner → After (Unit {0})) → Type 0
refused f = (f fresh ≡ record { runner = fresh; answer = Err Refusal.Pool }) × (f (ended fresh) ≡ record { runner = ended fresh; answer = Err Refusal.Pool })

calls : refused (λ r. Calls.discarded r Notes 3) × refused (λ r. Calls.output_closed r Notes) × refused (λ r. Calls.output_failed r Notes)
    × refused (λ r. Calls.output_hung_up r Notes)
    × (Calls.read_allowance fresh Notes ≡ Err Refusal.Pool) × (Calls.read_allowance fresh Stdout ≡ Ok 4)
    × (Calls.output fresh Notes (97 ∷ []) store ≡ output_after (record { runner = fresh; answer = Err Refusal.Pool }) store)
unfolding refused fresh made ended Calls.discarded Calls.output_closed Calls.output_failed Calls.output_hung_up Calls.read_allowance Calls.output Range.stop Range.stop_at Range.in_range Streams.read_allowance_of output_fits bytes_with has_notes
calls = ((refl, refl), (refl, refl), (refl, refl), (refl, refl), refl, refl, refl)

-- ---- credit

grants : Runner → Key → Pool → (units : ℕ) → Result Receipt Refusal
grants r k p units = (Calls.credit r k p units).answer

-- refused behind the key, and before Late and a grant of none, which credit on Stdout meets; its pool is none where the pools are shared too
credits : (grants fresh (key 7 2) Pool.Notes 3 ≡ Err Refusal.Pool) × (grants fresh (key 7 2) Pool.Stdout 3 ≡ Ok Receipt.Applied)
    × (grants fresh (key 7 2) Pool.Notes 0 ≡ Err Refusal.Pool) × (grants fresh (key 7 2) Pool.Stdout 0 ≡ Err Refusal.Credit)
    × (grants (ended fresh) (key 7 2) Pool.Notes 3 ≡ Err Refusal.Pool) × (grants (ended fresh) (key 7 2) Pool.Stdout 3 ≡ Ok Receipt.Late)
    × (grants fresh (key 7 1) Pool.Notes 3 ≡ Ok Receipt.Stale) × (grants fresh (key 7 3) Pool.Notes 3 ≡ Err Refusal.Key)
    × (grants fresh (key 8 2) Pool.Notes 3 ≡ Err Refusal.Key)
    × (grants (turned 2 fresh) (key 7 1) Pool.Notes 3 ≡ Err Refusal.StateOutOfRange)
    × (grants (made (two true) 1) (key 7 2) Pool.Notes 3 ≡ Err Refusal.Pool) × (grants (made (two true) 1) (key 7 2) Pool.Output 3 ≡ Ok Receipt.Applied)
unfolding grants fresh made ended turned Calls.credit Range.stop Range.in_range Streams.credit_in Streams.credit_answer Streams.credit_next admits output_fits bytes_with has_notes
credits = (refl, refl, refl, refl, refl, refl, refl, refl, refl, refl, refl, refl)

-- ---- whatever stands in its place

-- more bytes than a ring has, a discard to ask for, some lost, and credit above a window
junk : Runner
junk =
    replaced Notes (record {
      start = 9;
      queued = 9;
      closed = false;
      hung_up = false;
      ended = false;
      discarding = true;
      discard_requested = true;
      truncated = true;
    }) (record { window = 1; available = 5 }) fresh

-- none of it is counted, asked for or said: credit and the start alone are
says : Runner → After (Option Message)
says r = (Calls.next_message r store (0 ∷ 0 ∷ [])).saying

started : Runner
started = (Calls.launched junk (Ok tt)).runner

unread : (Calls.is_finished junk ≡ Ok false) × (Calls.buffered junk ≡ Ok 0) × (Calls.memory_bound junk ≡ Ok 16)
    × ((Calls.next_request junk).answer ≡ Ok None)
    × ((says started).answer ≡ Ok (Some (Message.Credit 8)))
    × ((says (says started).runner).answer ≡ Ok (Some Message.Started))
    × ((says (says (says started).runner).runner).answer ≡ Ok None)
unfolding says started junk fresh made Calls.launched Calls.is_finished Calls.buffered Calls.memory_bound Calls.next_request Calls.next_message Range.stop Range.in_range Life.note_started Life.note_launch Life.launched_next Life.is_ready Messages.sendable_of Messages.choose Messages.effect Messages.said_for Messages.buffer_after Messages.wish_for Messages.wish Messages.wish_effect Order.if_else Order.order output_fits bytes_with has_notes
unread = (refl, refl, refl, refl, refl, refl, refl)
