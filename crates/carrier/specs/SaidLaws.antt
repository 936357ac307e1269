-- What next_message says in the part of the buffer that it is lent, and what is left of the buffer around it.
use Rattle.std.specs.Prelude.{true, List, ◌≡◌, refl, ℕ, ◌+◌, ◌-◌, ◌≤◌, min, length, take, drop, Option, Result, Some, None, Ok, Err}
use Rattle.std.proofs.Common.{◌∙◌, arith, length-append, length-drop, length-take-le}
use Rattle.exec.specs.declared.Limits.{Limits}
use Rattle.exec.specs.declared.Refusal.{Refusal}
use Rattle.exec.specs.declared.Stream.{Stream}
use Rattle.exec.specs.Limits.{has, pool_of}
use Rattle.choice.specs.declared.Choice.{Choice}
use Rattle.runner.specs.declared.answer.Message.{Message}
use Rattle.runner.specs.declared.runner.Runner.{Runner}
use Rattle.runner.specs.Calls as Calls
use Rattle.runner.specs.Calls.{message_by}
use Rattle.runner.specs.Message.{choose, said_for, buffer_after, sendable_of}
use Rattle.runner.specs.MessageLaws.{chosen, names_open, least, payload_length}
use Rattle.runner.specs.Range.{bytes_do, stop}
use Rattle.runner.specs.RangeLaws.{is_good_lem}
use Rattle.runner.specs.State.{out_of, credit_at}
use Rattle.carrier.specs.Carrier.{part_back, asked, Laying, wrote, wrote_buffer, told}
use Rattle.carrier.specs.CarrierLaws.{part_kept, part_long, part_beyond}

-- ---- of a runner in range with its stores: an Output and an End are of a stream that is open, an Output is of a chunk at most, and
-- Credit of the input's window

unfoldable pub Within : Limits → Message → Type 0
Within l (Message.Credit units) = units ≤ l.input.size
Within l Message.Started = Unit
Within l (Message.Output x n) = (has l x ≡ true) × (n ≤ l.chunk)
Within l (Message.End x) = has l x ≡ true
Within l Message.InputClosed = Unit
Within l (Message.Terminal outcome) = Unit

unfoldable pub SaidWithin : Limits → Result (Option Message) Refusal → Type 0
SaidWithin l (Ok None) = Unit
SaidWithin l (Ok (Some m)) = Within l m
SaidWithin l (Err x) = Unit

-- a laying, of messages within the limits, keeps a buffer of at least so many bytes from an index on
unfoldable pub Keeps : Limits → Laying → (from room : ℕ) → Type 0
Keeps l w from room = (m : Message) (b : List ℕ) → Within l m → room ≤ length b → drop from (w.lay m b) ≡ drop from b

-- the last bytes of a message that is an Output are its payload, which stood at an index
unfoldable pub Pays : (at : ℕ) → Laying → Type 0
Pays at w = (x : Stream) (n : ℕ) (b : List ℕ) → at + n ≤ length b
    → drop (w.size (Message.Output x n) - n) (take (w.size (Message.Output x n)) (w.lay (Message.Output x n) b)) ≡ take n (drop at b)

module _ (at : ℕ) (r : Runner) (store b : List ℕ) where
  lent : List ℕ
  lent = take r.limits.chunk (drop at b)

  module _ (g : stop r (bytes_do r.limits store) ≡ Ok tt) where
    output_least : (x : Stream) (n : ℕ) → Choice.Output x n ≡ choose r (length lent) → n ≤ min r.limits.chunk (length lent)
    unfolding sendable_of
    output_least x n e =
        let m = min (min (out_of x r).queued r.limits.chunk) (length lent) in
        let l = least r.limits.output.unit (credit_at (pool_of r.limits x) r.credits).available m in
        omega (arith, (chosen r (length lent) x n e).bytes, l)

    choice_within : (c : Choice) → c ≡ choose r (length lent) → SaidWithin r.limits (said_for c r)
    unfolding SaidWithin Within said_for
    choice_within Choice.None e = tt
    choice_within Choice.Credit e = omega (arith, (is_good_lem r (bytes_do r.limits store) g).range.input.units)
    choice_within Choice.Started e = tt
    choice_within Choice.InputClosed e = tt
    choice_within (Choice.End x) e = names_open r (length lent) (Choice.End x) e
    choice_within (Choice.Output x n) e = (names_open r (length lent) (Choice.Output x n) e, omega (arith, output_least x n e))
    choice_within Choice.Terminal e = tt

  pub said_within : SaidWithin r.limits (asked at r store b).saying.answer
  unfolding asked Calls.next_message lent SaidWithin
  said_within = by (stop r (bytes_do r.limits store)) refl
    where
      by : (met : Result (Unit {0}) Refusal) → stop r (bytes_do r.limits store) ≡ met → SaidWithin r.limits (message_by met r store lent).saying.answer
      by (Ok tt) g = choice_within g (choose r (length lent)) refl
      by (Err x) g = tt

  -- ---- the buffer

  -- the part comes back as long as it was lent
  part_length : at + r.limits.chunk ≤ length b → (met : Result (Unit {0}) Refusal) → stop r (bytes_do r.limits store) ≡ met
      → length (message_by met r store lent).buffer ≡ r.limits.chunk
  unfolding lent buffer_after
  part_length h (Ok tt) g = choice (choose r (length lent)) refl
    where
      whole : length (take r.limits.chunk (drop at b)) ≡ r.limits.chunk
      whole = length-take-le r.limits.chunk (drop at b) (simp length-drop (omega arith))

      choice : (c : Choice) → c ≡ choose r (length lent) → length (buffer_after c r store lent) ≡ r.limits.chunk
      choice (Choice.Output x n) e =
          simp (length-append, length-drop) (omega (arith, payload_length r store lent x n g e, output_least g x n e, whole))
      choice Choice.None e = whole
      choice Choice.Credit e = whole
      choice Choice.Started e = whole
      choice Choice.InputClosed e = whole
      choice (Choice.End x) e = whole
      choice Choice.Terminal e = whole
  part_length h (Err x) g = length-take-le r.limits.chunk (drop at b) (simp length-drop (omega arith))

  module _ (h : at + r.limits.chunk ≤ length b) where
    pub asked_long : length (asked at r store b).buffer ≡ length b
    unfolding asked Calls.next_message lent
    asked_long = part_long at r.limits.chunk b _ h (part_length h (stop r (bytes_do r.limits store)) refl)

    asked_beyond : (from : ℕ) → at + r.limits.chunk ≤ from → drop from (asked at r store b).buffer ≡ drop from b
    unfolding asked Calls.next_message lent
    asked_beyond from f = part_beyond at r.limits.chunk b _ from h (part_length h (stop r (bytes_do r.limits store)) refl) f

    -- so all is kept that no message is laid over
    pub told_beyond : (w : Laying) (from : ℕ) → at + r.limits.chunk ≤ from → Keeps r.limits w from (length b)
        → drop from (told w (asked at r store b)).buffer ≡ drop from b
    unfolding told wrote_buffer SaidWithin Keeps
    told_beyond w from f keeps = by (asked at r store b).saying.answer said_within
      where
        by : (said : Result (Option Message) Refusal) → SaidWithin r.limits said → drop from (wrote_buffer w said (asked at r store b).buffer) ≡ drop from b
        by (Ok None) k = asked_beyond from f
        by (Ok (Some m)) k = keeps m (asked at r store b).buffer k (omega (arith, asked_long)) ∙ asked_beyond from f
        by (Err x) k = asked_beyond from f

  some_message : (m : Message) (n : ℕ) → ◌≡◌ {A = Result (Option (Message × ℕ)) Refusal} (Ok (Some (m, n))) (Ok None) → ⊥
  some_message m n e = let z : ◌≡◌ {A = ℕ} 0 1 = cc in omega arith

  -- and where no message waits, the whole buffer
  pub none_told : (w : Laying) → (told w (asked at r store b)).writing.answer ≡ Ok None → (told w (asked at r store b)).buffer ≡ b
  unfolding told asked Calls.next_message lent wrote wrote_buffer said_for buffer_after
  none_told w = by (stop r (bytes_do r.limits store))
    where
      choice : (c : Choice) → wrote w (said_for c r) ≡ Ok None → wrote_buffer w (said_for c r) (part_back at r.limits.chunk b (buffer_after c r store lent)) ≡ b
      choice Choice.None e = part_kept at r.limits.chunk b
      choice Choice.Credit e = absurd (some_message _ _ e)
      choice Choice.Started e = absurd (some_message _ _ e)
      choice Choice.InputClosed e = absurd (some_message _ _ e)
      choice (Choice.End x) e = absurd (some_message _ _ e)
      choice (Choice.Output x n) e = absurd (some_message _ _ e)
      choice Choice.Terminal e = absurd (some_message _ _ e)

      by : (met : Result (Unit {0}) Refusal) → wrote w (message_by met r store lent).saying.answer ≡ Ok None
          → wrote_buffer w (message_by met r store lent).saying.answer (part_back at r.limits.chunk b (message_by met r store lent).buffer) ≡ b
      by (Ok tt) e = choice (choose r (length lent)) e
      by (Err x) e = part_kept at r.limits.chunk b
