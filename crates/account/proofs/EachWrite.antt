-- What is written, as records or as frames, does what next_message does, or is refused and takes no message.
use Rattle.std.specs.Prelude.{Ok}
use mathlib.Core.Bool.{Bool, true, false, cond, false≢true}
use mathlib.Core.Path.{◌≡◌, refl, sym, ap, ◌∙◌}
use mathlib.Core.List.{List, [], ◌∷◌, ◌++◌}
use Prim.Native.Nat.{ℕ, ◌≤◌}
use native.Mathlib.Omega.{arith}
use lib.ListN.{length, take, drop, length-append}
use Rattle.exec.specs.declared.Refusal.TheVariants.{BufferShort, UntoldStatus}
use Rattle.exec.specs.declared.Stream.{Stream}
use Rattle.exec.specs.Refusal.{number}
use Rattle.choice.specs.declared.Choice.{Choice}
use Rattle.runner.specs.declared.runner.Runner.{Runner}
use Rattle.runner.specs.Calls as Calls
use Rattle.runner.specs.Message.{choose, payload, said_for, buffer_after}
use Rattle.runner.specs.Range.{stop, bytes_do}
use Rattle.runner.specs.MessageLaws.{payload_length}
use Rattle.carrier.specs.Carrier.{WriteAfter, part_back, asked, Laying, wrote, wrote_buffer, told, Carriage}
use Rattle.carrier.specs.CarrierLaws.{part_in, part_reaches}
use Rattle.carrier.specs.SaidLaws.{Pays}
use Rattle.carrier.specs.Writes.{Writes, elsewhere, short, left, taken, tells}
use Rattle.calls.specs.Call as Call
use Rattle.calls.specs.Call.{Call, Answer}
use Rattle.account.specs.Step as Step
use Rattle.account.specs.Step.{State, says}
use Rattle.account.specs.Records.{Entry, wrote_as, answers, is_untaken, among, of_entry}
use Rattle.account.proofs.EachRecord.{Does}

module _ (at : ℕ) (w : Laying) (pays : Pays at w) where
  -- what is told of a message is what next_message answered
  choice_told : (m : Choice) (r : Runner) (store part buffer : List ℕ) (k : ℕ) → at ≤ length buffer
      → ((x : Stream) (n : ℕ) → Choice.Output x n ≡ m → length (payload r x n store) ≡ n)
      → wrote_as (wrote w (said_for m r)) (wrote_buffer w (said_for m r) (part_back at k buffer (buffer_after m r store part)))
      ≡ says (said_for m r) (buffer_after m r store part)
  unfolding said_for buffer_after wrote wrote_buffer Pays
  choice_told (Choice.Output x n) r store part buffer k h l =
      let p : List ℕ = payload r x n store ++ drop n part in
      let m : n ≤ length p = simp length-append (omega (arith, l x n refl)) in
      ap (λ (b : List ℕ). Call.Says (Call.Output x b)) (pays x n (part_back at k buffer p) (part_reaches at k buffer p n h m) ∙ part_in at k buffer p n h m)
  choice_told _ r store part buffer k h l = refl

  -- and is no refusal
  choice_as : (C : Answer → Type 0) → C Call.Nothing → ((x : Call.Message) → C (Call.Says x))
      → (m : Choice) (r : Runner) (b : List ℕ) → C (wrote_as (wrote w (said_for m r)) b)
  unfolding said_for wrote
  choice_as C n h Choice.None r b = n
  choice_as C n h _ r b = h _

module _ (s : State) (e : Entry) (k : Carriage) (buffer : List ℕ) (pays : Pays k.at k.laying) (g : stop s.runner (bytes_do s.runner.limits s.bytes) ≡ Ok tt) where
  -- the part of the buffer that the message is asked for in
  abbrev pub part : List ℕ
  part = take s.runner.limits.chunk (drop k.at buffer)

  pub told_as : (C : Answer → Type 0) → C Call.Nothing → ((x : Call.Message) → C (Call.Says x)) → C (answers (tells k s.runner s.bytes buffer))
  unfolding told asked Calls.next_message
  told_as C n h = rw g (choice_as k.at k.laying pays C n h (choose s.runner (length part)) s.runner _)

  told_taken : is_untaken (answers (tells k s.runner s.bytes buffer)) ≡ false
  told_taken = told_as (λ (a : Answer). is_untaken a ≡ false) refl (λ x. refl)

  pub told_does : k.at ≤ length buffer → Does e (Call.next_message part ∷ []) s (Step.on_runner (tells k s.runner s.bytes buffer).writing.runner s) (answers (tells k s.runner s.bytes buffer))
  unfolding Does told asked Step.next Step.answer Calls.next_message
  told_does h = (
    refl,
    rw g (choice_told k.at k.laying pays (choose s.runner (length part)) s.runner s.bytes part buffer s.runner.limits.chunk h (λ x n q. payload_length s.runner s.bytes part x n g q)),
  )

  -- refused by its carrier's number, by 25, or where the message is left by 40, it takes none
  pub written_does : k.at ≤ 13 → among (number k.own) (of_entry e) ≡ true → among (number BufferShort) (of_entry e) ≡ true
      → (k.left ≡ true → among (number UntoldStatus) (of_entry e) ≡ true) → (met : Bool) (w : WriteAfter) → Writes k s.runner s.bytes buffer met w
      → Does e (cond met (cond (is_untaken (answers w)) [] (Call.next_message part ∷ [])) []) s (Step.on_runner w.writing.runner s) (answers w)
  unfolding Does
  written_does within own room unsent met w (elsewhere x) = record { kept = refl; refusal = number k.own; answered = refl; own = own }
  written_does within own room unsent met w (short x y) = record { kept = refl; refusal = 25; answered = refl; own = room }
  written_does within own room unsent met w (left u) = record { kept = refl; refusal = 40; answered = refl; own = unsent u }
  written_does within own room unsent met w (taken u h) = rw told_taken (told_does (omega (arith, h)))

  -- only a message that is left is not taken
  pub untaken_left : (met : Bool) (w : WriteAfter) → Writes k s.runner s.bytes buffer met w → is_untaken (Call.Refused (number k.own)) ≡ false
      → is_untaken (answers w) ≡ true → k.left ≡ true
  untaken_left met w (elsewhere x) o e = absurd (false≢true (sym o ∙ e))
  untaken_left met w (short x y) o e = absurd (false≢true e)
  untaken_left met w (left u) o e = u
  untaken_left met w (taken u h) o e = absurd (false≢true (sym told_taken ∙ e))
