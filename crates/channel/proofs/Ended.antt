-- What the record of a Terminal tells, that a Terminal that is left stays with the runner, and what a write keeps of the buffer.
use Rattle.std.specs.Prelude.{Bool, cond, List, ℕ, ◌+◌, ◌-◌, ◌^◌, ◌≤◌, ◌<◌, eqb, length, take, drop, ◌++◌, Option, Result, Some, None, Ok, Err}
use Rattle.std.proofs.Math.Bool.{true, false}
use Rattle.std.proofs.lemmas.Bool.{false≢true}
use Rattle.std.proofs.Math.Path.{◌≡◌, refl, sym, ap, subst⁻¹}
use Rattle.std.proofs.Common.{subst, ◌∙◌, arith, eq-eqb, true≢false, length-append, length-drop, length-take-le}
use Rattle.exec.specs.declared.Limits.{Limits}
use Rattle.exec.specs.declared.Refusal.{Refusal}
use Rattle.exec.specs.declared.Refusal.TheVariants.{NoLimits, StoreShort, StateOutOfRange, UntoldStatus, SmallestGrant}
use Rattle.exec.specs.declared.Outcome.{Outcome}
use Rattle.exec.specs.declared.Status.{Status}
use Rattle.exec.specs.declared.Stream.{Stream}
use Rattle.exec.specs.declared.Stream.TheVariants.{Stdout, Stderr, Notes}
use Rattle.exec.specs.Refusal.{number}
use Rattle.choice.specs.declared.Choice.{Choice}
use Rattle.runner.specs.declared.answer.Message.{Message}
use Rattle.runner.specs.declared.runner.Runner.{Runner}
use Rattle.runner.specs.Calls as Calls
use Rattle.runner.specs.Life.{outcome_of}
use Rattle.runner.specs.Message.{choose, said_for}
use Rattle.runner.specs.Range.{bytes_do, stop}
use Rattle.runner.specs.RangeLaws.{stop_ends}
use Rattle.runner.specs.State.{outputs_of}
use Rattle.runner.specs.TerminalLaws.{still}
use Rattle.codec.specs.declared.Record.{Record}
use Rattle.codec.specs.declared.Record.TheVariants.{Adjust, Data, Extended, Eof}
use Rattle.codec.specs.Codec.{start, size, header, bytes_of, laid_record}
use Rattle.codec.specs.CodecLaws.{header_length, start_most}
use Rattle.codec.specs.RoundTrip.{payload_back, laid_front}
use Rattle.exits.specs.Exit.{is_untold, ending}
use Rattle.exits.proofs.Ended.{ended_reads, ending_bound}
use Rattle.carrier.specs.Carrier.{WriteAfter, write_after, unwritten, room, asked, told, wrote, wrote_buffer, Carriage}
use Rattle.carrier.specs.CarrierLaws.{beyond}
use Rattle.carrier.specs.SaidLaws.{Within, Keeps, Pays}
use Rattle.carrier.specs.Writes as Writes
use Rattle.carrier.specs.Writes.{Writes, elsewhere, short, left, taken, writes, stopped}
use Rattle.channel.specs.declared.calls.Sending.{Sending}
use Rattle.channel.specs.Calls.{output_record, last_end, sent_as, sent_buffer, laying, is_left, carriage, write_record}
use Rattle.channel.specs.Ended.{number_of, Still, Ending, EndsAs}

-- ---- a Terminal that is left

-- what is left is Terminal, of a status that no request tells
pub choice_left : (c : Choice) (r : Runner) → is_left (said_for c r) ≡ true → (c ≡ Choice.Terminal) × (is_untold (outcome_of r).status ≡ true)
unfolding said_for is_left
choice_left Choice.None r e = absurd (false≢true e)
choice_left Choice.Credit r e = absurd (false≢true e)
choice_left Choice.Started r e = absurd (false≢true e)
choice_left Choice.InputClosed r e = absurd (false≢true e)
choice_left (Choice.End x) r e = absurd (false≢true e)
choice_left (Choice.Output x n) r e = absurd (false≢true e)
choice_left Choice.Terminal r e = (refl, e)

-- what is told is no refusal
said_number : (c : Choice) (r : Runner) (channel : ℕ) (last : Stream → Bool) → number_of (wrote (laying channel last) (said_for c r)) ≡ 0
unfolding said_for wrote
said_number Choice.None r channel last = refl
said_number Choice.Credit r channel last = refl
said_number Choice.Started r channel last = refl
said_number Choice.InputClosed r channel last = refl
said_number (Choice.End x) r channel last = refl
said_number (Choice.Output x n) r channel last = refl
said_number Choice.Terminal r channel last = refl

-- what a call meets ahead of it is no 40
stop_number : (r : Runner) (stores : Bool) (x : Refusal) → stop r stores ≡ Err x → number x ≡ 40 → ⊥
stop_number r stores =
    stop_ends (λ m. (x : Refusal) → m ≡ Err x → number x ≡ 40 → ⊥) (other NoLimits refl) (other SmallestGrant refl) (other StoreShort refl) r stores
    (other StateOutOfRange refl) (λ i v g n s x e z. (let z : ◌≡◌ {A = ℕ} 0 1 = cc in absurd (omega arith)))
  where
    other : (y : Refusal) → eqb (number y) 40 ≡ false → (x : Refusal) → ◌≡◌ {A = Result (Unit {0}) Refusal} (Err y) (Err x) → number x ≡ 40 → ⊥
    other y f x e n = let q : number y ≡ number x = cc in true≢false (sym (eq-eqb (number y) 40 (q ∙ n)) ∙ f)

module _ (r : Runner) (channel : ℕ) (store b : List ℕ) where
  k : Carriage
  k = carriage r channel store b

  still_left : stop r (bytes_do r.limits store) ≡ Ok tt → is_left (asked 13 r store b).saying.answer ≡ true
      → write_record r channel store b ≡ write_after (unwritten UntoldStatus r) b → Still r channel store b
  unfolding asked Calls.next_message said_for
  still_left g u e =
      let p = choice_left (choose r (length (take r.limits.chunk (drop 13 b)))) r (rw g at u) in
      record { kept = e; said = λ part. rw (g, still r _ (length part) p.0) refl; untold = p.1 }

  by_writes : stop r (bytes_do r.limits store) ≡ Ok tt → (met : Bool) (w : WriteAfter) → Writes k r store b met w → write_record r channel store b ≡ w
      → number_of w.writing.answer ≡ 40 → Still r channel store b
  unfolding asked told Calls.next_message k
  by_writes g met w (elsewhere c) e h = absurd (omega arith)
  by_writes g met w (short c l) e h = absurd (omega arith)
  by_writes g met w (left u) e h = still_left g u e
  by_writes g met w (taken u l) e h =
      let z : ◌≡◌ {A = ℕ} 0 40 = sym (said_number (choose r (length (take r.limits.chunk (drop 13 b)))) r channel (last_end (outputs_of r))) ∙ (rw g at h) in
      absurd (omega arith)

  -- A WRITE REFUSED BY 40 CHANGES NOTHING, AND NEXT_MESSAGE STILL GIVES THE TERMINAL
  pub untold_still : (write_record r channel store b).writing.answer ≡ Err UntoldStatus → Still r channel store b
  unfolding stop write_record k
  untold_still h = by (stop r (bytes_do r.limits store)) refl
    where
      n : number_of (write_record r channel store b).writing.answer ≡ 40
      n = ap number_of h

      by : (met : Result (Unit {0}) Refusal) → stop r (bytes_do r.limits store) ≡ met → Still r channel store b
      by (Ok tt) g = by_writes g _ _ (writes k r store b g) refl n
      by (Err x) g =
          let z : number x ≡ 40 = sym (ap (λ (w : WriteAfter). number_of w.writing.answer) (stopped k r store b x g)) ∙ n in
          absurd (stop_number r (bytes_do r.limits store) x g z)

-- ---- a Terminal that is told

module _ (r : Runner) (channel : ℕ) (known : channel < 2 ^ 32) where
  said_ends : (last : Stream → Bool) (b : List ℕ) (said : Result (Option Message) Refusal) → is_left said ≡ false
      → EndsAs channel (wrote_buffer (laying channel last) said b) (wrote (laying channel last) said)
  unfolding is_left wrote wrote_buffer sent_as sent_buffer
  said_ends last b (Ok (Some (Message.Terminal o))) u =
      let q = ended_reads channel o.status (drop (length (ending channel o.status)) b) known u in
      record { told = u; size = refl; tells = q.0; closes = q.1 }
  said_ends last b (Ok (Some (Message.Credit units))) u = tt
  said_ends last b (Ok (Some Message.Started)) u = tt
  said_ends last b (Ok (Some (Message.Output x n))) u = tt
  said_ends last b (Ok (Some (Message.End x))) u = tt
  said_ends last b (Ok (Some Message.InputClosed)) u = tt
  said_ends last b (Ok None) u = tt
  said_ends last b (Err x) u = tt

  ends : (store b : List ℕ) (met : Bool) (w : WriteAfter) → Writes (carriage r channel store b) r store b met w → EndsAs channel w.buffer w.writing.answer
  unfolding told
  ends store b met w (elsewhere c) = tt
  ends store b met w (short c l) = tt
  ends store b met w (left u) = tt
  ends store b met w (taken u l) = said_ends (last_end (outputs_of r)) (asked 13 r store b).buffer (asked 13 r store b).saying.answer u

  ends_so : (store b : List ℕ) → EndsAs channel (write_record r channel store b).buffer (write_record r channel store b).writing.answer
  unfolding write_record
  ends_so store b = by (stop r (bytes_do r.limits store)) refl
    where
      by : (met : Result (Unit {0}) Refusal) → stop r (bytes_do r.limits store) ≡ met → EndsAs channel (write_record r channel store b).buffer (write_record r channel store b).writing.answer
      by (Ok tt) g = ends store b _ _ (writes (carriage r channel store b) r store b g)
      by (Err x) g = subst⁻¹ (λ (w : WriteAfter). EndsAs channel w.buffer w.writing.answer) (stopped (carriage r channel store b) r store b x g) tt

  -- THE RECORD OF A TERMINAL TELLS ITS STATUS, AND THEN CLOSES
  pub terminal_reads : (store b : List ℕ) (o : Outcome) (n : ℕ) → (write_record r channel store b).writing.answer ≡ (Ok (Some (Message.Terminal o, n)))
      → Ending channel o n (write_record r channel store b).buffer
  terminal_reads store b o n e = subst (EndsAs channel (write_record r channel store b).buffer) e (ends_so store b)

-- ---- what is kept of the buffer

-- a record whose payload is within the chunk is laid within chunk + 13 bytes, and an ending within 43
record_beyond : (l : Limits) (channel : ℕ) (rec : Record) (b : List ℕ) → room l ≤ length b → size rec ≤ l.chunk
    → drop (room l) (laid_record channel rec b) ≡ drop (room l) b
unfolding laid_record bytes_of
record_beyond l channel rec b h n =
    let p : length (take (size rec) (drop 13 b)) ≡ size rec = length-take-le (size rec) (drop 13 b) (simp length-drop (omega arith)) in
    beyond (header channel rec ++ take (size rec) (drop 13 b)) b (start rec + size rec) (room l)
    (simp length-append (omega (arith, header_length channel rec, p))) (omega (arith, start_most rec))

ending_beyond : (l : Limits) (channel : ℕ) (status : Option Status) (b : List ℕ)
    → drop (room l) (ending channel status ++ drop (length (ending channel status)) b) ≡ drop (room l) b
ending_beyond l channel status b = beyond (ending channel status) b (length (ending channel status)) (room l) refl (omega (arith, ending_bound channel status))

keeps : (l : Limits) (channel : ℕ) (last : Stream → Bool) → Keeps l (laying channel last) (room l) (room l)
unfolding Keeps Within sent_as sent_buffer
keeps l channel last (Message.Credit units) b k h = record_beyond l channel (Adjust units) b h (omega arith)
keeps l channel last Message.Started b k h = refl
keeps l channel last (Message.Output Stdout n) b k h = record_beyond l channel (Data n) b h k.1
keeps l channel last (Message.Output Stderr n) b k h = record_beyond l channel (Extended n) b h k.1
keeps l channel last (Message.Output Notes n) b k h = record_beyond l channel (Record.Notes n) b h k.1
keeps l channel last (Message.End x) b k h = end (last x)
  where
    end : (e : Bool) → drop (room l) (sent_buffer channel (cond e (Sending.Record Eof) Sending.Nothing) b) ≡ drop (room l) b
    end true = record_beyond l channel Eof b h (omega arith)
    end false = refl
keeps l channel last Message.InputClosed b k h = refl
keeps l channel last (Message.Terminal o) b k h = ending_beyond l channel o.status b

-- ---- the payload of an Output is the last of its record

pub pays : (channel : ℕ) (last : Stream → Bool) → Pays 13 (laying channel last)
unfolding Pays sent_as sent_buffer
pays channel last x n b h = by x
  where
    record_pays : (rec : Record) → size rec ≡ n → drop (start rec + n - n) (take (start rec + n) (laid_record channel rec b)) ≡ take n (drop 13 b)
    record_pays rec e =
        let z : start rec + size rec - size rec ≡ start rec = omega arith in
        let long : 13 + size rec ≤ length b = omega (arith, e) in
        rw (sym e) (rw z (ap (drop (start rec)) (laid_front channel rec b long) ∙ payload_back channel rec (take (size rec) (drop 13 b))))

    by : (x : Stream) → drop (start (output_record x n) + size (output_record x n) - n) (take (start (output_record x n) + size (output_record x n)) (laid_record channel (output_record x n) b)) ≡ take n (drop 13 b)
    by Stdout = record_pays (Data n) refl
    by Stderr = record_pays (Extended n) refl
    by Notes = record_pays (Record.Notes n) refl

module _ (r : Runner) (channel : ℕ) (store b : List ℕ) where
  -- WHERE NO MESSAGE WAITS, THE WHOLE RECORD BUFFER IS KEPT
  pub none_kept : (write_record r channel store b).writing.answer ≡ Ok None → (write_record r channel store b).buffer ≡ b
  unfolding write_record
  none_kept = Writes.none_kept (carriage r channel store b) r store b

  -- ALL BYTES BEHIND max(chunk + 13, 43) ARE KEPT, WHATEVER IS WRITTEN
  pub beyond_kept : drop (room r.limits) (write_record r channel store b).buffer ≡ drop (room r.limits) b
  unfolding write_record
  beyond_kept = Writes.beyond_kept (carriage r channel store b) r store b (omega arith) (keeps r.limits channel (last_end (outputs_of r)))
