-- What is read or written, as a record or as frames, sees no more of a runner than is shown, as the calls do.
use Rattle.std.specs.Prelude.{Result, Ok, Err}
use Rattle.exec.specs.declared.Key.{Key}
use Rattle.exec.specs.declared.Pool.{Pool}
use Rattle.exec.specs.declared.Receipt.{Receipt}
use Rattle.exec.specs.declared.Refusal.{Refusal}
use mathlib.Core.Bool.{Bool, true, false, cond, not, ◌&&◌}
use mathlib.Core.Path.{◌≡◌, refl, sym, ◌∙◌, ap, subst⁻¹}
use mathlib.Core.List.{List}
use Prim.Native.Nat.{ℕ}
use lib.Dec.{leb, eqb}
use lib.ListN.{length, take, drop}
use Rattle.exec.specs.declared.Pool.TheVariants as Pools
use Rattle.exec.specs.declared.Refusal.TheVariants.{UntoldStatus, NotAChannel, NotFramed}
use Rattle.exec.specs.declared.Stream.TheVariants.{Stdout, Stderr, Notes}
use Rattle.codec.specs.declared.Record.{Record}
use Rattle.codec.specs.Codec as Codec
use Rattle.framing.specs.declared.Frame.{Frame}
use Rattle.framing.specs.Framing as Framing
use Rattle.runner.specs.declared.runner.Runner.{Runner}
use Rattle.runner.specs.Calls as Calls
use Rattle.runner.specs.Calls.{stores_do}
use Rattle.runner.specs.Message.{MessageAfter}
use Rattle.runner.specs.Range.{in_range, stop, bytes_do}
use Rattle.runner.specs.Streams.{InputAfter}
use Rattle.carrier.specs.Carrier.{ReadAfter, read_after, heard_as, noted_as, heard, admitted, accepted, WriteAfter, write_after, unwritten, room, readied, written, part_back, asked, Laying, wrote, told, Carriage, sent, write}
use Rattle.channel.specs.Calls as Channel
use Rattle.channel.specs.Calls.{is_channel, is_left}
use Rattle.frames.specs.Calls as Frames
use Rattle.frames.specs.Calls.{is_framed, is_ok, then_end, data_made}
use Rattle.calls.specs.Call.{Call, Answer, is_refused}
use Rattle.account.specs.Step.{State, on_runner, next, answer, replied, received_as}
use Rattle.account.specs.Records.{Entry, call, read_record, write_record, read_frame, write_frame, leaves, read_as, answers, next_entry, answer_entry}
use Rattle.account.proofs.EachRecord.{heard_as_lem, noted_as_lem}
use Rattle.idle.proofs.Calm.{calm, calm_s, still}
use Rattle.idle.proofs.Calls.{Alike, Messages, message_sees, getting, call_sees}

-- ---- what is read leaves what is alike, and answers alike

abbrev Reads : ReadAfter → ReadAfter → Type 0
Reads x y = Alike (leaves x) (read_as x.reading.answer) (leaves y) (read_as y.reading.answer)

-- it answers as its call does
as_heard : {s t : State} (x y : Result Receipt Refusal) → Alike s (received_as x) t (received_as y) → Alike s (read_as (heard_as x)) t (read_as (heard_as y))
as_heard x y k = record { left = k.left; answered = heard_as_lem x ∙ k.answered ∙ sym (heard_as_lem y) }

as_noted : {s t : State} (x y : Result (Unit {0}) Refusal) → Alike s (replied x) t (replied y) → Alike s (read_as (noted_as x)) t (read_as (noted_as y))
as_noted x y k = record { left = k.left; answered = noted_as_lem x ∙ k.answered ∙ sym (noted_as_lem y) }

-- input, as it was taken
abbrev taken : InputAfter → ReadAfter
taken i = read_after (heard i.hearing) i.bytes i.lengths

-- the calls under the runner's own key
module _ (s : State) where
  abbrev r : Runner
  r = s.runner

  credit_sees : (p : Pool) (n : ℕ) → Reads (read_after (heard (Calls.credit (calm r) r.key p n)) s.bytes s.lengths) (read_after (heard (Calls.credit r r.key p n)) s.bytes s.lengths)
  unfolding next answer
  credit_sees p n = as_heard (Calls.credit (calm r) r.key p n).answer (Calls.credit r r.key p n).answer (call_sees (Call.credit r.key p n) s)

  input_sees : (b : List ℕ) → Reads (taken (Calls.input (calm r) r.key b s.bytes s.lengths)) (taken (Calls.input r r.key b s.bytes s.lengths))
  unfolding next answer
  input_sees b =
      as_heard (Calls.input (calm r) r.key b s.bytes s.lengths).hearing.answer (Calls.input r r.key b s.bytes s.lengths).hearing.answer (call_sees (Call.input r.key b) s)

  end_sees : Reads (read_after (heard (Calls.end_input (calm r) r.key)) s.bytes s.lengths) (read_after (heard (Calls.end_input r r.key)) s.bytes s.lengths)
  unfolding next answer
  end_sees = as_heard (Calls.end_input (calm r) r.key).answer (Calls.end_input r r.key).answer (call_sees (Call.end_input r.key) s)

-- ---- a record read

record_made : (rec : Record) (now : ℕ) (b : List ℕ) (s : State)
    → Reads (Channel.made rec (calm s.runner) now b s.bytes s.lengths) (Channel.made rec s.runner now b s.bytes s.lengths)
unfolding Channel.made next answer
record_made (Record.Adjust n) now b s = credit_sees s Pools.Output n
record_made (Record.Data n) now b s = input_sees s (drop 9 b)
record_made (Record.Extended n) now b s = getting s _
record_made (Record.Notes n) now b s = getting s _
record_made Record.Eof now b s = end_sees s
record_made Record.Close now b s =
    as_noted (Calls.disconnect (calm s.runner) now).answer (Calls.disconnect s.runner now).answer (call_sees (Call.disconnect now) s)

record_parsed : (p : Result Record Refusal) (now : ℕ) (b : List ℕ) (s : State)
    → Reads (Channel.parsed_read p (calm s.runner) now b s.bytes s.lengths) (Channel.parsed_read p s.runner now b s.bytes s.lengths)
unfolding Channel.parsed_read
record_parsed (Ok rec) now b s = record_made rec now b s
record_parsed (Err x) now b s = getting s _

-- ---- a frame read: DATA that ends its stream makes a call in what its bytes left

call_alike : (c : Call) (s t : State) → calm_s s ≡ calm_s t → Alike (next s c) (answer s c) (next t c) (answer t c)
call_alike c s t h = record {
  left = sym (call_sees c s).left ∙ ap (λ (x : State). calm_s (next x c)) h ∙ (call_sees c t).left;
  answered = sym (call_sees c s).answered ∙ ap (λ (x : State). answer x c) h ∙ (call_sees c t).answered;
}

ok_as : (x : Result Receipt Refusal) → is_ok x ≡ not (is_refused (read_as (heard_as x)))
ok_as (Ok Receipt.Applied) = refl
ok_as (Ok Receipt.Stale) = refl
ok_as (Ok Receipt.Late) = refl
ok_as (Err x) = refl

module _ (k : Key) (x y : InputAfter) (h : Reads (taken x) (taken y)) where
  -- with the end behind them, or not
  abbrev ended : Bool → InputAfter → ReadAfter
  ended b i = read_after (cond b (heard (Calls.end_input i.hearing.runner k)) (heard i.hearing)) i.bytes i.lengths

  ended_sees : (b : Bool) → Reads (ended b x) (ended b y)
  unfolding next answer
  ended_sees true =
      as_heard (Calls.end_input x.hearing.runner k).answer (Calls.end_input y.hearing.runner k).answer (call_alike (Call.end_input k) (leaves (taken x)) (leaves (taken y)) h.left)
  ended_sees false = h

  then_sees : (ends : Bool) → Reads (then_end ends k x) (then_end ends k y)
  unfolding then_end
  then_sees ends =
      let same : is_ok x.hearing.answer ≡ is_ok y.hearing.answer = ok_as x.hearing.answer ∙ ap (λ (a : Answer). not (is_refused a)) h.answered ∙ sym (ok_as y.hearing.answer) in
      subst⁻¹ (λ (b : Bool). Reads (ended (ends && b) x) (ended (ends && is_ok y.hearing.answer) y)) same (ended_sees (ends && is_ok y.hearing.answer))

data_sees : (ends : Bool) (b : List ℕ) (s : State) → Reads (data_made ends b (calm s.runner) s.bytes s.lengths) (data_made ends b s.runner s.bytes s.lengths)
unfolding data_made
data_sees ends b s = by (ends && eqb (length b) 0)
  where
    reads : Bool → Runner → ReadAfter
    reads alone r = cond alone (read_after (heard (Calls.end_input r r.key)) s.bytes s.lengths) (then_end ends r.key (Calls.input r r.key b s.bytes s.lengths))

    by : (alone : Bool) → Reads (reads alone (calm s.runner)) (reads alone s.runner)
    by true = end_sees s
    by false = then_sees s.runner.key (Calls.input (calm s.runner) s.runner.key b s.bytes s.lengths) (Calls.input s.runner s.runner.key b s.bytes s.lengths) (input_sees s b) ends

frame_made : (f : Frame) (now : ℕ) (b : List ℕ) (s : State)
    → Reads (Frames.made f (calm s.runner) now b s.bytes s.lengths) (Frames.made f s.runner now b s.bytes s.lengths)
unfolding Frames.made next answer
frame_made (Frame.Update x n) now b s = credit_sees s (Frames.pool_of x) n
frame_made (Frame.Data Stdout n ends) now b s = data_sees ends (drop 9 b) s
frame_made (Frame.Data Stderr n ends) now b s = getting s _
frame_made (Frame.Data Notes n ends) now b s = getting s _
frame_made (Frame.Reset x) now b s =
    as_noted (Calls.reset (calm s.runner) now).answer (Calls.reset s.runner now).answer (call_sees (Call.reset now) s)

frame_parsed : (p : Result Frame Refusal) (now : ℕ) (b : List ℕ) (s : State)
    → Reads (Frames.parsed_read p (calm s.runner) now b s.bytes s.lengths) (Frames.parsed_read p s.runner now b s.bytes s.lengths)
unfolding Frames.parsed_read
frame_parsed (Ok f) now b s = frame_made f now b s
frame_parsed (Err x) now b s = getting s _

-- ---- what is written, whatever carries it

pub record Writes (x y : WriteAfter) : Type 0 where
  pub runner : calm x.writing.runner ≡ calm y.writing.runner
  pub wrote : x.writing.answer ≡ y.writing.answer
  pub buffer : x.buffer ≡ y.buffer

told_alike : (w : Laying) (x y : MessageAfter) → Messages x y → Writes (told w x) (told w y)
unfolding told
told_alike w x y m = record { runner = m.runner; wrote = ap (wrote w) m.said; buffer = rw (m.said, m.buffer) refl }

module _ (store buffer : List ℕ) (r : Runner) where
  asked_sees : (at : ℕ) → Messages (asked at (calm r) store buffer) (asked at r store buffer)
  unfolding asked Calls.next_message stop in_range
  asked_sees at =
      let m = message_sees (stop r (bytes_do r.limits store)) r store (take r.limits.chunk (drop at buffer)) in
      record { runner = m.runner; said = m.said; buffer = ap (part_back at r.limits.chunk buffer) m.buffer }

  unwritten_sees : (x : Refusal) → Writes (write_after (unwritten x (calm r)) buffer) (write_after (unwritten x r) buffer)
  unwritten_sees x = record { runner = still r; wrote = refl; buffer = refl }

  module _ (k : Carriage) where
    sent_sees : Writes (sent k (calm r) store buffer) (sent k r store buffer)
    unfolding sent
    sent_sees = by k.left
      where
        by : (left : Bool) → (let s = λ (t : Runner). cond left (write_after (unwritten UntoldStatus t) buffer) (told k.laying (asked k.at t store buffer)) in Writes (s (calm r)) (s r))
        by true = unwritten_sees UntoldStatus
        by false = told_alike k.laying (asked k.at (calm r) store buffer) (asked k.at r store buffer) (asked_sees k.at)

    written_sees : (a : Result (Unit {0}) Refusal) → Writes (written a (sent k (calm r) store buffer) (calm r) buffer) (written a (sent k r store buffer) r buffer)
    unfolding written
    written_sees (Ok tt) = sent_sees
    written_sees (Err x) = unwritten_sees x

    write_sees : Writes (write k (calm r) store buffer) (write k r store buffer)
    unfolding write admitted stop in_range
    write_sees = written_sees (readied (admitted r (bytes_do r.limits store) k.carries k.own) (leb (room r.limits) (length buffer)))

  -- as records; whether the message is left is the same
  pub record_sees : (channel : ℕ) → Writes (Channel.write_record (calm r) channel store buffer) (Channel.write_record r channel store buffer)
  unfolding Channel.write_record
  record_sees channel =
      let k = Channel.carriage r channel store buffer in
      let by : Bool → Carriage = λ left. record { at = k.at; carries = k.carries; own = k.own; left = left; laying = k.laying } in
      subst⁻¹ (λ (left : Bool). Writes (write (by left) (calm r) store buffer) (write k r store buffer)) (ap is_left (asked_sees 13).said) (write_sees k)

  -- and as frames
  pub frames_see : (stream : ℕ) → Writes (Frames.write_frame (calm r) stream store buffer) (Frames.write_frame r stream store buffer)
  unfolding Frames.write_frame
  frames_see stream = write_sees (Frames.carriage r stream)

-- ---- an entry

wrote_alike : (x y : WriteAfter) (s : State) → Writes x y → Alike (on_runner x.writing.runner s) (answers x) (on_runner y.writing.runner s) (answers y)
wrote_alike x y s w = record { left = ap (λ (z : Runner). on_runner z s) w.runner; answered = rw (w.wrote, w.buffer) refl }

pub entry_sees : (e : Entry) (s : State) → Alike (next_entry (calm_s s) e) (answer_entry (calm_s s) e) (next_entry s e) (answer_entry s e)
unfolding next_entry answer_entry Channel.read_record Frames.read_frame admitted stop in_range
entry_sees (call c) s = call_sees c s
entry_sees (read_record now channel b) s =
    record_parsed (accepted (admitted s.runner (stores_do s.runner s.bytes s.lengths) (is_channel s.runner.limits) NotAChannel) (Codec.read channel b)) now b s
entry_sees (write_record channel buffer) s = wrote_alike _ (Channel.write_record s.runner channel s.bytes buffer) s (record_sees s.bytes buffer s.runner channel)
entry_sees (read_frame now stream b) s =
    frame_parsed (accepted (admitted s.runner (stores_do s.runner s.bytes s.lengths) (is_framed s.runner.limits stream) NotFramed) (Framing.read stream b)) now b s
entry_sees (write_frame stream buffer) s = wrote_alike _ (Frames.write_frame s.runner stream s.bytes buffer) s (frames_see s.bytes buffer s.runner stream)
