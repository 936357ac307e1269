-- So every call answers alike, whatever stands in the place of Notes where it is not open.
use Rattle.std.specs.Prelude.{ℕ, Bool, true, false, ◌≡◌, refl, List, ltb, length, Result, Ok, Err}
use Rattle.exec.specs.declared.Admission.{Admission}
use Rattle.exec.specs.declared.Admission.TheVariants.{Own}
use Rattle.exec.specs.declared.Cause.{Cause}
use Rattle.exec.specs.declared.Receipt.{Receipt}
use Rattle.exec.specs.declared.Refusal.{Refusal}
use Rattle.exec.specs.declared.Stream.{Stream}
use Rattle.exec.specs.Key.{admits}
use Rattle.exec.specs.Limits.{has, has_notes}
use Rattle.credit.specs.declared.sender.Credit.{Credit}
use Rattle.output.specs.declared.Output.{Output}
use Rattle.output.specs.Output.{closed_out, failed_out, hung_up, lost_out}
use Rattle.runner.specs.declared.runner.Runner.{Runner}
use Rattle.runner.specs.Calls as Calls
use Rattle.runner.specs.Calls.{calling, noting, stores_do, input_by, output_by, written_by, request_by, message_by}
use Rattle.runner.specs.Life.{close_runner_input, cancel_answer, launched_next, exited_next, settled_next, detach_next, ticked, deadline_of}
use Rattle.runner.specs.Message.{choose, wish}
use Rattle.runner.specs.MessageLaws.{names_open}
use Rattle.runner.specs.Range.{bytes_do, lengths_do, stop, stop_at}
use Rattle.runner.specs.RangeLaws.{goes_at}
use Rattle.runner.specs.State.{at}
use Rattle.runner.specs.Streams.{input_next, input_answer, input_store, input_lengths, received, end_answer, end_next, read_allowance_of, discarded_next, closed_next, failed_next, hung_up_next, pending_of, written_next, written_came, written_lengths}
use Rattle.unopened.specs.Alike.{kept, input_kept, output_kept, written_kept, message_kept, Alike}
use Rattle.unopened.proofs.Blind as Blind
use Rattle.unopened.proofs.Named.{wished}

module _ (o : Output) (c : Credit) (r : Runner) (h : has_notes r.limits ≡ false) where
  abbrev r′ : Runner
  r′ = Blind.other o c r

  abbrev like : Runner → Runner
  like = Blind.other o c

  met : (stores : Bool) → stop r′ stores ≡ stop r stores
  met stores = Blind.met_blind o c r stores h

  met_at : (x : Stream) (stores : Bool) → stop_at r′ x stores ≡ stop_at r x stores
  unfolding stop_at
  met_at x stores = rw (met stores) refl

  -- a call is refused alike; and where it is not, it leaves and answers what is alike. Of a change without an answer, of one of a stream, and
  -- of what the peer sends
  called : {T : Type 0} (m : Result (Unit {0}) Refusal) (a′ a : Result T Refusal) (n′ n : Runner) → (m ≡ Ok tt → (a′ ≡ a) × (n′ ≡ like n))
      → calling m a′ n′ r′ ≡ kept like (calling m a n r)
  called (Ok tt) a′ a n′ n e = let p = e refl in rw (p.0, p.1) refl
  called (Err z) a′ a n′ n e = refl

  noted : (f : Runner → Runner) → Blind.Blind o c f → noting (stop r′ true) (f r′) r′ ≡ kept like (noting (stop r true) (f r) r)
  noted f b = rw (met true) (called (stop r true) (Ok tt) (Ok tt) (f r′) (f r) (λ _. (refl, (b r h).0)))

  noted_at : (x : Stream) (f : Output → Output) → noting (stop_at r′ x true) (at x f r′) r′ ≡ kept like (noting (stop_at r x true) (at x f r) r)
  noted_at x f =
      rw (met_at x true) (called (stop_at r x true) (Ok tt) (Ok tt) (at x f r′) (at x f r) (λ e. (refl, Blind.at_blind o c r h x f (goes_at r x true e).0)))

  heard : (a′ a : Result Receipt Refusal) (n′ n : Runner) → a′ ≡ a → n′ ≡ like n → calling (stop r′ true) a′ n′ r′ ≡ kept like (calling (stop r true) a n r)
  heard a′ a n′ n e f = rw (met true) (called (stop r true) a′ a n′ n (λ _. (e, f)))

  -- ---- those that are lent stores

  input_alike : (m : Result (Unit {0}) Refusal) (a : Result Admission Refusal) (bytes store lengths : List ℕ)
      → input_by m a r′ bytes store lengths ≡ input_kept like (input_by m a r bytes store lengths)
  unfolding received input_next input_answer input_store input_lengths
  input_alike (Ok tt) (Ok Own) bytes store lengths = rw h refl
  input_alike (Ok tt) _ bytes store lengths = refl
  input_alike (Err z) a bytes store lengths = refl

  output_alike : (x : Stream) (bytes store : List ℕ) → (m : Result (Unit {0}) Refusal) → (m ≡ Ok tt → has r.limits x ≡ true)
      → output_by m r′ x bytes store ≡ output_kept like (output_by m r x bytes store)
  output_alike x bytes store (Ok tt) e = Blind.took_blind o c r h x bytes store (e refl)
  output_alike x bytes store (Err z) e = refl

  written_alike : (m : Result (Unit {0}) Refusal) (count : ℕ) (lengths : List ℕ) → written_by m r′ count lengths ≡ written_kept like (written_by m r count lengths)
  unfolding written_next written_came written_lengths
  written_alike (Ok tt) count lengths = refl
  written_alike (Err z) count lengths = refl

  request_alike : (m : Result (Unit {0}) Refusal) → request_by m r′ ≡ kept like (request_by m r)
  request_alike (Ok tt) = rw (Blind.wish_blind o c r h, Blind.handed_blind o c r h (wish r) (wished r)) refl
  request_alike (Err z) = refl

  message_alike : (m : Result (Unit {0}) Refusal) (store buffer : List ℕ) → message_by m r′ store buffer ≡ message_kept like (message_by m r store buffer)
  message_alike (Ok tt) store buffer =
      let m = choose r (length buffer) in
      rw (Blind.choose_blind o c r h (length buffer), Blind.effect_blind o c r h m (names_open r (length buffer) m refl), Blind.said_blind o c r h m, Blind.buffer_blind o c r h m store buffer) refl
  message_alike (Err z) store buffer = refl

  -- ---- answers

  ticks : (a : Result Admission Refusal) (now : ℕ) → cancel_answer a r′ now ≡ cancel_answer a r now
  unfolding cancel_answer
  ticks (Ok Own) now = rw (Blind.ticked_blind o c now r h).0 refl
  ticks _ now = refl

  ends : (a : Result Admission Refusal) → (end_answer a r′ ≡ end_answer a r) × (end_next a r′ ≡ like (end_next a r))
  unfolding end_answer end_next
  ends (Ok Own) = (refl, refl)
  ends _ = (refl, refl)

  allowed : (x : Stream) → read_allowance_of r′ x ≡ read_allowance_of r x
  unfolding read_allowance_of
  allowed x = rw h refl

  expected : deadline_of r′ ≡ deadline_of r
  unfolding deadline_of
  expected = rw h refl

  pub alike : Alike like r
  unfolding Calls.key Calls.limits Calls.credit Calls.input Calls.end_input Calls.cancel Calls.launched Calls.read_allowance Calls.output Calls.discarded Calls.output_closed Calls.output_failed Calls.output_hung_up Calls.pending_input Calls.input_written Calls.input_closed Calls.exited Calls.settled Calls.dropped Calls.reset Calls.disconnect Calls.tick Calls.deadline Calls.next_request Calls.next_message Calls.is_finished Calls.is_detached Calls.awaits_settlement Calls.memory_bound Calls.buffered Calls.high_water discarded_next closed_next failed_next hung_up_next pending_of
  alike = record {
    key = rw (met true) refl;
    limits = rw (met true) refl;
    credit = λ k p units. heard _ _ _ _ (Blind.credit_answer_blind o c r h p units (admits r.key k)) (Blind.credit_blind o c r h p units (admits r.key k));
    input = λ k bytes store lengths. rw (met (stores_do r store lengths)) (input_alike (stop r (stores_do r store lengths)) (admits r.key k) bytes store lengths);
    end_input = λ k. heard _ _ _ _ (ends (admits r.key k)).0 (ends (admits r.key k)).1;
    cancel = λ now k cause. heard _ _ _ _ (ticks (admits r.key k) now) (Blind.cancelled_blind o c (admits r.key k) now cause r h).0;
    launched = λ x. noted (λ r. launched_next r x) (Blind.launched_blind o c x);
    read_allowance = λ x. rw (met_at x true, allowed x) refl;
    output = λ x bytes store. rw (met_at x (bytes_do r.limits store)) (output_alike x bytes store (stop_at r x (bytes_do r.limits store)) (λ e. (goes_at r x (bytes_do r.limits store) e).0));
    discarded = λ x n. noted_at x (lost_out (ltb 0 n));
    output_closed = λ x. noted_at x closed_out;
    output_failed = λ x. noted_at x failed_out;
    output_hung_up = λ x. noted_at x hung_up;
    pending_input = λ store. rw (met (bytes_do r.limits store)) refl;
    input_written = λ count lengths. rw (met (lengths_do r.limits lengths)) (written_alike (stop r (lengths_do r.limits lengths)) count lengths);
    input_closed = noted close_runner_input (Blind.close_blind o c);
    exited = λ now status. noted (λ r. exited_next r now status) (Blind.exited_blind o c now status);
    settled = λ s. noted (λ r. settled_next r s) (Blind.settled_blind o c s);
    dropped = λ now. noted (λ r. detach_next r now Cause.Dropped) (Blind.detached_blind o c now Cause.Dropped);
    reset = λ now. noted (λ r. detach_next r now Cause.Reset) (Blind.detached_blind o c now Cause.Reset);
    disconnect = λ now. noted (λ r. detach_next r now Cause.Disconnected) (Blind.detached_blind o c now Cause.Disconnected);
    tick = λ now. noted (λ r. ticked r now) (Blind.ticked_blind o c now);
    deadline = rw (met true, expected) refl;
    next_request = rw (met true) (request_alike (stop r true));
    next_message = λ store buffer. rw (met (bytes_do r.limits store)) (message_alike (stop r (bytes_do r.limits store)) store buffer);
    is_finished = rw (met true) refl;
    is_detached = rw (met true) refl;
    awaits_settlement = rw (met true) refl;
    memory_bound = rw (met true) refl;
    buffered = rw (met true, h) refl;
    high_water = rw (met true) refl;
  }
