-- One call, by what it does to the input: the frames that it comes to and those that it leaves are no more than those that waited,
-- those brought, and one; a closed input holds no byte; and the frames that wait in the length store are those that calls and answers
-- tell, as long as the input is open.
use Rattle.std.specs.Prelude.{◌≡◌, refl, Bool, true, false, cond, ◌||◌, List, [], ◌∷◌, ◌++◌, ℕ, ◌+◌, ◌≤◌, min, length, Option, Result, Some, Ok, Err}
use Rattle.std.proofs.Common.{sym, ap, ◌∙◌, arith}
use Rattle.std.proofs.lemmas.Bool.{false≢true}
use Rattle.std.proofs.lemmas.Bool.Decides.{nat_tests}
use Rattle.exec.specs.declared.Admission.TheVariants.{Own}
use Rattle.exec.specs.declared.Admission.{Admission}
use Rattle.exec.specs.declared.Cause.TheVariants.{Dropped, Reset, Disconnected}
use Rattle.exec.specs.declared.Limits.{Limits}
use Rattle.exec.specs.declared.Receipt.{Receipt}
use Rattle.exec.specs.declared.Refusal.{Refusal}
use Rattle.exec.specs.declared.Unit as Units
use Rattle.exec.specs.declared.Unit.TheVariants.{Bytes, Frames}
use Rattle.exec.specs.Key.{admits}
use Rattle.exec.specs.Limits.{cost, off_chunk}
use Rattle.ring.specs.Frames.{came_of, rest_of, sum}
use Rattle.ring.specs.FrameLaws.{pop_came, pop_rest, push_read}
use Rattle.inbox.specs.Inbox.{freed_by, came_by, frames_popped, frames_pushed, first_after, lengths_popped, lengths_pushed, pop_lengths}
use Rattle.input.specs.declared.Input.{Input}
use Rattle.input.specs.Input as In
use Rattle.input.specs.Input.{receive_answer, receive_input, receive_lengths, is_receipt, off_window, close_when_taken, is_used_up, peer_ends, pop_in, end_input, written_input, written_lengths, written_came}
use Rattle.choice.specs.declared.Choice.{Choice}
use Rattle.runner.specs.declared.answer.Request.{Request}
use Rattle.runner.specs.declared.runner.Runner.{Runner}
use Rattle.runner.specs.Calls.{asked_for}
use Rattle.runner.specs.Life.{settled_next}
use Rattle.runner.specs.Message.{choose, effect, output_sent, output_paid, wish, wish_effect}
use Rattle.runner.specs.Streams as Streams
use Rattle.runner.specs.Streams.{output_next, discarded_next, closed_next, failed_next, hung_up_next, credit_next, input_answer, input_next, input_lengths, end_next, written_next}
use Rattle.calls.specs.Call as Call
use Rattle.calls.specs.Call.{Call, Answer}
use Rattle.account.specs.Step.{State, received_as, asks}
use Rattle.account.specs.InputClaim.{is_applied}
use Rattle.account.proofs.Plain.{said, next, answer, of_open, by_open}
use Rattle.account.proofs.InputRange.{waiting, HeldIn, paid}
use Rattle.account.proofs.InputMoves.{Moves, same, shut, close, ticks, launches, exits, detaches, cancels}
use Rattle.budget.specs.BudgetClaim.{told_of, frame_of, left_by}
use Rattle.budget.proofs.Writes.{written}

-- a closed input holds no byte
abbrev pub Emptied : Input → Type 0
Emptied i = i.closed ≡ true → i.inbox.length ≡ 0

-- the frames that wait
abbrev pub frames_in : Limits → List ℕ → Input → List ℕ
frames_in l lengths i = waiting lengths l.input.size i.inbox.first i.inbox.frames

-- from the input i to i': it is told to come to `told` frames, with `brought` brought; and then gs wait, where i' is open
pub record Goes (l : Limits) (lengths : List ℕ) (i : Input) (lengths' : List ℕ) (i' : Input) (told brought : ℕ) (gs : List ℕ) : Type 0 where
  pub most : told ≤ i.inbox.frames
  pub left : told + i'.inbox.frames ≤ i.inbox.frames + brought + min told 1
  pub emptied : Emptied i → Emptied i'
  pub was : i'.closed ≡ false → i.closed ≡ false
  pub wait : HeldIn l.input.unit l lengths i → i'.closed ≡ false → l.input.unit ≡ Frames → frames_in l lengths' i' ≡ gs

module _ (l : Limits) (lengths : List ℕ) (i : Input) where
  -- nothing is told or brought
  abbrev Rests : Input → Type 0
  Rests i' = Goes l lengths i lengths i' 0 0 (frames_in l lengths i)

  kept : (i' : Input) → i'.inbox ≡ i.inbox → i'.closed ≡ i.closed → Rests i'
  kept i' b c = record { most = omega arith; left = rw b (omega arith); emptied = λ h e. rw b (h (sym c ∙ e)); was = λ z. sym c ∙ z; wait = λ h z u. rw b refl }

  moved : (i' : Input) → Moves i i' → Rests i'
  moved i' (same w b c) = kept i' b c
  moved i' (shut w b o c) = record {
    most = omega arith;
    left = rw b (omega arith);
    emptied = λ h e. rw b refl;
    was = λ z. absurd (false≢true (sym z ∙ c));
    wait = λ h z u. absurd (false≢true (sym z ∙ c));
  }

  -- answered by no number of frames
  quiet : (i' : Input) (told : ℕ) → told ≡ 0 → Rests i' → Goes l lengths i lengths i' told 0 (frames_in l lengths i)
  quiet i' told e g = rw e g

received_none : (x : Result Receipt Refusal) → told_of (received_as x) ≡ 0
received_none (Ok Receipt.Applied) = refl
received_none (Ok Receipt.Stale) = refl
received_none (Ok Receipt.Late) = refl
received_none (Err x) = refl

-- ---- bytes from the peer

one_more : (u : Units.Unit) (frames : ℕ) → frames_pushed u frames ≤ frames + 1
one_more Bytes frames = omega arith
one_more Frames frames = omega arith

pushed_by : (u : Units.Unit) (l : Limits) (lengths : List ℕ) (i : Input) (n : ℕ) → HeldIn u l lengths i → cost u n ≤ i.window.open → u ≡ Frames
    → waiting (lengths_pushed u l.input.size n i.inbox lengths) l.input.size i.inbox.first (frames_pushed u i.inbox.frames) ≡ frames_in l lengths i ++ (n ∷ [])
unfolding cost
pushed_by Bytes l lengths i n h k u = cc
pushed_by Frames l lengths i n h k u =
    push_read l.input.size i.inbox.first i.inbox.frames n lengths h.4 (omega (arith, h.3)) (omega (arith, h.0, k))

-- a closed input keeps none
closed_late : (l : Limits) (i : Input) (n : ℕ) → i.closed ≡ true → In.is_applied (receive_answer l i n) ≡ false
unfolding receive_answer
closed_late l i n e = rw e (by i.peer_ended (off_chunk l n) (off_window l i n))
  where
    by : (over off unpaid : Bool) → In.is_applied (cond over (Err Refusal.Ended) (cond off (Err Refusal.Chunk) (cond unpaid (Err Refusal.Window) (Ok Receipt.Late)))) ≡ false
    by true off unpaid = refl
    by false true unpaid = refl
    by false false true = refl
    by false false false = refl

-- a message that is applied brings a frame
abbrev Brings : (l : Limits) (lengths : List ℕ) (i : Input) (lengths' : List ℕ) (i' : Input) (n : ℕ) → Result Receipt Refusal → Type 0
Brings l lengths i lengths' i' n x =
    Goes l lengths i lengths' i' (told_of (received_as x)) (cond (is_applied (received_as x)) 1 0)
    (cond (is_applied (received_as x)) (frames_in l lengths i ++ (n ∷ [])) (frames_in l lengths i))

receive_goes : (l : Limits) (lengths : List ℕ) (i : Input) (n : ℕ) (x : Result Receipt Refusal) → receive_answer l i n ≡ x
    → Brings l lengths i (receive_lengths l i n lengths) (receive_input l i n) n x
unfolding receive_input receive_lengths
receive_goes l lengths i n (Ok Receipt.Applied) e =
    let k = (paid l i n (ap is_receipt e)).enough in
    rw e (record {
      most = omega arith;
      left = omega (arith, one_more l.input.unit i.inbox.frames);
      emptied = λ h c. absurd (false≢true (sym (closed_late l i n c) ∙ ap In.is_applied e));
      was = λ z. z;
      wait = λ h z u. pushed_by l.input.unit l lengths i n h k u;
    })
receive_goes l lengths i n (Ok Receipt.Stale) e = rw e (kept l lengths i _ refl refl)
receive_goes l lengths i n (Ok Receipt.Late) e = rw e (kept l lengths i _ refl refl)
receive_goes l lengths i n (Err x) e = rw e (kept l lengths i _ refl refl)

input_goes : (a : Result Admission Refusal) (r : Runner) (lengths : List ℕ) (n : ℕ) (f : Bool) → r.flags.finished ≡ f
    → Brings r.limits lengths r.input (input_lengths a r n lengths) (input_next a r n).input n (input_answer a r n)
unfolding input_next input_answer input_lengths
input_goes (Ok Own) r lengths n true e = rw e (kept r.limits lengths r.input r.input refl refl)
input_goes (Ok Own) r lengths n false e = rw e (receive_goes r.limits lengths r.input n (receive_answer r.limits r.input n) refl)
input_goes _ r lengths n f e = kept r.limits lengths r.input r.input refl refl

-- ---- closing once all is taken

open_before : (used closed : Bool) → (used || closed) ≡ false → closed ≡ false
open_before true closed z = absurd (false≢true (sym z))
open_before false closed z = z

-- it is closed empty
used_empty : (i : Input) (u : Bool) → is_used_up i ≡ u → Emptied i → Emptied (close_when_taken i)
used_empty i true e h = λ c. grind (arith, nat_tests, e)
used_empty i false e h = rw e h

ended_if : (l : Limits) (lengths : List ℕ) (i : Input) (b : Bool) → Rests l lengths i (cond b i (close_when_taken (peer_ends i)))
ended_if l lengths i true = kept l lengths i i refl refl
ended_if l lengths i false = record {
  most = omega arith;
  left = omega arith;
  emptied = λ h. used_empty (peer_ends i) (is_used_up (peer_ends i)) refl h;
  was = λ z. open_before (is_used_up (peer_ends i)) i.closed z;
  wait = λ h z u. refl;
}

end_goes : (a : Result Admission Refusal) (r : Runner) (lengths : List ℕ) (f : Bool) → r.flags.finished ≡ f → Rests r.limits lengths r.input (end_next a r).input
unfolding end_next end_input
end_goes (Ok Own) r lengths true e = rw e (kept r.limits lengths r.input r.input refl refl)
end_goes (Ok Own) r lengths false e = rw e (ended_if r.limits lengths r.input r.input.peer_ended)
end_goes _ r lengths f e = kept r.limits lengths r.input r.input refl refl

-- ---- bytes to the workload

module _ (l : Limits) (lengths : List ℕ) (i : Input) (n : ℕ) where
  abbrev fs : List ℕ
  fs = frames_in l lengths i

  -- what a pop leaves, and comes to
  popped_by : (u : Units.Unit) → HeldIn u l lengths i → u ≡ Frames → let k = min n i.inbox.length in
      (waiting (lengths_popped u l.input.size k i.inbox lengths) l.input.size (first_after u l.input.size (freed_by u l.input.size k i.inbox lengths) i.inbox)
      (frames_popped u (freed_by u l.input.size k i.inbox lengths) i.inbox.frames) ≡ rest_of fs (min n (sum fs)))
      × (came_by u l.input.size k i.inbox lengths ≡ came_of fs (min n (sum fs)))
  popped_by Bytes h u = cc
  popped_by Frames h u =
      let k = min n i.inbox.length in
      let size = l.input.size in let first = i.inbox.first in let frames = i.inbox.frames in
      let rest = pop_rest frames size first k lengths h.4 (omega (arith, h.3)) (omega (arith, h.0)) in
      let came = pop_came frames size first k lengths h.4 (omega (arith, h.3)) (omega (arith, h.0)) in
      (rest ∙ ap (λ (x : ℕ). rest_of fs (min n x)) h.1, came ∙ ap (λ (x : ℕ). came_of fs (min n x)) h.1)

  -- what is closed behind it, and what waits
  record Behind (lengths' : List ℕ) (i' : Input) : Type 0 where
    emptied : Emptied i → Emptied i'
    was : i'.closed ≡ false → i.closed ≡ false
    wait : HeldIn l.input.unit l lengths i → i'.closed ≡ false → l.input.unit ≡ Frames → frames_in l lengths' i' ≡ rest_of fs (min n (sum fs))

  behind : (c : Bool) → i.closed ≡ c → Behind (cond c lengths (pop_lengths l i.inbox n lengths)) (cond c i (close_when_taken (pop_in l n lengths i)))
  behind true e = record { emptied = λ h. h; was = λ z. z; wait = λ h z u. absurd (false≢true (sym z ∙ e)) }
  behind false e =
      let p = pop_in l n lengths i in record {
        emptied = λ h. used_empty p (is_used_up p) refl (λ z. absurd (false≢true (sym e ∙ z)));
        was = λ z. e;
        wait = λ h z u. (popped_by l.input.unit h u).0;
      }

  written_goes : Goes l lengths i (written_lengths l i n lengths) (written_input l i n lengths) (written_came l i n lengths) 0 (rest_of fs (min n (sum fs)))
  unfolding written_input written_lengths
  written_goes =
      let w = written l i n lengths in
      let b = behind i.closed refl in
      record { most = w.write.frames; left = omega (arith, w.left); emptied = b.emptied; was = b.was; wait = b.wait }

  -- the number of an open input in frames
  pub written_exactly : HeldIn l.input.unit l lengths i → l.input.unit ≡ Frames → i.closed ≡ false → written_came l i n lengths ≡ came_of fs (min n (sum fs))
  unfolding written_came
  written_exactly h u e = rw e (popped_by l.input.unit h u).1

-- ---- messages and requests

said_goes : (c : Choice) (r : Runner) (bytes lengths : List ℕ) → Goes r.limits lengths r.input lengths (effect c r).input (told_of (said c r bytes)) 0 (frames_in r.limits lengths r.input)
unfolding effect output_sent output_paid said
said_goes (Choice.End x) r bytes lengths = kept r.limits lengths r.input _ refl refl
said_goes _ r bytes lengths = kept r.limits lengths r.input _ refl refl

asked_goes : (w : Option Request) (r : Runner) (lengths : List ℕ)
    → Goes r.limits lengths r.input lengths (wish_effect w r).input (told_of (asks (asked_for w))) 0 (frames_in r.limits lengths r.input)
unfolding wish_effect
asked_goes (Some (Request.Terminate c)) r lengths = kept r.limits lengths r.input _ refl refl
asked_goes _ r lengths = kept r.limits lengths r.input _ refl refl

-- ---- a call

-- a call that leaves the state t and answers a
abbrev GoesTo : Call → (s t : State) → Answer → Type 0
GoesTo c s t a =
    Goes s.runner.limits s.lengths s.runner.input t.lengths t.runner.input (told_of a) (frame_of c a) (left_by c a (frames_in s.runner.limits s.lengths s.runner.input))

-- the input as it was
stays : (s : State) → Goes s.runner.limits s.lengths s.runner.input s.lengths s.runner.input 0 0 (frames_in s.runner.limits s.lengths s.runner.input)
stays s = kept s.runner.limits s.lengths s.runner.input _ refl refl

pub goes : (c : Call) (s : State) → GoesTo c s (next s c) (answer s c)
unfolding next answer credit_next output_next discarded_next closed_next failed_next hung_up_next settled_next written_next Streams.written_came Streams.written_lengths
goes (Call.credit k p u) s = quiet s.runner.limits s.lengths s.runner.input _ _ (received_none _) (kept s.runner.limits s.lengths s.runner.input _ refl refl)
goes (Call.input k b) s = input_goes (admits s.runner.key k) s.runner s.lengths (length b) s.runner.flags.finished refl
goes (Call.end_input k) s = quiet s.runner.limits s.lengths s.runner.input _ _ (received_none _) (end_goes (admits s.runner.key k) s.runner s.lengths s.runner.flags.finished refl)
goes (Call.cancel now k c) s = quiet s.runner.limits s.lengths s.runner.input _ _ (received_none _) (moved s.runner.limits s.lengths s.runner.input _ (cancels (admits s.runner.key k) s.runner now c))
goes (Call.launched x) s = moved s.runner.limits s.lengths s.runner.input _ (launches s.runner x)
goes (Call.input_written n) s = written_goes s.runner.limits s.lengths s.runner.input n
goes Call.input_closed s = moved s.runner.limits s.lengths s.runner.input _ (close s.runner)
goes (Call.exited now x) s = moved s.runner.limits s.lengths s.runner.input _ (exits s.runner now x)
goes (Call.dropped now) s = moved s.runner.limits s.lengths s.runner.input _ (detaches s.runner now Dropped)
goes (Call.reset now) s = moved s.runner.limits s.lengths s.runner.input _ (detaches s.runner now Reset)
goes (Call.disconnect now) s = moved s.runner.limits s.lengths s.runner.input _ (detaches s.runner now Disconnected)
goes (Call.tick now) s = moved s.runner.limits s.lengths s.runner.input _ (ticks s.runner now)
goes Call.next_request s = asked_goes (wish s.runner) s.runner s.lengths
goes (Call.next_message buffer) s = said_goes (choose s.runner (length buffer)) s.runner s.bytes s.lengths
goes (Call.read_allowance x) s = of_open (λ (a : Answer). GoesTo (Call.read_allowance x) s s a) s x (Call.Value _) (stays s) (stays s)
goes (Call.output x b) s = by_open (GoesTo (Call.output x b) s) s _ x (Call.Taken _) (λ o. stays s) (stays s)
goes (Call.discarded x n) s = by_open (GoesTo (Call.discarded x n) s) s _ x Call.Ok (λ o. stays s) (stays s)
goes (Call.output_closed x) s = by_open (GoesTo (Call.output_closed x) s) s _ x Call.Ok (λ o. stays s) (stays s)
goes (Call.output_failed x) s = by_open (GoesTo (Call.output_failed x) s) s _ x Call.Ok (λ o. stays s) (stays s)
goes (Call.output_hung_up x) s = by_open (GoesTo (Call.output_hung_up x) s) s _ x Call.Ok (λ o. stays s) (stays s)
goes _ s = kept s.runner.limits s.lengths s.runner.input _ refl refl
