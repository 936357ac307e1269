-- The workload's input is a queue: what a call hands over comes off the front of the inbox, what it brings goes behind it, and an
-- inbox that is cleared belongs to an input that is closed from then on.
use Rattle.std.specs.Prelude.{Option, Result, Some, Ok}
use Rattle.exec.specs.declared.Admission.TheVariants.{Own}
use Rattle.exec.specs.declared.Admission.{Admission}
use Rattle.runner.specs.declared.answer.Request.{Request}
use Rattle.exec.specs.declared.Receipt.{Receipt}
use Rattle.exec.specs.declared.Refusal.{Refusal}
use mathlib.Core.Bool.{Bool, true, false, cond, ◌&&◌, ◌||◌, false≢true, or-true}
use mathlib.Core.Path.{◌≡◌, refl, sym, ap, ◌∙◌, subst, subst⁻¹}
use mathlib.Core.List.{List, [], ◌∷◌, ◌++◌, append_assoc, append-nil}
use mathlib.Core.Logic.{inr}
use Prim.Native.Nat.{ℕ, ◌+◌, ◌≤◌, ◌<◌, min}
use native.Mathlib.Omega.{arith}
use lib.Dec.{leb}
use lib.ListN.{length, drop, take-append-drop}
use Rattle.exec.specs.declared.Cause.TheVariants.{Dropped, Reset, Disconnected}
use Rattle.exec.specs.declared.Limits.{Limits}
use Rattle.exec.specs.declared.Stream.{Stream}
use Rattle.exec.specs.Key.{admits}
use Rattle.exec.specs.Limits.{input_bytes as inbox_size, has}
use Rattle.ring.specs.Ring.{first_run}
use Rattle.ring.specs.RingLaws.{write_read, write_other, read_none, pending_front}
use Rattle.inbox.specs.Inbox as Inbox
use Rattle.inbox.specs.Inbox.{inbox_base}
use Rattle.inbox.specs.Range.{inbox_fits}
use Rattle.inbox.specs.RangeLaws as Fits
use Rattle.input.specs.declared.Input.{Input}
use Rattle.input.specs.Input as In
use Rattle.input.specs.Input.{pending_input, receive_answer, is_kept, receive_input, receive_bytes, close_when_taken, is_used_up, peer_ends, pop_in, end_input, written_input}
use Rattle.output.specs.Output.{keeps as keeps_of, keeps_fit}
use Rattle.output.specs.Outputs.{outputs_fit}
use Rattle.choice.specs.declared.Choice.{Choice}
use Rattle.runner.specs.declared.runner.Runner.{Runner}
use Rattle.runner.specs.Life.{close_runner_input, ticked, cancel_next, launched_next, exited_next, settled_next, detach_next}
use Rattle.runner.specs.Message.{choose, effect, output_sent, output_paid, wish, wish_effect}
use Rattle.runner.specs.Range.{in_range, fresh, last_turn}
use Rattle.runner.specs.State.{out_of, base, credits_fit, outputs_of}
use Rattle.runner.specs.Streams.{pending_of, is_shut, room, output_next, output_store, discarded_next, closed_next, failed_next, hung_up_next, credit_next, input_answer, input_next, input_store, end_next, written_next}
use Rattle.calls.specs.Call as Call
use Rattle.calls.specs.Call.{Conf, Call, Answer}
use Rattle.account.specs.Claim.{Opens, IsPrefix}
use Rattle.account.specs.Step as Step
use Rattle.account.specs.Step.{State, received_as}
use Rattle.account.specs.Records.{Entry, after_entries, run_entries, calls_of}
use Rattle.account.specs.InputClaim.{is_applied, front, handed_by, handed, brought_by, brought, handed_in, brought_in, InputFifo}
use Rattle.account.proofs.Plain.{next, answer, begun}
use Rattle.account.proofs.Rings.{ring_split}
use Rattle.account.proofs.Streams.{keeps_less}
use Rattle.account.proofs.Sides.{base_behind, placed}
use Rattle.account.proofs.Range.{in_range_lem}
use Rattle.account.proofs.Finish.{framed, framed_conf}
use Rattle.account.proofs.EachCall.{kept_room}
use Rattle.account.proofs.Demand.{Fine, fine_next, next_same, answer_same, fine_open, open_same, same_after, same_answer, lent_open}
use Rattle.account.proofs.Records.{same_dones, good_open, to_calls}
use Rattle.account.proofs.InputMoves.{Moves, same, shut, close, ticks, launches, exits, detaches, cancels}
use Rattle.ring.specs.Flags.{and_l, and_r}
use lib.Seq.{take-length}

-- ---- what flows through the inbox

-- the bytes that wait
abbrev queue : Limits → Input → List ℕ → List ℕ
queue l i st = front l i st i.inbox.length

-- given comes off the front and got goes behind, and a closed input stays closed and gives nothing; or the input is closed
data Flow (l : Limits) (i i' : Input) (st st' given got : List ℕ) : Type 0 where
  on : queue l i st ++ got ≡ given ++ queue l i' st' → (i.closed ≡ true → (i'.closed ≡ true) × (given ≡ [])) → Flow l i i' st st' given got
  ends : given ≡ [] → i'.closed ≡ true → Flow l i i' st st' given got

still : (l : Limits) (i : Input) (st : List ℕ) → Flow l i i st st [] []
still l i st = on (append-nil (queue l i st)) (λ e. (e, refl))

kept : (l : Limits) (i i' : Input) (st : List ℕ) → i'.inbox ≡ i.inbox → i'.closed ≡ i.closed → Flow l i i' st st [] []
kept l i i' st a b = on (rw a (append-nil (queue l i st))) (λ e. (b ∙ e, refl))

flow_moves : (l : Limits) (i i' : Input) (st : List ℕ) → Moves i i' → Flow l i i' st st [] []
flow_moves l i i' st (same w a b) = kept l i i' st a b
flow_moves l i i' st (shut w a o b) = ends refl b

-- the inbox's ring within the store
record Within (l : Limits) (i : Input) (st : List ℕ) : Type 0 where
  area : inbox_base l + inbox_size l ≤ length st
  begins : i.inbox.start < inbox_size l
  most : i.inbox.length ≤ inbox_size l

within : (s : State) → Fine s → Within s.runner.limits s.runner.input s.bytes
unfolding in_range
within s h =
    let r : Runner = s.runner in
    let o : Bool = outputs_fit r.limits.chunk (outputs_of r) && credits_fit r.limits r.credits in
    let i : Bool = inbox_fits r.limits r.input.window r.input.inbox in
    let f : i ≡ true = and_r o i (and_l (o && i) (leb r.turn (last_turn r.limits)) (in_range_lem s.lengths r h.sound.ranged)) in
    record { area = h.sound.roomy; begins = h.sound.ranged.2.1; most = (Fits.in_range_lem r.limits r.input.window r.input.inbox f).most }

-- ---- bytes from the peer

applied_is : (x : Result Receipt Refusal) → is_applied (received_as x) ≡ In.is_applied x
applied_is (Ok Receipt.Applied) = refl
applied_is _ = refl

receive_flow : (l : Limits) (i : Input) (b st : List ℕ) (k : Bool) → is_kept l i (length b) ≡ k → Within l i st
    → (k ≡ true → i.inbox.length + length b ≤ inbox_size l)
    → Flow l i (receive_input l i (length b)) st (receive_bytes l i b st) [] (cond k b [])
unfolding receive_input receive_bytes
receive_flow l i b st false e w m = rw e (on (append-nil (queue l i st)) (λ c. (c, refl)))
receive_flow l i b st true e w m =
    let a = w.area in let s = w.begins in
    let z = write_read (inbox_base l) (inbox_size l) i.inbox.start i.inbox.length b (length b) st a (omega arith) (omega arith) (m refl) in
    rw e (on (sym (z ∙ ap (λ (x : List ℕ). queue l i st ++ x) (take-length b))) (λ c. (c, refl)))

input_flow : (a : Result Admission Refusal) (s : State) (b : List ℕ) (f : Bool) → s.runner.flags.finished ≡ f → Fine s
    → Flow s.runner.limits s.runner.input (input_next a s.runner (length b)).input s.bytes (input_store a s.runner b s.bytes) []
    (cond (is_applied (received_as (input_answer a s.runner (length b)))) b [])
unfolding input_next input_store input_answer
input_flow (Ok Own) s b true e h = rw e (still s.runner.limits s.runner.input s.bytes)
input_flow (Ok Own) s b false e h =
    let l = s.runner.limits in let i = s.runner.input in
    rw (e, applied_is (receive_answer l i (length b))) (receive_flow l i b s.bytes (is_kept l i (length b)) refl (within s h) (kept_room b s h.sound.ranged))
input_flow _ s b f e h = still s.runner.limits s.runner.input s.bytes

-- ---- bytes to the workload

written_if : (l : Limits) (i : Input) (st lengths : List ℕ) (n : ℕ) (c : Bool) → i.closed ≡ c → Within l i st
    → Flow l i (cond c i (close_when_taken (pop_in l n lengths i))) st st (cond c [] (front l i st (min n i.inbox.length))) []
written_if l i st lengths n true e w = on (append-nil (queue l i st)) (λ c. (c, refl))
written_if l i st lengths n false e w =
    let z = ring_split st (inbox_base l) (inbox_size l) i.inbox.start i.inbox.length (min n i.inbox.length) w.area w.begins w.most (omega arith) in
    on (append-nil (queue l i st) ∙ z) (λ c. absurd (false≢true (sym e ∙ c)))

written_flow : (l : Limits) (i : Input) (st lengths : List ℕ) (n : ℕ) → Within l i st
    → Flow l i (written_input l i n lengths) st st (cond i.closed [] (front l i st (min n i.inbox.length))) []
unfolding written_input
written_flow l i st lengths n w = written_if l i st lengths n i.closed refl w

ended_if : (l : Limits) (i : Input) (st : List ℕ) (b : Bool) → Flow l i (cond b i (close_when_taken (peer_ends i))) st st [] []
ended_if l i st true = still l i st
ended_if l i st false = on (append-nil (queue l i st)) (λ e. (ap (λ (x : Bool). is_used_up (peer_ends i) || x) e ∙ or-true (is_used_up (peer_ends i)), refl))

ended_flow : (l : Limits) (i : Input) (st : List ℕ) → Flow l i (end_input i) st st [] []
unfolding end_input
ended_flow l i st = ended_if l i st i.peer_ended

end_flow : (a : Result Admission Refusal) (r : Runner) (st : List ℕ) (f : Bool) → r.flags.finished ≡ f → Flow r.limits r.input (end_next a r).input st st [] []
unfolding end_next
end_flow (Ok Own) r st true e = rw e (still r.limits r.input st)
end_flow (Ok Own) r st false e = rw e (ended_flow r.limits r.input st)
end_flow _ r st f e = still r.limits r.input st

-- ---- the output's rings are apart from the inbox's

output_flow : (x : Stream) (b : List ℕ) (s : State) → has s.runner.limits x ≡ true → Fine s
    → Flow s.runner.limits s.runner.input s.runner.input s.bytes (output_store s.runner x b s.bytes) [] []
unfolding output_store
output_flow x b s o h =
    let r = s.runner in let c : ℕ = r.limits.chunk in let w = within s h in
    let k : ℕ = keeps_of (is_shut x r) (out_of x r).discarding (room x r) (length b) in
    let few = keeps_less (is_shut x r) (out_of x r).discarding (room x r) (length b) in
    let kr = keeps_fit (is_shut x r) (out_of x r).discarding (room x r) (length b) in
    let i = (h.sound.ranged.0 x).inside in let m = (h.sound.ranged.0 x).within in let a = w.area in let g = w.begins in
    let d : base x c + c ≤ inbox_base r.limits = subst (λ (q : ℕ). q + c ≤ inbox_base r.limits) (placed r.limits x o) (base_behind r.limits x) in
    let z = write_other (base x c) c (out_of x r).start (out_of x r).queued b k s.bytes (omega arith) (omega arith) few (omega arith)
    (inbox_base r.limits) (inbox_size r.limits) r.input.inbox.start r.input.inbox.length a (omega arith) w.most (inr d) in
    on (append-nil (queue r.limits r.input s.bytes) ∙ sym z) (λ e. (e, refl))

-- ---- messages and requests

said_flow : (c : Choice) (r : Runner) (st : List ℕ) → Flow r.limits r.input (effect c r).input st st [] []
unfolding effect output_sent output_paid
said_flow (Choice.End x) r st = kept r.limits r.input _ st refl refl
said_flow _ r st = kept r.limits r.input _ st refl refl

asked_flow : (w : Option Request) (r : Runner) (st : List ℕ) → Flow r.limits r.input (wish_effect w r).input st st [] []
unfolding wish_effect
asked_flow (Some (Request.Terminate c)) r st = kept r.limits r.input _ st refl refl
asked_flow _ r st = kept r.limits r.input _ st refl refl

-- ---- a call, and a list of calls

moved : (s : State) (r' : Runner) → Moves s.runner.input r'.input → Flow s.runner.limits s.runner.input r'.input s.bytes s.bytes [] []
moved s r' m = flow_moves s.runner.limits s.runner.input r'.input s.bytes m

-- a call that names a stream brings and hands over nothing; where that is not open, nothing changes
named : (s t : State) (x : Stream) → (has s.runner.limits x ≡ true → Flow s.runner.limits s.runner.input t.runner.input s.bytes t.bytes [] [])
    → (let u = cond (has s.runner.limits x) t s in Flow s.runner.limits s.runner.input u.runner.input s.bytes u.bytes [] [])
named s t x k = by (has s.runner.limits x) k
  where
    by : (b : Bool) → (b ≡ true → Flow s.runner.limits s.runner.input t.runner.input s.bytes t.bytes [] [])
        → (let u = cond b t s in Flow s.runner.limits s.runner.input u.runner.input s.bytes u.bytes [] [])
    by true k = k refl
    by false k = still s.runner.limits s.runner.input s.bytes

flow_step : (c : Call) (s : State) → Fine s
    → Flow s.runner.limits s.runner.input (next s c).runner.input s.bytes (next s c).bytes (handed_by s c) (brought_by c (answer s c))
unfolding handed_by brought_by next answer credit_next output_next discarded_next closed_next failed_next hung_up_next settled_next written_next
flow_step (Call.input k b) s h = input_flow (admits s.runner.key k) s b s.runner.flags.finished refl h
flow_step (Call.end_input k) s h = end_flow (admits s.runner.key k) s.runner s.bytes s.runner.flags.finished refl
flow_step (Call.cancel now k c) s h = moved s (cancel_next (admits s.runner.key k) s.runner now c) (cancels (admits s.runner.key k) s.runner now c)
flow_step (Call.launched x) s h = moved s (launched_next s.runner x) (launches s.runner x)
flow_step (Call.output x b) s h = named s _ x (λ o. output_flow x b s o h)
flow_step (Call.discarded x n) s h = named s _ x (λ o. kept s.runner.limits s.runner.input _ s.bytes refl refl)
flow_step (Call.output_closed x) s h = named s _ x (λ o. kept s.runner.limits s.runner.input _ s.bytes refl refl)
flow_step (Call.output_failed x) s h = named s _ x (λ o. kept s.runner.limits s.runner.input _ s.bytes refl refl)
flow_step (Call.output_hung_up x) s h = named s _ x (λ o. kept s.runner.limits s.runner.input _ s.bytes refl refl)
flow_step (Call.input_written n) s h = written_flow s.runner.limits s.runner.input s.bytes s.lengths n (within s h)
flow_step Call.input_closed s h = moved s (close_runner_input s.runner) (close s.runner)
flow_step (Call.exited now x) s h = moved s (exited_next s.runner now x) (exits s.runner now x)
flow_step (Call.dropped now) s h = moved s (detach_next s.runner now Dropped) (detaches s.runner now Dropped)
flow_step (Call.reset now) s h = moved s (detach_next s.runner now Reset) (detaches s.runner now Reset)
flow_step (Call.disconnect now) s h = moved s (detach_next s.runner now Disconnected) (detaches s.runner now Disconnected)
flow_step (Call.tick now) s h = moved s (ticked s.runner now) (ticks s.runner now)
flow_step Call.next_request s h = asked_flow (wish s.runner) s.runner s.bytes
flow_step (Call.next_message buffer) s h = said_flow (choose s.runner (length buffer)) s.runner s.bytes
flow_step _ s h = still s.runner.limits s.runner.input s.bytes

closed_on : {l : Limits} {i i' : Input} {st st' given got : List ℕ} → Flow l i i' st st' given got → i.closed ≡ true → (i'.closed ≡ true) × (given ≡ [])
closed_on (on q f) e = f e
closed_on (ends g f) e = (f, g)

-- a closed input stays closed
pub stays_closed : (c : Call) (s : State) → Fine s → s.runner.input.closed ≡ true → (next s c).runner.input.closed ≡ true
stays_closed c s h e = (closed_on (flow_step c s h) e).0

-- what was handed over, and then what pending_input shows
abbrev seen : State → List Call → List ℕ
seen s cs = handed s cs ++ pending_of (Step.after s cs).runner (Step.after s cs).bytes

none_shown : (r : Runner) (st : List ℕ) → r.input.closed ≡ true → pending_of r st ≡ []
unfolding pending_of pending_input
none_shown r st e = rw e refl

-- a closed input hands over and shows nothing
closed_none : (cs : List Call) (s : State) → Fine s → s.runner.input.closed ≡ true → seen s cs ≡ []
closed_none [] s h e = none_shown s.runner s.bytes e
closed_none (c ∷ cs) s h e =
    let f = closed_on (flow_step c s h) e in
    subst⁻¹ (λ (x : State). (handed_by s c ++ handed x cs) ++ pending_of (Step.after x cs).runner (Step.after x cs).bytes ≡ []) (next_same s c h)
    (rw f.1 (closed_none cs (next s c) (fine_next c s h) f.0))

-- what is shown is a front of the queue
shown_if : (l : Limits) (i : Input) (st : List ℕ) (c : Bool) → Within l i st → IsPrefix (cond c [] (Inbox.front l i.inbox st)) (queue l i st ++ [])
unfolding Inbox.front
shown_if l i st true w = (queue l i st ++ [], refl)
shown_if l i st false w =
    let k : ℕ = first_run (inbox_size l) i.inbox.start i.inbox.length in
    let z = pending_front (inbox_base l) (inbox_size l) i.inbox.start i.inbox.length st w.area (omega (arith, w.begins)) w.most in
    (drop k (queue l i st), append-nil (queue l i st) ∙ sym (take-append-drop k (queue l i st)) ∙ ap (λ (x : List ℕ). x ++ drop k (queue l i st)) (sym z))

front_shown : (s : State) → Fine s → IsPrefix (pending_of s.runner s.bytes) (queue s.runner.limits s.runner.input s.bytes ++ [])
unfolding pending_of pending_input
front_shown s h = shown_if s.runner.limits s.runner.input s.bytes s.runner.input.closed (within s h)

joined : (q got given q' h b rest : List ℕ) → q ++ got ≡ given ++ q' → q' ++ b ≡ h ++ rest → q ++ (got ++ b) ≡ (given ++ h) ++ rest
joined q got given q' h b rest e f =
    sym (append_assoc q got b) ∙ ap (λ (x : List ℕ). x ++ b) e ∙ append_assoc given q' b ∙ ap (λ (x : List ℕ). given ++ x) f ∙ sym (append_assoc given h rest)

step_on : (l : Limits) (i i' : Input) (st st' given got h b : List ℕ) → Flow l i i' st st' given got → (i'.closed ≡ true → h ≡ [])
    → IsPrefix h (queue l i' st' ++ b) → IsPrefix (given ++ h) (queue l i st ++ (got ++ b))
step_on l i i' st st' given got h b (on q f) n p = (p.0, joined (queue l i st) got given (queue l i' st') h b p.0 q p.1)
step_on l i i' st st' given got h b (ends g f) n p = (queue l i st ++ (got ++ b), rw (g, n f) refl)

fifo_list : (cs : List Call) (s : State) → Fine s → IsPrefix (seen s cs) (queue s.runner.limits s.runner.input s.bytes ++ brought (Step.run s cs))
fifo_list [] s h = front_shown s h
fifo_list (c ∷ cs) s h =
    let s' = next s c in let h' = fine_next c s h in let l : Limits = s.runner.limits in
    let q : List ℕ = queue l s.runner.input s.bytes in
    let e : s'.runner.limits ≡ l = ap (λ (x : Conf). x.limits) (framed_conf (framed c s)) in
    let rest : IsPrefix (seen s' cs) (queue l s'.runner.input s'.bytes ++ brought (Step.run s' cs)) =
    subst (λ (x : Limits). IsPrefix (seen s' cs) (queue x s'.runner.input s'.bytes ++ brought (Step.run s' cs))) e (fifo_list cs s' h') in
    let one : IsPrefix (handed_by s c ++ seen s' cs) (q ++ (brought_by c (answer s c) ++ brought (Step.run s' cs))) =
    step_on l s.runner.input s'.runner.input s.bytes s'.bytes (handed_by s c) (brought_by c (answer s c)) (seen s' cs) (brought (Step.run s' cs))
    (flow_step c s h) (closed_none cs s' h') rest in
    let two : IsPrefix ((handed_by s c ++ handed s' cs) ++ pending_of (Step.after s' cs).runner (Step.after s' cs).bytes) (q ++ (brought_by c (answer s c) ++ brought (Step.run s' cs))) =
    subst⁻¹ (λ (x : List ℕ). IsPrefix x (q ++ (brought_by c (answer s c) ++ brought (Step.run s' cs)))) (append_assoc (handed_by s c) (handed s' cs) _) one in
    subst⁻¹ (λ (x : State). IsPrefix ((handed_by s c ++ handed x cs) ++ pending_of (Step.after x cs).runner (Step.after x cs).bytes) (q ++ (brought_by c (Step.answer s c) ++ brought (Step.run x cs)))) (next_same s c h)
    (subst⁻¹ (λ (a : Answer). IsPrefix ((handed_by s c ++ handed s' cs) ++ pending_of (Step.after s' cs).runner (Step.after s' cs).bytes) (q ++ (brought_by c a ++ brought (Step.run s' cs)))) (answer_same s c h) two)

-- a front of a prefix is one
front_of : (a b c : List ℕ) → IsPrefix (a ++ b) c → IsPrefix a c
front_of a b c p = (b ++ p.0, p.1 ∙ append_assoc a b p.0)

abbrev bytes_of : Answer → List ℕ
bytes_of (Call.Pending b) = b
bytes_of _ = []

module _ (conf : Conf) (now : ℕ) (bytes lengths : List ℕ) (op : Opens conf now bytes lengths) where
  abbrev o : State
  o = Step.opened conf now bytes lengths

  all_seen : (cs : List Call) → IsPrefix (seen o cs) (brought (Step.run o cs))
  unfolding fresh
  all_seen cs =
      let s : State = begun conf now bytes lengths in
      let p = fifo_list cs s (fine_open conf now bytes lengths (lent_open conf now bytes lengths op)) in
      subst⁻¹ (λ (x : State). IsPrefix (seen x cs) (brought (Step.run x cs))) (open_same conf now bytes lengths op)
      (subst (λ (x : List ℕ). IsPrefix (seen s cs) (x ++ brought (Step.run s cs))) (read_none (inbox_base conf.limits) (inbox_size conf.limits) 0 bytes) p)

  -- pending_input's answer is what is shown
  is_shown : (cs : List Call) → Step.answer (Step.after o cs) Call.pending_input ≡ Call.Pending (pending_of (Step.after o cs).runner (Step.after o cs).bytes)
  unfolding answer
  is_shown cs = same_answer conf now bytes lengths op cs Call.pending_input ∙ ap (λ (x : State). Call.Pending (pending_of x.runner x.bytes)) (sym (same_after conf now bytes lengths op cs))

  -- and so over the calls of a list with records
  seen_in : (es : List Entry) → IsPrefix (handed_in conf now bytes lengths es ++ pending_of (after_entries o es).runner (after_entries o es).bytes) (brought_in conf now bytes lengths es)
  seen_in es = rw (to_calls conf now bytes lengths op es, same_dones conf es o (good_open conf now bytes lengths op)) (all_seen (calls_of conf (run_entries o es)))

  shown_in : (es : List Entry) → Step.answer (after_entries o es) Call.pending_input ≡ Call.Pending (pending_of (after_entries o es).runner (after_entries o es).bytes)
  shown_in es = rw (to_calls conf now bytes lengths op es) (is_shown (calls_of conf (run_entries o es)))

  pub input_fifo : InputFifo conf now bytes lengths
  input_fifo = record {
    joined = λ es. front_of (handed_in conf now bytes lengths es) _ _ (seen_in es);
    shown = λ es b e. subst (λ (x : List ℕ). IsPrefix (handed_in conf now bytes lengths es ++ x) (brought_in conf now bytes lengths es)) (ap bytes_of (sym (shown_in es) ∙ e)) (seen_in es);
  }
