-- Each call, while the runner has not finished: it keeps the invariant between runner and account, and the length of the byte store.
use Rattle.std.specs.Prelude.{Option, Result, Some, Ok, Err}
use Rattle.exec.specs.declared.Admission.TheVariants.{Own}
use Rattle.exec.specs.declared.Admission.{Admission}
use Rattle.runner.specs.declared.answer.Request.{Request}
use Rattle.exec.specs.declared.LaunchFailure.{LaunchFailure}
use Rattle.exec.specs.declared.Refusal.{Refusal}
use mathlib.Core.Bool.{Bool, true, false, cond, or_self_left}
use mathlib.Core.Path.{◌≡◌, refl, sym, ap, ◌∙◌, subst, subst⁻¹}
use mathlib.Core.List.{List}
use mathlib.Core.Logic.{inl}
use Prim.Native.Nat.{ℕ, ◌+◌, ◌≤◌, ◌<◌}
use native.Mathlib.Omega.{arith}
use lib.Dec.{ltb}
use lib.ListN.{length, take}
use Rattle.exec.specs.declared.Cause.TheVariants as Cause
use Rattle.exec.specs.declared.Limits.{Limits}
use Rattle.exec.specs.declared.Receipt.TheVariants.{Late, Applied}
use Rattle.exec.specs.declared.Stream.{Stream}
use Rattle.exec.specs.declared.Stream.TheVariants.{Stdout, Stderr, Notes}
use Rattle.exec.specs.Each.{Each}
use Rattle.exec.specs.Key.{admits}
use Rattle.exec.specs.Limits.{input_bytes as inbox_size, has, has_notes}
use Rattle.ring.specs.Ring.{ring_write}
use Rattle.ring.specs.RingLaws.{read_none, write_length, write_other}
use Rattle.inbox.specs.Need.{byte_need}
use Rattle.output.specs.declared.Output.{Output}
use Rattle.inbox.specs.Inbox.{inbox_base}
use Rattle.input.specs.Input.{is_kept, kept_paid, receive_bytes}
use Rattle.output.specs.Output.{keeps, keeps_fit, sent_out, ended_out, asked_out, lost_out, closed_out, failed_out, hung_up}
use Rattle.choice.specs.declared.Choice.{Choice}
use Rattle.runner.specs.declared.runner.Runner.{Runner}
use Rattle.runner.specs.Life.{awaits_launch, ticked, is_late, cancel_answer, close_runner_input, note_started, note_launch, launched_next, settled_next}
use Rattle.runner.specs.Message.{choose, output_paid, output_sent, effect, payload, wish, wish_effect}
use Rattle.output.specs.Outputs.{put_output}
use Rattle.runner.specs.State.{out_of, with_outputs, at, base}
use Rattle.runner.specs.Streams.{is_shut, room, output_taken, output_next, output_store, discarded_next, closed_next, failed_next, hung_up_next, credit_next, is_taken, input_next, input_store, end_next, written_next}
use Rattle.calls.specs.Call as Call
use Rattle.calls.specs.Call.{Conf, Call, Answer, is_refused}
use Rattle.account.specs.Step.{State, received_as}
use Rattle.account.specs.Account
use Rattle.account.specs.Account.{Tally, tally_of, marked, sent_by, mk, adds, add, hear, heard, on_tally, taken_by, launch_r, close_r, hang_r, settling_r}
use Rattle.account.proofs.Plain.{said, next, answer, if_open, by_open, open_keeps}
use Rattle.account.proofs.Stages.{launched_if}
use Rattle.account.proofs.Rings.{ring}
use Rattle.account.proofs.Sides.{on_out, on_one_lem, third, third_or, is_over, place, placed, base_behind, bases_apart}
use Rattle.account.proofs.Streams.{Fits, Good, closed_by, failed_by, discarded_by, taken_by_lem, sent_by_lem, moved, keeps_less}
use Rattle.account.proofs.Range.{Queued, chosen_queued, chosen_open, RangedS}
use Rattle.account.proofs.Finish.{framed, framed_conf}
use Rattle.account.proofs.Lives.{rep, Inv, along, tick_inv, cancel_inv, detach_inv, exited_inv, reported_same}
use Rattle.account.proofs.Flags.{either}
use Rattle.account.proofs.InputRange.{room_by, paid}

-- a claim of the invariant on each stream
abbrev Claim : List ℕ → Limits → Stream → Output → Tally → Type 0
Claim st l x o t = Good st (place l x) l.chunk o t

-- what is replayed does not change with an output that stays as closed and as hung up as it was
rep_at : (x : Stream) (o : Output) (s : Runner) → o.closed ≡ (out_of x s).closed → o.hung_up ≡ (out_of x s).hung_up → rep (with_outputs (put_output x o s.outputs) s) ≡ rep s
rep_at Stdout o s c h = rw (c, h) refl
rep_at Stderr o s c h = rw (c, h) refl
rep_at Notes o s c h =
    let k = third (has_notes s.limits) s.outputs (λ (p : Output). p.closed ≡ (out_of Notes s).closed) o c refl in
    let u = third (has_notes s.limits) s.outputs (λ (p : Output). p.hung_up ≡ (out_of Notes s).hung_up) o h refl in
    rw (k, u) refl

sent_inv : (st : List ℕ) (x : Stream) (n : ℕ) (s : Runner) (a : Account.Account) → has s.limits x ≡ true → n ≤ (out_of x s).queued → Inv st s a
    → Inv st (output_sent x n s) (heard (Call.Output x (payload s x n st)) a)
unfolding payload output_sent output_paid
sent_inv st x n s a k l h = (
  h.0 ∙ sym (rep_at x (sent_out s.limits.chunk n (out_of x s)) s refl refl),
  on_one_lem (has_notes s.limits) s.outputs (Claim st s.limits) s.limits refl x (sent_out s.limits.chunk n (out_of x s)) (sent_by (payload_of x)) a.tallies k
      (subst⁻¹ (λ (p : ℕ). Good st p s.limits.chunk (sent_out s.limits.chunk n (out_of x s)) (sent_by (payload_of x) (tally_of x a))) (placed s.limits x k)
      (sent_by_lem st (base x s.limits.chunk) s.limits.chunk n (out_of x s) (tally_of x a) l
      (subst (λ (p : ℕ). Good st p s.limits.chunk (out_of x s) (tally_of x a)) (placed s.limits x k) (h.1 x))))
      (λ y e. h.1 y),
)
  where
    payload_of : Stream → List ℕ
    payload_of y = ring st (base y s.limits.chunk) s.limits.chunk (out_of y s).start n

-- an output that keeps all that the invariant sees of it
seen_inv : (st : List ℕ) (x : Stream) (f : Output → Output) (s : Runner) (a : Account.Account) → ((o : Output) (t : Tally) → Claim st s.limits x o t → Claim st s.limits x (f o) t)
    → ((f (out_of x s)).closed ≡ (out_of x s).closed) → ((f (out_of x s)).hung_up ≡ (out_of x s).hung_up) → Inv st s a → Inv st (at x f s) a
seen_inv st x f s a k c u h = (
  h.0 ∙ sym (rep_at x (f (out_of x s)) s c u),
  on_out (has_notes s.limits) s.outputs (λ (y : Stream) (o : Output). Claim st s.limits y o (tally_of y a)) x (f (out_of x s)) (k (out_of x s) (tally_of x a) (h.1 x)) h.1,
)

effect_inv : (st : List ℕ) (m : Choice) (s : Runner) (a : Account.Account) → ((x : Stream) (n : ℕ) → Choice.Output x n ≡ m → has s.limits x ≡ true) → Queued s m → Inv st s a → Inv st (effect m s) (cond (is_refused (said m s st)) a (hear (said m s st) a))
unfolding effect said
effect_inv st (Choice.End x) s a k l h = seen_inv st x ended_out s a (λ o t g. g) refl refl h
effect_inv st (Choice.Output x n) s a k l h = sent_inv st x n s a (k x n refl) (l x n refl) h
effect_inv st _ s a k l h = h

handed_inv : (st : List ℕ) (w : Option Request) (s : Runner) (a : Account.Account) → Inv st s a → Inv st (wish_effect w s) a
unfolding wish_effect
handed_inv st (Some (Request.Discard x)) s a h = seen_inv st x asked_out s a (λ o t g. g) refl refl h
handed_inv st _ s a h = h

launched_inv : (st : List ℕ) (b : Bool) (x : Result (Unit {0}) LaunchFailure) (s : Runner) (ts : Each Tally) → awaits_launch s ≡ b → Inv st s (mk (rep s) ts) → Inv st (launched_if b x s) (mk (launch_r (rep s)) ts)
unfolding note_launch note_started close_runner_input
launched_inv st false x s ts e h = (rw e refl, h.1)
launched_inv st true (Ok tt) s ts e h = (rw e refl, h.1)
launched_inv st true (Err f) s ts e h = (rw e refl, h.1)

-- an input: nothing is written, or the bytes go behind the inbox, which is apart from both queues
input_inv : (x : Bool) (b st : List ℕ) (s : Runner) (a : Account.Account) → byte_need s.limits ≤ length st → s.input.inbox.start < inbox_size s.limits
    → (x ≡ true → s.input.inbox.length + length b ≤ inbox_size s.limits) → Inv st s a
    → Inv (cond x (ring_write (inbox_base s.limits) (inbox_size s.limits) s.input.inbox.start s.input.inbox.length b (length b) st) st) s a
input_inv false b st s a n l m h = h
input_inv true b st s a n l m h =
    let k = m refl in
    let c : ℕ = s.limits.chunk in
    let w = write_length (inbox_base s.limits) (inbox_size s.limits) s.input.inbox.start s.input.inbox.length b (length b) st n (omega arith) (omega arith) k in (
      h.0,
      λ x. let f = base_behind s.limits x in
          moved st _ (place s.limits x) c (out_of x s) (tally_of x a)
          (write_other (inbox_base s.limits) (inbox_size s.limits) s.input.inbox.start s.input.inbox.length b (length b) st n (omega arith) (omega arith) k
          (place s.limits x) c (out_of x s).start (out_of x s).queued (h.1 x).2 (let z = (h.1 x).1.inside in omega arith) (h.1 x).1.within (inl f)) w (h.1 x),
    )

taken_inv : (t : Bool) (b st : List ℕ) (s : Runner) (a : Account.Account) → byte_need s.limits ≤ length st → s.input.inbox.start < inbox_size s.limits
    → (is_kept s.limits s.input (length b) ≡ true → s.input.inbox.length + length b ≤ inbox_size s.limits) → Inv st s a
    → Inv (cond t (receive_bytes s.limits s.input b st) st) s a
unfolding receive_bytes
taken_inv false b st s a n l m h = h
taken_inv true b st s a n l m h = input_inv (is_kept s.limits s.input (length b)) b st s a n l m h

-- the bytes of a stream are kept by a store that keeps those of the streams that are open
spared : (s : Runner) (y : Stream) (st st' : List ℕ)
    → (has s.limits y ≡ true → ring st' (base y s.limits.chunk) s.limits.chunk (out_of y s).start (out_of y s).queued ≡ ring st (base y s.limits.chunk) s.limits.chunk (out_of y s).start (out_of y s).queued)
    → ring st' (place s.limits y) s.limits.chunk (out_of y s).start (out_of y s).queued ≡ ring st (place s.limits y) s.limits.chunk (out_of y s).start (out_of y s).queued
spared s y st st' h = by (has s.limits y) refl
  where
    by : (b : Bool) → has s.limits y ≡ b
        → ring st' (cond b (base y s.limits.chunk) 0) s.limits.chunk (out_of y s).start (out_of y s).queued ≡ ring st (cond b (base y s.limits.chunk) 0) s.limits.chunk (out_of y s).start (out_of y s).queued
    by true e = h e
    by false e =
        rw (is_over s.limits s.outputs y e, read_none 0 s.limits.chunk 0 st', read_none 0 s.limits.chunk 0 st) refl

output_inv : (st : List ℕ) (x : Stream) (b : List ℕ) (s : Runner) (a : Account.Account) → has s.limits x ≡ true → Inv st s a
    → Inv (output_store s x b st) (output_next s x (length b)) (on_tally x (taken_by (take (output_taken s x (length b)) b)) a)
unfolding output_store output_next output_taken
output_inv st x b s a o h =
    let c : ℕ = s.limits.chunk in
    let g : Good st (base x c) c (out_of x s) (tally_of x a) = subst (λ (p : ℕ). Good st p c (out_of x s) (tally_of x a)) (placed s.limits x o) (h.1 x) in
    let k : ℕ = keeps (is_shut x s) (out_of x s).discarding (room x s) (length b) in
    let few = keeps_less (is_shut x s) (out_of x s).discarding (room x s) (length b) in
    let kr = keeps_fit (is_shut x s) (out_of x s).discarding (room x s) (length b) in
    let i0 = g.1.inside in let w0 = g.1.within in (
      h.0 ∙ sym (rep_at x _ s refl refl),
      on_one_lem (has_notes s.limits) s.outputs (Claim (output_store s x b st) s.limits) s.limits refl x _ _ a.tallies o
          (rw (placed s.limits x o) (taken_by_lem st (base x c) c (is_shut x s) b (out_of x s) (tally_of x a) (or_self_left (out_of x s).closed s.flags.gave_up) g))
          (λ y e. moved st _ (place s.limits y) c (out_of y s) (tally_of y a)
          (spared s y st (output_store s x b st)
          (λ p. let v : Good st (base y c) c (out_of y s) (tally_of y a) = subst (λ (q : ℕ). Good st q c (out_of y s) (tally_of y a)) (placed s.limits y p) (h.1 y) in
          write_other (base x c) c (out_of x s).start (out_of x s).queued b k st g.2 (omega arith) few (omega arith)
          (base y c) c (out_of y s).start (out_of y s).queued v.2 (let z = v.1.inside in omega arith) v.1.within (bases_apart x y c e)))
          (write_length (base x c) c (out_of x s).start (out_of x s).queued b k st g.2 (omega arith) few (omega arith)) (h.1 y)),
    )

-- a stream's output and tally changed by a report: one that neither closes it nor says that it hung up, and one that closes it
told_inv : (st : List ℕ) (x : Stream) (f : Output → Output) (g : Tally → Tally) (s : Runner) (a : Account.Account) → has s.limits x ≡ true → (f (out_of x s)).closed ≡ (out_of x s).closed → (f (out_of x s)).hung_up ≡ (out_of x s).hung_up
    → Claim st s.limits x (f (out_of x s)) (g (tally_of x a)) → Inv st s a → Inv st (at x f s) (on_tally x g a)
told_inv st x f g s a o c u p h = (
  h.0 ∙ sym (rep_at x (f (out_of x s)) s c u),
  on_one_lem (has_notes s.limits) s.outputs (Claim st s.limits) s.limits refl x (f (out_of x s)) g a.tallies o p (λ y e. h.1 y),
)

closed_rep : (x : Stream) (o : Output) (s : Runner) → o.closed ≡ true → o.hung_up ≡ (out_of x s).hung_up → close_r x (rep s) ≡ rep (with_outputs (put_output x o s.outputs) s)
closed_rep Stdout o s c h = rw (c, h) refl
closed_rep Stderr o s c h = rw (c, h) refl
closed_rep Notes o s c h =
    let k = third_or (has_notes s.limits) s.outputs (λ (p : Output). p.closed ≡ true) o c refl in
    let u = third (has_notes s.limits) s.outputs (λ (p : Output). p.hung_up ≡ (out_of Notes s).hung_up) o h refl in
    rw (k, u) refl

hung_rep : (x : Stream) (s : Runner) → has s.limits x ≡ true → hang_r x (rep s) ≡ rep (at x hung_up s)
hung_rep Stdout s o = refl
hung_rep Stderr s o = refl
hung_rep Notes s o = rw o refl

shut_inv : (st : List ℕ) (x : Stream) (f : Output → Output) (g : Tally → Tally) (s : Runner) (a : Account.Account) → has s.limits x ≡ true → (f (out_of x s)).closed ≡ true → (f (out_of x s)).hung_up ≡ (out_of x s).hung_up
    → Claim st s.limits x (f (out_of x s)) (g (tally_of x a)) → Inv st s a → Inv st (at x f s) (on_tally x g (mk (close_r x a.rep) a.tallies))
shut_inv st x f g s a o c u p h = (
  ap (close_r x) h.0 ∙ closed_rep x (f (out_of x s)) s c u,
  on_one_lem (has_notes s.limits) s.outputs (Claim st s.limits) s.limits refl x (f (out_of x s)) g a.tallies o p (λ y e. h.1 y),
)

-- a cancel that is refused changes nothing
unrefused : (k : Result Admission Refusal) (now : ℕ) (s : Runner) (a : Account.Account) → Account.cancel_a k now a ≡ cond (is_refused (received_as (cancel_answer k s now))) a (Account.cancel_a k now a)
unfolding cancel_answer Account.cancel_a
unrefused (Ok Own) now s a = go (is_late (ticked s now))
  where
    b : Account.Account
    b = Account.cancel_a (Ok Own) now a

    go : (l : Bool) → b ≡ cond (is_refused (received_as (cond l (Ok Late) (Ok Applied)))) a b
    go true = refl
    go false = refl
unrefused _ now s a = refl

-- what is kept has room
pub kept_room : (b : List ℕ) (s : State) → RangedS s → is_kept s.runner.limits s.runner.input (length b) ≡ true
    → s.runner.input.inbox.length + length b ≤ inbox_size s.runner.limits
kept_room b s r e =
    let u : Runner = s.runner in
    let p = paid u.limits u.input (length b) (kept_paid u.limits u.input (length b) e) in
    room_by u.limits.input.unit u.limits s.lengths u.input (length b) r.2.0 p.small p.enough

abbrev pub InvS : State → Account.Account → Type 0
InvS s a = Inv s.bytes s.runner a

abbrev pub Roomy : State → Type 0
Roomy s = byte_need s.runner.limits ≤ length s.bytes

-- a call that adds nothing, refused or not
unheard : (s : State) (a : Account.Account) (c : Call) → InvS (next s c) a → InvS (next s c) (cond (is_refused (answer s c)) a a)
unheard s a c h = either (InvS (next s c)) (is_refused (answer s c)) a a h h

-- a call that names a stream: where that is not open it is refused, and adds nothing
named : (c : Call) (s t : State) (a : Account.Account) (x : Stream) (r : Answer) → InvS s a → (has s.runner.limits x ≡ true → InvS t (add a c r))
    → InvS (cond (has s.runner.limits x) t s) (add a c (if_open s x r))
unfolding add
named c s t a x r h k = by_open (λ (u : State) (q : Answer). InvS u (add a c q)) s t x r k h

-- every call, while the runner has not finished
pub step_inv : (c : Call) (s : State) (a : Account.Account) → s.runner.flags.finished ≡ false → RangedS s → Roomy s → InvS s a → InvS (next s c) (add a c (answer s c))
unfolding next adds add answer credit_next input_next input_store end_next launched_next discarded_next closed_next failed_next hung_up_next written_next close_runner_input settled_next
step_inv (Call.credit k p u) s a f r m h = unheard s a (Call.credit k p u) h
step_inv (Call.input k b) s a f r m h =
    let u : Runner = s.runner in let x : (Result Admission Refusal) = admits u.key k in
    unheard s a (Call.input k b) (taken_inv (is_taken x u) b s.bytes u a m r.2.1 (kept_room b s r) h)
step_inv (Call.end_input k) s a f r m h = unheard s a (Call.end_input k) h
step_inv (Call.cancel now k c) s a f r m h =
    let u : Runner = s.runner in let home : Account.Account = mk (rep u) a.tallies in
    along s.bytes (λ (x : Account.Account). InvS (next s (Call.cancel now k c)) (add x (Call.cancel now k c) (answer s (Call.cancel now k c)))) u a h
    (subst (InvS (next s (Call.cancel now k c))) (unrefused (admits u.key k) now u home) (cancel_inv s.bytes (admits u.key k) now c u home f (refl, h.1)))
step_inv (Call.launched x) s a f r m h =
    let u : Runner = s.runner in
    along s.bytes (λ (y : Account.Account). Inv s.bytes (launched_if (awaits_launch u) x u) (mk (launch_r y.rep) y.tallies)) u a h
    (launched_inv s.bytes (awaits_launch u) x u a.tallies refl (refl, h.1))
step_inv (Call.output x b) s a f r m h =
    named (Call.output x b) s _ a x (Call.Taken _) h (λ o. output_inv s.bytes x b s.runner a o h)
step_inv (Call.discarded x n) s a f r m h =
    let u : Runner = s.runner in
    named (Call.discarded x n) s _ a x Call.Ok h (λ o.
    told_inv s.bytes x (lost_out (ltb 0 n)) (marked (ltb 0 n)) u a o refl refl (discarded_by s.bytes (place u.limits x) u.limits.chunk (ltb 0 n) (out_of x u) (tally_of x a) (h.1 x)) h)
step_inv (Call.output_closed x) s a f r m h =
    let u : Runner = s.runner in
    named (Call.output_closed x) s _ a x Call.Ok h (λ o. (
      ap (close_r x) h.0 ∙ closed_rep x (closed_out (out_of x u)) u refl refl,
      on_out (has_notes u.limits) u.outputs (λ (y : Stream) (o : Output). Claim s.bytes u.limits y o (tally_of y a)) x (closed_out (out_of x u))
          (closed_by s.bytes (place u.limits x) u.limits.chunk (out_of x u) (tally_of x a) (h.1 x)) h.1,
    ))
step_inv (Call.output_failed x) s a f r m h =
    let u : Runner = s.runner in
    named (Call.output_failed x) s _ a x Call.Ok h (λ o.
    shut_inv s.bytes x failed_out (marked true) u a o refl refl (failed_by s.bytes (place u.limits x) u.limits.chunk (out_of x u) (tally_of x a) (h.1 x)) h)
step_inv (Call.output_hung_up x) s a f r m h =
    let u : Runner = s.runner in
    named (Call.output_hung_up x) s _ a x Call.Ok h (λ o. (
      ap (hang_r x) h.0 ∙ hung_rep x u o,
      on_out (has_notes u.limits) u.outputs (λ (y : Stream) (o : Output). Claim s.bytes u.limits y o (tally_of y a)) x (hung_up (out_of x u)) (h.1 x) h.1,
    ))
step_inv (Call.exited now x) s a f r m h = exited_inv s.bytes now x s.runner a f h
step_inv (Call.settled y) s a f r m h =
    along s.bytes (λ (x : Account.Account). InvS (next s (Call.settled y)) (add x (Call.settled y) Call.Ok)) s.runner a h
    (ap (λ (x : Account.Settling). settling_r x (rep s.runner)) (reported_same s.runner.life.settling y), h.1)
step_inv (Call.dropped now) s a f r m h = detach_inv s.bytes now Cause.Dropped s.runner a f h
step_inv (Call.reset now) s a f r m h = detach_inv s.bytes now Cause.Reset s.runner a f h
step_inv (Call.disconnect now) s a f r m h = detach_inv s.bytes now Cause.Disconnected s.runner a f h
step_inv (Call.tick now) s a f r m h = tick_inv s.bytes now s.runner a f h
step_inv Call.next_request s a f r m h = unheard s a Call.next_request (handed_inv s.bytes (wish s.runner) s.runner a h)
step_inv (Call.next_message b) s a f r m h =
    effect_inv s.bytes (choose s.runner (length b)) s.runner a (chosen_open s.runner (length b)) (chosen_queued s.runner (length b)) h
step_inv (Call.read_allowance x) s a f r m h = unheard s a (Call.read_allowance x) h
step_inv _ s a f r m h = h

-- ---- no call changes the length of the byte store

input_length : (x : Bool) (b st : List ℕ) (s : Runner) → byte_need s.limits ≤ length st → s.input.inbox.start < inbox_size s.limits
    → (x ≡ true → s.input.inbox.length + length b ≤ inbox_size s.limits)
    → length (cond x (ring_write (inbox_base s.limits) (inbox_size s.limits) s.input.inbox.start s.input.inbox.length b (length b) st) st) ≡ length st
input_length false b st s n l m = refl
input_length true b st s n l m =
    let k = m refl in
    write_length (inbox_base s.limits) (inbox_size s.limits) s.input.inbox.start s.input.inbox.length b (length b) st n (omega arith) (omega arith) k

taken_length : (t : Bool) (b st : List ℕ) (s : Runner) → byte_need s.limits ≤ length st → s.input.inbox.start < inbox_size s.limits
    → (is_kept s.limits s.input (length b) ≡ true → s.input.inbox.length + length b ≤ inbox_size s.limits)
    → length (cond t (receive_bytes s.limits s.input b st) st) ≡ length st
unfolding receive_bytes
taken_length false b st s n l m = refl
taken_length true b st s n l m = input_length (is_kept s.limits s.input (length b)) b st s n l m

output_length : (x : Stream) (b st : List ℕ) (s : Runner) → has s.limits x ≡ true → byte_need s.limits ≤ length st → Fits s.limits.chunk (out_of x s).start (out_of x s).queued → length (output_store s x b st) ≡ length st
unfolding output_store
output_length x b st s o n f =
    let has = keeps_less (is_shut x s) (out_of x s).discarding (room x s) (length b) in
    let kr = keeps_fit (is_shut x s) (out_of x s).discarding (room x s) (length b) in
    let i = f.inside in let w = f.within in let z = base_behind s.limits x in let p = placed s.limits x o in
    write_length (base x s.limits.chunk) s.limits.chunk (out_of x s).start (out_of x s).queued b (keeps (is_shut x s) (out_of x s).discarding (room x s) (length b)) st (omega arith) (omega arith) has (omega arith)

bytes_length : (c : Call) (s : State) → RangedS s → Roomy s → length (next s c).bytes ≡ length s.bytes
unfolding next input_store
bytes_length (Call.input k b) s r m =
    let u : Runner = s.runner in let x : (Result Admission Refusal) = admits u.key k in
    taken_length (is_taken x u) b s.bytes u m r.2.1 (kept_room b s r)
bytes_length (Call.output x b) s r m =
    by_open (λ (t : State) (q : Answer). length t.bytes ≡ length s.bytes) s _ x Call.Ok (λ o. output_length x b s.bytes s.runner o m (r.0 x)) refl
bytes_length (Call.discarded x n) s r m = open_keeps (λ (t : State). length t.bytes ≡ length s.bytes) s _ x refl refl
bytes_length (Call.output_closed x) s r m = open_keeps (λ (t : State). length t.bytes ≡ length s.bytes) s _ x refl refl
bytes_length (Call.output_failed x) s r m = open_keeps (λ (t : State). length t.bytes ≡ length s.bytes) s _ x refl refl
bytes_length (Call.output_hung_up x) s r m = open_keeps (λ (t : State). length t.bytes ≡ length s.bytes) s _ x refl refl
bytes_length _ s r m = refl

pub roomy_next : (c : Call) (s : State) → RangedS s → Roomy s → Roomy (next s c)
roomy_next c s r m =
    let e : (next s c).runner.limits ≡ s.runner.limits = ap (λ (x : Conf). x.limits) (framed_conf (framed c s)) in
    rw (bytes_length c s r m) (subst⁻¹ (λ (l : Limits). byte_need l ≤ length s.bytes) e m)
