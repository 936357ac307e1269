-- From open on no state is out of range: what 12 asks holds after every list of calls.
use Rattle.std.specs.Prelude.{Option, Result, Some, Ok, Err}
use Rattle.exec.specs.declared.Admission.TheVariants.{Own}
use Rattle.exec.specs.declared.Admission.{Admission}
use Rattle.runner.specs.declared.answer.Request.{Request}
use Rattle.exec.specs.declared.Refusal.{Refusal}
use mathlib.Core.Bool.{Bool, true, false, cond, not, ◌&&◌, ◌||◌}
use mathlib.Core.Path.{◌≡◌, refl, ap}
use mathlib.Core.List.{List, [], ◌∷◌}
use Prim.Native.Nat.{ℕ, ◌+◌, ◌-◌, ◌*◌, ◌≤◌, ◌<◌}
use native.Mathlib.Omega.{arith}
use native.Mathlib.Nat.{mul-le-mul}
use lib.Dec.{ltb, leb, eqb}
use lib.ListN.{length}
use borrow.Author.Tests.{le-leb, lt-ltb, ltb-true, leb-true, eq-eqb}
use Rattle.exec.specs.declared.Cause.{Cause}
use Rattle.exec.specs.declared.Limits.{Limits}
use Rattle.exec.specs.declared.Stream.{Stream}
use Rattle.exec.specs.declared.Stream.TheVariants.{Stdout, Stderr, Notes}
use Rattle.exec.specs.declared.Unit as units
use Rattle.exec.specs.declared.Unit.TheVariants.{Bytes, Frames}
use Rattle.exec.specs.Key.{admits}
use Rattle.exec.specs.Limits.{cost, bytes_with, input_bytes, is_valid, output_pool, pool_of, has, has_notes}
use Rattle.exec.specs.Stream.{index, turn_after}
use Rattle.ring.specs.Ring.{wrap}
use Rattle.ring.specs.RingLaws.{wrap_lt, read_none}
use Rattle.credit.specs.declared.sender.Credit.{Credit}
use Rattle.inbox.specs.Inbox.{inbox_held}
use Rattle.inbox.specs.Need.{byte_need, length_need_as, length_need, need_fits}
use Rattle.inbox.specs.Range.{ring_fits, frames_fit}
use Rattle.inbox.specs.RangeLaws.{both}
use Rattle.inbox.specs.Receiver.{units_fit}
use Rattle.credit.specs.Sender.{new_credit, grantable, grant, spent}
use Rattle.input.specs.declared.Input.{Input}
use Rattle.output.specs.declared.Output.{Output}
use Rattle.output.specs.Output.{grace_ended, given_up, abandoned, sent_out, ended_out, asked_out, lost_out, closed_out, failed_out, hung_up, keeps, keeps_fit, output_fits}
use Rattle.choice.specs.declared.Choice.{Choice}
use Rattle.runner.specs.declared.runner.Runner.{Runner}
use Rattle.runner.specs.Life.{close_runner_input, settled_next}
use Rattle.inbox.specs.Receiver.{grant_fits}
use Rattle.runner.specs.MessageLaws.{chosen, open_sends}
use Rattle.runner.specs.TerminalLaws.{sendable_count}
use Rattle.runner.specs.Message.{choose, output_paid, output_sent, effect, wish, wish_effect}
use Rattle.runner.specs.Range.{in_range, bytes_do, lengths_do, open_stop, fresh, last_turn}
use Rattle.runner.specs.RangeLaws.{is_opened}
use Rattle.runner.specs.State.{out_of, at, credit_at, put_credit}
use Rattle.runner.specs.Streams as Streams
use Rattle.runner.specs.Streams.{is_shut, credits_in, credits_after, credit_next, is_taken, input_next, input_lengths, end_next, written_next, output_next, discarded_next, closed_next, failed_next, hung_up_next}
use Rattle.calls.specs.Call.{Conf, Call}
use Rattle.account.specs.Step.{State}
use Rattle.account.proofs.Plain.{next, begun, after_all, open_keeps}
use Rattle.account.proofs.Streams.{Fits}
use Rattle.account.proofs.Sides.{out_each, out_open, of_every, on_out}
use Rattle.std.proofs.lemmas.Bool.{and_from, or_left, or_right}
use Rattle.account.proofs.Flags.{either}
use Rattle.account.proofs.Timers.{Kept, tick_keeps, cancel_keeps, detach_keeps, exited_keeps, launched_keeps}
use Rattle.account.proofs.InputRange.{none, sum_most, area_as, waiting, Held, HeldIn, InRange, waiting_length, holds_by, close_range, written_range, input_if, end_if, granted_by}

-- ---- the credit in range

abbrev pub Within : Credit → Type 0
Within c = c.available ≤ c.window

abbrev pub AllWithin : List Credit → Type 0
AllWithin cs = (x : Stream) → Within (credit_at (index x) cs)

grant_range : (c : Credit) (u : ℕ) → Within c → Within (grant c u).credit
grant_range c u h = go (grantable c u) refl
  where
    go : (b : Bool) → grantable c u ≡ b → cond b (c.available + u) c.available ≤ c.window
    go true e = leb-true (c.available + u) c.window (both (ltb 0 u) (leb (c.available + u) c.window) e).1
    go false e = h

spent_range : (c : Credit) (n : ℕ) → Within c → Within (spent c n)
spent_range c n h = omega arith

-- the account at a position, and changed by what keeps it within its window
at_range : (i : ℕ) (cs : List Credit) → AllWithin cs → Within (credit_at i cs)
at_range i cs h = either Within (eqb i 0) _ _ (h Stdout) (either Within (eqb i 1) _ _ (h Stderr) (h Notes))

put_range : (i : ℕ) (f : Credit → Credit) (cs : List Credit) → ((c : Credit) → Within c → Within (f c)) → AllWithin cs
    → AllWithin (put_credit i (f (credit_at i cs)) cs)
put_range i f cs k h Stdout = either Within (eqb i 0) _ _ (k (credit_at i cs) (at_range i cs h)) (h Stdout)
put_range i f cs k h Stderr = either Within (eqb i 1) _ _ (k (credit_at i cs) (at_range i cs h)) (h Stderr)
put_range i f cs k h Notes = either Within (eqb i 0 || eqb i 1) _ _ (h Notes) (k (credit_at i cs) (at_range i cs h))

credits_in_lem : (p : Result ℕ Refusal) (f : Bool) (u : ℕ) (cs : List Credit) → AllWithin cs → AllWithin (credits_in p f u cs)
credits_in_lem (Err x) f u cs h = h
credits_in_lem (Ok i) f u cs h =
    either AllWithin (not f && grantable (credit_at i cs) u) (put_credit i (grant (credit_at i cs) u).credit cs) cs
    (put_range i (λ (c : Credit). (grant c u).credit) cs (λ c w. grant_range c u w) h) h

credits_range : (a : Result Admission Refusal) (p : Result ℕ Refusal) (f : Bool) (u : ℕ) (cs : List Credit) → AllWithin cs → AllWithin (credits_after a p f u cs)
credits_range (Ok Own) p f u cs h = credits_in_lem p f u cs h
credits_range _ p f u cs h = h

-- ---- the state

-- a queue within its ring
abbrev Queue : ℕ → Stream → Output → Type 0
Queue n x o = Fits n o.start o.queued

abbrev pub Ranged : List ℕ → Runner → Type 0
Ranged lengths s = ((x : Stream) → Queue s.limits.chunk x (out_of x s)) × AllWithin s.credits × InRange s.limits lengths s.input × (s.turn ≤ last_turn s.limits)

emptied : (n s k : ℕ) → Fits n s k → Fits n 0 0
emptied n s k h = record { inside = (let z = h.inside in omega arith); within = omega arith }

sent_range : (n m s k : ℕ) → m ≤ k → Fits n s k → Fits n (wrap n (s + m)) (k - m)
sent_range n m s k l h = let z = h.inside in let w = h.within in record { inside = wrap_lt n (s + m) (omega arith); within = omega arith }

kept_range : (n s k : ℕ) (x d : Bool) (m : ℕ) → Fits n s k → Fits n s (k + keeps x d (n - k) m)
kept_range n s k x d m h = let z = keeps_fit x d (n - k) m in let w = h.within in record { inside = h.inside; within = omega arith }

-- no message carries more than the queue holds
abbrev pub Queued : Runner → Choice → Type 0
Queued s m = (x : Stream) (n : ℕ) → Choice.Output x n ≡ m → n ≤ (out_of x s).queued

pub chosen_queued : (s : Runner) (k : ℕ) → Queued s (choose s k)
chosen_queued s k x n e = rw (chosen s k x n e).bytes (sendable_count s k x)

-- and each carries bytes of a stream that is open
pub chosen_open : (s : Runner) (k : ℕ) (x : Stream) (n : ℕ) → Choice.Output x n ≡ choose s k → has s.limits x ≡ true
chosen_open s k x n e = let c = chosen s k x n e in open_sends s k x (omega (arith, c.bytes, c.some_bytes))

module _ (ls : List ℕ) where
  pub timed : Kept (Ranged ls)
  unfolding close_runner_input
  timed = record {
    moves = λ r c l f e h. h;
    closes = λ r h. (h.0, h.1, close_range r.limits ls r.input r.flags.detached h.2, h.3);
    tells = λ r h. h;
    grace = λ r h. (λ x. rw (out_each (has_notes r.limits) r.outputs grace_ended refl x) (emptied _ _ _ (h.0 x)), h.1, h.2, h.3);
    gives = λ r h. (λ x. rw (out_each (has_notes r.limits) r.outputs given_up refl x) (emptied _ _ _ (h.0 x)), h.1, h.2, h.3);
    abandons = λ r h. (λ x. rw (out_each (has_notes r.limits) r.outputs abandoned refl x) (h.0 x), h.1, h.2, h.3);
  }

  paid_range : (x : Stream) (n : ℕ) (s : Runner) → Ranged ls s → AllWithin (output_paid x n s).credits
  unfolding output_paid
  paid_range x n s h =
      put_range (pool_of s.limits x) (λ (c : Credit). spent c (cost s.limits.output.unit n)) s.credits
      (λ c w. spent_range c (cost s.limits.output.unit n) w) h.1

  output_range : (x : Stream) (n : ℕ) (s : Runner) → n ≤ (out_of x s).queued → Ranged ls s → Ranged ls (output_sent x n s)
  unfolding output_sent output_paid
  output_range x n s l h = (
    on_out (has_notes s.limits) s.outputs (Queue s.limits.chunk) x (sent_out s.limits.chunk n (out_of x s)) (sent_range _ n _ _ l (h.0 x)) h.0,
    paid_range x n s h,
    h.2,
    turn_range (has_notes s.limits) x,
  )
    where
      turn_range : (b : Bool) (y : Stream) → turn_after b y ≤ cond b 2 1
      turn_range true Stdout = omega arith
      turn_range true Stderr = omega arith
      turn_range true Notes = omega arith
      turn_range false Stdout = omega arith
      turn_range false Stderr = omega arith
      turn_range false Notes = omega arith

  -- an output whose queue stays as it was
  queue_kept : (x : Stream) (f : Output → Output) (s : Runner) → (f (out_of x s)).start ≡ (out_of x s).start → (f (out_of x s)).queued ≡ (out_of x s).queued → Ranged ls s → Ranged ls (at x f s)
  queue_kept x f s e g h = (on_out (has_notes s.limits) s.outputs (Queue s.limits.chunk) x (f (out_of x s)) (rw (e, g) (h.0 x)) h.0, h.1, h.2, h.3)

  effect_range : (m : Choice) (s : Runner) → Queued s m → Ranged ls s → Ranged ls (effect m s)
  unfolding effect
  effect_range Choice.Credit s l h = (h.0, h.1, (granted_by s.limits.input.unit s.limits ls s.input h.2.0, h.2.1), h.3)
  effect_range (Choice.End x) s l h = queue_kept x ended_out s refl refl h
  effect_range (Choice.Output x n) s l h = output_range x n s (l x n refl) h
  effect_range _ s l h = h

  handed_range : (w : Option Request) (s : Runner) → Ranged ls s → Ranged ls (wish_effect w s)
  unfolding wish_effect
  handed_range (Some (Request.Discard x)) s h = queue_kept x asked_out s refl refl h
  handed_range _ s h = h

abbrev pub RangedS : State → Type 0
RangedS s = Ranged s.lengths s.runner

pub range_next : (c : Call) (s : State) → RangedS s → RangedS (next s c)
unfolding next credit_next input_next input_lengths end_next output_next discarded_next closed_next failed_next hung_up_next written_next Streams.written_lengths settled_next
range_next (Call.credit k p u) s h =
    let r : Runner = s.runner in
    let c = credits_range (admits r.key k) (output_pool r.limits.shared (has_notes r.limits) p) r.flags.finished u r.credits h.1 in
    (h.0, c, h.2, h.3)
range_next (Call.input k b) s h =
    let r : Runner = s.runner in
    (h.0, h.1, input_if (is_taken (admits r.key k) r) r.limits s.lengths (length b) r.input h.2, h.3)
range_next (Call.end_input k) s h = (h.0, h.1, end_if (is_taken (admits s.runner.key k) s.runner) s.runner.limits s.lengths s.runner.input h.2, h.3)
range_next (Call.cancel now k c) s h = cancel_keeps _ (timed s.lengths) (admits s.runner.key k) now c s.runner h
range_next (Call.launched x) s h = launched_keeps _ (timed s.lengths) x s.runner h
range_next (Call.output x b) s h =
    let r : Runner = s.runner in
    open_keeps RangedS s _ x (
      on_out (has_notes r.limits) r.outputs (Queue r.limits.chunk) x _ (kept_range r.limits.chunk (out_of x r).start (out_of x r).queued (is_shut x r) (out_of x r).discarding (length b) (h.0 x)) h.0,
      h.1,
      h.2,
      h.3,
    ) h
range_next (Call.discarded x n) s h = open_keeps RangedS s _ x (queue_kept s.lengths x (lost_out (ltb 0 n)) s.runner refl refl h) h
range_next (Call.output_closed x) s h = open_keeps RangedS s _ x (queue_kept s.lengths x closed_out s.runner refl refl h) h
range_next (Call.output_failed x) s h = open_keeps RangedS s _ x (queue_kept s.lengths x failed_out s.runner refl refl h) h
range_next (Call.output_hung_up x) s h = open_keeps RangedS s _ x (queue_kept s.lengths x hung_up s.runner refl refl h) h
range_next (Call.input_written n) s h = (h.0, h.1, written_range s.runner.limits s.lengths n s.runner.input h.2, h.3)
range_next Call.input_closed s h = (timed s.lengths).closes s.runner h
range_next (Call.exited now x) s h = exited_keeps _ (timed s.lengths) now x s.runner h
range_next (Call.dropped now) s h = detach_keeps _ (timed s.lengths) now Cause.Dropped s.runner h
range_next (Call.reset now) s h = detach_keeps _ (timed s.lengths) now Cause.Reset s.runner h
range_next (Call.disconnect now) s h = detach_keeps _ (timed s.lengths) now Cause.Disconnected s.runner h
range_next (Call.tick now) s h = tick_keeps _ (timed s.lengths) now s.runner h
range_next Call.next_request s h = handed_range s.lengths (wish s.runner) s.runner h
range_next (Call.next_message b) s h = effect_range s.lengths (choose s.runner (length b)) s.runner (chosen_queued s.runner (length b)) h
range_next _ s h = h

-- ---- from open, over a list

-- open is answered ok
pub record Lent (c : Conf) (bytes lengths : List ℕ) : Type 0 where
  pub chunk : 0 < c.limits.chunk
  pub size : 0 < c.limits.input.size
  pub limits : is_valid c.limits ≡ true
  pub grants : grant_fits c.smallest c.limits.input.size ≡ true
  pub need : need_fits c.limits ≡ true
  pub room : byte_need c.limits ≤ length bytes
  pub slots : length_need c.limits ≤ length lengths

pub lent : (c : Conf) (bytes lengths : List ℕ) → open_stop c.limits c.smallest (bytes_do c.limits bytes && lengths_do c.limits lengths) ≡ Ok tt → Lent c bytes lengths
lent c bytes lengths e =
    let l = c.limits in
    let p = is_opened l c.smallest (bytes_do l bytes && lengths_do l lengths) e in
    let q = both (ltb 0 l.chunk && ltb 0 l.input.size) (ltb 0 l.output.size) p.0 in
    let b = both (ltb 0 l.chunk) (ltb 0 l.input.size) q.0 in
    let d = both (bytes_do l bytes) (lengths_do l lengths) p.3 in
    record {
      chunk = ltb-true 0 l.chunk b.0;
      size = ltb-true 0 l.input.size b.1;
      limits = p.0;
      grants = p.1;
      need = p.2;
      room = leb-true (byte_need l) (length bytes) d.0;
      slots = leb-true (length_need l) (length lengths) d.1;
    }

area_some : (u : units.Unit) (l : Limits) → 0 < l.chunk → 0 < l.input.size → 0 < area_as u l
unfolding bytes_with
area_some Bytes l a b = b
area_some Frames l a b = let z = mul-le-mul {n₁ = 1} {m₁ = 1} {n₂ = l.input.size} {m₂ = l.chunk} b a in omega arith

open_by_lem : (u : units.Unit) (l : Limits) (lengths : List ℕ) → 0 < l.input.size → length_need_as u l.input.size ≤ length lengths → Held u l lengths 0 l.input.size 0 0 0
open_by_lem Bytes l lengths a b = (omega arith, refl, refl)
open_by_lem Frames l lengths a b = (omega arith, rw (read_none 0 l.input.size 0 lengths) refl, rw (read_none 0 l.input.size 0 lengths) none, a, b)

pub opened_range : (c : Conf) (now : ℕ) (bytes lengths : List ℕ) → Lent c bytes lengths → RangedS (begun c now bytes lengths)
unfolding fresh
opened_range c now bytes lengths o =
    let l : Limits = c.limits in (
      out_open (λ (x : Output). Fits l.chunk x.start x.queued) (has_notes l) (record { inside = o.chunk; within = omega arith }) (record { inside = o.chunk; within = omega arith }),
      account_range,
      (open_by_lem l.input.unit l lengths o.size o.slots, area_some l.input.unit l o.chunk o.size),
      omega arith,
    )
  where
    account_range : AllWithin (new_credit c.limits.output.size ∷ new_credit c.limits.output.size ∷ new_credit c.limits.output.size ∷ [])
    account_range Stdout = omega arith
    account_range Stderr = omega arith
    account_range Notes = omega arith

pub list_range : (cs : List Call) (s : State) → RangedS s → RangedS (after_all s cs)
list_range [] s h = h
list_range (c ∷ cs) s h = list_range cs (next s c) (range_next c s h)

-- ---- so 12 is never answered

ring_ok : (start size : ℕ) → start < size → ring_fits start size ≡ true
ring_ok start size h = or_left (ltb start size) (eqb size 0 && eqb start 0) (lt-ltb start size h)

out_ok : (n : ℕ) (o : Output) → Fits n o.start o.queued → output_fits n o ≡ true
unfolding output_fits
out_ok n o h = and_from (leb o.queued n) (ring_fits o.start n) (le-leb o.queued n h.within) (ring_ok o.start n h.inside)

units_ok : (u : units.Unit) (l : Limits) (lengths : List ℕ) (i : Input) → HeldIn u l lengths i
    → (units_fit i.window (inbox_held u i.inbox) l.input.size && frames_fit u l.input.size l.chunk i.inbox) ≡ true
units_ok Bytes l lengths i h = and_from _ _ (le-leb (i.window.open + i.window.returnable + i.inbox.length) l.input.size h.0) (and_from _ _ (eq-eqb i.inbox.first 0 h.1) (eq-eqb i.inbox.frames 0 h.2))
units_ok Frames l lengths i h =
    let z = h.0 in let s = h.1 in
    let t = sum_most l.chunk (waiting lengths l.input.size i.inbox.first i.inbox.frames) h.2 in
    let w = waiting_length lengths l.input.size i.inbox.first i.inbox.frames h.4 h.3 (omega arith) in
    let e : length (waiting lengths l.input.size i.inbox.first i.inbox.frames) * l.chunk ≡ i.inbox.frames * l.chunk = ap (λ (x : ℕ). x * l.chunk) w in
    and_from _ _ (le-leb (i.window.open + i.window.returnable + i.inbox.frames) l.input.size h.0)
    (and_from _ _ (ring_ok i.inbox.first l.input.size h.3) (le-leb i.inbox.length (i.inbox.frames * l.chunk) (omega arith)))

pub in_range_lem : (lengths : List ℕ) (s : Runner) → Ranged lengths s → in_range s ≡ true
unfolding in_range
in_range_lem lengths s h =
    and_from _ _
    (and_from _ _
    (and_from _ _ (of_every _ (λ x. out_ok s.limits.chunk (out_of x s) (h.0 x))) (of_every _ (λ x. or_right (not (has s.limits x)) _ (le-leb _ _ (h.1 x)))))
    (and_from _ _ (and_from _ _ (ring_ok s.input.inbox.start (input_bytes s.limits) h.2.1) (le-leb s.input.inbox.length (input_bytes s.limits) (holds_by s.limits.input.unit s.limits lengths s.input h.2.0)))
    (units_ok s.limits.input.unit s.limits lengths s.input h.2.0)))
    (le-leb s.turn (last_turn s.limits) h.3)
