-- Messages: the judge accepts each that the runner says, and is in step with it behind it.
use Rattle.std.specs.Prelude.{◌≡◌, refl, Bool, true, false, not, ◌||◌, List, [], ◌∷◌, ℕ, ◌+◌, ◌-◌, ◌≤◌, ◌<◌, min, eqb, ltb, length, Ok}
use Rattle.std.proofs.lemmas.Bool.{true≢false, false≢true, not-true, and_parts, or_from, or_left, or_right, ltb-true, leb-true, le-ltb, ne_eqb, false_from_ne_true}
use Rattle.std.proofs.Common.{sym, ap, ◌∙◌, arith}
use mathlib.Core.Path.{subst⁻¹}
use mathlib.Core.List.{map}
use Rattle.exec.specs.declared.Limits.{Limits}
use Rattle.exec.specs.declared.Stream.{Stream}
use Rattle.exec.specs.declared.Unit as Units
use Rattle.exec.specs.declared.Unit.TheVariants.{Bytes, Frames}
use Rattle.exec.specs.Each.{one}
use Rattle.exec.specs.Limits.{cost, is_valid, pool_of}
use Rattle.exec.specs.Stream.{same_stream}
use Rattle.inbox.specs.Need.{byte_need}
use Rattle.inbox.specs.Receiver.{is_due}
use Rattle.credit.specs.Sender.{spent}
use Rattle.input.specs.declared.Input.{Input}
use Rattle.input.specs.Input.{input_accepts, can_grant}
use Rattle.choice.specs.declared.Choice.{Choice}
use Rattle.runner.specs.declared.runner.Runner.{Runner}
use Rattle.runner.specs.Life.{awaits_launch}
use Rattle.runner.specs.Message.{sendable_of, choose, output_paid, output_sent, effect, payload}
use Rattle.runner.specs.MessageLaws.{Shows, shows, least, chosen, is_payable, payload_length}
use Rattle.runner.specs.Range.{bytes_do, stop}
use Rattle.runner.specs.RangeLaws.{is_good_lem}
use Rattle.runner.specs.State.{out_of, credit_at, put_credit}
use Rattle.calls.specs.Call as Call
use Rattle.calls.specs.Call.{Call, Message}
use Rattle.account.specs.Claim.{is_message}
use Rattle.account.specs.Step.{State}
use Rattle.account.proofs.Demand.{Fine, goes}
use Rattle.account.proofs.Finish.{no_more}
use Rattle.account.proofs.InputRange.{HeldIn}
use Rattle.account.proofs.Plain.{said, enough, next, answer}
use Rattle.account.proofs.Sides.{same_self}
use Rattle.wire.specs.Messages.{said_in}
use Rattle.wire.proofs.Ends as Ends
use Rattle.wire.proofs.Ends.{Tells, call_tells}
use Rattle.judge.specs.declared.Item.{Item}
use Rattle.judge.specs.declared.Judge.{Judge}
use Rattle.judge.specs.Judge.{is_shut, left_at, judged, noted}
use Rattle.talk.specs.TalkClaim.{item_of, items_by}
use Rattle.talk.proofs.Begins.{BeginsIn, begun}
use Rattle.talk.proofs.Judged.{accepts, put_both, noted_ends}
use Rattle.talk.proofs.Rest.{Even, AllEven, Rest}
use Rattle.talk.proofs.Talk.{Talk, Goes}

-- ---- what an Output brings

-- an Output that is chosen has bytes, at most a chunk of them, and they are paid for
record Brings (r : Runner) (x : Stream) (n : ℕ) (store : List ℕ) : Type 0 where
  some : 0 < n
  within : n ≤ r.limits.chunk
  paid : cost r.limits.output.unit n ≤ (credit_at (pool_of r.limits x) r.credits).available
  size : length (payload r x n store) ≡ n

in_chunk : (r : Runner) (x : Stream) (n k : ℕ) → n ≡ sendable_of r k x → n ≤ r.limits.chunk
unfolding sendable_of
in_chunk r x n k e =
    let l = least r.limits.output.unit (credit_at (pool_of r.limits x) r.credits).available (min (min (out_of x r).queued r.limits.chunk) k) in omega arith

brings : (x : Stream) (n : ℕ) (s : State) (buffer : List ℕ) → Fine s → Choice.Output x n ≡ choose s.runner (length buffer) → Brings s.runner x n s.bytes
unfolding enough
brings x n s buffer f e =
    let r : Runner = s.runner in
    let stopped : stop r (bytes_do r.limits s.bytes) ≡ Ok tt = goes s (Call.next_message buffer) f in
    let good = is_good_lem r (bytes_do r.limits s.bytes) stopped in
    let c = chosen r (length buffer) x n e in
    record {
      some = c.some_bytes;
      within = in_chunk r x n (length buffer) c.bytes;
      paid = (is_payable r x n s.bytes buffer good.range (leb-true (byte_need r.limits) (length s.bytes) good.stores_do) e).paid;
      size = payload_length r s.bytes buffer x n stopped e;
    }

Brought : Runner → List ℕ → Choice → Type 0
Brought r store (Choice.Output x n) = Brings r x n store
Brought r store _ = Unit

brought : (m : Choice) (s : State) (buffer : List ℕ) → Fine s → m ≡ choose s.runner (length buffer) → Brought s.runner s.bytes m
unfolding Brought
brought (Choice.Output x n) s buffer f e = brings x n s buffer f e
brought _ s buffer f e = tt

-- what was credited and not brought is within the window
held : (u : Units.Unit) (l : Limits) (lengths : List ℕ) (i : Input) → HeldIn u l lengths i → i.window.open + i.window.returnable ≤ l.input.size
held Bytes l lengths i h = omega (arith, h.0)
held Frames l lengths i h = omega (arith, h.0)

-- ---- each message

module _ (r : Runner) (j : Judge) (valid : is_valid j.limits ≡ true) (h : Talk r j) (runs : r.flags.finished ≡ false) where
  -- Terminal was not heard
  on : j.terminal ≡ false
  on = h.rest.1 ∙ runs

  -- the judge accepts a message and is in step with what it leaves
  abbrev Says : Item → Runner → Type 0
  Says x t = (judged j x ≡ Ok tt) × Rest (noted j x) t × BeginsIn ((noted j x).started || (noted j x).spoken) t

  -- with the ends
  goes_on : (m : Message) (t : Runner) → Tells r t (m ∷ []) → Says (item_of m) t → Goes (item_of m ∷ []) t j
  goes_on m t w p = (
    p.0,
    record { rest = p.1; begins = p.2; ended = λ x. noted_ends m j (Ends.ends r) h.ended x ∙ ap (one x) (sym w.told); muted = w.muted },
  )

  says_credit : 0 < r.input.window.smallest → can_grant r.input ≡ true → r.input.window.open + r.input.window.returnable ≤ r.limits.input.size → Says (Item.Credit r.input.window.returnable) (effect Choice.Credit r)
  unfolding effect
  says_credit g c m =
      let i : Input = r.input in
      let n : ℕ = i.window.returnable in
      let takes = and_parts (input_accepts i) (is_due i.window) c in
      let opens : i.closed ≡ false = not-true i.closed (and_parts (not i.closed) (not i.peer_ended) takes.0).0 in
      let same = h.rest.2.same opens in
      let some = leb-true i.window.smallest n takes.1 in
      let size : j.limits.input.size ≡ r.limits.input.size = ap (λ (l : Limits). l.input.size) h.rest.0 in (
        accepts j (Item.Credit n) valid
            (or_from j.terminal j.input_closed on (h.rest.2.unheard (rw opens refl))) refl refl
            (or_from (eqb n 0) _ (ne_eqb n 0 (omega arith)) (le-ltb j.limits.input.size (j.input_left + n) (omega arith))),
        (h.rest.0, h.rest.1, record { told = h.rest.2.told; unheard = h.rest.2.unheard; same = λ e. omega arith; most = omega arith }, h.rest.3),
        h.begins,
      )

  says_started : r.flags.started_message ≡ true → Says Item.Started (effect Choice.Started r)
  unfolding effect
  says_started s =
      let none = h.begins.none (or_right (awaits_launch r) r.flags.started_message s) in (
        accepts j Item.Started valid (orders none) refl refl refl,
        h.rest,
        begun true (awaits_launch r) false (h.begins.known s) refl,
      )
    where
      orders : (j.started || j.spoken) ≡ false → ((j.terminal || j.started) || j.spoken) ≡ false
      orders e = rw on e

  says_closed : r.input.closed_message ≡ true → Says Item.InputClosed (effect Choice.InputClosed r)
  unfolding effect
  says_closed m =
      let c : r.input.closed ≡ true = h.rest.2.told m in (
        accepts j Item.InputClosed valid (or_from j.terminal j.input_closed on (h.rest.2.unheard (or_right (not r.input.closed) r.input.closed_message m))) refl refl refl,
        (
          h.rest.0,
          h.rest.1,
          record { told = λ e. absurd (false≢true e); unheard = λ e. absurd (false≢true (sym (ap (λ (b : Bool). not b || false) c) ∙ e)); same = λ e. absurd (true≢false (sym c ∙ e)); most = h.rest.2.most },
          h.rest.3,
        ),
        h.begins,
      )

  says_terminal : Says Item.Terminal (effect Choice.Terminal r)
  unfolding effect
  says_terminal = (accepts j Item.Terminal valid on refl refl refl, (h.rest.0, refl, h.rest.2, h.rest.3), h.begins)

  says_end : (x : Stream) → awaits_launch r ≡ false → r.flags.started_message ≡ false → is_shut x j ≡ false → Says (Item.End x) (effect (Choice.End x) r)
  unfolding effect
  says_end x a s e = (
    accepts j (Item.End x) valid (or_from j.terminal (is_shut x j) on e) refl refl refl,
    h.rest,
    begun (j.started || true) (awaits_launch r) r.flags.started_message a s,
  )

  says_output : (x : Stream) (n : ℕ) (store : List ℕ) → Brings r x n store → awaits_launch r ≡ false → r.flags.started_message ≡ false → is_shut x j ≡ false
      → Says (Item.Output x (length (payload r x n store))) (effect (Choice.Output x n) r)
  unfolding effect output_sent output_paid
  says_output x n store b a s e =
      let i : ℕ = pool_of r.limits x in
      let c = credit_at i r.credits in
      let k : Even r.limits.output.size (left_at i j) c = h.rest.3 i in
      let left = k.0 in let paid = b.paid in let some = b.some in
      let even : AllEven r.limits.output.size (noted j (Item.Output x n)).left (put_credit i (spent c (cost r.limits.output.unit n)) r.credits)
      = rw h.rest.0 (put_both (Even r.limits.output.size) j.left r.credits i _ _ (ap (λ (m : ℕ). m - cost r.limits.output.unit n) left, k.1) h.rest.3) in
      subst⁻¹ (λ (m : ℕ). Says (Item.Output x m) (effect (Choice.Output x n) r)) b.size (
        accepts j (Item.Output x n) valid (or_from j.terminal (is_shut x j) on e)
            (rw h.rest.0 (or_from (eqb n 0) (ltb r.limits.chunk n) (ne_eqb n 0 (omega arith)) (le-ltb r.limits.chunk n b.within)))
            (rw h.rest.0 (le-ltb (left_at i j) (cost r.limits.output.unit n) (omega arith))) refl,
        (h.rest.0, h.rest.1, h.rest.2, even),
        begun (j.started || true) (awaits_launch r) r.flags.started_message a s,
      )

  -- a stream of which there is a message has not ended
  unended : (x : Stream) → ((out_of x r).ended ≡ true → (same_stream x x || false) ≡ false) → is_shut x j ≡ false
  unended x q = false_from_ne_true (is_shut x j) (λ e. true≢false (sym (or_left (same_stream x x) false (same_self x)) ∙ q (sym (Ends.at x r) ∙ sym (h.ended x) ∙ e)))

-- ---- the call

told_by : (m : Choice) (r : Runner) (k : ℕ) (store : List ℕ) (j : Judge) → 0 < r.input.window.smallest → Shows r k m → Brought r store m → is_valid j.limits ≡ true
    → (is_message (said m r store) ≡ true → r.flags.finished ≡ false) → r.input.window.open + r.input.window.returnable ≤ r.limits.input.size
    → Tells r (effect m r) (said_in (said m r store)) → Talk r j → Goes (map item_of (said_in (said m r store))) (effect m r) j
unfolding said effect Brought
told_by Choice.None r k store j g w b v f m t h = h
told_by Choice.Credit r k store j g w b v f m t h = goes_on r j v h (f refl) (Call.Credit r.input.window.returnable) _ t (says_credit r j v h (f refl) g w m)
told_by Choice.Started r k store j g w b v f m t h = goes_on r j v h (f refl) Call.Started _ t (says_started r j v h (f refl) w)
told_by Choice.InputClosed r k store j g w b v f m t h = goes_on r j v h (f refl) Call.InputClosed _ t (says_closed r j v h (f refl) w)
told_by (Choice.End x) r k store j g w b v f m t h = goes_on r j v h (f refl) (Call.End x) _ t (says_end r j v h (f refl) x w.0 w.1 (h.ended x ∙ t.once.0))
told_by (Choice.Output x n) r k store j g w b v f m t h =
    goes_on r j v h (f refl) (Call.Output x (payload r x n store)) _ t (says_output r j v h (f refl) x n store b w.0 w.1 (unended r j v h (f refl) x (t.silent x)))
told_by Choice.Terminal r k store j g w b v f m t h = goes_on r j v h (f refl) (Call.Terminal _) _ t (says_terminal r j v h (f refl))

pub message_goes : (buffer : List ℕ) (s : State) (j : Judge) → Fine s → is_valid j.limits ≡ true → Talk s.runner j
    → Goes (items_by (Call.next_message buffer) (answer s (Call.next_message buffer))) (next s (Call.next_message buffer)).runner j
unfolding next answer
message_goes buffer s j f v h =
    let r : Runner = s.runner in
    let c : Call = Call.next_message buffer in
    told_by (choose r (length buffer)) r (length buffer) s.bytes j (ltb-true 0 r.input.window.smallest (and_parts (ltb 0 r.input.window.smallest) _ f.grants).0) (shows (length buffer) r) (brought (choose r (length buffer)) s buffer f refl) v
    (λ e. false_from_ne_true r.flags.finished (λ g. true≢false (sym e ∙ no_more c s g)))
    (held r.limits.input.unit r.limits s.lengths r.input f.sound.ranged.2.0) (call_tells c s h.muted) h
