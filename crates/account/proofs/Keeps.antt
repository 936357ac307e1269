-- A claim on each stream, of whether the account has it closed and of its tally: what it must stand for a call and its answer to
-- keep it. The account changes a stream in six ways; all else that it does leaves the streams alone.
use Rattle.std.specs.Prelude.{Result, Ok}
use Rattle.exec.specs.declared.Admission.TheVariants.{Own}
use Rattle.exec.specs.declared.Admission.{Admission}
use Rattle.exec.specs.declared.Refusal.{Refusal}
use mathlib.Core.Bool.{Bool, true, false, not, ◌||◌, cond}
use mathlib.Core.Path.{◌≡◌, refl, subst⁻¹}
use mathlib.Core.List.{List}
use Prim.Native.Nat.{ℕ}
use lib.Dec.{ltb}
use lib.ListN.{take}
use Rattle.exec.specs.declared.Stream.{Stream}
use Rattle.exec.specs.Each.{Each, one, both}
use Rattle.exec.specs.Key.{admits}
use Rattle.exec.specs.Time.{due}
use Rattle.calls.specs.Call as Call
use Rattle.calls.specs.Call.{Call, Answer, Message, is_refused, count}
use Rattle.account.specs.Account
use Rattle.account.specs.Account.{Account, Replay, Tally, mk, marked, marked_unless, taken_by, sent_by, tally_of, heard, hear, adds, add}
use Rattle.account.proofs.Sides.{one_both, one_per, on_each, on_two}

abbrev pub All : (Stream → Bool → Tally → Type 0) → Account → Type 0
All P a = (x : Stream) → P x (one x a.rep.closed) (tally_of x a)

pub record Stands (P : Stream → Bool → Tally → Type 0) (c : Call) (r : Answer) : Type 0 where
  pub marks : (x : Stream) (b k : Bool) (t : Tally) → P x k t → P x k (marked b t)
  -- the runner closes it
  pub lost : (x : Stream) (k : Bool) (t : Tally) → P x k t → P x true (marked true t)
  pub fails : (x : Stream) (k : Bool) (t : Tally) → c ≡ Call.output_failed x → P x k t → P x true (marked true t)
  pub closes : (x : Stream) (k : Bool) (t : Tally) → c ≡ Call.output_closed x → is_refused r ≡ false → P x k t → P x true t
  pub takes : (x : Stream) (b : List ℕ) (k : Bool) (t : Tally) → c ≡ Call.output x b → P x k t → P x k (taken_by (take (count r) b) t)
  pub sends : (x : Stream) (b : List ℕ) (k : Bool) (t : Tally) → r ≡ Call.Says (Call.Output x b) → P x k t → P x k (sent_by b t)

-- ---- what leaves the streams' closing alone

begin_closed : (b : Bool) (now : ℕ) (r : Replay) → (Account.begin_if b now r).closed ≡ r.closed
unfolding Account.begin_if
begin_closed true now r = refl
begin_closed false now r = refl

timeout_closed : (b : Bool) (now : ℕ) (r : Replay) → (Account.timeout_r b now r).closed ≡ r.closed
unfolding Account.timeout_r
timeout_closed true now r = begin_closed r.begun now (Account.no_timeout_r r)
timeout_closed false now r = refl

detach_closed : (b : Bool) (now : ℕ) (r : Replay) → (Account.detach_r b now r).closed ≡ r.closed
unfolding Account.detach_r
detach_closed true now r = refl
detach_closed false now r = begin_closed r.begun now r

exit_closed : (b : Bool) (now : ℕ) (r : Replay) → (Account.exit_r b now r).closed ≡ r.closed
unfolding Account.exit_r
exit_closed true now r = refl
exit_closed false now r = refl

-- ---- each call

module _ (P : Stream → Bool → Tally → Type 0) (c : Call) (r : Answer) (h : Stands P c r) where
  given : (x : Stream) (k : Bool) (t : Tally) → P x k t → P x true (marked_unless k t)
  given x true t p = h.marks x false true t p
  given x false t p = h.lost x false t p

  left : (x : Stream) (k hung : Bool) (t : Tally) → P x k t → P x (k || not hung) (marked_unless (k || hung) t)
  left x true hung t p = h.marks x false true t p
  left x false true t p = h.marks x false false t p
  left x false false t p = h.lost x false t p

  give_up_keeps : (b clean : Bool) (a : Account) → All P a → All P (Account.give_up_a b clean a)
  unfolding Account.give_up_a
  give_up_keeps false clean a p = p
  give_up_keeps true true a p = p
  give_up_keeps true false a p = λ x.
      rw (one_both marked_unless a.rep.closed a.tallies x, one_per (λ (y : Stream). true) x) (given x (one x a.rep.closed) (tally_of x a) (p x))

  streams_keeps : (b : Bool) (a : Account) → All P a → All P (Account.abandon_streams_a b a)
  unfolding Account.abandon_streams_a
  streams_keeps false a p = p
  streams_keeps true a p = λ x.
      rw (one_both marked_unless (both ◌||◌ a.rep.closed a.rep.hung) a.tallies x, one_both ◌||◌ a.rep.closed a.rep.hung x, one_both (λ (k u : Bool). k || not u) a.rep.closed a.rep.hung x)
      (left x (one x a.rep.closed) (one x a.rep.hung) (tally_of x a) (p x))

  abandon_keeps : (b : Bool) (a : Account) → All P a → All P (Account.abandon_a b a)
  unfolding Account.abandon_a
  abandon_keeps false a p = p
  abandon_keeps true a p = streams_keeps (Account.is_fenced_r (Account.leave_r a.rep).settling) (mk (Account.leave_r a.rep) a.tallies) p

  same_closed : (rep : Replay) (a : Account) → rep.closed ≡ a.rep.closed → All P a → All P (mk rep a.tallies)
  same_closed rep a e p = subst⁻¹ (λ (k : Each Bool). (x : Stream) → P x (one x k) (tally_of x a)) e p

  tick_keeps : (now : ℕ) (a : Account) → All P a → All P (Account.tick_a now a)
  unfolding Account.tick_a
  tick_keeps now a p =
      let a1 : Account = Account.tick1 now a in let a3 : Account = Account.tick3 now a1 in let a4 : Account = Account.tick4 now a3 in
      abandon_keeps (due a4.rep.abandon now) a4 (give_up_keeps (due a3.rep.give_up now) (Account.cleaned_r a3.rep) a3
      (same_closed a1.rep a (timeout_closed (due a.rep.timeout now) now a.rep) p))

  cancel_keeps : (k : Result Admission Refusal) (now : ℕ) (a : Account) → All P a → All P (Account.cancel_a k now a)
  unfolding Account.cancel_a
  cancel_keeps (Ok Own) now a p =
      let b : Account = Account.tick_a now a in
      same_closed (Account.begin now b.rep) b (begin_closed b.rep.begun now b.rep) (tick_keeps now a p)
  cancel_keeps _ now a p = p

  detach_keeps : (now : ℕ) (a : Account) → All P a → All P (Account.detach_a now a)
  unfolding Account.detach_a
  detach_keeps now a p =
      let b : Account = Account.tick_a now a in
      same_closed (Account.detach_r b.rep.detached now b.rep) b (detach_closed b.rep.detached now b.rep) (tick_keeps now a p)

  exit_keeps : (now : ℕ) (a : Account) → All P a → All P (Account.exit_a now a)
  unfolding Account.exit_a
  exit_keeps now a p =
      let b : Account = Account.tick_a now (mk (Account.no_timeout_r a.rep) a.tallies) in
      same_closed (Account.exit_r (b.rep.exit || b.rep.gave_up) now b.rep) b (exit_closed (b.rep.exit || b.rep.gave_up) now b.rep)
      (tick_keeps now (mk (Account.no_timeout_r a.rep) a.tallies) p)

  heard_keeps : (m : Message) (a : Account) → r ≡ Call.Says m → All P a → All P (heard m a)
  heard_keeps (Call.Output x b) a e p =
      on_each (λ (y : Stream) (t : Tally). P y (one y a.rep.closed) t) x (sent_by b) a.tallies (h.sends x b _ _ e (p x)) (λ y d. p y)
  heard_keeps _ a e p = p

  hear_keeps : (q : Answer) (a : Account) → r ≡ q → All P a → All P (hear q a)
  hear_keeps (Call.Says m) a e p = heard_keeps m a e p
  hear_keeps _ a e p = p

  adds_keeps : (d : Call) (a : Account) → c ≡ d → is_refused r ≡ false → All P a → All P (adds a d r)
  unfolding adds
  adds_keeps (Call.cancel now k y) a e f p = cancel_keeps (admits a.rep.key k) now a p
  adds_keeps (Call.output x b) a e f p =
      on_each (λ (y : Stream) (t : Tally). P y (one y a.rep.closed) t) x (taken_by (take (count r) b)) a.tallies (h.takes x b _ _ e (p x)) (λ y d. p y)
  adds_keeps (Call.discarded x n) a e f p =
      on_each (λ (y : Stream) (t : Tally). P y (one y a.rep.closed) t) x (marked (ltb 0 n)) a.tallies (h.marks x (ltb 0 n) _ _ (p x)) (λ y d. p y)
  adds_keeps (Call.output_closed x) a e f p =
      on_each (λ (y : Stream) (k : Bool). P y k (tally_of y a)) x (λ (k : Bool). true) a.rep.closed (h.closes x _ _ e f (p x)) (λ y d. p y)
  adds_keeps (Call.output_failed x) a e f p = on_two P x (λ (k : Bool). true) (marked true) a.rep.closed a.tallies (h.fails x _ _ e (p x)) (λ y d. p y)
  adds_keeps (Call.exited now y) a e f p = exit_keeps now a p
  adds_keeps (Call.dropped now) a e f p = detach_keeps now a p
  adds_keeps (Call.reset now) a e f p = detach_keeps now a p
  adds_keeps (Call.disconnect now) a e f p = detach_keeps now a p
  adds_keeps (Call.tick now) a e f p = tick_keeps now a p
  adds_keeps (Call.next_message b) a e f p = hear_keeps r a refl p
  adds_keeps (Call.output_hung_up x) a e f p = p
  adds_keeps _ a e f p = p

  pub add_keeps : (a : Account) → All P a → All P (add a c r)
  unfolding add
  add_keeps a p = by (is_refused r) refl
    where
      by : (b : Bool) → is_refused r ≡ b → All P (cond b a (adds a c r))
      by true f = p
      by false f = adds_keeps c a refl f p
