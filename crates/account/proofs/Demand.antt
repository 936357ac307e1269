-- Demand 3, whole: the theorems of the calls without refusals 10, 11, 12 and 46, carried to the calls as they are.
use Rattle.std.specs.Prelude.{Result, Some, Ok, Err}
use Rattle.exec.specs.declared.Refusal.{Refusal}
use mathlib.Core.Bool.{true, false, ◌&&◌}
use mathlib.Core.Path.{◌≡◌, refl, sym, ap, ◌∙◌, subst⁻¹}
use mathlib.Core.List.{List, [], ◌∷◌, ◌++◌}
use Prim.Native.Nat.{ℕ, ◌+◌, ◌^◌, ◌≤◌, ◌<◌}
use native.Mathlib.Omega.{arith}
use lib.ListN.{length}
use borrow.Author.Tests.{le-leb}
use Rattle.exec.specs.declared.Cause.{Cause}
use Rattle.exec.specs.declared.Key.{Key}
use Rattle.exec.specs.declared.Limits.{Limits}
use Rattle.exec.specs.declared.Stream.{Stream}
use Rattle.exec.specs.declared.Unit as units
use Rattle.exec.specs.declared.Unit.TheVariants.{Bytes, Frames}
use Rattle.exec.specs.Limits.{is_valid, streams}
use Rattle.exec.specs.Outcome.{is_truncated}
use Rattle.inbox.specs.Need.{byte_need, length_need_as, length_need, need_fits}
use Rattle.input.specs.declared.Input.{Input}
use Rattle.runner.specs.Calls as Calls
use Rattle.runner.specs.Range.{bytes_do, lengths_do, stop, open_stop, fresh}
use Rattle.inbox.specs.Receiver.{grant_fits}
use Rattle.runner.specs.RangeLaws.{grants, unstopped}
use Rattle.calls.specs.Call as Call
use Rattle.calls.specs.Call.{Conf, Call, Done}
use Rattle.account.specs.Step as Step
use Rattle.account.specs.Step.{State}
use Rattle.account.specs.Account.{Account, start, account, tally_of, cut, tick_a}
use Rattle.account.specs.LateClaim.{tick_of}
use Rattle.account.specs.Claim.{Demand3, Opens, IsPrefix, Silent, account_of, is_stop, is_terminal, any_terminal, messages}
use Rattle.account.proofs.Plain.{enough, next, answer, after_all, run, begun}
use Rattle.account.proofs.Guarded.{next_is, answer_is, not_stopped}
use Rattle.account.proofs.Range.{Lent, lent, in_range_lem}
use Rattle.account.proofs.Finish.{framed, framed_conf}
use Rattle.account.proofs.Lists
use Rattle.account.proofs.Lists.{Sound, sound_next, sound_open, plain_of}
use Rattle.account.proofs.Five
use Rattle.account.proofs.Late
use Rattle.account.proofs.InputRange.{HeldIn}
use Rattle.std.proofs.lemmas.Bool.{and_from}

-- what a call is lent does
enough_all : (c : Call) (s : State) → bytes_do s.runner.limits s.bytes ≡ true → lengths_do s.runner.limits s.lengths ≡ true → enough s c ≡ true
unfolding enough
enough_all (Call.input k b) s p q = and_from (bytes_do s.runner.limits s.bytes) (lengths_do s.runner.limits s.lengths) p q
enough_all (Call.output x b) s p q = p
enough_all (Call.input_written n) s p q = q
enough_all (Call.next_message n) s p q = p
enough_all Call.pending_input s p q = p
enough_all _ s p q = refl

-- in Frames the length store does
slots_by : (u : units.Unit) (l : Limits) (lengths : List ℕ) (i : Input) → HeldIn u l lengths i → length_need_as u l.input.size ≤ length lengths
slots_by Bytes l lengths i h = omega arith
slots_by Frames l lengths i h = h.4

-- a state that came from open: in range, lent enough, with limits, and a smallest grant that open takes
pub record Fine (s : State) : Type 0 where
  pub sound : Sound s
  pub limits : is_valid s.runner.limits ≡ true
  pub grants : grants s.runner ≡ true
  pub need : need_fits s.runner.limits ≡ true

pub goes : (s : State) (c : Call) → Fine s → stop s.runner (enough s c) ≡ Ok tt
goes s c h =
    let r = h.sound.ranged in
    unstopped s.runner (enough s c) (in_range_lem s.lengths s.runner r) h.limits h.grants h.need
    (enough_all c s (le-leb (byte_need s.runner.limits) (length s.bytes) h.sound.roomy)
    (le-leb (length_need s.runner.limits) (length s.lengths) (slots_by s.runner.limits.input.unit s.runner.limits s.lengths s.runner.input r.2.0)))

pub fine_next : (c : Call) (s : State) → Fine s → Fine (next s c)
fine_next c s h = record {
  sound = sound_next c s h.sound;
  limits = rw (ap (λ (x : Conf). x.limits) (framed_conf (framed c s))) h.limits;
  grants = subst⁻¹ (λ (x : Conf). grant_fits x.smallest x.limits.input.size ≡ true) (framed_conf (framed c s)) h.grants;
  need = subst⁻¹ (λ (x : Conf). need_fits x.limits ≡ true) (framed_conf (framed c s)) h.need;
}

fine_list : (cs : List Call) (s : State) → Fine s → Fine (after_all s cs)
fine_list [] s h = h
fine_list (c ∷ cs) s h = fine_list cs (next s c) (fine_next c s h)

pub next_same : (s : State) (c : Call) → Fine s → Step.next s c ≡ next s c
next_same s c h = next_is s c (goes s c h)

pub answer_same : (s : State) (c : Call) → Fine s → Step.answer s c ≡ answer s c
answer_same s c h = answer_is s c (goes s c h)

run_same : (cs : List Call) (s : State) → Fine s → Step.run s cs ≡ run s cs
run_same [] s h = refl
run_same (c ∷ cs) s h = rw (next_same s c h, answer_same s c h, run_same cs (next s c) (fine_next c s h)) refl

after_same : (cs : List Call) (s : State) → Fine s → Step.after s cs ≡ after_all s cs
after_same [] s h = refl
after_same (c ∷ cs) s h = rw (next_same s c h) (after_same cs (next s c) (fine_next c s h))

-- ---- open

pub fine_open : (conf : Conf) (now : ℕ) (bytes lengths : List ℕ) → Lent conf bytes lengths → Fine (begun conf now bytes lengths)
unfolding fresh
fine_open conf now bytes lengths o = record { sound = sound_open conf now bytes lengths o; limits = o.limits; grants = o.grants; need = o.need }

pub opens_by : (conf : Conf) (now : ℕ) (bytes lengths : List ℕ) → Opens conf now bytes lengths
    → open_stop conf.limits conf.smallest (bytes_do conf.limits bytes && lengths_do conf.limits lengths) ≡ Ok tt
unfolding Calls.«open»
opens_by conf now bytes lengths op = by (open_stop conf.limits conf.smallest (bytes_do conf.limits bytes && lengths_do conf.limits lengths)) op
  where
    by : (x : Result (Unit {0}) Refusal) → (Calls.open_by x conf.key conf.limits conf.timers conf.smallest now).answer ≡ Ok tt → x ≡ Ok tt
    by (Ok tt) e = refl
    by (Err y) e = e

pub lent_open : (conf : Conf) (now : ℕ) (bytes lengths : List ℕ) → Opens conf now bytes lengths → Lent conf bytes lengths
lent_open conf now bytes lengths op = lent conf bytes lengths (opens_by conf now bytes lengths op)

pub open_same : (conf : Conf) (now : ℕ) (bytes lengths : List ℕ) → Opens conf now bytes lengths → Step.opened conf now bytes lengths ≡ begun conf now bytes lengths
unfolding Calls.«open»
open_same conf now bytes lengths op = rw (opens_by conf now bytes lengths op) refl

-- ---- the demand

module _ (conf : Conf) (now : ℕ) (bytes lengths : List ℕ) (op : Opens conf now bytes lengths) where
  lt : Lent conf bytes lengths
  lt = lent_open conf now bytes lengths op

  f0 : Fine (begun conf now bytes lengths)
  f0 = fine_open conf now bytes lengths lt

  fs : (cs : List Call) → Fine (after_all (begun conf now bytes lengths) cs)
  fs cs = fine_list cs (begun conf now bytes lengths) f0

  pub same_after : (cs : List Call) → Step.after (Step.opened conf now bytes lengths) cs ≡ after_all (begun conf now bytes lengths) cs
  same_after cs = ap (λ (s : State). Step.after s cs) (open_same conf now bytes lengths op) ∙ after_same cs (begun conf now bytes lengths) f0

  pub same_run : (cs : List Call) → Step.run (Step.opened conf now bytes lengths) cs ≡ run (begun conf now bytes lengths) cs
  same_run cs = ap (λ (s : State). Step.run s cs) (open_same conf now bytes lengths op) ∙ run_same cs (begun conf now bytes lengths) f0

  pub same_account : (cs : List Call) → account_of conf now bytes lengths cs ≡ plain_of conf now bytes lengths cs
  same_account cs = ap (λ (ds : List Done). account (start conf now) ds) (same_run cs)

  pub same_answer : (cs : List Call) (c : Call) → Step.answer (Step.after (Step.opened conf now bytes lengths) cs) c ≡ answer (after_all (begun conf now bytes lengths) cs) c
  same_answer cs c = ap (λ (s : State). Step.answer s c) (same_after cs) ∙ answer_same (after_all (begun conf now bytes lengths) cs) c (fs cs)

  same_next : (cs : List Call) (c : Call) → Step.next (Step.after (Step.opened conf now bytes lengths) cs) c ≡ next (after_all (begun conf now bytes lengths) cs) c
  same_next cs c = ap (λ (s : State). Step.next s c) (same_after cs) ∙ next_same (after_all (begun conf now bytes lengths) cs) c (fs cs)

  same_rest : (cs : List Call) (c : Call) (ds : List Call)
      → Step.run (Step.next (Step.after (Step.opened conf now bytes lengths) cs) c) ds ≡ run (next (after_all (begun conf now bytes lengths) cs) c) ds
  same_rest cs c ds =
      let t : State = next (after_all (begun conf now bytes lengths) cs) c in
      ap (λ (s : State). Step.run s ds) (same_next cs c) ∙ run_same ds t (fine_next c (after_all (begun conf now bytes lengths) cs) (fs cs))

  -- the bound after every call that ticks
  pub late_call : (cs ds es : List Call) (t n : ℕ) (k : Key) (c : Cause) (call : Call) → Step.answer (Step.after (Step.opened conf now bytes lengths) cs) (Call.cancel t k c) ≡ Call.Applied
      → t + conf.timers.grace + conf.timers.settlement < 2 ^ 64 → t + conf.timers.grace + conf.timers.settlement ≤ n → tick_of conf call ≡ Some n → 3 + streams conf.limits ≤ messages es
      → any_terminal (Step.run (Step.opened conf now bytes lengths) (cs ++ (Call.cancel t k c ∷ (ds ++ (call ∷ es))))) ≡ true
  late_call cs ds es t n k c call e l m i v =
      subst⁻¹ (λ (ds : List Done). any_terminal ds ≡ true) (same_run (cs ++ (Call.cancel t k c ∷ (ds ++ (call ∷ es)))))
      (Late.any conf now bytes lengths cs ds es t n k c call (sym (same_answer cs _) ∙ e) l m i v)

  pub demand3 : Demand3 conf now bytes lengths
  demand3 = record {
    joined = λ cs x. subst⁻¹ (λ (a : Account). IsPrefix (tally_of x a).sent (tally_of x a).taken) (same_account cs) (Lists.joined conf now bytes lengths lt cs x);
    once = λ cs c ds e. subst⁻¹ Silent (same_rest cs c ds) (Lists.once (after_all (begun conf now bytes lengths) cs) c ds (sym (ap is_terminal (same_answer cs c)) ∙ e));
    marks = λ cs c o e. subst⁻¹ (λ (a : Account). (x : Stream) → is_truncated o x ≡ cut (tally_of x a)) (same_account cs)
        (Lists.marks_at _ _ c o (Lists.open_course conf now bytes lengths lt cs) (sym (same_answer cs c) ∙ e));
    first = λ cs t k c e. (let p = Five.first t k c (after_all (begun conf now bytes lengths) cs) (sym (same_answer cs _) ∙ e) in
        subst⁻¹ (λ (a : Account). (tick_a t a).rep.begun ≡ false) (same_account cs) (Lists.course_begun t _ _ p.0 (Lists.open_course conf now bytes lengths lt cs) ∙ p.1));
    late = λ cs ds es t n k c e l m v. late_call cs ds es t n k c (Call.tick n) e l m refl v;
    ranged = λ cs c. subst⁻¹ (λ (s : State). is_stop (Step.answer s c) ≡ false) (same_after cs)
        (not_stopped (after_all (begun conf now bytes lengths) cs) c (goes (after_all (begun conf now bytes lengths) cs) c (fs cs)));
  }
