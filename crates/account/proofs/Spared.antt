-- A stream that Terminal reports untruncated was spared: the list before has no report that bytes of it were dropped, and none that
-- reading it failed, whatever such a call was answered: from open it is not refused, so it marks the stream, and that stays.
use Rattle.exec.specs.declared.Limits.{Limits}
use Rattle.exec.specs.Limits.{has}
use mathlib.Core.Bool.{Bool, true, false, true≢false}
use mathlib.Core.Path.{◌≡◌, refl, sym, ◌∙◌, subst, subst⁻¹, ap}
use mathlib.Core.List.{List, [], ◌∷◌, ◌++◌}
use mathlib.Core.Logic.{inl, inr}
use Prim.Native.Nat.{ℕ, ◌<◌}
use borrow.Author.Tests.{lt-ltb}
use lib.Dec.{ltb}
use lib.ListN.{length}
use Rattle.exec.specs.declared.Outcome.{Outcome}
use Rattle.exec.specs.declared.Stream.{Stream}
use Rattle.exec.specs.Outcome.{is_truncated}
use Rattle.exec.specs.Stream.{same_stream}
use Rattle.calls.specs.Call as Call
use Rattle.calls.specs.Call.{Conf, Call, Answer, Done}
use Rattle.account.specs.Step as Step
use Rattle.account.specs.Step.{State}
use Rattle.account.specs.Account.{Account, Tally, marked, adds, add, account, start, tally_of, cut}
use Rattle.account.specs.Claim.{Opens}
use Rattle.account.specs.Records.{Entry, call, next_entry, answer_entry, made, alike, dones_of, run_entries}
use Rattle.account.specs.TurnClaim.{Has, answer_after}
use Rattle.account.proofs.Plain.{answer}
use Rattle.account.proofs.Demand.{Fine, answer_same}
use Rattle.std.proofs.lemmas.Bool.{or_left, or_right}
use Rattle.account.proofs.Keeps.{All, Stands, add_keeps}
use Rattle.account.proofs.Records.{Good, good_entry, good_open, whole}
use Rattle.account.proofs.Sides.{same_self, on_each}
use Rattle.account.proofs.Told.{tallied}

module _ (x : Stream) where
  abbrev Marked : Stream → Bool → Tally → Type 0
  Marked y k t = same_stream x y ≡ true → t.mark ≡ true

  lasting : (c : Call) (r : Answer) → Stands Marked c r
  lasting c r = record {
    marks = λ y b k t p e. or_right b t.mark (p e);
    lost = λ y k t p e. refl;
    fails = λ y k t d p e. refl;
    closes = λ y k t d f p. p;
    takes = λ y b k t d p. p;
    sends = λ y b k t d p. p;
  }

  stays : (ds : List Done) (a : Account) → All Marked a → All Marked (account a ds)
  stays [] a p = p
  stays (d ∷ ds) a p = stays ds (add a d.call d.answer) (add_keeps Marked d.call d.answer (lasting d.call d.answer) a p)

  behind : (m : List Call) (r : Answer) (ds : List Done) → ((a : Account) → All Marked (account a ds)) → (a : Account) → All Marked (account a (alike r m ++ ds))
  behind [] r ds h a = h a
  behind (c ∷ m) r ds h a = behind m r ds h (add a c r)

  -- a call that marks x where it is made
  abbrev pub Marks : Limits → Call → Type 0
  Marks l c = (s : State) (a : Account) → s.runner.limits ≡ l → Fine s → All Marked (add a c (Step.answer s c))

  pub dropped_marks : (l : Limits) → has l x ≡ true → (n : ℕ) → 0 < n → Marks l (Call.discarded x n)
  unfolding answer add adds
  dropped_marks l o n p s a e f =
      subst⁻¹ (λ (r : Answer). All Marked (add a (Call.discarded x n) r)) (answer_same s (Call.discarded x n) f)
      (rw (e, o)
      (on_each (λ (y : Stream) (t : Tally). same_stream x y ≡ true → t.mark ≡ true) x (marked (ltb 0 n)) a.tallies (λ e. or_left (ltb 0 n) (tally_of x a).mark (lt-ltb 0 n p)) (λ y d e. absurd (true≢false (sym e ∙ d)))))

  pub failed_marks : (l : Limits) → has l x ≡ true → Marks l (Call.output_failed x)
  unfolding answer add adds
  failed_marks l o s a e f =
      subst⁻¹ (λ (r : Answer). All Marked (add a (Call.output_failed x) r)) (answer_same s (Call.output_failed x) f)
      (rw (e, o) (on_each (λ (y : Stream) (t : Tally). same_stream x y ≡ true → t.mark ≡ true) x (marked true) a.tallies (λ e. refl) (λ y d e. absurd (true≢false (sym e ∙ d)))))

  -- an entry that marks x, wherever it stands
  module _ (conf : Conf) (c : Call) (marks : Marks conf.limits c) where
    all_marked : (es : List Entry) (s : State) (a : Account) → Good conf s → Has (call c) es → All Marked (account a (dones_of conf (run_entries s es)))
    unfolding made answer_entry
    all_marked [] s a g h = absurd h
    all_marked (e ∷ es) s a g (inl q) =
        subst (λ (z : Entry). All Marked (account a (dones_of conf (run_entries s (z ∷ es))))) q
        (stays (dones_of conf (run_entries (next_entry s (call c)) es)) (add a c (Step.answer s c)) (marks s a (ap (λ (k : Conf). k.limits) g.same) g.fine))
    all_marked (e ∷ es) s a g (inr h) =
        behind (made conf e (answer_entry s e)) (answer_entry s e) (dones_of conf (run_entries (next_entry s e) es)) (λ b. all_marked es (next_entry s e) b (good_entry conf e s g) h) a

marked_cut : (t : Tally) → t.mark ≡ true → cut t ≡ true
unfolding cut
marked_cut t e = or_right (ltb (length t.sent) (length t.taken)) t.mark e

module _ (conf : Conf) (now : ℕ) (bytes lengths : List ℕ) (op : Opens conf now bytes lengths) where
  pub spared : (es : List Entry) (e : Entry) (o : Outcome) (x : Stream) (c : Call) → Marks x conf.limits c
      → answer_after conf now bytes lengths es e ≡ Call.Says (Call.Terminal o) → is_truncated o x ≡ false → Has (call c) es → ⊥
  spared es e o x c marks t u h =
      true≢false (sym (marked_cut (tallied conf now bytes lengths es x) (all_marked x conf c marks es (Step.opened conf now bytes lengths) (start conf now) (good_open conf now bytes lengths op) h x (same_self x)))
      ∙ sym ((whole conf now bytes lengths op).marks es e o t x) ∙ u)
