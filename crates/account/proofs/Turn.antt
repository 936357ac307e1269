-- The turn: a stream that Terminal reports untruncated was sent whole and closed by the program, and no byte is added to it any more.
use Rattle.exec.specs.Limits.{has}
use mathlib.Core.Bool.{Bool, true, false, not, ◌&&◌, ◌||◌, true≢false, false≢true}
use mathlib.Core.Path.{◌≡◌, refl, sym, ap, ◌∙◌, subst, subst⁻¹}
use mathlib.Core.List.{List, [], ◌∷◌, ◌++◌, append-nil}
use mathlib.Core.Logic.{inl, inr}
use Prim.Native.Nat.{ℕ, ◌+◌, ◌≤◌}
use native.Mathlib.Omega.{arith}
use lib.Dec.{ltb}
use lib.ListN.{length, length-append}
use borrow.Author.Tests.{ltb-false}
use Rattle.exec.specs.declared.Outcome.{Outcome}
use Rattle.exec.specs.declared.Stream.{Stream}
use Rattle.exec.specs.Each.{one}
use Rattle.exec.specs.Outcome.{is_truncated}
use Rattle.output.specs.declared.Output.{Output}
use Rattle.output.specs.Output.{is_done}
use Rattle.runner.specs.Message.{effect}
use Rattle.runner.specs.State.{out_of}
use Rattle.runner.specs.Streams.{output_taken}
use Rattle.calls.specs.Call as Call
use Rattle.calls.specs.Call.{Conf, Call, Answer, Done, count}
use Rattle.account.specs.Step as Step
use Rattle.account.specs.Step.{State}
use Rattle.account.specs.Account.{Account, Replay, Tally, add, account, start, tally_of, cut}
use Rattle.account.specs.Claim.{Opens, IsPrefix, is_message, is_terminal}
use Rattle.account.specs.Records.{Entry, EntryDone, call, next_entry, after_entries, made, calls_of, alike, dones_of, run_entries, entry_account, Whole}
use Rattle.account.specs.TurnClaim.{Has, closing, answer_after, Turn}
use Rattle.account.proofs.Plain.{next, answer, after_all, run, begun, of_open}
use Rattle.account.proofs.Sides.{one_per}
use Rattle.account.proofs.Keeps.{All}
use Rattle.account.proofs.Finish.{Ends, ends, ends_fin, ends_answer, no_more, fin_stays}
use Rattle.account.proofs.Lists.{Course, running, over, open_course, plain_of}
use Rattle.runner.specs.TerminalLaws.{chosen_ready, ready_delivered}
use Rattle.account.proofs.Demand.{same_run, same_answer, same_account as plain_account, lent_open}
use Rattle.account.proofs.EachRecord.{Outputless, AllOutputless, record_outputless}
use Rattle.account.proofs.Records.{same_dones, calls_append, good_open, calls, same_account, at_terminal, whole}
use Rattle.account.proofs.Tells.{take_zero, Same, quiet_same}
use Rattle.account.proofs.Told.{tallied, taken_told, sent_told}
use Rattle.account.proofs.Spared.{dropped_marks, failed_marks, spared}
use Rattle.std.proofs.lemmas.Bool.{or_parts}
use Rattle.ring.specs.Flags.{and_l}
use Rattle.account.proofs.Shut.{closing_call, list_own, start_own, Shut, shut_next}

-- ---- rows: a prefix that is not shorter is the whole

no_rest : (r : List ℕ) → length r ≡ 0 → r ≡ []
no_rest [] e = refl
no_rest (x ∷ r) e = absurd (omega arith)

all_of : (s t : List ℕ) → IsPrefix s t → ltb (length s) (length t) ≡ false → s ≡ t
all_of s t p e =
    let m : length t ≤ length s = ltb-false (length s) (length t) e in
    let l : length t ≡ length s + length p.0 = ap length p.1 ∙ length-append s p.0 in
    sym (p.1 ∙ ap (λ (r : List ℕ). s ++ r) (no_rest p.0 (omega arith)) ∙ append-nil s)

uncut_sent : (t : Tally) → IsPrefix t.sent t.taken → cut t ≡ false → t.sent ≡ t.taken
unfolding cut
uncut_sent t p e = all_of t.sent t.taken p (or_parts (ltb (length t.sent) (length t.taken)) t.mark e).0

unmarked : (t : Tally) → cut t ≡ false → t.mark ≡ false
unfolding cut
unmarked t e = (or_parts (ltb (length t.sent) (length t.taken)) t.mark e).1

-- ---- final: a runner that has finished has its streams closed, and takes and says no more

shut_takes : (c : Call) (s : State) → Shut s.runner → (x : Stream) (b : List ℕ) → c ≡ Call.output x b → count (answer s c) ≡ 0
unfolding answer output_taken
shut_takes c s h x b e = rw e (of_open (λ r. count r ≡ 0) s x (Call.Taken _) (rw (h x) refl) refl)

-- Terminal comes where each stream is closed
delivered_closed : (d : Bool) (o : Output) → (is_done o && (o.ended || d)) ≡ true → o.closed ≡ true
delivered_closed d o e = and_l o.closed (not (ltb 0 o.queued)) (and_l (is_done o) (o.ended || d) e)

terminal_shut : (s : State) (c : Call) → is_terminal (answer s c) ≡ true → Shut s.runner
terminal_shut s c e x =
    let d : Ends s c = ends c s e in
    delivered_closed s.runner.flags.detached (out_of x s.runner) (ready_delivered s.runner (chosen_ready (length d.buffer) s.runner d.chosen) x)

after_shut : (s : State) (c : Call) → is_terminal (answer s c) ≡ true → Shut (next s c).runner
unfolding next effect
after_shut s c e = let d : Ends s c = ends c s e in rw (d.call, d.chosen) (terminal_shut s c e)

-- what was taken and sent by the account z is as it was
module _ (z : Account) where
  list_same : (ds : List Call) (s : State) (a : Account) → s.runner.flags.finished ≡ true → Shut s.runner → All (Same z) a → All (Same z) (account a (run s ds))
  list_same [] s a f h p = p
  list_same (d ∷ ds) s a f h p =
      list_same ds (next s d) (add a d (answer s d)) (fin_stays d s f) (shut_next d s f h)
      (quiet_same z d (answer s d) a (λ x b e. take_zero (count (answer s d)) b (shut_takes d s h x b e)) (λ x b e. true≢false (sym (ap is_message e) ∙ no_more d s f)) p)

  terminal_same : (c : Call) (ds : List Call) (s : State) (a : Account) → is_terminal (answer s c) ≡ true → All (Same z) a → All (Same z) (account a (run s (c ∷ ds)))
  terminal_same c ds s a e p =
      list_same ds (next s c) (add a c (answer s c)) (ends_fin s c (ends c s e)) (after_shut s c e)
      (quiet_same z c (answer s c) a (λ x b d. take_zero (count (answer s c)) b (ap count (ends_answer s c (ends c s e)))) (λ x b d. false≢true (sym (ap is_terminal d) ∙ e)) p)

-- ---- a record closes no stream

unclosed : (m : List Call) (r : Answer) (x : Stream) (ds : List Done) → AllOutputless m → Has (closing_call x) (alike r m ++ ds) → Has (closing_call x) ds
unclosed [] r x ds n h = h
unclosed (c ∷ m) r x ds n (inl e) = absurd (subst Outputless (ap (λ (d : Done). d.call) (sym e)) n.0)
unclosed (c ∷ m) r x ds n (inr h) = unclosed m r x ds n.1 h

closing_at : (conf : Conf) (x : Stream) (e : Entry) (r : Answer) (ds : List Done) (es : List EntryDone) → (Has (closing_call x) ds → Has (closing x) es)
    → Has (closing_call x) (alike r (made conf e r) ++ ds) → Has (closing x) (record { entry = e; answer = r } ∷ es)
unfolding made
closing_at conf x (call c) r ds es g (inl e) = inl (ap (λ (d : Done). record { entry = call d.call; answer = d.answer }) e)
closing_at conf x (call c) r ds es g (inr h) = inr (g h)
closing_at conf x e r ds es g h =
    inr (g (unclosed (made conf e r) r x ds (record_outputless conf e r tt) h))

closing_in : (conf : Conf) (x : Stream) (ds : List EntryDone) → Has (closing_call x) (dones_of conf ds) → Has (closing x) ds
closing_in conf x [] h = h
closing_in conf x (d ∷ ds) h = closing_at conf x d.entry d.answer (dones_of conf ds) ds (closing_in conf x ds) h

-- ---- the turn

list_append : (cs ds : List Call) (s : State) (a : Account) → account a (run s (cs ++ ds)) ≡ account (account a (run s cs)) (run (after_all s cs) ds)
list_append [] ds s a = refl
list_append (c ∷ cs) ds s a = list_append cs ds (next s c) (add a c (answer s c))

-- by the account too each stream is closed where Terminal comes
replay_shut : (x : Stream) (s : State) (a : Account) (c : Call) → Course s a → is_terminal (answer s c) ≡ true → one x a.rep.closed ≡ true
replay_shut x s a c (running f r h) e =
    ap (λ (y : Replay). one x y.closed) h.0 ∙ one_per (λ (y : Stream). (out_of y s.runner).closed) x ∙ terminal_shut s c e x
replay_shut x s a c (over f h) e = absurd (false≢true (sym (no_more c s f) ∙ ap is_message (ends_answer s c (ends c s e))))

module _ (conf : Conf) (now : ℕ) (bytes lengths : List ℕ) (op : Opens conf now bytes lengths) where
  w : Whole conf now bytes lengths
  w = whole conf now bytes lengths op

  uncut : (es : List Entry) (e : Entry) (o : Outcome) (x : Stream) → answer_after conf now bytes lengths es e ≡ Call.Says (Call.Terminal o) → is_truncated o x ≡ false
      → cut (tallied conf now bytes lengths es x) ≡ false
  uncut es e o x h u = sym (w.marks es e o h x) ∙ u

  -- the calls of a list, and the state and the account of them
  abbrev made_of : List Entry → List Call
  made_of es = calls conf now bytes lengths op es

  abbrev state : List Entry → State
  state es = after_all (begun conf now bytes lengths) (made_of es)

  abbrev plain : List Entry → Account
  plain es = plain_of conf now bytes lengths (made_of es)

  to_plain : (es : List Entry) → entry_account conf now bytes lengths es ≡ plain es
  to_plain es = same_account conf now bytes lengths op es ∙ plain_account conf now bytes lengths op (made_of es)

  terminal_call : (es : List Entry) (e : Entry) → is_terminal (answer_after conf now bytes lengths es e) ≡ true
      → (c : Call) × (made conf e (answer_after conf now bytes lengths es e) ≡ c ∷ []) × (is_terminal (answer (state es) c) ≡ true)
  terminal_call es e h =
      let q = at_terminal conf now bytes lengths op es e h in
      (q.0, q.3, sym (ap is_terminal (q.2 ∙ same_answer conf now bytes lengths op (made_of es) q.0)) ∙ h)

  own_at : (es : List Entry) (x : Stream) → has conf.limits x ≡ true → one x (plain es).rep.closed ≡ true → (tally_of x (plain es)).mark ≡ false → Has (closing x) (run_entries (Step.opened conf now bytes lengths) es)
  own_at es x =
      list_own conf.limits (λ (y : Stream). Has (closing y) (run_entries (Step.opened conf now bytes lengths) es)) (made_of es) (begun conf now bytes lengths) (start conf now)
      (λ y m. closing_in conf y (run_entries (Step.opened conf now bytes lengths) es)
      (subst⁻¹ (Has (closing_call y)) (same_dones conf es (Step.opened conf now bytes lengths) (good_open conf now bytes lengths op) ∙ same_run conf now bytes lengths op (made_of es)) m))
      (start_own _ conf now) x

  final_at : (es : List Entry) (e : Entry) (ds : List Entry) (c : Call) → made conf e (answer_after conf now bytes lengths es e) ≡ c ∷ [] → is_terminal (answer (state es) c) ≡ true
      → All (Same (plain es)) (plain (es ++ (e ∷ ds)))
  final_at es e ds c m h =
      let s : State = after_entries (Step.opened conf now bytes lengths) es in
      let rest : List Call = calls_of conf (run_entries (next_entry s e) ds) in
      subst⁻¹ (All (Same (plain es)))
      (ap (λ (cs : List Call). account (start conf now) (run (begun conf now bytes lengths) cs))
      (calls_append conf es (e ∷ ds) (Step.opened conf now bytes lengths) ∙ ap (λ (k : List Call). made_of es ++ (k ++ rest)) m)
      ∙ list_append (made_of es) (c ∷ rest) (begun conf now bytes lengths) (start conf now))
      (terminal_same (plain es) c rest (state es) (plain es) h (λ x. (refl, refl)))

  pub turn : Turn conf now bytes lengths
  turn = record {
    rows = λ es e o x h u.
        sym (sent_told conf now bytes lengths op es x) ∙ uncut_sent (tallied conf now bytes lengths es x) (w.joined es x) (uncut es e o x h u)
        ∙ taken_told conf now bytes lengths op es x;
    own = λ es e o x i h u. (let q = terminal_call es e (ap is_terminal h) in
        let course = open_course conf now bytes lengths (lent_open conf now bytes lengths op) (made_of es) in
        own_at es x i (replay_shut x (state es) (plain es) q.0 course q.2)
        (subst (λ (a : Account). (tally_of x a).mark ≡ false) (to_plain es) (unmarked (tallied conf now bytes lengths es x) (uncut es e o x h u))));
    undropped = λ es e o x n i h u l. spared conf now bytes lengths op es e o x (Call.discarded x n) (dropped_marks x conf.limits i n l) h u;
    unfailed = λ es e o x i h u. spared conf now bytes lengths op es e o x (Call.output_failed x) (failed_marks x conf.limits i) h u;
    final = λ es e ds x h. (let q = terminal_call es e h in
        let p : Same (plain es) x true (tallied conf now bytes lengths (es ++ (e ∷ ds)) x) = rw (to_plain (es ++ (e ∷ ds))) (final_at es e ds q.0 q.1 q.2 x) in (
          sym (taken_told conf now bytes lengths op (es ++ (e ∷ ds)) x) ∙ p.0 ∙ ap (λ (a : Account). (tally_of x a).taken) (sym (to_plain es)) ∙ taken_told conf now bytes lengths op es x,
          sym (sent_told conf now bytes lengths op (es ++ (e ∷ ds)) x) ∙ p.1 ∙ ap (λ (a : Account). (tally_of x a).sent) (sym (to_plain es)) ∙ sent_told conf now bytes lengths op es x,
        ));
  }
