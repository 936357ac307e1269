-- Over a list of calls: the invariant, and the first three parts of the demand.
use Rattle.exec.specs.declared.Limits.{Limits}
use Rattle.exec.specs.Limits.{has_notes}
use mathlib.Core.Bool.{Bool, true, false, true≢false, false≢true, cond, not}
use mathlib.Core.Path.{◌≡◌, refl, sym, ap, ◌∙◌}
use mathlib.Core.List.{List, [], ◌∷◌, ◌++◌, append_assoc}
use Prim.Native.Nat.{ℕ, ◌+◌, ◌≤◌, ◌<◌}
use native.Mathlib.Omega.{arith}
use lib.ListN.{length, take}
use Rattle.exec.specs.declared.Outcome.{Outcome}
use Rattle.exec.specs.declared.Stream.{Stream}
use Rattle.exec.specs.declared.Stream.TheVariants.{Stdout, Stderr, Notes}
use Rattle.exec.specs.Outcome.{is_truncated}
use Rattle.ring.specs.RingLaws.{read_none}
use Rattle.output.specs.declared.Output.{Output}
use Rattle.output.specs.Output.{new_output, over as over_output}
use Rattle.runner.specs.declared.runner.Runner.{Runner}
use Rattle.runner.specs.Life.{ticked, outcome_of}
use Rattle.runner.specs.Range as Range
use Rattle.runner.specs.State.{out_of}
use Rattle.calls.specs.Call as Call
use Rattle.calls.specs.Call.{Conf, Call, Answer, count}
use Rattle.account.specs.Step.{State}
use Rattle.account.specs.Account
use Rattle.account.specs.Account.{Replay, Tally, add, account, start, tally_of, cut}
use Rattle.account.specs.Claim.{IsPrefix, is_message, is_terminal, Silent}
use Rattle.account.proofs.Plain.{next, answer, after_all, run, begun}
use Rattle.account.proofs.Streams.{Good, cut_is}
use Rattle.account.proofs.Sides.{out_open, one_per, place, base_behind}
use Rattle.account.proofs.Keeps.{add_keeps}
use Rattle.account.proofs.Range.{RangedS, range_next, Lent, opened_range}
use Rattle.account.proofs.Finish.{Ends, ends, ends_answer, ends_fin, no_more, silent, fin_stays}
use Rattle.account.proofs.Lives.{rep, tick_inv}
use Rattle.runner.specs.TerminalLaws.{chosen_ready, ready_empty}
use Rattle.account.proofs.EachCall.{InvS, Roomy, step_inv, roomy_next}

-- ---- after Terminal: sent stays, taken grows at most

abbrev pub Prefixes : Account.Account → Type 0
Prefixes a = (x : Stream) → IsPrefix (tally_of x a).sent (tally_of x a).taken

longer : (s t b : List ℕ) → IsPrefix s t → IsPrefix s (t ++ b)
longer s t b h = (h.0 ++ b, rw h.1 (append_assoc s h.0 b))

add_pre : (c : Call) (r : Answer) (a : Account.Account) → is_message r ≡ false → Prefixes a → Prefixes (add a c r)
add_pre c r a e h = add_keeps (λ (x : Stream) (k : Bool) (t : Tally). IsPrefix t.sent t.taken) c r (record {
  marks = λ x b k t p. p;
  lost = λ x k t p. p;
  fails = λ x k t d p. p;
  closes = λ x k t d f p. p;
  takes = λ x b k t d p. longer t.sent t.taken (take (count r) b) p;
  sends = λ x b k t d p. absurd (true≢false (sym (ap is_message d) ∙ e));
}) a h

-- ---- over the list

pub record Sound (s : State) : Type 0 where
  pub ranged : RangedS s
  pub roomy : Roomy s

pub sound_next : (c : Call) (s : State) → Sound s → Sound (next s c)
sound_next c s h = record { ranged = range_next c s h.ranged; roomy = roomy_next c s h.ranged h.roomy }

pub data Course (s : State) (a : Account.Account) : Type 0 where
  running : s.runner.flags.finished ≡ false → Sound s → InvS s a → Course s a
  over : s.runner.flags.finished ≡ true → Prefixes a → Course s a

whole_prefix : (q sent taken : List ℕ) (rest : List ℕ) → taken ≡ (sent ++ q) ++ rest → IsPrefix sent taken
whole_prefix q sent taken rest e = (q ++ rest, e ∙ append_assoc sent q rest)

inv_prefixes : (s : State) (a : Account.Account) → InvS s a → Prefixes a
inv_prefixes s a h = λ x. whole_prefix _ (tally_of x a).sent (tally_of x a).taken (h.1 x).0.rest (h.1 x).0.whole

pub course_prefixes : (s : State) (a : Account.Account) → Course s a → Prefixes a
course_prefixes s a (running f r h) = inv_prefixes s a h
course_prefixes s a (over f h) = h

pub step_course : (c : Call) (s : State) (a : Account.Account) → Course s a → Course (next s c) (add a c (answer s c))
step_course c s a (running f r h) = go (next s c).runner.flags.finished refl
  where
    go : (b : Bool) → (next s c).runner.flags.finished ≡ b → Course (next s c) (add a c (answer s c))
    go false e = running e (sound_next c s r) (step_inv c s a f r.ranged r.roomy h)
    go true e = over e (inv_prefixes (next s c) (add a c (answer s c)) (step_inv c s a f r.ranged r.roomy h))
step_course c s a (over f h) = over (fin_stays c s f) (add_pre c (answer s c) a (no_more c s f) h)

pub list_course : (cs : List Call) (s : State) (a : Account.Account) → Course s a → Course (after_all s cs) (account a (run s cs))
list_course [] s a h = h
list_course (c ∷ cs) s a h = list_course cs (next s c) (add a c (answer s c)) (step_course c s a h)

fresh : (st : List ℕ) (b n : ℕ) → 0 < n → b + n ≤ length st → Good st b n new_output Account.none
fresh st b n l area = (
  rw (read_none b n 0 st) (record { rest = []; whole = refl; lost = λ e. absurd (false≢true e); idle = λ e. refl; flag = refl }),
  record { inside = l; within = omega arith },
  area,
)

unread : (st : List ℕ) (b n : ℕ) → 0 < n → b + n ≤ length st → Good st b n over_output Account.none
unread st b n l area = (
  rw (read_none b n 0 st) (record { rest = []; whole = refl; lost = λ e. absurd (false≢true e); idle = λ e. refl; flag = refl }),
  record { inside = l; within = omega arith },
  area,
)

-- what is read of the third stream of a runner just opened
third_closed : (b : Bool) → (cond b new_output over_output).closed ≡ not b
third_closed true = refl
third_closed false = refl

third_hung : (b : Bool) → (cond b new_output over_output).hung_up ≡ false
third_hung true = refl
third_hung false = refl

-- the account of the runner without its guard
abbrev pub plain_of : Conf → ℕ → List ℕ → List ℕ → List Call → Account.Account
plain_of c now bytes lengths cs = account (start c now) (run (begun c now bytes lengths) cs)

pub sound_open : (c : Conf) (now : ℕ) (bytes lengths : List ℕ) → Lent c bytes lengths → Sound (begun c now bytes lengths)
unfolding Range.fresh
sound_open c now bytes lengths o = record { ranged = opened_range c now bytes lengths o; roomy = o.room }

pub open_course : (c : Conf) (now : ℕ) (bytes lengths : List ℕ) → Lent c bytes lengths → (cs : List Call) → Course (after_all (begun c now bytes lengths) cs) (plain_of c now bytes lengths cs)
unfolding Range.fresh start
open_course c now bytes lengths o cs = list_course cs (begun c now bytes lengths) (start c now)
    (running refl (sound_open c now bytes lengths o) (at_rep, at_open))
  where
    n : ℕ
    n = c.limits.chunk

    l : Limits
    l = c.limits

    at_rep : (start c now).rep ≡ rep (Range.fresh c.key c.limits c.timers c.smallest now)
    at_rep = rw (third_closed (has_notes l), third_hung (has_notes l)) refl

    area : (x : Stream) → place l x + n ≤ length bytes
    area x = let z = o.room in let b = base_behind l x in omega arith

    at_open : (x : Stream) → Good bytes (place l x) n (out_of x (Range.fresh c.key l c.timers c.smallest now)) (tally_of x (start c now))
    at_open x =
        rw (one_per (λ (y : Stream). Account.none) x)
        (out_open (λ (u : Output). Good bytes (place l x) n u Account.none) (has_notes l) (fresh bytes (place l x) n o.chunk (area x)) (unread bytes (place l x) n o.chunk (area x)) x)

-- ---- parts one to three

module _ (conf : Conf) (now : ℕ) (bytes lengths : List ℕ) (op : Lent conf bytes lengths) where
  pub joined : (cs : List Call) (x : Stream) → IsPrefix (tally_of x (plain_of conf now bytes lengths cs)).sent (tally_of x (plain_of conf now bytes lengths cs)).taken
  joined cs x = course_prefixes (after_all (begun conf now bytes lengths) cs) (plain_of conf now bytes lengths cs) (open_course conf now bytes lengths op cs) x

pub once : (s : State) (c : Call) (ds : List Call) → is_terminal (answer s c) ≡ true → Silent (run (next s c) ds)
once s c ds e = silent ds _ (ends_fin _ c (ends c _ e))

-- what the outcome says of a stream is its mark
told_cut : (s : Runner) (x : Stream) → is_truncated (outcome_of s) x ≡ (out_of x s).truncated
unfolding outcome_of
told_cut s Stdout = refl
told_cut s Stderr = refl
told_cut s Notes = refl

told : {o p : Outcome} → Call.Says (Call.Terminal o) ≡ Call.Says (Call.Terminal p) → o ≡ p
told e = cc

-- what Terminal reports, while the runner has not finished
pub marks_at : (s : State) (a : Account.Account) (c : Call) (o : Outcome) → Course s a → answer s c ≡ Call.Says (Call.Terminal o)
    → (x : Stream) → is_truncated o x ≡ cut (tally_of x a)
unfolding outcome_of
marks_at s a c o (over f h) e x = absurd (true≢false (sym (ap is_message e) ∙ no_more c s f))
marks_at s a c o (running f r h) e x =
    let d : Ends s c = ends c s (rw e refl) in
    let q = ready_empty s.runner (chosen_ready (length d.buffer) s.runner d.chosen) in
    let w : answer s c ≡ Call.Says (Call.Terminal (outcome_of s.runner)) = ends_answer s c d in
    let same : o ≡ outcome_of s.runner = told (sym e ∙ w) in
    let n : ℕ = s.runner.limits.chunk in
    ap (λ (o : Outcome). is_truncated o x) same ∙ told_cut s.runner x ∙ cut_is s.bytes (place s.runner.limits x) n (out_of x s.runner) (tally_of x a) (h.1 x) (q x)

-- the first of the three events, by the account
pub course_begun : (t : ℕ) (s : State) (a : Account.Account) → s.runner.flags.finished ≡ false → Course s a → (Account.tick_a t a).rep.begun ≡ (ticked s.runner t).clocks.terminated
course_begun t s a f (running g r h) = ap (λ (x : Replay). x.begun) (tick_inv s.bytes t s.runner a f h).0
course_begun t s a f (over g h) = absurd (true≢false (sym g ∙ f))
