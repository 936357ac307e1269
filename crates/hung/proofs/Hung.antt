-- The timeout ends a program that hangs: up to its tick it waits, or a termination has begun, whose give-up is not later than the timeout's;
-- the rest is demand 3's.
use Rattle.account.proofs.Flags.{either}
use Rattle.exec.specs.declared.Stream.{Stream}
use Rattle.exec.specs.Limits.{streams, has}
use Rattle.std.specs.Prelude.{Option, Result, Some, None, Ok, Err}
use Rattle.exec.specs.declared.Admission.TheVariants.{Own}
use Rattle.exec.specs.declared.Admission.{Admission}
use Rattle.runner.specs.declared.answer.Request.{Request}
use Rattle.exec.specs.declared.LaunchFailure.{LaunchFailure}
use Rattle.exec.specs.declared.Refusal.{Refusal}
use mathlib.Core.Bool.{Bool, true, false, or-true, cond}
use mathlib.Core.Path.{◌≡◌, refl, ap, ◌∙◌, subst⁻¹}
use mathlib.Core.List.{List, [], ◌∷◌, ◌++◌}
use Prim.Native.Nat.{ℕ, ◌+◌, ◌^◌, ◌≤◌, ◌<◌}
use native.Mathlib.Omega.{arith}
use native.Mathlib.Nat.{le_refl}
use lib.ListN.{length}
use borrow.Author.Tests.{le-leb}
use Rattle.exec.specs.declared.Cause.{Cause}
use Rattle.exec.specs.Key.{admits}
use Rattle.exec.specs.Time.{due, timeout_at}
use Rattle.lifecycle.specs.Life.{is_fenced}
use Rattle.lifecycle.specs.Setters.{set_timeout_at}
use Rattle.choice.specs.declared.Choice.{Choice}
use Rattle.runner.specs.declared.runner.Runner.{Runner}
use Rattle.runner.specs.Life as Life
use Rattle.runner.specs.Life.{awaits_launch, is_cleaned_up, close_runner_input, end_grace, give_up, abandon_launch, abandon_open_streams, terminate, drop_launch, ticked, note_started, note_launch, launched_next, settled_next, cut_off, cut_off_once, detach_next}
use Rattle.runner.specs.Message.{choose, output_paid, output_sent, effect, wish, wish_effect}
use Rattle.runner.specs.Range.{fresh}
use Rattle.runner.specs.State.{with_clocks}
use Rattle.runner.specs.Streams.{output_next, discarded_next, closed_next, failed_next, hung_up_next, credit_next, input_next, end_next, written_next}
use Rattle.calls.specs.Call.{Conf, Call}
use Rattle.account.specs.Step as Step
use Rattle.account.specs.Step.{State}
use Rattle.account.specs.Claim.{Opens, is_terminal, any_terminal, messages}
use Rattle.account.specs.Records.{call, next_entry, after_entries, run_entries, made, calls_of}
use Rattle.account.proofs.Plain.{next, answer, begun, after_all, run, open_keeps}
use Rattle.account.proofs.Stages.{grace_if, timeout_if, give_up_if, drop_launch_if, abandon_streams_if, abandon_if, stage2, stage3, stage4, stage5, tick_if, tick_is, cancel_if, late, detach_if, launched_if, cancel_next}
use Rattle.account.proofs.Lives.{Frame, ticked_frame, tick_fin}
use Rattle.account.proofs.Finish.{framed, framed_conf, conf_list}
use Rattle.account.proofs.Phase.{Either, left, right}
use Rattle.account.proofs.Timing.{low_grace, low_settle, low_give_up, low_abandon, low_ticked, low_terminate, low_detached_now, low_next}
use Rattle.account.proofs.Five.{Soon, soon_lower, Before, before_terminate, before_list}
use Rattle.account.proofs.Late.{from_call, either_part, opened_conf}
use Rattle.account.proofs.Demand.{same_run}
use Rattle.account.proofs.Records.{good_open, same_any, late_calls}
use Rattle.hung.specs.HungClaim.{RunsOn, Unended, Hung}

-- ---- the timeout waits, and no termination has begun

abbrev Waits : ℕ → Runner → Type 0
Waits d s = (s.clocks.terminated ≡ false) × (s.clocks.timeout_at ≡ Some d)

module _ (d : ℕ) where
  waits_grace : (b : Bool) (s : Runner) → Waits d s → Waits d (grace_if b s)
  unfolding end_grace
  waits_grace false s h = h
  waits_grace true s h = h

  waits_give_up : (b c : Bool) (s : Runner) → Waits d s → Waits d (give_up_if b c s)
  unfolding give_up
  waits_give_up false c s h = h
  waits_give_up true true s h = h
  waits_give_up true false s h = h

  waits_launch : (b : Bool) (s : Runner) → Waits d s → Waits d (drop_launch_if b s)
  unfolding abandon_launch
  waits_launch false s h = h
  waits_launch true s h = h

  waits_streams : (b : Bool) (s : Runner) → Waits d s → Waits d (abandon_streams_if b s)
  unfolding abandon_open_streams
  waits_streams false s h = h
  waits_streams true s h = h

  waits_abandon : (b : Bool) (s : Runner) → Waits d s → Waits d (abandon_if b s)
  unfolding drop_launch
  waits_abandon false s h = h
  waits_abandon true s h = waits_streams (is_fenced (drop_launch s).life.settling) (drop_launch s) (waits_launch (awaits_launch s) s h)

  waits_launched : (b : Bool) (x : Result (Unit {0}) LaunchFailure) (s : Runner) → Waits d s → Waits d (launched_if b x s)
  unfolding note_launch note_started close_runner_input
  waits_launched false x s h = h
  waits_launched true (Ok tt) s h = h
  waits_launched true (Err x) s h = h

  waits_wished : (w : Option Request) (s : Runner) → Waits d s → Waits d (wish_effect w s)
  unfolding wish_effect
  waits_wished (Some (Request.Terminate c)) s h = h
  waits_wished _ s h = h

  waits_effect : (m : Choice) (s : Runner) → Waits d s → Waits d (effect m s)
  unfolding effect output_sent output_paid
  waits_effect (Choice.End x) s h = h
  waits_effect _ s h = h

-- the stages of a tick behind the timeout's
abbrev rest : ℕ → Runner → Runner
rest now s = stage5 now (stage4 now (stage3 now (stage2 now s)))

waits_rest : (d now : ℕ) (s : Runner) → Waits d s → Waits d (rest now s)
waits_rest d now s h =
    let s2 : Runner = stage2 now s in let s3 : Runner = stage3 now s2 in let s4 : Runner = stage4 now s3 in
    waits_abandon d (due s4.clocks.abandon_at now) s4
    (waits_give_up d (due s3.clocks.give_up_at now) (is_cleaned_up s3) s3 (waits_grace d (due s.clocks.grace_until now) s h))

before_rest : (sum now : ℕ) (s : Runner) → Before sum s → Before sum (rest now s)
before_rest sum now s h =
    let s2 : Runner = stage2 now s in let s3 : Runner = stage3 now s2 in let s4 : Runner = stage4 now s3 in
    let h2 : Before sum s2 = (low_grace (Soon sum) (soon_lower sum) (due s.clocks.grace_until now) s h).hold in
    let h3 : Before sum s3 = (low_settle (Soon sum) (soon_lower sum) now s2 h2).hold in
    let h4 : Before sum s4 = (low_give_up (Soon sum) (soon_lower sum) (due s3.clocks.give_up_at now) (is_cleaned_up s3) s3 refl h3).hold in
    (low_abandon (Soon sum) (soon_lower sum) (due s4.clocks.abandon_at now) s4 h4).hold

-- ---- up to t the timeout waits, or the termination has begun that ends by the sum

module _ (conf : Conf) (d t : ℕ) (below : t + conf.timers.grace + conf.timers.settlement < 2 ^ 64) where
  abbrev sum : ℕ
  sum = t + conf.timers.grace + conf.timers.settlement

  abbrev Held : Runner → Type 0
  Held s = Either (Waits d s) (Before sum s)

  -- a termination at t or before
  begins : (now : ℕ) (c : Cause) (s : Runner) → s.timers ≡ conf.timers → now ≤ t → s.clocks.terminated ≡ false → Before sum (terminate s now c)
  begins now c s e l h = before_terminate sum now c s h (rw e (omega arith)) (rw e (omega arith))

  held_terminate : (now : ℕ) (c : Cause) (s : Runner) → s.timers ≡ conf.timers → now ≤ t → Held s → Before sum (terminate s now c)
  held_terminate now c s e l (left h) = begins now c s e l h.0
  held_terminate now c s e l (right h) = (low_terminate (Soon sum) (soon_lower sum) now c s h).hold

  timed_out : (now : ℕ) (s : Runner) → s.timers ≡ conf.timers → now ≤ t → Waits d s → Before sum (rest now (timeout_if true now s))
  timed_out now s e l h = before_rest sum now (timeout_if true now s) (begins now Cause.TimedOut (with_clocks (set_timeout_at None s.clocks) s) e l h.0)

  waits_tick : (f : Bool) (now : ℕ) (s : Runner) → s.timers ≡ conf.timers → now ≤ t → Waits d s → Held (tick_if f now s)
  waits_tick true now s e l h = left h
  waits_tick false now s e l h = go (due s.clocks.timeout_at now)
    where
      go : (b : Bool) → Held (rest now (timeout_if b now s))
      go true = right (timed_out now s e l h)
      go false = left (waits_rest d now s h)

  held_ticked : (now : ℕ) (s : Runner) → s.timers ≡ conf.timers → now ≤ t → Held s → Held (ticked s now)
  held_ticked now s e l (left h) = subst⁻¹ Held (tick_is s now) (waits_tick s.flags.finished now s e l h)
  held_ticked now s e l (right h) = right (low_ticked (Soon sum) (soon_lower sum) now s h).hold

  ticked_timers : (now : ℕ) (s : Runner) → s.timers ≡ conf.timers → (ticked s now).timers ≡ conf.timers
  ticked_timers now s e = ap (λ (x : Frame). x.conf.timers) (ticked_frame now s) ∙ e

  held_cancel_if : (b : Bool) (now : ℕ) (c : Cause) (s : Runner) → s.timers ≡ conf.timers → now ≤ t → Held s → Held (cancel_if b now c s)
  held_cancel_if true now c s e l h = h
  held_cancel_if false now c s e l h = right (held_terminate now c s e l h)

  held_cancel : (k : Result Admission Refusal) (now : ℕ) (c : Cause) (s : Runner) → s.timers ≡ conf.timers → now ≤ t → Held s → Held (cancel_next k now c s)
  unfolding Life.cancel_next
  held_cancel (Ok Own) now c s e l h =
      let u : Runner = ticked s now in held_cancel_if (late u) now c u (ticked_timers now s e) l (held_ticked now s e l h)
  held_cancel _ now c s e l h = h

  held_detach_if : (f b : Bool) (now : ℕ) (c : Cause) (s : Runner) → s.timers ≡ conf.timers → now ≤ t → Held s → Held (detach_if f b now c s)
  held_detach_if true b now c s e l h = h
  held_detach_if false true now c s e l h = h
  held_detach_if false false now c s e l h = right (low_detached_now (Soon sum) (soon_lower sum) now (terminate s now c) (held_terminate now c s e l h)).hold

  held_detach : (now : ℕ) (c : Cause) (s : Runner) → s.timers ≡ conf.timers → now ≤ t → Held s → Held (detach_next s now c)
  unfolding detach_next cut_off_once cut_off
  held_detach now c s e l h =
      let u : Runner = ticked s now in held_detach_if u.flags.finished u.flags.detached now c u (ticked_timers now s e) l (held_ticked now s e l h)

  -- each call but an exit, by its time
  waits_next : (c : Call) (s : State) → s.runner.timers ≡ conf.timers → RunsOn t c → Waits d s.runner → Held (next s c).runner
  unfolding next credit_next input_next end_next launched_next output_next discarded_next closed_next failed_next hung_up_next written_next close_runner_input settled_next
  waits_next (Call.cancel now k c) s e q h = held_cancel (admits s.runner.key k) now c s.runner e (q.1 now refl) (left h)
  waits_next (Call.exited now y) s e q h = absurd (q.0 now y refl)
  waits_next (Call.dropped now) s e q h = held_detach now Cause.Dropped s.runner e (q.1 now refl) (left h)
  waits_next (Call.reset now) s e q h = held_detach now Cause.Reset s.runner e (q.1 now refl) (left h)
  waits_next (Call.disconnect now) s e q h = held_detach now Cause.Disconnected s.runner e (q.1 now refl) (left h)
  waits_next (Call.tick now) s e q h = held_ticked now s.runner e (q.1 now refl) (left h)
  waits_next (Call.launched y) s e q h = left (waits_launched d (awaits_launch s.runner) y s.runner h)
  waits_next Call.next_request s e q h = left (waits_wished d (wish s.runner) s.runner h)
  waits_next (Call.next_message b) s e q h = left (waits_effect d (choose s.runner (length b)) s.runner h)
  waits_next (Call.output x b) s e q h = open_keeps (λ (u : State). Held u.runner) s _ x (left h) (left h)
  waits_next (Call.discarded x n) s e q h = open_keeps (λ (u : State). Held u.runner) s _ x (left h) (left h)
  waits_next (Call.output_closed x) s e q h = open_keeps (λ (u : State). Held u.runner) s _ x (left h) (left h)
  waits_next (Call.output_failed x) s e q h = open_keeps (λ (u : State). Held u.runner) s _ x (left h) (left h)
  waits_next (Call.output_hung_up x) s e q h = open_keeps (λ (u : State). Held u.runner) s _ x (left h) (left h)
  waits_next _ s e q h = left h

  held_next : (c : Call) (s : State) → s.runner.timers ≡ conf.timers → RunsOn t c → Held s.runner → Held (next s c).runner
  held_next c s e q (left h) = waits_next c s e q h
  held_next c s e q (right h) = right (low_next (Soon sum) (soon_lower sum) c s h).hold

  held_list : (cs : List Call) (s : State) → s.runner.timers ≡ conf.timers → Unended t cs → Held s.runner → Held (after_all s cs).runner
  held_list [] s e u h = h
  held_list (c ∷ cs) s e u h =
      held_list cs (next s c) (ap (λ (x : Conf). x.timers) (framed_conf (framed c s)) ∙ e) u.1 (held_next c s e u.0 h)

  -- the tick at t finds the timeout due
  due_ticked : (s : Runner) → s.flags.finished ≡ false → s.timers ≡ conf.timers → d ≤ t → Held s → Before sum (ticked s t)
  due_ticked s f e l (left h) =
      let is_due : due s.clocks.timeout_at t ≡ true = ap (λ (x : (Option ℕ)). due x t) h.1 ∙ le-leb d t l in
      subst⁻¹ (Before sum) (tick_is s t)
      (subst⁻¹ (λ (b : Bool). Before sum (tick_if b t s)) f (subst⁻¹ (λ (b : Bool). Before sum (rest t (timeout_if b t s))) is_due (timed_out t s e (le_refl t) h)))
  due_ticked s f e l (right h) = (low_ticked (Soon sum) (soon_lower sum) t s h).hold

  -- from a runner not finished, up to Terminal
  from_tick : (n : ℕ) (ds es : List Call) (s : State) → s.runner.flags.finished ≡ false → s.runner.timers ≡ conf.timers → d ≤ t → Held s.runner → sum ≤ n → 3 + streams s.runner.limits ≤ messages es
      → any_terminal (run s (Call.tick t ∷ (ds ++ (Call.tick n ∷ es)))) ≡ true
  unfolding next
  from_tick n ds es s f e l h m v =
      let u : State = next s (Call.tick t) in
      let r : any_terminal (run u (ds ++ (Call.tick n ∷ es))) ≡ true = either_part ds (Call.tick n ∷ es) u (tick_fin t s.runner f)
      (λ g. from_call sum n (Call.tick n) es (after_all u ds) g m (before_list sum ds u (due_ticked s.runner f e l h)) refl
      (subst⁻¹ (λ (x : Conf). 3 + streams x.limits ≤ messages es) (conf_list (Call.tick t ∷ ds) s) v)) in
      rw r (or-true (is_terminal (answer s (Call.tick t))))

-- ---- the whole list

waits_open : (conf : Conf) (now d : ℕ) (bytes lengths : List ℕ) → timeout_at conf.timers.timeout now ≡ Some d → Waits d (begun conf now bytes lengths).runner
unfolding fresh
waits_open conf now d bytes lengths e = (refl, e)

live_open : (conf : Conf) (now : ℕ) (bytes lengths : List ℕ) → (begun conf now bytes lengths).runner.flags.finished ≡ false
unfolding fresh
live_open conf now bytes lengths = refl

plain : (conf : Conf) (now : ℕ) (bytes lengths : List ℕ) (cs ds es : List Call) (d t n : ℕ) → timeout_at conf.timers.timeout now ≡ Some d → d ≤ t → Unended t cs
    → t + conf.timers.grace + conf.timers.settlement < 2 ^ 64 → t + conf.timers.grace + conf.timers.settlement ≤ n → 3 + streams conf.limits ≤ messages es
    → any_terminal (run (begun conf now bytes lengths) (cs ++ (Call.tick t ∷ (ds ++ (Call.tick n ∷ es))))) ≡ true
plain conf now bytes lengths cs ds es d t n e l u below m v =
    let o : State = begun conf now bytes lengths in
    let opened : o.runner.timers ≡ conf.timers = ap (λ (x : Conf). x.timers) (opened_conf conf now bytes lengths) in
    let after : (after_all o cs).runner.timers ≡ conf.timers = ap (λ (x : Conf). x.timers) (conf_list cs o) ∙ opened in
    either_part cs (Call.tick t ∷ (ds ++ (Call.tick n ∷ es))) o (live_open conf now bytes lengths)
    (λ f. from_tick conf d t below n ds es (after_all o cs) f after l (held_list conf d t below cs o opened u (left (waits_open conf now d bytes lengths e))) m
    (subst⁻¹ (λ (x : Conf). 3 + streams x.limits ≤ messages es) (conf_list cs o ∙ opened_conf conf now bytes lengths) v))

-- THE TIMEOUT ENDS A PROGRAM THAT HANGS, for a runner that open answered ok, stores of any content, and every list of calls, records and frames
pub hung : (conf : Conf) (now : ℕ) (bytes lengths : List ℕ) → Opens conf now bytes lengths → Hung conf now bytes lengths
unfolding made
hung conf now bytes lengths op cs ds es d t n e l u below m v =
    let o : State = Step.opened conf now bytes lengths in
    let s : State = next_entry (after_entries o cs) (call (Call.tick t)) in
    let xs : List Call = calls_of conf (run_entries o cs) in
    let ys : List Call = calls_of conf (run_entries s ds) in
    let zs : List Call = calls_of conf (run_entries (next_entry (after_entries s ds) (call (Call.tick n))) es) in
    same_any conf (cs ++ (call (Call.tick t) ∷ (ds ++ (call (Call.tick n) ∷ es)))) o (good_open conf now bytes lengths op)
    ∙ ap (λ (calls : List Call). any_terminal (Step.run o calls)) (late_calls conf now bytes lengths op cs ds es (call (Call.tick t)) (call (Call.tick n)) o)
    ∙ ap any_terminal (same_run conf now bytes lengths op (xs ++ (Call.tick t ∷ (ys ++ (Call.tick n ∷ zs)))))
    ∙ plain conf now bytes lengths xs ys zs d t n e l u below m v
