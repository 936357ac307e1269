-- Started is told once, and before any Output or End: as long as the launch is awaited or its Started not told, the judge heard none of
-- them; and every call keeps this.
use Rattle.std.specs.Prelude.{◌≡◌, refl, Bool, true, false, cond, not, ◌&&◌, ◌||◌, ℕ, Option, Result, Some, None, Ok, Err}
use Rattle.std.proofs.lemmas.Bool.{true≢false, false≢true, and_left, or_left, or_right}
use mathlib.Core.Bool.{and-false, or-false}
use Rattle.std.proofs.Common.{sym, ◌∙◌}
use Rattle.exec.specs.declared.Admission.TheVariants.{Own}
use Rattle.exec.specs.declared.Admission.{Admission}
use Rattle.exec.specs.declared.Cause.{Cause}
use Rattle.exec.specs.declared.LaunchFailure.{LaunchFailure}
use Rattle.exec.specs.declared.Refusal.{Refusal}
use Rattle.exec.specs.declared.Status.{Status}
use Rattle.exec.specs.Key.{admits}
use Rattle.exec.specs.Time.{due}
use Rattle.lifecycle.specs.Life.{launch_known, is_fenced}
use Rattle.runner.specs.declared.answer.Request.{Request}
use Rattle.runner.specs.declared.runner.Runner.{Runner}
use Rattle.runner.specs.Life.{awaits_launch, is_cleaned_up, is_late, is_over, timeout_cleared, close_runner_input, end_grace, give_up, abandon_launch, abandon_open_streams, begin_termination, pass_grace, terminate, pass_timeout, pass_settlement, give_up_unless_clean, pass_give_up, drop_launch, drop_streams, pass_abandonment, fire, ticked, cancel_next, note_started, note_launch, launched_next, note_exit, note_exit_once, exited_next, settled_next, silenced, give_up_soon, cut_off, cut_off_once, detach_next}
use Rattle.runner.specs.Message.{wish, handed, wish_effect}
use Rattle.runner.specs.Streams.{output_next, discarded_next, closed_next, failed_next, hung_up_next, credit_next, input_next, end_next, written_next}
use Rattle.calls.specs.Call.{Call}
use Rattle.account.specs.Step.{State}
use Rattle.account.proofs.Flags.{either}
use Rattle.account.proofs.Plain.{next, open_keeps}
use Rattle.talk.proofs.Told.{speaks}

-- heard: a Started, an Output or an End; awaits: the launch is awaited; message: its Started is not told yet
pub record Begins (heard awaits message : Bool) : Type 0 where
  pub known : message ≡ true → awaits ≡ false
  pub none : (awaits || message) ≡ true → heard ≡ false

abbrev pub BeginsIn : Bool → Runner → Type 0
BeginsIn heard r = Begins heard (awaits_launch r) r.flags.started_message

-- nothing is to come
pub begun : (heard awaits message : Bool) → awaits ≡ false → message ≡ false → Begins heard awaits message
begun heard awaits message a m = rw (a, m) (record { known = λ e. refl; none = λ e. absurd (false≢true e) })

module _ (heard : Bool) where
  -- the launch is awaited no more
  given : (awaits awaits' message : Bool) → awaits' ≡ false → Begins heard awaits message → Begins heard awaits' message
  given awaits awaits' message f h = rw f (record { known = λ e. refl; none = λ e. h.none (or_right awaits message e) })

  -- a launch that was awaited is known
  launched : (awaits message message' : Bool) → awaits ≡ true → Begins heard awaits message → Begins heard false message'
  launched awaits message message' a h = record { known = λ e. refl; none = λ e. h.none (or_left awaits message a) }

  abbrev P : Runner → Type 0
  P r = BeginsIn heard r

  -- ---- the timers

  graces : (now : ℕ) (r : Runner) → P r → P (pass_grace r now)
  unfolding pass_grace end_grace
  graces now r p = either P (due r.clocks.grace_until now) (end_grace r) r p p

  terminates : (now : ℕ) (c : Cause) (r : Runner) → P r → P (terminate r now c)
  unfolding terminate begin_termination
  terminates now c r p = either P r.clocks.terminated r _ p (graces now (begin_termination r now c) p)

  timeouts : (now : ℕ) (r : Runner) → P r → P (pass_timeout r now)
  unfolding pass_timeout
  timeouts now r p = either P (due r.clocks.timeout_at now) _ r (terminates now Cause.TimedOut (timeout_cleared r) p) p

  gives : (now : ℕ) (r : Runner) → P r → P (pass_give_up r now)
  unfolding pass_give_up give_up_unless_clean give_up
  gives now r p =
      either P (due r.clocks.give_up_at now) _ r
      (either P (is_cleaned_up r) _ (give_up r) p (given (awaits_launch r) _ r.flags.started_message (and_left (not (launch_known r.life.launch) && false) _ (and-false (not (launch_known r.life.launch)))) p)) p

  drops : (r : Runner) → P r → P (drop_launch r)
  unfolding drop_launch abandon_launch
  drops r p = either P (awaits_launch r) (abandon_launch r) r (given (awaits_launch r) _ r.flags.started_message (and-false (not (launch_known r.life.launch) && not r.flags.gave_up)) p) p

  abandons : (now : ℕ) (r : Runner) → P r → P (pass_abandonment r now)
  unfolding pass_abandonment drop_streams abandon_open_streams
  abandons now r p =
      let d : Runner = drop_launch r in
      either P (due r.clocks.abandon_at now) _ r (either P (is_fenced d.life.settling) (abandon_open_streams d) d (drops r p) (drops r p)) p

  settles : (now : ℕ) (r : Runner) → P r → P (pass_settlement r now)
  unfolding pass_settlement
  settles now r p = p

  ticks : (now : ℕ) (r : Runner) → P r → P (ticked r now)
  unfolding ticked fire
  ticks now r p =
      let r1 : Runner = pass_timeout r now in let r2 : Runner = pass_grace r1 now in let r3 : Runner = pass_settlement r2 now in
      either P r.flags.finished r (fire r now) p (abandons now (pass_give_up r3 now) (gives now r3 (settles now r2 (graces now r1 (timeouts now r p)))))

  -- ---- the calls that tick, a launch, and a request

  cancels : (a : Result Admission Refusal) (now : ℕ) (c : Cause) (r : Runner) → P r → P (cancel_next a r now c)
  unfolding cancel_next
  cancels (Ok Own) now c r p =
      let t : Runner = ticked r now in either P (is_late t) t (terminate t now c) (ticks now r p) (terminates now c t (ticks now r p))
  cancels _ now c r p = p

  -- once nothing is told any more
  silent : (r : Runner) → P r → P (silenced r)
  unfolding silenced
  silent r p = record { known = λ e. absurd (false≢true e); none = λ e. p.none (or_left (awaits_launch r) r.flags.started_message (sym (or-false (awaits_launch r)) ∙ e)) }

  detaches : (now : ℕ) (c : Cause) (r : Runner) → P r → P (detach_next r now c)
  unfolding detach_next cut_off_once cut_off give_up_soon end_grace
  detaches now c r p =
      let t : Runner = ticked r now in
      let q : P t = ticks now r p in
      either P (t.flags.finished || t.flags.detached) t (cut_off t now c) q (silent (terminate t now c) (terminates now c t q))

  exits : (now : ℕ) (x : Option Status) (r : Runner) → P r → P (exited_next r now x)
  unfolding exited_next note_exit_once note_exit close_runner_input
  exits now x r p =
      let t : Runner = ticked (timeout_cleared r) now in
      let q : P t = ticks now (timeout_cleared r) p in either P (is_over t) t (note_exit t now x) q q

  launches : (x : Result (Unit {0}) LaunchFailure) (r : Runner) → P r → P (launched_next r x)
  unfolding launched_next note_launch note_started close_runner_input
  launches x r p = by (awaits_launch r) refl x
    where
      by : (b : Bool) → awaits_launch r ≡ b → (x : Result (Unit {0}) LaunchFailure) → P (cond b (note_launch r x) r)
      by false e x = p
      by true e (Ok tt) = launched (awaits_launch r) r.flags.started_message (not r.flags.detached) e p
      by true e (Err f) = launched (awaits_launch r) r.flags.started_message r.flags.started_message e p

  hands : (q : Request) (r : Runner) → P r → P (handed q r)
  hands (Request.Terminate c) r p = p
  hands _ r p = p

  wishes : (w : Option Request) (r : Runner) → P r → P (wish_effect w r)
  unfolding wish_effect
  wishes None r p = p
  wishes (Some q) r p = hands q r p

  -- ---- a call that says no message

  pub begins_on : (c : Call) (s : State) → speaks c ≡ false → P s.runner → P (next s c).runner
  unfolding next credit_next input_next end_next output_next discarded_next closed_next failed_next hung_up_next written_next close_runner_input settled_next
  begins_on (Call.next_message b) s e p = absurd (true≢false e)
  begins_on (Call.cancel now k c) s e p = cancels (admits s.runner.key k) now c s.runner p
  begins_on (Call.launched x) s e p = launches x s.runner p
  begins_on (Call.exited now x) s e p = exits now x s.runner p
  begins_on (Call.dropped now) s e p = detaches now Cause.Dropped s.runner p
  begins_on (Call.reset now) s e p = detaches now Cause.Reset s.runner p
  begins_on (Call.disconnect now) s e p = detaches now Cause.Disconnected s.runner p
  begins_on (Call.tick now) s e p = ticks now s.runner p
  begins_on Call.next_request s e p = wishes (wish s.runner) s.runner p
  begins_on (Call.output x b) s e p = open_keeps (λ (u : State). P u.runner) s _ x p p
  begins_on (Call.discarded x n) s e p = open_keeps (λ (u : State). P u.runner) s _ x p p
  begins_on (Call.output_closed x) s e p = open_keeps (λ (u : State). P u.runner) s _ x p p
  begins_on (Call.output_failed x) s e p = open_keeps (λ (u : State). P u.runner) s _ x p p
  begins_on (Call.output_hung_up x) s e p = open_keeps (λ (u : State). P u.runner) s _ x p p
  begins_on _ s e p = p
