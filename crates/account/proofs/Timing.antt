-- Every call keeps the phase that an Applied cancel begins, and after give-up lets the messages left be no more.
use Rattle.exec.specs.Limits.{has_notes}
use Rattle.std.specs.Prelude.{Option, Result, Some, None, Ok, Err}
use Rattle.exec.specs.declared.Admission.TheVariants.{Own}
use Rattle.exec.specs.declared.Admission.{Admission}
use Rattle.exec.specs.declared.LaunchFailure.{LaunchFailure}
use Rattle.exec.specs.declared.Status.{Status}
use Rattle.exec.specs.declared.Refusal.{Refusal}
use mathlib.Core.Bool.{Bool, true, false, cond, not, true≢false}
use mathlib.Core.Path.{◌≡◌, refl, sym, ap, ◌∙◌, subst⁻¹}
use Prim.Native.Nat.{ℕ, ◌≤◌}
use native.Mathlib.Omega.{arith}
use native.Mathlib.Nat.{le_refl}
use lib.Dec.{ltb}
use lib.ListN.{length}
use Rattle.exec.specs.declared.Cause.{Cause}
use Rattle.runner.specs.declared.answer.Request.{Request}
use Rattle.exec.specs.declared.Stream.{Stream}
use Rattle.exec.specs.declared.Stream.TheVariants.{Stdout, Stderr, Notes}
use Rattle.choice.specs.declared.Choice.{Choice}
use Rattle.input.specs.declared.Input.{Input}
use Rattle.output.specs.declared.Output.{Output}
use Rattle.runner.specs.declared.runner.Runner.{Runner}
use Rattle.exec.specs.Time.{earliest, due}
use Rattle.exec.specs.Key.{admits}
use Rattle.lifecycle.specs.Life.{exit_known, is_fenced}
use Rattle.lifecycle.specs.Setters.{set_timeout_at}
use Rattle.input.specs.Input.{close_input, close_when_taken, pop_in, end_input, receive_input, written_input}
use Rattle.output.specs.Output.{grace_ended, given_up, abandoned, closed_out, failed_out, hung_up, lost_out, ended_out, asked_out, sent_out}
use Rattle.output.specs.Outputs.{put_output}
use Rattle.runner.specs.State.{with_clocks, with_input, with_outputs, with_flow, out_of, at}
use Rattle.runner.specs.Life as Life
use Rattle.runner.specs.Life.{awaits_launch, is_cleaned_up, close_runner_input, end_grace, give_up, abandon_launch, abandon_open_streams, terminate, drop_launch, ticked, note_started, note_launch, launched_next, settled_next, note_exit, note_exit_once, exited_next, silenced, give_up_soon, cut_off, cut_off_once, detach_next}
use Rattle.runner.specs.Streams.{room, output_filled, output_next, discarded_next, closed_next, failed_next, hung_up_next, credit_next, is_taken, input_received, input_next, end_next, written_next}
use Rattle.runner.specs.Message.{choose, plain, output_paid, output_sent, effect, wish, handed, wish_effect}
use Rattle.calls.specs.Call.{Call}
use Rattle.account.specs.Step.{State}
use Rattle.account.proofs.Plain.{next, open_keeps}
use Rattle.account.proofs.Flags.{either}
use Rattle.account.proofs.Stages.{grace_if, terminate_if, timeout_if, give_up_if, drop_launch_if, abandon_streams_if, abandon_if, stage1, stage2, stage3, stage4, stage5, tick_if, tick_is, cancel_if, late, detached_now, detach_if, exited_if, launched_if, cancel_next}
use Rattle.account.proofs.Streams.{wider}
use Rattle.account.proofs.Sides.{out_each, on_out, third}
use Rattle.std.proofs.lemmas.Bool.{or_left}
use Rattle.account.proofs.Phase.{Either, left, right, Empty, bit, AllKnown, Phase, left_over, over_overdue, reported_over, cleaned_known, known_given, dry_given, dry_grace, known_grace, InKept, OutKept, kept_asked, kept_end, kept_send, kept_discard, kept_close, kept_fail, kept_hang, kept_intake, kept_ended, kept_written, on_right, not_right}

module _ (P : Option ℕ → Type 0) (lower : (d e : Option ℕ) → P d → P (earliest d e)) where
  pub record Low (s t : Runner) : Type 0 where
    pub hold : Phase P t
    pub less : ((d : Option ℕ) → P d → ⊥) → left_over t ≤ left_over s

  same : {s : Runner} → Phase P s → Low s s
  same {s} h = record { hold = h; less = λ n. le_refl (left_over s) }

  then : {s t u : Runner} → Low s t → (Phase P t → Low t u) → Low s u
  then {s} {t} {u} a f = let b = f a.hold in record { hold = b.hold; less = λ n. (let x = a.less n in let y = b.less n in omega arith) }

  pub low_grace : (b : Bool) (s : Runner) → Phase P s → Low s (grace_if b s)
  unfolding end_grace
  low_grace false s h = same h
  low_grace true s h = record {
    hold = (h.0, h.1, right (dry_grace s), on_right (known_grace s) h.3);
    less = λ n. rw (out_each (has_notes s.limits) s.outputs grace_ended refl Notes) (le_refl (left_over s));
  }

  pub low_terminate : (now : ℕ) (c : Cause) (s : Runner) → Phase P s → Low s (terminate s now c)
  unfolding terminate
  low_terminate now c s h = subst⁻¹ (λ (b : Bool). Low s (terminate_if b now c s)) h.1 (same h)

  pub low_timeout : (b : Bool) (now : ℕ) (s : Runner) → Phase P s → Low s (timeout_if b now s)
  low_timeout false now s h = same h
  low_timeout true now s h = then (record { hold = h; less = λ n. le_refl (left_over s) }) (low_terminate now Cause.TimedOut (with_clocks (set_timeout_at None s.clocks) s))

  pub low_settle : (now : ℕ) (s : Runner) → Phase P s → Low s (stage3 now s)
  low_settle now s h = record {
    hold = (h.0, h.1, h.2, on_right (λ d. record { launch = d.launch; exit = d.exit; closed = d.closed; settled = over_overdue now s.life.settling d.settled }) h.3);
    less = λ n. le_refl (left_over s);
  }

  pub low_give_up : (b c : Bool) (s : Runner) → is_cleaned_up s ≡ c → Phase P s → Low s (give_up_if b c s)
  unfolding give_up
  low_give_up false c s e h = same h
  low_give_up true true s e h = record { hold = (h.0, h.1, h.2, right (cleaned_known s e)); less = λ n. le_refl (left_over s) }
  low_give_up true false s e h = record { hold = (h.0, h.1, right (dry_given s), right (known_given s)); less = λ n. rw (out_each (has_notes s.limits) s.outputs given_up refl Notes) (le_refl (left_over s)) }

  low_left_if : (b : Bool) (s : Runner) → awaits_launch s ≡ b → Phase P s → Low s (drop_launch_if b s)
  unfolding abandon_launch
  low_left_if true s e h = record { hold = (h.0, h.1, h.2, not_right (λ d. true≢false (sym e ∙ d.launch)) h.3); less = λ n. le_refl (left_over s) }
  low_left_if false s e h = same h

  low_left : (s : Runner) → Phase P s → Low s (drop_launch s)
  unfolding drop_launch
  low_left s h = low_left_if (awaits_launch s) s refl h

  low_streams : (b : Bool) (s : Runner) → Phase P s → Low s (abandon_streams_if b s)
  unfolding abandon_open_streams
  low_streams false s h = same h
  low_streams true s h = record {
    hold = (
      h.0,
      h.1,
      on_right (λ d x. rw (out_each (has_notes s.limits) s.outputs abandoned refl x) (record { none = (d x).none; stop = wider (out_of x s).closed (out_of x s).hung_up (out_of x s).discarding (d x).stop })) h.2,
      on_right (λ d. record { launch = d.launch; exit = d.exit; closed = λ x. ap (λ (o : Output). o.closed) (out_each (has_notes s.limits) s.outputs abandoned refl x) ∙ or_left (out_of x s).closed _ (d.closed x); settled = d.settled }) h.3,
    );
    less = λ n. rw (out_each (has_notes s.limits) s.outputs abandoned refl Notes) (le_refl (left_over s));
  }

  pub low_abandon : (b : Bool) (s : Runner) → Phase P s → Low s (abandon_if b s)
  low_abandon false s h = same h
  low_abandon true s h = then (low_left s h) (low_streams (is_fenced (drop_launch s).life.settling) (drop_launch s))

  pub low_tick : (f : Bool) (now : ℕ) (s : Runner) → Phase P s → Low s (tick_if f now s)
  low_tick true now s h = same h
  low_tick false now s h =
      let s1 : Runner = stage1 now s in let s2 : Runner = stage2 now s1 in let s3 : Runner = stage3 now s2 in let s4 : Runner = stage4 now s3 in
      then {s = s} {t = s4} {u = stage5 now s4}
      (then {s = s} {t = s3} {u = s4}
      (then {s = s} {t = s2} {u = s3}
      (then {s = s} {t = s1} {u = s2} (low_timeout (due s.clocks.timeout_at now) now s h) (low_grace (due s1.clocks.grace_until now) s1))
      (low_settle now s2))
      (low_give_up (due s3.clocks.give_up_at now) (is_cleaned_up s3) s3 refl))
      (low_abandon (due s4.clocks.abandon_at now) s4)

  pub low_ticked : (now : ℕ) (s : Runner) → Phase P s → Low s (ticked s now)
  low_ticked now s h = subst⁻¹ (λ (t : Runner). Low s t) (tick_is s now) (low_tick s.flags.finished now s h)

  pub low_cancel_if : (b : Bool) (now : ℕ) (c : Cause) (s : Runner) → Phase P s → Low s (cancel_if b now c s)
  low_cancel_if true now c s h = same h
  low_cancel_if false now c s h = low_terminate now c s h

  low_cancel : (k : Result Admission Refusal) (now : ℕ) (c : Cause) (s : Runner) → Phase P s → Low s (cancel_next k now c s)
  unfolding Life.cancel_next
  low_cancel (Ok Own) now c s h =
      then {s = s} {t = ticked s now} {u = cancel_if (late (ticked s now)) now c (ticked s now)} (low_ticked now s h) (low_cancel_if (late (ticked s now)) now c (ticked s now))
  low_cancel _ now c s h = same h

  pub low_detached_now : (now : ℕ) (s : Runner) → Phase P s → Low s (detached_now now s)
  unfolding end_grace silenced give_up_soon
  low_detached_now now s h = record {
    hold = (h.0, h.1, right (dry_grace s), go h.3);
    less = λ n. rw (out_each (has_notes s.limits) s.outputs grace_ended refl Notes) (omega arith);
  }
    where
      go : Either (P s.clocks.give_up_at) (AllKnown s) → Either (P (detached_now now s).clocks.give_up_at) (AllKnown (detached_now now s))
      go (left p) = left (lower _ _ p)
      go (right d) = right (known_grace s d)

  pub low_detach_if : (f d : Bool) (now : ℕ) (c : Cause) (s : Runner) → Phase P s → Low s (detach_if f d now c s)
  low_detach_if true d now c s h = same h
  low_detach_if false true now c s h = same h
  low_detach_if false false now c s h = then {s = s} {t = terminate s now c} {u = detached_now now (terminate s now c)} (low_terminate now c s h) (low_detached_now now (terminate s now c))

  low_detach : (now : ℕ) (c : Cause) (s : Runner) → Phase P s → Low s (detach_next s now c)
  unfolding detach_next cut_off_once cut_off
  low_detach now c s h =
      let t : Runner = ticked s now in
      then {s = s} {t = t} {u = detach_if t.flags.finished t.flags.detached now c t} (low_ticked now s h) (low_detach_if t.flags.finished t.flags.detached now c t)

  -- a closed input stays as it is
  closed_in : (s : Runner) → s.input.closed ≡ true → close_input s.input s.flags.detached ≡ s.input
  closed_in s e = rw e refl

  low_close : (s : Runner) → Phase P s → Low s (close_runner_input s)
  unfolding close_runner_input
  low_close s h = subst⁻¹ (λ (i : Input). Low s (with_input i s)) (closed_in s h.0) (same h)

  pub low_exited_if : (e g : Bool) (now : ℕ) (x : Option Status) (s : Runner) → exit_known s.life.exit ≡ e → Phase P s → Low s (exited_if e g now x s)
  unfolding note_exit close_runner_input
  low_exited_if true g now x s e h = same h
  low_exited_if false true now x s e h = same h
  low_exited_if false false now x s e h =
      record { hold = (rw (closed_in s h.0) h.0, h.1, h.2, not_right (λ d. true≢false (sym d.exit ∙ e)) h.3); less = λ n. rw (closed_in s h.0) (le_refl (left_over s)) }

  low_exited : (now : ℕ) (x : Option Status) (s : Runner) → Phase P s → Low s (exited_next s now x)
  unfolding exited_next note_exit_once
  low_exited now x s h =
      let s' : Runner = with_clocks (set_timeout_at None s.clocks) s in let t : Runner = ticked s' now in
      let g = low_ticked now s' h in
      then {s = s} {t = t} {u = exited_if (exit_known t.life.exit) t.flags.gave_up now x t} (record { hold = g.hold; less = g.less }) (low_exited_if (exit_known t.life.exit) t.flags.gave_up now x t refl)

  low_launched_if : (b : Bool) (x : Result (Unit {0}) LaunchFailure) (s : Runner) → awaits_launch s ≡ b → Phase P s → Low s (launched_if b x s)
  unfolding note_launch note_started close_runner_input
  low_launched_if false x s e h = same h
  low_launched_if true (Ok tt) s e h = record { hold = (h.0, h.1, h.2, not_right (λ d. true≢false (sym e ∙ d.launch)) h.3); less = λ n. none_left n h.3 }
    where
      none_left : {B : Type 0} → ((d : Option ℕ) → P d → ⊥) → Either (P s.clocks.give_up_at) (AllKnown s) → B
      none_left n (left p) = absurd (n _ p)
      none_left n (right d) = absurd (true≢false (sym e ∙ d.launch))
  low_launched_if true (Err x) s e h =
      record { hold = (rw (closed_in s h.0) h.0, h.1, h.2, not_right (λ d. true≢false (sym e ∙ d.launch)) h.3); less = λ n. rw (closed_in s h.0) (le_refl (left_over s)) }

  -- the input: closed it stays, and its message stays or goes
  low_input : (s : Runner) (j : Input) → InKept s.input j → Phase P s → Low s (with_input j s)
  low_input s j k h = record { hold = (k.0, h.1, h.2, h.3); less = λ n. rw k.1 (le_refl (left_over s)) }

  -- one output changed: what it must keep
  low_out : (x : Stream) (s : Runner) (o : Output) → OutKept (out_of x s) o → Phase P s → Low s (with_outputs (put_output x o s.outputs) s)
  low_out x s o k h = record {
    hold = (
      h.0,
      h.1,
      on_right (λ d. on_out (has_notes s.limits) s.outputs Empty x o (k.drained (d x)) d) h.2,
      on_right (λ d. record { launch = d.launch; exit = d.exit; closed = on_out (has_notes s.limits) s.outputs (λ (y : Stream) (p : Output). p.closed ≡ true) x o (k.closed (d.closed x)) d.closed; settled = d.settled }) h.3,
    );
    less = λ n. fewer_untold x s o k.msg;
  }
    where
      fewer_untold : (x : Stream) (s : Runner) (o : Output) → bit (not o.ended) ≤ bit (not (out_of x s).ended) → left_over (with_outputs (put_output x o s.outputs) s) ≤ left_over s
      fewer_untold Stdout s o m = omega arith
      fewer_untold Stderr s o m = omega arith
      fewer_untold Notes s o m =
          let t = third (has_notes s.limits) s.outputs (λ (p : Output). bit (not p.ended) ≤ bit (not (out_of Notes s).ended)) o m (le_refl (bit (not (out_of Notes s).ended))) in
          omega (arith, t)

  low_at : (x : Stream) (f : Output → Output) (s : Runner) → ((o : Output) → OutKept o (f o)) → Phase P s → Low s (at x f s)
  low_at x f s k h = low_out x s (f (out_of x s)) (k (out_of x s)) h

  low_handed : (q : Request) (s : Runner) → Phase P s → Low s (handed q s)
  low_handed (Request.Discard x) s h = low_at x asked_out s kept_asked h
  low_handed _ s h = record { hold = h; less = λ n. le_refl (left_over s) }

  low_wished : (w : Option Request) (s : Runner) → Phase P s → Low s (wish_effect w s)
  unfolding wish_effect
  low_wished None s h = same h
  low_wished (Some q) s h = low_handed q s h

  -- what a message moves beside its part is no matter here
  low_plain : (s t : Runner) → Low s t → Low s (plain t)
  low_plain s t g = record { hold = g.hold; less = g.less }

  low_paid : (x : Stream) (n : ℕ) (s : Runner) → Phase P s → Low s (output_paid x n s)
  unfolding output_paid
  low_paid x n s h = record { hold = h; less = λ m. le_refl (left_over s) }

  low_sent : (x : Stream) (n : ℕ) (s : Runner) → Phase P s → Low s (output_sent x n s)
  unfolding output_sent
  low_sent x n s h =
      then {s = s} {t = output_paid x n s} {u = at x (sent_out s.limits.chunk n) (output_paid x n s)} (low_paid x n s h)
      (low_at x (sent_out s.limits.chunk n) (output_paid x n s) (kept_send s.limits.chunk n))

  low_high : (s t : Runner) (high : ℕ) → Low s t → Low s (with_flow t.credits t.turn t.flags high t)
  low_high s t high g = record { hold = g.hold; less = g.less }

  low_effect : (m : Choice) (s : Runner) → Phase P s → Low s (effect m s)
  unfolding effect
  low_effect Choice.None s h = same h
  low_effect Choice.Started s h = record { hold = h; less = λ n. omega arith }
  low_effect Choice.InputClosed s h = record { hold = h; less = λ n. omega arith }
  low_effect (Choice.End x) s h = low_plain s (at x ended_out s) (low_at x ended_out s kept_end h)
  low_effect (Choice.Output x n) s h = low_sent x n s h
  low_effect _ s h = record { hold = h; less = λ n. le_refl (left_over s) }

  -- every call keeps the phase, and after give-up lets the messages left be no more
  pub low_next : (c : Call) (s : State) → Phase P s.runner → Low s.runner (next s c).runner
  unfolding next credit_next input_next end_next launched_next output_next discarded_next closed_next failed_next hung_up_next written_next settled_next receive_input written_input
  low_next (Call.credit k p u) s h = record { hold = h; less = λ n. le_refl (left_over s.runner) }
  low_next (Call.input k b) s h =
      let r : Runner = s.runner in let a : (Result Admission Refusal) = admits r.key k in
      low_high r (input_received a r (length b)) _
      (low_input r (cond (is_taken a r) (receive_input r.limits r.input (length b)) r.input)
      (either (InKept r.input) (is_taken a r) (receive_input r.limits r.input (length b)) r.input (h.0, refl) (h.0, refl)) h)
  low_next (Call.end_input k) s h =
      let r : Runner = s.runner in
      low_input r (cond (is_taken (admits r.key k) r) (end_input r.input) r.input)
      (either (InKept r.input) (is_taken (admits r.key k) r) (end_input r.input) r.input (kept_ended r.input h.0) (h.0, refl)) h
  low_next (Call.cancel now k c) s h = low_cancel (admits s.runner.key k) now c s.runner h
  low_next (Call.launched x) s h = low_launched_if (awaits_launch s.runner) x s.runner refl h
  low_next (Call.output x b) s h =
      let r : Runner = s.runner in
      open_keeps (λ (u : State). Low r u.runner) s _ x (low_high r (output_filled r x (length b)) _ (low_out x r _ (kept_intake r.flags.gave_up (room x r) (length b) (out_of x r)) h)) (same h)
  low_next (Call.discarded x n) s h = open_keeps (λ (u : State). Low s.runner u.runner) s _ x (low_at x (lost_out (ltb 0 n)) s.runner (kept_discard (ltb 0 n)) h) (same h)
  low_next (Call.output_closed x) s h = open_keeps (λ (u : State). Low s.runner u.runner) s _ x (low_at x closed_out s.runner kept_close h) (same h)
  low_next (Call.output_failed x) s h = open_keeps (λ (u : State). Low s.runner u.runner) s _ x (low_at x failed_out s.runner kept_fail h) (same h)
  low_next (Call.output_hung_up x) s h = open_keeps (λ (u : State). Low s.runner u.runner) s _ x (low_at x hung_up s.runner kept_hang h) (same h)
  low_next (Call.input_written n) s h =
      let r : Runner = s.runner in
      low_input r _ (kept_written r.input.closed r.input (close_when_taken (pop_in r.limits n s.lengths r.input)) refl h.0) h
  low_next Call.input_closed s h = low_close s.runner h
  low_next (Call.exited now x) s h = low_exited now x s.runner h
  low_next (Call.settled x) s h = record {
    hold = (h.0, h.1, h.2, on_right (λ d. record { launch = d.launch; exit = d.exit; closed = d.closed; settled = reported_over s.runner.life.settling x d.settled }) h.3);
    less = λ n. le_refl (left_over s.runner);
  }
  low_next (Call.dropped now) s h = low_detach now Cause.Dropped s.runner h
  low_next (Call.reset now) s h = low_detach now Cause.Reset s.runner h
  low_next (Call.disconnect now) s h = low_detach now Cause.Disconnected s.runner h
  low_next (Call.tick now) s h = low_ticked now s.runner h
  low_next Call.next_request s h = low_wished (wish s.runner) s.runner h
  low_next (Call.next_message buffer) s h = low_effect (choose s.runner (length buffer)) s.runner h
  low_next _ s h = same h
