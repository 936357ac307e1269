-- The replay keeps step with the runner's life cycle, and each stream with its account, at every stage of a call.
use Rattle.exec.specs.declared.Stream.TheVariants.{Notes}
use Rattle.std.specs.Prelude.{Option, Result, None, Ok}
use Rattle.exec.specs.declared.Admission.TheVariants.{Own}
use Rattle.exec.specs.declared.Admission.{Admission}
use Rattle.exec.specs.declared.Status.{Status}
use Rattle.exec.specs.declared.Refusal.{Refusal}
use mathlib.Core.Bool.{Bool, true, false, cond, ◌||◌, true≢false}
use mathlib.Core.Path.{◌≡◌, refl, ap, ◌∙◌, subst, subst⁻¹}
use mathlib.Core.List.{List}
use Prim.Native.Nat.{ℕ}
use Rattle.exec.specs.declared.Cause.{Cause}
use Rattle.lifecycle.specs.declared.life.Exit.{Exit}
use Rattle.exec.specs.declared.Settlement.{Settlement}
use Rattle.exec.specs.declared.Stream.{Stream}
use Rattle.lifecycle.specs.declared.life.Settling.{Settling}
use Rattle.runner.specs.declared.runner.Runner.{Runner}
use Rattle.exec.specs.Each.{per, both}
use Rattle.exec.specs.Limits.{has_notes}
use Rattle.exec.specs.Time.{after, due}
use Rattle.lifecycle.specs.Life.{launch_known, exit_known, or_lost, is_fenced, is_settled, expired, settle_with}
use Rattle.lifecycle.specs.Setters.{set_timeout_at}
use Rattle.output.specs.Output.{grace_ended, given_up, abandoned}
use Rattle.runner.specs.Life as Life
use Rattle.runner.specs.Life.{awaits_launch, is_cleaned_up, close_runner_input, end_grace, give_up, abandon_launch, abandon_open_streams, begin_termination, pass_grace, terminate, drop_launch, ticked, note_exit, note_exit_once, exited_next, silenced, give_up_soon, cut_off, cut_off_once, detach_next}
use Rattle.runner.specs.SmallestLaws.{close_smallest}
use Rattle.runner.specs.State.{with_clocks, out_of}
use Rattle.calls.specs.Call.{Conf}
use Rattle.account.specs.Account
use Rattle.account.specs.Account.{Account, Replay, Tally, tally_of, marked_unless, mk, begin_if, begin, timeout_r, no_timeout_r, overdue_r, settling_r, is_settled_r, is_fenced_r, cleaned_r, give_up_a, leave_r, abandon_streams_a, abandon_a, tick1, tick3, tick4, tick5, tick_a, cancel_a, detached_r, detach_r, detach_a, exit_r, exit_a, reported_r}
use Rattle.account.proofs.Streams.{Good, end_grace_lem, given_up_lem, abandoned_by}
use Rattle.account.proofs.Sides.{out_each, one_both, one_per, place}
use Rattle.account.proofs.Timers as Timers
use Rattle.account.proofs.Timers.{Kept, tick_keeps}
use Rattle.account.proofs.Stages.{grace_if, terminate_if, timeout_if, give_up_if, drop_launch_if, abandon_streams_if, abandon_if, stage1, stage2, stage3, stage4, stage5, tick_if, tick_is, cancel_if, detach_if, exited_if, cancel_next}

abbrev pub as_replay : Settling → Account.Settling
as_replay Settling.Idle = Account.Idle
as_replay (Settling.Requested d) = Account.Requested d
as_replay Settling.Settled = Account.Settled
as_replay Settling.Fenced = Account.Fenced

overdue_same : (now : ℕ) (x : Settling) → overdue_r now (as_replay x) ≡ as_replay (expired x now)
overdue_same now (Settling.Requested d) = go (due d now)
  where
    go : (b : Bool) → cond b Account.Fenced (Account.Requested d) ≡ as_replay (cond b Settling.Fenced (Settling.Requested d))
    go true = refl
    go false = refl
overdue_same now _ = refl

settled_same : (x : Settling) → is_settled_r (as_replay x) ≡ is_settled x
settled_same (Settling.Requested d) = refl
settled_same _ = refl

fenced_same : (x : Settling) → is_fenced_r (as_replay x) ≡ is_fenced x
fenced_same (Settling.Requested d) = refl
fenced_same _ = refl

pub reported_same : (x : Settling) (y : Settlement) → reported_r (as_replay x) y ≡ as_replay (settle_with x y)
reported_same (Settling.Requested d) Settlement.Settled = refl
reported_same (Settling.Requested d) Settlement.Failed = refl
reported_same _ y = refl

pub given_exit : (x : Exit) → exit_known (or_lost x) ≡ true
given_exit Exit.Running = refl
given_exit (Exit.Ended x) = refl

-- what open was given
abbrev pub conf_of : Runner → Conf
conf_of s = record { key = s.key; limits = s.limits; timers = s.timers; smallest = s.input.window.smallest }

-- what the replay should say of a state
abbrev pub rep : Runner → Replay
rep s = record {
  key = s.key;
  limits = s.limits;
  timers = s.timers;
  timeout = s.clocks.timeout_at;
  begun = s.clocks.terminated;
  give_up = s.clocks.give_up_at;
  abandon = s.clocks.abandon_at;
  launch = launch_known s.life.launch;
  gave_up = s.flags.gave_up;
  left = s.flags.launch_abandoned;
  exit = exit_known s.life.exit;
  settling = as_replay s.life.settling;
  detached = s.flags.detached;
  closed = per (λ (x : Stream). (out_of x s).closed);
  hung = per (λ (x : Stream). (out_of x s).hung_up);
}

-- what is kept of a stream, whose ring stands in the store
abbrev pub GoodAt : List ℕ → Runner → Stream → Tally → Type 0
GoodAt st s x t = Good st (place s.limits x) s.limits.chunk (out_of x s) t

abbrev pub Inv : List ℕ → Runner → Account → Type 0
Inv st s a = (a.rep ≡ rep s) × ((x : Stream) → GoodAt st s x (tally_of x a))

left_if : (b : Bool) (s : Runner) → awaits_launch s ≡ b → leave_r (rep s) ≡ rep (drop_launch_if b s)
unfolding abandon_launch
left_if true s e = rw e refl
left_if false s e = rw e refl

-- abandonment ends the wait for a launch in the replay as in the runner
left_same : (s : Runner) → leave_r (rep s) ≡ rep (drop_launch s)
unfolding drop_launch
left_same s = left_if (awaits_launch s) s refl

left_fenced : (s : Runner) → is_fenced_r (leave_r (rep s)).settling ≡ is_fenced (drop_launch s).life.settling
left_fenced s = ap (λ (r : Replay). is_fenced_r r.settling) (left_same s) ∙ fenced_same (drop_launch s).life.settling

-- ---- no stage finishes the runner or changes what it was opened with

pub record Frame : Type 0 where
  pub conf : Conf
  pub finished : Bool

abbrev pub frame : Runner → Frame
frame s = record { conf = conf_of s; finished = s.flags.finished }

-- the frame, by the smallest grant and whether Terminal came
abbrev framed_by : Runner → (smallest : ℕ) (finished : Bool) → Frame
framed_by r smallest finished = record { conf = record { key = r.key; limits = r.limits; timers = r.timers; smallest = smallest }; finished = finished }

-- so it is kept where the smallest grant is
pub frame_by : (r : Runner) (n : ℕ) → n ≡ r.input.window.smallest → framed_by r n r.flags.finished ≡ frame r
frame_by r n e = ap (λ (n : ℕ). framed_by r n r.flags.finished) e

frame_closes : (r : Runner) → frame (close_runner_input r) ≡ frame r
unfolding close_runner_input
frame_closes r = frame_by r _ (close_smallest r)

pub timed : (s : Runner) → Kept (λ r. frame r ≡ frame s)
timed s = record {
  moves = λ r c l f e p. rw e p;
  closes = λ r p. frame_closes r ∙ p;
  tells = λ r p. p;
  grace = λ r p. p;
  gives = λ r p. p;
  abandons = λ r p. p;
}

pub ticked_frame : (now : ℕ) (s : Runner) → frame (ticked s now) ≡ frame s
ticked_frame now s = tick_keeps _ (timed s) now s refl

pub tick_fin : (now : ℕ) (s : Runner) → s.flags.finished ≡ false → (ticked s now).flags.finished ≡ false
tick_fin now s f = ap (λ (x : Frame). x.finished) (ticked_frame now s) ∙ f

pub cancel_frame : (k : Result Admission Refusal) (now : ℕ) (c : Cause) (s : Runner) → frame (cancel_next k now c s) ≡ frame s
cancel_frame k now c s = Timers.cancel_keeps _ (timed s) k now c s refl

module _ (st : List ℕ) where
  -- to show something of the account, show it where the replay is the state's own
  pub along : (P : Account → Type 0) (s : Runner) (a : Account) → Inv st s a → P (mk (rep s) a.tallies) → P a
  along P s a h p = subst⁻¹ (λ (r : Replay). P (mk r a.tallies)) h.0 p

  abbrev pub home : Runner → Account → Account
  home s a = mk (rep s) a.tallies

  abbrev pub at_home : (s : Runner) (a : Account) → Inv st s a → Inv st s (home s a)
  at_home s a h = (refl, h.1)

  pub grace_inv : (b : Bool) (s : Runner) (a : Account) → Inv st s a → Inv st (grace_if b s) a
  unfolding end_grace
  grace_inv false s a h = h
  grace_inv true s a h = (h.0 ∙ rw (out_each (has_notes s.limits) s.outputs grace_ended refl Notes) refl, λ x. rw (out_each (has_notes s.limits) s.outputs grace_ended refl x) (end_grace_lem st (place s.limits x) s.limits.chunk (out_of x s) (tally_of x a) (h.1 x)))

  terminate_if_inv : (b : Bool) (now : ℕ) (c : Cause) (s : Runner) (a : Account) → Inv st s a → Inv st (terminate_if b now c s) (mk (begin_if b now a.rep) a.tallies)
  unfolding begin_termination pass_grace begin_if
  terminate_if_inv true now c s a h = h
  terminate_if_inv false now c s a h =
      grace_inv (due (after now s.timers.grace) now) (begin_termination s now c) (mk (begin_if false now a.rep) a.tallies) (ap (begin_if false now) h.0, h.1)

  pub terminate_inv : (now : ℕ) (c : Cause) (s : Runner) (a : Account) → Inv st s a → Inv st (terminate s now c) (mk (begin now a.rep) a.tallies)
  unfolding terminate
  terminate_inv now c s a h =
      along (λ (b : Account). Inv st (terminate s now c) (mk (begin now b.rep) b.tallies)) s a h (terminate_if_inv s.clocks.terminated now c s (home s a) (at_home s a h))

  timeout_if_inv : (b : Bool) (now : ℕ) (s : Runner) (a : Account) → Inv st s a → Inv st (timeout_if b now s) (mk (timeout_r b now a.rep) a.tallies)
  unfolding timeout_r
  timeout_if_inv false now s a h = h
  timeout_if_inv true now s a h = terminate_inv now Cause.TimedOut (with_clocks (set_timeout_at None s.clocks) s) (mk (no_timeout_r a.rep) a.tallies) (ap no_timeout_r h.0, h.1)

  stage1_inv : (now : ℕ) (s : Runner) (a : Account) → Inv st s a → Inv st (stage1 now s) (tick1 now a)
  stage1_inv now s a h = along (λ (b : Account). Inv st (stage1 now s) (tick1 now b)) s a h (timeout_if_inv (due s.clocks.timeout_at now) now s (home s a) (at_home s a h))

  stage3_inv : (now : ℕ) (s : Runner) (a : Account) → Inv st s a → Inv st (stage3 now s) (tick3 now a)
  stage3_inv now s a h = along (λ (b : Account). Inv st (stage3 now s) (tick3 now b)) s a h
      (ap (λ (x : Account.Settling). settling_r x (rep s)) (overdue_same now s.life.settling), h.1)

  give_up_if_inv : (b c : Bool) (s : Runner) (a : Account) → Inv st s a → Inv st (give_up_if b c s) (give_up_a b c (home s a))
  unfolding give_up give_up_a
  give_up_if_inv false c s a h = at_home s a h
  give_up_if_inv true true s a h = (refl, h.1)
  give_up_if_inv true false s a h = (
    rw (given_exit s.life.exit, out_each (has_notes s.limits) s.outputs given_up refl Notes) refl,
    λ x. rw (out_each (has_notes s.limits) s.outputs given_up refl x, one_both marked_unless (rep s).closed a.tallies x, one_per (λ (y : Stream). (out_of y s).closed) x) (given_up_lem st (place s.limits x) s.limits.chunk (out_of x s) (tally_of x a) (h.1 x)),
  )

  cleaned_same : (s : Runner) → cleaned_r (rep s) ≡ is_cleaned_up s
  cleaned_same s = rw settled_same refl

  stage4_inv : (now : ℕ) (s : Runner) (a : Account) → Inv st s a → Inv st (stage4 now s) (tick4 now a)
  stage4_inv now s a h = along (λ (b : Account). Inv st (stage4 now s) (tick4 now b)) s a h
      (subst⁻¹ (λ (c : Bool). Inv st (stage4 now s) (give_up_a (due s.clocks.give_up_at now) c (home s a))) (cleaned_same s)
      (give_up_if_inv (due s.clocks.give_up_at now) (is_cleaned_up s) s a h))

  left_if_kept : (b : Bool) (s : Runner) (a : Account) → Inv st s a → Inv st (drop_launch_if b s) (home (drop_launch_if b s) a)
  unfolding abandon_launch
  left_if_kept true s a h = (refl, h.1)
  left_if_kept false s a h = (refl, h.1)

  left_kept : (s : Runner) (a : Account) → Inv st s a → Inv st (drop_launch s) (home (drop_launch s) a)
  unfolding drop_launch
  left_kept s a h = left_if_kept (awaits_launch s) s a h

  streams_inv : (b : Bool) (s : Runner) (a : Account) → Inv st s a → Inv st (abandon_streams_if b s) (abandon_streams_a b (home s a))
  unfolding abandon_open_streams abandon_streams_a
  streams_inv false s a h = at_home s a h
  streams_inv true s a h = (
    rw (out_each (has_notes s.limits) s.outputs abandoned refl Notes) refl,
    λ x. rw (out_each (has_notes s.limits) s.outputs abandoned refl x, one_both marked_unless (both ◌||◌ (rep s).closed (rep s).hung) a.tallies x, one_both ◌||◌ (rep s).closed (rep s).hung x, one_per (λ (y : Stream). (out_of y s).closed) x, one_per (λ (y : Stream). (out_of y s).hung_up) x) (abandoned_by st (place s.limits x) s.limits.chunk (out_of x s) (tally_of x a) (h.1 x)),
  )

  abandon_if_inv : (b : Bool) (s : Runner) (a : Account) → Inv st s a → Inv st (abandon_if b s) (abandon_a b (home s a))
  unfolding drop_launch abandon_launch abandon_a
  abandon_if_inv false s a h = at_home s a h
  abandon_if_inv true s a h =
      subst⁻¹ (λ (c : Bool). Inv st (abandon_if true s) (abandon_streams_a c (mk (leave_r (rep s)) a.tallies))) (left_fenced s)
      (subst⁻¹ (λ (r : Replay). Inv st (abandon_if true s) (abandon_streams_a (is_fenced (drop_launch s).life.settling) (mk r a.tallies))) (left_same s)
      (streams_inv (is_fenced (drop_launch s).life.settling) (drop_launch s) (home (drop_launch s) a) (left_kept s a h)))

  stage5_inv : (now : ℕ) (s : Runner) (a : Account) → Inv st s a → Inv st (stage5 now s) (tick5 now a)
  stage5_inv now s a h = along (λ (b : Account). Inv st (stage5 now s) (tick5 now b)) s a h (abandon_if_inv (due s.clocks.abandon_at now) s a h)

  -- ---- the calls that take a time

  tick_if_inv : (f : Bool) (now : ℕ) (s : Runner) (a : Account) → f ≡ false → Inv st s a → Inv st (tick_if f now s) (tick_a now a)
  unfolding tick_a
  tick_if_inv true now s a e h = let z : true ≡ false = e in absurd (true≢false z)
  tick_if_inv false now s a e h =
      let s1 : Runner = stage1 now s in let s2 : Runner = stage2 now s1 in let s3 : Runner = stage3 now s2 in let s4 : Runner = stage4 now s3 in
      let a1 : Account = tick1 now a in let a3 : Account = tick3 now a1 in let a4 : Account = tick4 now a3 in
      stage5_inv now s4 a4 (stage4_inv now s3 a3 (stage3_inv now s2 a1 (grace_inv (due s1.clocks.grace_until now) s1 a1 (stage1_inv now s a h))))

  pub tick_inv : (now : ℕ) (s : Runner) (a : Account) → s.flags.finished ≡ false → Inv st s a → Inv st (ticked s now) (tick_a now a)
  tick_inv now s a f h = subst⁻¹ (λ (t : Runner). Inv st t (tick_a now a)) (tick_is s now) (tick_if_inv s.flags.finished now s a f h)

  cancel_if_inv : (f e : Bool) (now : ℕ) (c : Cause) (s : Runner) (a : Account) → f ≡ false → s.clocks.terminated ≡ e → Inv st s a
      → Inv st (cancel_if (f || e) now c s) (mk (begin now a.rep) a.tallies)
  unfolding terminate
  cancel_if_inv true e now c s a ff ee h = absurd (true≢false ff)
  cancel_if_inv false false now c s a ff ee h = terminate_inv now c s a h
  cancel_if_inv false true now c s a ff ee h =
      let same : terminate s now c ≡ s = ap (λ (b : Bool). terminate_if b now c s) ee in
      subst (λ (t : Runner). Inv st t (mk (begin now a.rep) a.tallies)) same (terminate_inv now c s a h)

  pub cancel_inv : (k : Result Admission Refusal) (now : ℕ) (c : Cause) (s : Runner) (a : Account) → s.flags.finished ≡ false → Inv st s a → Inv st (cancel_next k now c s) (cancel_a k now a)
  unfolding Life.cancel_next cancel_a
  cancel_inv (Ok Own) now c s a f h =
      cancel_if_inv (ticked s now).flags.finished (ticked s now).clocks.terminated now c (ticked s now) (tick_a now a) (tick_fin now s f) refl (tick_inv now s a f h)
  cancel_inv _ now c s a f h = h

  detach_if_inv : (f d : Bool) (now : ℕ) (c : Cause) (s : Runner) (a : Account) → f ≡ false → Inv st s a
      → Inv st (detach_if f d now c s) (mk (detach_r d now a.rep) a.tallies)
  unfolding end_grace silenced give_up_soon detach_r
  detach_if_inv true d now c s a ff h = absurd (true≢false ff)
  detach_if_inv false true now c s a ff h = h
  detach_if_inv false false now c s a ff h =
      let t : Runner = terminate s now c in
      let g : Inv st t (mk (begin now a.rep) a.tallies) = terminate_inv now c s a h in
      (ap (detached_r now) g.0 ∙ rw (out_each (has_notes t.limits) t.outputs grace_ended refl Notes) refl, λ x. rw (out_each (has_notes t.limits) t.outputs grace_ended refl x) (end_grace_lem st (place t.limits x) t.limits.chunk (out_of x t) (tally_of x a) (g.1 x)))

  pub detach_inv : (now : ℕ) (c : Cause) (s : Runner) (a : Account) → s.flags.finished ≡ false → Inv st s a → Inv st (detach_next s now c) (detach_a now a)
  unfolding detach_next cut_off_once cut_off detach_a
  detach_inv now c s a f h =
      let t : Runner = ticked s now in let b : Account = tick_a now a in let g : Inv st t b = tick_inv now s a f h in
      along (λ (x : Account). Inv st (detach_next s now c) (mk (detach_r x.rep.detached now x.rep) x.tallies)) t b g
      (detach_if_inv t.flags.finished t.flags.detached now c t (home t b) (tick_fin now s f) (at_home t b g))

  exited_if_inv : (e g : Bool) (now : ℕ) (x : Option Status) (s : Runner) (a : Account) → Inv st s a → Inv st (exited_if e g now x s) (mk (exit_r (e || g) now a.rep) a.tallies)
  unfolding note_exit close_runner_input exit_r
  exited_if_inv true g now x s a h = h
  exited_if_inv false true now x s a h = h
  exited_if_inv false false now x s a h = (ap (exit_r false now) h.0, h.1)

  pub exited_inv : (now : ℕ) (x : Option Status) (s : Runner) (a : Account) → s.flags.finished ≡ false → Inv st s a → Inv st (exited_next s now x) (exit_a now a)
  unfolding exited_next note_exit_once exit_a
  exited_inv now x s a f h =
      let s' : Runner = with_clocks (set_timeout_at None s.clocks) s in let a' : Account = mk (no_timeout_r a.rep) a.tallies in
      let t : Runner = ticked s' now in let b : Account = tick_a now a' in
      let g : Inv st t b = tick_inv now s' a' f (ap no_timeout_r h.0, h.1) in
      along (λ (y : Account). Inv st (exited_next s now x) (mk (exit_r (y.rep.exit || y.rep.gave_up) now y.rep) y.tallies)) t b g
      (exited_if_inv (exit_known t.life.exit) t.flags.gave_up now x t (home t b) (at_home t b g))
