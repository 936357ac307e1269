-- What stands in the place of Notes where it is not open is never read: with something else there, each change is the same elsewhere.
use Rattle.std.specs.Prelude.{ℕ, zero, suc, ◌<◌, Bool, true, false, cond, not, ◌&&◌, ◌||◌, ◌≡◌, refl, ltb, List, Option, Result, Some, None, Ok, Err}
use Rattle.std.proofs.Common.{arith, sym, ◌∙◌, ap, ltb-true, ltb-false}
use Rattle.std.proofs.lemmas.Bool.{true≢false}
use Rattle.exec.specs.declared.Admission.{Admission}
use Rattle.exec.specs.declared.Admission.TheVariants.{Own}
use Rattle.exec.specs.declared.Cause.{Cause}
use Rattle.exec.specs.declared.Cause.TheVariants.{TimedOut}
use Rattle.exec.specs.declared.LaunchFailure.{LaunchFailure}
use Rattle.exec.specs.declared.Pool.{Pool}
use Rattle.exec.specs.declared.Refusal.{Refusal}
use Rattle.exec.specs.declared.Settlement.{Settlement}
use Rattle.exec.specs.declared.Status.{Status}
use Rattle.exec.specs.declared.Stream.{Stream}
use Rattle.exec.specs.declared.Stream.TheVariants.{Stdout, Stderr, Notes}
use Rattle.exec.specs.declared.Limits.{Limits}
use Rattle.exec.specs.Limits.{cost, output_pool, has, has_notes, pool_of}
use Rattle.exec.specs.Stream.{index, stream_at, following}
use Rattle.exec.specs.Time.{due}
use Rattle.credit.specs.declared.sender.Credit.{Credit}
use Rattle.credit.specs.Sender.{grantable, grant, spent}
use Rattle.lifecycle.specs.declared.life.Launch.TheVariants as Launch
use Rattle.lifecycle.specs.Life.{is_fenced}
use Rattle.lifecycle.specs.Setters.{set_give_up_at, set_launch}
use Rattle.output.specs.declared.Output.{Output}
use Rattle.output.specs.Output.{ended_out, asked_out, sent_out}
use Rattle.runner.specs.declared.runner.Runner.{Runner}
use Rattle.runner.specs.Life.{awaits_launch, is_cleaned_up, is_ready, outcome_of, close_runner_input, end_grace, give_up, abandon_launch, abandon_open_streams, begin_termination, pass_grace, terminate, pass_timeout, pass_settlement, give_up_unless_clean, pass_give_up, drop_launch, drop_streams, pass_abandonment, fire, ticked, is_late, cancel_next, note_started, note_launch, launched_next, note_exit, is_over, note_exit_once, timeout_cleared, exited_next, settled_next, silenced, give_up_soon, cut_off, cut_off_once, detach_next}
use Rattle.runner.specs.Message.{sendable_of, choose, plain, output_paid, output_sent, effect, payload, said_for, buffer_after, wish, wish_effect}
use Rattle.runner.specs.declared.answer.Request.{Request}
use Rattle.runner.specs.MessageLaws.{NamesOpen, open_sends}
use Rattle.runner.specs.Range.{in_range, stop}
use Rattle.runner.specs.State.{with_clocks, with_life, at, credit_at, put_credit}
use Rattle.runner.specs.Streams.{credits_in, credit_in, credit_answer, credit_next, output_taken, output_next, output_store, output_took}
use Rattle.choice.specs.declared.Choice.{Choice}
use Rattle.unopened.proofs.Named.{Wished}
use Rattle.unopened.specs.Alike.{output_kept}
use Rattle.unopened.specs.UnopenedClaim.{replaced}

-- ---- with two streams

-- Notes sends nothing
none_sent : (r : Runner) (buffer : ℕ) → has_notes r.limits ≡ false → sendable_of r buffer Notes ≡ 0
none_sent r buffer h = by (ltb 0 (sendable_of r buffer Notes)) refl
  where
    by : (b : Bool) → ltb 0 (sendable_of r buffer Notes) ≡ b → sendable_of r buffer Notes ≡ 0
    by true e = absurd (true≢false (sym (open_sends r buffer Notes (ltb-true 0 _ e)) ∙ h))
    by false e = omega (arith, ltb-false 0 _ e)

-- the account that another stream pays from is one of the first two
own_account : (l : Limits) (x : Stream) → has_notes l ≡ false → has l x ≡ true → pool_of l x < 2
own_account l x h e = by l.shared x e
  where
    by : (s : Bool) (x : Stream) → has l x ≡ true → cond s 0 (index x) < 2
    by true x e = omega arith
    by false Stdout e = omega arith
    by false Stderr e = omega arith
    by false Notes e = absurd (true≢false (sym e ∙ h))

-- and so is that of a pool, if it is one
by_pool : (P : Result ℕ Refusal → Type 0) → ((i : ℕ) → i < 2 → P (Ok i)) → P (Err Refusal.Pool) → (shared : Bool) (p : Pool) → P (output_pool shared false p)
by_pool P one bad true Pool.Output = one 0 (omega arith)
by_pool P one bad false Pool.Stdout = one 0 (omega arith)
by_pool P one bad false Pool.Stderr = one 1 (omega arith)
by_pool P one bad true _ = bad
by_pool P one bad false _ = bad

-- ---- and with something else in the place of Notes

module _ (o : Output) (c : Credit) where
  abbrev pub other : Runner → Runner
  other = replaced Notes o c

  -- a change is blind to what stands there, and leaves the limits
  abbrev pub Blind : (Runner → Runner) → Type 0
  Blind f = (r : Runner) → has_notes r.limits ≡ false → (f (other r) ≡ other (f r)) × ((f r).limits ≡ r.limits)

  -- one change after another
  on : (g f : Runner → Runner) → Blind g → Blind f → Blind (λ r. g (f r))
  on g f bg bf r h =
      let p = bf r h in
      let q = bg (f r) (ap has_notes p.1 ∙ h) in
      (ap g p.0 ∙ q.0, q.1 ∙ p.1)

  -- and one of two, by a test that is blind too
  branch : (t : Runner → Bool) (f g : Runner → Runner) → ((r : Runner) → has_notes r.limits ≡ false → t (other r) ≡ t r) → Blind f → Blind g
      → Blind (λ r. cond (t r) (f r) (g r))
  branch t f g bt bf bg r h = rw (bt r h, (bf r h).0, (bg r h).0) (by (t r))
    where
      by : (b : Bool) → (cond b (other (f r)) (other (g r)) ≡ other (cond b (f r) (g r))) × ((cond b (f r) (g r)).limits ≡ r.limits)
      by true = (refl, (bf r h).1)
      by false = (refl, (bg r h).1)

  none : Blind (λ r. r)
  none r h = (refl, refl)

  -- ---- what every call meets

  pub met_blind : (r : Runner) (stores : Bool) → has_notes r.limits ≡ false → stop (other r) stores ≡ stop r stores
  unfolding stop in_range
  met_blind r stores h = rw h refl

  clean_blind : (r : Runner) → has_notes r.limits ≡ false → is_cleaned_up (other r) ≡ is_cleaned_up r
  clean_blind r h = rw h refl

  -- ---- time

  pub close_blind : Blind close_runner_input
  unfolding close_runner_input
  close_blind r h = (refl, refl)

  grace_blind : Blind end_grace
  unfolding end_grace
  grace_blind r h = rw h (refl, refl)

  give_up_blind : Blind give_up
  unfolding give_up
  give_up_blind r h = rw h (refl, refl)

  abandon_launch_blind : Blind abandon_launch
  unfolding abandon_launch
  abandon_launch_blind r h = (refl, refl)

  abandon_streams_blind : Blind abandon_open_streams
  unfolding abandon_open_streams
  abandon_streams_blind r h = rw h (refl, refl)

  pass_grace_blind : (now : ℕ) → Blind (λ r. pass_grace r now)
  unfolding pass_grace
  pass_grace_blind now = branch (λ r. due r.clocks.grace_until now) end_grace (λ r. r) (λ r h. refl) grace_blind none

  begin_blind : (now : ℕ) (cause : Cause) → Blind (λ r. begin_termination r now cause)
  unfolding begin_termination
  begin_blind now cause r h = (refl, refl)

  terminate_blind : (now : ℕ) (cause : Cause) → Blind (λ r. terminate r now cause)
  unfolding terminate
  terminate_blind now cause =
      branch (λ r. r.clocks.terminated) (λ r. r) (λ r. pass_grace (begin_termination r now cause) now) (λ r h. refl) none
      (on (λ r. pass_grace r now) (λ r. begin_termination r now cause) (pass_grace_blind now) (begin_blind now cause))

  cleared_blind : Blind timeout_cleared
  cleared_blind r h = (refl, refl)

  pass_timeout_blind : (now : ℕ) → Blind (λ r. pass_timeout r now)
  unfolding pass_timeout
  pass_timeout_blind now =
      branch (λ r. due r.clocks.timeout_at now) (λ r. terminate (timeout_cleared r) now TimedOut) (λ r. r) (λ r h. refl)
      (on (λ r. terminate r now TimedOut) timeout_cleared (terminate_blind now TimedOut) cleared_blind) none

  pass_settlement_blind : (now : ℕ) → Blind (λ r. pass_settlement r now)
  unfolding pass_settlement
  pass_settlement_blind now r h = (refl, refl)

  give_up_unless_clean_blind : Blind give_up_unless_clean
  unfolding give_up_unless_clean
  give_up_unless_clean_blind =
      branch is_cleaned_up (λ r. with_clocks (set_give_up_at None r.clocks) r) give_up clean_blind (λ r h. (refl, refl)) give_up_blind

  pass_give_up_blind : (now : ℕ) → Blind (λ r. pass_give_up r now)
  unfolding pass_give_up
  pass_give_up_blind now = branch (λ r. due r.clocks.give_up_at now) give_up_unless_clean (λ r. r) (λ r h. refl) give_up_unless_clean_blind none

  drop_launch_blind : Blind drop_launch
  unfolding drop_launch
  drop_launch_blind = branch awaits_launch abandon_launch (λ r. r) (λ r h. refl) abandon_launch_blind none

  drop_streams_blind : Blind drop_streams
  unfolding drop_streams
  drop_streams_blind = branch (λ r. is_fenced r.life.settling) abandon_open_streams (λ r. r) (λ r h. refl) abandon_streams_blind none

  pass_abandonment_blind : (now : ℕ) → Blind (λ r. pass_abandonment r now)
  unfolding pass_abandonment
  pass_abandonment_blind now =
      branch (λ r. due r.clocks.abandon_at now) (λ r. drop_streams (drop_launch r)) (λ r. r) (λ r h. refl)
      (on drop_streams drop_launch drop_streams_blind drop_launch_blind) none

  fire_blind : (now : ℕ) → Blind (λ r. fire r now)
  unfolding fire
  fire_blind now =
      on (λ r. pass_abandonment r now) _ (pass_abandonment_blind now)
      (on (λ r. pass_give_up r now) _ (pass_give_up_blind now)
      (on (λ r. pass_settlement r now) _ (pass_settlement_blind now)
      (on (λ r. pass_grace r now) (λ r. pass_timeout r now) (pass_grace_blind now) (pass_timeout_blind now))))

  pub ticked_blind : (now : ℕ) → Blind (λ r. ticked r now)
  unfolding ticked
  ticked_blind now = branch (λ r. r.flags.finished) (λ r. r) (λ r. fire r now) (λ r h. refl) none (fire_blind now)

  -- ---- the workload

  started_blind : Blind note_started
  unfolding note_started
  started_blind r h = (refl, refl)

  launch_blind : (x : Result (Unit {0}) LaunchFailure) → Blind (λ r. note_launch r x)
  unfolding note_launch
  launch_blind (Ok tt) = started_blind
  launch_blind (Err f) = on close_runner_input (λ r. with_life (set_launch (Launch.Failed f) r.life) r) close_blind (λ r h. (refl, refl))

  pub launched_blind : (x : Result (Unit {0}) LaunchFailure) → Blind (λ r. launched_next r x)
  unfolding launched_next
  launched_blind x = branch awaits_launch (λ r. note_launch r x) (λ r. r) (λ r h. refl) (launch_blind x) none

  exit_blind : (now : ℕ) (status : Option Status) → Blind (λ r. note_exit r now status)
  unfolding note_exit close_runner_input
  exit_blind now status r h = (refl, refl)

  pub exited_blind : (now : ℕ) (status : Option Status) → Blind (λ r. exited_next r now status)
  unfolding exited_next note_exit_once
  exited_blind now status =
      on (λ r. note_exit_once r now status) (λ r. ticked (timeout_cleared r) now)
      (branch is_over (λ r. r) (λ r. note_exit r now status) (λ r h. refl) none (exit_blind now status))
      (on (λ r. ticked r now) timeout_cleared (ticked_blind now) cleared_blind)

  pub settled_blind : (s : Settlement) → Blind (λ r. settled_next r s)
  unfolding settled_next
  settled_blind s r h = (refl, refl)

  -- ---- the peer

  silenced_blind : Blind silenced
  unfolding silenced
  silenced_blind r h = (refl, refl)

  soon_blind : (now : ℕ) → Blind (λ r. give_up_soon r now)
  unfolding give_up_soon
  soon_blind now r h = (refl, refl)

  cut_off_blind : (now : ℕ) (cause : Cause) → Blind (λ r. cut_off r now cause)
  unfolding cut_off
  cut_off_blind now cause =
      on (λ r. give_up_soon r now) _ (soon_blind now)
      (on end_grace _ grace_blind
      (on silenced (λ r. terminate r now cause) silenced_blind (terminate_blind now cause)))

  pub detached_blind : (now : ℕ) (cause : Cause) → Blind (λ r. detach_next r now cause)
  unfolding detach_next cut_off_once
  detached_blind now cause =
      on (λ r. cut_off_once r now cause) (λ r. ticked r now)
      (branch (λ r. r.flags.finished || r.flags.detached) (λ r. r) (λ r. cut_off r now cause) (λ r h. refl) none (cut_off_blind now cause))
      (ticked_blind now)

  pub cancelled_blind : (a : Result Admission Refusal) (now : ℕ) (cause : Cause) → Blind (λ r. cancel_next a r now cause)
  unfolding cancel_next
  cancelled_blind (Ok Own) now cause =
      on (λ r. cond (is_late r) r (terminate r now cause)) (λ r. ticked r now)
      (branch is_late (λ r. r) (λ r. terminate r now cause) (λ r h. refl) none (terminate_blind now cause)) (ticked_blind now)
  cancelled_blind _ now cause = none

  -- ---- the accounts, of which the first two alone are paid from and granted to

  account_blind : (i : ℕ) (cs : List Credit) → i < 2 → credit_at i (put_credit 2 c cs) ≡ credit_at i cs
  account_blind zero cs b = refl
  account_blind (suc zero) cs b = refl
  account_blind (suc (suc i)) cs b = absurd (omega arith)

  put_blind : (i : ℕ) (d : Credit) (cs : List Credit) → i < 2 → put_credit i d (put_credit 2 c cs) ≡ put_credit 2 c (put_credit i d cs)
  put_blind zero d cs b = refl
  put_blind (suc zero) d cs b = refl
  put_blind (suc (suc i)) d cs b = absurd (omega arith)

  granted_in_blind : (i : ℕ) (finished : Bool) (units : ℕ) (cs : List Credit) → i < 2
      → credits_in (Ok i) finished units (put_credit 2 c cs) ≡ put_credit 2 c (credits_in (Ok i) finished units cs)
  granted_in_blind i finished units cs b =
      rw (account_blind i cs b) (by (not finished && grantable (credit_at i cs) units))
    where
      d : Credit
      d = (grant (credit_at i cs) units).credit

      by : (g : Bool) → cond g (put_credit i d (put_credit 2 c cs)) (put_credit 2 c cs) ≡ put_credit 2 c (cond g (put_credit i d cs) cs)
      by true = put_blind i d cs b
      by false = refl

  -- of each of the pools
  module _ (r : Runner) (h : has_notes r.limits ≡ false) (p : Pool) (units : ℕ) where
    abbrev pool : Result ℕ Refusal
    pool = output_pool r.limits.shared (has_notes r.limits) p

    pub credit_blind : (a : Result Admission Refusal) → credit_next a pool (other r) units ≡ other (credit_next a pool r units)
    unfolding credit_next
    credit_blind (Ok Own) =
        rw h (by_pool (λ q. credit_next (Ok Own) q (other r) units ≡ other (credit_next (Ok Own) q r units))
        (λ i b. rw (granted_in_blind i r.flags.finished units r.credits b) refl) refl r.limits.shared p)
    credit_blind _ = refl

    pub credit_answer_blind : (a : Result Admission Refusal) → credit_answer a pool (other r) units ≡ credit_answer a pool r units
    unfolding credit_answer credit_in
    credit_answer_blind (Ok Own) =
        rw h (by_pool (λ q. credit_answer (Ok Own) q (other r) units ≡ credit_answer (Ok Own) q r units)
        (λ i b. rw (account_blind i r.credits b) refl) refl r.limits.shared p)
    credit_answer_blind _ = refl

  -- ---- the streams that are open

  module _ (r : Runner) (h : has_notes r.limits ≡ false) where
    pub at_blind : (x : Stream) (f : Output → Output) → has r.limits x ≡ true → at x f (other r) ≡ other (at x f r)
    at_blind Stdout f e = refl
    at_blind Stderr f e = refl
    at_blind Notes f e = absurd (true≢false (sym e ∙ h))

    pub took_blind : (x : Stream) (bytes store : List ℕ) → has r.limits x ≡ true → output_took (other r) x bytes store ≡ output_kept other (output_took r x bytes store)
    unfolding output_took output_next output_taken output_store
    took_blind Stdout bytes store e = rw h refl
    took_blind Stderr bytes store e = rw h refl
    took_blind Notes bytes store e = absurd (true≢false (sym e ∙ h))

  -- ---- messages

  module _ (r : Runner) (h : has_notes r.limits ≡ false) where
    sendable_blind : (buffer : ℕ) (x : Stream) → sendable_of (other r) buffer x ≡ sendable_of r buffer x
    unfolding sendable_of
    sendable_blind buffer Stdout = rw (account_blind (pool_of r.limits Stdout) r.credits (own_account r.limits Stdout h refl)) refl
    sendable_blind buffer Stderr = rw (account_blind (pool_of r.limits Stderr) r.credits (own_account r.limits Stderr h refl)) refl
    sendable_blind buffer Notes = none_sent (other r) buffer h ∙ sym (none_sent r buffer h)

    pub choose_blind : (buffer : ℕ) → choose (other r) buffer ≡ choose r buffer
    unfolding choose is_ready
    choose_blind buffer =
        let x = stream_at r.turn in
        rw (sendable_blind buffer x, sendable_blind buffer (following x), sendable_blind buffer (following (following x)), h) refl

    paid_blind : (x : Stream) (n : ℕ) → has r.limits x ≡ true → output_paid x n (other r) ≡ other (output_paid x n r)
    unfolding output_paid
    paid_blind x n e =
        let i = pool_of r.limits x in
        let b = own_account r.limits x h e in
        rw (account_blind i r.credits b, put_blind i (spent (credit_at i r.credits) (cost r.limits.output.unit n)) r.credits b) refl

    pub effect_blind : (m : Choice) → NamesOpen r m → effect m (other r) ≡ other (effect m r)
    unfolding effect output_sent output_paid
    effect_blind (Choice.End x) e = ap plain (at_blind r h x ended_out e)
    effect_blind (Choice.Output x n) e =
        let f = sent_out r.limits.chunk n in ap (at x f) (paid_blind x n e) ∙ at_blind (output_paid x n r) h x f e
    effect_blind _ e = refl

    pub said_blind : (m : Choice) → said_for m (other r) ≡ said_for m r
    unfolding said_for outcome_of
    said_blind Choice.Terminal = rw h refl
    said_blind _ = refl

    pub buffer_blind : (m : Choice) (store buffer : List ℕ) → buffer_after m (other r) store buffer ≡ buffer_after m r store buffer
    unfolding buffer_after payload
    buffer_blind (Choice.Output x n) store buffer = rw h refl
    buffer_blind _ store buffer = refl

    -- ---- requests

    pub wish_blind : wish (other r) ≡ wish r
    unfolding wish
    wish_blind = rw h refl

    pub handed_blind : (q : Option Request) → Wished r q → wish_effect q (other r) ≡ other (wish_effect q r)
    unfolding wish_effect
    handed_blind (Some (Request.Discard x)) e = at_blind r h x asked_out e
    handed_blind (Some (Request.Terminate cause)) e = refl
    handed_blind (Some Request.CloseInput) e = refl
    handed_blind (Some Request.Settle) e = refl
    handed_blind None e = refl
