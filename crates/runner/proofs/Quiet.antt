-- A tick with nothing due changes nothing, and any other fires the timers, which leave some parts of the runner in their place.
use Rattle.std.proofs.Common.{◌≡◌, refl, sym, ◌∙◌, ap, ℕ, arith, Bool, true, false, cond, ◌&&◌, ◌||◌}
use Rattle.std.specs.Prelude.{not, None}
use Rattle.exec.specs.declared.Cause.{Cause}
use Rattle.exec.specs.declared.Cause.TheVariants.{TimedOut}
use Rattle.exec.specs.Time.{due}
use Rattle.lifecycle.specs.Clocks.{clocks_due, timeout_waits, grace_waits, give_up_waits, abandon_waits}
use Rattle.lifecycle.specs.Life.{settling_late, expired_in_time, is_fenced}
use Rattle.lifecycle.specs.Setters.{set_settling, set_timeout_at, set_give_up_at}
use Rattle.runner.specs.declared.runner.Runner.{Runner}
use Rattle.runner.specs.Life.{awaits_launch, is_cleaned_up, end_grace, give_up, abandon_launch, abandon_open_streams, begin_termination, terminate, give_up_unless_clean, drop_launch, drop_streams, fire, ticked, any_due, pass_timeout, pass_grace, pass_settlement, pass_give_up, pass_abandonment}
use Rattle.runner.specs.State.{with, with_clocks, with_life}

no : {A : Type 0} {b : Bool} (x y : A) → b ≡ false → cond b x y ≡ y
no x y h = rw h

module _ (r : Runner) (now : ℕ) where
  timeout : due r.clocks.timeout_at now ≡ false → pass_timeout r now ≡ r
  unfolding pass_timeout
  timeout h = no _ _ h

  grace : due r.clocks.grace_until now ≡ false → pass_grace r now ≡ r
  unfolding pass_grace
  grace h = no _ _ h

  settlement : settling_late r.life.settling now ≡ false → pass_settlement r now ≡ r
  unfolding pass_settlement
  settlement h = ap (λ s. with_life (set_settling s r.life) r) (expired_in_time r.life.settling now h)

  give_up_lem : due r.clocks.give_up_at now ≡ false → pass_give_up r now ≡ r
  unfolding pass_give_up
  give_up_lem h = no _ _ h

  abandonment : due r.clocks.abandon_at now ≡ false → pass_abandonment r now ≡ r
  unfolding pass_abandonment
  abandonment h = no _ _ h

  -- nothing is due
  idle : clocks_due r.clocks now ≡ false → settling_late r.life.settling now ≡ false → fire r now ≡ r
  unfolding fire
  idle h l =
      ap (λ x. pass_abandonment (pass_give_up (pass_settlement (pass_grace x now) now) now) now) (timeout (timeout_waits r.clocks now h))
      ∙ ap (λ x. pass_abandonment (pass_give_up (pass_settlement x now) now) now) (grace (grace_waits r.clocks now h))
      ∙ ap (λ x. pass_abandonment (pass_give_up x now) now) (settlement l)
      ∙ ap (λ x. pass_abandonment x now) (give_up_lem (give_up_waits r.clocks now h))
      ∙ abandonment (abandon_waits r.clocks now h)

-- the tests of any_due taken apart
idle_of : (finished a b : Bool) → (not finished && (a || b)) ≡ false → finished ≡ false → (a ≡ false) × (b ≡ false)
idle_of true a b h f = (let z : ◌≡◌ {A = ℕ} 0 1 = cc in absurd (omega arith), let z : ◌≡◌ {A = ℕ} 0 1 = cc in absurd (omega arith))
idle_of false true b h f = (h, let z : ◌≡◌ {A = ℕ} 0 1 = cc in absurd (omega arith))
idle_of false false true h f = (refl, h)
idle_of false false false h f = (refl, refl)

busy_of : (finished rest : Bool) → (not finished && rest) ≡ true → finished ≡ false
busy_of true rest h = sym h
busy_of false rest h = refl

tick_by : (finished : Bool) (r r' : Runner) → (finished ≡ false → r' ≡ r) → r ≡ cond finished r r'
tick_by true r r' h = refl
tick_by false r r' h = sym (h refl)

quiet : (r : Runner) (now : ℕ) → any_due r now ≡ false → r ≡ ticked r now
unfolding ticked
quiet r now h =
    tick_by r.flags.finished r (fire r now)
    (λ f.
    let p = idle_of r.flags.finished (clocks_due r.clocks now) (settling_late r.life.settling now) h f in
    idle r now p.0 p.1)

busy : (r : Runner) (now : ℕ) → any_due r now ≡ true → fire r now ≡ ticked r now
unfolding ticked
busy r now h = sym (no _ _ (busy_of r.flags.finished (clocks_due r.clocks now || settling_late r.life.settling now) h))

-- a tick fires the timers where one is due
pub ticked_is : (r : Runner) (now : ℕ) → ticked r now ≡ cond (any_due r now) (fire r now) r
ticked_is r now = by (any_due r now) refl
  where
    by : (b : Bool) → any_due r now ≡ b → ticked r now ≡ cond b (fire r now) r
    by true h = sym (busy r now h)
    by false h = sym (quiet r now h)

-- ---- the timers move clocks, life, flags, input and outputs alone

-- r' with its other parts from r
abbrev pub in_place : (r' r : Runner) → Runner
in_place r' r = with r'.clocks r'.life r'.flags r'.input r'.outputs r

then : (r a b : Runner) → in_place a r ≡ a → in_place b a ≡ b → in_place b r ≡ b
then r a b ha hb = ap (in_place b) ha ∙ hb

one_of : (b : Bool) (r x y : Runner) → in_place x r ≡ x → in_place y r ≡ y → in_place (cond b x y) r ≡ cond b x y
one_of true r x y hx hy = hx
one_of false r x y hx hy = hy

module _ (r : Runner) where
  in_grace : (now : ℕ) → in_place (pass_grace r now) r ≡ pass_grace r now
  unfolding pass_grace end_grace
  in_grace now = one_of (due r.clocks.grace_until now) r (end_grace r) r refl refl

  in_launch : in_place (drop_launch r) r ≡ drop_launch r
  unfolding drop_launch abandon_launch
  in_launch = one_of (awaits_launch r) r (abandon_launch r) r refl refl

  in_streams : in_place (drop_streams r) r ≡ drop_streams r
  unfolding drop_streams abandon_open_streams
  in_streams = one_of (is_fenced r.life.settling) r (abandon_open_streams r) r refl refl

  in_give_up : in_place (give_up_unless_clean r) r ≡ give_up_unless_clean r
  unfolding give_up_unless_clean give_up
  in_give_up = one_of (is_cleaned_up r) r (with_clocks (set_give_up_at None r.clocks) r) (give_up r) refl refl

in_begin : (r : Runner) (now : ℕ) (c : Cause) → in_place (begin_termination r now c) r ≡ begin_termination r now c
unfolding begin_termination
in_begin r now c = refl

in_end : (r : Runner) (now : ℕ) (c : Cause) → in_place (terminate r now c) r ≡ terminate r now c
unfolding terminate
in_end r now c =
    let b = begin_termination r now c in
    one_of r.clocks.terminated r r (pass_grace b now) refl (then r b (pass_grace b now) (in_begin r now c) (in_grace b now))

module _ (r : Runner) (now : ℕ) where
  in_timeout : in_place (pass_timeout r now) r ≡ pass_timeout r now
  unfolding pass_timeout
  in_timeout =
      let t = with_clocks (set_timeout_at None r.clocks) r in
      one_of (due r.clocks.timeout_at now) r (terminate t now TimedOut) r (then r t (terminate t now TimedOut) refl (in_end t now TimedOut)) refl

  in_settlement : in_place (pass_settlement r now) r ≡ pass_settlement r now
  unfolding pass_settlement
  in_settlement = refl

  in_giving_up : in_place (pass_give_up r now) r ≡ pass_give_up r now
  unfolding pass_give_up
  in_giving_up = one_of (due r.clocks.give_up_at now) r (give_up_unless_clean r) r (in_give_up r) refl

  in_abandonment : in_place (pass_abandonment r now) r ≡ pass_abandonment r now
  unfolding pass_abandonment
  in_abandonment =
      one_of (due r.clocks.abandon_at now) r (drop_streams (drop_launch r)) r (then r (drop_launch r) (drop_streams (drop_launch r)) (in_launch r) (in_streams (drop_launch r))) refl

pub in_fire : (r : Runner) (now : ℕ) → in_place (fire r now) r ≡ fire r now
unfolding fire
in_fire r now =
    let a = pass_timeout r now in
    let b = pass_grace a now in
    let c = pass_settlement b now in
    let d = pass_give_up c now in
    then r d (pass_abandonment d now)
    (then r c d (then r b c (then r a b (in_timeout r now) (in_grace a now)) (in_settlement b now)) (in_giving_up c now))
    (in_abandonment d now)
