-- A tick before the deadline changes nothing that shows; and the deadline that is reported after a tick is later.
use Rattle.std.specs.Prelude.{Option, Some, None}
use mathlib.Core.Bool.{Bool, true, false, cond, not, ◌&&◌, ◌||◌, true≢false}
use mathlib.Core.Path.{◌≡◌, refl, sym, ◌∙◌, ap}
use Prim.Native.Nat.{ℕ}
use native.Mathlib.Omega.{arith}
use lib.Dec.{leb, ltb}
use borrow.Author.Tests.{ltb-true, ltb-false, leb-true, le-leb}
use Rattle.exec.specs.declared.Cause.TheVariants.{TimedOut}
use Rattle.exec.specs.Time.{earliest, due}
use Rattle.lifecycle.specs.declared.life.Settling.{Settling}
use Rattle.lifecycle.specs.declared.life.Settling.TheVariants.{Requested, Fenced}
use Rattle.lifecycle.specs.Clocks.{first_of}
use Rattle.lifecycle.specs.Life.{launch_known, is_fenced, settling_late, expired, expired_in_time, expected_by}
use Rattle.lifecycle.specs.Setters.{set_give_up_at, set_settling}
use Rattle.output.specs.Outputs.{any_held}
use Rattle.runner.specs.declared.runner.Runner.{Runner}
use Rattle.runner.specs.Life.{awaits_launch, is_cleaned_up, end_grace, give_up, abandon_launch, abandon_open_streams, begin_termination, pass_grace, terminate, pass_timeout, pass_settlement, give_up_unless_clean, pass_give_up, drop_launch, drop_streams, pass_abandonment, fire, ticked, deadline_of, timeout_cleared}
use Rattle.runner.specs.State.{with_clocks, with_life, outputs_of}
use Rattle.std.proofs.lemmas.Bool.{and_from, and_right, or_parts, not_from_false}
use Rattle.std.proofs.Math.Bool.{or-false}
use Rattle.account.proofs.Flags.{either}
use Rattle.idle.proofs.Calm.{calm}
use Rattle.idle.proofs.Passes.{given_clean, moot_drops, abandonment_sees}

-- the earlier of two is due where one of them is
earliest_due : (a b : Option ℕ) (now : ℕ) → due (earliest a b) now ≡ (due a now || due b now)
earliest_due None b now = refl
earliest_due (Some a) None now = sym (or-false (leb a now))
earliest_due (Some a) (Some b) now = by (ltb b a) (leb a now) (leb b now) refl refl refl
  where
    by : (t x y : Bool) → ltb b a ≡ t → leb a now ≡ x → leb b now ≡ y → due (cond t (Some b) (Some a)) now ≡ (x || y)
    by true true y h e f = le-leb b now (omega (arith, ltb-true b a h, leb-true a now e))
    by true false y h e f = f
    by false true y h e f = e
    by false false true h e f = absurd (true≢false (sym (le-leb a now (omega (arith, ltb-false b a h, leb-true b now f))) ∙ e))
    by false false false h e f = e

-- ---- a tick before the deadline

-- abandonment counts while there is something for it to do
abbrev abandons : Runner → Bool
abandons r = awaits_launch r || (is_fenced r.life.settling && any_held (outputs_of r))

-- what is not due, where the deadline is not
module _ (now : ℕ) (r : Runner) where
  abbrev first2 : Option ℕ
  first2 = earliest r.clocks.timeout_at r.clocks.grace_until

  abbrev first3 : Option ℕ
  first3 = earliest first2 (expected_by r.life.settling)

  abbrev gives : Option ℕ
  gives = cond (not (is_cleaned_up r)) r.clocks.give_up_at None

  abbrev leaves_at : Option ℕ
  leaves_at = cond (abandons r) r.clocks.abandon_at None

  pub record Waits : Type 0 where
    pub timeout : due r.clocks.timeout_at now ≡ false
    pub grace : due r.clocks.grace_until now ≡ false
    pub settlement : due (expected_by r.life.settling) now ≡ false
    pub give_up_lem : due gives now ≡ false
    pub abandonment : due leaves_at now ≡ false

  first_due : due (first_of r.clocks (expected_by r.life.settling) (not (is_cleaned_up r)) (abandons r)) now
      ≡ ((((due r.clocks.timeout_at now || due r.clocks.grace_until now) || due (expected_by r.life.settling) now) || due gives now) || due leaves_at now)
  first_due =
      earliest_due (earliest first3 gives) leaves_at now
      ∙ rw (earliest_due first3 gives now, earliest_due first2 (expected_by r.life.settling) now, earliest_due r.clocks.timeout_at r.clocks.grace_until now) refl

  waits : due (first_of r.clocks (expected_by r.life.settling) (not (is_cleaned_up r)) (abandons r)) now ≡ false → Waits
  waits e =
      let a = or_parts _ _ (sym first_due ∙ e) in
      let u = or_parts _ _ a.0 in
      let s = or_parts _ _ u.0 in
      let t = or_parts _ _ s.0 in
      record { timeout = t.0; grace = t.1; settlement = s.1; give_up_lem = u.1; abandonment = a.1 }

  in_time : (s : Settling) → due (expected_by s) now ≡ false → settling_late s now ≡ false
  in_time (Requested d) e = e
  in_time _ e = refl

  -- give-up is not due, or finds all cleaned up
  gives_nothing : due gives now ≡ false → calm (pass_give_up r now) ≡ calm r
  unfolding pass_give_up give_up_unless_clean
  gives_nothing e = by (is_cleaned_up r) refl e
    where
      by : (c : Bool) → is_cleaned_up r ≡ c → due (cond (not c) r.clocks.give_up_at None) now ≡ false
          → calm (cond (due r.clocks.give_up_at now) (cond c (with_clocks (set_give_up_at None r.clocks) r) (give_up r)) r) ≡ calm r
      by true c e = given_clean (due r.clocks.give_up_at now) r c
      by false c e = rw e refl

  -- abandonment is not due, or finds nothing to abandon
  nothing_to_abandon : (a f h : Bool) → awaits_launch r ≡ a → is_fenced r.life.settling ≡ f → any_held (outputs_of r) ≡ h → (a || (f && h)) ≡ false
      → calm (drop_streams (drop_launch r)) ≡ calm r
  unfolding drop_streams drop_launch
  nothing_to_abandon true f h ea ef eh e = absurd (true≢false e)
  nothing_to_abandon false true true ea ef eh e = absurd (true≢false e)
  nothing_to_abandon false true false ea ef eh e =
      moot_drops true r (and_from _ _ (and_from _ _ (not_from_false (awaits_launch r) ea) ef) (not_from_false (any_held (outputs_of r)) eh))
  nothing_to_abandon false false h ea ef eh e =
      let l : drop_launch r ≡ r = rw ea in
      let s : drop_streams r ≡ r = rw ef in
      ap (λ (x : Runner). calm (drop_streams x)) l ∙ ap calm s

  abandons_nothing : due leaves_at now ≡ false → calm (pass_abandonment r now) ≡ calm r
  unfolding pass_abandonment
  abandons_nothing e = by (abandons r) (due r.clocks.abandon_at now) refl refl e
    where
      by : (a d : Bool) → abandons r ≡ a → due r.clocks.abandon_at now ≡ d → due (cond a r.clocks.abandon_at None) now ≡ false
          → calm (cond d (drop_streams (drop_launch r)) r) ≡ calm r
      by a false ea ed e = refl
      by true true ea ed e = absurd (true≢false (sym ed ∙ e))
      by false true ea ed e = nothing_to_abandon (awaits_launch r) (is_fenced r.life.settling) (any_held (outputs_of r)) refl refl refl ea

  fire_idle : Waits → calm (fire r now) ≡ calm r
  unfolding fire pass_timeout pass_grace pass_settlement
  fire_idle w =
      let t : pass_timeout r now ≡ r = rw w.timeout in
      let g : pass_grace r now ≡ r = rw w.grace in
      let s : pass_settlement r now ≡ r = ap (λ (x : Settling). with_life (set_settling x r.life) r) (expired_in_time r.life.settling now (in_time r.life.settling w.settlement)) in
      ap (λ (x : Runner). calm (pass_abandonment (pass_give_up (pass_settlement (pass_grace x now) now) now) now)) t
      ∙ ap (λ (x : Runner). calm (pass_abandonment (pass_give_up (pass_settlement x now) now) now)) g
      ∙ ap (λ (x : Runner). calm (pass_abandonment (pass_give_up x now) now)) s
      ∙ abandonment_sees now (pass_give_up r now) r (gives_nothing w.give_up_lem)
      ∙ abandons_nothing w.abandonment

  pub tick_idle : due (deadline_of r) now ≡ false → calm (ticked r now) ≡ calm r
  unfolding ticked deadline_of
  tick_idle e = by r.flags.finished e
    where
      by : (f : Bool) → due (cond f None (first_of r.clocks (expected_by r.life.settling) (not (is_cleaned_up r)) (abandons r))) now ≡ false → calm (cond f r (fire r now)) ≡ calm r
      by true e = refl
      by false e = fire_idle (waits e)

-- ---- after a tick

module _ (now : ℕ) where
  abbrev Later : Option ℕ → Type 0
  Later d = due d now ≡ false

  -- the timers before abandonment, each once it was asked
  abbrev Timeout : Runner → Type 0
  Timeout r = due r.clocks.timeout_at now ≡ false

  abbrev Grace : Runner → Type 0
  Grace r = Timeout r × (due r.clocks.grace_until now ≡ false)

  abbrev Settlement : Runner → Type 0
  Settlement r = Grace r × (due (expected_by r.life.settling) now ≡ false)

  abbrev GiveUp : Runner → Type 0
  GiveUp r = Settlement r × (due r.clocks.give_up_at now ≡ false)

  graced : (r : Runner) → Timeout r → Grace (pass_grace r now)
  unfolding pass_grace end_grace
  graced r h = by (due r.clocks.grace_until now) refl
    where
      by : (b : Bool) → due r.clocks.grace_until now ≡ b → Grace (cond b (end_grace r) r)
      by true e = (h, refl)
      by false e = (h, e)

  timed : (r : Runner) → Timeout (pass_timeout r now)
  unfolding pass_timeout terminate begin_termination
  timed r = by (due r.clocks.timeout_at now) refl
    where
      by : (b : Bool) → due r.clocks.timeout_at now ≡ b → Timeout (cond b (terminate (timeout_cleared r) now TimedOut) r)
      by true e = either Timeout r.clocks.terminated (timeout_cleared r) _ refl (graced (begin_termination (timeout_cleared r) now TimedOut) refl).0
      by false e = e

  expires : (s : Settling) → due (expected_by (expired s now)) now ≡ false
  expires (Requested d) = by (due d now) refl
    where
      by : (b : Bool) → due d now ≡ b → due (expected_by (cond b Fenced (Requested d))) now ≡ false
      by true e = refl
      by false e = e
  expires _ = refl

  given : (r : Runner) → Settlement r → GiveUp (pass_give_up r now)
  unfolding pass_give_up give_up_unless_clean give_up
  given r h = by (due r.clocks.give_up_at now) (is_cleaned_up r) refl
    where
      by : (b c : Bool) → due r.clocks.give_up_at now ≡ b → GiveUp (cond b (cond c (with_clocks (set_give_up_at None r.clocks) r) (give_up r)) r)
      by true true e = (h, refl)
      by true false e = (((h.0.0, refl), refl), refl)
      by false c e = (h, e)

  -- abandonment, once it was asked: not due, or not to be waited for
  abbrev Done : Runner → Type 0
  Done r = GiveUp r × (due (leaves_at now r) now ≡ false)

  dropped : (r : Runner) → GiveUp r → GiveUp (drop_launch r) × (awaits_launch (drop_launch r) ≡ false)
  unfolding drop_launch abandon_launch
  dropped r h = by (awaits_launch r) refl
    where
      by : (b : Bool) → awaits_launch r ≡ b → GiveUp (cond b (abandon_launch r) r) × (awaits_launch (cond b (abandon_launch r) r) ≡ false)
      by true e = (((h.0.0, refl), h.1), and_right (not (launch_known r.life.launch) && not r.flags.gave_up) false refl)
      by false e = (h, e)

  streamed : (r : Runner) → GiveUp r → awaits_launch r ≡ false → Done (drop_streams r)
  unfolding drop_streams abandon_open_streams
  streamed r h a = by (is_fenced r.life.settling) refl
    where
      by : (b : Bool) → is_fenced r.life.settling ≡ b → Done (cond b (abandon_open_streams r) r)
      by true e = (h, either Later (abandons (abandon_open_streams r)) None None refl refl)
      by false e = (h, rw (a, e) refl)

  left : (r : Runner) → GiveUp r → Done (pass_abandonment r now)
  unfolding pass_abandonment
  left r h = by (due r.clocks.abandon_at now) refl
    where
      by : (b : Bool) → due r.clocks.abandon_at now ≡ b → Done (cond b (drop_streams (drop_launch r)) r)
      by true e = let k = dropped r h in streamed (drop_launch r) k.0 k.1
      by false e = (h, either Later (abandons r) r.clocks.abandon_at None e refl)

  fire_done : (r : Runner) → Done (fire r now)
  unfolding fire pass_settlement
  fire_done r =
      let g : Runner = pass_grace (pass_timeout r now) now in
      left (pass_give_up (pass_settlement g now) now) (given (pass_settlement g now) (graced (pass_timeout r now) (timed r), expires g.life.settling))

  none_due : (t g s u a : Bool) → t ≡ false → g ≡ false → s ≡ false → u ≡ false → a ≡ false → ((((t || g) || s) || u) || a) ≡ false
  none_due t g s u a et eg es eu ea = rw (et, eg, es, eu, ea) refl

  pub tick_later : (r : Runner) → due (deadline_of (ticked r now)) now ≡ false
  unfolding ticked deadline_of
  tick_later r = by r.flags.finished refl
    where
      by : (f : Bool) → r.flags.finished ≡ f → due (deadline_of (cond f r (fire r now))) now ≡ false
      by true e = rw e refl
      by false e =
          let t : Runner = fire r now in
          let d : Done t = fire_done r in
          either Later t.flags.finished None _ refl (first_due now t
          ∙ none_due (due t.clocks.timeout_at now) (due t.clocks.grace_until now) (due (expected_by t.life.settling) now) (due (gives now t) now) (due (leaves_at now t) now)
          d.0.0.0.0 d.0.0.0.1 d.0.0.1 (either Later (not (is_cleaned_up t)) t.clocks.give_up_at None d.0.1 refl) d.1)
