-- The runner as far as it shows. Two timers may stand that nothing asks for any more: that of a give-up which finds all cleaned up, and
-- that of an abandonment which finds nothing to abandon. Runners that are equal without them answer alike, and stay so.
use Rattle.std.specs.Prelude.{Option, None, ℕ}
use mathlib.Core.Bool.{Bool, true, false, cond, not, ◌&&◌, false≢true}
use mathlib.Core.Path.{◌≡◌, refl, sym, ◌∙◌, ap}
use Rattle.exec.specs.declared.Stream.{Stream}
use Rattle.exec.specs.declared.Stream.TheVariants.{Stdout, Stderr, Notes}
use Rattle.exec.specs.Limits.{has_notes}
use Rattle.exec.specs.Stream.{every_stream_lem}
use mathlib.Core.List.{[], ◌∷◌}
use Rattle.lifecycle.specs.declared.life.Settling.{Settling}
use Rattle.lifecycle.specs.declared.life.Settling.TheVariants.{Settled, Fenced}
use Rattle.lifecycle.specs.Life.{launch_known, exit_known, is_fenced, is_settled}
use Rattle.lifecycle.specs.Setters.{set_give_up_at, set_abandon_at, set_settling}
use Rattle.output.specs.declared.Output.{Output}
use Rattle.output.specs.Output.{is_held}
use Rattle.output.specs.Outputs.{output_in, put_output, all_closed, any_held}
use Rattle.runner.specs.declared.runner.Runner.{Runner}
use Rattle.runner.specs.Life.{awaits_launch, is_cleaned_up}
use Rattle.runner.specs.State.{with, with_life, with_outputs, outputs_of, out_of}
use Rattle.account.specs.Step.{State, on_runner}
use Rattle.std.proofs.lemmas.Bool.{and_from, not-true, not_from_false}
use Rattle.account.proofs.Phase.{no_wait}
use Rattle.ring.specs.Flags.{and_l, and_r}
use Rattle.account.proofs.Sides.{of_every, on_out, none_of, of_none}

-- abandonment has nothing to do, nor will it: no launch is awaited, settling is fenced, and no stream is held open
abbrev pub is_moot : Runner → Bool
is_moot r = (not (awaits_launch r) && is_fenced r.life.settling) && not (any_held (outputs_of r))

-- with these times of give-up and abandonment
abbrev pub swap : (give_up abandon : Option ℕ) → Runner → Runner
swap g b r =
    with (set_give_up_at g (set_abandon_at b r.clocks)) r.life r.flags r.input (output_in Stdout r.outputs ∷ output_in Stderr r.outputs ∷ output_in Notes r.outputs ∷ []) r

abbrev pub unless : Bool → Option ℕ → Option ℕ
unless b d = cond b None d

abbrev pub give_up_shown : Runner → Option ℕ
give_up_shown r = unless (is_cleaned_up r) r.clocks.give_up_at

abbrev pub abandon_shown : Runner → Option ℕ
abandon_shown r = unless (is_moot r) r.clocks.abandon_at

abbrev pub calm : Runner → Runner
calm r = swap (give_up_shown r) (abandon_shown r) r

-- the state, likewise
abbrev pub calm_s : State → State
calm_s s = on_runner (calm s.runner) s

-- ---- a change that sees no more than is shown

abbrev pub Sees : (Runner → Runner) → Type 0
Sees f = (r : Runner) → calm (f (calm r)) ≡ calm (f r)

pub kept : (c d : Bool) (x : Option ℕ) → (c ≡ true → d ≡ true) → unless d (unless c x) ≡ unless d x
kept true true x h = refl
kept true false x h = absurd (false≢true (h refl))
kept false d x h = refl

-- it sets the time of give-up, and leaves that of abandonment
pub anew : (r t : Runner) → t.clocks.abandon_at ≡ r.clocks.abandon_at → (is_moot r ≡ true → is_moot t ≡ true)
    → calm (swap t.clocks.give_up_at (abandon_shown r) t) ≡ calm t
anew r t e m =
    ap (λ (b : (Option ℕ)). swap (give_up_shown t) b t)
    (kept (is_moot r) (is_moot t) r.clocks.abandon_at m ∙ ap (unless (is_moot t)) (sym e))

-- it leaves both, and brings back neither
pub plain : (r t : Runner) → t.clocks.give_up_at ≡ r.clocks.give_up_at → t.clocks.abandon_at ≡ r.clocks.abandon_at
    → (is_cleaned_up r ≡ true → is_cleaned_up t ≡ true) → (is_moot r ≡ true → is_moot t ≡ true)
    → calm (swap (give_up_shown r) (abandon_shown r) t) ≡ calm t
plain r t eg eb c m =
    ap (λ (g : (Option ℕ)). swap g (unless (is_moot t) (abandon_shown r)) t)
    (kept (is_cleaned_up r) (is_cleaned_up t) r.clocks.give_up_at c ∙ ap (unless (is_cleaned_up t)) (sym eg)) ∙ anew r t eb m

pub still : (r : Runner) → calm (calm r) ≡ calm r
still r = plain r r refl refl (λ e. e) (λ e. e)

-- one such change after another, and one of two
pub on : (f : Runner → Runner) → Sees f → (x y : Runner) → calm x ≡ calm y → calm (f x) ≡ calm (f y)
on f h x y e = sym (h x) ∙ ap (λ (z : Runner). calm (f z)) e ∙ h y

pub branch : (b : Bool) (x y v w : Runner) → calm x ≡ calm v → calm y ≡ calm w → calm (cond b x y) ≡ calm (cond b v w)
branch true x y v w h k = h
branch false x y v w h k = k

-- ---- what is known where a time is not shown

module _ (r : Runner) (e : is_cleaned_up r ≡ true) where
  abbrev reports : Bool
  reports = launch_known r.life.launch && exit_known r.life.exit

  pub clean_settled : is_settled r.life.settling ≡ true
  clean_settled = and_r (reports && all_closed (outputs_of r)) _ e

  pub clean_closed : (reports && all_closed (outputs_of r)) ≡ true
  clean_closed = and_l (reports && all_closed (outputs_of r)) _ e

  pub clean_exit : exit_known r.life.exit ≡ true
  clean_exit = and_r (launch_known r.life.launch) _ (and_l reports _ clean_closed)

  pub clean_awaits : awaits_launch r ≡ false
  clean_awaits = no_wait (launch_known r.life.launch) _ _ (and_l _ (exit_known r.life.exit) (and_l reports _ clean_closed))

module _ (r : Runner) (e : is_moot r ≡ true) where
  abbrev given : Bool
  given = not (awaits_launch r) && is_fenced r.life.settling

  pub moot_given : given ≡ true
  moot_given = and_l given _ e

  pub moot_awaits : awaits_launch r ≡ false
  moot_awaits = not-true (awaits_launch r) (and_l _ (is_fenced r.life.settling) moot_given)

  pub moot_fenced : is_fenced r.life.settling ≡ true
  moot_fenced = and_r (not (awaits_launch r)) _ moot_given

  pub moot_held : (x : Stream) → is_held (out_of x r) ≡ false
  moot_held = none_of (λ (x : Stream). is_held (out_of x r)) (not-true (any_held (outputs_of r)) (and_r given _ e))

-- settling is not Settled and Fenced at once
pub unsettled : (s : Settling) → is_fenced s ≡ true → is_settled s ≡ true → ⊥
unsettled Fenced e f = false≢true f
unsettled _ e f = false≢true e

-- ---- a change of one stream's output, which stays closed if it was, and is not held if it was not

module _ (x : Stream) (o : Output) (r : Runner) where
  pub put_clean : ((out_of x r).closed ≡ true → o.closed ≡ true) → is_cleaned_up r ≡ true → is_cleaned_up (with_outputs (put_output x o r.outputs) r) ≡ true
  put_clean h e =
      let k = every_stream_lem (λ (y : Stream). (out_of y r).closed) (and_r (reports r e) _ (clean_closed r e)) in
      and_from _ _
      (and_from (reports r e) _ (and_l (reports r e) _ (clean_closed r e))
      (of_every _ (on_out (has_notes r.limits) r.outputs (λ (y : Stream) (p : Output). p.closed ≡ true) x o (h (k x)) k)))
      (clean_settled r e)

  pub put_moot : (is_held (out_of x r) ≡ false → is_held o ≡ false) → is_moot r ≡ true → is_moot (with_outputs (put_output x o r.outputs) r) ≡ true
  put_moot h e =
      let k = moot_held r e in
      and_from _ _ (moot_given r e)
      (not_from_false _ (of_none _ (on_out (has_notes r.limits) r.outputs (λ (y : Stream) (p : Output). is_held p ≡ false) x o (h (k x)) k)))

-- ---- a change of settling that leaves Settled and Fenced

pub settle_sees : (f : Settling → Settling) (r : Runner) → f Settled ≡ Settled → f Fenced ≡ Fenced
    → calm (with_life (set_settling (f r.life.settling) (calm r).life) (calm r)) ≡ calm (with_life (set_settling (f r.life.settling) r.life) r)
settle_sees f r s n =
    plain r (with_life (set_settling (f r.life.settling) r.life) r) refl refl
    (λ e. and_from _ _ (clean_closed r e) (settled r.life.settling (clean_settled r e)))
    (λ e. and_from _ _ (and_from _ _ (not_from_false (awaits_launch r) (moot_awaits r e)) (fenced r.life.settling (moot_fenced r e))) (and_r (given r e) _ e))
  where
    settled : (x : Settling) → is_settled x ≡ true → is_settled (f x) ≡ true
    settled Settled e = rw s refl
    settled _ e = absurd (false≢true e)

    fenced : (x : Settling) → is_fenced x ≡ true → is_fenced (f x) ≡ true
    fenced Fenced e = rw n refl
    fenced _ e = absurd (false≢true e)
