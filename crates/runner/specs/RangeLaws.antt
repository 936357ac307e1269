-- A state in range, as facts, which the calls' parts ask; and the code's own test of it, which is quicker.
use Rattle.std.specs.Prelude.{ℕ, ◌≤◌, ◌≡◌, refl, Bool, not, ◌&&◌, leb, ltb, Result, Ok, Err}
use Rattle.std.proofs.Common.{arith, sym, ◌∙◌, leb-true, ltb-true}
use Rattle.std.proofs.Math.Bool.{true, false, cond, and-true, and-false}
use Rattle.exec.specs.declared.Limits.{Limits}
use Rattle.exec.specs.declared.Refusal.{Refusal}
use Rattle.exec.specs.declared.Refusal.TheVariants.{Pool, NoLimits, StoreShort, StateOutOfRange, SmallestGrant}
use Rattle.exec.specs.declared.Stream.{Stream}
use Rattle.exec.specs.declared.Stream.TheVariants.{Stdout, Stderr, Notes}
use Rattle.exec.specs.Limits.{is_valid}
use Rattle.exec.specs.Limits.{has}
use Rattle.exec.specs.Stream.{every_stream_lem}
use Rattle.inbox.specs.Need.{need_fits}
use Rattle.inbox.specs.Range.{inbox_fits, inbox_within}
use Rattle.inbox.specs.RangeLaws as Inbox
use Rattle.inbox.specs.Receiver.{grant_fits}
use Rattle.output.specs.declared.Output.{Output}
use Rattle.output.specs.Output as Queue
use Rattle.output.specs.Output.{output_fits, output_range}
use Rattle.output.specs.Outputs.{outputs_fit, outputs_within}
use Rattle.runner.specs.declared.runner.Runner.{Runner}
use Rattle.runner.specs.Range.{last_turn, in_range, open_stop, unless_closed, stop, stop_at}
use Rattle.runner.specs.State.{outputs_of, out_of, credits_fit}

-- ---- in range

-- a queue within its ring
pub record Queued (chunk : ℕ) (o : Output) : Type 0 where
  pub most : o.queued ≤ chunk
  pub begins : o.start ≤ chunk

pub record InRange (r : Runner) : Type 0 where
  pub queue : (x : Stream) → Queued r.limits.chunk (out_of x r)
  pub input : Inbox.InRange r.limits r.input.window r.input.inbox
  pub turn : r.turn ≤ last_turn r.limits

queued : (chunk : ℕ) (o : Output) → output_fits chunk o ≡ true → Queued chunk o
queued chunk o h = let p = output_range chunk o h in record { most = p.0; begins = p.1 }

pub in_range_lem : (r : Runner) → in_range r ≡ true → InRange r
unfolding in_range
in_range_lem r h =
    let chunk = r.limits.chunk in
    let fit = outputs_fit chunk (outputs_of r) in
    let paid = credits_fit r.limits r.credits in
    let held = inbox_fits r.limits r.input.window r.input.inbox in
    let t = leb r.turn (last_turn r.limits) in
    let p = Inbox.both ((fit && paid) && held) t h in
    let q = Inbox.both (fit && paid) held p.0 in
    let o = Inbox.both fit paid q.0 in
    record {
      queue = λ x. queued chunk (out_of x r) (every_stream_lem (λ (y : Stream). output_fits chunk (out_of y r)) o.0 x);
      input = Inbox.in_range_lem r.limits r.input.window r.input.inbox q.1;
      turn = leb-true r.turn (last_turn r.limits) p.1;
    }

-- ---- a call that meets no stop, and one that does

-- the smallest grant is one that open takes
abbrev pub grants : Runner → Bool
grants r = grant_fits r.input.window.smallest r.limits.input.size

-- none of 12, 10, 46 and 11
abbrev is_good : Runner → (stores : Bool) → Bool
is_good r stores = (in_range r && is_valid r.limits) && (grants r && (need_fits r.limits && stores))

-- the refusal of an open that meets 10, 46 or 11, and of a call that meets one of the four
abbrev pub unopened : Limits → (smallest : ℕ) → Refusal
unopened l smallest = cond (is_valid l) (cond (grant_fits smallest l.input.size) StoreShort SmallestGrant) NoLimits

unfoldable pub stopped : Runner → Refusal
stopped r = cond (in_range r) (unopened r.limits r.input.window.smallest) StateOutOfRange

-- the refusal of a call that names a stream, given whether it meets none of the four: then the stream is not open
abbrev pub stopped_at : (good : Bool) → Runner → Refusal
stopped_at good r = cond good Pool (stopped r)

-- what a call meets, given whether it meets none
unfoldable pub stop_if : (good : Bool) → Runner → Result (Unit {0}) Refusal
stop_if good r = cond good (Ok tt) (Err (stopped r))

-- what holds of each way to end a test holds of its end: of an open, and of any other call
module _ (P : Result (Unit {0}) Refusal → Type 0) (none : P (Err NoLimits)) (few : P (Err SmallestGrant)) (short : P (Err StoreShort)) where
  pub open_ends : (l : Limits) (smallest : ℕ) (stores : Bool)
      → (is_valid l ≡ true → grant_fits smallest l.input.size ≡ true → need_fits l ≡ true → stores ≡ true → P (Ok tt)) → P (open_stop l smallest stores)
  open_ends l smallest stores good = by (is_valid l) (grant_fits smallest l.input.size) (need_fits l) stores good
    where
      by : (v g n s : Bool) → (v ≡ true → g ≡ true → n ≡ true → s ≡ true → P (Ok tt))
          → P (cond (not v) (Err NoLimits) (cond (not g) (Err SmallestGrant) (cond (not (n && s)) (Err StoreShort) (Ok tt))))
      by true true true true h = h refl refl refl refl
      by true true true false h = short
      by true true false s h = short
      by true false n s h = few
      by false g n s h = none

  pub stop_ends : (r : Runner) (stores : Bool) → P (Err StateOutOfRange)
      → (in_range r ≡ true → is_valid r.limits ≡ true → grants r ≡ true → need_fits r.limits ≡ true → stores ≡ true → P (Ok tt)) → P (stop r stores)
  unfolding stop
  stop_ends r stores out good = by (in_range r) good
    where
      by : (i : Bool) → (i ≡ true → is_valid r.limits ≡ true → grants r ≡ true → need_fits r.limits ≡ true → stores ≡ true → P (Ok tt))
          → P (cond (not i) (Err StateOutOfRange) (open_stop r.limits r.input.window.smallest stores))
      by true h = open_ends r.limits r.input.window.smallest stores (h refl)
      by false h = out

module _ (r : Runner) (stores : Bool) where
  stop_by : (b : Bool) → is_good r stores ≡ b → stop r stores ≡ stop_if b r
  unfolding stop stopped stop_if
  stop_by b e = by (in_range r) (is_valid r.limits) (grants r) (need_fits r.limits && stores) e
    where
      by : (i v g s : Bool) → ((i && v) && (g && s)) ≡ b
          → ◌≡◌ {A = Result (Unit {0}) Refusal}
          (cond (not i) (Err StateOutOfRange) (cond (not v) (Err NoLimits) (cond (not g) (Err SmallestGrant) (cond (not s) (Err StoreShort) (Ok tt)))))
          (cond b (Ok tt) (Err (cond i (cond v (cond g StoreShort SmallestGrant) NoLimits) StateOutOfRange)))
      by true true true true e = rw (← e)
      by true true true false e = rw (← e)
      by true true false s e = rw (← e)
      by true false g s e = rw (← e)
      by false v g s e = rw (← e)

  pub unstopped : in_range r ≡ true → is_valid r.limits ≡ true → grants r ≡ true → need_fits r.limits ≡ true → stores ≡ true → stop r stores ≡ Ok tt
  unfolding stop
  unstopped i v g n s = rw (i, v, g, n, s)

no_error : {T : Type 0} (x : Refusal) → ◌≡◌ {A = Result (Unit {0}) Refusal} (Err x) (Ok tt) → T
no_error x e = let n : ◌≡◌ {A = ℕ} 0 1 = cc in absurd (omega arith)

pub record Good (r : Runner) (stores : Bool) : Type 0 where
  pub range : InRange r
  pub valid : is_valid r.limits ≡ true
  pub grants : grants r ≡ true
  pub need : need_fits r.limits ≡ true
  pub stores_do : stores ≡ true

-- what a call that meets none has passed
pub passed : (r : Runner) (stores : Bool) → stop r stores ≡ Ok tt
    → (in_range r ≡ true) × (is_valid r.limits ≡ true) × (grants r ≡ true) × (need_fits r.limits ≡ true) × (stores ≡ true)
passed r stores =
    stop_ends (λ x. x ≡ Ok tt → (in_range r ≡ true) × (is_valid r.limits ≡ true) × (grants r ≡ true) × (need_fits r.limits ≡ true) × (stores ≡ true))
    (no_error NoLimits) (no_error SmallestGrant) (no_error StoreShort) r stores (no_error StateOutOfRange) (λ i v g n s e. (i, v, g, n, s))

pub is_good_lem : (r : Runner) (stores : Bool) → stop r stores ≡ Ok tt → Good r stores
is_good_lem r stores e = let p = passed r stores e in record { range = in_range_lem r p.0; valid = p.1; grants = p.2; need = p.3; stores_do = p.4 }

-- what open found
pub open_by_lem : (l : Limits) (smallest : ℕ) (stores b : Bool) → (is_valid l && (grant_fits smallest l.input.size && (need_fits l && stores))) ≡ b
    → open_stop l smallest stores ≡ cond b (Ok tt) (Err (unopened l smallest))
open_by_lem l smallest stores b e = by (is_valid l) (grant_fits smallest l.input.size) (need_fits l && stores) e
  where
    by : (v g s : Bool) → (v && (g && s)) ≡ b
        → ◌≡◌ {A = Result (Unit {0}) Refusal} (cond (not v) (Err NoLimits) (cond (not g) (Err SmallestGrant) (cond (not s) (Err StoreShort) (Ok tt))))
        (cond b (Ok tt) (Err (cond v (cond g StoreShort SmallestGrant) NoLimits)))
    by true true true e = rw (← e)
    by true true false e = rw (← e)
    by true false s e = rw (← e)
    by false g s e = rw (← e)

pub is_opened : (l : Limits) (smallest : ℕ) (stores : Bool) → open_stop l smallest stores ≡ Ok tt
    → (is_valid l ≡ true) × (grant_fits smallest l.input.size ≡ true) × (need_fits l ≡ true) × (stores ≡ true)
is_opened l smallest stores =
    open_ends (λ x. x ≡ Ok tt → (is_valid l ≡ true) × (grant_fits smallest l.input.size ≡ true) × (need_fits l ≡ true) × (stores ≡ true))
    (no_error NoLimits) (no_error SmallestGrant) (no_error StoreShort) l smallest stores (λ v g n s e. (v, g, n, s))

-- ---- the code's test, in two halves that are each small enough to be made a part of every call (docs/DECISIONS.md, Speed)

-- the outputs, the accounts and the turn, as they have to be where the limits are valid
unfoldable pub stands : Runner → Bool
stands r = (outputs_within r.limits.chunk (outputs_of r) && credits_fit r.limits r.credits) && leb r.turn (last_turn r.limits)

-- the inbox likewise, the limits, the smallest grant, and the stores
unfoldable pub agrees : Runner → (stores : Bool) → Bool
agrees r stores =
    (inbox_within r.limits.input.unit r.limits.input.size r.limits.chunk r.input.window r.input.inbox
    && is_valid r.limits) && (grants r && (need_fits r.limits && stores))

regroup : (o c t i s : Bool) → (((i && true) && s) && ((o && c) && t)) ≡ (((((o && c) && i) && t) && true) && s)
regroup true true true true s = and-true s
regroup true true true false s = refl
regroup true true false true s = and-false s
regroup true true false false s = refl
regroup true false t true s = and-false s
regroup true false t false s = refl
regroup false c t true s = and-false s
regroup false c t false s = refl

none : (x i s y : Bool) → (((i && false) && s) && x) ≡ ((y && false) && s)
none x true s true = refl
none x true s false = refl
none x false s true = refl
none x false s false = refl

good_halves : (r : Runner) (stores : Bool) → (agrees r stores && stands r) ≡ is_good r stores
unfolding stands agrees in_range
good_halves r stores = by (is_valid r.limits) refl
  where
    chunk : ℕ
    chunk = r.limits.chunk

    within : Bool
    within = inbox_within r.limits.input.unit r.limits.input.size chunk r.input.window r.input.inbox

    rest : Bool
    rest = grants r && (need_fits r.limits && stores)

    by : (v : Bool) → is_valid r.limits ≡ v → (((within && v) && rest) && stands r) ≡ ((in_range r && v) && rest)
    by false h = none (stands r) within rest (in_range r)
    by true h =
        let p = (Inbox.both (ltb 0 chunk && ltb 0 r.limits.input.size) (ltb 0 r.limits.output.size) h).0 in
        let q = Inbox.both (ltb 0 chunk) (ltb 0 r.limits.input.size) p in
        let hc = ltb-true 0 chunk q.0 in
        rw (
          Queue.within_fits chunk (out_of Stdout r) hc,
          Queue.within_fits chunk (out_of Stderr r) hc,
          Queue.within_fits chunk (out_of Notes r) hc,
          Inbox.within_fits r.limits r.input.window r.input.inbox (ltb-true 0 r.limits.input.size q.1) hc,
        )
        (regroup (outputs_fit chunk (outputs_of r)) (credits_fit r.limits r.credits) (leb r.turn (last_turn r.limits))
        (inbox_fits r.limits r.input.window r.input.inbox) rest)

-- by what the code tested, where found is whether the stores do
module _ (r : Runner) {stores found s a : Bool} (hf : found ≡ stores) (hs : s ≡ stands r) (ha : a ≡ agrees r found) where
  pub tested : stop r stores ≡ stop_if (a && s) r
  tested = stop_by r stores (a && s) (sym (good_halves r stores) ∙ rw (← hf, ← hs, ← ha) refl)

  pub goes : (a && s) ≡ true → stop r stores ≡ Ok tt
  unfolding stop_if
  goes h = rw (tested, h)

  pub stops : (a && s) ≡ false → stop r stores ≡ Err (stopped r)
  unfolding stop_if
  stops h = rw (tested, h)

  -- of a call that names a stream
  pub tested_at : (x : Stream) → stop_at r x stores ≡ cond ((a && s) && has r.limits x) (Ok tt) (Err (stopped_at (a && s) r))
  unfolding stop_at stop_if
  tested_at x = rw tested (by (a && s) (has r.limits x))
    where
      by : (g h : Bool) → unless_closed h (cond g (Ok tt) (Err (stopped r))) ≡ cond (g && h) (Ok tt) (Err (stopped_at g r))
      by true true = refl
      by true false = refl
      by false h = refl

-- what is so of one that meets nothing
pub goes_at : (r : Runner) (x : Stream) (stores : Bool) → stop_at r x stores ≡ Ok tt → (has r.limits x ≡ true) × (stop r stores ≡ Ok tt)
unfolding stop_at
goes_at r x stores e = by (has r.limits x) (stop r stores) e
  where
    by : (h : Bool) (s : Result (Unit {0}) Refusal) → unless_closed h s ≡ Ok tt → (h ≡ true) × (s ≡ Ok tt)
    by true (Ok tt) e = (refl, refl)
    by false (Ok tt) e = no_error Pool e
    by h (Err x) e = no_error x e
