-- The phase that an Applied cancel begins: what holds until give-up and after it, the messages left, and what a change of a part must keep.
use Rattle.std.specs.Prelude.{Option}
use mathlib.Core.Bool.{Bool, true, false, cond, not, ◌&&◌, ◌||◌, true≢false, false≢true}
use mathlib.Core.Path.{◌≡◌, refl, sym, ap, ◌∙◌}
use Prim.Native.Nat.{ℕ, ◌+◌, ◌-◌, ◌≤◌}
use native.Mathlib.Omega.{arith}
use native.Mathlib.Nat.{le_refl, add-zero}
use lib.Dec.{ltb}
use borrow.Author.Tests.{ltb-false, le-ltb}
use Rattle.exec.specs.declared.Settlement.{Settlement}
use Rattle.exec.specs.declared.Stream.{Stream}
use Rattle.input.specs.declared.Input.{Input}
use Rattle.output.specs.declared.Output.{Output}
use Rattle.lifecycle.specs.declared.life.Settling.{Settling}
use Rattle.runner.specs.declared.runner.Runner.{Runner}
use Rattle.lifecycle.specs.Life.{launch_known, exit_known, is_settled, expired, settle_with}
use Rattle.input.specs.Input as In
use Rattle.input.specs.Input.{close_when_taken, peer_ends, end_input}
use Rattle.output.specs.Output.{grace_ended, given_up, closed_out, failed_out, hung_up, lost_out, ended_out, asked_out, sent_out, keeps, intake}
use Rattle.runner.specs.Life.{awaits_launch, is_cleaned_up, end_grace, give_up}
use Rattle.exec.specs.Stream.{every_stream_lem, sum_of_streams}
use Rattle.output.specs.Outputs.{all_closed}
use Rattle.exec.specs.Limits.{has_notes}
use Rattle.runner.specs.State.{outputs_of, out_of}
use Rattle.account.proofs.Streams.{blocked_by}
use Rattle.account.proofs.Sides.{out_each}
use Rattle.account.proofs.Stages.{over}
use Rattle.account.proofs.Lives.{given_exit}
use Rattle.std.proofs.lemmas.Bool.{or_right, and_parts}
use Rattle.account.proofs.Flags.{either}

pub data Either (A B : Type 0) : Type 0 where
  left : A → Either A B
  right : B → Either A B

pub on_right : {A B C : Type 0} → (B → C) → Either A B → Either A C
on_right f (left a) = left a
on_right f (right b) = right (f b)

-- the second cannot be
pub not_right : {A B C : Type 0} → (B → ⊥) → Either A B → Either A C
not_right f (left a) = left a
not_right f (right b) = absurd (f b)

-- a stream that holds nothing and will hold nothing
pub record Drained (k : ℕ) (closed discarding : Bool) : Type 0 where
  pub none : ltb 0 k ≡ false
  pub stop : (closed || discarding) ≡ true

abbrev pub Empty : Stream → Output → Type 0
Empty x o = Drained o.queued o.closed o.discarding

abbrev pub Dry : Runner → Type 0
Dry s = (x : Stream) → Empty x (out_of x s)

-- nothing is waited for any more
pub record Known (aw ex : Bool) (c : Stream → Bool) (ov : Bool) : Type 0 where
  pub launch : aw ≡ false
  pub exit : ex ≡ true
  pub closed : (x : Stream) → c x ≡ true
  pub settled : ov ≡ true

abbrev pub AllKnown : Runner → Type 0
AllKnown s = Known (awaits_launch s) (exit_known s.life.exit) (λ (x : Stream). (out_of x s).closed) (over s.life.settling)

-- The phase: the input is closed, the termination begun, and each of the two deadlines stands as P says or has done its work.
-- With P d = "d is a time at or before the sum" this is the phase before give-up, with P d = ⊥ the phase after it.
abbrev pub Phase : ((Option ℕ) → Type 0) → Runner → Type 0
Phase P s = (s.input.closed ≡ true) × (s.clocks.terminated ≡ true) × Either (P s.clocks.grace_until) (Dry s) × Either (P s.clocks.give_up_at) (AllKnown s)

abbrev pub bit : Bool → ℕ
bit true = 1
bit false = 0

-- the Ends that are not told
abbrev pub untold : Runner → ℕ
untold s = sum_of_streams (λ (x : Stream). bit (not (out_of x s).ended))

-- the messages that may still come before Terminal
abbrev pub left_over : Runner → ℕ
left_over s = bit s.flags.started_message + bit s.input.closed_message + untold s

pub over_overdue : (now : ℕ) (x : Settling) → over x ≡ true → over (expired x now) ≡ true
over_overdue now (Settling.Requested d) e = absurd (false≢true e)
over_overdue now _ e = e

settled_over : (x : Settling) → is_settled x ≡ true → over x ≡ true
settled_over Settling.Fenced e = refl
settled_over _ e = e

pub reported_over : (x : Settling) (y : Settlement) → over x ≡ true → over (settle_with x y) ≡ true
reported_over (Settling.Requested d) y e = absurd (false≢true e)
reported_over _ y e = e

pub no_wait : (a b c : Bool) → a ≡ true → (not a && b && c) ≡ false
no_wait true b c e = refl
no_wait false b c e = absurd (false≢true e)

and_none : (a b : Bool) → (a && false && b) ≡ false
and_none true b = refl
and_none false b = refl

pub cleaned_known : (s : Runner) → is_cleaned_up s ≡ true → AllKnown s
cleaned_known s e =
    let l = launch_known s.life.launch in
    let x = exit_known s.life.exit in
    let c = all_closed (outputs_of s) in
    let p = and_parts (l && x && c) (is_settled s.life.settling) e in
    let q = and_parts (l && x) c p.0 in
    let r = and_parts l x q.0 in
    record {
      launch = no_wait l (not s.flags.gave_up) (not s.flags.launch_abandoned) r.0;
      exit = r.1;
      closed = every_stream_lem (λ (x : Stream). (out_of x s).closed) q.1;
      settled = settled_over s.life.settling p.1;
    }

pub known_given : (s : Runner) → AllKnown (give_up s)
unfolding give_up
known_given s = record { launch = and_none (not (launch_known s.life.launch)) (not s.flags.launch_abandoned); exit = given_exit s.life.exit; closed = λ x. ap (λ (o : Output). o.closed) (out_each (has_notes s.limits) s.outputs given_up refl x); settled = refl }

pub known_grace : (s : Runner) → AllKnown s → AllKnown (end_grace s)
unfolding end_grace
known_grace s d = record { launch = d.launch; exit = d.exit; closed = λ x. ap (λ (o : Output). o.closed) (out_each (has_notes s.limits) s.outputs grace_ended refl x) ∙ d.closed x; settled = d.settled }

pub dry_grace : (s : Runner) → Dry (end_grace s)
unfolding end_grace
dry_grace s x = rw (out_each (has_notes s.limits) s.outputs grace_ended refl x) (record { none = refl; stop = blocked_by (out_of x s).closed (out_of x s).discarding })

pub dry_given : (s : Runner) → Dry (give_up s)
unfolding give_up
dry_given s x = rw (out_each (has_notes s.limits) s.outputs given_up refl x) (record { none = refl; stop = refl })

-- what a change of the input, and of an output, must keep
abbrev pub InKept : Input → Input → Type 0
InKept i j = (j.closed ≡ true) × (j.closed_message ≡ i.closed_message)

pub record OutKept (o p : Output) : Type 0 where
  pub drained : Drained o.queued o.closed o.discarding → Drained p.queued p.closed p.discarding
  pub closed : o.closed ≡ true → p.closed ≡ true
  pub msg : bit (not p.ended) ≤ bit (not o.ended)

pub kept_asked : (o : Output) → OutKept o (asked_out o)
kept_asked o = record { drained = λ d. d; closed = λ e. e; msg = le_refl (bit (not o.ended)) }

pub kept_end : (o : Output) → OutKept o (ended_out o)
kept_end o = record { drained = λ d. d; closed = λ e. e; msg = omega arith }

fewer : (k n : ℕ) → ltb 0 k ≡ false → ltb 0 (k - n) ≡ false
fewer k n e = let l = ltb-false 0 k e in le-ltb 0 (k - n) (omega arith)

pub kept_send : (c n : ℕ) (o : Output) → OutKept o (sent_out c n o)
kept_send c n o = record { drained = λ d. record { none = fewer o.queued n d.none; stop = d.stop }; closed = λ e. e; msg = le_refl (bit (not o.ended)) }

pub kept_discard : (b : Bool) (o : Output) → OutKept o (lost_out b o)
kept_discard b o = record { drained = λ d. d; closed = λ e. e; msg = le_refl (bit (not o.ended)) }

pub kept_close : (o : Output) → OutKept o (closed_out o)
kept_close o = record { drained = λ d. record { none = d.none; stop = refl }; closed = λ e. refl; msg = le_refl (bit (not o.ended)) }

pub kept_fail : (o : Output) → OutKept o (failed_out o)
kept_fail o = record { drained = λ d. record { none = d.none; stop = refl }; closed = λ e. refl; msg = le_refl (bit (not o.ended)) }

pub kept_hang : (o : Output) → OutKept o (hung_up o)
kept_hang o = record { drained = λ d. d; closed = λ e. e; msg = le_refl (bit (not o.ended)) }

pub intake_none : (c g d : Bool) (room n : ℕ) → (c || d) ≡ true → keeps (c || g) d room n ≡ 0
intake_none true g d room n e = refl
intake_none false true d room n e = refl
intake_none false false true room n e = refl
intake_none false false false room n e = absurd (false≢true e)

pub kept_intake : (g : Bool) (room n : ℕ) (o : Output) → OutKept o (intake (o.closed || g) o.discarding room n o)
kept_intake g room n o = record {
  drained = λ d. record { none = rw (intake_none o.closed g o.discarding room n d.stop, add-zero) d.none; stop = d.stop };
  closed = λ e. e;
  msg = le_refl (bit (not o.ended));
}

kept_taken : (i j : Input) → j.closed ≡ true → j.closed_message ≡ i.closed_message → InKept i (close_when_taken j)
kept_taken i j e m = (or_right (In.is_used_up j) j.closed e, m)

pub kept_ended : (i : Input) → i.closed ≡ true → InKept i (end_input i)
unfolding end_input
kept_ended i e = either (InKept i) i.peer_ended i (close_when_taken (peer_ends i)) (e, refl) (kept_taken i (peer_ends i) e refl)

pub kept_written : (b : Bool) (i j : Input) → i.closed ≡ b → i.closed ≡ true → InKept i (cond b i j)
kept_written true i j f e = (e, refl)
kept_written false i j f e = absurd (true≢false (sym e ∙ f))
