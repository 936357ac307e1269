-- A claim on each output stream of a runner: what it must stand for a call that says no message to keep it. Such a call changes
-- an output in nine ways.
use Rattle.std.specs.Prelude.{Option, Some}
use Rattle.runner.specs.declared.answer.Request.{Request}
use mathlib.Core.Bool.{Bool, false, ◌||◌, true≢false}
use mathlib.Core.Path.{◌≡◌, refl, subst⁻¹}
use Prim.Native.Nat.{ℕ}
use lib.Dec.{ltb}
use lib.ListN.{length}
use mathlib.Core.List.{List}
use Rattle.exec.specs.declared.Cause.{Cause}
use Rattle.exec.specs.declared.Stream.{Stream}
use Rattle.exec.specs.Key.{admits}
use Rattle.exec.specs.Limits.{has_notes}
use Rattle.choice.specs.declared.Choice.{Choice}
use Rattle.output.specs.declared.Output.{Output}
use Rattle.output.specs.Output.{grace_ended, given_up, abandoned, asked_out, closed_out, failed_out, hung_up, lost_out, intake}
use Rattle.runner.specs.declared.runner.Runner.{Runner}
use Rattle.runner.specs.Life.{close_runner_input, settled_next}
use Rattle.runner.specs.Message.{choose, effect, wish, wish_effect}
use Rattle.runner.specs.State.{out_of, at}
use Rattle.runner.specs.Streams.{is_shut, room, output_next, discarded_next, closed_next, failed_next, hung_up_next, credit_next, input_next, end_next, written_next}
use Rattle.calls.specs.Call.{Call}
use Rattle.account.specs.Step.{State}
use Rattle.account.specs.Claim.{is_message}
use Rattle.account.proofs.Plain.{said, next, answer, open_keeps}
use Rattle.account.proofs.Sides.{out_each, on_out}
use Rattle.account.proofs.Timers.{Kept, tick_keeps, cancel_keeps, detach_keeps, exited_keeps, launched_keeps}

abbrev pub All : (Stream → Output → Type 0) → Runner → Type 0
All P r = (x : Stream) → P x (out_of x r)

pub record Stands (P : Stream → Output → Type 0) : Type 0 where
  pub grace : (x : Stream) (o : Output) → P x o → P x (grace_ended o)
  pub gives : (x : Stream) (o : Output) → P x o → P x (given_up o)
  pub abandons : (x : Stream) (o : Output) → P x o → P x (abandoned o)
  pub asked : (x : Stream) (o : Output) → P x o → P x (asked_out o)
  pub closes : (x : Stream) (o : Output) → P x o → P x (closed_out o)
  pub fails : (x : Stream) (o : Output) → P x o → P x (failed_out o)
  pub hangs : (x : Stream) (o : Output) → P x o → P x (hung_up o)
  pub loses : (x : Stream) (b : Bool) (o : Output) → P x o → P x (lost_out b o)
  pub takes : (x : Stream) (gave_up d : Bool) (k n : ℕ) (o : Output) → P x o → P x (intake (o.closed || gave_up) d k n o)

-- where next_message says nothing, nothing was chosen
unsaid_still : (m : Choice) (r : Runner) (store : List ℕ) → is_message (said m r store) ≡ false → effect m r ≡ r
unfolding said effect
unsaid_still Choice.None r store e = refl
unsaid_still _ r store e = absurd (true≢false e)

module _ (P : Stream → Output → Type 0) (h : Stands P) where
  -- one stream's output changed
  on : (x : Stream) (f : Output → Output) (r : Runner) → (P x (out_of x r) → P x (f (out_of x r))) → All P r → All P (at x f r)
  on x f r k p = on_out (has_notes r.limits) r.outputs P x (f (out_of x r)) (k (p x)) p

  timed : Kept (All P)
  unfolding close_runner_input
  timed = record {
    moves = λ r c l f e p. p;
    closes = λ r p. p;
    tells = λ r p. p;
    grace = λ r p x. rw (out_each (has_notes r.limits) r.outputs grace_ended refl x) (h.grace x (out_of x r) (p x));
    gives = λ r p x. rw (out_each (has_notes r.limits) r.outputs given_up refl x) (h.gives x (out_of x r) (p x));
    abandons = λ r p x. rw (out_each (has_notes r.limits) r.outputs abandoned refl x) (h.abandons x (out_of x r) (p x));
  }

  wished_keeps : (w : Option Request) (r : Runner) → All P r → All P (wish_effect w r)
  unfolding wish_effect
  wished_keeps (Some (Request.Discard x)) r p = on x asked_out r (h.asked x (out_of x r)) p
  wished_keeps _ r p = p

  pub quiet_keeps : (c : Call) (s : State) → is_message (answer s c) ≡ false → All P s.runner → All P (next s c).runner
  unfolding next answer credit_next input_next end_next output_next discarded_next closed_next failed_next hung_up_next written_next close_runner_input settled_next
  quiet_keeps (Call.next_message b) s e p = subst⁻¹ (All P) (unsaid_still (choose s.runner (length b)) s.runner s.bytes e) p
  quiet_keeps (Call.cancel now k c) s e p = cancel_keeps _ timed (admits s.runner.key k) now c s.runner p
  quiet_keeps (Call.launched x) s e p = launched_keeps _ timed x s.runner p
  quiet_keeps (Call.exited now x) s e p = exited_keeps _ timed now x s.runner p
  quiet_keeps (Call.dropped now) s e p = detach_keeps _ timed now Cause.Dropped s.runner p
  quiet_keeps (Call.reset now) s e p = detach_keeps _ timed now Cause.Reset s.runner p
  quiet_keeps (Call.disconnect now) s e p = detach_keeps _ timed now Cause.Disconnected s.runner p
  quiet_keeps (Call.tick now) s e p = tick_keeps _ timed now s.runner p
  quiet_keeps Call.next_request s e p = wished_keeps (wish s.runner) s.runner p
  quiet_keeps (Call.output x b) s e p =
      let r : Runner = s.runner in
      open_keeps (λ (u : State). All P u.runner) s _ x (on x (intake (is_shut x r) (out_of x r).discarding (room x r) (length b)) r (h.takes x r.flags.gave_up (out_of x r).discarding (room x r) (length b) (out_of x r)) p) p
  quiet_keeps (Call.discarded x n) s e p = open_keeps (λ (u : State). All P u.runner) s _ x (on x (lost_out (ltb 0 n)) s.runner (h.loses x (ltb 0 n) (out_of x s.runner)) p) p
  quiet_keeps (Call.output_closed x) s e p = open_keeps (λ (u : State). All P u.runner) s _ x (on x closed_out s.runner (h.closes x (out_of x s.runner)) p) p
  quiet_keeps (Call.output_failed x) s e p = open_keeps (λ (u : State). All P u.runner) s _ x (on x failed_out s.runner (h.fails x (out_of x s.runner)) p) p
  quiet_keeps (Call.output_hung_up x) s e p = open_keeps (λ (u : State). All P u.runner) s _ x (on x hung_up s.runner (h.hangs x (out_of x s.runner)) p) p
  quiet_keeps _ s e p = p
