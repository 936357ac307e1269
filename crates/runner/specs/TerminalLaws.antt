-- Terminal is chosen only when the runner is ready: no bytes are queued then, so it is chosen for a buffer of any length.
use Rattle.std.specs.Prelude.{Bool, true, false, not, ◌&&◌, ◌||◌, ◌≡◌, refl, ℕ, ◌≤◌, min, ltb}
use Rattle.std.proofs.lemmas.Bool.{not-true}
use Rattle.std.proofs.Common.{sym, ◌∙◌, arith, ltb-false}
use Rattle.exec.specs.declared.Stream.{Stream}
use Rattle.exec.specs.Limits.{pool_of}
use Rattle.exec.specs.Stream.{every_stream_lem, stream_at, following}
use Rattle.ring.specs.Flags.{and_l, and_r}
use Rattle.lifecycle.specs.Life.{exit_known, is_fenced, is_settled}
use Rattle.output.specs.Output.{is_done, is_delivered}
use Rattle.output.specs.Outputs.{all_delivered}
use Rattle.choice.specs.declared.Choice.{Choice}
use Rattle.runner.specs.declared.runner.Runner.{Runner}
use Rattle.runner.specs.Life.{awaits_launch, is_ready}
use Rattle.runner.specs.Message.{sendable_of, choose}
use Rattle.runner.specs.MessageLaws.{shown, least}
use Rattle.runner.specs.State.{outputs_of, out_of, credit_at}

-- ---- Terminal is chosen only when ready

pub chosen_ready : (n : ℕ) (r : Runner) → choose r n ≡ Choice.Terminal → is_ready r ≡ true
chosen_ready n r e = shown r n Choice.Terminal (sym e)

-- ---- and then nothing is queued

pub ready_delivered : (r : Runner) → is_ready r ≡ true → (x : Stream) → is_delivered r.flags.detached (out_of x r) ≡ true
unfolding is_ready
ready_delivered r e =
    let known : Bool = not (awaits_launch r) && exit_known r.life.exit in
    let all : Bool = all_delivered (outputs_of r) r.flags.detached in
    every_stream_lem (λ (x : Stream). is_delivered r.flags.detached (out_of x r))
    (and_r known all (and_l (known && all) (is_settled r.life.settling || is_fenced r.life.settling) e))

pub ready_empty : (r : Runner) → is_ready r ≡ true → (x : Stream) → ltb 0 (out_of x r).queued ≡ false
ready_empty r e x =
    let o = out_of x r in
    not-true (ltb 0 o.queued) (and_r o.closed (not (ltb 0 o.queued)) (and_l (is_done o) (o.ended || r.flags.detached) (ready_delivered r e x)))

-- ---- so the choice does not ask how long the buffer is

pub sendable_count : (r : Runner) (n : ℕ) (x : Stream) → sendable_of r n x ≤ (out_of x r).queued
unfolding sendable_of
sendable_count r n x =
    let l = least r.limits.output.unit (credit_at (pool_of r.limits x) r.credits).available (min (min (out_of x r).queued r.limits.chunk) n) in omega arith

none_sendable : (r : Runner) (n : ℕ) (x : Stream) → is_ready r ≡ true → sendable_of r n x ≡ 0
none_sendable r n x e = let l = sendable_count r n x in omega (arith, ltb-false 0 (out_of x r).queued (ready_empty r e x))

same : (r : Runner) (n m : ℕ) → is_ready r ≡ true → choose r m ≡ choose r n
unfolding choose
same r n m e =
    let x = stream_at r.turn in
    let y = following x in
    let z = following y in
    rw (none_sendable r m x e, none_sendable r m y e, none_sendable r m z e, none_sendable r n x e, none_sendable r n y e, none_sendable r n z e) refl

pub still : (r : Runner) (n m : ℕ) → choose r n ≡ Choice.Terminal → choose r m ≡ Choice.Terminal
still r n m e = same r n m (chosen_ready n r e) ∙ e
