-- The bytes that are held once a call has kept some are no more than the need of the byte store, a number of 64 bits.
use Rattle.std.proofs.Common.{◌≡◌, refl, ap, ◌∙◌, Bool, true, false, cond, ℕ, ◌+◌, ◌-◌, ◌≤◌, ◌<◌, ◌^◌, arith, List, length, ltb-false}
use Rattle.exec.specs.declared.Limits.{Limits}
use Rattle.exec.specs.declared.Stream.{Stream}
use Rattle.exec.specs.declared.Stream.TheVariants.{Stdout, Stderr, Notes}
use Rattle.exec.specs.Limits.{cost, has, has_notes, input_bytes as inbox_bytes}
use Rattle.inbox.specs.Need.{byte_need}
use Rattle.inbox.specs.RangeLaws as Inbox
use Rattle.input.specs.declared.Input.{Input}
use Rattle.input.specs.declared.Receiving.{Receiving}
use Rattle.input.specs.Input as In
use Rattle.input.proofs.Receives.{chunk_fits}
use Rattle.output.specs.declared.Intake.{Intake}
use Rattle.output.specs.declared.Output.{Output}
use Rattle.output.specs.Output.{IntakeAfter, intake_after, taken_in, intake, keeps, keeps_fit, over}
use Rattle.output.specs.Outputs.{put_output, notes}
use Rattle.runner.specs.declared.runner.Runner.{Runner}
use Rattle.runner.specs.RangeLaws.{InRange}
use Rattle.runner.specs.State.{with_input, with_outputs, out_of, buffered}
use Rattle.runner.specs.Streams.{is_shut, room, output_filled}

-- the third queue holds no more than its ring, which it has where it is open
third_held : (b : Bool) (chunk : ℕ) (o : Output) → (cond b o over).queued ≤ chunk → (cond b o over).queued ≤ cond b chunk 0
third_held true chunk o h = h
third_held false chunk o h = omega arith

notes_held : (r : Runner) → InRange r → (out_of Notes r).queued ≤ cond (has r.limits Notes) r.limits.chunk 0
notes_held r h = third_held (has_notes r.limits) r.limits.chunk (notes r.outputs) (h.queue Notes).most

third_most : (b : Bool) (chunk : ℕ) (o : Output) → o.queued ≤ chunk → (cond b o over).queued ≤ cond b chunk 0
third_most true chunk o h = h
third_most false chunk o h = omega arith

-- the queue that was filled is within its chunk, so all that is held is within the need
pub filled_fits : (r : Runner) (x : Stream) (n : ℕ) → InRange r → buffered (output_filled r x n) ≤ byte_need r.limits
filled_fits r x n h = by x (keeps_fit (is_shut x r) (out_of x r).discarding (room x r) n)
  where
    by : (y : Stream) → keeps (is_shut y r) (out_of y r).discarding (room y r) n ≤ room y r → buffered (output_filled r y n) ≤ byte_need r.limits
    by Stdout k = omega (arith, (h.queue Stdout).most, (h.queue Stderr).most, notes_held r h, h.input.most)
    by Stderr k = omega (arith, (h.queue Stdout).most, (h.queue Stderr).most, notes_held r h, h.input.most)
    by Notes k =
        let o = intake (is_shut Notes r) (out_of Notes r).discarding (room Notes r) n (out_of Notes r) in
        let most = (h.queue Notes).most in
        omega (arith, (h.queue Stdout).most, (h.queue Stderr).most, third_most (has_notes r.limits) r.limits.chunk o (omega arith), h.input.most)

-- what is held then is a number of 64 bits
pub filled_small : (r : Runner) (x : Stream) (bytes store : List ℕ) (o : Output) (at : ℕ) (t : Intake) (store' : List ℕ) (next : List Output) → o ≡ out_of x r
    → intake_after t store' ≡ taken_in o r.flags.gave_up at r.limits.chunk bytes store → next ≡ put_output x t.output r.outputs
    → InRange r → byte_need r.limits ≤ 2 ^ 64 - 1 → buffered (with_outputs next r) < 2 ^ 64
unfolding taken_in
filled_small r x bytes store o at t store' next ho e hn h need =
    let same : with_outputs next r ≡ output_filled r x (length bytes) = rw (hn, ap (λ (a : IntakeAfter). a.answer.output) e, ho) in
    omega (arith, ap buffered same, filled_fits r x (length bytes) h)

pub held_fits : (r : Runner) → InRange r → buffered r ≤ byte_need r.limits
held_fits r h = omega (arith, (h.queue Stdout).most, (h.queue Stderr).most, notes_held r h, h.input.most)

-- ---- input

-- what is kept has room, so all that is held is within the need
kept_length : (l : Limits) (i : Input) (n : ℕ) (b : Bool) → In.is_kept l i n ≡ b → Inbox.InRange l i.window i.inbox
    → cond b (i.inbox.length + n) i.inbox.length ≤ inbox_bytes l
kept_length l i n false e h = h.most
kept_length l i n true e h =
    let p = In.passed l i n (In.kept_paid l i n e) in
    Inbox.has_room l i.window i.inbox h n (chunk_fits l n p.chunk) (ltb-false i.window.open (cost l.input.unit n) p.window)

length_of : (l : Limits) (i : Input) (n : ℕ) (b : Bool) → In.is_kept l i n ≡ b → (In.receive_input l i n).inbox.length ≡ cond b (i.inbox.length + n) i.inbox.length
unfolding In.receive_input
length_of l i n true e = rw e
length_of l i n false e = rw e

received_fits : (r : Runner) (bytes store lengths : List ℕ) (v : Receiving) (store' lengths' : List ℕ) → InRange r
    → In.receive_after v store' lengths' ≡ In.receive r.limits r.input bytes store lengths
    → buffered (with_input v.input r) ≤ byte_need r.limits
received_fits r bytes store lengths v store' lengths' h e =
    let n = length bytes in
    let b = In.is_kept r.limits r.input n in
    let k = kept_length r.limits r.input n b refl h.input in
    let m : v.input.inbox.length ≡ cond b (r.input.inbox.length + n) r.input.inbox.length =
    ap (λ (a : In.ReceiveAfter). a.receiving.input.inbox.length) e ∙ length_of r.limits r.input n b refl in
    omega (arith, (h.queue Stdout).most, (h.queue Stderr).most, notes_held r h, k, m)

pub received_small : (r : Runner) (bytes store lengths : List ℕ) (v : Receiving) (store' lengths' : List ℕ) → InRange r
    → In.receive_after v store' lengths' ≡ In.receive r.limits r.input bytes store lengths
    → byte_need r.limits ≤ 2 ^ 64 - 1 → buffered (with_input v.input r) < 2 ^ 64
received_small r bytes store lengths v store' lengths' h e need =
    omega (arith, received_fits r bytes store lengths v store' lengths' h e)
