-- A call that is not refused by 12, 10, 46 or 11 leaves and answers what it does without these, and its answer is none of them.
use Rattle.std.specs.Prelude.{Option, Result, Some, Ok, Err}
use Rattle.exec.specs.declared.Admission.TheVariants.{Own, Stale}
use Rattle.exec.specs.declared.Admission.{Admission}
use Rattle.runner.specs.declared.answer.Request.{Request}
use Rattle.exec.specs.declared.Receipt.{Receipt}
use Rattle.exec.specs.declared.Refusal.{Refusal}
use mathlib.Core.Bool.{Bool, true, false, cond}
use mathlib.Core.Path.{◌≡◌, refl, ap, ◌∙◌}
use mathlib.Core.List.{List}
use Prim.Native.Nat.{ℕ}
use lib.Dec.{ltb, eqb}
use lib.ListN.{length, drop}
use lib.Seq.{take_at}
use Rattle.exec.specs.declared.Key.{Key}
use Rattle.exec.specs.declared.Pool.{Pool}
use Rattle.exec.specs.declared.Stream.{Stream}
use Rattle.exec.specs.Key.{admits}
use Rattle.exec.specs.Limits.{cost, off_chunk, output_pool, has, has_notes}
use Rattle.exec.specs.Refusal.{number}
use Rattle.credit.specs.Sender.{grantable}
use Rattle.input.specs.Input as Input
use Rattle.choice.specs.declared.Choice.{Choice}
use Rattle.runner.specs.declared.runner.Runner.{Runner}
use Rattle.runner.specs.Calls as Calls
use Rattle.runner.specs.Calls.{asked_for}
use Rattle.runner.specs.Life.{is_late, ticked, cancel_answer}
use Rattle.runner.specs.Message.{choose, payload, said_for, buffer_after, wish}
use Rattle.runner.specs.MessageLaws.{payload_length}
use Rattle.runner.specs.Range.{stop, stop_at, unless_closed, bytes_do}
use Rattle.runner.specs.State.{credit_at}
use Rattle.runner.specs.Streams as Streams
use Rattle.calls.specs.Call as Call
use Rattle.calls.specs.Call.{Call, Answer}
use Rattle.account.specs.Claim.{is_stop}
use Rattle.account.specs.Step as Step
use Rattle.account.specs.Step.{State, on_runner, received_as, replied, took, counts, asks, says}
use Rattle.account.proofs.Plain as Plain
use Rattle.account.proofs.Plain.{said}

-- ---- what is left

-- of a call that names a stream, by whether that is open
noted_is : (h : Bool) (t : Runner) (s : State) → on_runner (Calls.noting (unless_closed h (Ok tt)) t s.runner).runner s ≡ cond h (on_runner t s) s
noted_is true t s = refl
noted_is false t s = refl

answered_is : (h : Bool) (t r : Runner) → replied (Calls.noting (unless_closed h (Ok tt)) t r).answer ≡ cond h Call.Ok (Call.Refused 2)
answered_is true t r = refl
answered_is false t r = refl

pub next_is : (s : State) (c : Call) → stop s.runner (Plain.enough s c) ≡ Ok tt → Step.next s c ≡ Plain.next s c
unfolding stop_at Plain.enough Plain.next Step.next Streams.received Streams.output_took Calls.credit Calls.input Calls.end_input Calls.cancel Calls.launched Calls.output Calls.discarded Calls.output_closed Calls.output_failed Calls.output_hung_up Calls.input_written Calls.input_closed Calls.exited Calls.settled Calls.dropped Calls.reset Calls.disconnect Calls.tick Calls.next_request Calls.next_message
next_is s Call.key g = refl
next_is s (Call.output x b) g = rw g (by (has s.runner.limits x))
  where
    t : Streams.OutputAfter
    t = Streams.output_took s.runner x b s.bytes

    by : (h : Bool) → (let a = Calls.output_by (unless_closed h (Ok tt)) s.runner x b s.bytes in
        ◌≡◌ {A = State} (record { runner = a.taking.runner; bytes = a.bytes; lengths = s.lengths })
        (cond h (record { runner = t.taking.runner; bytes = t.bytes; lengths = s.lengths }) s))
    by true = refl
    by false = refl
next_is s (Call.discarded x n) g = rw g (noted_is (has s.runner.limits x) _ s)
next_is s (Call.output_closed x) g = rw g (noted_is (has s.runner.limits x) _ s)
next_is s (Call.output_failed x) g = rw g (noted_is (has s.runner.limits x) _ s)
next_is s (Call.output_hung_up x) g = rw g (noted_is (has s.runner.limits x) _ s)
next_is s _ g = first_of (rw g, cc)

-- ---- what is answered

-- the payload is read where the call put it
says_is : (m : Choice) (r : Runner) (store buffer : List ℕ) → ((x : Stream) (n : ℕ) → Choice.Output x n ≡ m → length (payload r x n store) ≡ n)
    → says (said_for m r) (buffer_after m r store buffer) ≡ said m r store
unfolding said_for buffer_after said
says_is (Choice.Output x n) r store buffer h =
    ap (λ (b : List ℕ). Call.Says (Call.Output x b)) (take_at (payload r x n store) (drop n buffer) n (h x n refl))
says_is _ r store buffer h = refl

pub answer_is : (s : State) (c : Call) → stop s.runner (Plain.enough s c) ≡ Ok tt → Step.answer s c ≡ Plain.answer s c
unfolding stop_at Plain.enough Plain.answer Step.answer Streams.received Streams.output_took Calls.key Calls.limits Calls.credit Calls.input Calls.end_input Calls.cancel Calls.launched Calls.read_allowance Calls.output Calls.discarded Calls.output_closed Calls.output_failed Calls.output_hung_up Calls.pending_input Calls.input_written Calls.input_closed Calls.exited Calls.settled Calls.dropped Calls.reset Calls.disconnect Calls.tick Calls.deadline Calls.next_request Calls.next_message Calls.is_finished Calls.is_detached Calls.awaits_settlement Calls.memory_bound Calls.buffered Calls.high_water
answer_is s (Call.next_message buffer) g =
    let e : stop s.runner (bytes_do s.runner.limits s.bytes) ≡ (Ok tt) = g in
    rw e (says_is (choose s.runner (length buffer)) s.runner s.bytes buffer (λ x n o. payload_length s.runner s.bytes buffer x n e o))
answer_is s (Call.read_allowance x) g = rw g (by (has s.runner.limits x))
  where
    by : (h : Bool) → counts (Calls.unless (unless_closed h (Ok tt)) (Streams.read_allowance_of s.runner x))
        ≡ cond h (Call.Value (Streams.read_allowance_of s.runner x)) (Call.Refused 2)
    by true = refl
    by false = refl
answer_is s (Call.output x b) g = rw g (by (has s.runner.limits x))
  where
    by : (h : Bool) → took (Calls.output_by (unless_closed h (Ok tt)) s.runner x b s.bytes).taking.answer
        ≡ cond h (Call.Taken (Streams.output_taken s.runner x (length b))) (Call.Refused 2)
    by true = refl
    by false = refl
answer_is s (Call.discarded x n) g = rw g (answered_is (has s.runner.limits x) _ s.runner)
answer_is s (Call.output_closed x) g = rw g (answered_is (has s.runner.limits x) _ s.runner)
answer_is s (Call.output_failed x) g = rw g (answered_is (has s.runner.limits x) _ s.runner)
answer_is s (Call.output_hung_up x) g = rw g (answered_is (has s.runner.limits x) _ s.runner)
answer_is s _ g = rw g refl

-- ---- which is none of the four (by the answers alone, so that demand 3 does not stand on what a refusal leaves)

abbrev Calm : Result Receipt Refusal → Type 0
Calm x = is_stop (received_as x) ≡ false

either : (b : Bool) (x y : Result Receipt Refusal) → Calm x → Calm y → Calm (cond b x y)
either true x y p q = p
either false x y p q = q

abbrev CalmAdmission : Result Admission Refusal → Type 0
CalmAdmission (Err x) = is_stop (Call.Refused (number x)) ≡ false
CalmAdmission _ = Unit

admission_either : (b : Bool) (x y : Result Admission Refusal) → CalmAdmission x → CalmAdmission y → CalmAdmission (cond b x y)
admission_either true x y p q = p
admission_either false x y p q = q

admits_calm : (own message : Key) → CalmAdmission (admits own message)
unfolding admits
admits_calm own message =
    admission_either (eqb message.id own.id) _ _
    (admission_either (ltb message.generation own.generation) _ _ tt (admission_either (eqb message.generation own.generation) _ _ tt refl))
    refl

abbrev CalmPool : Result ℕ Refusal → Type 0
CalmPool (Ok i) = Unit
CalmPool (Err x) = is_stop (Call.Refused (number x)) ≡ false

pool_calm : (shared notes : Bool) (p : Pool) → CalmPool (output_pool shared notes p)
pool_calm true n Pool.Output = tt
pool_calm false n Pool.Input = refl
pool_calm false n Pool.Stdout = tt
pool_calm false n Pool.Stderr = tt
pool_calm false n Pool.Output = refl
pool_calm false true Pool.Notes = tt
pool_calm false false Pool.Notes = refl
pool_calm true n _ = refl

credit_in_lem : (p : Result ℕ Refusal) (r : Runner) (units : ℕ) → CalmPool p → Calm (Streams.credit_in p r units)
unfolding Streams.credit_in
credit_in_lem (Err x) r units h = h
credit_in_lem (Ok i) r units h =
    either r.flags.finished _ _ refl (either (grantable (credit_at i r.credits) units) _ _ refl refl)

credit_calm : (a : Result Admission Refusal) (p : Result ℕ Refusal) (r : Runner) (units : ℕ) → CalmAdmission a → CalmPool p → Calm (Streams.credit_answer a p r units)
unfolding Streams.credit_answer
credit_calm (Err x) p r units h k = h
credit_calm (Ok Stale) p r units h k = refl
credit_calm (Ok Own) p r units h k = credit_in_lem p r units k

input_calm : (a : Result Admission Refusal) (r : Runner) (n : ℕ) → CalmAdmission a → Calm (Streams.input_answer a r n)
unfolding Streams.input_answer Input.receive_answer
input_calm (Err x) r n h = h
input_calm (Ok Stale) r n h = refl
input_calm (Ok Own) r n h =
    either r.flags.finished _ _ refl
    (either r.input.peer_ended _ _ refl
    (either (off_chunk r.limits n) _ _ refl
    (either (ltb r.input.window.open (cost r.limits.input.unit n)) _ _ refl (either r.input.closed _ _ refl refl))))

end_calm : (a : Result Admission Refusal) (r : Runner) → CalmAdmission a → Calm (Streams.end_answer a r)
unfolding Streams.end_answer Input.end_answer
end_calm (Err x) r h = h
end_calm (Ok Stale) r h = refl
end_calm (Ok Own) r h =
    either r.flags.finished _ _ refl (either r.input.peer_ended _ _ refl (either r.input.closed _ _ refl refl))

cancel_calm : (a : Result Admission Refusal) (r : Runner) (now : ℕ) → CalmAdmission a → Calm (cancel_answer a r now)
unfolding cancel_answer
cancel_calm (Err x) r now h = h
cancel_calm (Ok Stale) r now h = refl
cancel_calm (Ok Own) r now h = either (is_late (ticked r now)) _ _ refl refl

wish_calm : (w : Option Request) → is_stop (asks (asked_for w)) ≡ false
wish_calm (Some (Request.Terminate c)) = refl
wish_calm _ = refl

said_calm : (m : Choice) (r : Runner) (bytes : List ℕ) → is_stop (said m r bytes) ≡ false
unfolding said
said_calm (Choice.End x) r bytes = refl
said_calm _ r bytes = refl

open_calm : (s : State) (x : Stream) (a : Answer) → is_stop a ≡ false → is_stop (Plain.if_open s x a) ≡ false
open_calm s x a h = Plain.of_open (λ r. is_stop r ≡ false) s x a h refl

calm : (s : State) (c : Call) → is_stop (Plain.answer s c) ≡ false
unfolding Plain.answer
calm s (Call.credit k p u) = credit_calm (admits s.runner.key k) (output_pool s.runner.limits.shared (has_notes s.runner.limits) p) s.runner u (admits_calm s.runner.key k) (pool_calm s.runner.limits.shared (has_notes s.runner.limits) p)
calm s (Call.input k b) = input_calm (admits s.runner.key k) s.runner (length b) (admits_calm s.runner.key k)
calm s (Call.end_input k) = end_calm (admits s.runner.key k) s.runner (admits_calm s.runner.key k)
calm s (Call.cancel now k c) = cancel_calm (admits s.runner.key k) s.runner now (admits_calm s.runner.key k)
calm s (Call.output x b) = open_calm s x _ refl
calm s (Call.discarded x n) = open_calm s x _ refl
calm s (Call.output_closed x) = open_calm s x _ refl
calm s (Call.output_failed x) = open_calm s x _ refl
calm s (Call.output_hung_up x) = open_calm s x _ refl
calm s (Call.read_allowance x) = open_calm s x _ refl
calm s Call.next_request = wish_calm (wish s.runner)
calm s (Call.next_message buffer) = said_calm (choose s.runner (length buffer)) s.runner s.bytes
calm s _ = refl

pub not_stopped : (s : State) (c : Call) → stop s.runner (Plain.enough s c) ≡ Ok tt → is_stop (Step.answer s c) ≡ false
not_stopped s c g = ap is_stop (answer_is s c g) ∙ calm s c
