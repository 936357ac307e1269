-- Each call sees no more of a runner than is shown: it leaves what is alike, and answers alike.
use Rattle.std.specs.Prelude.{Option, Result, Some, None, Ok, Err}
use Rattle.exec.specs.declared.Admission.TheVariants.{Own, Stale}
use Rattle.exec.specs.declared.Admission.{Admission}
use Rattle.runner.specs.declared.answer.Request.{Request}
use Rattle.exec.specs.declared.LaunchFailure.{LaunchFailure}
use Rattle.exec.specs.declared.Receipt.{Receipt}
use Rattle.exec.specs.declared.Refusal.{Refusal}
use Rattle.std.proofs.lemmas.Bool.{and_right}
use mathlib.Core.Bool.{Bool, true, false, cond, not, ◌&&◌, ◌||◌, true≢false}
use mathlib.Core.Path.{◌≡◌, refl, sym, ◌∙◌, ap}
use mathlib.Core.List.{List}
use Prim.Native.Nat.{ℕ}
use lib.Dec.{ltb}
use lib.ListN.{length}
use Rattle.exec.specs.declared.Cause.TheVariants.{Dropped, Reset, Disconnected}
use Rattle.exec.specs.declared.Settlement.{Settlement}
use Rattle.exec.specs.declared.Stream.{Stream}
use Rattle.exec.specs.Key.{admits}
use Rattle.exec.specs.Limits.{output_pool, has_notes}
use Rattle.exec.specs.Time.{earliest}
use Rattle.lifecycle.specs.Life.{is_fenced, expected_by, settle_with}
use Rattle.choice.specs.declared.Choice.{Choice}
use Rattle.output.specs.declared.Output.{Output}
use Rattle.output.specs.Output.{is_held, closed_out, failed_out, hung_up, lost_out, intake, ended_out, asked_out, sent_out}
use Rattle.output.specs.Outputs.{any_held}
use Rattle.runner.specs.declared.runner.Runner.{Runner}
use Rattle.runner.specs.Calls as Calls
use Rattle.runner.specs.Calls.{noting, calling, stores_do, input_by, output_by, written_by, request_by, message_by, unless as given}
use Rattle.runner.specs.Life.{awaits_launch, is_cleaned_up, close_runner_input, note_started, note_launch, launched_next, settled_next, deadline_of, is_ready, outcome_of, cancel_answer, cancel_next}
use Rattle.runner.specs.Message.{MessageAfter, sendable_of, choose, output_paid, output_sent, effect, payload, buffer_after, said_for, wish, wish_effect}
use Rattle.runner.specs.Range.{in_range, stop, bytes_do, lengths_do, stop_at}
use Rattle.runner.specs.State.{at, out_of, outputs_of}
use Rattle.runner.specs.Streams.{InputAfter, is_shut, room, received, output_took, output_taken, output_next, output_store, read_allowance_of, discarded_next, closed_next, failed_next, hung_up_next, credit_in, credit_answer, credit_next, input_answer, input_next, input_store, input_lengths, end_answer, end_next, pending_of, written_next, written_came, written_lengths}
use Rattle.calls.specs.Call as Call
use Rattle.calls.specs.Call.{Call, Answer}
use Rattle.account.specs.Step.{State, on_runner, next, answer, replied, received_as, took, came, asks, fires, waits}
use Rattle.idle.proofs.Calm.{Sees, unless, abandon_shown, calm, calm_s, plain, still, clean_awaits, moot_awaits, put_clean, put_moot, settle_sees}
use Rattle.idle.proofs.Passes.{tick_sees, cancel_sees, cancel_shows, exited_sees, detach_sees}

-- ---- launch and settlement

pub launched_sees : (x : (Result (Unit {0}) LaunchFailure)) → Sees (λ (z : Runner). launched_next z x)
unfolding launched_next note_launch note_started close_runner_input
launched_sees x r = by (awaits_launch r) x refl
  where
    by : (b : Bool) (x : Result (Unit {0}) LaunchFailure) → awaits_launch r ≡ b → calm (cond b (note_launch (calm r) x) (calm r)) ≡ calm (cond b (note_launch r x) r)
    by false x e = still r
    by true (Ok tt) e =
        plain r (note_launch r (Ok tt)) refl refl (λ c. absurd (true≢false (sym e ∙ clean_awaits r c))) (λ m. absurd (true≢false (sym e ∙ moot_awaits r m)))
    by true (Err f) e =
        plain r (note_launch r (Err f)) refl refl (λ c. absurd (true≢false (sym e ∙ clean_awaits r c))) (λ m. absurd (true≢false (sym e ∙ moot_awaits r m)))

settled_sees : (y : Settlement) → Sees (λ (x : Runner). settled_next x y)
unfolding settled_next
settled_sees y r = settle_sees (λ s. settle_with s y) r refl refl

-- ---- a stream

at_sees : (x : Stream) (f : Output → Output) (r : Runner) → ((out_of x r).closed ≡ true → (f (out_of x r)).closed ≡ true) → (is_held (out_of x r) ≡ false → is_held (f (out_of x r)) ≡ false)
    → calm (at x f (calm r)) ≡ calm (at x f r)
at_sees x f r c h = plain r (at x f r) refl refl (put_clean x (f (out_of x r)) r c) (put_moot x (f (out_of x r)) r h)

output_sees : (x : Stream) (n : ℕ) → Sees (λ (z : Runner). output_next z x n)
unfolding output_next
output_sees x n r =
    let o : Output = intake (is_shut x r) (out_of x r).discarding (room x r) n (out_of x r) in
    plain r (output_next r x n) refl refl (put_clean x o r (λ e. e)) (put_moot x o r (λ e. e))

-- ---- the calls of the peer, by whether the key is the execution's own

credit_shows : (a : Result Admission Refusal) (p : Result ℕ Refusal) (u : ℕ) (r : Runner) → credit_answer a p (calm r) u ≡ credit_answer a p r u
unfolding credit_answer credit_in
credit_shows (Ok Own) (Err x) u r = refl
credit_shows (Ok Own) (Ok i) u r = refl
credit_shows _ p u r = refl

credit_sees : (a : (Result Admission Refusal)) (p : (Result ℕ Refusal)) (u : ℕ) → Sees (λ (x : Runner). credit_next a p x u)
unfolding credit_next
credit_sees a p u r = plain r (credit_next a p r u) refl refl (λ e. e) (λ e. e)

end_shows : (a : Result Admission Refusal) (r : Runner) → end_answer a (calm r) ≡ end_answer a r
unfolding end_answer
end_shows (Ok Stale) r = refl
end_shows _ r = refl

end_sees : (a : Result Admission Refusal) → Sees (end_next a)
unfolding end_next
end_sees (Ok Own) r = plain r (end_next (Ok Own) r) refl refl (λ e. e) (λ e. e)
end_sees _ r = still r

-- ---- messages and requests

pub effect_sees : (m : Choice) → Sees (effect m)
unfolding effect output_sent output_paid
effect_sees (Choice.End x) r =
    let o : Output = ended_out (out_of x r) in plain r (effect (Choice.End x) r) refl refl (put_clean x o r (λ e. e)) (put_moot x o r (λ e. e))
effect_sees (Choice.Output x n) r =
    let o : Output = sent_out r.limits.chunk n (out_of x r) in
    plain r (effect (Choice.Output x n) r) refl refl (put_clean x o r (λ e. e)) (put_moot x o r (λ e. e))
effect_sees m r = plain r (effect m r) refl refl (λ e. e) (λ e. e)

wish_sees : (w : Option Request) → Sees (wish_effect w)
unfolding wish_effect
wish_sees (Some (Request.Discard x)) r = at_sees x asked_out r (λ e. e) (λ e. e)
wish_sees w r = plain r (wish_effect w r) refl refl (λ e. e) (λ e. e)

-- what next_message leaves: the runner, the answer and the buffer
pub record Messages (a b : MessageAfter) : Type 0 where
  pub runner : calm a.saying.runner ≡ calm b.saying.runner
  pub said : a.saying.answer ≡ b.saying.answer
  pub buffer : a.buffer ≡ b.buffer

pub message_sees : (p : Result (Unit {0}) Refusal) (r : Runner) (store buffer : List ℕ) → Messages (message_by p (calm r) store buffer) (message_by p r store buffer)
unfolding choose is_ready sendable_of effect said_for outcome_of buffer_after payload
message_sees (Ok tt) r store buffer = by (choose r (length buffer))
  where
    by : (m : Choice) → Messages (Calls.chosen_by m (calm r) store buffer) (Calls.chosen_by m r store buffer)
    by Choice.None = record { runner = still r; said = refl; buffer = refl }
    by m = record { runner = effect_sees m r; said = refl; buffer = refl }
message_sees (Err x) r store buffer = record { runner = still r; said = refl; buffer = refl }

-- ---- the deadline

-- with these times of give-up and abandonment, where they count
abbrev first_with : Runner → Option ℕ → Option ℕ → Option ℕ
first_with r g b =
    cond r.flags.finished None
    (earliest (earliest (earliest (earliest r.clocks.timeout_at r.clocks.grace_until) (expected_by r.life.settling)) g) b)

pub deadline_shows : (r : Runner) → deadline_of (calm r) ≡ deadline_of r
unfolding deadline_of
deadline_shows r =
    let a : Bool = awaits_launch r in let f : Bool = is_fenced r.life.settling in let h : Bool = any_held (outputs_of r) in
    ap (λ (g : (Option ℕ)). first_with r g (cond (a || (f && h)) (abandon_shown r) None)) (give_up_lem (is_cleaned_up r) r.clocks.give_up_at)
    ∙ ap (first_with r (cond (not (is_cleaned_up r)) r.clocks.give_up_at None)) (abandon a f h r.clocks.abandon_at)
  where
    give_up_lem : (c : Bool) (g : Option ℕ) → cond (not c) (unless c g) None ≡ cond (not c) g None
    give_up_lem true g = refl
    give_up_lem false g = refl

    abandon : (a f h : Bool) (b : Option ℕ) → cond (a || (f && h)) (unless ((not a && f) && not h) b) None ≡ cond (a || (f && h)) b None
    abandon true f h b = refl
    abandon false true true b = refl
    abandon false true false b = refl
    abandon false false h b = refl

-- ---- a call

-- what it leaves, and what it answers
pub record Alike (s : State) (a : Answer) (t : State) (b : Answer) : Type 0 where
  pub left : calm_s s ≡ calm_s t
  pub answered : a ≡ b

-- where nothing is changed
pub kept_state : (s : State) → calm_s (calm_s s) ≡ calm_s s
kept_state s = ap (λ (x : Runner). on_runner x s) (still s.runner)

module _ (s : State) where
  abbrev r : Runner
  r = s.runner

  pub getting : (a : Answer) → Alike (calm_s s) a s a
  getting a = record { left = kept_state s; answered = refl }

  noted : (p : Result (Unit {0}) Refusal) (x y : Runner) → calm x ≡ calm y
      → Alike (on_runner (noting p x (calm r)).runner s) (replied (noting p x (calm r)).answer) (on_runner (noting p y r).runner s) (replied (noting p y r).answer)
  noted (Ok tt) x y e = record { left = ap (λ (z : Runner). on_runner z s) e; answered = refl }
  noted (Err z) x y e = getting (Call.Refused _)

  heard : (p : Result (Unit {0}) Refusal) (a b : Result Receipt Refusal) (x y : Runner) → a ≡ b → calm x ≡ calm y
      → Alike (on_runner (calling p a x (calm r)).runner s) (received_as (calling p a x (calm r)).answer) (on_runner (calling p b y r).runner s) (received_as (calling p b y r).answer)
  heard (Ok tt) a b x y e f = record { left = ap (λ (z : Runner). on_runner z s) f; answered = ap received_as e }
  heard (Err z) a b x y e f = getting (Call.Refused _)

  abbrev input_left : InputAfter → State
  input_left x = record { runner = x.hearing.runner; bytes = x.bytes; lengths = x.lengths }

  inputted : (p : Result (Unit {0}) Refusal) (a : Result Admission Refusal) (b : List ℕ) → (let x = input_by p a (calm r) b s.bytes s.lengths in let y = input_by p a r b s.bytes s.lengths in
      Alike (input_left x) (received_as x.hearing.answer) (input_left y) (received_as y.hearing.answer))
  unfolding received input_next input_answer input_store input_lengths
  inputted (Err x) a b = getting (Call.Refused _)
  inputted (Ok tt) a b = by a
    where
      by : (a : Result Admission Refusal) → (let x = received a (calm r) b s.bytes s.lengths in let y = received a r b s.bytes s.lengths in
          Alike (input_left x) (received_as x.hearing.answer) (input_left y) (received_as y.hearing.answer))
      by (Err x) = record { left = ap (λ (z : Runner). on_runner z s) (still r); answered = refl }
      by (Ok Stale) = record { left = ap (λ (z : Runner). on_runner z s) (still r); answered = refl }
      by (Ok Own) = record {
        left = ap (λ (z : Runner). record { runner = z; bytes = input_store (Ok Own) r b s.bytes; lengths = input_lengths (Ok Own) r (length b) s.lengths })
            (plain r (input_next (Ok Own) r (length b)) refl refl (λ e. e) (λ e. e));
        answered = refl;
      }

  -- ---- the calls that hand over bytes

  taken : (p : Result (Unit {0}) Refusal) (x : Stream) (b : List ℕ) → (let y = output_by p (calm r) x b s.bytes in let z = output_by p r x b s.bytes in
      Alike (record { runner = y.taking.runner; bytes = y.bytes; lengths = s.lengths }) (took y.taking.answer) (record { runner = z.taking.runner; bytes = z.bytes; lengths = s.lengths }) (took z.taking.answer))
  unfolding output_took output_taken output_store
  taken (Ok tt) x b = record {
    left = ap (λ (z : Runner). record { runner = z; bytes = output_store r x b s.bytes; lengths = s.lengths }) (output_sees x (length b) r);
    answered = refl;
  }
  taken (Err z) x b = getting (Call.Refused _)

  handed_over : (p : Result (Unit {0}) Refusal) (n : ℕ) → (let y = written_by p (calm r) n s.lengths in let z = written_by p r n s.lengths in
      Alike (record { runner = y.counting.runner; bytes = s.bytes; lengths = y.lengths }) (came y.counting.answer) (record { runner = z.counting.runner; bytes = s.bytes; lengths = z.lengths }) (came z.counting.answer))
  unfolding written_next written_came written_lengths
  handed_over (Ok tt) n = record {
    left = ap (λ (z : Runner). record { runner = z; bytes = s.bytes; lengths = written_lengths r n s.lengths }) (plain r (written_next r n s.lengths) refl refl (λ e. e) (λ e. e));
    answered = refl;
  }
  handed_over (Err z) n = getting (Call.Refused _)

  waiting : (p : Result (Unit {0}) Refusal) → Alike (calm_s s) (waits (given p (pending_of (calm r) s.bytes))) s (waits (given p (pending_of r s.bytes)))
  unfolding pending_of
  waiting (Ok tt) = getting _
  waiting (Err z) = getting _

  wished : (p : Result (Unit {0}) Refusal) → Alike (on_runner (request_by p (calm r)).runner s) (asks (request_by p (calm r)).answer) (on_runner (request_by p r).runner s) (asks (request_by p r).answer)
  unfolding wish
  wished (Ok tt) = record { left = ap (λ (z : Runner). on_runner z s) (wish_sees (wish r) r); answered = refl }
  wished (Err z) = getting (Call.Refused _)

pub call_sees : (c : Call) (s : State) → Alike (next (calm_s s) c) (answer (calm_s s) c) (next s c) (answer s c)
unfolding next answer stop stop_at in_range Calls.key Calls.limits Calls.credit Calls.input Calls.end_input Calls.cancel Calls.launched Calls.read_allowance Calls.output Calls.discarded Calls.output_closed Calls.output_failed Calls.output_hung_up Calls.pending_input Calls.input_written Calls.input_closed Calls.exited Calls.settled Calls.dropped Calls.reset Calls.disconnect Calls.tick Calls.deadline Calls.next_request Calls.next_message Calls.is_finished Calls.is_detached Calls.awaits_settlement Calls.memory_bound Calls.buffered Calls.high_water read_allowance_of discarded_next closed_next failed_next hung_up_next close_runner_input
call_sees (Call.credit k p u) s =
    let r : Runner = s.runner in
    let a : (Result Admission Refusal) = admits r.key k in let q : (Result ℕ Refusal) = output_pool r.limits.shared (has_notes r.limits) p in
    heard s (stop r true) (credit_answer a q (calm r) u) (credit_answer a q r u) (credit_next a q (calm r) u) (credit_next a q r u) (credit_shows a q u r) (credit_sees a q u r)
call_sees (Call.input k b) s = inputted s (stop s.runner (stores_do s.runner s.bytes s.lengths)) (admits s.runner.key k) b
call_sees (Call.end_input k) s =
    let r : Runner = s.runner in
    let a : (Result Admission Refusal) = admits r.key k in
    heard s (stop r true) (end_answer a (calm r)) (end_answer a r) (end_next a (calm r)) (end_next a r) (end_shows a r) (end_sees a r)
call_sees (Call.cancel now k c) s =
    let r : Runner = s.runner in
    let a : (Result Admission Refusal) = admits r.key k in
    heard s (stop r true) (cancel_answer a (calm r) now) (cancel_answer a r now) (cancel_next a (calm r) now c) (cancel_next a r now c) (cancel_shows a now r) (cancel_sees a now c r)
call_sees (Call.launched x) s = noted s (stop s.runner true) _ _ (launched_sees x s.runner)
call_sees (Call.output x b) s = taken s (stop_at s.runner x (bytes_do s.runner.limits s.bytes)) x b
call_sees (Call.discarded x n) s = noted s (stop_at s.runner x true) _ _ (at_sees x (lost_out (ltb 0 n)) s.runner (λ e. e) (λ e. e))
call_sees (Call.output_closed x) s = noted s (stop_at s.runner x true) _ _ (at_sees x closed_out s.runner (λ e. refl) (λ e. refl))
call_sees (Call.output_failed x) s = noted s (stop_at s.runner x true) _ _ (at_sees x failed_out s.runner (λ e. refl) (λ e. refl))
call_sees (Call.output_hung_up x) s = noted s (stop_at s.runner x true) _ _ (at_sees x hung_up s.runner (λ e. e) (λ e. and_right (not (out_of x s.runner).closed) false refl))
call_sees Call.pending_input s = waiting s (stop s.runner (bytes_do s.runner.limits s.bytes))
call_sees (Call.input_written n) s = handed_over s (stop s.runner (lengths_do s.runner.limits s.lengths)) n
call_sees Call.input_closed s = noted s (stop s.runner true) _ _ (plain s.runner (close_runner_input s.runner) refl refl (λ e. e) (λ e. e))
call_sees (Call.exited now x) s = noted s (stop s.runner true) _ _ (exited_sees now x s.runner)
call_sees (Call.settled x) s = noted s (stop s.runner true) _ _ (settled_sees x s.runner)
call_sees (Call.dropped now) s = noted s (stop s.runner true) _ _ (detach_sees now Dropped s.runner)
call_sees (Call.reset now) s = noted s (stop s.runner true) _ _ (detach_sees now Reset s.runner)
call_sees (Call.disconnect now) s = noted s (stop s.runner true) _ _ (detach_sees now Disconnected s.runner)
call_sees (Call.tick now) s = noted s (stop s.runner true) _ _ (tick_sees now s.runner)
call_sees Call.deadline s = record {
  left = kept_state s;
  answered = ap (λ (d : (Option ℕ)). fires (given (stop s.runner true) d)) (deadline_shows s.runner);
}
call_sees Call.next_request s = wished s (stop s.runner true)
call_sees (Call.next_message buffer) s =
    let m = message_sees (stop s.runner (bytes_do s.runner.limits s.bytes)) s.runner s.bytes buffer in
    record { left = ap (λ (z : Runner). on_runner z s) m.runner; answered = rw (m.said, m.buffer) refl }
call_sees _ s = getting s _
