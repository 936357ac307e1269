-- Terminal finishes the runner, nothing else does, and a finished runner says no more.
use Rattle.std.specs.Prelude.{Option, Result, Some, None, Ok}
use Rattle.exec.specs.declared.Receipt.{Receipt}
use Rattle.exec.specs.declared.Refusal.{Refusal}
use mathlib.Core.Bool.{Bool, true, false, true≢false, false≢true, ◌||◌, or-true, or_assoc, cond}
use mathlib.Core.Path.{◌≡◌, refl, sym, ap, ◌∙◌}
use mathlib.Core.List.{List, [], ◌∷◌, ◌++◌}
use Prim.Native.Nat.{ℕ}
use lib.ListN.{length}
use Rattle.exec.specs.declared.Cause.{Cause}
use Rattle.runner.specs.declared.answer.Request.{Request}
use Rattle.exec.specs.declared.Stream.{Stream}
use Rattle.choice.specs.declared.Choice.{Choice}
use Rattle.runner.specs.declared.runner.Runner.{Runner}
use Rattle.choice.specs.Order.{if_else, order}
use Rattle.exec.specs.Key.{admits}
use Rattle.exec.specs.Limits.{output_pool, has_notes, has}
use Rattle.runner.specs.Calls.{asked_for}
use Rattle.runner.specs.Life.{close_runner_input, launched_next, settled_next, cancel_answer, outcome_of}
use Rattle.runner.specs.Streams.{output_next, discarded_next, closed_next, failed_next, hung_up_next, credit_answer, credit_next, input_answer, input_next, end_answer, end_next, written_next}
use Rattle.runner.specs.Message.{choose, output_paid, output_sent, effect, wish, handed, wish_effect}
use Rattle.calls.specs.Call as Call
use Rattle.calls.specs.Call.{Call, Answer}
use Rattle.account.specs.Step.{State, received_as, asks}
use Rattle.account.proofs.Plain.{said, next, answer, run, after_all, if_open, of_open, by_open}
use Rattle.account.specs.Claim.{is_message, is_terminal, Silent, any_terminal}
use Rattle.account.proofs.Timers.{detach_keeps, exited_keeps, launched_keeps}
use Rattle.runner.specs.SmallestLaws.{input_smallest, end_smallest, written_smallest, close_smallest}
use Rattle.account.proofs.Lives.{conf_of, Frame, frame, frame_by, timed, ticked_frame, cancel_frame}

handed_frame : (w : Request) (s : Runner) → frame (handed w s) ≡ frame s
handed_frame (Request.Terminate c) s = refl
handed_frame _ s = refl

wished_frame : (w : Option Request) (s : Runner) → frame (wish_effect w s) ≡ frame s
unfolding wish_effect
wished_frame None s = refl
wished_frame (Some q) s = handed_frame q s

-- what a call does to the frame: nothing, or it answers Terminal and finishes
pub data Framed (s t : Runner) (r : Answer) : Type 0 where
  kept : frame t ≡ frame s → Framed s t r
  ended : conf_of t ≡ conf_of s → t.flags.finished ≡ true → is_terminal r ≡ true → Framed s t r

sent_frame : (x : Stream) (n : ℕ) (s : Runner) → frame (output_sent x n s) ≡ frame s
unfolding output_sent output_paid
sent_frame x n s = refl

effect_framed : (m : Choice) (s : Runner) (bytes : List ℕ) → Framed s (effect m s) (said m s bytes)
unfolding effect said
effect_framed (Choice.Output x n) s b = kept (sent_frame x n s)
effect_framed Choice.Terminal s b = ended refl refl refl
effect_framed _ s b = kept refl

open_framed : (x : Stream) (s t : State) (a : Answer) → frame t.runner ≡ frame s.runner → Framed s.runner (cond (has s.runner.limits x) t s).runner (if_open s x a)
open_framed x s t a h = by_open (λ (u : State) (r : Answer). Framed s.runner u.runner r) s t x a (λ o. kept h) (kept refl)

pub framed : (c : Call) (s : State) → Framed s.runner (next s c).runner (answer s c)
unfolding next answer credit_next input_next end_next launched_next output_next discarded_next closed_next failed_next hung_up_next written_next close_runner_input settled_next
framed (Call.cancel now k c) s = kept (cancel_frame (admits s.runner.key k) now c s.runner)
framed (Call.input k b) s = kept (frame_by s.runner _ (input_smallest (admits s.runner.key k) s.runner (length b)))
framed (Call.end_input k) s = kept (frame_by s.runner _ (end_smallest (admits s.runner.key k) s.runner))
framed (Call.input_written n) s = kept (frame_by s.runner _ (written_smallest s.runner n s.lengths))
framed Call.input_closed s = kept (frame_by s.runner _ (close_smallest s.runner))
framed (Call.launched x) s = kept (launched_keeps _ (timed s.runner) x s.runner refl)
framed (Call.exited now x) s = kept (exited_keeps _ (timed s.runner) now x s.runner refl)
framed (Call.dropped now) s = kept (detach_keeps _ (timed s.runner) now Cause.Dropped s.runner refl)
framed (Call.reset now) s = kept (detach_keeps _ (timed s.runner) now Cause.Reset s.runner refl)
framed (Call.disconnect now) s = kept (detach_keeps _ (timed s.runner) now Cause.Disconnected s.runner refl)
framed (Call.tick now) s = kept (ticked_frame now s.runner)
framed (Call.output x b) s = open_framed x s _ _ refl
framed (Call.discarded x n) s = open_framed x s _ _ refl
framed (Call.output_closed x) s = open_framed x s _ _ refl
framed (Call.output_failed x) s = open_framed x s _ _ refl
framed (Call.output_hung_up x) s = open_framed x s _ _ refl
framed Call.next_request s = kept (wished_frame (wish s.runner) s.runner)
framed (Call.next_message buffer) s = effect_framed (choose s.runner (length buffer)) s.runner s.bytes
framed _ s = kept refl

pub framed_conf : {s t : Runner} {r : Answer} → Framed s t r → conf_of t ≡ conf_of s
framed_conf (kept e) = ap (λ (x : Frame). x.conf) e
framed_conf (ended c f r) = c

pub fin_stays : (c : Call) (s : State) → s.runner.flags.finished ≡ true → (next s c).runner.flags.finished ≡ true
fin_stays c s f = go (framed c s)
  where
    go : Framed s.runner (next s c).runner (answer s c) → (next s c).runner.flags.finished ≡ true
    go (kept e) = ap (λ (x : Frame). x.finished) e ∙ f
    go (ended _ g r) = g

-- a runner that becomes finished in a call answers Terminal there
pub ends_by : (c : Call) (s : State) → s.runner.flags.finished ≡ false → (next s c).runner.flags.finished ≡ true → is_terminal (answer s c) ≡ true
ends_by c s f g = go (framed c s)
  where
    go : Framed s.runner (next s c).runner (answer s c) → is_terminal (answer s c) ≡ true
    go (kept e) = absurd (true≢false (sym g ∙ ap (λ (x : Frame). x.finished) e ∙ f))
    go (ended _ _ r) = r

-- ---- only next_message answers a message

quiet_received : (x : Result Receipt Refusal) → is_message (received_as x) ≡ false
quiet_received (Ok Receipt.Applied) = refl
quiet_received _ = refl

quiet_wish : (w : Option Request) → is_message (asks (asked_for w)) ≡ false
quiet_wish (Some (Request.Terminate c)) = refl
quiet_wish _ = refl

open_quiet : (x : Stream) (s : State) (a : Answer) → is_message a ≡ false → is_message (if_open s x a) ≡ false
open_quiet x s a h = of_open (λ r. is_message r ≡ false) s x a h refl

pub data Kind (s : State) : Call → Type 0 where
  quiet : {c : Call} → is_message (answer s c) ≡ false → Kind s c
  speaks : (buffer : List ℕ) → Kind s (Call.next_message buffer)

pub kind : (c : Call) (s : State) → Kind s c
unfolding answer
kind (Call.credit k p u) s = quiet (quiet_received (credit_answer (admits s.runner.key k) (output_pool s.runner.limits.shared (has_notes s.runner.limits) p) s.runner u))
kind (Call.input k b) s = quiet (quiet_received (input_answer (admits s.runner.key k) s.runner (length b)))
kind (Call.end_input k) s = quiet (quiet_received (end_answer (admits s.runner.key k) s.runner))
kind (Call.cancel now k c) s = quiet (quiet_received (cancel_answer (admits s.runner.key k) s.runner now))
kind (Call.output x b) s = quiet (open_quiet x s _ refl)
kind (Call.discarded x n) s = quiet (open_quiet x s _ refl)
kind (Call.output_closed x) s = quiet (open_quiet x s _ refl)
kind (Call.output_failed x) s = quiet (open_quiet x s _ refl)
kind (Call.output_hung_up x) s = quiet (open_quiet x s _ refl)
kind (Call.read_allowance x) s = quiet (open_quiet x s _ refl)
kind Call.next_request s = quiet (quiet_wish (wish s.runner))
kind (Call.next_message n) s = speaks n
kind _ s = quiet refl

-- ---- Terminal

pub quiet_terminal : (r : Answer) → is_message r ≡ false → is_terminal r ≡ false
quiet_terminal (Call.Says m) e = absurd (true≢false e)
quiet_terminal _ e = refl

said_terminal : (m : Choice) (s : Runner) (b : List ℕ) → is_terminal (said m s b) ≡ true → m ≡ Choice.Terminal
unfolding said
said_terminal Choice.Terminal s b e = refl
said_terminal _ s b e = absurd (false≢true e)

-- what an answer Terminal shows: the call, the choice, and so the next state
pub record Ends (s : State) (c : Call) : Type 0 where
  pub buffer : List ℕ
  pub call : c ≡ Call.next_message buffer
  pub chosen : choose s.runner (length buffer) ≡ Choice.Terminal

pub ends : (c : Call) (s : State) → is_terminal (answer s c) ≡ true → Ends s c
unfolding answer
ends c s e = go c (kind c s) e
  where
    go : (c : Call) → Kind s c → is_terminal (answer s c) ≡ true → Ends s c
    go c (quiet q) e = absurd (true≢false (sym e ∙ quiet_terminal (answer s c) q))
    go c (speaks b) e = record { buffer = b; call = refl; chosen = said_terminal (choose s.runner (length b)) s.runner s.bytes e }

pub ends_fin : (s : State) (c : Call) → Ends s c → (next s c).runner.flags.finished ≡ true
unfolding next effect
ends_fin s c e = rw (e.call, e.chosen) refl

said_none : (m : Choice) (s : Runner) (b : List ℕ) → m ≡ Choice.None → is_message (said m s b) ≡ false
unfolding said
said_none m s b e = rw e refl

pub finished_none : (n : ℕ) (s : Runner) → s.flags.finished ≡ true → choose s n ≡ Choice.None
unfolding choose order if_else
finished_none n s f = rw f refl

pub no_more : (c : Call) (s : State) → s.runner.flags.finished ≡ true → is_message (answer s c) ≡ false
unfolding answer
no_more c s f = go c (kind c s)
  where
    go : (c : Call) → Kind s c → is_message (answer s c) ≡ false
    go c (quiet q) = q
    go c (speaks b) = said_none (choose s.runner (length b)) s.runner s.bytes (finished_none (length b) s.runner f)

pub silent : (ds : List Call) (s : State) → s.runner.flags.finished ≡ true → Silent (run s ds)
silent [] s f = tt
silent (d ∷ ds) s f = (no_more d s f, silent ds (next s d) (fin_stays d s f))

pub ends_answer : (s : State) (c : Call) → Ends s c → answer s c ≡ Call.Says (Call.Terminal (outcome_of s.runner))
unfolding answer said
ends_answer s c e = rw (e.call, e.chosen) refl

-- ---- over a list

pub run_append : (cs ds : List Call) (s : State) → any_terminal (run s (cs ++ ds)) ≡ (any_terminal (run s cs) || any_terminal (run (after_all s cs) ds))
run_append [] ds s = refl
run_append (c ∷ cs) ds s = rw (run_append cs ds (next s c)) (sym (or_assoc (is_terminal (answer s c)) (any_terminal (run (next s c) cs)) (any_terminal (run (after_all (next s c) cs) ds))))

-- a runner that has finished has said Terminal
pub finished_came : (cs : List Call) (s : State) → s.runner.flags.finished ≡ false → (after_all s cs).runner.flags.finished ≡ true → any_terminal (run s cs) ≡ true
finished_came [] s f g = absurd (true≢false (sym g ∙ f))
finished_came (c ∷ cs) s f g = go (next s c).runner.flags.finished refl (λ e. finished_came cs (next s c) e g)
  where
    go : (b : Bool) → (next s c).runner.flags.finished ≡ b → ((next s c).runner.flags.finished ≡ false → any_terminal (run (next s c) cs) ≡ true) → (is_terminal (answer s c) || any_terminal (run (next s c) cs)) ≡ true
    go true e r = rw (ends_by c s f e) refl
    go false e r = rw (r e) (or-true (is_terminal (answer s c)))

pub conf_list : (cs : List Call) (s : State) → conf_of (after_all s cs).runner ≡ conf_of s.runner
conf_list [] s = refl
conf_list (c ∷ cs) s = conf_list cs (next s c) ∙ framed_conf (framed c s)
