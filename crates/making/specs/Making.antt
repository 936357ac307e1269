-- What a call that the code makes leaves and answers.
use Rattle.std.specs.Prelude.{Bool, true, false, cond, ◌≡◌, refl, List, [], ◌∷◌, ◌++◌, ℕ, zero, suc, ◌+◌, ◌-◌, ◌≤◌, min, length, take, drop, Option, Result, Some, None, Ok, Err}
use Rattle.std.proofs.Common.{sym, subst, ap, ◌∙◌, arith, length-take, length-drop, take_at}
use Rattle.runner.specs.declared.answer.Message.{Message}
use Rattle.exec.specs.declared.Refusal.{Refusal}
use Rattle.exec.specs.Refusal.{number}
use Rattle.syntax.specs.Lines.{zeros}
use Rattle.syntax.specs.Zeros.{zeros_length}
use Rattle.exec.specs.declared.Stream.{Stream}
use Rattle.choice.specs.declared.Choice.{Choice}
use Rattle.runner.specs.declared.runner.Runner.{Runner}
use Rattle.runner.specs.Calls.{message_by, next_message, unless, pending_input}
use Rattle.runner.specs.Range.{bytes_do, stop}
use Rattle.ring.specs.Ring.{first_run}
use Rattle.inbox.specs.Inbox.{front, inbox_base}
use Rattle.exec.specs.Limits.{input_bytes}
use Rattle.input.specs.Input as Input
use Rattle.runner.specs.Streams.{OutputAfter, InputAfter, pending_of}
use Rattle.runner.specs.declared.answer.After.{After}
use Rattle.runner.specs.Message.{MessageAfter, message_after, said_for, choose, sendable_of}
use Rattle.exec.specs.Limits.{pool_of}
use Rattle.runner.specs.State.{out_of, credit_at}
use Rattle.runner.specs.MessageLaws.{chosen, least}
use Rattle.calls.specs.Call as Account
use Rattle.calls.specs.Call.{Call, time_of}
use Rattle.account.specs.Step.{State, next, answer, says, took, received_as, waits}
use Rattle.ring.specs.Runs.{copied}
use Rattle.ring.specs.Lent.{copied_back}
use Rattle.answering.specs.Answering.{answer_is, AnswerIs}
use Rattle.answering.specs.declared.Answer.{Answer}
use Rattle.syntax.specs.declared.Question.{Question}
use Rattle.syntax.specs.declared.Timed.{Timed}
use Rattle.syntax.specs.Meaning.{timed_is, question_is}

abbrev pub state_of : Runner → (bytes lengths : List ℕ) → State
state_of r bytes lengths = record { runner = r; bytes = bytes; lengths = lengths }

-- the runner, its stores and the answer after a call
abbrev pub Made : State → Call → Runner → Answer → (bytes lengths work : List ℕ) → Type 0
Made s c r a bytes lengths work = (state_of r bytes lengths ≡ next s c) × (answer_is a work ≡ answer s c)

-- the same for a call that is lent no store, whatever the stores are
abbrev pub Moves : Runner → Call → Runner → Answer → Type 0
Moves x c r a = (bytes lengths work : List ℕ) → Made (state_of x bytes lengths) c r a bytes lengths work

-- the answer to a question, whatever the lengths are
abbrev pub Tells : Runner → (bytes : List ℕ) → Call → Answer → (work : List ℕ) → Type 0
Tells x bytes c a work = (lengths : List ℕ) → answer_is a work ≡ answer (state_of x bytes lengths) c

-- the same for a call that is lent stores, from what it leaves
abbrev pub OutputMade : Runner → Answer → (bytes : List ℕ) → OutputAfter → Type 0
OutputMade r a bytes x = (r ≡ x.taking.runner) × (bytes ≡ x.bytes) × AnswerIs a (λ w. took x.taking.answer)

abbrev pub InputMade : Runner → Answer → (bytes lengths : List ℕ) → InputAfter → Type 0
InputMade r a bytes lengths x = (r ≡ x.hearing.runner) × (bytes ≡ x.bytes) × (lengths ≡ x.lengths) × AnswerIs a (λ w. received_as x.hearing.answer)

abbrev pub MessageMade : Runner → Answer → (work : List ℕ) → MessageAfter → Type 0
MessageMade r a work x = (r ≡ x.saying.runner) × (answer_is a work ≡ says x.saying.answer x.buffer)

-- each of the timed calls has its time, and no question has one
pub timed_time : (now : ℕ) (t : Timed) → time_of (timed_is now t) ≡ Some now
timed_time now (Timed.Cancel k x) = refl
timed_time now (Timed.Exited x) = refl
timed_time now Timed.Dropped = refl
timed_time now Timed.Reset = refl
timed_time now Timed.Disconnect = refl
timed_time now Timed.Tick = refl

pub question_time : (q : Question) → time_of (question_is q) ≡ None
question_time (Question.ReadAllowance x) = refl
question_time Question.PendingInput = refl
question_time Question.Deadline = refl
question_time Question.IsFinished = refl
question_time Question.IsDetached = refl
question_time Question.AwaitsSettlement = refl
question_time Question.MemoryBound = refl
question_time Question.Buffered = refl
question_time Question.HighWater = refl

-- a question leaves all as it is
pub question_leaves : (q : Question) (s : State) → next s (question_is q) ≡ s
unfolding next
question_leaves (Question.ReadAllowance x) s = refl
question_leaves Question.PendingInput s = refl
question_leaves Question.Deadline s = refl
question_leaves Question.IsFinished s = refl
question_leaves Question.IsDetached s = refl
question_leaves Question.AwaitsSettlement s = refl
question_leaves Question.MemoryBound s = refl
question_leaves Question.Buffered s = refl
question_leaves Question.HighWater s = refl

-- ---- a message stands at the start of its buffer

abbrev pub Fits : Result (Option Message) Refusal → ℕ → Type 0
Fits (Ok None) k = Unit {0}
Fits (Ok (Some (Message.Credit n))) k = Unit {0}
Fits (Ok (Some Message.Started)) k = Unit {0}
Fits (Ok (Some (Message.Output x n))) k = n ≤ k
Fits (Ok (Some (Message.End x))) k = Unit {0}
Fits (Ok (Some Message.InputClosed)) k = Unit {0}
Fits (Ok (Some (Message.Terminal o))) k = Unit {0}
Fits (Err x) k = Unit {0}

chosen_fits : (c : Choice) (r : Runner) (k : ℕ) → ((x : Stream) (n : ℕ) → Choice.Output x n ≡ c → n ≤ k) → Fits (said_for c r) k
unfolding said_for
chosen_fits Choice.None r k f = tt
chosen_fits Choice.Credit r k f = tt
chosen_fits Choice.Started r k f = tt
chosen_fits Choice.InputClosed r k f = tt
chosen_fits (Choice.End x) r k f = tt
chosen_fits (Choice.Output x n) r k f = f x n refl
chosen_fits Choice.Terminal r k f = tt

sends_fit : (r : Runner) (k : ℕ) (x : Stream) (n : ℕ) → Choice.Output x n ≡ choose r k → n ≤ k
unfolding sendable_of
sends_fit r k x n e = let c = chosen r k x n e in let m = min (min (out_of x r).queued r.limits.chunk) k in omega (arith, c.bytes, least r.limits.output.unit (credit_at (pool_of r.limits x) r.credits).available m)

pub said_fits : (r : Runner) (store buffer : List ℕ) → Fits (next_message r store buffer).saying.answer (length buffer)
unfolding next_message
said_fits r store buffer = by (stop r (bytes_do r.limits store))
  where
    by : (x : Result (Unit {0}) Refusal) → Fits (message_by x r store buffer).saying.answer (length buffer)
    by (Ok tt) = chosen_fits (choose r (length buffer)) r (length buffer) (λ x n e. sends_fit r (length buffer) x n e)
    by (Err x) = tt

take_front : (n : ℕ) (s t : List ℕ) → n ≤ length s → take n (s ++ t) ≡ take n s
take_front zero s t h = refl
take_front (suc n) [] t h = absurd (omega arith)
take_front (suc n) (x ∷ s) t h = ap (λ (r : List ℕ). x ∷ r) (take_front n s t (omega arith))

pub says_front : (x : Result (Option Message) Refusal) (buffer rest : List ℕ) → Fits x (length buffer) → says x (buffer ++ rest) ≡ says x buffer
says_front (Ok None) buffer rest h = refl
says_front (Ok (Some (Message.Credit n))) buffer rest h = refl
says_front (Ok (Some Message.Started)) buffer rest h = refl
says_front (Ok (Some (Message.Output x n))) buffer rest h = ap (λ (b : List ℕ). Account.Says (Account.Output x b)) (take_front n buffer rest h)
says_front (Ok (Some (Message.End x))) buffer rest h = refl
says_front (Ok (Some Message.InputClosed)) buffer rest h = refl
says_front (Ok (Some (Message.Terminal o))) buffer rest h = refl
says_front (Err x) buffer rest h = refl

-- the part of an area that was cleared
pub cleared : (w v : List ℕ) (n : ℕ) → v ≡ zeros n ++ drop n w → take (n - 0) v ≡ zeros n
cleared w v n h =
    let z : n - 0 ≡ n = omega arith in rw (h, z) (take_at (zeros n) (drop n w) n (zeros_length n))

pub said_made : (r : Runner) (store : List ℕ) (n : ℕ) (x : After (Option Message)) (buffer rest : List ℕ) (a : Answer)
    → message_after x buffer ≡ next_message r store (zeros n) → length buffer ≡ n → AnswerIs a (λ w. says x.answer w)
    → MessageMade x.runner a (buffer ++ rest) (next_message r store (zeros n))
said_made r store n x buffer rest a e size h =
    let m = next_message r store (zeros n) in
    let said = ap (λ (y : MessageAfter). y.saying.answer) e in
    let same = ap (λ (y : MessageAfter). y.buffer) e in
    let k : length buffer ≡ length (zeros n) = size ∙ sym (zeros_length n) in
    let fits : Fits x.answer (length buffer) = rw (said, k) (said_fits r store (zeros n)) in (
      ap (λ (y : MessageAfter). y.saying.runner) e,
      h (buffer ++ rest) ∙ says_front x.answer buffer rest fits ∙ ap (λ (y : MessageAfter). says y.saying.answer y.buffer) e,
    )

-- ---- what waits

pub copied_first : (w p : List ℕ) (n : ℕ) → n ≡ length p → n ≤ length w → take n (copied w 0 p 0 n) ≡ p
copied_first w p n e h = copied_back w 0 p n (sym e) (omega arith)

part_most : (n i : ℕ) (s : List ℕ) → length (take n (drop i s)) ≤ length s
part_most n i s = omega (arith, length-take n (drop i s), length-drop i s)

-- no more than the store has
pub pending_most : (r : Runner) (store part : List ℕ) → pending_input r store ≡ Ok part → length part ≤ length store
unfolding pending_input pending_of Input.pending_input front
pending_most r store part = by (stop r (bytes_do r.limits store))
  where
    open_most : (closed : Bool) → length (cond closed [] (front r.limits r.input.inbox store)) ≤ length store
    open_most true = omega arith
    open_most false = part_most (first_run (input_bytes r.limits) r.input.inbox.start r.input.inbox.length) (inbox_base r.limits + r.input.inbox.start) store

    by : (x : Result (Unit {0}) Refusal) → unless x (pending_of r store) ≡ Ok part → length part ≤ length store
    by (Ok tt) e = let p : pending_of r store ≡ part = cc in subst (λ (b : List ℕ). length b ≤ length store) p (open_most r.input.closed)
    by (Err x) e = let z : ◌≡◌ {A = ℕ} 0 1 = cc in absurd (omega arith)

pub waits_some : (x : Refusal) → Account.Refused (number x) ≡ waits (Err x)
waits_some x = refl
