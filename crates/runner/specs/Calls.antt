-- The calls, each whole: refusals 12, 10, 46 and 11 first, which change nothing, and then what the call does. One definition a
-- call, named after it: its answer, the next state and every lent list that it writes.
use Rattle.std.specs.Prelude.{ℕ, ◌≡◌, Bool, true, ◌&&◌, List, length, Option, Result, Some, None, Ok, Err}
use Rattle.exec.specs.declared.Admission.{Admission}
use Rattle.runner.specs.declared.answer.Request.{Request}
use Rattle.exec.specs.declared.LaunchFailure.{LaunchFailure}
use Rattle.exec.specs.declared.Status.{Status}
use Rattle.exec.specs.declared.Receipt.{Receipt}
use Rattle.exec.specs.declared.Admission.TheVariants.{Own, Stale}
use Rattle.exec.specs.declared.Receipt.TheVariants.{Stale}
use denote.Ref.{Bor}
use Rattle.exec.specs.declared.Refusal.{Refusal}
use Rattle.exec.specs.declared.Cause.{Cause}
use Rattle.exec.specs.declared.Key.{Key}
use Rattle.exec.specs.declared.Limits.{Limits}
use Rattle.exec.specs.declared.Pool.{Pool}
use Rattle.exec.specs.declared.Settlement.{Settlement}
use Rattle.exec.specs.declared.Stream.{Stream}
use Rattle.exec.specs.declared.Timers.{Timers}
use Rattle.exec.specs.Key.{admits}
use Rattle.exec.specs.Limits.{output_pool, has_notes, no_limits}
use Rattle.inbox.specs.Need.{byte_need}
use Rattle.lifecycle.specs.Life.{is_requested}
use Rattle.runner.specs.declared.answer.After.{After}
use Rattle.choice.specs.declared.Choice.{Choice}
use Rattle.runner.specs.declared.runner.Runner.{Runner}
use Rattle.runner.specs.Life.{close_runner_input, cancel_answer, cancel_next, launched_next, exited_next, settled_next, detach_next, ticked, deadline_of}
use Rattle.runner.specs.Message.{choose, effect, buffer_after, said_for, MessageAfter, message_after, wish, wish_effect}
use Rattle.runner.specs.Range.{bytes_do, lengths_do, stop, stop_at, open_stop, fresh}
use Rattle.runner.specs.State as State
use Rattle.runner.specs.Streams.{OutputAfter, output_after, output_took, InputAfter, input_after, received, read_allowance_of, discarded_next, closed_next, failed_next, hung_up_next, credit_answer, credit_next, end_answer, end_next, pending_of, written_next, written_came, written_lengths}

-- ---- answers: what a call gives that meets no stop, or the refusal, which leaves the runner as it was

abbrev pub calling : {T : Type 0} → Result (Unit {0}) Refusal → Result T Refusal → (next r : Runner) → After T
calling (Ok tt) answer next r = record { runner = next; answer = answer }
calling (Err x) answer next r = record { runner = r; answer = Err x }

-- the same of a call with no result
abbrev pub noting : Result (Unit {0}) Refusal → (next r : Runner) → After (Unit {0})
noting met next r = calling met (Ok tt) next r

-- the same, where Does says what a call may leave and answer
abbrev pub Called : {T : Type 0} → (Does : After T → Type 0) → Result (Unit {0}) Refusal → Runner → After T → Type 0
Called Does (Ok tt) r a = Does a
Called Does (Err x) r a = a ≡ record { runner = r; answer = Err x }

-- of a message of the peer's, where Does says it of the execution's own key: a stale one, or a wrong one, leaves the runner
abbrev pub Hears : (Does : After Receipt → Type 0) → Result Admission Refusal → Runner → After Receipt → Type 0
Hears Does (Ok Own) r a = Does a
Hears Does (Ok Stale) r a = a ≡ record { runner = r; answer = Ok Stale }
Hears Does (Err x) r a = a ≡ record { runner = r; answer = Err x }

-- of a call with no result, where Does says which runner it may leave
abbrev pub Notes : (Does : Runner → Type 0) → Result (Unit {0}) Refusal → Runner → After (Unit {0}) → Type 0
Notes Does (Ok tt) r n = Does n.runner × (n.answer ≡ Ok tt)
Notes Does (Err x) r n = n ≡ record { runner = r; answer = Err x }

-- what a call that changes nothing answers: its value, unless it meets a refusal
abbrev pub unless : {T : Type 0} → Result (Unit {0}) Refusal → T → Result T Refusal
unless (Ok tt) value = Ok value
unless (Err x) value = Err x

-- ---- the calls, in the Rust's order

-- a refused open hands back a runner without limits, so that every call on it is refused by 10
abbrev pub open_by : Result (Unit {0}) Refusal → Key → Limits → Timers → (smallest now : ℕ) → After (Unit {0})
open_by (Ok tt) k l t smallest now = record { runner = fresh k l t smallest now; answer = (Ok tt) }
open_by (Err x) k l t smallest now = record { runner = fresh k no_limits t smallest now; answer = Err x }

unfoldable pub «open» : Key → Limits → Timers → (smallest now : ℕ) → (bytes lengths : List ℕ) → After (Unit {0})
«open» k l t smallest now bytes lengths = open_by (open_stop l smallest (bytes_do l bytes && lengths_do l lengths)) k l t smallest now

unfoldable pub key : Runner → Result Key Refusal
key r = unless (stop r true) r.key

unfoldable pub limits : Runner → Result Limits Refusal
limits r = unless (stop r true) r.limits

unfoldable pub credit : Runner → Key → Pool → ℕ → After Receipt
credit r k p units =
    calling (stop r true)
    (credit_answer (admits r.key k) (output_pool r.limits.shared (has_notes r.limits) p) r units)
    (credit_next (admits r.key k) (output_pool r.limits.shared (has_notes r.limits) p) r units) r

-- the stores that input is lent do
abbrev pub stores_do : Runner → (store lengths : List ℕ) → Bool
stores_do r store lengths = bytes_do r.limits store && lengths_do r.limits lengths

abbrev pub input_by : Result (Unit {0}) Refusal → Result Admission Refusal → Runner → (bytes store lengths : List ℕ) → InputAfter
input_by (Ok tt) a r bytes store lengths = received a r bytes store lengths
input_by (Err x) a r bytes store lengths =
    input_after (record { runner = r; answer = Err x }) store lengths

unfoldable pub input : Runner → Key → (bytes store lengths : List ℕ) → InputAfter
input r k bytes store lengths = input_by (stop r (stores_do r store lengths)) (admits r.key k) r bytes store lengths

unfoldable pub end_input : Runner → Key → After Receipt
end_input r k = calling (stop r true) (end_answer (admits r.key k) r) (end_next (admits r.key k) r) r

unfoldable pub cancel : Runner → ℕ → Key → Cause → After Receipt
cancel r now k cause =
    calling (stop r true) (cancel_answer (admits r.key k) r now) (cancel_next (admits r.key k) r now cause) r

unfoldable pub launched : Runner → Result (Unit {0}) LaunchFailure → After (Unit {0})
launched r x = noting (stop r true) (launched_next r x) r

unfoldable pub read_allowance : Runner → Stream → Result ℕ Refusal
read_allowance r x = unless (stop_at r x true) (read_allowance_of r x)

abbrev pub output_by : Result (Unit {0}) Refusal → Runner → Stream → (bytes store : List ℕ) → OutputAfter
output_by (Ok tt) r x bytes store = output_took r x bytes store
output_by (Err z) r x bytes store = output_after (record { runner = r; answer = Err z }) store

unfoldable pub output : Runner → Stream → (bytes store : List ℕ) → OutputAfter
output r x bytes store = output_by (stop_at r x (bytes_do r.limits store)) r x bytes store

unfoldable pub discarded : Runner → Stream → ℕ → After (Unit {0})
discarded r x n = noting (stop_at r x true) (discarded_next r x n) r

unfoldable pub output_closed : Runner → Stream → After (Unit {0})
output_closed r x = noting (stop_at r x true) (closed_next r x) r

unfoldable pub output_failed : Runner → Stream → After (Unit {0})
output_failed r x = noting (stop_at r x true) (failed_next r x) r

unfoldable pub output_hung_up : Runner → Stream → After (Unit {0})
output_hung_up r x = noting (stop_at r x true) (hung_up_next r x) r

-- a part of the byte store that is lent on, as its bytes
abbrev pub lent : Result (Bor (List ℕ)) Refusal → Result (List ℕ) Refusal
lent (Ok part) = Ok part.now
lent (Err x) = Err x

unfoldable pub pending_input : Runner → List ℕ → Result (List ℕ) Refusal
pending_input r store = unless (stop r (bytes_do r.limits store)) (pending_of r store)

-- what input_written leaves: its answer, the frames come to, with the state, and the length store
pub record WrittenAfter : Type 0 where
  pub counting : After ℕ
  pub lengths : List ℕ

abbrev pub written_after : After ℕ → List ℕ → WrittenAfter
written_after n lengths = record { counting = n; lengths = lengths }

abbrev pub written_by : Result (Unit {0}) Refusal → Runner → ℕ → List ℕ → WrittenAfter
written_by (Ok tt) r count lengths =
    written_after
    (record { runner = written_next r count lengths; answer = Ok (written_came r count lengths) })
    (written_lengths r count lengths)
written_by (Err x) r count lengths = written_after (record { runner = r; answer = Err x }) lengths

unfoldable pub input_written : Runner → ℕ → List ℕ → WrittenAfter
input_written r count lengths = written_by (stop r (lengths_do r.limits lengths)) r count lengths

unfoldable pub input_closed : Runner → After (Unit {0})
input_closed r = noting (stop r true) (close_runner_input r) r

unfoldable pub exited : Runner → ℕ → Option Status → After (Unit {0})
exited r now status = noting (stop r true) (exited_next r now status) r

unfoldable pub settled : Runner → Settlement → After (Unit {0})
settled r s = noting (stop r true) (settled_next r s) r

unfoldable pub dropped : Runner → ℕ → After (Unit {0})
dropped r now = noting (stop r true) (detach_next r now Cause.Dropped) r

unfoldable pub reset : Runner → ℕ → After (Unit {0})
reset r now = noting (stop r true) (detach_next r now Cause.Reset) r

unfoldable pub disconnect : Runner → ℕ → After (Unit {0})
disconnect r now = noting (stop r true) (detach_next r now Cause.Disconnected) r

unfoldable pub tick : Runner → ℕ → After (Unit {0})
tick r now = noting (stop r true) (ticked r now) r

unfoldable pub deadline : Runner → Result (Option ℕ) Refusal
deadline r = unless (stop r true) (deadline_of r)

abbrev pub asked_for : Option Request → Result (Option Request) Refusal
asked_for None = Ok None
asked_for (Some q) = (Ok (Some q))

abbrev pub request_by : Result (Unit {0}) Refusal → Runner → After (Option Request)
request_by (Ok tt) r = record { runner = wish_effect (wish r) r; answer = asked_for (wish r) }
request_by (Err x) r = record { runner = r; answer = Err x }

unfoldable pub next_request : Runner → After (Option Request)
next_request r = request_by (stop r true) r

-- a choice, then its effect and its answer
abbrev pub chosen_by : Choice → Runner → (store buffer : List ℕ) → MessageAfter
chosen_by c r store buffer = message_after (record { runner = effect c r; answer = said_for c r }) (buffer_after c r store buffer)

abbrev pub message_by : Result (Unit {0}) Refusal → Runner → (store buffer : List ℕ) → MessageAfter
message_by (Ok tt) r store buffer = chosen_by (choose r (length buffer)) r store buffer
message_by (Err x) r store buffer = message_after (record { runner = r; answer = Err x }) buffer

unfoldable pub next_message : Runner → (store buffer : List ℕ) → MessageAfter
next_message r store buffer = message_by (stop r (bytes_do r.limits store)) r store buffer

unfoldable pub is_finished : Runner → Result Bool Refusal
is_finished r = unless (stop r true) r.flags.finished

unfoldable pub is_detached : Runner → Result Bool Refusal
is_detached r = unless (stop r true) r.flags.detached

unfoldable pub awaits_settlement : Runner → Result Bool Refusal
awaits_settlement r = unless (stop r true) (is_requested r.life.settling)

unfoldable pub memory_bound : Runner → Result ℕ Refusal
memory_bound r = unless (stop r true) (byte_need r.limits)

unfoldable pub buffered : Runner → Result ℕ Refusal
buffered r = unless (stop r true) (State.buffered r)

unfoldable pub high_water : Runner → Result ℕ Refusal
high_water r = unless (stop r true) r.high_water
