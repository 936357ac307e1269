-- What a call leaves and answers: the definition that the code's promise cites, and nothing else; and lists of calls.
use Rattle.std.specs.Prelude.{List, [], ◌∷◌, ℕ, take, Option, Result, Some, None, Ok, Err, Bool}
use Rattle.runner.specs.declared.answer.Message.{Message}
use Rattle.runner.specs.declared.answer.Request.{Request}
use Rattle.exec.specs.declared.Key.{Key}
use Rattle.exec.specs.declared.Limits.{Limits}
use Rattle.exec.specs.declared.Receipt.{Receipt}
use Rattle.exec.specs.declared.Refusal.{Refusal}
use Rattle.exec.specs.Refusal.{number}
use Rattle.runner.specs.declared.answer.Message as Messages
use Rattle.runner.specs.declared.answer.Request as Requests
use Rattle.runner.specs.declared.runner.Runner.{Runner}
use Rattle.runner.specs.Calls as Calls
use Rattle.calls.specs.Call as Call
use Rattle.calls.specs.Call.{Conf, Call, Answer, Done}

-- the runner, and the stores as the last call left them
pub record State : Type 0 where
  pub runner : Runner
  pub bytes : List ℕ
  pub lengths : List ℕ

-- ---- 01's number or value of each answer

-- what a call gives, told as an answer: a value by its own, a refusal by its number
abbrev pub answered : {A : Type 0} → (A → Answer) → Result A Refusal → Answer
answered told (Ok x) = told x
answered told (Err x) = Call.Refused (number x)

abbrev pub replied : Result (Unit {0}) Refusal → Answer
replied = answered (λ x. Call.Ok)

abbrev pub receipt_of : Receipt → Answer
receipt_of Receipt.Applied = Call.Applied
receipt_of Receipt.Stale = Call.Stale
receipt_of Receipt.Late = Call.Late

abbrev pub received_as : Result Receipt Refusal → Answer
received_as = answered receipt_of

abbrev pub took : Result ℕ Refusal → Answer
took = answered Call.Taken

-- of input_written: the frames come to
abbrev pub came : Result ℕ Refusal → Answer
came = answered Call.Came

abbrev pub counts : Result ℕ Refusal → Answer
counts = answered Call.Value

abbrev pub holds : Result Bool Refusal → Answer
holds = answered Call.Truth

abbrev pub fires : Result (Option ℕ) Refusal → Answer
fires = answered Call.Time

abbrev pub its_key : Result Key Refusal → Answer
its_key = answered Call.IsKey

abbrev pub its_limits : Result Limits Refusal → Answer
its_limits = answered Call.AreLimits

abbrev pub request_of : Requests.Request → Answer
request_of (Request.Terminate c) = Call.Asks (Call.Terminate c)
request_of (Request.Discard x) = Call.Asks (Call.Discard x)
request_of Request.CloseInput = Call.Asks Call.CloseInput
request_of Request.Settle = Call.Asks Call.Settle

abbrev pub maybe_request_of : Option Request → Answer
maybe_request_of None = Call.Nothing
maybe_request_of (Some q) = request_of q

abbrev pub asks : Result (Option Request) Refusal → Answer
asks = answered maybe_request_of

-- the payload of an Output is the first length bytes of the buffer that the call left
abbrev pub message_of : Messages.Message → (buffer : List ℕ) → Answer
message_of (Message.Credit n) buffer = Call.Says (Call.Credit n)
message_of Message.Started buffer = Call.Says Call.Started
message_of (Message.Output x n) buffer = Call.Says (Call.Output x (take n buffer))
message_of (Message.End x) buffer = Call.Says (Call.End x)
message_of Message.InputClosed buffer = Call.Says Call.InputClosed
message_of (Message.Terminal o) buffer = Call.Says (Call.Terminal o)

abbrev pub maybe_message_of : Option Message → (buffer : List ℕ) → Answer
maybe_message_of None buffer = Call.Nothing
maybe_message_of (Some m) buffer = message_of m buffer

abbrev pub says : Result (Option Message) Refusal → (buffer : List ℕ) → Answer
says said buffer = answered (λ m. maybe_message_of m buffer) said

abbrev pub waits : Result (List ℕ) Refusal → Answer
waits = answered Call.Pending

-- ---- a call

abbrev pub on_runner : Runner → State → State
on_runner r s = record { runner = r; bytes = s.bytes; lengths = s.lengths }

unfoldable pub next : State → Call → State
next s Call.key = s
next s Call.limits = s
next s (Call.credit k p u) = on_runner (Calls.credit s.runner k p u).runner s
next s (Call.input k b) = record {
  runner = (Calls.input s.runner k b s.bytes s.lengths).hearing.runner;
  bytes = (Calls.input s.runner k b s.bytes s.lengths).bytes;
  lengths = (Calls.input s.runner k b s.bytes s.lengths).lengths;
}
next s (Call.end_input k) = on_runner (Calls.end_input s.runner k).runner s
next s (Call.cancel now k c) = on_runner (Calls.cancel s.runner now k c).runner s
next s (Call.launched x) = on_runner (Calls.launched s.runner x).runner s
next s (Call.read_allowance x) = s
next s (Call.output x b) = record {
  runner = (Calls.output s.runner x b s.bytes).taking.runner;
  bytes = (Calls.output s.runner x b s.bytes).bytes;
  lengths = s.lengths;
}
next s (Call.discarded x n) = on_runner (Calls.discarded s.runner x n).runner s
next s (Call.output_closed x) = on_runner (Calls.output_closed s.runner x).runner s
next s (Call.output_failed x) = on_runner (Calls.output_failed s.runner x).runner s
next s (Call.output_hung_up x) = on_runner (Calls.output_hung_up s.runner x).runner s
next s Call.pending_input = s
next s (Call.input_written n) = record {
  runner = (Calls.input_written s.runner n s.lengths).counting.runner;
  bytes = s.bytes;
  lengths = (Calls.input_written s.runner n s.lengths).lengths;
}
next s Call.input_closed = on_runner (Calls.input_closed s.runner).runner s
next s (Call.exited now x) = on_runner (Calls.exited s.runner now x).runner s
next s (Call.settled x) = on_runner (Calls.settled s.runner x).runner s
next s (Call.dropped now) = on_runner (Calls.dropped s.runner now).runner s
next s (Call.reset now) = on_runner (Calls.reset s.runner now).runner s
next s (Call.disconnect now) = on_runner (Calls.disconnect s.runner now).runner s
next s (Call.tick now) = on_runner (Calls.tick s.runner now).runner s
next s Call.deadline = s
next s Call.next_request = on_runner (Calls.next_request s.runner).runner s
next s (Call.next_message buffer) = on_runner (Calls.next_message s.runner s.bytes buffer).saying.runner s
next s Call.is_finished = s
next s Call.is_detached = s
next s Call.awaits_settlement = s
next s Call.memory_bound = s
next s Call.buffered = s
next s Call.high_water = s

unfoldable pub answer : State → Call → Answer
answer s Call.key = its_key (Calls.key s.runner)
answer s Call.limits = its_limits (Calls.limits s.runner)
answer s (Call.credit k p u) = received_as (Calls.credit s.runner k p u).answer
answer s (Call.input k b) = received_as (Calls.input s.runner k b s.bytes s.lengths).hearing.answer
answer s (Call.end_input k) = received_as (Calls.end_input s.runner k).answer
answer s (Call.cancel now k c) = received_as (Calls.cancel s.runner now k c).answer
answer s (Call.launched x) = replied (Calls.launched s.runner x).answer
answer s (Call.read_allowance x) = counts (Calls.read_allowance s.runner x)
answer s (Call.output x b) = took (Calls.output s.runner x b s.bytes).taking.answer
answer s (Call.discarded x n) = replied (Calls.discarded s.runner x n).answer
answer s (Call.output_closed x) = replied (Calls.output_closed s.runner x).answer
answer s (Call.output_failed x) = replied (Calls.output_failed s.runner x).answer
answer s (Call.output_hung_up x) = replied (Calls.output_hung_up s.runner x).answer
answer s Call.pending_input = waits (Calls.pending_input s.runner s.bytes)
answer s (Call.input_written n) = came (Calls.input_written s.runner n s.lengths).counting.answer
answer s Call.input_closed = replied (Calls.input_closed s.runner).answer
answer s (Call.exited now x) = replied (Calls.exited s.runner now x).answer
answer s (Call.settled x) = replied (Calls.settled s.runner x).answer
answer s (Call.dropped now) = replied (Calls.dropped s.runner now).answer
answer s (Call.reset now) = replied (Calls.reset s.runner now).answer
answer s (Call.disconnect now) = replied (Calls.disconnect s.runner now).answer
answer s (Call.tick now) = replied (Calls.tick s.runner now).answer
answer s Call.deadline = fires (Calls.deadline s.runner)
answer s Call.next_request = asks (Calls.next_request s.runner).answer
answer s (Call.next_message buffer) =
    says (Calls.next_message s.runner s.bytes buffer).saying.answer (Calls.next_message s.runner s.bytes buffer).buffer
answer s Call.is_finished = holds (Calls.is_finished s.runner)
answer s Call.is_detached = holds (Calls.is_detached s.runner)
answer s Call.awaits_settlement = holds (Calls.awaits_settlement s.runner)
answer s Call.memory_bound = counts (Calls.memory_bound s.runner)
answer s Call.buffered = counts (Calls.buffered s.runner)
answer s Call.high_water = counts (Calls.high_water s.runner)

-- ---- open, and a list of calls

abbrev pub opened : Conf → ℕ → (bytes lengths : List ℕ) → State
opened c now bytes lengths = record {
  runner = (Calls.«open» c.key c.limits c.timers c.smallest now bytes lengths).runner;
  bytes = bytes;
  lengths = lengths;
}

abbrev pub after : State → List Call → State
after s [] = s
after s (c ∷ cs) = after (next s c) cs

abbrev pub run : State → List Call → List Done
run s [] = []
run s (c ∷ cs) = record { call = c; answer = answer s c } ∷ run (next s c) cs
