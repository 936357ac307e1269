-- What an answer of the code stands for.
use Rattle.std.specs.Prelude.{List, ◌≡◌, ℕ, take, false, refl}
use Rattle.calls.specs.Call as Call
use Rattle.account.specs.Step.{message_of, request_of}
use Rattle.answering.specs.declared.Answer.{Answer}
use Rattle.calls.specs.Call.{is_refused}
use Rattle.runner.specs.declared.answer.Message.{Message}
use Rattle.runner.specs.declared.answer.Request.{Request}

-- the bytes of a pending and of an Output are the first of `work`
abbrev pub answer_is : Answer → (work : List ℕ) → Call.Answer
answer_is Answer.Ok work = Call.Ok
answer_is Answer.Applied work = Call.Applied
answer_is Answer.Stale work = Call.Stale
answer_is Answer.Late work = Call.Late
answer_is (Answer.Refused n) work = Call.Refused n
answer_is (Answer.Taken n) work = Call.Taken n
answer_is (Answer.Came n) work = Call.Came n
answer_is (Answer.Pending n) work = Call.Pending (take n work)
answer_is (Answer.Value n) work = Call.Value n
answer_is (Answer.Time d) work = Call.Time d
answer_is (Answer.Truth b) work = Call.Truth b
answer_is (Answer.Asks q) work = request_of q
answer_is (Answer.Says m) work = message_of m work
answer_is Answer.Nothing work = Call.Nothing

-- whatever stands in `work`
abbrev pub AnswerIs : Answer → ((work : List ℕ) → Call.Answer) → Type 0
AnswerIs a f = (work : List ℕ) → answer_is a work ≡ f work

-- neither a request nor a message is a refusal
pub request_stands : (q : Request) → false ≡ is_refused (request_of q)
request_stands (Request.Terminate c) = refl
request_stands (Request.Discard x) = refl
request_stands Request.CloseInput = refl
request_stands Request.Settle = refl

pub message_stands : (m : Message) (work : List ℕ) → false ≡ is_refused (message_of m work)
message_stands (Message.Credit n) work = refl
message_stands Message.Started work = refl
message_stands (Message.Output x n) work = refl
message_stands (Message.End x) work = refl
message_stands Message.InputClosed work = refl
message_stands (Message.Terminal o) work = refl
