-- What a call of the code stands for.
use Rattle.std.specs.Prelude.{List, ℕ, take}
use Rattle.calls.specs.Call.{Call}
use Rattle.syntax.specs.declared.Call as Calls
use Rattle.syntax.specs.declared.Call.TheVariants as Made
use Rattle.syntax.specs.declared.Question.{Question}
use Rattle.syntax.specs.declared.Timed.{Timed}
use Rattle.syntax.specs.Lines.{zeros}

abbrev pub timed_is : (now : ℕ) → Timed → Call
timed_is now (Timed.Cancel k x) = Call.cancel now k x
timed_is now (Timed.Exited x) = Call.exited now x
timed_is now Timed.Dropped = Call.dropped now
timed_is now Timed.Reset = Call.reset now
timed_is now Timed.Disconnect = Call.disconnect now
timed_is now Timed.Tick = Call.tick now

abbrev pub question_is : Question → Call
question_is (Question.ReadAllowance x) = Call.read_allowance x
question_is Question.PendingInput = Call.pending_input
question_is Question.Deadline = Call.deadline
question_is Question.IsFinished = Call.is_finished
question_is Question.IsDetached = Call.is_detached
question_is Question.AwaitsSettlement = Call.awaits_settlement
question_is Question.MemoryBound = Call.memory_bound
question_is Question.Buffered = Call.buffered
question_is Question.HighWater = Call.high_water

-- (the bytes of a payload stand at the start of work)
abbrev pub call_is : Calls.Call → (work : List ℕ) → Call
call_is (Made.Credit k p n) work = Call.credit k p n
call_is (Made.Input k n) work = Call.input k (take n work)
call_is (Made.EndInput k) work = Call.end_input k
call_is (Made.Launched x) work = Call.launched x
call_is (Made.Output x n) work = Call.output x (take n work)
call_is (Made.Discarded x n) work = Call.discarded x n
call_is (Made.OutputClosed x) work = Call.output_closed x
call_is (Made.OutputFailed x) work = Call.output_failed x
call_is (Made.OutputHungUp x) work = Call.output_hung_up x
call_is (Made.InputWritten n) work = Call.input_written n
call_is Made.InputClosed work = Call.input_closed
call_is (Made.Settled x) work = Call.settled x
call_is Made.NextRequest work = Call.next_request
call_is (Made.NextMessage n) work = Call.next_message (zeros n)
call_is (Made.At now x) work = timed_is now x
call_is (Made.Ask x) work = question_is x
