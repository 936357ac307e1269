-- Sessions that are computed from the definitions: what the writes come to, the bound reached, and what holds from open alone.
use Rattle.std.specs.Prelude.{◌≡◌, refl, true, false, List, [], ◌∷◌, map, ℕ, None}
use Rattle.exec.specs.declared.Limits.{Limits}
use Rattle.exec.specs.declared.Key.{Key}
use Rattle.exec.specs.Key.{new_key, admits}
use Rattle.exec.specs.Limits.{no_limits, bytes_window, frames_window, limits_for, cost, bytes_with, has_notes}
use Rattle.ring.specs.Frames.{pop_from, rest_of}
use Rattle.ring.specs.Ring.{wrap, ring_from, ring_write}
use Rattle.ring.specs.Runs.{copied}
use Rattle.inbox.specs.Inbox.{pop_came}
use Rattle.input.specs.Input as Input
use Rattle.input.specs.Setters.{set_input_closed}
use Rattle.output.specs.Output.{output_fits}
use Rattle.choice.specs.Order.{if_else, order}
use Rattle.runner.specs.Calls as Calls
use Rattle.runner.specs.Life as Life
use Rattle.runner.specs.Message as Message
use Rattle.runner.specs.Range as Range
use Rattle.runner.specs.declared.runner.Runner.{Runner}
use Rattle.runner.specs.State.{with_flow, with_input}
use Rattle.runner.specs.Streams as Streams
use Rattle.calls.specs.Call as Call
use Rattle.calls.specs.Call.{Conf, Call, Answer, Done}
use Rattle.account.specs.Claim.{Opens}
use Rattle.account.specs.Step.{State, next, answer, opened, on_runner}
use Rattle.account.specs.Records.{Entry, call, next_entry, answer_entry, after_entries, run_entries, made, dones_of}
use Rattle.budget.specs.BudgetClaim.{came, frames, writes, left}

abbrev own : Key
own = new_key 7 2

-- chunk 4, and an input window of two frames, or of eight bytes
abbrev conf_of : Limits → Conf
conf_of l = record { key = own; limits = l; timers = record { timeout = None; grace = 10; settlement = 5 }; smallest = 1 }

abbrev in_frames : Conf
in_frames = conf_of (limits_for 4 (frames_window 2) (bytes_window 8) false)

abbrev in_bytes : Conf
in_bytes = conf_of (limits_for 4 (bytes_window 8) (bytes_window 8) false)

abbrev store : List ℕ
store = 0 ∷ 0 ∷ 0 ∷ 0 ∷ 0 ∷ 0 ∷ 0 ∷ 0 ∷ 0 ∷ 0 ∷ 0 ∷ 0 ∷ 0 ∷ 0 ∷ 0 ∷ 0 ∷ []

-- opened at 0
begins : Conf → State
unfolding Calls.«open» Range.fresh bytes_with has_notes
begins conf = opened conf 0 store (0 ∷ 0 ∷ 0 ∷ 0 ∷ [])

-- Credit is told, and then these calls
abbrev list : List Call → List Entry
list cs = map call (Call.next_message [] ∷ cs)

-- a list's calls, with their answers; and those alone
done : Conf → List Call → List Done
unfolding begins next_entry answer_entry made next answer Calls.next_message Calls.input Calls.input_written Calls.input_closed Range.stop Range.in_range output_fits bytes_with admits Message.choose order if_else Message.effect Message.said_for Message.buffer_after Streams.received Streams.input_answer Streams.input_next Streams.input_store Streams.input_lengths Input.receive_answer Input.receive_input Input.receive_bytes Input.receive_lengths cost ring_write ring_from copied wrap Streams.written_next Streams.written_came Streams.written_lengths Input.written_input Input.written_came Input.written_lengths pop_from Life.close_runner_input has_notes
done conf cs = dones_of conf (run_entries (begins conf) (list cs))

abbrev answers : Conf → List Call → List Answer
answers conf cs = map (λ (d : Done). d.answer) (done conf cs)

abbrev three : Call
three = Call.input own (97 ∷ 98 ∷ 99 ∷ [])

abbrev two : Call
two = Call.input own (100 ∷ 101 ∷ [])

-- frames of 3 and 2 bytes: a write of none, one that leaves a byte of the second, and one of more than waits
abbrev writing : List Call
writing = three ∷ two ∷ Call.input_written 0 ∷ Call.input_written 4 ∷ Call.input_written 9 ∷ []

in_two : answers in_frames writing ≡ Call.Says (Call.Credit 2) ∷ Call.Applied ∷ Call.Applied ∷ Call.Came 0 ∷ Call.Came 2 ∷ Call.Came 1 ∷ []
unfolding done
in_two = refl

-- 3 is 2 + 1: as many as the bound allows
in_two_sum : (came (done in_frames writing) ≡ 3) × (frames (done in_frames writing) ≡ 2) × (writes (done in_frames writing) ≡ 2)
unfolding done
in_two_sum = (refl, refl, refl)

-- the frames that wait, as calls and answers tell: both, then a byte of the second, then none
in_two_left : (left [] (done in_frames (three ∷ two ∷ [])) ≡ 3 ∷ 2 ∷ [])
    × (left [] (done in_frames (three ∷ two ∷ Call.input_written 4 ∷ [])) ≡ 1 ∷ [])
    × (left [] (done in_frames writing) ≡ [])
unfolding done rest_of
in_two_left = (refl, refl, refl)

-- and so of one frame that is written byte by byte: 3 is 1 + 2
abbrev byte_by_byte : List Call
byte_by_byte = three ∷ Call.input_written 1 ∷ Call.input_written 1 ∷ Call.input_written 1 ∷ []

one_by_one : (answers in_frames byte_by_byte ≡ Call.Says (Call.Credit 2) ∷ Call.Applied ∷ Call.Came 1 ∷ Call.Came 1 ∷ Call.Came 1 ∷ [])
    × (came (done in_frames byte_by_byte) ≡ 3) × (frames (done in_frames byte_by_byte) ≡ 1) × (writes (done in_frames byte_by_byte) ≡ 3)
unfolding done
one_by_one = (refl, refl, refl, refl)

-- a write that just finishes a frame does not come to the one behind it; and one that finishes two and leaves the third comes to three
abbrev edges : List Call
edges = two ∷ two ∷ Call.input_written 2 ∷ Call.input own (97 ∷ []) ∷ two ∷ Call.input_written 4 ∷ []

at_the_edges : answers (conf_of (limits_for 2 (frames_window 4) (bytes_window 8) false)) edges
    ≡ Call.Says (Call.Credit 4) ∷ Call.Applied ∷ Call.Applied ∷ Call.Came 1 ∷ Call.Applied ∷ Call.Applied ∷ Call.Came 3 ∷ []
unfolding done
at_the_edges = refl

-- frames of a byte each: as many as the bytes that are written
single_bytes : answers in_frames (Call.input own (97 ∷ []) ∷ Call.input own (98 ∷ []) ∷ Call.input_written 2 ∷ [])
    ≡ Call.Says (Call.Credit 2) ∷ Call.Applied ∷ Call.Applied ∷ Call.Came 2 ∷ []
unfolding done
single_bytes = refl

-- a window of bytes has no frames
bytes_come_to_none : answers in_bytes (three ∷ Call.input_written 2 ∷ []) ≡ Call.Says (Call.Credit 8) ∷ Call.Applied ∷ Call.Came 0 ∷ []
unfolding done
bytes_come_to_none = refl

-- a closed input is answered 0
closed_come_to_none : answers in_frames (three ∷ Call.input_closed ∷ Call.input_written 3 ∷ [])
    ≡ Call.Says (Call.Credit 2) ∷ Call.Applied ∷ Call.Ok ∷ Call.Came 0 ∷ []
unfolding done
closed_come_to_none = refl

-- ---- what holds from open alone: an input that somebody else closed holds its bytes, of which a pop would come to both frames; the
-- call is answered 0 all the same

waiting : State
unfolding done
waiting = after_entries (begins in_frames) (list (three ∷ two ∷ []))

abbrev shut : State
shut = on_runner (with_input (set_input_closed true waiting.runner.input) waiting.runner) waiting

foreign : (pop_came shut.runner.limits shut.runner.input.inbox 4 shut.lengths ≡ 2) × (answer shut (Call.input_written 4) ≡ Call.Came 0)
unfolding waiting
foreign = (refl, refl)

-- ---- a write that is refused tells its number, and no frames: a state out of range, no limits, a store of lengths that is short

abbrev on : Runner → List ℕ → State
on r lengths = record { runner = r; bytes = store; lengths = lengths }

refused : (answer (on (with_flow waiting.runner.credits 2 waiting.runner.flags 0 waiting.runner) waiting.lengths) (Call.input_written 1) ≡ Call.Refused 12)
    × (answer (on (begins (conf_of no_limits)).runner waiting.lengths) (Call.input_written 1) ≡ Call.Refused 10)
    × (answer (on waiting.runner (0 ∷ [])) (Call.input_written 1) ≡ Call.Refused 11)
unfolding waiting
refused = (refl, refl, refl)

-- open is answered ok, so that the claims are not of runners that cannot be
opens : (Opens in_frames 0 store (0 ∷ 0 ∷ 0 ∷ 0 ∷ [])) × (Opens in_bytes 0 store (0 ∷ 0 ∷ 0 ∷ 0 ∷ []))
unfolding Calls.«open» bytes_with has_notes
opens = (refl, refl)
