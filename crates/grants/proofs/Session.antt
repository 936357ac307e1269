-- Sessions under a smallest grant, computed from the definitions: 02's A9 at its numbers; the smallest peer that waits for ever, and how
-- little less lets it go on; and the claim met by them.
use Rattle.std.specs.Prelude.{false, ◌≡◌, refl, List, [], ◌∷◌, ◌++◌, ℕ, None, Ok}
use mathlib.Core.List.{map}
use Rattle.exec.specs.declared.Limits.{Limits}
use Rattle.exec.specs.Key.{admits}
use Rattle.exec.specs.declared.Pool.TheVariants as Pool
use Rattle.exec.specs.declared.Stream.TheVariants.{Stdout}
use Rattle.exec.specs.Limits.{bytes_window, frames_window, bytes_with, limits_for, cost, has_notes}
use Rattle.ring.specs.Runs.{copied}
use Rattle.ring.specs.Ring.{ring_read, ring_write, ring_from, wrap}
use Rattle.ring.specs.Frames.{pop_from}
use Rattle.inbox.specs.Inbox.{front}
use Rattle.input.specs.Input as Input
use Rattle.output.specs.Output.{output_fits}
use Rattle.choice.specs.Order.{if_else, order}
use Rattle.runner.specs.Calls as Calls
use Rattle.runner.specs.Life as Life
use Rattle.runner.specs.Message as Message
use Rattle.runner.specs.Range as Range
use Rattle.runner.specs.Streams as Streams
use Rattle.calls.specs.Call as Call
use Rattle.calls.specs.Call.{Conf, Call, Answer}
use Rattle.account.specs.Step as Step
use Rattle.account.specs.Step.{State}
use Rattle.account.specs.Records.{Entry, EntryDone, call, next_entry, answer_entry, run_entries}

-- so much of the input at once, under limits
abbrev pub at_once : Limits → ℕ → Conf
at_once l g = record { key = record { id = 7; generation = 2 }; limits = l; timers = record { timeout = None; grace = 10; settlement = 5 }; smallest = g }

-- chunk 4 and an input window of 8 bytes; of 3 frames; and chunk 2 with a window of 2 bytes
abbrev pub in_bytes : Limits
in_bytes = limits_for 4 (bytes_window 8) (bytes_window 8) false

abbrev in_frames : Limits
in_frames = limits_for 4 (frames_window 3) (bytes_window 8) false

abbrev of_two : Limits
of_two = limits_for 2 (bytes_window 2) (bytes_window 8) false

-- opened at 0, with more than such limits need
abbrev pub store : List ℕ
store = 0 ∷ 0 ∷ 0 ∷ 0 ∷ 0 ∷ 0 ∷ 0 ∷ 0 ∷ 0 ∷ 0 ∷ 0 ∷ 0 ∷ 0 ∷ 0 ∷ 0 ∷ 0 ∷ 0 ∷ 0 ∷ 0 ∷ 0 ∷ []

abbrev pub slots : List ℕ
slots = 0 ∷ 0 ∷ 0 ∷ []

abbrev pub begins : Conf → State
begins conf = Step.opened conf 0 store slots

abbrev pub answers_of : List EntryDone → List Answer
answers_of ds = map (λ (d : EntryDone). d.answer) ds

abbrev pub told : Conf → List Entry → List Answer
told conf es = answers_of (run_entries (begins conf) es)

abbrev message : Entry
message = call (Call.next_message [])

abbrev sends : List ℕ → Entry
sends b = call (Call.input (record { id = 7; generation = 2 }) b)

abbrev pub takes : ℕ → Entry
takes n = call (Call.input_written n)

abbrev pub credit : ℕ → Answer
credit u = Call.Says (Call.Credit u)

-- launched, with its first credit and its start told
abbrev runs : List Entry
runs = call (Call.launched (Ok tt)) ∷ message ∷ message ∷ []

-- g = 4: of four bytes that the workload takes, three are not granted, and four are, in one; nor is one more
abbrev by_fours : List Entry
by_fours = runs ++ (sends (97 ∷ 98 ∷ 99 ∷ 100 ∷ []) ∷ takes 3 ∷ message ∷ takes 1 ∷ message ∷ message ∷ sends (97 ∷ []) ∷ takes 1 ∷ message ∷ [])

-- g = 2 of 3 frames: the unit of a frame is free once its last byte is taken
abbrev by_two_frames : List Entry
by_two_frames = runs ++ (sends (1 ∷ 2 ∷ []) ∷ sends (3 ∷ []) ∷ takes 1 ∷ message ∷ takes 1 ∷ message ∷ takes 1 ∷ message ∷ message ∷ [])

-- a peer with one unit left that will send two bytes at once, and not one of them alone
abbrev one_left : List Entry
one_left = runs ++ (sends (97 ∷ []) ∷ takes 1 ∷ [])

-- it waits, and so does the workload: there is nothing to take, nor a time to wait for
abbrev waits : List Entry
waits = message ∷ sends (98 ∷ 99 ∷ []) ∷ call Call.pending_input ∷ takes 1 ∷ call (Call.tick 1000000000000) ∷ call Call.deadline ∷ message ∷ []

-- the whole window at once: a grant comes when the peer has used all
abbrev all_used : List Entry
all_used = runs ++ (sends (97 ∷ 98 ∷ []) ∷ takes 1 ∷ message ∷ takes 1 ∷ message ∷ message ∷ [])

-- the input closes with three bytes taken: they are granted no more
abbrev closes : List Entry
closes = runs ++ (sends (97 ∷ 98 ∷ 99 ∷ 100 ∷ []) ∷ takes 3 ∷ call Call.input_closed ∷ message ∷ message ∷ [])

pub record Computed : Type 0 where
  pub four : told (at_once in_bytes 4) by_fours
      ≡ Call.Ok ∷ credit 8 ∷ Call.Says Call.Started ∷ Call.Applied ∷ Call.Came 0 ∷ Call.Nothing ∷ Call.Came 0 ∷ credit 4 ∷ Call.Nothing
      ∷ Call.Applied ∷ Call.Came 0 ∷ Call.Nothing ∷ []
  -- with 1 each is granted, as the Rust does
  pub one : told (at_once in_bytes 1) by_fours
      ≡ Call.Ok ∷ credit 8 ∷ Call.Says Call.Started ∷ Call.Applied ∷ Call.Came 0 ∷ credit 3 ∷ Call.Came 0 ∷ credit 1 ∷ Call.Nothing
      ∷ Call.Applied ∷ Call.Came 0 ∷ credit 1 ∷ []
  pub frames : told (at_once in_frames 2) by_two_frames
      ≡ Call.Ok ∷ credit 3 ∷ Call.Says Call.Started ∷ Call.Applied ∷ Call.Applied ∷ Call.Came 1 ∷ Call.Nothing ∷ Call.Came 1 ∷ Call.Nothing
      ∷ Call.Came 1 ∷ credit 2 ∷ Call.Nothing ∷ []
  -- 2 + 2 = 2 + 2: it waits for ever
  pub for_ever : told (at_once of_two 2) (one_left ++ waits)
      ≡ Call.Ok ∷ credit 2 ∷ Call.Says Call.Started ∷ Call.Applied ∷ Call.Came 0
      ∷ Call.Nothing ∷ Call.Refused 5 ∷ Call.Pending [] ∷ Call.Came 0 ∷ Call.Ok ∷ Call.Time None ∷ Call.Nothing ∷ []
  -- 2 + 1 ≤ 2 + 1: it goes on
  pub goes_on : told (at_once of_two 1) (one_left ++ waits)
      ≡ Call.Ok ∷ credit 2 ∷ Call.Says Call.Started ∷ Call.Applied ∷ Call.Came 0
      ∷ credit 1 ∷ Call.Applied ∷ Call.Pending (98 ∷ []) ∷ Call.Came 0 ∷ Call.Ok ∷ Call.Time None ∷ credit 1 ∷ []
  -- 1 + 2 ≤ 2 + 1: so does one that sends each byte as it may
  pub whole : told (at_once of_two 2) all_used
      ≡ Call.Ok ∷ credit 2 ∷ Call.Says Call.Started ∷ Call.Applied ∷ Call.Came 0 ∷ Call.Nothing ∷ Call.Came 0 ∷ credit 2 ∷ Call.Nothing ∷ []
  -- three are returnable as the input closes: they are granted no more; nor are two as the peer ends it
  pub closed : told (at_once in_bytes 4) closes
      ≡ Call.Ok ∷ credit 8 ∷ Call.Says Call.Started ∷ Call.Applied ∷ Call.Came 0 ∷ Call.Ok ∷ Call.Says Call.InputClosed ∷ Call.Nothing ∷ []
  pub ended : told (at_once in_bytes 2) (runs ++ (sends (97 ∷ 98 ∷ 99 ∷ []) ∷ takes 2 ∷ call (Call.end_input (record { id = 7; generation = 2 })) ∷ message ∷ []))
      ≡ Call.Ok ∷ credit 8 ∷ Call.Says Call.Started ∷ Call.Applied ∷ Call.Came 0 ∷ Call.Applied ∷ Call.Nothing ∷ []
  -- what the workload has still to take holds no credit back: two of four bytes, and the other two; three at once; two of three frames; and
  -- with 1 a frame
  pub held : told (at_once in_bytes 2) (runs ++ (sends (97 ∷ 98 ∷ 99 ∷ 100 ∷ []) ∷ takes 1 ∷ message ∷ takes 1 ∷ message ∷ message ∷ takes 1 ∷ message ∷ takes 1 ∷ message ∷ []))
      ≡ Call.Ok ∷ credit 8 ∷ Call.Says Call.Started ∷ Call.Applied ∷ Call.Came 0 ∷ Call.Nothing ∷ Call.Came 0 ∷ credit 2 ∷ Call.Nothing ∷ Call.Came 0 ∷ Call.Nothing ∷ Call.Came 0 ∷ credit 2 ∷ []
  pub held_over : told (at_once in_bytes 2) (runs ++ (sends (97 ∷ 98 ∷ 99 ∷ 100 ∷ []) ∷ takes 3 ∷ message ∷ []))
      ≡ Call.Ok ∷ credit 8 ∷ Call.Says Call.Started ∷ Call.Applied ∷ Call.Came 0 ∷ credit 3 ∷ []
  pub held_frames : told (at_once in_frames 2) (runs ++ (sends (1 ∷ []) ∷ sends (2 ∷ []) ∷ sends (3 ∷ []) ∷ takes 1 ∷ message ∷ takes 1 ∷ message ∷ []))
      ≡ Call.Ok ∷ credit 3 ∷ Call.Says Call.Started ∷ Call.Applied ∷ Call.Applied ∷ Call.Applied ∷ Call.Came 1 ∷ Call.Nothing ∷ Call.Came 1 ∷ credit 2 ∷ []
  pub held_frame : told (at_once in_frames 1) (runs ++ (sends (1 ∷ []) ∷ sends (2 ∷ []) ∷ takes 1 ∷ message ∷ []))
      ≡ Call.Ok ∷ credit 3 ∷ Call.Says Call.Started ∷ Call.Applied ∷ Call.Applied ∷ Call.Came 1 ∷ credit 1 ∷ []
  -- a Credit behind a Credit lets Started go first: it is the second message asked for
  pub second : told (at_once of_two 2) (message ∷ sends (97 ∷ 98 ∷ []) ∷ takes 2 ∷ call (Call.launched (Ok tt)) ∷ message ∷ message ∷ message ∷ [])
      ≡ credit 2 ∷ Call.Applied ∷ Call.Came 0 ∷ Call.Ok ∷ Call.Says Call.Started ∷ credit 2 ∷ Call.Nothing ∷ []
  -- nothing else asks the smallest grant: output goes as ever, under the largest
  pub outputs : told (at_once in_bytes 8) (runs ++ (call (Call.credit (record { id = 7; generation = 2 }) Pool.Stdout 8) ∷ call (Call.output Stdout (97 ∷ 98 ∷ 99 ∷ 100 ∷ 101 ∷ [])) ∷ call (Call.next_message (0 ∷ 0 ∷ 0 ∷ 0 ∷ [])) ∷ []))
      ≡ Call.Ok ∷ credit 8 ∷ Call.Says Call.Started ∷ Call.Applied ∷ Call.Taken 4 ∷ Call.Says (Call.Output Stdout (97 ∷ 98 ∷ 99 ∷ 100 ∷ [])) ∷ []

pub computed : Computed
unfolding ring_read Streams.credit_in Calls.credit Calls.output Streams.credit_answer Streams.credit_next Streams.output_took Streams.output_next Streams.output_taken Streams.output_store Message.output_sent Message.output_paid Message.payload Calls.end_input Streams.end_answer Streams.end_next Input.end_answer Input.end_input Step.next Step.answer next_entry answer_entry Calls.«open» Calls.launched Calls.input Calls.input_written Calls.input_closed Calls.pending_input Calls.tick Calls.deadline Calls.next_message Range.fresh Range.stop Range.stop_at Range.in_range output_fits bytes_with admits cost wrap ring_write ring_from copied pop_from if_else order Life.close_runner_input Life.note_started Life.note_launch Life.launched_next Life.pass_grace Life.pass_timeout Life.pass_settlement Life.pass_give_up Life.pass_abandonment Life.fire Life.ticked Life.deadline_of Life.is_ready Message.sendable_of Message.choose Message.effect Message.said_for Message.buffer_after Streams.received Streams.input_answer Streams.input_next Streams.input_store Streams.input_lengths Streams.written_next Streams.written_came Streams.written_lengths Streams.pending_of Input.receive_answer Input.receive_input Input.receive_bytes Input.receive_lengths Input.written_input Input.written_came Input.written_lengths Input.pending_input front has_notes
computed = record {
  four = refl;
  one = refl;
  frames = refl;
  for_ever = refl;
  goes_on = refl;
  whole = refl;
  closed = refl;
  held = refl;
  held_over = refl;
  held_frames = refl;
  held_frame = refl;
  ended = refl;
  second = refl;
  outputs = refl;
}
