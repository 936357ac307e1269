-- The frame calls at the numbers of 02's A7, each computed from the definitions, from open on: the bytes as RFC 9113 lays them, on the
-- streams 1 and 3. So both sides of each bound are fixed, and what code and definition could say wrong alike.
use Rattle.std.specs.Prelude.{Bool, true, false, ◌≡◌, refl, List, [], ◌∷◌, ◌++◌, map, ℕ, zero, suc, Option, Result, Some, None, Ok, Err}
use Rattle.exec.specs.declared.Cause.{Cause}
use Rattle.exec.specs.declared.Cause.TheVariants.{Reset}
use Rattle.exec.specs.declared.Key.{Key}
use Rattle.exec.specs.declared.Limits.{Limits}
use Rattle.exec.specs.declared.Outcome.{Outcome}
use Rattle.exec.specs.declared.Receipt.{Receipt}
use Rattle.exec.specs.declared.Receipt.TheVariants.{Applied, Late}
use Rattle.exec.specs.declared.Refusal.{Refusal}
use Rattle.exec.specs.declared.Stream.TheVariants.{Stdout, Stderr}
use Rattle.exec.specs.Key.{new_key, admits}
use Rattle.exec.specs.Limits.{bytes_window, frames_window, limits_for, has_notes, cost, bytes_with}
use Rattle.exec.specs.Refusal.{number}
use Rattle.exec.specs.Time.{new_timers}
use Rattle.ring.specs.Ring.{wrap, ring_from, ring_write}
use Rattle.ring.specs.Runs.{copied}
use Rattle.choice.specs.Order.{if_else, order}
use Rattle.input.specs.Input as Input
use Rattle.output.specs.Output.{output_fits}
use Rattle.runner.specs.declared.answer.Message.TheVariants as Messages
use Rattle.runner.specs.declared.answer.Message.{Message}
use Rattle.runner.specs.declared.runner.Runner.{Runner}
use Rattle.runner.specs.Calls as Calls
use Rattle.runner.specs.Life as Life
use Rattle.runner.specs.Message as Saying
use Rattle.runner.specs.Range as Range
use Rattle.runner.specs.State.{credit_at}
use Rattle.runner.specs.Streams as Streams
use Rattle.octets.specs.Bytes.{be24_at, be32_at, number_at}
use Rattle.carrier.specs.Carrier as Carrier
use Rattle.carrier.specs.Carrier.{ReadAfter, WriteAfter}
use Rattle.framing.specs.Framing as Framing
use Rattle.frames.specs.Calls as Frames
use Rattle.frames.specs.Calls.{is_framed}

-- ---- which runners and streams are framed: 42 for every other

limits : (chunk input output : ℕ) (shared : Bool) → Limits
limits chunk input output shared = limits_for chunk (bytes_window input) (bytes_window output) shared

-- "chunk is at most 16,384 and windows at most 2^31 − 1", "for unshared byte windows"
framed : (is_framed (limits 16384 2147483647 2147483647 false) 1 ≡ true)
    × (is_framed (limits 16385 8 8 false) 1 ≡ false)
    × (is_framed (limits 4 2147483648 8 false) 1 ≡ false)
    × (is_framed (limits 4 8 2147483648 false) 1 ≡ false)
    × (is_framed (limits 4 8 8 true) 1 ≡ false)
    × (is_framed (limits_for 4 (frames_window 2) (bytes_window 8) false) 1 ≡ false)
    × (is_framed (limits_for 4 (bytes_window 8) (frames_window 2) false) 1 ≡ false)
unfolding limits has_notes
framed = (refl, refl, refl, refl, refl, refl, refl)

-- "s, from 1 to 2^31 − 3"
streams : (is_framed (limits 4 8 8 false) 0 ≡ false)
    × (is_framed (limits 4 8 8 false) 1 ≡ true)
    × (is_framed (limits 4 8 8 false) 2147483645 ≡ true)
    × (is_framed (limits 4 8 8 false) 2147483646 ≡ false)
unfolding limits has_notes
streams = (refl, refl, refl, refl)

-- ---- a runner from open, and its frames on 1 and 3
-- (to unfold one of these is to unfold what its line names: the definitions that its calls compute with)

abbrev zeros : ℕ → List ℕ
zeros zero = []
zeros (suc n) = 0 ∷ zeros n

abbrev own : Key
own = new_key 7 2

opened : Runner
unfolding Calls.«open» Range.fresh Range.stop Range.in_range output_fits has_notes bytes_with admits limits
opened = (Calls.«open» own (limits 4 8 8 false) (new_timers 10 5) 1 0 (zeros 16) []).runner

-- what a frame leaves that is read at instant 3, and the next message's frames, in a buffer of sevens
reads : Runner → List ℕ → ReadAfter
unfolding opened Frames.read_frame Frames.parsed_read Frames.made Frames.data_made Frames.then_end Carrier.admitted Carrier.accepted Framing.read Framing.is_whole Framing.on_stream Framing.kinded Framing.data_in Framing.of_four Framing.stream_of Framing.number31_at be24_at be32_at number_at Calls.credit Streams.credit_answer Streams.credit_in Streams.credit_next Calls.input Streams.received Streams.input_answer Streams.input_next Streams.input_store Streams.input_lengths Input.receive_answer Input.receive_input Input.receive_bytes Input.receive_lengths cost ring_write ring_from copied wrap Calls.end_input Streams.end_answer Streams.end_next Input.end_answer Input.end_input Calls.reset Life.detach_next Life.ticked Life.fire Life.pass_grace Life.pass_timeout Life.pass_settlement Life.pass_give_up Life.pass_abandonment Life.close_runner_input
reads r b = Frames.read_frame r 3 1 b (zeros 16) []

abbrev sevens : ℕ → List ℕ
sevens zero = []
sevens (suc n) = 7 ∷ sevens n

writes : Runner → (room : ℕ) → WriteAfter
unfolding opened reads Frames.write_frame Carrier.write Carrier.admitted Carrier.readied Carrier.written Carrier.sent Carrier.told Carrier.asked Carrier.wrote Carrier.wrote_buffer Frames.sent_as Frames.laid Framing.bytes_of Framing.header Calls.next_message Saying.choose Saying.sendable_of Saying.effect Saying.said_for Saying.buffer_after order if_else
writes r room = Frames.write_frame r 1 (zeros 16) (sevens room)

answer : ReadAfter → Result (Option Receipt) Refusal
answer x = x.reading.answer

abbrev after : List ℕ → Runner
after b = (reads opened b).reading.runner

-- the first message: a Credit of 8 bytes, WINDOW_UPDATE on 1; "25 as after A1": 42 bytes are too few
credit : ((writes opened 43).writing.answer ≡ (Ok (Some (Messages.Credit 8, 13))))
    × ((writes opened 43).buffer ≡ 0 ∷ 0 ∷ 4 ∷ 8 ∷ 0 ∷ 0 ∷ 0 ∷ 0 ∷ 1 ∷ 0 ∷ 0 ∷ 0 ∷ 8 ∷ sevens 30)
    × ((writes opened 42).writing.answer ≡ Err Refusal.BufferShort)
    × ((writes opened 42).buffer ≡ sevens 42)
unfolding writes
credit = (refl, refl, refl, refl)

-- ---- what is read, by a runner whose input is open for 8 bytes

abbrev granted : Runner
granted = (writes opened 43).writing.runner

-- the nine bytes that a frame begins with: its length, its type, its flags and its stream
frame : (n kind flags id : ℕ) → List ℕ → List ℕ
frame n kind flags id rest = 0 ∷ 0 ∷ n ∷ kind ∷ flags ∷ 0 ∷ 0 ∷ 0 ∷ id ∷ rest

available : Runner → List ℕ
available r = (credit_at 0 r.credits).available ∷ (credit_at 1 r.credits).available ∷ []

refused : List ℕ → Refusal → Type 0
refused b x = reads granted b ≡ Carrier.read_after (Carrier.unread x granted) (zeros 16) []

-- "the initial windows are 0": nothing may be sent at first, nor come in
initial : (available opened ≡ 0 ∷ 0 ∷ [])
    × (answer (reads opened (frame 1 0 0 1 (104 ∷ []))) ≡ Err Refusal.Window)
    × (answer (reads granted (frame 1 0 0 1 (104 ∷ []))) ≡ Ok (Some Applied))
unfolding writes reads frame available answer
initial = (refl, refl, refl)

-- "WINDOW_UPDATE is credit", of stdout's pool on s and of stderr's on s + 2; of no units it is credit's 3
updates : (answer (reads granted (frame 4 8 0 1 (0 ∷ 0 ∷ 0 ∷ 8 ∷ []))) ≡ Ok (Some Applied))
    × (available (reads granted (frame 4 8 0 1 (0 ∷ 0 ∷ 0 ∷ 8 ∷ []))).reading.runner ≡ 8 ∷ 0 ∷ [])
    × (available (reads granted (frame 4 8 0 3 (0 ∷ 0 ∷ 0 ∷ 8 ∷ []))).reading.runner ≡ 0 ∷ 8 ∷ [])
    × refused (frame 4 8 0 1 (0 ∷ 0 ∷ 0 ∷ 0 ∷ [])) Refusal.Credit
    × refused (frame 4 8 0 1 (0 ∷ 0 ∷ 0 ∷ 9 ∷ [])) Refusal.Credit
unfolding writes reads frame available answer refused
updates = (refl, refl, refl, refl, refl)

-- what a DATA leaves of the input: whether it ended, the bytes that wait, the units still open
told : ReadAfter → Bool × ℕ × ℕ
told x = (x.reading.runner.input.peer_ended, x.reading.runner.input.inbox.length, x.reading.runner.input.window.«open»)

-- "inbound END_STREAM is end_input after its bytes, if any": "hi" without it and with it, and it alone
data_read : (told (reads granted (frame 2 0 0 1 (104 ∷ 105 ∷ []))) ≡ (false, 2, 6))
    × (told (reads granted (frame 2 0 1 1 (104 ∷ 105 ∷ []))) ≡ (true, 2, 6))
    × (told (reads granted (frame 0 0 1 1 [])) ≡ (true, 0, 8))
    × (answer (reads granted (frame 2 0 1 1 (104 ∷ 105 ∷ []))) ≡ Ok (Some Applied))
    × (answer (reads granted (frame 0 0 1 1 [])) ≡ Ok (Some Applied))
unfolding writes reads frame told answer
data_read = (refl, refl, refl, refl, refl)

-- "where their input is refused, the end is not made"; "an empty DATA without it is input of no bytes"; "DATA over chunk is 4"
data_refused : refused (frame 5 0 1 1 (1 ∷ 2 ∷ 3 ∷ 4 ∷ 5 ∷ [])) Refusal.Chunk
    × refused (frame 5 0 0 1 (1 ∷ 2 ∷ 3 ∷ 4 ∷ 5 ∷ [])) Refusal.Chunk
    × refused (frame 0 0 0 1 []) Refusal.Chunk
unfolding writes reads frame refused
data_refused = (refl, refl, refl)

-- the payload, from byte 9 on, is what the workload gets: the inbox begins behind both streams' chunks
data_kept : ((reads granted (frame 2 0 0 1 (104 ∷ 105 ∷ []))).bytes ≡ zeros 8 ++ (104 ∷ 105 ∷ zeros 6))
    × ((reads granted (frame 2 0 1 1 (104 ∷ 105 ∷ []))).bytes ≡ zeros 8 ++ (104 ∷ 105 ∷ zeros 6))
unfolding writes reads frame
data_kept = (refl, refl)

-- bytes that are answered Late are not refused, so the end is made: of an input that the workload closed
closed : Runner
unfolding writes Calls.input_closed
closed = (Calls.input_closed granted).runner

late : (answer (reads closed (frame 2 0 1 1 (104 ∷ 105 ∷ []))) ≡ Ok (Some Late))
    × (told (reads closed (frame 2 0 1 1 (104 ∷ 105 ∷ []))) ≡ (true, 0, 6))
    × (told (reads closed (frame 2 0 0 1 (104 ∷ 105 ∷ []))) ≡ (false, 0, 6))
unfolding closed reads frame told answer
late = (refl, refl, refl)

-- "an inbound RST_STREAM on either is reset", whatever its code, at the call's time: the settlement after 3 is at 8
outcome : ReadAfter → Result (Option Receipt) Refusal × Option Cause × Option ℕ
outcome x = (x.reading.answer, x.reading.runner.life.cause, x.reading.runner.clocks.give_up_at)

resets : (outcome (reads granted (frame 4 3 0 1 (0 ∷ 0 ∷ 0 ∷ 8 ∷ []))) ≡ (Ok None, Some Reset, Some 8))
    × (outcome (reads granted (frame 4 3 0 3 (0 ∷ 0 ∷ 0 ∷ 0 ∷ []))) ≡ (Ok None, Some Reset, Some 8))
unfolding writes reads frame outcome Calls.disconnect Calls.dropped Life.cut_off_once Life.cut_off Life.give_up_soon Life.end_grace Life.silenced Life.terminate Life.begin_termination
resets = (refl, refl)

-- 43: the length, the type, the stream, and DATA on s + 2; 44: padded DATA on s, before its own 4; 42 before both
bad : refused [] Refusal.BadFrame
    × refused (frame 3 0 0 1 (104 ∷ 105 ∷ [])) Refusal.BadFrame
    × refused (frame 2 1 0 1 (104 ∷ 105 ∷ [])) Refusal.BadFrame
    × refused (frame 2 0 0 2 (104 ∷ 105 ∷ [])) Refusal.BadFrame
    × refused (frame 2 0 0 3 (104 ∷ 105 ∷ [])) Refusal.BadFrame
    × refused (frame 2 0 8 3 (0 ∷ 105 ∷ [])) Refusal.BadFrame
    × refused (frame 2 0 8 1 (0 ∷ 105 ∷ [])) Refusal.PaddedFrame
    × refused (frame 5 0 9 1 (0 ∷ 2 ∷ 3 ∷ 4 ∷ 5 ∷ [])) Refusal.PaddedFrame
    × (Frames.read_frame granted 3 0 [] (zeros 16) [] ≡ Carrier.read_after (Carrier.unread Refusal.NotFramed granted) (zeros 16) [])
unfolding writes reads frame refused
bad = (refl, refl, refl, refl, refl, refl, refl, refl, refl)

-- 42 "in the place of 13": behind 11, and before 25
placed : ((Frames.read_frame granted 3 0 [] (zeros 15) []).reading.answer ≡ Err Refusal.StoreShort)
    × ((Frames.write_frame granted 0 (zeros 15) []).writing.answer ≡ Err Refusal.StoreShort)
    × ((Frames.write_frame granted 0 (zeros 16) []).writing.answer ≡ Err Refusal.NotFramed)
    × ((Frames.write_frame granted 1 (zeros 16) []).writing.answer ≡ Err Refusal.BufferShort)
unfolding writes reads
placed = (refl, refl, refl, refl)

numbers : (number Refusal.NotFramed ≡ 42) × (number Refusal.BadFrame ≡ 43) × (number Refusal.PaddedFrame ≡ 44)
numbers = (refl, refl, refl)

-- ---- what is written, laid in a buffer that holds "ab" from byte 9 on

abbrev held : List ℕ
held = sevens 9 ++ (97 ∷ 98 ∷ sevens 15)

lays : (stdout stderr : Bool) → Message → List ℕ
lays stdout stderr m = (Frames.laying 1 stdout stderr).lay m held

-- DATA is output, stdout on s and stderr on s + 2; "an End is an empty DATA with END_STREAM"; Started and InputClosed write nothing
outputs : (lays false false (Messages.Output Stdout 2) ≡ frame 2 0 0 1 (97 ∷ 98 ∷ sevens 15))
    × (lays false false (Messages.Output Stderr 2) ≡ frame 2 0 0 3 (97 ∷ 98 ∷ sevens 15))
    × (lays false false (Messages.End Stdout) ≡ frame 0 0 1 1 (97 ∷ 98 ∷ sevens 15))
    × (lays false false (Messages.End Stderr) ≡ frame 0 0 1 3 (97 ∷ 98 ∷ sevens 15))
    × (lays false false Messages.Started ≡ held)
    × (lays false false Messages.InputClosed ≡ held)
unfolding lays frame Frames.sent_as Frames.laid Framing.bytes_of Framing.header
outputs = (refl, refl, refl, refl, refl, refl)

-- "a Terminal writes RST_STREAM with CANCEL (8) on each stream whose End is missing, stdout first"
terminals : (o : Outcome) → (lays false false (Messages.Terminal o) ≡ frame 4 3 0 1 (0 ∷ 0 ∷ 0 ∷ 8 ∷ frame 4 3 0 3 (0 ∷ 0 ∷ 0 ∷ 8 ∷ [])))
    × (lays true false (Messages.Terminal o) ≡ frame 4 3 0 3 (0 ∷ 0 ∷ 0 ∷ 8 ∷ sevens 13))
    × (lays false true (Messages.Terminal o) ≡ frame 4 3 0 1 (0 ∷ 0 ∷ 0 ∷ 8 ∷ sevens 13))
    × (lays true true (Messages.Terminal o) ≡ held)
unfolding lays frame Frames.sent_as Frames.laid Framing.bytes_of Framing.header
terminals o = (refl, refl, refl, refl)

sizes : (o : Outcome) → map (Frames.laying 1 false false).size (Messages.Credit 8 ∷ Messages.Output Stdout 2 ∷ Messages.End Stderr ∷ Messages.Terminal o ∷ Messages.Started ∷ []) ≡ 13 ∷ 11 ∷ 9 ∷ 26 ∷ 0 ∷ []
unfolding Frames.sent_as
sizes o = refl
