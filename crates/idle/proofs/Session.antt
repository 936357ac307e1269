-- Idle ticks, computed from the definitions: so the claims are not of lists that cannot be, and none of their conditions can be spared.
use Rattle.std.specs.Prelude.{Option, Some, None, Ok}
use mathlib.Core.Bool.{Bool, true, false, true≢false}
use mathlib.Core.Path.{◌≡◌, refl, sym, ◌∙◌, ap}
use mathlib.Core.List.{List, [], ◌∷◌, map}
use Prim.Native.Nat.{ℕ}
use Rattle.exec.specs.declared.Cause.TheVariants as Cause
use Rattle.exec.specs.declared.Outcome.{Outcome}
use Rattle.exec.specs.declared.Settlement as Settlements
use Rattle.exec.specs.declared.Settlement.TheVariants as Settlement
use Rattle.exec.specs.declared.Stream.TheVariants.{Stdout, Stderr}
use Rattle.exec.specs.Key.{admits}
use Rattle.exec.specs.Limits.{cost, bytes_with, bytes_window, limits_for, has_notes}
use Rattle.ring.specs.Ring.{wrap, ring_read, ring_from, ring_write}
use Rattle.ring.specs.Runs.{copied}
use Rattle.octets.specs.Bytes.{number_at, be32_at, be24_at}
use Rattle.choice.specs.Order.{if_else, order}
use Rattle.output.specs.Output.{output_fits}
use Rattle.codec.specs.Codec as Codec
use Rattle.runner.specs.Calls as Calls
use Rattle.runner.specs.Life as Life
use Rattle.runner.specs.Message as Message
use Rattle.runner.specs.Range as Range
use Rattle.runner.specs.Streams as Streams
use Rattle.carrier.specs.Carrier as Carrier
use Rattle.channel.specs.Calls as Channel
use Rattle.framing.specs.Framing as Framing
use Rattle.frames.specs.Calls as Frames
use Rattle.input.specs.Input as Input
use Rattle.calls.specs.Call as Call
use Rattle.calls.specs.Call.{Conf, Call, Answer}
use Rattle.account.specs.Step as Step
use Rattle.account.specs.Step.{State}
use Rattle.account.specs.Records.{Entry, EntryDone, call, read_frame, write_frame, next_entry, answer_entry, after_entries, run_entries}
use Rattle.account.proofs.TurnSession.{channel, zeros, written, adjust}
use Rattle.idle.specs.IdleClaim.{Woven, made, idle, alone, woven, amid, AllIdle}
use Rattle.idle.specs.PollClaim.{Beat, polled, after_ticks, at_every_instant, at_deadlines}
use Rattle.idle.proofs.Idle.{idle_ticks}
use Rattle.idle.proofs.Polls.{polls}

-- chunks of one byte, windows of one byte
abbrev timed : Option ℕ → (grace settlement : ℕ) → Conf
timed timeout grace settlement = record {
  key = record { id = 7; generation = 2 };
  limits = limits_for 1 (bytes_window 1) (bytes_window 1) false;
  timers = record { timeout = timeout; grace = grace; settlement = settlement };
  smallest = 1;
}

-- opened at 0, with the three bytes that such limits need
abbrev begins : Conf → State
begins conf = Step.opened conf 0 (0 ∷ 0 ∷ 0 ∷ []) []

abbrev answers_of : List EntryDone → List Answer
answers_of ds = map (λ (d : EntryDone). d.answer) ds

-- ---- ticks put in, between two answers and at the edge of the deadline

-- the timeout comes at 10
abbrev short : Conf
short = timed (Some 10) 5 3

-- and never
abbrev none : Conf
none = timed None 0 0

abbrev between : List Woven
between = idle 0
    ∷ made (call (Call.launched (Ok tt)))
    ∷ idle 9
    ∷ made (call (Call.output Stdout (97 ∷ 98 ∷ [])))
    ∷ idle 9
    ∷ idle 3
    ∷ made (call Call.deadline)
    ∷ made (call Call.buffered)
    ∷ []

pub between_idle : AllIdle (begins short) between
    × (answers_of (amid (begins short) between) ≡ Call.Ok ∷ Call.Taken 1 ∷ Call.Time (Some 10) ∷ Call.Value 1 ∷ [])
unfolding Step.next Step.answer next_entry answer_entry Calls.«open» Calls.launched Calls.output Calls.tick Calls.deadline Calls.buffered Range.fresh Range.stop Range.stop_at Range.in_range output_fits bytes_with wrap ring_write copied Life.pass_grace Life.pass_timeout Life.pass_settlement Life.pass_give_up Life.pass_abandonment Life.fire Life.ticked Life.deadline_of Life.note_started Life.note_launch Life.launched_next Streams.output_taken Streams.output_next Streams.output_store Streams.output_took has_notes
between_idle = ((refl, (refl, (refl, (refl, tt)))), refl)

-- and the first run, without them
pub between_alone : answers_of (run_entries (begins short) (alone between)) ≡ Call.Ok ∷ Call.Taken 1 ∷ Call.Time (Some 10) ∷ Call.Value 1 ∷ []
between_alone = ap answers_of (sym ((idle_ticks short 0 (0 ∷ 0 ∷ 0 ∷ []) []).answers between between_idle.0)) ∙ between_idle.1

-- none is reported: a tick at the last instant; and on a refused open, where tick and deadline are refused alike
abbrev at_last : List Woven
at_last = idle 18446744073709551615 ∷ made (call (Call.tick 18446744073709551615)) ∷ made (call Call.deadline) ∷ []

pub none_idle : (AllIdle (begins none) at_last × (answers_of (amid (begins none) at_last) ≡ Call.Ok ∷ Call.Time None ∷ []))
    × (AllIdle (Step.opened short 0 [] []) at_last × (answers_of (amid (Step.opened short 0 [] []) at_last) ≡ Call.Refused 10 ∷ Call.Refused 10 ∷ []))
unfolding Step.next Step.answer next_entry answer_entry Calls.«open» Calls.tick Calls.deadline Range.fresh Range.stop Range.in_range output_fits bytes_with Life.pass_grace Life.pass_timeout Life.pass_settlement Life.pass_give_up Life.pass_abandonment Life.fire Life.ticked Life.deadline_of has_notes
none_idle = (((refl, tt), refl), ((refl, tt), refl))

-- the same on a channel: a record read, and three written into 43 bytes; no deadline is reported
abbrev on_channel : List Woven
on_channel = made (call (Call.launched (Ok tt)))
    ∷ made adjust
    ∷ idle 1000
    ∷ made (call (Call.output Stdout (97 ∷ 98 ∷ 99 ∷ [])))
    ∷ made written
    ∷ idle 7
    ∷ made written
    ∷ idle 2000
    ∷ made written
    ∷ []

pub channel_idle : AllIdle (Step.opened channel 0 (zeros 16) []) on_channel
    × (answers_of (amid (Step.opened channel 0 (zeros 16) []) on_channel)
    ≡ Call.Ok ∷ Call.Applied ∷ Call.Taken 3 ∷ Call.Says (Call.Credit 8) ∷ Call.Says Call.Started ∷ Call.Says (Call.Output Stdout (97 ∷ 98 ∷ 99 ∷ [])) ∷ [])
unfolding Step.next Step.answer next_entry answer_entry Calls.«open» Calls.launched Calls.output Calls.tick Calls.deadline Calls.next_message Calls.credit Range.fresh Range.stop Range.stop_at Range.in_range output_fits bytes_with admits cost wrap ring_read ring_from ring_write copied if_else order Life.pass_grace Life.pass_timeout Life.pass_settlement Life.pass_give_up Life.pass_abandonment Life.fire Life.ticked Life.deadline_of Life.note_started Life.note_launch Life.launched_next Life.is_ready Life.outcome_of Message.sendable_of Message.choose Message.output_paid Message.output_sent Message.effect Message.payload Message.buffer_after Message.said_for Streams.output_taken Streams.output_next Streams.output_store Streams.output_took Streams.credit_in Streams.credit_answer Streams.credit_next number_at be32_at Carrier.admitted Carrier.accepted Carrier.readied Carrier.written Carrier.asked Carrier.wrote Carrier.wrote_buffer Carrier.told Carrier.sent Carrier.write Channel.made Channel.parsed_read Channel.read_record Channel.sent_as Channel.sent_buffer Channel.is_left Channel.write_record Codec.header Codec.bytes_of Codec.laid_record Codec.kinded Codec.fitting Codec.checked Codec.read has_notes
channel_idle = ((refl, (refl, (refl, tt))), refl)

-- and as frames on the streams 1 and 3: WINDOW_UPDATE of a byte, DATA on stderr's stream, and RST_STREAM read, and what is written into
-- 43 bytes; the reset is at 4, and give-up at 7, a settlement time later
abbrev update : List ℕ
update = 0 ∷ 0 ∷ 4 ∷ 8 ∷ 0 ∷ 0 ∷ 0 ∷ 0 ∷ 1 ∷ 0 ∷ 0 ∷ 0 ∷ 1 ∷ []

abbrev outbound : List ℕ
outbound = 0 ∷ 0 ∷ 1 ∷ 0 ∷ 1 ∷ 0 ∷ 0 ∷ 0 ∷ 3 ∷ 120 ∷ []

abbrev reset : List ℕ
reset = 0 ∷ 0 ∷ 4 ∷ 3 ∷ 0 ∷ 0 ∷ 0 ∷ 0 ∷ 3 ∷ 0 ∷ 0 ∷ 0 ∷ 8 ∷ []

abbrev framed : Entry
framed = write_frame 1 (zeros 43)

abbrev in_frames : List Woven
in_frames = made (call (Call.launched (Ok tt)))
    ∷ made (read_frame 0 1 update)
    ∷ idle 9
    ∷ made (call (Call.output Stdout (97 ∷ [])))
    ∷ made framed
    ∷ made (read_frame 0 1 outbound)
    ∷ idle 3
    ∷ made framed
    ∷ made framed
    ∷ made (read_frame 4 1 reset)
    ∷ idle 6
    ∷ made (call Call.deadline)
    ∷ made (call Call.next_request)
    ∷ made framed
    ∷ []

abbrev in_frames_heard : List Answer
in_frames_heard = Call.Ok ∷ Call.Applied ∷ Call.Taken 1 ∷ Call.Says (Call.Credit 1) ∷ Call.Refused 43 ∷ Call.Says Call.Started ∷ Call.Says (Call.Output Stdout (97 ∷ []))
    ∷ Call.Ok ∷ Call.Time (Some 7) ∷ Call.Asks (Call.Terminate Cause.Reset) ∷ Call.Nothing ∷ []

-- with the ticks and, by the claim, without
pub frames_idle : AllIdle (begins short) in_frames
    × (answers_of (amid (begins short) in_frames) ≡ in_frames_heard)
    × (answers_of (run_entries (begins short) (alone in_frames)) ≡ in_frames_heard)
unfolding Step.next Step.answer next_entry answer_entry Calls.«open» Calls.launched Calls.output Calls.tick Calls.deadline Calls.next_message Calls.credit Range.fresh Range.stop Range.stop_at Range.in_range output_fits bytes_with admits cost wrap ring_read ring_from ring_write copied if_else order Life.pass_grace Life.pass_timeout Life.pass_settlement Life.pass_give_up Life.pass_abandonment Life.fire Life.ticked Life.deadline_of Life.note_started Life.note_launch Life.launched_next Life.is_ready Message.sendable_of Message.choose Message.output_paid Message.output_sent Message.effect Message.payload Message.buffer_after Message.said_for Streams.output_taken Streams.output_next Streams.output_store Streams.output_took Streams.credit_in Streams.credit_answer Streams.credit_next number_at be32_at Carrier.admitted Carrier.accepted Carrier.readied Carrier.written Carrier.asked Carrier.wrote Carrier.wrote_buffer Carrier.told Carrier.sent Carrier.write Calls.next_request Calls.reset Life.end_grace Life.begin_termination Life.terminate Life.silenced Life.give_up_soon Life.cut_off Life.cut_off_once Life.detach_next Message.wish_for Message.wish Message.wish_effect be24_at Framing.number31_at Framing.is_whole Framing.stream_of Framing.data_in Framing.of_four Framing.kinded Framing.on_stream Framing.read Framing.header Framing.bytes_of Frames.made Frames.parsed_read Frames.read_frame Frames.sent_as Frames.laid Frames.write_frame has_notes
frames_idle =
    let a : AllIdle (begins short) in_frames = (refl, (refl, (refl, tt))) in (a, refl, ap answers_of (sym ((idle_ticks short 0 (0 ∷ 0 ∷ 0 ∷ []) []).answers in_frames a)))

abbrev last_data : List ℕ
last_data = 0 ∷ 0 ∷ 1 ∷ 0 ∷ 1 ∷ 0 ∷ 0 ∷ 0 ∷ 1 ∷ 120 ∷ []

-- DATA that ends the input, which is two calls at one instant: the byte is taken, and more is refused
abbrev ending_data : List Woven
ending_data = made (call (Call.launched (Ok tt)))
    ∷ made framed
    ∷ idle 9
    ∷ made (read_frame 0 1 last_data)
    ∷ idle 9
    ∷ made (read_frame 0 1 last_data)
    ∷ made (call (Call.input_written 1))
    ∷ idle 3
    ∷ made framed
    ∷ []

pub data_idle : AllIdle (begins short) ending_data
    × (answers_of (amid (begins short) ending_data)
    ≡ Call.Ok ∷ Call.Says (Call.Credit 1) ∷ Call.Applied ∷ Call.Refused 6 ∷ Call.Came 0 ∷ Call.Says Call.Started ∷ [])
unfolding Step.next Step.answer next_entry answer_entry Calls.«open» Calls.launched Calls.tick Calls.deadline Calls.next_message Range.fresh Range.stop Range.in_range output_fits bytes_with admits cost wrap ring_read ring_from ring_write copied if_else order Life.pass_grace Life.pass_timeout Life.pass_settlement Life.pass_give_up Life.pass_abandonment Life.fire Life.ticked Life.deadline_of Life.note_started Life.note_launch Life.launched_next Life.is_ready Message.sendable_of Message.choose Message.effect Message.said_for number_at be32_at Carrier.admitted Carrier.accepted Carrier.readied Carrier.written Carrier.asked Carrier.wrote Carrier.told Carrier.sent Carrier.write be24_at Framing.number31_at Framing.is_whole Framing.stream_of Framing.data_in Framing.kinded Framing.on_stream Framing.read Frames.made Frames.parsed_read Frames.read_frame Frames.sent_as Frames.write_frame Calls.input Calls.end_input Calls.input_written Streams.received Streams.input_answer Streams.input_next Streams.input_store Streams.input_lengths Streams.end_answer Streams.end_next Streams.written_next Streams.written_came Streams.written_lengths Input.receive_answer Input.receive_input Input.receive_bytes Input.receive_lengths Input.end_answer Input.end_input Input.written_input Input.written_came Frames.then_end Frames.data_made has_notes
data_idle = ((refl, (refl, (refl, tt))), refl)

-- ---- what a tick put in may move: two timers that no answer shows, so that the two runs do not end in the same state

abbrev ended : Settlements.Settlement → List Woven → List Woven
ended result ws = made (call (Call.launched (Ok tt)))
    ∷ made (call (Call.exited 0 None))
    ∷ made (call (Call.settled result))
    ∷ made (call (Call.output_closed Stdout))
    ∷ made (call (Call.output_closed Stderr))
    ∷ ws

-- each message written as frames; and behind Terminal DATA of a byte that ends the input: two calls, each late
abbrev told_in_frames : List Woven
told_in_frames = ended Settlement.Settled (idle 0
    ∷ made framed
    ∷ made framed
    ∷ idle 1000
    ∷ made framed
    ∷ made framed
    ∷ made framed
    ∷ idle 1000
    ∷ made (read_frame 1000 1 last_data)
    ∷ [])

abbrev whole : Outcome
whole = record { status = None; cause = None; launch_failure = None; stdout_truncated = false; stderr_truncated = false; notes_truncated = false; reusable = true }

pub told_idle : AllIdle (begins none) told_in_frames
    × (answers_of (amid (begins none) told_in_frames)
    ≡ Call.Ok ∷ Call.Ok ∷ Call.Ok ∷ Call.Ok ∷ Call.Ok
    ∷ Call.Says Call.Started ∷ Call.Says Call.InputClosed ∷ Call.Says (Call.End Stdout) ∷ Call.Says (Call.End Stderr) ∷ Call.Says (Call.Terminal whole) ∷ Call.Late ∷ [])
unfolding Step.next Step.answer next_entry answer_entry Calls.«open» Calls.launched Calls.tick Calls.deadline Calls.next_message Range.fresh Range.stop Range.stop_at Range.in_range output_fits bytes_with admits if_else order Life.pass_grace Life.pass_timeout Life.pass_settlement Life.pass_give_up Life.pass_abandonment Life.fire Life.ticked Life.deadline_of Life.note_started Life.note_launch Life.launched_next Life.is_ready Life.outcome_of Message.sendable_of Message.choose Message.effect Message.said_for number_at be32_at Carrier.admitted Carrier.accepted Carrier.readied Carrier.written Carrier.asked Carrier.wrote Carrier.told Carrier.sent Carrier.write Life.close_runner_input be24_at Framing.number31_at Framing.is_whole Framing.stream_of Framing.data_in Framing.kinded Framing.on_stream Framing.read Frames.made Frames.parsed_read Frames.read_frame Frames.sent_as Frames.write_frame Calls.exited Calls.settled Calls.output_closed Calls.input Calls.end_input Life.drop_launch Life.drop_streams Life.note_exit Life.note_exit_once Life.exited_next Life.settled_next Streams.closed_next Streams.received Streams.input_answer Streams.input_next Streams.end_answer Frames.then_end Frames.data_made has_notes
told_idle = ((refl, (refl, (refl, tt))), refl)

-- an abandonment that finds nothing to abandon
abbrev fenced : List Woven
fenced = ended Settlement.Failed (idle 0 ∷ [])

-- a give-up that finds all cleaned up
abbrev clean : List Woven
clean = ended Settlement.Settled (made (call (Call.cancel 0 (record { id = 7; generation = 2 }) Cause.Cancelled)) ∷ idle 0 ∷ [])

unseen : (AllIdle (begins none) fenced
    × ((after_entries (begins none) (alone fenced)).runner.clocks.abandon_at ≡ Some 0)
    × ((after_entries (begins none) (woven fenced)).runner.clocks.abandon_at ≡ None))
    × (AllIdle (begins none) clean
    × ((after_entries (begins none) (alone clean)).runner.clocks.give_up_at ≡ Some 0)
    × ((after_entries (begins none) (woven clean)).runner.clocks.give_up_at ≡ None))
unfolding Step.next Step.answer next_entry Calls.«open» Calls.launched Calls.exited Calls.settled Calls.output_closed Calls.cancel Calls.tick Calls.deadline Range.fresh Range.stop Range.stop_at Range.in_range output_fits bytes_with admits Life.close_runner_input Life.end_grace Life.begin_termination Life.terminate Life.abandon_open_streams Life.pass_grace Life.pass_timeout Life.pass_settlement Life.give_up_unless_clean Life.pass_give_up Life.drop_launch Life.drop_streams Life.pass_abandonment Life.fire Life.ticked Life.deadline_of Life.cancel_next Life.note_started Life.note_launch Life.launched_next Life.note_exit Life.note_exit_once Life.exited_next Life.settled_next Streams.closed_next has_notes
unseen = (((refl, tt), refl, refl), ((refl, tt), refl, refl))

abbrev is_never : Option ℕ → Bool
is_never None = true
is_never (Some d) = false

-- equal states would be false, though every answer is alike; and neither timer is reported, which would wake a host for nothing
pub moves_unseen : (AllIdle (begins none) fenced × (after_entries (begins none) (woven fenced) ≡ after_entries (begins none) (alone fenced) → ⊥))
    × (AllIdle (begins none) clean × (after_entries (begins none) (woven clean) ≡ after_entries (begins none) (alone clean) → ⊥))
moves_unseen = (
  (unseen.0.0, λ e. true≢false (ap is_never (sym unseen.0.2 ∙ ap (λ (s : State). s.runner.clocks.abandon_at) e ∙ unseen.0.1))),
  (unseen.1.0, λ e. true≢false (ap is_never (sym unseen.1.2 ∙ ap (λ (s : State). s.runner.clocks.give_up_at) e ∙ unseen.1.1))),
)

-- ---- each deadline from both sides, by a host that asks for it and for what the timer does

-- a timeout at 10, grace to 15, give-up at 18
abbrev seen : List ℕ → (clock : ℕ) → List Beat
seen ticks clock = record { ticks = ticks; clock = clock; entry = call Call.deadline }
    ∷ record { ticks = []; clock = clock; entry = call Call.next_request }
    ∷ record { ticks = []; clock = clock; entry = call (Call.read_allowance Stdout) }
    ∷ []

-- no timeout; an exit at 5, settlement to 8, abandonment at 13
abbrev left : List ℕ → (clock : ℕ) → List Beat
left ticks clock = record { ticks = []; clock = 5; entry = call (Call.launched (Ok tt)) }
    ∷ record { ticks = []; clock = 5; entry = call (Call.exited 5 None) }
    ∷ record { ticks = ticks; clock = clock; entry = call Call.deadline }
    ∷ record { ticks = []; clock = clock; entry = call Call.awaits_settlement }
    ∷ record { ticks = []; clock = clock; entry = call (Call.read_allowance Stdout) }
    ∷ []

abbrev told : List ℕ → (clock : ℕ) → List Answer
told ticks clock = answers_of (amid (begins short) (polled (seen ticks clock)))

abbrev told_left : List ℕ → (clock : ℕ) → List Answer
told_left ticks clock = answers_of (amid (begins (timed None 5 3)) (polled (left ticks clock)))

abbrev told_of : Option ℕ → ℕ → List Answer
told_of timeout tick = answers_of (amid (begins (timed timeout 1 0)) (polled (seen (tick ∷ []) tick)))

-- cancelled at 12 besides, so that grace ends at 17 and give-up comes at 20; and the next request then
abbrev lately : List ℕ → Answer
lately ticks =
    Step.answer (after_ticks (after_entries (begins (timed None 5 3)) (call (Call.launched (Ok tt))
    ∷ call (Call.exited 5 None)
    ∷ call (Call.cancel 12 (record { id = 7; generation = 2 }) Cause.Cancelled)
    ∷ [])) ticks) Call.next_request

abbrev running : List Answer
running = Call.Time (Some 10) ∷ Call.Nothing ∷ Call.Value 1 ∷ []

-- the timeout has come
abbrev timed_out : Option ℕ → (allowance : ℕ) → List Answer
timed_out next allowance = Call.Time next ∷ Call.Asks (Call.Terminate Cause.TimedOut) ∷ Call.Value allowance ∷ []

abbrev after : Option ℕ → (awaited : Bool) (allowance : ℕ) → List Answer
after next awaited allowance = Call.Ok ∷ Call.Ok ∷ Call.Time next ∷ Call.Truth awaited ∷ Call.Value allowance ∷ []

pub record Computed : Type 0 where
  -- by a clock at 9: no tick, and one before the deadline, are alike; one at the deadline is not, as it is later than the clock
  pub before_it : (told [] 9 ≡ running) × (told (9 ∷ []) 9 ≡ running) × (told (10 ∷ []) 9 ≡ timed_out (Some 15) 1)
  -- by a clock at 11: a tick at the deadline is in time; none, and one that is later than the deadline, are not
  pub after_it : (told (10 ∷ []) 11 ≡ timed_out (Some 15) 1) × (told [] 11 ≡ running) × (told (11 ∷ []) 11 ≡ timed_out (Some 16) 1)
  -- the end of grace and give-up, each before it and at it
  pub grace : (told (10 ∷ 14 ∷ []) 14 ≡ timed_out (Some 15) 1) × (told (10 ∷ 15 ∷ []) 15 ≡ timed_out (Some 18) 0)
  pub give_up_lem : (told (10 ∷ 15 ∷ 17 ∷ []) 17 ≡ timed_out (Some 18) 0) × (told (10 ∷ 15 ∷ 18 ∷ []) 18 ≡ timed_out None 0)
  -- settlement and abandonment likewise
  pub settlement : (told_left [] 7 ≡ after (Some 8) true 1) × (told_left (7 ∷ []) 7 ≡ after (Some 8) true 1) × (told_left (8 ∷ []) 8 ≡ after (Some 13) false 1)
  pub abandonment : (told_left (8 ∷ 12 ∷ []) 12 ≡ after (Some 13) false 1) × (told_left (8 ∷ 13 ∷ []) 13 ≡ after None false 0)
  -- a timeout of 0, and one at the last instant, after which no grace can end
  pub ends : (told_of (Some 0) 0 ≡ timed_out (Some 1) 1) × (told_of (Some 18446744073709551615) 18446744073709551614 ≡ Call.Time (Some 18446744073709551615) ∷ Call.Nothing ∷ Call.Value 1 ∷ [])
      × (told_of (Some 18446744073709551615) 18446744073709551615 ≡ timed_out None 1)
  -- who ticks at the reported deadlines alone ticks at these
  pub deadlines : at_deadlines (begins short) (seen [] 100) ≡ seen (10 ∷ 15 ∷ 18 ∷ []) 100
  -- late ticks differ for other timers too: abandonment at 13 closes the streams before grace ends at 17, which then has none to discard
  pub late : (lately (13 ∷ 17 ∷ 20 ∷ []) ≡ Call.Nothing) × (lately (20 ∷ []) ≡ Call.Asks (Call.Discard Stdout))

pub computed : Computed
unfolding Step.next Step.answer next_entry answer_entry Calls.«open» Calls.tick Calls.deadline Calls.next_request Calls.launched Calls.exited Calls.cancel Calls.awaits_settlement Calls.read_allowance Range.fresh Range.stop Range.stop_at Range.in_range output_fits bytes_with admits Life.close_runner_input Life.end_grace Life.give_up Life.abandon_launch Life.abandon_open_streams Life.begin_termination Life.terminate Life.pass_grace Life.pass_timeout Life.pass_settlement Life.give_up_unless_clean Life.pass_give_up Life.drop_launch Life.drop_streams Life.pass_abandonment Life.fire Life.ticked Life.deadline_of Life.cancel_next Life.note_started Life.note_launch Life.launched_next Life.note_exit Life.note_exit_once Life.exited_next Streams.read_allowance_of Message.wish_for Message.wish Message.wish_effect has_notes
computed = record {
  before_it = (refl, refl, refl);
  after_it = (refl, refl, refl);
  grace = (refl, refl);
  give_up_lem = (refl, refl);
  settlement = (refl, refl, refl);
  abandonment = (refl, refl);
  ends = (refl, refl, refl);
  deadlines = refl;
  late = (refl, refl);
}

-- so that is what one hears who ticks at every instant from 0 to 100
pub at_instants : answers_of (amid (begins short) (polled (at_every_instant (seen [] 100)))) ≡ told (10 ∷ 15 ∷ 18 ∷ []) 100
at_instants =
    ap answers_of (sym ((polls short 0 (0 ∷ 0 ∷ 0 ∷ []) []).both (seen [] 100))) ∙ ap (λ (bs : List Beat). answers_of (amid (begins short) (polled bs))) computed.deadlines

-- ---- a deadline that a frame sets: RST_STREAM read at 4, give-up at 7, however late the clock

abbrev cut : List ℕ → List Beat
cut ticks = record { ticks = []; clock = 4; entry = read_frame 4 1 reset } ∷ record { ticks = ticks; clock = 100; entry = framed } ∷ []

pub cut_due : at_deadlines (begins short) (cut []) ≡ cut (7 ∷ [])
unfolding Step.next Step.answer next_entry Calls.«open» Calls.tick Calls.deadline Calls.reset Range.fresh Range.stop Range.in_range output_fits bytes_with Life.end_grace Life.give_up Life.begin_termination Life.terminate Life.pass_grace Life.pass_timeout Life.pass_settlement Life.give_up_unless_clean Life.pass_give_up Life.pass_abandonment Life.fire Life.ticked Life.deadline_of Life.silenced Life.give_up_soon Life.cut_off Life.cut_off_once Life.detach_next number_at be32_at be24_at Carrier.admitted Carrier.accepted Framing.number31_at Framing.is_whole Framing.stream_of Framing.of_four Framing.kinded Framing.on_stream Framing.read Frames.made Frames.parsed_read Frames.read_frame has_notes
cut_due = refl
