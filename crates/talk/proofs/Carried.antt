-- Sessions that are computed from the definitions, whose credit and messages are carried by records, and by frames: as the judge is told of
-- them.
use Rattle.std.specs.Prelude.{◌≡◌, refl, List, [], ◌∷◌, ◌++◌, ℕ, ◌≤◌, length}
use Rattle.exec.specs.declared.Pool.TheVariants as Pool
use Rattle.exec.specs.declared.Stream.TheVariants.{Stdout, Stderr}
use Rattle.exec.specs.Key.{admits}
use Rattle.exec.specs.Limits.{cost, bytes_with, has_notes}
use Rattle.ring.specs.Ring.{wrap, ring_read, ring_from, ring_write}
use Rattle.ring.specs.Runs.{copied}
use Rattle.octets.specs.Bytes.{number_at, be32_at, be24_at}
use Rattle.octets.specs.Text as Text
use Rattle.input.specs.Input as Input
use Rattle.choice.specs.Order.{if_else, order}
use Rattle.output.specs.Output.{output_fits}
use Rattle.framing.specs.Framing as Framing
use Rattle.codec.specs.Codec as Codec
use Rattle.exits.specs.Exit as Exits
use Rattle.runner.specs.Calls as Calls
use Rattle.runner.specs.Life as Life
use Rattle.runner.specs.Message as Message
use Rattle.runner.specs.Range as Range
use Rattle.runner.specs.Streams as Streams
use Rattle.carrier.specs.Carrier as Carrier
use Rattle.channel.specs.Calls as Channel
use Rattle.frames.specs.Calls as Frames
use Rattle.account.specs.Step as Step
use Rattle.account.specs.Records.{Entry, read_frame, write_frame, next_entry, answer_entry, made, call_of, frame_calls}
use Rattle.account.proofs.Session.{conf, open_ok}
use Rattle.account.proofs.TurnSession.{channel, zeros, written, records, zero_status, channel_opens}
use Rattle.peer.proofs.Session.{entries}
use Rattle.judge.specs.declared.Item.{Item}
use Rattle.talk.specs.TalkClaim.{told, Ours}
use Rattle.talk.proofs.Lists.{ours}

-- records of a channel: a WINDOW_ADJUST is credit on the shared pool, and every message goes out, Started and InputClosed in no bytes
by_records : told channel 0 (zeros 16) [] (records zero_status ++ (written ∷ written ∷ []))
    ≡ Item.Granted Pool.Output 8 ∷ Item.Credit 8 ∷ Item.Started ∷ Item.Output Stdout 3 ∷ Item.Output Stderr 2 ∷ Item.Output Stdout 2
    ∷ Item.InputClosed ∷ Item.End Stdout ∷ Item.End Stderr ∷ Item.Terminal ∷ []
unfolding next_entry Step.next Calls.«open» Calls.launched Calls.output Calls.output_closed Calls.exited Calls.settled Calls.next_message Calls.credit Range.fresh Range.stop Range.stop_at Range.in_range output_fits bytes_with admits cost wrap ring_read ring_from ring_write copied if_else order Life.close_runner_input Life.pass_grace Life.pass_timeout Life.pass_settlement Life.pass_give_up Life.pass_abandonment Life.fire Life.ticked Life.note_started Life.note_launch Life.launched_next Life.note_exit Life.note_exit_once Life.exited_next Life.settled_next Life.is_ready Life.outcome_of Message.sendable_of Message.choose Message.output_paid Message.output_sent Message.effect Message.payload Message.buffer_after Message.said_for Streams.output_taken Streams.output_next Streams.output_store Streams.output_took Streams.closed_next Streams.credit_in Streams.credit_answer Streams.credit_next number_at be32_at Carrier.admitted Channel.made Channel.parsed_read Carrier.accepted Channel.read_record Channel.sent_as Channel.sent_buffer Carrier.wrote Carrier.wrote_buffer Carrier.told Carrier.asked Channel.is_left Carrier.sent Carrier.readied Carrier.written Carrier.write Channel.write_record Codec.header Codec.bytes_of Codec.laid_record Codec.kinded Codec.fitting Codec.checked Codec.read Exits.ending Exits.request Exits.is_untold Exits.is_told Text.bytes answer_entry Calls.discarded Streams.discarded_next made call_of Step.answer has_notes
by_records = refl

-- frames: a message into 43 bytes on the streams 1 and 3, and DATA of two bytes that ends its stream
framed : Entry
framed = write_frame 1 (zeros 43)

data_read : Entry
data_read = read_frame 0 1 (0 ∷ 0 ∷ 2 ∷ 0 ∷ 1 ∷ 0 ∷ 0 ∷ 0 ∷ 1 ∷ 97 ∷ 98 ∷ [])

-- a WINDOW_UPDATE is credit on its stream's pool
by_frames : told conf 0 (zeros 16) [] (entries ++ (framed ∷ []))
    ≡ Item.Granted Pool.Stdout 8 ∷ Item.Granted Pool.Stderr 8 ∷ Item.Credit 8 ∷ Item.Started ∷ Item.Output Stdout 3 ∷ Item.Output Stderr 2
    ∷ Item.Output Stdout 2 ∷ Item.InputClosed ∷ Item.End Stdout ∷ Item.End Stderr ∷ Item.Terminal ∷ []
unfolding framed next_entry Step.next Calls.«open» Calls.launched Calls.output Calls.output_closed Calls.exited Calls.settled Calls.next_message Calls.credit Range.fresh Range.stop Range.stop_at Range.in_range output_fits bytes_with admits cost wrap ring_read ring_from ring_write copied if_else order Life.close_runner_input Life.pass_grace Life.pass_timeout Life.pass_settlement Life.pass_give_up Life.pass_abandonment Life.fire Life.ticked Life.note_started Life.note_launch Life.launched_next Life.note_exit Life.note_exit_once Life.exited_next Life.settled_next Life.is_ready Life.outcome_of Message.sendable_of Message.choose Message.output_paid Message.output_sent Message.effect Message.payload Message.buffer_after Message.said_for Streams.output_taken Streams.output_next Streams.output_store Streams.output_took Streams.closed_next Streams.credit_in Streams.credit_answer Streams.credit_next number_at be32_at Carrier.admitted Carrier.accepted Carrier.wrote Carrier.wrote_buffer Carrier.told Carrier.asked Carrier.sent Carrier.readied Carrier.written Carrier.write answer_entry made Step.answer be24_at Frames.made Frames.parsed_read Frames.read_frame Frames.sent_as Frames.laid Frames.write_frame Framing.header Framing.bytes_of Framing.is_whole Framing.number31_at Framing.stream_of Framing.data_in Framing.of_four Framing.kinded Framing.on_stream Framing.read frame_calls Streams.received has_notes
by_frames = refl

-- DATA is an input, told once though its end is made behind it
input_by_frames : told conf 0 (zeros 16) [] (framed ∷ data_read ∷ [])
    ≡ Item.Credit 8 ∷ Item.Input 2 ∷ []
unfolding framed data_read next_entry Step.next Calls.«open» Calls.next_message Range.fresh Range.stop Range.in_range output_fits bytes_with admits cost wrap ring_read ring_from ring_write copied if_else order Message.sendable_of Message.choose Message.effect Message.buffer_after Message.said_for number_at be32_at Carrier.admitted Carrier.accepted Carrier.wrote Carrier.wrote_buffer Carrier.told Carrier.asked Carrier.sent Carrier.readied Carrier.written Carrier.write answer_entry made Step.answer be24_at Frames.made Frames.parsed_read Frames.read_frame Frames.sent_as Frames.write_frame Framing.is_whole Framing.number31_at Framing.stream_of Framing.data_in Framing.of_four Framing.kinded Framing.on_stream Framing.read frame_calls Calls.input Streams.received Streams.input_answer Streams.input_next Streams.input_store Streams.input_lengths Input.receive_answer Input.receive_input Input.receive_bytes Input.receive_lengths Calls.end_input Streams.end_answer Streams.end_next Input.end_answer Input.end_input Frames.data_made Frames.then_end has_notes
input_by_frames = refl

-- and the claim is met by such runners, of streams that share a pool and streams that do not, over any stores that do
shared_claim : (bytes lengths : List ℕ) → 16 ≤ length bytes → Ours channel 0 bytes lengths
shared_claim bytes lengths h = ours channel 0 bytes lengths (channel_opens zero_status bytes lengths h)

apart_claim : (bytes lengths : List ℕ) → 16 ≤ length bytes → Ours conf 0 bytes lengths
apart_claim bytes lengths h = ours conf 0 bytes lengths (open_ok bytes lengths h)
