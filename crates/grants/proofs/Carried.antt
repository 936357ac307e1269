-- The same over a channel and over frames, computed from the definitions: a window's adjust, or its update, comes once four units are due,
-- and then has all of them.
use Rattle.std.specs.Prelude.{true, ◌≡◌, refl, List, [], ◌∷◌, ℕ, zero, suc}
use Rattle.exec.specs.declared.Limits.{Limits}
use Rattle.exec.specs.Key.{admits}
use Rattle.exec.specs.Limits.{bytes_window, bytes_with, limits_for, cost, has_notes}
use Rattle.ring.specs.Ring.{ring_write, ring_from, wrap}
use Rattle.ring.specs.Runs.{copied}
use Rattle.octets.specs.Bytes.{number_at, be32_at, be24_at}
use Rattle.input.specs.Input as Input
use Rattle.output.specs.Output.{output_fits}
use Rattle.choice.specs.Order.{if_else, order}
use Rattle.codec.specs.Codec as Codec
use Rattle.framing.specs.Framing as Framing
use Rattle.runner.specs.Calls as Calls
use Rattle.runner.specs.Life as Life
use Rattle.runner.specs.Message as Message
use Rattle.runner.specs.Range as Range
use Rattle.runner.specs.Streams as Streams
use Rattle.carrier.specs.Carrier as Carrier
use Rattle.channel.specs.Calls as Channel
use Rattle.frames.specs.Calls as Frames
use Rattle.calls.specs.Call as Call
use Rattle.calls.specs.Call.{Answer}
use Rattle.account.specs.Step as Step
use Rattle.account.specs.Records.{Entry, read_record, write_record, read_frame, write_frame, next_entry, answer_entry}
use Rattle.grants.proofs.Session.{at_once, in_bytes, told, takes, credit}

abbrev zeros : ℕ → List ℕ
zeros zero = []
zeros (suc n) = 0 ∷ zeros n

-- 01's limits, of a channel
abbrev shared : Limits
shared = limits_for 4 (bytes_window 8) (bytes_window 8) true

-- four bytes come in, three are taken and then the last, and whatever is next goes out
abbrev session : (comes goes : Entry) → List Entry
session comes goes = goes ∷ comes ∷ takes 3 ∷ goes ∷ takes 1 ∷ goes ∷ goes ∷ []

abbrev answers : List Answer
answers = credit 8 ∷ Call.Applied ∷ Call.Came 0 ∷ Call.Nothing ∷ Call.Came 0 ∷ credit 4 ∷ Call.Nothing ∷ []

by_records : told (at_once shared 4) (session (read_record 0 5 (94 ∷ 0 ∷ 0 ∷ 0 ∷ 5 ∷ 0 ∷ 0 ∷ 0 ∷ 4 ∷ 97 ∷ 98 ∷ 99 ∷ 100 ∷ [])) (write_record 5 (zeros 43))) ≡ answers
unfolding next_entry answer_entry Step.next Step.answer Calls.«open» Calls.next_message Calls.input Calls.input_written Range.fresh Range.stop Range.in_range output_fits bytes_with admits cost wrap ring_from ring_write copied if_else order Life.is_ready Message.sendable_of Message.choose Message.effect Message.buffer_after Message.said_for Streams.received Streams.input_answer Streams.input_next Streams.input_store Streams.input_lengths Streams.written_next Streams.written_came Streams.written_lengths Input.receive_answer Input.receive_input Input.receive_bytes Input.receive_lengths Input.written_input Input.written_came Input.written_lengths number_at be32_at Carrier.admitted Carrier.accepted Carrier.wrote Carrier.wrote_buffer Carrier.told Carrier.asked Carrier.sent Carrier.readied Carrier.written Carrier.write Channel.made Channel.parsed_read Channel.read_record Channel.sent_as Channel.sent_buffer Channel.is_left Channel.write_record Codec.header Codec.bytes_of Codec.laid_record Codec.kinded Codec.fitting Codec.checked Codec.read has_notes
by_records = refl

by_frames : told (at_once in_bytes 4) (session (read_frame 0 1 (0 ∷ 0 ∷ 4 ∷ 0 ∷ 0 ∷ 0 ∷ 0 ∷ 0 ∷ 1 ∷ 97 ∷ 98 ∷ 99 ∷ 100 ∷ [])) (write_frame 1 (zeros 43))) ≡ answers
unfolding next_entry answer_entry Step.next Step.answer Calls.«open» Calls.next_message Calls.input Calls.input_written Range.fresh Range.stop Range.in_range output_fits bytes_with admits cost wrap ring_from ring_write copied if_else order Life.is_ready Message.sendable_of Message.choose Message.effect Message.buffer_after Message.said_for Streams.received Streams.input_answer Streams.input_next Streams.input_store Streams.input_lengths Streams.written_next Streams.written_came Streams.written_lengths Input.receive_answer Input.receive_input Input.receive_bytes Input.receive_lengths Input.written_input Input.written_came Input.written_lengths number_at be32_at be24_at Carrier.admitted Carrier.accepted Carrier.wrote Carrier.wrote_buffer Carrier.told Carrier.asked Carrier.sent Carrier.readied Carrier.written Carrier.write Frames.made Frames.data_made Frames.then_end Frames.parsed_read Frames.read_frame Frames.sent_as Frames.laid Frames.write_frame Framing.header Framing.bytes_of Framing.is_whole Framing.number31_at Framing.stream_of Framing.data_in Framing.of_four Framing.kinded Framing.on_stream Framing.read has_notes
by_frames = refl
