-- The two record calls on a runner, each whole: 12, 10, 46, 11 and 13 first, then the record's own refusals, which all change
-- nothing, and then the call that the record makes. A record read makes one of the runner's calls; a record written is a message.
use Rattle.std.specs.Prelude.{Bool, false, cond, ◌&&◌, ◌||◌, List, ◌++◌, ℕ, ◌+◌, length, drop, Option, Result, Some, None, Ok, Err}
use Rattle.exec.specs.declared.Limits.{Limits}
use Rattle.exec.specs.declared.Pool.TheVariants as Pool
use Rattle.exec.specs.declared.Refusal.{Refusal}
use Rattle.exec.specs.declared.Refusal.TheVariants.{NotAChannel, NotInbound}
use Rattle.exec.specs.declared.Stream.{Stream}
use Rattle.runner.specs.declared.answer.Message.{Message}
use Rattle.runner.specs.declared.runner.Runner.{Runner}
use Rattle.runner.specs.Calls as Calls
use Rattle.runner.specs.Calls.{stores_do}
use Rattle.exec.specs.Stream.{same_stream, every_stream}
use Rattle.output.specs.declared.Output.{Output}
use Rattle.output.specs.Outputs.{output_in}
use Rattle.runner.specs.State.{outputs_of}
use Rattle.carrier.specs.Carrier.{is_bytes, admitted, ReadAfter, read_after, heard, noted, unread, accepted, WriteAfter, asked, Laying, Carriage, write}
use Rattle.channel.specs.declared.calls.Sending.{Sending}
use Rattle.codec.specs.declared.Record.{Record}
use Rattle.codec.specs.declared.Record.TheVariants.{Adjust, Data, Extended, Notes, Eof, Close}
use Rattle.codec.specs.Codec.{start, size, read, laid_record}
use Rattle.exits.specs.Exit.{is_untold, ending}

-- one pool for all streams, and bytes counted both ways, as on a channel of RFC 4254; any other is refused by 13
abbrev pub is_channel : Limits → Bool
is_channel l = (l.shared && is_bytes l.input.unit) && is_bytes l.output.unit

-- ---- a record read

-- the call that a record makes under the runner's own key: 93 credit on pool Output, 94 input, 96 end_input, 97 disconnect; a 95 of
-- either type none
unfoldable pub made : Record → Runner → (at : ℕ) → (s store lengths : List ℕ) → ReadAfter
made (Adjust units) r at s store lengths = read_after (heard (Calls.credit r r.key Pool.Output units)) store lengths
made (Data n) r at s store lengths =
    read_after (heard (Calls.input r r.key (drop 9 s) store lengths).hearing)
    (Calls.input r r.key (drop 9 s) store lengths).bytes (Calls.input r r.key (drop 9 s) store lengths).lengths
made (Extended n) r at s store lengths = read_after (unread NotInbound r) store lengths
made (Notes n) r at s store lengths = read_after (unread NotInbound r) store lengths
made Eof r at s store lengths = read_after (heard (Calls.end_input r r.key)) store lengths
made Close r at s store lengths = read_after (noted (Calls.disconnect r at)) store lengths

unfoldable pub parsed_read : Result Record Refusal → Runner → (at : ℕ) → (s store lengths : List ℕ) → ReadAfter
parsed_read (Ok rec) r at s store lengths = made rec r at s store lengths
parsed_read (Err x) r at s store lengths = read_after (unread x r) store lengths

-- the record s, read at an instant for a channel
unfoldable pub read_record : Runner → (at channel : ℕ) → (s store lengths : List ℕ) → ReadAfter
read_record r at channel s store lengths =
    parsed_read (accepted (admitted r (stores_do r store lengths) (is_channel r.limits) NotAChannel) (read channel s)) r at s store lengths

-- ---- a record written

abbrev pub output_record : Stream → (n : ℕ) → Record
output_record Stream.Stdout n = Data n
output_record Stream.Stderr n = Extended n
output_record Stream.Notes n = Notes n

-- the End of every other stream was told, of the outputs as they are read: that of a stream that is not open counts as told
abbrev pub last_end : List Output → Stream → Bool
last_end os x = every_stream (λ (y : Stream). same_stream x y || (output_in y os).ended)

-- what a message is sent as, where last says of which stream the End comes last: Credit 93, Output 94 or 95, the End that comes
-- last 96, Terminal the 98 of its status, if there is one, and 97; Started, InputClosed and any other End write nothing
unfoldable pub sent_as : (last : Stream → Bool) → Message → Sending
sent_as last (Message.Credit units) = Sending.Record (Adjust units)
sent_as last Message.Started = Sending.Nothing
sent_as last (Message.Output x n) = Sending.Record (output_record x n)
sent_as last (Message.End x) = cond (last x) (Sending.Record Eof) Sending.Nothing
sent_as last Message.InputClosed = Sending.Nothing
sent_as last (Message.Terminal outcome) = Sending.Ending outcome.status

-- its length, 0 where nothing is written
abbrev pub length_of : (channel : ℕ) → Sending → ℕ
length_of channel Sending.Nothing = 0
length_of channel (Sending.Record rec) = start rec + size rec
length_of channel (Sending.Ending status) = length (ending channel status)

unfoldable pub sent_buffer : (channel : ℕ) → Sending → List ℕ → List ℕ
sent_buffer channel Sending.Nothing buffer = buffer
sent_buffer channel (Sending.Record rec) buffer = laid_record channel rec buffer
sent_buffer channel (Sending.Ending status) buffer = ending channel status ++ drop (length (ending channel status)) buffer

-- how messages are laid for a channel, where last says of which stream the End comes last
abbrev pub laying : (channel : ℕ) (last : Stream → Bool) → Laying
laying channel last = record {
  size = λ (m : Message). length_of channel (sent_as last m);
  lay = λ (m : Message) (b : List ℕ). sent_buffer channel (sent_as last m) b;
}

abbrev pub is_left_message : Message → Bool
is_left_message (Message.Credit units) = false
is_left_message Message.Started = false
is_left_message (Message.Output x n) = false
is_left_message (Message.End x) = false
is_left_message Message.InputClosed = false
is_left_message (Message.Terminal outcome) = is_untold outcome.status

-- a Terminal whose status no request tells is left with the runner
unfoldable pub is_left : Result (Option Message) Refusal → Bool
is_left (Ok None) = false
is_left (Ok (Some m)) = is_left_message m
is_left (Err x) = false

-- a message is asked for from byte 13 on, where the longest header ends
abbrev pub carriage : Runner → (channel : ℕ) → (store buffer : List ℕ) → Carriage
carriage r channel store buffer = record {
  at = 13;
  carries = is_channel r.limits;
  own = NotAChannel;
  left = is_left (asked 13 r store buffer).saying.answer;
  laying = laying channel (last_end (outputs_of r));
}

-- the next record for a channel
unfoldable pub write_record : Runner → (channel : ℕ) → (store buffer : List ℕ) → WriteAfter
write_record r channel store buffer = write (carriage r channel store buffer) r store buffer
