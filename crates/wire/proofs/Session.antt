-- A session over channel 1, computed from the definitions: the bytes that stand on the wire, and what its peer hears. So the claim is
-- not of lists that cannot be. And a second one with the same bytes, whose Terminal reports stdout truncated: the wire does not tell.
use Rattle.std.specs.Prelude.{None}
use mathlib.Core.Bool.{true, false}
use mathlib.Core.Path.{◌≡◌, refl, ◌∙◌}
use mathlib.Core.List.{List, [], ◌∷◌, ◌++◌}
use Prim.Native.Nat.{ℕ, ◌≤◌}
use native.Mathlib.Omega.{arith}
use lib.IntN.{pos}
use lib.ListN.{length}
use Rattle.exec.specs.declared.Outcome.{Outcome}
use Rattle.exec.specs.declared.Status.TheVariants as Status
use Rattle.exec.specs.declared.Stream.TheVariants.{Stdout, Stderr}
use Rattle.exec.specs.Key.{admits}
use Rattle.exec.specs.Limits.{cost, bytes_with, has_notes}
use Rattle.ring.specs.Ring.{wrap, ring_read, ring_from, ring_write}
use Rattle.ring.specs.Runs.{copied}
use Rattle.octets.specs.Bytes.{number_at, be32_at}
use Rattle.octets.specs.Text as Text
use Rattle.choice.specs.Order.{if_else, order}
use Rattle.output.specs.Output.{output_fits}
use Rattle.codec.specs.Codec as Codec
use Rattle.exits.specs.Exit as Exits
use Rattle.runner.specs.Calls as Calls
use Rattle.runner.specs.Life as Life
use Rattle.runner.specs.Message as Message
use Rattle.runner.specs.Range as Range
use Rattle.runner.specs.Streams as Streams
use Rattle.carrier.specs.Carrier as Carrier
use Rattle.channel.specs.Calls as Channel
use Rattle.calls.specs.Call as Call
use Rattle.account.specs.Step as Step
use Rattle.account.specs.Records.{Entry, call, next_entry, answer_entry, after_entries}
use Rattle.account.proofs.TurnSession.{channel, zeros, written, records, zero_status, zero_closes, complete, channel_opens, channel_terminal, channel_taken}
use Rattle.wire.specs.Heard.{AllOf, joined, wire}
use Rattle.wire.specs.Channel.{on_wire, Window, Bytes, Eof, Exit, Close, bytes_in, heard}
use Rattle.wire.specs.Claim.{OfChannel, Lone, heard_of}
use Rattle.wire.proofs.Wire.{wired}

-- its entries, with the record of Terminal behind them
abbrev pub entries : List Entry
entries = records zero_status ++ (written ∷ [])

-- Credit of 8; Started writes nothing; "abc" of stdout, "xy" of stderr, "de" of stdout; InputClosed and the first End write nothing; the
-- second; the status 0; CLOSE
abbrev pub packets : List (List ℕ)
packets = (93 ∷ 0 ∷ 0 ∷ 0 ∷ 1 ∷ 0 ∷ 0 ∷ 0 ∷ 8 ∷ [])
    ∷ (94 ∷ 0 ∷ 0 ∷ 0 ∷ 1 ∷ 0 ∷ 0 ∷ 0 ∷ 3 ∷ 97 ∷ 98 ∷ 99 ∷ [])
    ∷ (95 ∷ 0 ∷ 0 ∷ 0 ∷ 1 ∷ 0 ∷ 0 ∷ 0 ∷ 1 ∷ 0 ∷ 0 ∷ 0 ∷ 2 ∷ 120 ∷ 121 ∷ [])
    ∷ (94 ∷ 0 ∷ 0 ∷ 0 ∷ 1 ∷ 0 ∷ 0 ∷ 0 ∷ 2 ∷ 100 ∷ 101 ∷ [])
    ∷ (96 ∷ 0 ∷ 0 ∷ 0 ∷ 1 ∷ [])
    ∷ (98 ∷ 0 ∷ 0 ∷ 0 ∷ 1 ∷ 0 ∷ 0 ∷ 0 ∷ 11 ∷ 101 ∷ 120 ∷ 105 ∷ 116 ∷ 45 ∷ 115 ∷ 116 ∷ 97 ∷ 116 ∷ 117 ∷ 115 ∷ 0 ∷ 0 ∷ 0 ∷ 0 ∷ 0 ∷ [])
    ∷ (97 ∷ 0 ∷ 0 ∷ 0 ∷ 1 ∷ [])
    ∷ []

-- the same, where the program reported a byte of stdout discarded
abbrev pub lossy : List Entry
lossy = call (Call.discarded Stdout 1) ∷ records zero_status

abbrev pub cut : Outcome
cut = record {
  status = zero_status;
  cause = None;
  launch_failure = None;
  stdout_truncated = true;
  stderr_truncated = false;
  notes_truncated = false;
  reusable = true;
}

computed : (wire on_wire (Step.opened channel 0 (zeros 16) []) entries ≡ packets)
    × (wire on_wire (Step.opened channel 0 (zeros 16) []) (lossy ++ (written ∷ [])) ≡ packets)
    × (answer_entry (after_entries (Step.opened channel 0 (zeros 16) []) lossy) written ≡ Call.Says (Call.Terminal cut))
unfolding next_entry on_wire Step.next Calls.«open» Calls.launched Calls.output Calls.output_closed Calls.exited Calls.settled Calls.next_message Calls.credit Range.fresh Range.stop Range.stop_at Range.in_range output_fits bytes_with admits cost wrap ring_read ring_from ring_write copied if_else order Life.close_runner_input Life.pass_grace Life.pass_timeout Life.pass_settlement Life.pass_give_up Life.pass_abandonment Life.fire Life.ticked Life.note_started Life.note_launch Life.launched_next Life.note_exit Life.note_exit_once Life.exited_next Life.settled_next Life.is_ready Life.outcome_of Message.sendable_of Message.choose Message.output_paid Message.output_sent Message.effect Message.payload Message.buffer_after Message.said_for Streams.output_taken Streams.output_next Streams.output_store Streams.output_took Streams.closed_next Streams.credit_in Streams.credit_answer Streams.credit_next number_at be32_at Carrier.admitted Channel.made Channel.parsed_read Carrier.accepted Channel.read_record Channel.sent_as Channel.sent_buffer Carrier.wrote Carrier.wrote_buffer Carrier.told Carrier.asked Channel.is_left Carrier.sent Carrier.readied Carrier.written Carrier.write Channel.write_record Codec.header Codec.bytes_of Codec.laid_record Codec.kinded Codec.fitting Codec.checked Codec.read Exits.ending Exits.request Exits.is_untold Exits.is_told Text.bytes answer_entry Calls.discarded Streams.discarded_next has_notes
computed = (refl, refl, refl)

pub session : wire on_wire (Step.opened channel 0 (zeros 16) []) entries ≡ packets
session = computed.0

-- THE WIRE DOES NOT TELL TRUNCATION: these bytes too, and a stream that is truncated
pub blind : (wire on_wire (Step.opened channel 0 (zeros 16) []) (lossy ++ (written ∷ [])) ≡ packets)
    × (answer_entry (after_entries (Step.opened channel 0 (zeros 16) []) lossy) written ≡ Call.Says (Call.Terminal cut))
blind = (computed.1, computed.2)

-- what its peer hears
pub session_heard : heard 1 packets ≡ Window 8 ∷ Bytes Stdout (97 ∷ 98 ∷ 99 ∷ []) ∷ Bytes Stderr (120 ∷ 121 ∷ []) ∷ Bytes Stdout (100 ∷ 101 ∷ []) ∷ Eof ∷ Exit (Status.Exited (pos 0)) ∷ Close ∷ []
unfolding Codec.kinded Codec.fitting Codec.checked Codec.read Exits.read Exits.matching Exits.guess Exits.request Exits.is_told Text.bytes Text.same number_at be32_at
session_heard = refl

-- and what the claim says of it: with stores of any content the peer has all that the program handed over
lone : AllOf (Lone 1) (records zero_status)
lone = (refl, (tt, (refl, (refl, (refl, (refl, (refl, (refl, (refl, (refl, (refl, (refl, (refl, (refl, (refl, (refl, (refl, tt)))))))))))))))))

of_channel : OfChannel channel 1
of_channel = record { limits = refl; chunk = omega arith; input = omega arith; number = omega arith }

pub session_whole : (bytes lengths : List ℕ) → 16 ≤ length bytes
    → (joined (bytes_in Stdout) (heard_of channel 0 bytes lengths 1 (records zero_status)) ≡ 97 ∷ 98 ∷ 99 ∷ 100 ∷ 101 ∷ [])
    × (joined (bytes_in Stderr) (heard_of channel 0 bytes lengths 1 (records zero_status)) ≡ 120 ∷ 121 ∷ [])
session_whole bytes lengths h =
    let told = zero_closes.2 in
    let w = (wired channel 0 bytes lengths 1 (channel_opens zero_status bytes lengths h) of_channel).whole (records zero_status) written complete in
    let e = channel_terminal zero_status bytes lengths h told in
    let t = channel_taken zero_status bytes lengths h told in
    (w Stdout lone e refl ∙ t.0, w Stderr lone e refl ∙ t.1)
