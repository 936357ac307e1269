-- Sessions on the streams 1 and 3, computed from the definitions: the bytes that stand on the wire, and what its peer hears. So the claim
-- is not of lists that cannot be, and the bytes are pinned. A second one has the same bytes, and its Terminal reports stdout truncated:
-- the wire does not tell. A third is broken off by the peer, and a fourth when stdout had ended.
use Rattle.std.specs.Prelude.{true, Ok}
use mathlib.Core.Path.{◌≡◌, refl, sym, ap, ◌∙◌}
use mathlib.Core.List.{List, [], ◌∷◌, ◌++◌}
use Prim.Native.Nat.{ℕ, ◌+◌}
use native.Mathlib.Omega.{arith}
use Rattle.exec.specs.declared.Settlement.TheVariants as Settlement
use Rattle.exec.specs.declared.Stream.{Stream}
use Rattle.exec.specs.declared.Stream.TheVariants.{Stdout, Stderr}
use Rattle.exec.specs.Key.{admits}
use Rattle.exec.specs.Limits.{cost, bytes_with, has_notes, has}
use Rattle.ring.specs.Ring.{wrap, ring_read, ring_from, ring_write}
use Rattle.ring.specs.Runs.{copied}
use Rattle.octets.specs.Bytes.{number_at, be32_at, be24_at}
use Rattle.choice.specs.Order.{if_else, order}
use Rattle.output.specs.Output.{output_fits}
use Rattle.framing.specs.Framing as Framing
use Rattle.runner.specs.Calls as Calls
use Rattle.runner.specs.Life as Life
use Rattle.runner.specs.Message as Message
use Rattle.runner.specs.Range as Range
use Rattle.runner.specs.Streams as Streams
use Rattle.carrier.specs.Carrier as Carrier
use Rattle.frames.specs.Calls as Frames
use Rattle.frames.specs.Calls.{is_framed}
use Rattle.calls.specs.Call as Call
use Rattle.account.specs.Claim.{terminal_message}
use Rattle.account.specs.Step as Step
use Rattle.account.specs.Step.{State}
use Rattle.account.specs.Records.{Entry, call, read_frame, write_frame, next_entry, answer_entry, after_entries, run_entries}
use Rattle.account.specs.TurnClaim.{taken_in}
use Rattle.account.proofs.Session.{conf, open_ok}
use Rattle.account.proofs.TurnSession.{zeros, zero_status, complete}
use Rattle.wire.specs.Messages.{said, any}
use Rattle.wire.specs.Heard.{AllOf, joined, count, wire}
use Rattle.wire.proofs.Session.{cut}
use Rattle.peer.specs.Framed.{on_wire, cut_by, Window, Bytes, Ended, Reset, bytes_in, is_ended, is_reset, heard}
use Rattle.peer.specs.Claim.{Lone, heard_of, Peer}
use Rattle.peer.proofs.Peer.{known}

-- a message into 43 bytes, on the streams 1 and 3
abbrev written : Entry
written = write_frame 1 (zeros 43)

-- WINDOW_UPDATE of 8 bytes
abbrev adjust : (id : ℕ) → Entry
adjust id = read_frame 0 1 (0 ∷ 0 ∷ 4 ∷ 8 ∷ 0 ∷ 0 ∷ 0 ∷ 0 ∷ id ∷ 0 ∷ 0 ∷ 0 ∷ 8 ∷ [])

-- ---- a program that ends by itself

abbrev pub entries : List Entry
entries = call (Call.launched (Ok tt))
    ∷ adjust 1
    ∷ adjust 3
    ∷ call (Call.output Stdout (97 ∷ 98 ∷ 99 ∷ []))
    ∷ call (Call.output Stderr (120 ∷ 121 ∷ []))
    ∷ written
    ∷ written
    ∷ written
    ∷ written
    ∷ call (Call.output Stdout (100 ∷ 101 ∷ []))
    ∷ written
    ∷ call (Call.output_closed Stdout)
    ∷ call (Call.output_closed Stderr)
    ∷ call (Call.exited 20 zero_status)
    ∷ call (Call.settled Settlement.Settled)
    ∷ written
    ∷ written
    ∷ written
    ∷ []

-- Credit of 8; Started writes nothing; "abc" of stdout, "xy" of stderr, "de" of stdout; InputClosed writes nothing; the two Ends; nor does
-- Terminal, as both were told
abbrev pub bytes : List ℕ
bytes = (0 ∷ 0 ∷ 4 ∷ 8 ∷ 0 ∷ 0 ∷ 0 ∷ 0 ∷ 1 ∷ 0 ∷ 0 ∷ 0 ∷ 8 ∷ [])
    ++ (0 ∷ 0 ∷ 3 ∷ 0 ∷ 0 ∷ 0 ∷ 0 ∷ 0 ∷ 1 ∷ 97 ∷ 98 ∷ 99 ∷ [])
    ++ (0 ∷ 0 ∷ 2 ∷ 0 ∷ 0 ∷ 0 ∷ 0 ∷ 0 ∷ 3 ∷ 120 ∷ 121 ∷ [])
    ++ (0 ∷ 0 ∷ 2 ∷ 0 ∷ 0 ∷ 0 ∷ 0 ∷ 0 ∷ 1 ∷ 100 ∷ 101 ∷ [])
    ++ (0 ∷ 0 ∷ 0 ∷ 0 ∷ 1 ∷ 0 ∷ 0 ∷ 0 ∷ 1 ∷ [])
    ++ (0 ∷ 0 ∷ 0 ∷ 0 ∷ 1 ∷ 0 ∷ 0 ∷ 0 ∷ 3 ∷ [])

-- the same, where the program reported a byte of stdout discarded
abbrev pub lossy : List Entry
lossy = call (Call.discarded Stdout 1) ∷ entries

-- ---- one that the peer breaks off

-- RST_STREAM on stream 3, at 5
abbrev broken_off : Entry
broken_off = read_frame 5 1 (0 ∷ 0 ∷ 4 ∷ 3 ∷ 0 ∷ 0 ∷ 0 ∷ 0 ∷ 3 ∷ 0 ∷ 0 ∷ 0 ∷ 8 ∷ [])

abbrev pub broken : List Entry
broken = call (Call.launched (Ok tt))
    ∷ adjust 1
    ∷ call (Call.output Stdout (97 ∷ 98 ∷ 99 ∷ []))
    ∷ written
    ∷ written
    ∷ written
    ∷ broken_off
    ∷ call (Call.output_closed Stdout)
    ∷ call (Call.output_closed Stderr)
    ∷ call (Call.exited 6 zero_status)
    ∷ call (Call.settled Settlement.Settled)
    ∷ written
    ∷ []

-- Credit, "abc", and Terminal's two resets, by CANCEL
abbrev pub broken_bytes : List ℕ
broken_bytes = (0 ∷ 0 ∷ 4 ∷ 8 ∷ 0 ∷ 0 ∷ 0 ∷ 0 ∷ 1 ∷ 0 ∷ 0 ∷ 0 ∷ 8 ∷ [])
    ++ (0 ∷ 0 ∷ 3 ∷ 0 ∷ 0 ∷ 0 ∷ 0 ∷ 0 ∷ 1 ∷ 97 ∷ 98 ∷ 99 ∷ [])
    ++ (0 ∷ 0 ∷ 4 ∷ 3 ∷ 0 ∷ 0 ∷ 0 ∷ 0 ∷ 1 ∷ 0 ∷ 0 ∷ 0 ∷ 8 ∷ [])
    ++ (0 ∷ 0 ∷ 4 ∷ 3 ∷ 0 ∷ 0 ∷ 0 ∷ 0 ∷ 3 ∷ 0 ∷ 0 ∷ 0 ∷ 8 ∷ [])

-- ---- the same, where stdout had ended: its End was told

abbrev pub half : List Entry
half = call (Call.launched (Ok tt))
    ∷ written
    ∷ written
    ∷ call (Call.output_closed Stdout)
    ∷ written
    ∷ broken_off
    ∷ call (Call.output_closed Stderr)
    ∷ call (Call.exited 6 zero_status)
    ∷ call (Call.settled Settlement.Settled)
    ∷ written
    ∷ []

-- Credit, the end of stream 1, and Terminal's one reset, of stream 3
abbrev pub half_bytes : List ℕ
half_bytes = (0 ∷ 0 ∷ 4 ∷ 8 ∷ 0 ∷ 0 ∷ 0 ∷ 0 ∷ 1 ∷ 0 ∷ 0 ∷ 0 ∷ 8 ∷ [])
    ++ (0 ∷ 0 ∷ 0 ∷ 0 ∷ 1 ∷ 0 ∷ 0 ∷ 0 ∷ 1 ∷ [])
    ++ (0 ∷ 0 ∷ 4 ∷ 3 ∷ 0 ∷ 0 ∷ 0 ∷ 0 ∷ 3 ∷ 0 ∷ 0 ∷ 0 ∷ 8 ∷ [])

-- ---- the bytes

abbrev begins : State
begins = Step.opened conf 0 (zeros 16) []

computed : (wire on_wire begins entries ≡ bytes)
    × (wire on_wire begins (entries ++ (written ∷ [])) ≡ bytes)
    × (answer_entry (after_entries begins entries) written ≡ Call.Says (Call.Terminal complete))
    × (wire on_wire begins (lossy ++ (written ∷ [])) ≡ bytes)
    × (answer_entry (after_entries begins lossy) written ≡ Call.Says (Call.Terminal cut))
    × (wire on_wire begins broken ≡ broken_bytes)
    × (any terminal_message (said conf 0 (zeros 16) [] broken) ≡ true)
    × (wire on_wire begins half ≡ half_bytes)
unfolding next_entry on_wire Step.next Step.answer Calls.«open» Calls.launched Calls.output Calls.output_closed Calls.exited Calls.settled Calls.reset Calls.next_message Calls.credit Range.fresh Range.stop Range.stop_at Range.in_range output_fits bytes_with admits cost wrap ring_read ring_from ring_write copied if_else order Life.close_runner_input Life.end_grace Life.give_up Life.begin_termination Life.pass_grace Life.terminate Life.pass_timeout Life.pass_settlement Life.give_up_unless_clean Life.pass_give_up Life.drop_launch Life.drop_streams Life.pass_abandonment Life.fire Life.ticked Life.note_started Life.note_launch Life.launched_next Life.note_exit Life.note_exit_once Life.exited_next Life.settled_next Life.silenced Life.give_up_soon Life.cut_off Life.cut_off_once Life.detach_next Life.is_ready Life.outcome_of Message.sendable_of Message.choose Message.output_paid Message.output_sent Message.effect Message.payload Message.buffer_after Message.said_for Streams.output_taken Streams.output_next Streams.output_store Streams.output_took Streams.closed_next Streams.credit_in Streams.credit_answer Streams.credit_next number_at be32_at be24_at Carrier.admitted Carrier.accepted Carrier.wrote Carrier.wrote_buffer Carrier.told Carrier.asked Carrier.sent Carrier.readied Carrier.written Carrier.write Frames.made Frames.parsed_read Frames.read_frame Frames.sent_as Frames.laid Frames.write_frame Framing.header Framing.bytes_of Framing.is_whole Framing.number31_at Framing.stream_of Framing.data_in Framing.of_four Framing.kinded Framing.on_stream Framing.read answer_entry Calls.discarded Streams.discarded_next has_notes
computed = (refl, refl, refl, refl, refl, refl, refl, refl)

pub session : (wire on_wire begins entries ≡ bytes) × (wire on_wire begins (entries ++ (written ∷ [])) ≡ bytes)
session = (computed.0, computed.1)

-- THE WIRE DOES NOT TELL TRUNCATION: these bytes too, with both streams ended by END_STREAM, and one that is truncated
pub blind : (wire on_wire begins (lossy ++ (written ∷ [])) ≡ bytes) × (answer_entry (after_entries begins lossy) written ≡ Call.Says (Call.Terminal cut))
blind = (computed.3, computed.4)

pub session_broken : wire on_wire begins broken ≡ broken_bytes
session_broken = computed.5

pub session_half : wire on_wire begins half ≡ half_bytes
session_half = computed.7

-- ---- what its peer hears

pub session_heard : heard 1 bytes ≡ Window 8 ∷ Bytes Stdout (97 ∷ 98 ∷ 99 ∷ []) ∷ Bytes Stderr (120 ∷ 121 ∷ []) ∷ Bytes Stdout (100 ∷ 101 ∷ []) ∷ Ended Stdout ∷ Ended Stderr ∷ []
unfolding cut_by number_at be32_at be24_at Framing.is_whole Framing.number31_at Framing.stream_of Framing.data_in Framing.of_four Framing.kinded Framing.on_stream Framing.read
session_heard = refl

pub broken_heard : heard 1 broken_bytes ≡ Window 8 ∷ Bytes Stdout (97 ∷ 98 ∷ 99 ∷ []) ∷ Reset Stdout ∷ Reset Stderr ∷ []
unfolding cut_by number_at be32_at be24_at Framing.is_whole Framing.number31_at Framing.stream_of Framing.data_in Framing.of_four Framing.kinded Framing.on_stream Framing.read
broken_heard = refl

-- ---- and what the claim says of it

lone : AllOf (Lone 1) entries
lone = (refl, (tt, (tt, (refl, (refl, (refl, (refl, (refl, (refl, (refl, (refl, (refl, (refl, (refl, (refl, (refl, (refl, (refl, tt))))))))))))))))))

claimed : Peer conf 0 (zeros 16) [] 1
unfolding has_notes
claimed = known conf 0 (zeros 16) [] 1 (open_ok (zeros 16) [] (omega arith)) refl

-- the peer has all that the program handed over
pub session_whole : (taken_in Stdout (run_entries begins entries) ≡ 97 ∷ 98 ∷ 99 ∷ 100 ∷ 101 ∷ []) × (taken_in Stderr (run_entries begins entries) ≡ 120 ∷ 121 ∷ [])
session_whole = (
  sym (claimed.whole entries written complete Stdout lone computed.2 refl) ∙ ap (λ (b : List ℕ). joined (bytes_in Stdout) (heard 1 b)) computed.0 ∙ ap (joined (bytes_in Stdout)) session_heard,
  sym (claimed.whole entries written complete Stderr lone computed.2 refl) ∙ ap (λ (b : List ℕ). joined (bytes_in Stderr) (heard 1 b)) computed.0 ∙ ap (joined (bytes_in Stderr)) session_heard,
)

-- each stream was broken off once, and did not end
lone_broken : AllOf (Lone 1) broken
lone_broken = (refl, (tt, (refl, (refl, (refl, (refl, (tt, (refl, (refl, (refl, (refl, (refl, tt))))))))))))

pub broken_over : (x : Stream) → has conf.limits x ≡ true → count (is_ended x) (heard_of conf 0 (zeros 16) [] 1 broken) + count (is_reset x) (heard_of conf 0 (zeros 16) [] 1 broken) ≡ 1
broken_over x o = claimed.over broken x o lone_broken computed.6
