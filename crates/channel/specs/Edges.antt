-- The twelve edges of 01 as one table, each computed from the definitions: (1) to (10) on the runner's calls, from open on, and
-- (11) and (12) on the records. An edge's own words stand above it.
use Rattle.std.specs.Prelude.{◌≡◌, refl, true, false, List, [], ◌∷◌, ◌++◌, ℕ, zero, suc, ◌-◌, ◌^◌, take, Option, Result, Some, None, Ok, Err}
use Rattle.std.proofs.Common.{arith}
use Rattle.runner.specs.declared.answer.Message.{Message}
use Rattle.exec.specs.declared.Receipt.{Receipt}
use Rattle.exec.specs.declared.Cause.TheVariants.{Cancelled}
use Rattle.exec.specs.declared.Key.{Key}
use Rattle.exec.specs.declared.Limits.{Limits}
use Rattle.exec.specs.declared.Pool.{Pool}
use Rattle.exec.specs.declared.Pool.TheVariants.{Stdout, Output}
use Rattle.exec.specs.declared.Receipt.TheVariants.{Applied, Stale, Late}
use Rattle.exec.specs.declared.Refusal.{Refusal}
use Rattle.exec.specs.declared.Timers.{Timers}
use Rattle.exec.specs.declared.Stream.{Stream}
use Rattle.exec.specs.Key.{new_key, admits}
use Rattle.exec.specs.Limits.{bytes_window, frames_window, limits_for, shared_output, has_notes, cost, bytes_with}
use Rattle.exec.specs.Refusal.{number}
use Rattle.exec.specs.Time.{new_timers, with_timeout}
use Rattle.ring.specs.Frames.{pop_from}
use Rattle.ring.specs.Ring.{wrap, ring_from, ring_write}
use Rattle.ring.specs.Runs.{copied}
use Rattle.inbox.specs.Inbox.{front}
use Rattle.input.specs.Input as Input
use Rattle.output.specs.Output.{output_fits}
use Rattle.runner.specs.declared.answer.After.{After}
use Rattle.runner.specs.declared.answer.Message.TheVariants as Messages
use Rattle.runner.specs.declared.runner.Runner.{Runner}
use Rattle.runner.specs.Calls as Calls
use Rattle.runner.specs.Calls.{WrittenAfter}
use Rattle.choice.specs.Order.{if_else, order}
use Rattle.runner.specs.Life as Life
use Rattle.runner.specs.Message as Message
use Rattle.runner.specs.Range as Range
use Rattle.runner.specs.Streams as Streams
use Rattle.runner.specs.Streams.{InputAfter, input_after}
use Rattle.codec.specs.declared.Record.TheVariants.{Adjust, Data}
use Rattle.channel.specs.Calls as Channel
use Rattle.carrier.specs.Carrier as Carrier
use Rattle.carrier.specs.Carrier.{WriteAfter, room}
use Rattle.octets.specs.Bytes.{be32_at, number_at}
use Rattle.codec.specs.Codec.{header, bytes_of, laid_record, kinded, fitting, checked, read}
use Rattle.codec.specs.Edges.{kind_over}

-- ---- the runners of the table
-- (to unfold one of them is to unfold what its line names: the definitions that its calls compute with)

-- a store of so many places
abbrev zeros : ℕ → List ℕ
zeros zero = []
zeros (suc n) = 0 ∷ zeros n

abbrev own : Key
own = new_key 7 2

abbrev timers : Timers
timers = new_timers 10 5

-- chunk 4 and windows of 8 bytes
abbrev in_bytes : Limits
in_bytes = limits_for 4 (bytes_window 8) (bytes_window 8) false

-- chunk 4 and an input window of 2 frames
abbrev in_frames : Limits
in_frames = limits_for 4 (frames_window 2) (bytes_window 8) false

-- a runner as open returns it
opened : Limits → Runner
unfolding Calls.«open» Range.fresh Range.stop Range.in_range output_fits has_notes bytes_with admits
opened l = (Calls.«open» own l timers 1 0 (zeros 16) (zeros 2)).runner

-- and after its first message, Credit: the input's window is open
granted : Limits → Runner
unfolding opened Calls.next_message Message.choose order if_else Message.effect
granted l = (Calls.next_message (opened l) (zeros 16) []).saying.runner

-- what the peer's message leaves, and its answer
abbrev heard : Runner → Result Receipt Refusal → After Receipt
heard r x = record { runner = r; answer = x }

-- input under the runner's own key, lent stores of zeros
sent : Runner → List ℕ → InputAfter
unfolding granted Calls.input Streams.received Streams.input_answer Streams.input_next Streams.input_store Streams.input_lengths Input.receive_answer Input.receive_input Input.receive_bytes Input.receive_lengths cost ring_write ring_from copied wrap
sent r bytes = Calls.input r own bytes (zeros 16) (zeros 2)

-- what it leaves where it is refused: state and stores are kept
abbrev kept : Runner → Refusal → InputAfter
kept r x = input_after (heard r (Err x)) (zeros 16) (zeros 2)

abbrev abcd : List ℕ
abcd = 97 ∷ 98 ∷ 99 ∷ 100 ∷ []

-- ---- the table

-- (1) "Key 7,2: 7,1 Stale; 7,3 and 8,2 Key", by each call that has a key, and the state is kept
keyed : Key → List (After Receipt)
unfolding opened sent Calls.credit Streams.credit_answer Streams.credit_next Calls.end_input Streams.end_answer Streams.end_next Calls.cancel Life.cancel_answer Life.cancel_next
keyed k = Calls.credit (opened in_bytes) k Stdout 3
    ∷ (Calls.input (opened in_bytes) k abcd (zeros 16) []).hearing
    ∷ Calls.end_input (opened in_bytes) k
    ∷ Calls.cancel (opened in_bytes) 20 k Cancelled
    ∷ []

abbrev each : Result Receipt Refusal → List (After Receipt)
each x = heard (opened in_bytes) x ∷ heard (opened in_bytes) x ∷ heard (opened in_bytes) x ∷ heard (opened in_bytes) x ∷ []

edge1 : (keyed (new_key 7 1) ≡ each (Ok Stale))
    × (keyed (new_key 7 3) ≡ each (Err Refusal.Key))
    × (keyed (new_key 8 2) ≡ each (Err Refusal.Key))
unfolding keyed
edge1 = (refl, refl, refl)

-- (2) "Window 8: 8 Applied, then 1 and 0 Credit"; credited is credit under the runner's own key
credited : Runner → Pool → ℕ → After Receipt
unfolding opened Calls.credit Streams.credit_answer Streams.credit_in Streams.credit_next
credited r p units = Calls.credit r own p units

abbrev full : Runner
full = (credited (opened in_bytes) Stdout 8).runner

edge2 : ((credited (opened in_bytes) Stdout 8).answer ≡ Ok Applied)
    × (credited full Stdout 1 ≡ heard full (Err Refusal.Credit))
    × (credited full Stdout 0 ≡ heard full (Err Refusal.Credit))
unfolding credited
edge2 = (refl, refl, refl)

-- (3) "Chunk 4: 0 and 5 Chunk"
edge3 : (sent (granted in_bytes) [] ≡ kept (granted in_bytes) Refusal.Chunk)
    × (sent (granted in_bytes) (101 ∷ abcd) ≡ kept (granted in_bytes) Refusal.Chunk)
unfolding sent
edge3 = (refl, refl)

-- (4) "open 3, 4 bytes: Window, open 3"
abbrev three : Runner
three = (sent (sent (granted in_bytes) abcd).hearing.runner (101 ∷ [])).hearing.runner

edge4 : (three.input.window.open ≡ 3) × (sent three abcd ≡ kept three Refusal.Window)
unfolding sent
edge4 = (refl, refl)

-- (5) "Closed, open 8, 4 bytes: Late, open 4"
closed : Runner
unfolding granted Calls.input_closed Life.close_runner_input
closed = (Calls.input_closed (granted in_bytes)).runner

edge5 : (closed.input.window.open ≡ 8)
    × ((sent closed abcd).hearing.answer ≡ Ok Late)
    × ((sent closed abcd).hearing.runner.input.window.open ≡ 4)
unfolding closed sent
edge5 = (refl, refl, refl)

-- (6) "Frames of 3 and 2 bytes, pop 4: 1 freed, 1 byte left"; it came to both frames
abbrev frame3 : InputAfter
frame3 = sent (granted in_frames) (1 ∷ 2 ∷ 3 ∷ [])

abbrev frame2 : InputAfter
frame2 = Calls.input frame3.hearing.runner own (4 ∷ 5 ∷ []) frame3.bytes frame3.lengths

written : WrittenAfter
unfolding sent Calls.input_written Streams.written_next Streams.written_came Streams.written_lengths Input.written_input Input.written_came Input.written_lengths pop_from
written = Calls.input_written frame2.hearing.runner 4 frame2.lengths

edge6 : (frame2.hearing.runner.input.window.returnable ≡ 0)
    × (written.counting.runner.input.window.returnable ≡ 1)
    × (written.counting.answer ≡ Ok 2)
    × (Calls.pending_input written.counting.runner frame2.bytes ≡ Ok (5 ∷ []))
unfolding written Calls.pending_input Streams.pending_of Input.pending_input front
edge6 = (refl, refl, refl, refl)

-- (7) "Shared: Stdout is Pool"
edge7 : credited (opened (shared_output in_bytes)) Stdout 3 ≡ heard (opened (shared_output in_bytes)) (Err Refusal.Pool)
unfolding credited
edge7 = refl

-- (8) "Unshared: Output is Pool"
edge8 : credited (opened in_bytes) Output 3 ≡ heard (opened in_bytes) (Err Refusal.Pool)
unfolding credited
edge8 = refl

-- (9) "2^64 − 2 plus 1 is a time, plus 2 none": the timeout of a runner opened then
timed : ℕ → Result (Option ℕ) Refusal
unfolding opened Calls.deadline Life.deadline_of
timed timeout = Calls.deadline (Calls.«open» own in_bytes (with_timeout timers timeout) 1 (2 ^ 64 - 2) (zeros 16) []).runner

edge9 : (timed 1 ≡ Ok (Some (2 ^ 64 - 1))) × (timed 2 ≡ Ok None)
unfolding timed
edge9 = (refl, refl)

-- (10) "Chunk 4, Frames 2: 16 bytes and 2 lengths do, 15 give 11"; so does one length
opened_with : (bytes lengths : ℕ) → Result (Unit {0}) Refusal
unfolding Calls.«open» has_notes bytes_with
opened_with bytes lengths = (Calls.«open» own in_frames timers 1 0 (zeros bytes) (zeros lengths)).answer

edge10 : (opened_with 16 2 ≡ Ok tt)
    × (opened_with 15 2 ≡ Err Refusal.StoreShort)
    × (opened_with 16 1 ≡ Err Refusal.StoreShort)
    × (number Refusal.StoreShort ≡ 11)
unfolding opened_with
edge10 = (refl, refl, refl, refl)

-- (11) "93, channel 5, 8 units: 5d 00000005 00000008"
abbrev adjust : List ℕ
adjust = 93 ∷ 0 ∷ 0 ∷ 0 ∷ 5 ∷ 0 ∷ 0 ∷ 0 ∷ 8 ∷ []

edge11 : (bytes_of 5 (Adjust 8) [] ≡ adjust) × (read 5 adjust ≡ Ok (Adjust 8))
unfolding bytes_of header read kinded checked fitting number_at be32_at
edge11 = (refl, refl)

-- (12) "94, channel 5, "ab": 5e 00000005 00000002 6162"
abbrev ab : List ℕ
ab = 94 ∷ 0 ∷ 0 ∷ 0 ∷ 5 ∷ 0 ∷ 0 ∷ 0 ∷ 2 ∷ 97 ∷ 98 ∷ []

edge12 : (bytes_of 5 (Data 2) (97 ∷ 98 ∷ []) ≡ ab) × (read 5 ab ≡ Ok (Data 2))
unfolding bytes_of header read kinded checked fitting number_at be32_at
edge12 = (refl, refl)

-- ---- beside the table: "Foreign lengths may leave a state that 12 meets at the next call"

-- two frames of 4 bytes wait, and somebody else writes 1 over the first one's length
abbrev frame4 : InputAfter
frame4 = sent (granted in_frames) abcd

abbrev frame44 : InputAfter
frame44 = Calls.input frame4.hearing.runner own abcd frame4.bytes frame4.lengths

-- 2 bytes written then free that frame, and 6 bytes are left to a single frame: above 1 × chunk
abbrev overwritten : WrittenAfter
overwritten = Calls.input_written frame44.hearing.runner 2 (1 ∷ 4 ∷ [])

abbrev beyond : Runner
beyond = overwritten.counting.runner

foreign : (frame44.lengths ≡ 4 ∷ 4 ∷ [])
    × (overwritten.counting.answer ≡ Ok 2)
    × (beyond.input.inbox.frames ≡ 1)
    × (beyond.input.inbox.length ≡ 6)
    × (Calls.tick beyond 0 ≡ record { runner = beyond; answer = Err Refusal.StateOutOfRange })
    × (number Refusal.StateOutOfRange ≡ 12)
unfolding written Calls.tick Range.stop
foreign = (refl, refl, refl, refl, refl, refl)

-- ---- what the codec refuses is refused so, of every runner that is not refused before; so 98 inbound is still 21

-- of a runner in range, on a channel, with its stores
abbrev admitted : Runner → (store lengths : List ℕ) → Result (Unit {0}) Refusal
admitted r store lengths = Carrier.admitted r (Calls.stores_do r store lengths) (Channel.is_channel r.limits) Refusal.NotAChannel

pub unread : (r : Runner) (at channel : ℕ) (s store lengths : List ℕ) (x : Refusal) → admitted r store lengths ≡ Ok tt
    → read channel s ≡ Err x → Channel.read_record r at channel s store lengths ≡ Carrier.read_after (Carrier.unread x r) store lengths
unfolding Channel.read_record Carrier.accepted Channel.parsed_read
unread r at channel s store lengths x g e = rw (g, e) refl

pub inbound : (r : Runner) (at channel : ℕ) (s store lengths : List ℕ) → admitted r store lengths ≡ Ok tt
    → Channel.read_record r at channel (98 ∷ s) store lengths ≡ Carrier.read_after (Carrier.unread Refusal.UnknownKind r) store lengths
inbound r at channel s store lengths g = unread r at channel (98 ∷ s) store lengths Refusal.UnknownKind g (kind_over channel 98 s (omega arith))

-- ---- 02, A1: "25 asks for the larger of chunk + 13 and 43", for every message

roomed : (room (limits_for 4 (bytes_window 8) (bytes_window 8) true) ≡ 43)
    × (room (limits_for 30 (bytes_window 8) (bytes_window 8) true) ≡ 43)
    × (room (limits_for 31 (bytes_window 8) (bytes_window 8) true) ≡ 44)
roomed = (refl, refl, refl)

-- a channel's runner, from open: its first message is a Credit of 9 bytes, and 42 bytes are refused before it is taken
on_channel : Limits
on_channel = limits_for 4 (bytes_window 8) (bytes_window 8) true

wrotes : (bytes : ℕ) → (Result (Option (Message × ℕ)) Refusal)
unfolding opened Calls.next_message Message.choose order if_else Message.effect Message.said_for Channel.write_record Carrier.write Carrier.admitted Carrier.readied Carrier.written Carrier.sent Carrier.asked Channel.is_left Carrier.told Carrier.wrote Channel.sent_as on_channel
wrotes bytes = (Channel.write_record (opened on_channel) 5 (zeros 16) (zeros bytes)).writing.answer

short : (wrotes 42 ≡ Err Refusal.BufferShort) × (wrotes 43 ≡ (Ok (Some (Messages.Credit 8, 9)))) × (number Refusal.BufferShort ≡ 25)
unfolding wrotes
short = (refl, refl, refl)

-- ---- which bytes of a 94 the workload gets: those behind its header; the inbox begins behind both streams' chunks

taken_in : (bytes : List ℕ) → List ℕ
unfolding wrotes Channel.read_record Channel.parsed_read Channel.made Carrier.accepted read kinded fitting checked be32_at number_at Calls.input Streams.received Streams.input_store Input.receive_answer Input.receive_bytes cost ring_write ring_from copied wrap
taken_in bytes = (Channel.read_record (Channel.write_record (opened on_channel) 5 (zeros 16) (zeros 43)).writing.runner 0 5 bytes (zeros 16) []).bytes

payload : taken_in (94 ∷ 0 ∷ 0 ∷ 0 ∷ 5 ∷ 0 ∷ 0 ∷ 0 ∷ 2 ∷ 104 ∷ 105 ∷ []) ≡ 0 ∷ 0 ∷ 0 ∷ 0 ∷ 0 ∷ 0 ∷ 0 ∷ 0 ∷ 104 ∷ 105 ∷ zeros 6
unfolding taken_in
payload = refl

-- ---- 01: the End that comes last writes 96; with two streams the second, whichever it is

-- the same runner from open, once Credit and Started are told
started : Runner
unfolding wrotes granted Calls.launched Life.launched_next Life.note_launch Life.note_started
started = (Calls.next_message (Calls.launched (granted on_channel) (Ok tt)).runner (zeros 16) []).saying.runner

-- a stream closed, and the message that comes then: its End
closes : Runner → Stream → WriteAfter
unfolding started Calls.output_closed Streams.closed_next Range.stop_at Message.buffer_after Carrier.wrote_buffer Channel.sent_buffer laid_record bytes_of header
closes r x = Channel.write_record (Calls.output_closed r x).runner 5 (zeros 16) (zeros 43)

-- both, and the number of bytes of each End's record, with these bytes
both : Stream → Stream → Result (Option (Message × ℕ)) Refusal × List ℕ × Result (Option (Message × ℕ)) Refusal × List ℕ
unfolding closes
both x y =
    let first = closes started x in
    let second = closes first.writing.runner y in
    (first.writing.answer, first.buffer, second.writing.answer, take 5 second.buffer)

eof : List ℕ
eof = 96 ∷ 0 ∷ 0 ∷ 0 ∷ 5 ∷ []

ends : (both Stream.Stdout Stream.Stderr ≡ (Ok (Some (Messages.End Stream.Stdout, 0)), zeros 43, Ok (Some (Messages.End Stream.Stderr, 5)), eof))
    × (both Stream.Stderr Stream.Stdout ≡ (Ok (Some (Messages.End Stream.Stderr, 0)), zeros 43, Ok (Some (Messages.End Stream.Stdout, 5)), eof))
unfolding both eof
ends = (refl, refl)

-- ---- 02, A10: an Output of Notes is a 95 of type 0xFE000000, "kn" for channel 5; none is taken that arrives, as none of type 1 is (24)

extended : (a b c d : ℕ) → List ℕ
extended a b c d = 95 ∷ 0 ∷ 0 ∷ 0 ∷ 5 ∷ a ∷ b ∷ c ∷ d ∷ 0 ∷ 0 ∷ 0 ∷ 2 ∷ 107 ∷ 110 ∷ []

laid : Stream → List ℕ
unfolding Channel.sent_as Channel.sent_buffer laid_record bytes_of header
laid x = Channel.sent_buffer 5 (Channel.sent_as (λ (y : Stream). false) (Messages.Output x 2)) (zeros 13 ++ (107 ∷ 110 ∷ []))

arrives : List ℕ → Result (Option Receipt) Refusal
unfolding taken_in
arrives bytes = (Channel.read_record (opened on_channel) 0 5 bytes (zeros 16) []).reading.answer

typed : (laid Stream.Stderr ≡ extended 0 0 0 1)
    × (laid Stream.Notes ≡ extended 254 0 0 0)
    × (arrives (extended 0 0 0 1) ≡ Err Refusal.NotInbound)
    × (arrives (extended 254 0 0 0) ≡ Err Refusal.NotInbound)
    × (number Refusal.NotInbound ≡ 24)
unfolding extended laid arrives
typed = (refl, refl, refl, refl, refl)
