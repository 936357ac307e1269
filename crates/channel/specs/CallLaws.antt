-- Laws of the record calls: what their inner functions ask and give (a record that was read is whole, a message's bytes fit its
-- record), and that the buffer is kept where a message is left.
use Rattle.std.specs.Prelude.{true, false, List, ◌≡◌, refl, ℕ, ◌+◌, ◌-◌, ◌^◌, ◌≤◌, ◌<◌, length, take, drop, Option, Result, Some, None, Ok, Err}
use Rattle.std.proofs.lemmas.Bool.{false≢true}
use Rattle.std.proofs.Common.{ap, ◌∙◌, arith, length-drop, take_all}
use Rattle.exec.specs.declared.Refusal.{Refusal}
use Rattle.exec.specs.declared.Stream.{Stream}
use Rattle.runner.specs.declared.answer.Message.{Message}
use Rattle.choice.specs.declared.Choice.{Choice}
use Rattle.runner.specs.declared.runner.Runner.{Runner}
use Rattle.runner.specs.Calls as Calls
use Rattle.runner.specs.Calls.{message_by}
use Rattle.runner.specs.Message.{choose, said_for, buffer_after}
use Rattle.runner.specs.Range.{bytes_do, stop}
use Rattle.carrier.specs.Carrier.{accepted, part_back, asked}
use Rattle.carrier.specs.CarrierLaws.{part_kept}
use Rattle.channel.specs.declared.calls.Sending.{Sending}
use Rattle.channel.specs.Calls.{is_left}
use Rattle.codec.specs.declared.Record.{Record}
use Rattle.codec.specs.declared.Record.TheVariants.{Data}
use Rattle.codec.specs.Codec.{start, size, read}
use Rattle.codec.proofs.RoundTrip.{read_is}
use Rattle.exits.specs.Exit.{is_untold}

-- the header of a record that was read is there
pub read_whole : (channel : ℕ) (s : List ℕ) (rec : Record) → read channel s ≡ Ok rec → start rec ≤ length s
read_whole channel s rec e = omega (arith, (read_is channel s rec e).whole)

pub accepted_whole : (a : Result (Unit {0}) Refusal) (channel : ℕ) (s : List ℕ) (rec : Record) → accepted a (read channel s) ≡ Ok rec
    → start rec ≤ length s
unfolding accepted
accepted_whole (Ok tt) channel s rec e = read_whole channel s rec e
accepted_whole (Err x) channel s rec e = let z : ◌≡◌ {A = ℕ} 0 1 = cc in absurd (omega arith)

-- so the payload of a 94 stands behind its header
pub behind : (rec : Record) (n : ℕ) (s : List ℕ) → rec ≡ Data n → start rec ≤ length s → 9 ≤ length s
behind rec n s e h = rw e at h

pub rest : (s : List ℕ) → take (length s - 9) (drop 9 s) ≡ drop 9 s
rest s = take_all (length s - 9) (drop 9 s) (simp length-drop (omega arith))

-- the length of a payload is a u32
unfoldable pub Narrow : Message → Type 0
Narrow (Message.Credit units) = Unit
Narrow Message.Started = Unit
Narrow (Message.Output x n) = n < 2 ^ 32
Narrow (Message.End x) = Unit
Narrow Message.InputClosed = Unit
Narrow (Message.Terminal outcome) = Unit

pub narrow : (m : Message) (x : Stream) (n : ℕ) → m ≡ Message.Output x n → Narrow m → n < 2 ^ 32
unfolding Narrow
narrow m x n e h = rw e at h

-- from byte 13 on the buffer has room for the payload; and for an ending, which is told
unfoldable pub Roomy : Sending → (room : ℕ) → Type 0
Roomy Sending.Nothing room = Unit
Roomy (Sending.Record rec) room = 13 + size rec ≤ room
Roomy (Sending.Ending status) room = (43 ≤ room) × (is_untold status ≡ false)

unfoldable pub RoomyFor : Message → (room : ℕ) → Type 0
RoomyFor (Message.Credit units) room = 13 ≤ room
RoomyFor Message.Started room = Unit
RoomyFor (Message.Output x n) room = 13 + n ≤ room
RoomyFor (Message.End x) room = 13 ≤ room
RoomyFor Message.InputClosed room = Unit
RoomyFor (Message.Terminal outcome) room = (43 ≤ room) × (is_untold outcome.status ≡ false)

unfoldable pub Sayable : Result (Option Message) Refusal → (room : ℕ) → Type 0
Sayable (Ok None) room = Unit
Sayable (Ok (Some m)) room = Narrow m × RoomyFor m room
Sayable (Err x) room = Unit

-- ---- a message that is left

-- only a Terminal is left, and it leaves the part that is lent as it was
left_choice : (c : Choice) (r : Runner) (store part : List ℕ) → is_left (said_for c r) ≡ true → buffer_after c r store part ≡ part
unfolding is_left said_for buffer_after
left_choice Choice.None r store part e = refl
left_choice Choice.Credit r store part e = refl
left_choice Choice.Started r store part e = refl
left_choice Choice.InputClosed r store part e = refl
left_choice (Choice.End x) r store part e = refl
left_choice (Choice.Output x n) r store part e = absurd (false≢true e)
left_choice Choice.Terminal r store part e = refl

left_by : (met : Result (Unit {0}) Refusal) (r : Runner) (store part : List ℕ) → is_left (message_by met r store part).saying.answer ≡ true → (message_by met r store part).buffer ≡ part
left_by (Ok tt) r store part e = left_choice (choose r (length part)) r store part e
left_by (Err x) r store part e = refl

pub left_kept : (r : Runner) (store b : List ℕ) → is_left (asked 13 r store b).saying.answer ≡ true → (asked 13 r store b).buffer ≡ b
unfolding asked Calls.next_message
left_kept r store b e =
    ap (part_back 13 r.limits.chunk b) (left_by (stop r (bytes_do r.limits store)) r store (take r.limits.chunk (drop 13 b)) e)
    ∙ part_kept 13 r.limits.chunk b
