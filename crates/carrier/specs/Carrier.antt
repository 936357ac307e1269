-- What carries a runner's messages over a wire, and a peer's calls to it: a channel's records (crate channel), or frames (crate
-- frames). What both do alike: what is met first, the answer of the call that is made, and where a message is asked for.
use Rattle.std.specs.Prelude.{Bool, cond, List, ◌++◌, ℕ, ◌+◌, max, leb, length, take, drop, Option, Result, Some, None, Ok, Err}
use Rattle.exec.specs.declared.Limits.{Limits}
use Rattle.exec.specs.declared.Receipt.{Receipt}
use Rattle.exec.specs.declared.Refusal.{Refusal}
use Rattle.exec.specs.declared.Refusal.TheVariants.{BufferShort, UntoldStatus}
use Rattle.exec.specs.declared.Unit as Units
use Rattle.exec.specs.declared.Unit.TheVariants.{Bytes, Frames}
use Rattle.runner.specs.declared.answer.After.{After}
use Rattle.runner.specs.declared.answer.Message.{Message}
use Rattle.runner.specs.declared.runner.Runner.{Runner}
use Rattle.runner.specs.Calls as Calls
use Rattle.runner.specs.Message.{MessageAfter, message_after}
use Rattle.runner.specs.Range.{bytes_do, stop}
use Rattle.std.proofs.Math.Bool.{true, false}

-- ---- what is met first: 12, 10, 46, 11, and then, where the carrier is not for the runner, a refusal of its own

abbrev pub is_bytes : Units.Unit → Bool
is_bytes Bytes = true
is_bytes Frames = false

abbrev pub carried : Result (Unit {0}) Refusal → (carries : Bool) → (own : Refusal) → Result (Unit {0}) Refusal
carried (Ok tt) carries own = cond carries (Ok tt) (Err own)
carried (Err x) carries own = Err x

unfoldable pub admitted : Runner → (stores carries : Bool) → (own : Refusal) → Result (Unit {0}) Refusal
admitted r stores carries own = carried (stop r stores) carries own

-- ---- what is read

-- what it leaves: the answer with the state, and both stores
pub record ReadAfter : Type 0 where
  pub reading : After (Option Receipt)
  pub bytes : List ℕ
  pub lengths : List ℕ

abbrev pub read_after : After (Option Receipt) → (bytes lengths : List ℕ) → ReadAfter
read_after x bytes lengths = record { reading = x; bytes = bytes; lengths = lengths }

-- the answer of the call that is made
abbrev pub heard_as : Result Receipt Refusal → Result (Option Receipt) Refusal
heard_as (Ok x) = (Ok (Some x))
heard_as (Err x) = Err x

abbrev pub noted_as : Result (Unit {0}) Refusal → Result (Option Receipt) Refusal
noted_as (Ok tt) = Ok None
noted_as (Err x) = Err x

abbrev pub heard : After Receipt → After (Option Receipt)
heard h = record { runner = h.runner; answer = heard_as h.answer }

abbrev pub noted : After (Unit {0}) → After (Option Receipt)
noted n = record { runner = n.runner; answer = noted_as n.answer }

abbrev pub unread : Refusal → Runner → After (Option Receipt)
unread x r = record { runner = r; answer = Err x }

-- what the bytes are, where they are admitted
unfoldable pub accepted : {A : Type 0} → Result (Unit {0}) Refusal → Result A Refusal → Result A Refusal
accepted (Ok tt) p = p
accepted (Err x) p = Err x

-- ---- what is written

-- what it leaves: the answer with the state, a message with the number of its bytes, and the buffer
pub record WriteAfter : Type 0 where
  pub writing : After (Option (Message × ℕ))
  pub buffer : List ℕ

abbrev pub write_after : After (Option (Message × ℕ)) → (buffer : List ℕ) → WriteAfter
write_after x buffer = record { writing = x; buffer = buffer }

abbrev pub unwritten : Refusal → Runner → After (Option (Message × ℕ))
unwritten x r = record { runner = r; answer = Err x }

-- what a buffer must have, whatever the message
abbrev pub room : Limits → ℕ
room l = max (l.chunk + 13) 43

-- 25, before a message is taken
unfoldable pub readied : Result (Unit {0}) Refusal → (roomy : Bool) → Result (Unit {0}) Refusal
readied (Ok tt) roomy = cond roomy (Ok tt) (Err BufferShort)
readied (Err x) roomy = Err x

unfoldable pub written : Result (Unit {0}) Refusal → (sent : WriteAfter) → Runner → (buffer : List ℕ) → WriteAfter
written (Ok tt) sent r buffer = sent
written (Err x) sent r buffer = write_after (unwritten x r) buffer

-- the buffer whose part from an index on, exactly chunk long, came back as the part given
abbrev pub part_back : (at chunk : ℕ) → (buffer part : List ℕ) → List ℕ
part_back at chunk buffer part = take at buffer ++ (part ++ drop (at + chunk) buffer)

-- a message is asked for in that part, where its payload will stand
unfoldable pub asked : (at : ℕ) → Runner → (store buffer : List ℕ) → MessageAfter
asked at r store buffer =
    message_after (Calls.next_message r store (take r.limits.chunk (drop at buffer))).saying
    (part_back at r.limits.chunk buffer (Calls.next_message r store (take r.limits.chunk (drop at buffer))).buffer)

-- how messages are laid in that buffer: the number of a message's bytes, 0 where nothing is written, and the buffer that begins with them
pub record Laying : Type 0 where
  pub size : Message → ℕ
  pub lay : Message → List ℕ → List ℕ

unfoldable pub wrote : Laying → Result (Option Message) Refusal → Result (Option (Message × ℕ)) Refusal
wrote w (Ok None) = Ok None
wrote w (Ok (Some m)) = (Ok (Some (m, w.size m)))
wrote w (Err x) = Err x

unfoldable pub wrote_buffer : Laying → Result (Option Message) Refusal → List ℕ → List ℕ
wrote_buffer w (Ok None) buffer = buffer
wrote_buffer w (Ok (Some m)) buffer = w.lay m buffer
wrote_buffer w (Err x) buffer = buffer

unfoldable pub told : Laying → MessageAfter → WriteAfter
told w x =
    write_after (record { runner = x.saying.runner; answer = wrote w x.saying.answer }) (wrote_buffer w x.saying.answer x.buffer)

-- how a carrier takes the next message: from where on it is asked for, whether the carrier is for the runner, and by what it refuses
-- any other, whether the message is left, as it cannot be told, and how it is laid
pub record Carriage : Type 0 where
  pub at : ℕ
  pub carries : Bool
  pub own : Refusal
  pub left : Bool
  pub laying : Laying

-- 40, and nothing changes; else the message is taken and told
unfoldable pub sent : Carriage → Runner → (store buffer : List ℕ) → WriteAfter
sent k r store buffer =
    cond k.left (write_after (unwritten UntoldStatus r) buffer) (told k.laying (asked k.at r store buffer))

-- the next message, written
unfoldable pub write : Carriage → Runner → (store buffer : List ℕ) → WriteAfter
write k r store buffer =
    written (readied (admitted r (bytes_do r.limits store) k.carries k.own) (leb (room r.limits) (length buffer))) (sent k r store buffer) r buffer
