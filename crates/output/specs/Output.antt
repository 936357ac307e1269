-- One output stream: what each call does to it, to its ring in the byte store, and to the buffer that it sends to.
use Rattle.std.specs.Prelude.{ℕ, ◌+◌, ◌-◌, ◌≤◌, ◌<◌, min, ◌≡◌, refl, Bool, true, false, cond, not, ◌&&◌, ◌||◌, List, ◌++◌, leb, ltb, length, drop}
use Rattle.std.proofs.Common.{arith, leb-true}
use Rattle.inbox.specs.Range.{ring_fits}
use Rattle.inbox.specs.RangeLaws.{both, ring_start, ring_below, ring_valid}
use Rattle.ring.specs.Ring.{wrap, ring_read, ring_write}
use Rattle.output.specs.declared.Intake.{Intake}
use Rattle.output.specs.declared.Output.{Output}
use Rattle.output.specs.Setters.{set_start, set_queued, set_closed, set_hung_up, set_ended, set_discarding, set_discard_requested, set_truncated}

abbrev pub new_output : Output
new_output = record {
  start = 0;
  queued = 0;
  closed = false;
  hung_up = false;
  ended = false;
  discarding = false;
  discard_requested = false;
  truncated = false;
}

-- a stream that is not open: it closed and its end was told, and nothing of it is to be sent, asked for or reported
abbrev pub over : Output
over = record {
  start = 0;
  queued = 0;
  closed = true;
  hung_up = false;
  ended = true;
  discarding = false;
  discard_requested = false;
  truncated = false;
}

abbrev pub is_done : Output → Bool
is_done o = o.closed && not (ltb 0 o.queued)

-- a process may hold it open
abbrev pub is_held : Output → Bool
is_held o = not o.closed && not o.hung_up

-- done, with its end told or nobody to tell
abbrev pub is_delivered : Bool → Output → Bool
is_delivered detached o = is_done o && (o.ended || detached)

-- truncated where this says so, or as it was
abbrev pub lost_out : Bool → Output → Output
lost_out lost o = set_truncated (lost || o.truncated) o

-- ---- the runner's own changes

-- the queue dropped: what was in it is lost
abbrev emptied : Output → Output
emptied o = lost_out (ltb 0 o.queued) (set_start 0 (set_queued 0 o))

-- the queue dropped, and the rest of the stream to be discarded if it is open
abbrev pub grace_ended : Output → Output
grace_ended o =
    set_discarding (o.discarding || not o.closed)
    (set_discard_requested ((not o.closed && not o.discarding) || o.discard_requested) (emptied o))

-- the queue dropped, and the stream closed, truncated if it was open
abbrev pub given_up : Output → Output
given_up o = lost_out (not o.closed) (set_closed true (emptied o))

-- closed and truncated, unless the stream closed or hung up
abbrev pub abandoned : Output → Output
abandoned o = lost_out (not (o.closed || o.hung_up)) (set_closed (o.closed || not o.hung_up) o)

-- the end was told
abbrev pub ended_out : Output → Output
ended_out o = set_ended true o

-- the request to discard was handed out
abbrev pub asked_out : Output → Output
asked_out o = set_discard_requested false o

-- ---- what the adapter reports

-- every writer closed the stream
abbrev pub closed_out : Output → Output
closed_out o = set_closed true o

-- reading the stream failed
abbrev pub failed_out : Output → Output
failed_out o = set_truncated true (set_closed true o)

-- every writer closed it, though it is not read to its end
abbrev pub hung_up : Output → Output
hung_up o = set_hung_up true o

-- ---- bytes from the workload; shut is closed or given up

-- how many may be read
abbrev pub allowance : Output → (gave_up : Bool) → (chunk : ℕ) → ℕ
allowance o gave_up chunk = cond ((o.closed || gave_up) || o.discarding) 0 (chunk - o.queued)

-- how many of n are taken
abbrev pub takes : (shut discarding : Bool) (room n : ℕ) → ℕ
takes true d room n = 0
takes false true room n = n
takes false false room n = min n room

-- and how many are kept
abbrev pub keeps : (shut discarding : Bool) (room n : ℕ) → ℕ
keeps true d room n = 0
keeps false true room n = 0
keeps false false room n = min n room

-- as many are kept as the allowance lets in, and all are taken where they are dropped
pub keeps_allowed : (shut d : Bool) (room n : ℕ) → min n (cond (shut || d) 0 room) ≡ keeps shut d room n
keeps_allowed true d room n = omega arith
keeps_allowed false true room n = omega arith
keeps_allowed false false room n = refl

pub takes_dropped : (shut d : Bool) (room n : ℕ) → cond (not shut && d) n (keeps shut d room n) ≡ takes shut d room n
takes_dropped true d room n = refl
takes_dropped false true room n = refl
takes_dropped false false room n = refl

-- none are kept for which there is no room
pub keeps_fit : (shut d : Bool) (room n : ℕ) → keeps shut d room n ≤ room
keeps_fit true d room n = omega arith
keeps_fit false true room n = omega arith
keeps_fit false false room n = omega arith

-- so many more queued, and whether any were lost
abbrev pub filled : ℕ → Bool → Output → Output
filled kept lost o = lost_out lost (set_queued (o.queued + kept) o)

-- n bytes came
abbrev pub intake : (shut discarding : Bool) (room n : ℕ) → Output → Output
intake shut d room n o = filled (keeps shut d room n) (not shut && d && ltb 0 n) o

-- what the intake leaves: its answer with the stream, and the store
pub record IntakeAfter : Type 0 where
  pub answer : Intake
  pub bytes : List ℕ

abbrev pub intake_after : Intake → List ℕ → IntakeAfter
intake_after a bytes = record { answer = a; bytes = bytes }

unfoldable pub taken_in : Output → (gave_up : Bool) (base chunk : ℕ) (bytes store : List ℕ) → IntakeAfter
taken_in o gave_up base chunk bytes store =
    let shut : Bool = o.closed || gave_up in
    let room : ℕ = chunk - o.queued in
    let n : ℕ = length bytes in
    intake_after
    (record { taken = takes shut o.discarding room n; output = intake shut o.discarding room n o })
    (ring_write base chunk o.start o.queued bytes (keeps shut o.discarding room n) store)

-- ---- bytes to the peer

-- n bytes left the queue
abbrev pub sent_out : (chunk n : ℕ) → Output → Output
sent_out chunk n o = set_start (wrap chunk (o.start + n)) (set_queued (o.queued - n) o)

-- what a send leaves: the stream, and the buffer
pub record SendAfter : Type 0 where
  pub output : Output
  pub buffer : List ℕ

abbrev pub send_after : Output → List ℕ → SendAfter
send_after o buffer = record { output = o; buffer = buffer }

unfoldable pub sent : (chunk base n : ℕ) → Output → (store buffer : List ℕ) → SendAfter
sent chunk base n o store buffer =
    send_after (sent_out chunk n o) (ring_read base chunk o.start n store ++ drop n buffer)

-- ---- range

-- the queue is within its ring
unfoldable pub output_fits : (chunk : ℕ) → Output → Bool
output_fits chunk o = leb o.queued chunk && ring_fits o.start chunk

-- the same, of a chunk that is not 0
abbrev pub output_within : (chunk : ℕ) → Output → Bool
output_within chunk o = leb o.queued chunk && ltb o.start chunk

pub within_fits : (chunk : ℕ) (o : Output) → 0 < chunk → output_within chunk o ≡ output_fits chunk o
unfolding output_fits
within_fits chunk o some = rw (ring_valid o.start chunk some) refl

module _ (chunk : ℕ) (o : Output) (fits : output_fits chunk o ≡ true) where
  each : (leb o.queued chunk ≡ true) × (ring_fits o.start chunk ≡ true)
  unfolding output_fits
  each = both (leb o.queued chunk) (ring_fits o.start chunk) fits

  -- what the calls ask of a stream
  pub output_range : (o.queued ≤ chunk) × (o.start ≤ chunk)
  output_range = (leb-true o.queued chunk each.0, ring_start o.start chunk each.1)

  pub output_start : 0 < chunk → o.start < chunk
  output_start = ring_below o.start chunk each.1
