-- The runner's calls after open, and what they answer: 01's words, numbers and values. Nothing here knows the runner.
use Rattle.std.specs.Prelude.{Bool, true, false, ◌≡◌, refl, List, ℕ, Option, Result, Some, None}
use Rattle.std.proofs.lemmas.Bool.{false≢true}
use Rattle.exec.specs.declared.LaunchFailure.{LaunchFailure}
use Rattle.exec.specs.declared.Status.{Status}
use Rattle.exec.specs.declared.Cause.{Cause}
use Rattle.exec.specs.declared.Key.{Key}
use Rattle.exec.specs.declared.Limits.{Limits}
use Rattle.exec.specs.declared.Outcome.{Outcome}
use Rattle.exec.specs.declared.Pool.{Pool}
use Rattle.exec.specs.declared.Settlement.{Settlement}
use Rattle.exec.specs.declared.Stream.{Stream}
use Rattle.exec.specs.declared.Timers.{Timers}

-- what open is given, beside the time and the stores
pub record Conf : Type 0 where
  pub key : Key
  pub limits : Limits
  pub timers : Timers
  pub smallest : ℕ  -- the smallest grant of the input's units

-- a call with its arguments; the stores are lent to each as the last left them
pub data Call : Type 0 where
  key : Call
  limits : Call
  credit : Key → Pool → (units : ℕ) → Call
  input : Key → (bytes : List ℕ) → Call
  end_input : Key → Call
  cancel : (now : ℕ) → Key → Cause → Call
  launched : Result (Unit {0}) LaunchFailure → Call
  read_allowance : Stream → Call
  output : Stream → (bytes : List ℕ) → Call
  discarded : Stream → (bytes : ℕ) → Call
  output_closed : Stream → Call
  output_failed : Stream → Call
  output_hung_up : Stream → Call
  pending_input : Call
  input_written : (bytes : ℕ) → Call
  input_closed : Call
  exited : (now : ℕ) → Option Status → Call
  settled : Settlement → Call
  dropped : (now : ℕ) → Call
  reset : (now : ℕ) → Call
  disconnect : (now : ℕ) → Call
  tick : (now : ℕ) → Call
  deadline : Call
  next_request : Call
  next_message : (buffer : List ℕ) → Call
  is_finished : Call
  is_detached : Call
  awaits_settlement : Call
  memory_bound : Call
  buffered : Call
  high_water : Call

-- a call's own time
abbrev pub time_of : Call → Option ℕ
time_of key = None
time_of limits = None
time_of (credit k p u) = None
time_of (input k b) = None
time_of (end_input k) = None
time_of (cancel now k c) = Some now
time_of (launched x) = None
time_of (read_allowance x) = None
time_of (output x b) = None
time_of (discarded x n) = None
time_of (output_closed x) = None
time_of (output_failed x) = None
time_of (output_hung_up x) = None
time_of pending_input = None
time_of (input_written n) = None
time_of input_closed = None
time_of (exited now x) = Some now
time_of (settled x) = None
time_of (dropped now) = Some now
time_of (reset now) = Some now
time_of (disconnect now) = Some now
time_of (tick now) = Some now
time_of deadline = None
time_of next_request = None
time_of (next_message b) = None
time_of is_finished = None
time_of is_detached = None
time_of awaits_settlement = None
time_of memory_bound = None
time_of buffered = None
time_of high_water = None

-- a message, an Output with its payload
pub data Message : Type 0 where
  Credit : (units : ℕ) → Message
  Started : Message
  Output : Stream → (payload : List ℕ) → Message
  End : Stream → Message
  InputClosed : Message
  Terminal : Outcome → Message

pub data Request : Type 0 where
  Terminate : Cause → Request
  Discard : Stream → Request
  CloseInput : Request
  Settle : Request

pub data Answer : Type 0 where
  Ok : Answer
  Applied : Answer
  Stale : Answer
  Late : Answer
  Refused : (number : ℕ) → Answer
  Taken : (count : ℕ) → Answer
  Came : (frames : ℕ) → Answer
  Pending : (bytes : List ℕ) → Answer
  Value : ℕ → Answer
  Time : Option ℕ → Answer
  Truth : Bool → Answer
  Asks : Request → Answer
  Says : Message → Answer
  IsKey : Key → Answer
  AreLimits : Limits → Answer
  Nothing : Answer

-- refused, by whatever number
abbrev pub is_refused : Answer → Bool
is_refused Ok = false
is_refused Applied = false
is_refused Stale = false
is_refused Late = false
is_refused (Refused n) = true
is_refused (Taken n) = false
is_refused (Came n) = false
is_refused (Pending b) = false
is_refused (Value n) = false
is_refused (Time d) = false
is_refused (Truth b) = false
is_refused (Asks r) = false
is_refused (Says m) = false
is_refused (IsKey k) = false
is_refused (AreLimits l) = false
is_refused Nothing = false

-- and nothing else is
pub refused_is : (a : Answer) → is_refused a ≡ true → (n : ℕ) × (a ≡ Refused n)
refused_is Ok e = absurd (false≢true e)
refused_is Applied e = absurd (false≢true e)
refused_is Stale e = absurd (false≢true e)
refused_is Late e = absurd (false≢true e)
refused_is (Refused n) e = (n, refl)
refused_is (Taken n) e = absurd (false≢true e)
refused_is (Came n) e = absurd (false≢true e)
refused_is (Pending b) e = absurd (false≢true e)
refused_is (Value n) e = absurd (false≢true e)
refused_is (Time d) e = absurd (false≢true e)
refused_is (Truth b) e = absurd (false≢true e)
refused_is (Asks r) e = absurd (false≢true e)
refused_is (Says m) e = absurd (false≢true e)
refused_is (IsKey k) e = absurd (false≢true e)
refused_is (AreLimits l) e = absurd (false≢true e)
refused_is Nothing e = absurd (false≢true e)

-- how many bytes it says were taken
abbrev pub count : Answer → ℕ
count Ok = 0
count Applied = 0
count Stale = 0
count Late = 0
count (Refused n) = 0
count (Taken n) = n
count (Came n) = 0
count (Pending b) = 0
count (Value n) = 0
count (Time d) = 0
count (Truth b) = 0
count (Asks r) = 0
count (Says m) = 0
count (IsKey k) = 0
count (AreLimits l) = 0
count Nothing = 0

-- a call that was made, with its answer
pub record Done : Type 0 where
  pub call : Call
  pub answer : Answer
