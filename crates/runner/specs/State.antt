-- The runner's state with some of its parts set, and its parts by stream and by pool.
use Rattle.std.specs.Prelude.{ℕ, ◌+◌, ◌*◌, Bool, not, ◌||◌, List}
use Rattle.exec.specs.declared.Stream.{Stream}
use Rattle.exec.specs.declared.Limits.{Limits}
use Rattle.exec.specs.Limits.{has, has_notes}
use Rattle.exec.specs.Row as Row
use Rattle.exec.specs.Stream.{index, pick, every_stream}
use Rattle.credit.specs.declared.sender.Credit.{Credit}
use Rattle.credit.specs.Sender.{new_credit, credit_fits}
use Rattle.lifecycle.specs.declared.clocks.Clocks.{Clocks}
use Rattle.lifecycle.specs.declared.flags.Flags.{Flags}
use Rattle.lifecycle.specs.declared.life.Life.{Life}
use Rattle.input.specs.declared.Input.{Input}
use Rattle.output.specs.declared.Output.{Output}
use Rattle.output.specs.Outputs.{output_in, put_output, seen, queued_of}
use Rattle.runner.specs.declared.runner.Runner.{Runner}

-- ---- parts set

-- what time and the workload move
abbrev pub with : Clocks → Life → Flags → Input → List Output → Runner → Runner
with c l f i os r = record {
  key = r.key;
  limits = r.limits;
  timers = r.timers;
  clocks = c;
  life = l;
  flags = f;
  input = i;
  outputs = os;
  credits = r.credits;
  turn = r.turn;
  high_water = r.high_water;
}

abbrev pub with_clocks : Clocks → Runner → Runner
with_clocks c r = with c r.life r.flags r.input r.outputs r

abbrev pub with_life : Life → Runner → Runner
with_life l r = with r.clocks l r.flags r.input r.outputs r

abbrev pub with_flags : Flags → Runner → Runner
with_flags f r = with r.clocks r.life f r.input r.outputs r

abbrev pub with_input : Input → Runner → Runner
with_input i r = with r.clocks r.life r.flags i r.outputs r

abbrev pub with_outputs : List Output → Runner → Runner
with_outputs os r = with r.clocks r.life r.flags r.input os r

-- what the messages move
abbrev pub with_flow : List Credit → ℕ → Flags → ℕ → Runner → Runner
with_flow cs turn flags high r = record {
  key = r.key;
  limits = r.limits;
  timers = r.timers;
  clocks = r.clocks;
  life = r.life;
  flags = flags;
  input = r.input;
  outputs = r.outputs;
  credits = cs;
  turn = turn;
  high_water = high;
}

-- the flags, in their order
abbrev pub flags_of : (started settle gave_up left detached credited finished : Bool) → Flags
flags_of started settle gave_up left detached credited finished = record {
  started_message = started;
  settle_request = settle;
  gave_up = gave_up;
  launch_abandoned = left;
  detached = detached;
  credited = credited;
  finished = finished;
}

-- ---- the outputs

-- as every call reads them: one that is not open is over
abbrev pub outputs_of : Runner → List Output
outputs_of r = seen (has_notes r.limits) r.outputs

abbrev pub out_of : Stream → Runner → Output
out_of x r = output_in x (outputs_of r)

-- one stream's output changed, every other kept
abbrev pub at : Stream → (Output → Output) → Runner → Runner
at x f r = with_outputs (put_output x (f (out_of x r)) r.outputs) r

-- where a stream's ring begins in the byte store: they stand in the order of the streams
abbrev pub base : Stream → (chunk : ℕ) → ℕ
base x chunk = pick x 0 chunk (2 * chunk)

-- ---- the credit accounts

-- the account at a position (an empty one where the list is too short)
abbrev pub credit_at : ℕ → List Credit → Credit
credit_at i cs = Row.at i (new_credit 0) cs

abbrev pub put_credit : ℕ → Credit → List Credit → List Credit
put_credit i c cs = Row.put i c (new_credit 0) cs

-- no account has more than its window: the last is asked where Notes is open
abbrev pub credits_fit : Limits → List Credit → Bool
credits_fit l cs = every_stream (λ (x : Stream). not (has l x) || credit_fits (credit_at (index x) cs))

-- ---- the bytes held

abbrev pub buffered : Runner → ℕ
buffered r = queued_of (outputs_of r) + r.input.inbox.length
