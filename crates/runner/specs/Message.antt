-- The next message and the next request: a choice by what the state shows, and then its effect.
use Rattle.std.specs.Prelude.{ℕ, min, Bool, true, false, cond, not, ◌&&◌, List, ◌++◌, drop, Option, Result, Some, None, Ok, Err}
use Rattle.runner.specs.declared.answer.Message.{Message}
use Rattle.exec.specs.declared.Cause.{Cause}
use Rattle.exec.specs.declared.Refusal.{Refusal}
use Rattle.exec.specs.declared.Stream.{Stream}
use Rattle.exec.specs.declared.Stream.TheVariants.{Stdout, Stderr, Notes}
use Rattle.exec.specs.Limits.{cost, has_notes, pool_of}
use Rattle.exec.specs.Stream.{stream_at, following, turn_after}
use Rattle.ring.specs.Ring.{ring_read}
use Rattle.credit.specs.Sender.{sendable, spent}
use Rattle.lifecycle.specs.declared.flags.Flags.{Flags}
use Rattle.lifecycle.specs.Life.{terminate_taken}
use Rattle.output.specs.declared.Output.{Output}
use Rattle.input.specs.Input.{can_grant, granted_in, message_told, close_asked}
use Rattle.output.specs.Output.{is_done, ended_out, asked_out, sent_out}
use Rattle.runner.specs.declared.answer.Request.{Request}
use Rattle.runner.specs.declared.answer.After.{After}
use Rattle.choice.specs.declared.Choice.{Choice}
use Rattle.runner.specs.declared.runner.Runner.{Runner}
use Rattle.choice.specs.Order.{order}
use Rattle.runner.specs.Life.{awaits_launch, is_ready, outcome_of}
use Rattle.runner.specs.RangeLaws.{stopped}
use Rattle.runner.specs.State.{with_life, with_flags, with_input, with_flow, flags_of, out_of, at, base, credit_at, put_credit}

-- the flags that a message moves
abbrev pub message_flags : (started credited finished : Bool) → Flags → Flags
message_flags started credited finished f =
    flags_of started f.settle_request f.gave_up f.launch_abandoned f.detached credited finished

-- ---- the choice

-- how many bytes of a stream one message may carry now: of those queued, in a chunk and in the buffer, what credit lets
unfoldable pub sendable_of : Runner → (buffer : ℕ) → Stream → ℕ
sendable_of r buffer x =
    sendable r.limits.output.unit (credit_at (pool_of r.limits x) r.credits).available
    (min (min (out_of x r).queued r.limits.chunk) buffer)

-- a stream is done, and its end not told
abbrev pub untold : Runner → Stream → Bool
untold r x = is_done (out_of x r) && not (out_of x r).ended

unfoldable pub choose : Runner → (buffer : ℕ) → Choice
choose r buffer =
    order r.flags.finished r.flags.detached (can_grant r.input) r.flags.credited
    r.flags.started_message r.input.closed_message (awaits_launch r) (untold r Stdout) (untold r Stderr) (untold r Notes) (is_ready r)
    (stream_at r.turn) (sendable_of r buffer (stream_at r.turn)) (sendable_of r buffer (following (stream_at r.turn)))
    (sendable_of r buffer (following (following (stream_at r.turn))))

-- ---- its effect

-- a message other than credit
abbrev pub plain : Runner → Runner
plain r = with_flags (message_flags r.flags.started_message false r.flags.finished r.flags) r

-- the cost of n bytes of a stream leaves the account of its pool; the next stream that is open has its turn next
unfoldable pub output_paid : Stream → ℕ → Runner → Runner
output_paid x n r =
    with_flow
    (put_credit (pool_of r.limits x) (spent (credit_at (pool_of r.limits x) r.credits) (cost r.limits.output.unit n)) r.credits)
    (turn_after (has_notes r.limits) x) (message_flags r.flags.started_message false r.flags.finished r.flags) r.high_water r

-- and the bytes leave its queue
unfoldable pub output_sent : Stream → ℕ → Runner → Runner
output_sent x n r = at x (sent_out r.limits.chunk n) (output_paid x n r)

unfoldable pub effect : Choice → Runner → Runner
effect Choice.None r = r
effect Choice.Credit r =
    with_flags (message_flags r.flags.started_message true r.flags.finished r.flags) (with_input (granted_in r.input) r)
effect Choice.Started r = with_flags (message_flags false false r.flags.finished r.flags) r
effect Choice.InputClosed r = plain (with_input (message_told r.input) r)
effect (Choice.End x) r = plain (at x ended_out r)
effect (Choice.Output x n) r = output_sent x n r
effect Choice.Terminal r = with_flags (message_flags r.flags.started_message r.flags.credited true r.flags) r

-- the bytes of an output message, at the start of the buffer
unfoldable pub payload : Runner → Stream → ℕ → List ℕ → List ℕ
payload r x n store = ring_read (base x r.limits.chunk) r.limits.chunk (out_of x r).start n store

-- what sending the bytes leaves: the outputs, and the buffer
pub record SentAfter : Type 0 where
  pub outputs : List Output
  pub buffer : List ℕ

abbrev pub sent_after : List Output → List ℕ → SentAfter
sent_after os buffer = record { outputs = os; buffer = buffer }

unfoldable pub sent_output : Stream → ℕ → Runner → (store buffer : List ℕ) → SentAfter
sent_output x n r store buffer =
    sent_after (at x (sent_out r.limits.chunk n) r).outputs (payload r x n store ++ drop n buffer)

unfoldable pub buffer_after : Choice → Runner → (store buffer : List ℕ) → List ℕ
buffer_after Choice.None r store buffer = buffer
buffer_after Choice.Credit r store buffer = buffer
buffer_after Choice.Started r store buffer = buffer
buffer_after Choice.InputClosed r store buffer = buffer
buffer_after (Choice.End x) r store buffer = buffer
buffer_after (Choice.Output x n) r store buffer = payload r x n store ++ drop n buffer
buffer_after Choice.Terminal r store buffer = buffer

-- what saying it leaves: the state, and the buffer
pub record SayAfter : Type 0 where
  pub runner : Runner
  pub buffer : List ℕ

abbrev pub say_after : Runner → List ℕ → SayAfter
say_after r buffer = record { runner = r; buffer = buffer }

unfoldable pub say : Choice → Runner → (store buffer : List ℕ) → SayAfter
say c r store buffer = say_after (effect c r) (buffer_after c r store buffer)

-- what is said
unfoldable pub said_for : Choice → Runner → Result (Option Message) Refusal
said_for Choice.None r = Ok None
said_for Choice.Credit r = (Ok (Some (Message.Credit r.input.window.returnable)))
said_for Choice.Started r = (Ok (Some Message.Started))
said_for Choice.InputClosed r = (Ok (Some Message.InputClosed))
said_for (Choice.End x) r = (Ok (Some (Message.End x)))
said_for (Choice.Output x n) r = (Ok (Some (Message.Output x n)))
said_for Choice.Terminal r = (Ok (Some (Message.Terminal (outcome_of r))))

-- the choice of a call that may be refused by 12, 10, 46 or 11, and its answer
abbrev pub choice_of : (good : Bool) → Runner → (buffer : ℕ) → Choice
choice_of good r buffer = cond good (choose r buffer) Choice.None

abbrev pub answer_of : (good : Bool) → Choice → Runner → Result (Option Message) Refusal
answer_of good c r = cond good (said_for c r) (Err (stopped r))

-- what next_message leaves: its answer with the state, and the buffer
pub record MessageAfter : Type 0 where
  pub saying : After (Option Message)
  pub buffer : List ℕ

abbrev pub message_after : After (Option Message) → List ℕ → MessageAfter
message_after s buffer = record { saying = s; buffer = buffer }

-- ---- requests: ending first, then discarding, closing the input, settling

unfoldable pub wish_for : Option Cause → (discard0 discard1 discard2 close settle : Bool) → Option Request
wish_for (Some cause) discard0 discard1 discard2 close settle = Some (Request.Terminate cause)
wish_for None discard0 discard1 discard2 close settle =
    cond discard0 (Some (Request.Discard Stdout))
    (cond discard1 (Some (Request.Discard Stderr))
    (cond discard2 (Some (Request.Discard Notes))
    (cond close (Some Request.CloseInput) (cond settle (Some Request.Settle) None))))

unfoldable pub wish : Runner → Option Request
wish r =
    wish_for r.life.terminate_request (out_of Stdout r).discard_requested (out_of Stderr r).discard_requested (out_of Notes r).discard_requested
    r.input.close_requested r.flags.settle_request

abbrev pub handed : Request → Runner → Runner
handed (Request.Terminate cause) r = with_life (terminate_taken r.life) r
handed (Request.Discard x) r = at x asked_out r
handed Request.CloseInput r = with_input (close_asked r.input) r
handed Request.Settle r =
    with_flags (flags_of r.flags.started_message false r.flags.gave_up r.flags.launch_abandoned r.flags.detached r.flags.credited r.flags.finished) r

unfoldable pub wish_effect : Option Request → Runner → Runner
wish_effect None r = r
wish_effect (Some q) r = handed q r
