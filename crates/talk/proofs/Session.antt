-- Sessions that are computed from the definitions, as the judge is told of them.
use Rattle.std.specs.Prelude.{◌≡◌, refl, List, [], ◌∷◌, ◌++◌, map, ℕ, Ok}
use Rattle.exec.specs.declared.Cause.{Cause}
use Rattle.exec.specs.declared.Key.{Key}
use Rattle.exec.specs.declared.Pool.TheVariants as Pool
use Rattle.exec.specs.declared.Stream.TheVariants.{Stdout, Stderr}
use Rattle.exec.specs.Key.{new_key, admits}
use Rattle.exec.specs.Limits.{cost, bytes_with, has_notes}
use Rattle.ring.specs.Ring.{wrap, ring_read, ring_from, ring_write}
use Rattle.ring.specs.Runs.{copied}
use Rattle.input.specs.Input as Input
use Rattle.output.specs.Output.{output_fits, taken_in, sent}
use Rattle.choice.specs.Order.{if_else, order}
use Rattle.runner.specs.Calls as Calls
use Rattle.runner.specs.Life as Life
use Rattle.runner.specs.Message as Message
use Rattle.runner.specs.Range as Range
use Rattle.runner.specs.Streams as Streams
use Rattle.calls.specs.Call.{Call}
use Rattle.account.specs.Claim.{Opens}
use Rattle.account.specs.Step.{State, next, answer, opened}
use Rattle.account.specs.Records.{call, next_entry, answer_entry, run_entries, made, dones_of}
use Rattle.account.proofs.Session.{conf, message}
use Rattle.judge.specs.declared.Item.{Item}
use Rattle.talk.specs.TalkClaim.{items_of}

abbrev own : Key
own = new_key 7 2

abbrev store : List ℕ
store = 0 ∷ 0 ∷ 0 ∷ 0 ∷ 0 ∷ 0 ∷ 0 ∷ 0 ∷ 0 ∷ 0 ∷ 0 ∷ 0 ∷ 0 ∷ 0 ∷ 0 ∷ 0 ∷ []

-- 01's runner, opened at 0
begins : State
unfolding Calls.«open» Range.fresh bytes_with has_notes
begins = opened conf 0 store []

items : List Call → List Item
unfolding begins next_entry answer_entry made next answer Calls.credit Calls.input Calls.cancel Calls.launched Calls.output Calls.input_written Calls.tick Calls.next_message Range.stop Range.stop_at Range.in_range output_fits bytes_with admits cost wrap ring_read ring_from ring_write copied taken_in sent if_else order Life.close_runner_input Life.end_grace Life.give_up Life.abandon_launch Life.abandon_open_streams Life.begin_termination Life.pass_grace Life.terminate Life.pass_timeout Life.pass_settlement Life.give_up_unless_clean Life.pass_give_up Life.drop_launch Life.drop_streams Life.pass_abandonment Life.fire Life.ticked Life.cancelled Life.cancel_answer Life.cancel_next Life.note_started Life.note_launch Life.launched_next Life.is_ready Life.outcome_of Message.sendable_of Message.choose Message.output_paid Message.output_sent Message.effect Message.payload Message.said_for Message.buffer_after Streams.output_taken Streams.output_next Streams.output_store Streams.output_took Streams.credit_in Streams.credit_answer Streams.credit_next Streams.received Streams.input_answer Streams.input_next Streams.input_store Streams.input_lengths Input.receive_answer Input.receive_input Input.receive_bytes Input.receive_lengths Streams.written_next Streams.written_came Streams.written_lengths Input.written_input Input.written_came Input.written_lengths has_notes
items cs = items_of (dones_of conf (run_entries begins (map call cs)))

-- the session of 01's card
abbrev calls : List Call
calls = Call.launched (Ok tt)
    ∷ Call.credit own Pool.Stdout 3
    ∷ Call.output Stdout (97 ∷ 98 ∷ 99 ∷ 100 ∷ 101 ∷ [])
    ∷ message
    ∷ message
    ∷ message
    ∷ Call.cancel 20 own Cause.Cancelled
    ∷ Call.tick 35
    ∷ message
    ∷ message
    ∷ message
    ∷ message
    ∷ message
    ∷ []

abbrev heard : List Item
heard = Item.Granted Pool.Stdout 3
    ∷ Item.Credit 8
    ∷ Item.Started
    ∷ Item.Output Stdout 3
    ∷ Item.InputClosed
    ∷ Item.End Stdout
    ∷ Item.End Stderr
    ∷ Item.Terminal
    ∷ []

session : items calls ≡ heard
unfolding items
session = refl

-- and behind it: of credit and input that come late the judge is told nothing
late : items (calls ++ (Call.credit own Pool.Stdout 9 ∷ Call.input own (97 ∷ []) ∷ message ∷ [])) ≡ heard
unfolding items
late = refl

-- an input, the units that its bytes free, and an input that is refused (4), of which it is told nothing
brought : items (message ∷ Call.input own (97 ∷ 98 ∷ 99 ∷ []) ∷ Call.input_written 2 ∷ message ∷ Call.input own [] ∷ [])
    ≡ Item.Credit 8 ∷ Item.Input 3 ∷ Item.Credit 2 ∷ []
unfolding items
brought = refl

-- open is answered ok, so that the claim is not of a runner that cannot be
opens : Opens conf 0 store []
unfolding Calls.«open» bytes_with has_notes
opens = refl
