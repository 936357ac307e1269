-- The output streams and the input: what each call does once it is not refused by 12, 10, 46 or 11.
use Rattle.std.specs.Prelude.{ℕ, ◌-◌, max, Bool, false, cond, not, ◌&&◌, ◌||◌, List, ltb, length, Result, Ok, Err}
use Rattle.exec.specs.declared.Receipt.{Receipt}
use Rattle.exec.specs.declared.Admission.TheVariants.{Own, Stale}
use Rattle.exec.specs.declared.Admission.{Admission}
use Rattle.exec.specs.declared.Refusal.{Refusal}
use Rattle.exec.specs.declared.Receipt.TheVariants.{Applied, Stale, Late}
use Rattle.exec.specs.declared.Stream.{Stream}
use Rattle.ring.specs.Ring.{ring_write}
use Rattle.credit.specs.declared.sender.Credit.{Credit}
use Rattle.credit.specs.Sender.{grantable, grant}
use Rattle.input.specs.Input as Input
use Rattle.output.specs.Output.{allowance, takes, keeps, intake, closed_out, failed_out, hung_up, lost_out}
use Rattle.runner.specs.declared.answer.After.{After}
use Rattle.runner.specs.declared.runner.Runner.{Runner}
use Rattle.runner.specs.RangeLaws.{stopped}
use Rattle.runner.specs.State.{with_input, with_flow, out_of, at, base, credit_at, put_credit, buffered}

-- ---- output: closed or given up, it takes 0; while discarding it takes all and keeps none; else min(length, chunk - queued)

-- closed or given up
abbrev pub is_shut : Stream → Runner → Bool
is_shut x r = (out_of x r).closed || r.flags.gave_up

abbrev pub room : Stream → Runner → ℕ
room x r = r.limits.chunk - (out_of x r).queued

unfoldable pub output_taken : Runner → Stream → ℕ → ℕ
output_taken r x n = takes (is_shut x r) (out_of x r).discarding (room x r) n

-- the stream's output with n bytes more
abbrev pub output_filled : Runner → Stream → ℕ → Runner
output_filled r x n = at x (intake (is_shut x r) (out_of x r).discarding (room x r) n) r

-- none are kept: closed, given up or discarding
abbrev pub keeps_none : Stream → Runner → Bool
keeps_none x r = is_shut x r || (out_of x r).discarding

-- the high water is noted where bytes are kept
unfoldable pub output_next : Runner → Stream → ℕ → Runner
output_next r x n =
    with_flow r.credits r.turn r.flags
    (cond (keeps_none x r) r.high_water (max r.high_water (buffered (output_filled r x n))))
    (output_filled r x n)

unfoldable pub output_store : Runner → Stream → (bytes store : List ℕ) → List ℕ
output_store r x bytes store =
    ring_write (base x r.limits.chunk) r.limits.chunk (out_of x r).start (out_of x r).queued bytes
    (keeps (is_shut x r) (out_of x r).discarding (room x r) (length bytes)) store

-- what output leaves: its answer with the state, and the byte store
pub record OutputAfter : Type 0 where
  pub taking : After ℕ
  pub bytes : List ℕ

abbrev pub output_after : After ℕ → List ℕ → OutputAfter
output_after t store = record { taking = t; bytes = store }

unfoldable pub output_took : Runner → Stream → (bytes store : List ℕ) → OutputAfter
output_took r x bytes store =
    output_after
    (record { runner = output_next r x (length bytes); answer = Ok (output_taken r x (length bytes)) })
    (output_store r x bytes store)

unfoldable pub read_allowance_of : Runner → Stream → ℕ
read_allowance_of r x = allowance (out_of x r) r.flags.gave_up r.limits.chunk

unfoldable pub discarded_next : Runner → Stream → ℕ → Runner
discarded_next r x n = at x (lost_out (ltb 0 n)) r

unfoldable pub closed_next : Runner → Stream → Runner
closed_next r x = at x closed_out r

unfoldable pub failed_next : Runner → Stream → Runner
failed_next r x = at x failed_out r

unfoldable pub hung_up_next : Runner → Stream → Runner
hung_up_next r x = at x hung_up r

-- ---- credit: key, pool, finished (Late), then the grant

unfoldable pub credit_in : Result ℕ Refusal → Runner → ℕ → Result Receipt Refusal
credit_in (Err x) r units = Err x
credit_in (Ok i) r units =
    cond r.flags.finished (Ok Late)
    (cond (grantable (credit_at i r.credits) units) (Ok Applied) (Err Refusal.Credit))

unfoldable pub credit_answer : Result Admission Refusal → Result ℕ Refusal → Runner → ℕ → Result Receipt Refusal
credit_answer (Err x) p r units = Err x
credit_answer (Ok Stale) p r units = Ok Stale
credit_answer (Ok Own) p r units = credit_in p r units

-- the accounts after it: a grant that is refused leaves them
abbrev pub credits_in : Result ℕ Refusal → Bool → ℕ → List Credit → List Credit
credits_in (Err x) finished units cs = cs
credits_in (Ok i) finished units cs =
    cond (not finished && grantable (credit_at i cs) units) (put_credit i (grant (credit_at i cs) units).credit cs) cs

abbrev pub credits_after : Result Admission Refusal → Result ℕ Refusal → Bool → ℕ → List Credit → List Credit
credits_after (Err x) p finished units cs = cs
credits_after (Ok Stale) p finished units cs = cs
credits_after (Ok Own) p finished units cs = credits_in p finished units cs

unfoldable pub credit_next : Result Admission Refusal → Result ℕ Refusal → Runner → ℕ → Runner
credit_next a p r units =
    with_flow (credits_after a p r.flags.finished units r.credits) r.turn r.flags r.high_water r

-- ---- input: key, finished (Late), Ended, Chunk, Window, then closed

-- the message is for an execution that still takes it
abbrev pub is_taken : Result Admission Refusal → Runner → Bool
is_taken (Err x) r = false
is_taken (Ok Stale) r = false
is_taken (Ok Own) r = not r.flags.finished

-- the answer to one that is not: of a call that meets none of refusals 12, 10, 46 and 11, and of any
abbrev pub met_by : Result Admission Refusal → Result Receipt Refusal
met_by (Err x) = Err x
met_by (Ok Stale) = Ok Stale
met_by (Ok Own) = Ok Late

abbrev pub met : (good : Bool) → Result Admission Refusal → Runner → Result Receipt Refusal
met good a r = cond good (met_by a) (Err (stopped r))

unfoldable pub input_answer : Result Admission Refusal → Runner → ℕ → Result Receipt Refusal
input_answer (Err x) r n = Err x
input_answer (Ok Stale) r n = Ok Stale
input_answer (Ok Own) r n = cond r.flags.finished (Ok Late) (Input.receive_answer r.limits r.input n)

-- it is kept in the inbox
abbrev pub is_kept : Result Admission Refusal → Runner → ℕ → Bool
is_kept a r n = is_taken a r && Input.is_kept r.limits r.input n

abbrev pub input_received : Result Admission Refusal → Runner → ℕ → Runner
input_received a r n =
    with_input (cond (is_taken a r) (Input.receive_input r.limits r.input n) r.input) r

unfoldable pub input_next : Result Admission Refusal → Runner → ℕ → Runner
input_next a r n =
    with_flow r.credits r.turn r.flags
    (cond (is_kept a r n) (max r.high_water (buffered (input_received a r n))) r.high_water)
    (input_received a r n)

unfoldable pub input_store : Result Admission Refusal → Runner → (bytes store : List ℕ) → List ℕ
input_store a r bytes store = cond (is_taken a r) (Input.receive_bytes r.limits r.input bytes store) store

unfoldable pub input_lengths : Result Admission Refusal → Runner → ℕ → List ℕ → List ℕ
input_lengths a r n lengths = cond (is_taken a r) (Input.receive_lengths r.limits r.input n lengths) lengths

-- what input leaves: its answer with the state, and both stores
pub record InputAfter : Type 0 where
  pub hearing : After Receipt
  pub bytes : List ℕ
  pub lengths : List ℕ

abbrev pub input_after : After Receipt → (store lengths : List ℕ) → InputAfter
input_after h store lengths = record { hearing = h; bytes = store; lengths = lengths }

unfoldable pub received : Result Admission Refusal → Runner → (bytes store lengths : List ℕ) → InputAfter
received a r bytes store lengths =
    input_after
    (record { runner = input_next a r (length bytes); answer = input_answer a r (length bytes) })
    (input_store a r bytes store) (input_lengths a r (length bytes) lengths)

-- a grant's reply as the answer to its message
abbrev pub receipt_of : Result (Unit {0}) Refusal → Result Receipt Refusal
receipt_of (Ok tt) = Ok Applied
receipt_of (Err x) = Err x

-- ---- end_input

unfoldable pub end_answer : Result Admission Refusal → Runner → Result Receipt Refusal
end_answer (Err x) r = Err x
end_answer (Ok Stale) r = Ok Stale
end_answer (Ok Own) r = cond r.flags.finished (Ok Late) (Input.end_answer r.input)

unfoldable pub end_next : Result Admission Refusal → Runner → Runner
end_next a r = with_input (cond (is_taken a r) (Input.end_input r.input) r.input) r

-- ---- the workload's side of the input

unfoldable pub pending_of : Runner → List ℕ → List ℕ
pending_of r store = Input.pending_input r.limits r.input store

unfoldable pub written_next : Runner → ℕ → List ℕ → Runner
written_next r count lengths = with_input (Input.written_input r.limits r.input count lengths) r

unfoldable pub written_came : Runner → ℕ → List ℕ → ℕ
written_came r count lengths = Input.written_came r.limits r.input count lengths

unfoldable pub written_lengths : Runner → ℕ → List ℕ → List ℕ
written_lengths r count lengths = Input.written_lengths r.limits r.input count lengths
