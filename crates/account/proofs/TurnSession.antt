-- Two sessions in which the turn is taken, computed from the definitions: no cancel, rows over the end of the ring, and a Terminal
-- that reports both streams untruncated. So what `Turn` asks can be met, and what it says is not empty. The first is of calls; its
-- runner and stores are those of the session of 01's card. The second is of a channel: credit comes in a record read, and every
-- message goes out in a record written; the program's status is any, and where no request tells it Terminal is left.
use Rattle.std.specs.Prelude.{Option, Result, Some, None, Ok}
use Rattle.runner.specs.declared.answer.Message.{Message}
use Rattle.exec.specs.declared.Status.{Status}
use Rattle.exec.specs.declared.Refusal.{Refusal}
use mathlib.Core.Bool.{Bool, true, false, ◌&&◌, false≢true}
use mathlib.Core.Path.{◌≡◌, refl, sym, ap, ◌∙◌}
use mathlib.Core.List.{List, [], ◌∷◌, ◌++◌, map}
use Prim.Native.Nat.{ℕ, zero, suc, ◌≤◌}
use native.Mathlib.Omega.{arith}
use borrow.Author.Tests.{le-leb}
use lib.IntN.{pos, negsuc}
use lib.ListN.{length, take, drop}
use Rattle.exec.specs.declared.Outcome.{Outcome}
use Rattle.exec.specs.declared.Pool.TheVariants as Pool
use Rattle.exec.specs.declared.Settlement.TheVariants as Settlement
use Rattle.exec.specs.declared.Stream.{Stream}
use Rattle.exec.specs.declared.Stream.TheVariants.{Stdout, Stderr}
use Rattle.exec.specs.Key.{admits}
use Rattle.exec.specs.Limits.{cost, bytes_with, bytes_window, limits_for, has_notes}
use Rattle.ring.specs.Ring.{wrap, ring_read, ring_from, ring_write}
use Rattle.ring.specs.Runs.{copied}
use Rattle.runner.specs.Calls as Calls
use Rattle.choice.specs.declared.Choice.TheVariants as Choice
use Rattle.choice.specs.Order.{if_else, order}
use Rattle.runner.specs.Life.{close_runner_input, pass_grace, pass_timeout, pass_settlement, pass_give_up, pass_abandonment, fire, ticked, note_started, note_launch, launched_next, note_exit, note_exit_once, exited_next, settled_next, is_ready, outcome_of}
use Rattle.runner.specs.Message.{sendable_of, choose, output_paid, output_sent, effect, payload, said_for, buffer_after}
use Rattle.runner.specs.Range.{bytes_do, stop, fresh}
use Rattle.runner.specs.Streams.{output_taken, output_next, output_store, credit_in, credit_answer, credit_next, closed_next}
use Rattle.octets.specs.Bytes.{be32_at, number_at}
use Rattle.octets.specs.Text as Text
use Rattle.codec.specs.Codec.{header, bytes_of, kinded, fitting, checked, read}
use Rattle.channel.specs.Calls as Channel
use Rattle.carrier.specs.Carrier.{WriteAfter, asked, told, wrote, wrote_buffer}
use Rattle.carrier.specs.Writes.{Writes, left, taken, writes}
use Rattle.channel.specs.Calls.{is_channel, is_left, sent_as, sent_buffer, carriage}
use Rattle.exits.specs.Exit.{is_told, is_untold, request, ending}
use Rattle.account.specs.Account.{Tally, timeout_r, give_up_a, abandon_a, tick_a, exit_r, exit_a, adds, add, start, tally_of}
use Rattle.calls.specs.Call as Call
use Rattle.calls.specs.Call.{Conf, Call, Answer}
use Rattle.account.specs.Claim.{Opens, is_terminal, any_terminal}
use Rattle.account.specs.Records.{Entry, EntryDone, call, read_record, write_record, next_entry, wrote_as, answers, answer_entry, after_entries, run_entries, call_of, roomy, made}
use Rattle.account.specs.Step as Step
use Rattle.account.specs.Step.{State}
use Rattle.account.specs.TurnClaim.{Has, closing, answer_after, carried, taken_in, sent_in}
use Rattle.std.proofs.lemmas.Bool.{or_parts}
use Rattle.runner.specs.TerminalLaws.{still}
use Rattle.account.proofs.Plain as Plain
use Rattle.account.proofs.Plain.{said, next, answer, begun, after_all, run}
use Rattle.account.proofs.Finish.{Ends, ends, ends_answer}
use Rattle.account.proofs.Lists.{plain_of}
use Rattle.account.proofs.Demand.{goes, answer_same, same_run, same_answer, same_account as plain_account}
use Rattle.account.proofs.EachRecord.{Does}
use Rattle.account.proofs.Records.{Good, does, made_so, good_open, good_entry, good_at, same_account}
use Rattle.account.proofs.Session.{conf, message, answers_of, open_ok, named_four}
use Rattle.account.proofs.Told.{tallied, taken_told}
use Rattle.account.proofs.Turn.{turn}

-- exited with 0
abbrev pub zero_status : Option Status
zero_status = Some (Status.Exited (pos 0))

-- seven bytes of stdout through a ring of four; then the program closes both streams and exits
abbrev pub calls : List Call
calls = Call.launched (Ok tt)
    ∷ Call.credit (record { id = 7; generation = 2 }) Pool.Stdout 3
    ∷ Call.output Stdout (97 ∷ 98 ∷ 99 ∷ 100 ∷ 101 ∷ [])
    ∷ message
    ∷ message
    ∷ message
    ∷ Call.output Stdout (101 ∷ 102 ∷ 103 ∷ [])
    ∷ Call.credit (record { id = 7; generation = 2 }) Pool.Stdout 8
    ∷ message
    ∷ Call.output_closed Stdout
    ∷ Call.output_closed Stderr
    ∷ Call.exited 20 zero_status
    ∷ Call.settled Settlement.Settled
    ∷ message
    ∷ message
    ∷ message
    ∷ []

abbrev pub entries : List Entry
entries = map call calls

-- nothing truncated
abbrev pub whole_with : Option Status → Outcome
whole_with status = record {
  status = status;
  cause = None;
  launch_failure = None;
  stdout_truncated = false;
  stderr_truncated = false;
  notes_truncated = false;
  reusable = true;
}

abbrev pub complete : Outcome
complete = whole_with zero_status

-- the bytes taken are those sent
abbrev pub rows : Tally
rows = record {
  taken = 97 ∷ 98 ∷ 99 ∷ 100 ∷ 101 ∷ 102 ∷ 103 ∷ [];
  sent = 97 ∷ 98 ∷ 99 ∷ 100 ∷ 101 ∷ 102 ∷ 103 ∷ [];
  mark = false;
}

-- Terminal comes so, and with this account of stdout
abbrev Comes : (bytes lengths : List ℕ) → Type 0
Comes bytes lengths =
    (answer (after_all (begun conf 0 bytes lengths) calls) message ≡ Call.Says (Call.Terminal complete))
    × (tally_of Stdout (plain_of conf 0 bytes lengths calls) ≡ rows)

-- only the first four bytes of the store are written
computed : (a0 a1 a2 a3 : ℕ) (rest lengths : List ℕ) → Comes (a0 ∷ a1 ∷ a2 ∷ a3 ∷ rest) lengths
unfolding next answer said admits cost wrap ring_read ring_from ring_write copied if_else close_runner_input pass_grace pass_timeout pass_settlement pass_give_up pass_abandonment fire ticked note_started note_launch launched_next note_exit note_exit_once exited_next settled_next is_ready outcome_of sendable_of order choose output_paid output_sent effect payload fresh output_taken output_next output_store credit_in credit_answer credit_next closed_next timeout_r give_up_a abandon_a tick_a exit_r exit_a adds add start has_notes
computed a0 a1 a2 a3 rest lengths = (refl, refl)

plain : (bytes lengths : List ℕ) → 16 ≤ length bytes → Comes bytes lengths
plain bytes lengths h = named_four (λ (b : List ℕ). Comes b lengths) (λ a0 a1 a2 a3 rest. computed a0 a1 a2 a3 rest lengths) bytes h

module _ (bytes lengths : List ℕ) (h : 16 ≤ length bytes) where
  -- Terminal reports stdout untruncated
  pub terminal : answer_after conf 0 bytes lengths entries (call message) ≡ Call.Says (Call.Terminal complete)
  unfolding answer_entry next_entry
  terminal = same_answer conf 0 bytes lengths (open_ok bytes lengths h) calls message ∙ (plain bytes lengths h).0

  account_is : tallied conf 0 bytes lengths entries Stdout ≡ rows
  unfolding made
  account_is =
      ap (tally_of Stdout) (same_account conf 0 bytes lengths (open_ok bytes lengths h) entries ∙ plain_account conf 0 bytes lengths (open_ok bytes lengths h) calls)
      ∙ (plain bytes lengths h).1

  -- the bytes taken of it are these
  pub taken_is : taken_in Stdout (run_entries (Step.opened conf 0 bytes lengths) entries) ≡ rows.taken
  taken_is = sym (taken_told conf 0 bytes lengths (open_ok bytes lengths h) entries Stdout) ∙ ap (λ (t : Tally). t.taken) account_is

  -- and the turn speaks of it: these were sent
  pub all_sent : sent_in Stdout (run_entries (Step.opened conf 0 bytes lengths) entries) ≡ rows.taken
  all_sent = (turn conf 0 bytes lengths (open_ok bytes lengths h)).rows entries (call message) complete Stdout terminal refl ∙ taken_is

  pub program_closed : Has (closing Stdout) (run_entries (Step.opened conf 0 bytes lengths) entries)
  program_closed = (turn conf 0 bytes lengths (open_ok bytes lengths h)).own entries (call message) complete Stdout refl terminal refl

  -- whatever comes after
  pub stays : (ds : List Entry) → taken_in Stdout (run_entries (Step.opened conf 0 bytes lengths) (entries ++ (call message ∷ ds))) ≡ rows.taken
  stays ds = ((turn conf 0 bytes lengths (open_ok bytes lengths h)).final entries (call message) ds Stdout (ap is_terminal terminal)).0 ∙ taken_is

-- ---- a channel

-- the same with one pool for both streams
abbrev pub channel : Conf
channel = record {
  key = record { id = 7; generation = 2 };
  limits = limits_for 4 (bytes_window 8) (bytes_window 8) true;
  timers = record { timeout = None; grace = 10; settlement = 5 };
  smallest = 1;
}

abbrev pub zeros : ℕ → List ℕ
zeros zero = []
zeros (suc n) = 0 ∷ zeros n

-- a record into 43 bytes, for channel 1
abbrev pub written : Entry
written = write_record 1 (zeros 43)

-- WINDOW_ADJUST of 8 bytes, for channel 1
abbrev pub adjust : Entry
adjust = read_record 0 1 (93 ∷ 0 ∷ 0 ∷ 0 ∷ 1 ∷ 0 ∷ 0 ∷ 0 ∷ 8 ∷ [])

abbrev pub records : Option Status → List Entry
records status = call (Call.launched (Ok tt))
    ∷ adjust
    ∷ call (Call.output Stdout (97 ∷ 98 ∷ 99 ∷ []))
    ∷ call (Call.output Stderr (120 ∷ 121 ∷ []))
    ∷ written
    ∷ written
    ∷ written
    ∷ written
    ∷ call (Call.output Stdout (100 ∷ 101 ∷ []))
    ∷ written
    ∷ call (Call.output_closed Stdout)
    ∷ call (Call.output_closed Stderr)
    ∷ call (Call.exited 20 status)
    ∷ call (Call.settled Settlement.Settled)
    ∷ written
    ∷ written
    ∷ written
    ∷ []

-- what each is answered
abbrev pub answered : List Answer
answered = Call.Ok
    ∷ Call.Applied
    ∷ Call.Taken 3
    ∷ Call.Taken 2
    ∷ Call.Says (Call.Credit 8)
    ∷ Call.Says Call.Started
    ∷ Call.Says (Call.Output Stdout (97 ∷ 98 ∷ 99 ∷ []))
    ∷ Call.Says (Call.Output Stderr (120 ∷ 121 ∷ []))
    ∷ Call.Taken 2
    ∷ Call.Says (Call.Output Stdout (100 ∷ 101 ∷ []))
    ∷ Call.Ok
    ∷ Call.Ok
    ∷ Call.Ok
    ∷ Call.Ok
    ∷ Call.Says Call.InputClosed
    ∷ Call.Says (Call.End Stdout)
    ∷ Call.Says (Call.End Stderr)
    ∷ []

-- the calls that they make
abbrev next_one : Call
next_one = Call.next_message (0 ∷ 0 ∷ 0 ∷ 0 ∷ [])

abbrev channel_calls : Option Status → List Call
channel_calls status = Call.launched (Ok tt)
    ∷ Call.credit (record { id = 7; generation = 2 }) Pool.Output 8
    ∷ Call.output Stdout (97 ∷ 98 ∷ 99 ∷ [])
    ∷ Call.output Stderr (120 ∷ 121 ∷ [])
    ∷ next_one
    ∷ next_one
    ∷ next_one
    ∷ next_one
    ∷ Call.output Stdout (100 ∷ 101 ∷ [])
    ∷ next_one
    ∷ Call.output_closed Stdout
    ∷ Call.output_closed Stderr
    ∷ Call.exited 20 status
    ∷ Call.settled Settlement.Settled
    ∷ next_one
    ∷ next_one
    ∷ next_one
    ∷ []

-- made unless a Terminal is left
abbrev AllAsk : Conf → List Entry → List Call → Type 0
AllAsk k [] [] = Unit
AllAsk k [] (c ∷ cs) = ⊥
AllAsk k (e ∷ es) [] = ⊥
AllAsk k (e ∷ es) (c ∷ cs) = (made k e Call.Ok ≡ c ∷ []) × AllAsk k es cs

records_ask : (status : Option Status) → AllAsk channel (records status) (channel_calls status)
unfolding made call_of read kinded checked fitting number_at be32_at
records_ask status = (refl, (refl, (refl, (refl, (refl, (refl, (refl, (refl, (refl, (refl, (refl, (refl, (refl, (refl, (refl, (refl, (refl, tt)))))))))))))))))

abbrev ChannelComes : Option Status → (bytes lengths : List ℕ) → Type 0
ChannelComes status bytes lengths =
    (answers_of (run (begun channel 0 bytes lengths) (channel_calls status)) ≡ answered)
    × (answer (after_all (begun channel 0 bytes lengths) (channel_calls status)) next_one ≡ Call.Says (Call.Terminal (whole_with status)))
    × (any_terminal (run (begun channel 0 bytes lengths) (channel_calls status)) ≡ false)

-- only the first eight bytes of the store are written
channel_computed : (status : Option Status) (a0 a1 a2 a3 a4 a5 a6 a7 : ℕ) (rest lengths : List ℕ) → ChannelComes status (a0 ∷ a1 ∷ a2 ∷ a3 ∷ a4 ∷ a5 ∷ a6 ∷ a7 ∷ rest) lengths
unfolding next answer said admits cost wrap ring_read ring_from ring_write copied if_else close_runner_input pass_grace pass_timeout pass_settlement pass_give_up pass_abandonment fire ticked note_started note_launch launched_next note_exit note_exit_once exited_next settled_next is_ready outcome_of sendable_of order choose output_paid output_sent effect payload fresh output_taken output_next output_store credit_in credit_answer credit_next closed_next has_notes
channel_computed status a0 a1 a2 a3 a4 a5 a6 a7 rest lengths = (refl, refl, refl)

named_eight : (P : List ℕ → Type 0) → ((a0 a1 a2 a3 a4 a5 a6 a7 : ℕ) (rest : List ℕ) → P (a0 ∷ a1 ∷ a2 ∷ a3 ∷ a4 ∷ a5 ∷ a6 ∷ a7 ∷ rest))
    → (bytes : List ℕ) → 16 ≤ length bytes → P bytes
named_eight P p (a0 ∷ a1 ∷ a2 ∷ a3 ∷ a4 ∷ a5 ∷ a6 ∷ a7 ∷ rest) h = p a0 a1 a2 a3 a4 a5 a6 a7 rest
named_eight P p _ h = absurd (omega arith)

channel_plain : (status : Option Status) (bytes lengths : List ℕ) → 16 ≤ length bytes → ChannelComes status bytes lengths
channel_plain status bytes lengths h =
    named_eight (λ (b : List ℕ). ChannelComes status b lengths) (λ a0 a1 a2 a3 a4 a5 a6 a7 rest. channel_computed status a0 a1 a2 a3 a4 a5 a6 a7 rest lengths) bytes h

-- the answers of a list of what was done, and the bytes that they carry
abbrev pub answers_in : List EntryDone → List Answer
answers_in ds = map (λ (d : EntryDone). d.answer) ds

abbrev carried_all : Stream → List Answer → List ℕ
carried_all x [] = []
carried_all x (r ∷ rs) = carried x r ++ carried_all x rs

by_answers : (x : Stream) (ds : List EntryDone) → sent_in x ds ≡ carried_all x (answers_in ds)
by_answers x [] = refl
by_answers x (d ∷ ds) = ap (λ (b : List ℕ). carried x d.answer ++ b) (by_answers x ds)

-- where no Terminal comes, entries are answered as the calls that they ask for, and leave what those leave
pub all_made : (conf : Conf) (es : List Entry) (cs : List Call) (s : State) → Good conf s → AllAsk conf es cs → any_terminal (Step.run s cs) ≡ false
    → (answers_in (run_entries s es) ≡ answers_of (Step.run s cs)) × (after_entries s es ≡ Step.after s cs)
unfolding Does
all_made conf [] [] s g k h = (refl, refl)
all_made conf [] (c ∷ cs) s g k h = absurd k
all_made conf (e ∷ es) [] s g k h = absurd k
all_made conf (e ∷ es) (c ∷ cs) s g k h =
    let not_yet = or_parts (is_terminal (Step.answer s c)) (any_terminal (Step.run (Step.next s c) cs)) h in
    let m = made_so conf e c s g k.0 not_yet.0 in
    let d : Does e (c ∷ []) s (next_entry s e) (answer_entry s e) = rw m at (does conf e s g) in
    let p = all_made conf es cs (next_entry s e) (good_entry conf e s g) k.1 (rw d.0 not_yet.1) in (
      rw (d.1, p.0, d.0) refl,
      p.1 ∙ ap (λ (t : State). Step.after t cs) d.0,
    )

-- what becomes of Terminal: a status that is told goes out at the buffer's front, one that no request tells is left
abbrev pub Closes : (untold : Bool) → Option Status → WriteAfter → Type 0
Closes true status w = answers w ≡ Call.Refused 40
Closes false status w =
    (w.writing.answer ≡ (Ok (Some ((Message.Terminal (whole_with status)), (length (ending 1 status))))))
    × (w.buffer ≡ ending 1 status ++ drop (length (ending 1 status)) (zeros 43))

closes_by : (s : State) (status : Option Status) (b met : Bool) (w : WriteAfter) → Writes (carriage s.runner 1 s.bytes (zeros 43)) s.runner s.bytes (zeros 43) met w → met ≡ true → is_untold status ≡ b
    → stop s.runner (bytes_do s.runner.limits s.bytes) ≡ Ok tt → ((n : ℕ) → choose s.runner n ≡ Choice.Terminal)
    → outcome_of s.runner ≡ whole_with status → s.runner.limits.chunk ≡ 4 → Closes b status w
unfolding asked told wrote wrote_buffer sent_as sent_buffer is_left Calls.next_message said_for buffer_after
closes_by s status true met w (left v) m u g c o k = refl
closes_by s status false met w (left v) m u g c o k =
    let z : is_untold status ≡ true = rw (g, c (length (take s.runner.limits.chunk (zeros 30))), o) at v in absurd (false≢true (sym u ∙ z))
closes_by s status true met w (taken v h) m u g c o k =
    let z : is_untold status ≡ false = rw (g, c (length (take s.runner.limits.chunk (zeros 30))), o) at v in absurd (false≢true (sym z ∙ u))
closes_by s status false met w (taken v h) m u g c o k = rw (g, c (length (take s.runner.limits.chunk (zeros 30))), o, k) (refl, refl)
closes_by s status b met w _ m u g c o k = absurd (false≢true m)

module _ (status : Option Status) (bytes lengths : List ℕ) (h : 16 ≤ length bytes) where
  pub channel_opens : Opens channel 0 bytes lengths
  unfolding Calls.«open» bytes_with has_notes
  channel_opens = rw (le-leb 16 (length bytes) h, le-leb 0 (length lengths) (omega arith)) refl

  abbrev begins : State
  begins = Step.opened channel 0 bytes lengths

  abbrev calls_run : Step.run begins (channel_calls status) ≡ run (begun channel 0 bytes lengths) (channel_calls status)
  calls_run = same_run channel 0 bytes lengths channel_opens (channel_calls status)

  records_made : (answers_in (run_entries begins (records status)) ≡ answers_of (Step.run begins (channel_calls status))) × (after_entries begins (records status) ≡ Step.after begins (channel_calls status))
  records_made =
      all_made channel (records status) (channel_calls status) begins (good_open channel 0 bytes lengths channel_opens) (records_ask status)
      (ap any_terminal calls_run ∙ (channel_plain status bytes lengths h).2)

  -- the calls and records are answered so
  pub channel_answers : answers_in (run_entries begins (records status)) ≡ answered
  channel_answers = records_made.0 ∙ ap answers_of calls_run ∙ (channel_plain status bytes lengths h).0

  abbrev pub last : WriteAfter
  last = Channel.write_record (after_entries begins (records status)).runner 1 (after_entries begins (records status)).bytes (zeros 43)

  -- then Terminal is written, or left
  pub channel_closes : (b : Bool) → is_untold status ≡ b → Closes b status last
  unfolding Plain.enough Channel.write_record
  channel_closes b u =
      let s : State = after_entries begins (records status) in
      let f = good_at channel 0 bytes lengths channel_opens (records status) in
      let g : stop s.runner (bytes_do s.runner.limits s.bytes) ≡ (Ok tt) = goes s next_one f.fine in
      let says : answer s next_one ≡ Call.Says (Call.Terminal (whole_with status)) =
      sym (answer_same s next_one f.fine) ∙ ap (λ (t : State). Step.answer t next_one) records_made.1
      ∙ same_answer channel 0 bytes lengths channel_opens (channel_calls status) next_one ∙ (channel_plain status bytes lengths h).1 in
      let d : Ends s next_one = ends next_one s (ap is_terminal says) in
      let outcome : outcome_of s.runner ≡ whole_with status = cc (ends_answer s next_one d) in
      closes_by s status b _ _ (writes (carriage s.runner 1 s.bytes (zeros 43)) s.runner s.bytes (zeros 43) g) (ap (λ (c : Conf). is_channel c.limits && roomy c (zeros 43)) f.same) u g
      (λ n. still s.runner _ n d.chosen) outcome (ap (λ (c : Conf). c.limits.chunk) f.same)

  pub channel_left : is_untold status ≡ true → answer_after channel 0 bytes lengths (records status) written ≡ Call.Refused 40
  unfolding answer_entry
  channel_left u = channel_closes true u

  -- it reports both streams untruncated
  pub channel_terminal : is_untold status ≡ false → answer_after channel 0 bytes lengths (records status) written ≡ Call.Says (Call.Terminal (whole_with status))
  unfolding answer_entry
  channel_terminal u = ap (λ (x : (Result (Option (Message × ℕ)) Refusal)). wrote_as x last.buffer) (channel_closes false u).0

  -- these bytes were sent of each stream, in the records that carry them
  pub channel_sent : (sent_in Stdout (run_entries begins (records status)) ≡ 97 ∷ 98 ∷ 99 ∷ 100 ∷ 101 ∷ []) × (sent_in Stderr (run_entries begins (records status)) ≡ 120 ∷ 121 ∷ [])
  channel_sent = (
    by_answers Stdout (run_entries begins (records status)) ∙ ap (carried_all Stdout) channel_answers,
    by_answers Stderr (run_entries begins (records status)) ∙ ap (carried_all Stderr) channel_answers,
  )

  -- and the turn speaks of them: they are all that was taken
  pub channel_taken : is_untold status ≡ false
      → (taken_in Stdout (run_entries begins (records status)) ≡ 97 ∷ 98 ∷ 99 ∷ 100 ∷ 101 ∷ []) × (taken_in Stderr (run_entries begins (records status)) ≡ 120 ∷ 121 ∷ [])
  channel_taken u =
      let t = (turn channel 0 bytes lengths channel_opens).rows (records status) written (whole_with status) in (
        sym (t Stdout (channel_terminal u) refl) ∙ channel_sent.0,
        sym (t Stderr (channel_terminal u) refl) ∙ channel_sent.1,
      )

-- of a program that exited with 0 a 98, exit-status, and CLOSE: 30 bytes
pub zero_closes : (ending 1 zero_status ++ drop (length (ending 1 zero_status)) (zeros 43)
    ≡ 98 ∷ 0 ∷ 0 ∷ 0 ∷ 1 ∷ 0 ∷ 0 ∷ 0 ∷ 11 ∷ 101 ∷ 120 ∷ 105 ∷ 116 ∷ 45 ∷ 115 ∷ 116 ∷ 97 ∷ 116 ∷ 117 ∷ 115 ∷ 0 ∷ 0 ∷ 0 ∷ 0 ∷ 0 ∷ 97 ∷ 0 ∷ 0 ∷ 0 ∷ 1 ∷ zeros 13)
    × (length (ending 1 zero_status) ≡ 30) × (is_untold zero_status ≡ false)
unfolding ending request Text.bytes bytes_of header is_untold is_told
zero_closes = (refl, refl, refl)

-- and no request tells a code of −1
pub negative_left : is_untold (Some (Status.Exited (negsuc 0))) ≡ true
unfolding is_untold is_told
negative_left = refl
