-- Refusals change nothing: by 12, 10, 46 and 11 the guard gives back what it was given; of what is refused behind it `Safe` tells, and of
-- the records' own refusals `Records`. Then those of open, and of what writes and reads the bytes of a record.
use Rattle.framing.specs.Framing.{is_framed as is_framed_stream, named}
use Rattle.inbox.specs.Need.{need_fits}
use Rattle.runner.specs.Streams.{read_allowance_of}
use Rattle.std.specs.Prelude.{Option, Result, Some, None, Ok, Err}
use Rattle.exec.specs.declared.Status.{Status}
use mathlib.Core.Bool.{Bool, true, false, cond, not, ◌&&◌, ◌||◌, false≢true}
use mathlib.Core.Path.{◌≡◌, refl, ap, ◌∙◌, subst, subst⁻¹}
use mathlib.Core.List.{List, [], ◌∷◌}
use Prim.Native.Nat.{ℕ, ◌+◌}
use native.Mathlib.Omega.{arith}
use lib.Dec.{leb, eqb}
use lib.ListN.{length, get_or}
use Rattle.exec.specs.declared.Key.{Key}
use Rattle.exec.specs.declared.Refusal.{Refusal}
use Rattle.exec.specs.declared.Timers.{Timers}
use Rattle.exec.specs.Limits.{bytes_with, is_valid, no_limits, has, has_notes}
use Rattle.exec.specs.Refusal.{number}
use Rattle.runner.specs.declared.runner.Runner.{Runner}
use Rattle.inbox.specs.Receiver.{grant_fits}
use Rattle.runner.specs.Calls as Calls
use Rattle.runner.specs.Calls.{asked_for, stores_do, open_by}
use Rattle.runner.specs.Message.{choose, wish}
use Rattle.runner.specs.RangeLaws.{stop_ends}
use Rattle.runner.specs.Range.{in_range, bytes_do, lengths_do, stop, open_stop, fresh, stop_at}
use Rattle.output.specs.Output.{output_fits}
use Rattle.codec.specs.declared.Record.{Record}
use Rattle.codec.specs.Codec as Codec
use Rattle.exec.specs.Written.{WrittenAfter, written_after}
use Rattle.codec.specs.Codec.{start, size}
use Rattle.exits.specs.Exit as Exit
use Rattle.exits.specs.Exit.{is_untold, is_told, request, is_mine, guess}
use Rattle.octets.specs.Text.{same}
use Rattle.channel.specs.Calls as Channel
use Rattle.channel.specs.Calls.{is_channel, last_end, carriage}
use Rattle.channel.proofs.Ended.{pays}
use Rattle.framing.proofs.Refused.{read_refused, write_refused}
use Rattle.frames.specs.Calls as Frames
use Rattle.frames.specs.Calls.{is_framed}
use Rattle.frames.proofs.Laid as Laid
use Rattle.runner.specs.State.{out_of, outputs_of}
use Rattle.exec.specs.declared.Stream.TheVariants.{Stdout, Stderr}
use Rattle.carrier.specs.Carrier.{accepted, WriteAfter, Carriage, write}
use Rattle.carrier.specs.CarrierLaws.{stopped_so}
use Rattle.carrier.specs.SaidLaws.{Pays}
use Rattle.carrier.specs.Writes.{Writes, taken, tells, writes, stopped as stopped_write}
use Rattle.calls.specs.Call as Call
use Rattle.calls.specs.Call.{Conf, Call, Answer, is_refused}
use Rattle.account.specs.Step as Step
use Rattle.account.specs.Step.{State, on_runner, replied, received_as, asks}
use Rattle.account.specs.Records.{Entry, call, read_record, write_record, read_frame, write_frame, answers, next_entry, answer_entry, after_entries, among, of_entry}
use Rattle.account.specs.Refused.{of_calls, Unwritten, Refusals}
use Rattle.account.proofs.Plain as Plain
use Rattle.account.proofs.Plain.{said, by_open}
use Rattle.std.proofs.lemmas.Bool.{or_right}
use Rattle.account.proofs.Flags.{either}
use Rattle.account.proofs.Guarded.{next_is, answer_is}
use Rattle.account.proofs.EachRecord.{RefusedBy, reads_by, Among, Does}
use Rattle.account.proofs.EachWrite.{told_as}
use Rattle.account.proofs.Records.{read_does, frame_does, write_does, framed_does}
use Rattle.account.proofs.Safe.{IfRefused, Safe, safe_among, Kept, of_plain, credit_safe, input_safe, end_safe, cancel_safe, wish_safe, said_safe}

-- ---- refused by 12, 10, 46 or 11

-- what is known of a refusal that is met: its number
abbrev Known : Result (Unit {0}) Refusal → Type 0
Known (Ok tt) = Unit
Known (Err x) = among (number x) of_calls ≡ true

stop_known : (r : Runner) (stores : Bool) (x : Refusal) → stop r stores ≡ Err x → Known (Err x)
stop_known r stores x e = subst Known e (stop_ends Known refl refl refl r stores refl (λ i v g n s. tt))

pub stopped : (s : State) (c : Call) (x : Refusal) → stop s.runner (Plain.enough s c) ≡ Err x
    → (Step.next s c ≡ s) × (Step.answer s c ≡ Call.Refused (number x))
unfolding stop_at Plain.enough Step.next Step.answer Calls.key Calls.limits Calls.credit Calls.input Calls.end_input Calls.cancel Calls.launched Calls.read_allowance Calls.output Calls.discarded Calls.output_closed Calls.output_failed Calls.output_hung_up Calls.pending_input Calls.input_written Calls.input_closed Calls.exited Calls.settled Calls.dropped Calls.reset Calls.disconnect Calls.tick Calls.deadline Calls.next_request Calls.next_message Calls.is_finished Calls.is_detached Calls.awaits_settlement Calls.memory_bound Calls.buffered Calls.high_water
stopped s (Call.credit k p u) x g = rw g (refl, refl)
stopped s _ x g = rw g (refl, refl)

-- ---- every call

plain_safe : (s : State) (c : Call) → Safe s (Plain.next s c) (Plain.answer s c)
unfolding Plain.next Plain.answer
plain_safe s (Call.credit k p u) = credit_safe s k p u
plain_safe s (Call.input k b) = input_safe s k b
plain_safe s (Call.end_input k) = end_safe s k
plain_safe s (Call.cancel now k c) = cancel_safe s now k c
plain_safe s (Call.output x b) = by_open (Safe s) s _ x (Call.Taken _) (λ o. tt) (record { same = refl; known = refl })
plain_safe s (Call.discarded x n) = by_open (Safe s) s _ x Call.Ok (λ o. tt) (record { same = refl; known = refl })
plain_safe s (Call.output_closed x) = by_open (Safe s) s _ x Call.Ok (λ o. tt) (record { same = refl; known = refl })
plain_safe s (Call.output_failed x) = by_open (Safe s) s _ x Call.Ok (λ o. tt) (record { same = refl; known = refl })
plain_safe s (Call.output_hung_up x) = by_open (Safe s) s _ x Call.Ok (λ o. tt) (record { same = refl; known = refl })
plain_safe s (Call.read_allowance x) = by_asked (has s.runner.limits x)
  where
    by_asked : (h : Bool) → Safe s s (cond h (Call.Value (read_allowance_of s.runner x)) (Call.Refused 2))
    by_asked true = tt
    by_asked false = record { same = refl; known = refl }
plain_safe s Call.next_request = wish_safe s _ (wish s.runner)
plain_safe s (Call.next_message buffer) = said_safe _ _ (choose s.runner (length buffer)) s.runner s.bytes
plain_safe s _ = tt

-- the calls' numbers are among these
of_call : (n : ℕ) → among n of_plain ≡ true → among n of_calls ≡ true
of_call n h = grind (arith, h)

abbrev SafeCall : State → Call → Answer → Type 0
SafeCall s c = IfRefused (Step.next s c ≡ s) (Kept of_calls s (Step.next s c))

safe_by : (met : Result (Unit {0}) Refusal) (s : State) (c : Call) → stop s.runner (Plain.enough s c) ≡ met → SafeCall s c (Step.answer s c)
safe_by (Ok tt) s c g =
    rw (next_is s c g, answer_is s c g) (safe_among of_calls of_call s (Plain.next s c) (Plain.answer s c) (plain_safe s c))
safe_by (Err x) s c g =
    let p = stopped s c x g in rw p.1 (record { same = p.0; known = stop_known s.runner (Plain.enough s c) x g })

safe : (s : State) (c : Call) → SafeCall s c (Step.answer s c)
safe s c = safe_by (stop s.runner (Plain.enough s c)) s c refl

refused : (s : State) (c : Call) (n : ℕ) → Step.answer s c ≡ Call.Refused n → Kept of_calls s (Step.next s c) n
refused s c n e = subst (SafeCall s c) e (safe s c)

stale : (s : State) (c : Call) → Step.answer s c ≡ Call.Stale → Step.next s c ≡ s
stale s c e = subst (SafeCall s c) e (safe s c)

-- ---- a record

record KeptBy (e : Entry) (s t : State) (n : ℕ) : Type 0 where
  same : t ≡ s
  known : (among n of_calls || among n (of_entry e)) ≡ true

abbrev EntrySafe : Entry → (s t : State) → Answer → Type 0
EntrySafe e s t a = IfRefused (t ≡ s) (KeptBy e s t) a

-- refused as the calls that it makes, or by its own
call_safe : (e : Entry) (s t : State) (a : Answer) → IfRefused (t ≡ s) (Kept of_calls s t) a → EntrySafe e s t a
call_safe e s t (Call.Refused n) h = record { same = h.same; known = rw h.known refl }
call_safe e s t _ h = h

then_safe : (e : Entry) (s u t : State) (a : Answer) → IfRefused (u ≡ s) (Kept of_calls s u) a → EntrySafe e u t a → EntrySafe e s t a
then_safe e s u t Call.Stale p q = q ∙ p
then_safe e s u t (Call.Refused n) p q = record { same = q.same ∙ p.same; known = q.known }
then_safe e s u t _ p q = tt

does_safe : (e : Entry) (m : List Call) (s t : State) (a : Answer) → Does e m s t a → EntrySafe e s t a
unfolding Does
does_safe e [] s t a d = rw d.answered (record { same = d.kept; known = or_right (among d.refusal of_calls) (among d.refusal (of_entry e)) d.own })
does_safe e (c ∷ []) s t a d = rw (d.0, d.1) (call_safe e s (Step.next s c) (Step.answer s c) (safe s c))
does_safe e (c ∷ b ∷ m) s t a d = then_safe e s (Step.next s c) t a (subst⁻¹ (SafeCall s c) d.0 (safe s c)) (does_safe e (b ∷ m) (Step.next s c) t a d.2)

-- refused by 12, 10, 46 or 11
stop_safe : (e : Entry) (s : State) (stores : Bool) (x : Refusal) → stop s.runner stores ≡ Err x → EntrySafe e s s (Call.Refused (number x))
stop_safe e s stores x g = record { same = refl; known = rw (stop_known s.runner stores x g) refl }

read_safe : (met : Result (Unit {0}) Refusal) (s : State) (now channel : ℕ) (b : List ℕ) → stop s.runner (stores_do s.runner s.bytes s.lengths) ≡ met
    → let e = read_record now channel b in EntrySafe e s (next_entry s e) (answer_entry s e)
unfolding next_entry answer_entry Channel.read_record Channel.parsed_read accepted
read_safe (Ok tt) s now channel b g = does_safe _ _ _ _ _ (read_does s now channel b g)
read_safe (Err x) s now channel b g =
    rw (stopped_so s.runner (stores_do s.runner s.bytes s.lengths) (is_channel s.runner.limits) Refusal.NotAChannel x g) (stop_safe _ s _ x g)

frame_safe : (met : Result (Unit {0}) Refusal) (s : State) (now stream : ℕ) (b : List ℕ) → stop s.runner (stores_do s.runner s.bytes s.lengths) ≡ met
    → let e = read_frame now stream b in EntrySafe e s (next_entry s e) (answer_entry s e)
unfolding next_entry answer_entry Frames.read_frame Frames.parsed_read accepted
frame_safe (Ok tt) s now stream b g = does_safe _ _ _ _ _ (frame_does s now stream b g)
frame_safe (Err x) s now stream b g =
    rw (stopped_so s.runner (stores_do s.runner s.bytes s.lengths) (is_framed s.runner.limits stream) Refusal.NotFramed x g) (stop_safe _ s _ x g)

write_safe : (met : Result (Unit {0}) Refusal) (s : State) (channel : ℕ) (buffer : List ℕ) → stop s.runner (bytes_do s.runner.limits s.bytes) ≡ met
    → let e = write_record channel buffer in EntrySafe e s (next_entry s e) (answer_entry s e)
unfolding next_entry answer_entry Channel.write_record
write_safe (Ok tt) s channel buffer g = does_safe _ _ _ _ _ (write_does s channel buffer g)
write_safe (Err x) s channel buffer g = rw (stopped_write (carriage s.runner channel s.bytes buffer) s.runner s.bytes buffer x g) (stop_safe _ s _ x g)

framed_safe : (met : Result (Unit {0}) Refusal) (s : State) (stream : ℕ) (buffer : List ℕ) → stop s.runner (bytes_do s.runner.limits s.bytes) ≡ met
    → let e = write_frame stream buffer in EntrySafe e s (next_entry s e) (answer_entry s e)
unfolding next_entry answer_entry Frames.write_frame
framed_safe (Ok tt) s stream buffer g = does_safe _ _ _ _ _ (framed_does s stream buffer g)
framed_safe (Err x) s stream buffer g = rw (stopped_write (Frames.carriage s.runner stream) s.runner s.bytes buffer x g) (stop_safe _ s _ x g)

entry_safe : (s : State) (e : Entry) → EntrySafe e s (next_entry s e) (answer_entry s e)
unfolding next_entry answer_entry
entry_safe s (call c) = call_safe (call c) s (Step.next s c) (Step.answer s c) (safe s c)
entry_safe s (read_record now channel b) = read_safe (stop s.runner (stores_do s.runner s.bytes s.lengths)) s now channel b refl
entry_safe s (write_record channel buffer) = write_safe (stop s.runner (bytes_do s.runner.limits s.bytes)) s channel buffer refl
entry_safe s (read_frame now stream b) = frame_safe (stop s.runner (stores_do s.runner s.bytes s.lengths)) s now stream b refl
entry_safe s (write_frame stream buffer) = framed_safe (stop s.runner (bytes_do s.runner.limits s.bytes)) s stream buffer refl

kept : (s : State) (e : Entry) (n : ℕ) → answer_entry s e ≡ Call.Refused n → KeptBy e s (next_entry s e) n
kept s e n a = subst (EntrySafe e s (next_entry s e)) a (entry_safe s e)

stale_entry : (s : State) (e : Entry) → answer_entry s e ≡ Call.Stale → next_entry s e ≡ s
stale_entry s e a = subst (EntrySafe e s (next_entry s e)) a (entry_safe s e)

-- ---- the buffers

message_buffer : (met : Result (Unit {0}) Refusal) (s : State) (buffer : List ℕ) → stop s.runner (bytes_do s.runner.limits s.bytes) ≡ met
    → IfRefused Unit (λ n. (Calls.next_message s.runner s.bytes buffer).buffer ≡ buffer) (Step.answer s (Call.next_message buffer))
unfolding Calls.next_message Plain.enough Plain.answer
message_buffer (Ok tt) s buffer g =
    rw (answer_is s (Call.next_message buffer) g) (said_safe _ _ (choose s.runner (length buffer)) s.runner s.bytes)
message_buffer (Err x) s buffer g = rw (stopped s (Call.next_message buffer) x g).1 (rw g refl)

abbrev BufferSafe : WriteAfter → List ℕ → Type 0
BufferSafe w buffer = IfRefused Unit (λ n. w.buffer ≡ buffer) (answers w)

-- whatever carries it
module _ (s : State) (e : Entry) (k : Carriage) (buffer : List ℕ) (pays : Pays k.at k.laying) where
  buffer_by : stop s.runner (bytes_do s.runner.limits s.bytes) ≡ Ok tt → (met : Bool) (w : WriteAfter) → Writes k s.runner s.bytes buffer met w → BufferSafe w buffer
  buffer_by g met w (taken u h) = told_as s e k buffer pays g (IfRefused Unit (λ n. (tells k s.runner s.bytes buffer).buffer ≡ buffer)) tt (λ x. tt)
  buffer_by g met w _ = refl

  write_buffer : BufferSafe (write k s.runner s.bytes buffer) buffer
  write_buffer = by (stop s.runner (bytes_do s.runner.limits s.bytes)) refl
    where
      by : (met : Result (Unit {0}) Refusal) → stop s.runner (bytes_do s.runner.limits s.bytes) ≡ met → BufferSafe (write k s.runner s.bytes buffer) buffer
      by (Ok tt) g = buffer_by g _ _ (writes k s.runner s.bytes buffer g)
      by (Err x) g = rw (stopped_write k s.runner s.bytes buffer x g) refl

-- ---- open

module _ (conf : Conf) (now : ℕ) where
  open_by_lem : (valid grants stores : Bool)
      → replied (open_by (cond (not valid) (Err Refusal.NoLimits) (cond (not grants) (Err Refusal.SmallestGrant) (cond (not stores) (Err Refusal.StoreShort) (Ok tt)))) conf.key conf.limits conf.timers conf.smallest now).answer
      ≡ cond valid (cond grants (cond stores Call.Ok (Call.Refused 11)) (Call.Refused 46)) (Call.Refused 10)
  open_by_lem true true true = refl
  open_by_lem true true false = refl
  open_by_lem true false stores = refl
  open_by_lem false grants stores = refl

  -- one that is refused gives a runner without limits
  open_none : (met : Result (Unit {0}) Refusal) (n : ℕ) → replied (open_by met conf.key conf.limits conf.timers conf.smallest now).answer ≡ Call.Refused n
      → (open_by met conf.key conf.limits conf.timers conf.smallest now).runner ≡ fresh conf.key no_limits conf.timers conf.smallest now
  open_none (Ok tt) n e = absurd (false≢true (ap is_refused e))
  open_none (Err x) n e = refl

abbrev Unlimited : Runner → Type 0
Unlimited r = (stores : Bool) → stop r stores ≡ Err Refusal.NoLimits

none_unlimited : (k : Key) (t : Timers) (smallest now : ℕ) → Unlimited (fresh k no_limits t smallest now)
unfolding stop in_range fresh output_fits bytes_with
none_unlimited k t smallest now stores = by (has_notes no_limits) refl
  where
    by : (b : Bool) → has_notes no_limits ≡ b → stop (fresh k no_limits t smallest now) stores ≡ Err Refusal.NoLimits
    by true e = rw e refl
    by false e = rw e refl

unlimited_entry : (s : State) → Unlimited s.runner → (e : Entry) → answer_entry s e ≡ Call.Refused 10
unfolding answer_entry Channel.read_record Channel.write_record Frames.read_frame Frames.write_frame Channel.parsed_read Frames.parsed_read accepted
unlimited_entry s g (call c) = (stopped s c Refusal.NoLimits (g (Plain.enough s c))).1
unlimited_entry s g (read_record now channel b) =
    rw (stopped_so s.runner (stores_do s.runner s.bytes s.lengths) (is_channel s.runner.limits) Refusal.NotAChannel Refusal.NoLimits (g _)) refl
unlimited_entry s g (read_frame now stream b) =
    rw (stopped_so s.runner (stores_do s.runner s.bytes s.lengths) (is_framed s.runner.limits stream) Refusal.NotFramed Refusal.NoLimits (g _)) refl
unlimited_entry s g (write_record channel buffer) = rw (stopped_write (carriage s.runner channel s.bytes buffer) s.runner s.bytes buffer Refusal.NoLimits (g _)) refl
unlimited_entry s g (write_frame stream buffer) = rw (stopped_write (Frames.carriage s.runner stream) s.runner s.bytes buffer Refusal.NoLimits (g _)) refl

unlimited_list : (es : List Entry) (s : State) → Unlimited s.runner → (e : Entry) → answer_entry (after_entries s es) e ≡ Call.Refused 10
unlimited_list [] s g e = unlimited_entry s g e
unlimited_list (x ∷ es) s g e = rw (kept s x 10 (unlimited_entry s g x)).same (unlimited_list es s g e)

-- ---- the bytes of a record, without a runner

same_refusal : (x y : Refusal) → ◌≡◌ {A = Result ℕ Refusal} (Err x) (Err y) → x ≡ y
same_refusal x y e = cc

module _ (numbers : List ℕ) (buffer : List ℕ) where
  wrote_bytes : (n : ℕ) (b : List ℕ) → Unwritten numbers (written_after (Ok n) b) buffer
  wrote_bytes n b x e = cc

  wrote_none : (y : Refusal) → Among numbers y → Unwritten numbers (written_after (Err y) buffer) buffer
  wrote_none y h x e = (subst (Among numbers) (same_refusal y x e) h, refl)

  wrote_if : (b : Bool) (v w : WrittenAfter) → Unwritten numbers v buffer → Unwritten numbers w buffer → Unwritten numbers (cond b v w) buffer
  wrote_if = either (λ (w : WrittenAfter). Unwritten numbers w buffer)

write_kept : (channel : ℕ) (rec : Record) (payload buffer : List ℕ) → Unwritten (20 ∷ 25 ∷ []) (Codec.write channel rec payload buffer) buffer
unfolding Codec.write
write_kept channel rec payload buffer =
    let ns : List ℕ = 20 ∷ 25 ∷ [] in
    wrote_if ns buffer (leb (start rec + size rec) (length buffer)) _ _
    (wrote_if ns buffer (eqb (length payload) (size rec)) _ _ (wrote_bytes ns buffer _ _) (wrote_none ns buffer Refusal.BadLength refl))
    (wrote_none ns buffer Refusal.BufferShort refl)

lay_kept : (channel : ℕ) (rec : Record) (buffer : List ℕ) → Unwritten (25 ∷ []) (Codec.lay channel rec buffer) buffer
unfolding Codec.lay
lay_kept channel rec buffer =
    let ns : List ℕ = 25 ∷ [] in
    wrote_if ns buffer (leb (13 + size rec) (length buffer)) _ _ (wrote_bytes ns buffer _ _) (wrote_none ns buffer Refusal.BufferShort refl)

close_kept : (channel : ℕ) (status : Option Status) (buffer : List ℕ) → Unwritten (25 ∷ 40 ∷ []) (Exit.close channel status buffer) buffer
unfolding Exit.close Exit.closed
close_kept channel status buffer =
    let ns : List ℕ = 25 ∷ 40 ∷ [] in
    wrote_if ns buffer (leb 43 (length buffer)) _ _
    (wrote_if ns buffer (is_untold status) _ _ (wrote_none ns buffer Refusal.UntoldStatus refl) (wrote_bytes ns buffer _ _))
    (wrote_none ns buffer Refusal.BufferShort refl)

-- what is so of every refusal of a request's reader
abbrev Untold : Result Status Refusal → Type 0
Untold (Ok status) = Unit
Untold (Err x) = Among (20 ∷ 21 ∷ 22 ∷ 41 ∷ []) x

form_by : (channel : ℕ) (s : List ℕ) (o : Option Status) → Untold (Exit.matching channel s o)
unfolding Exit.matching
form_by channel s None = refl
form_by channel s (Some x) = either Untold (is_told x && same (request channel x) s) (Ok x) (Err Refusal.BadRequest) tt refl

request_by : (channel : ℕ) (s : List ℕ) → Untold (Exit.read channel s)
unfolding Exit.read
request_by channel s =
    either Untold (eqb (length s) 0) _ _ refl
    (either Untold (eqb (get_or s 0 0) 98) _ _ (either Untold (is_mine channel s) _ _ (form_by channel s (guess s)) refl) refl)

-- DEMAND 1, OF REFUSALS
pub refusals : Refusals
unfolding answer_entry Calls.«open» Channel.write_record Frames.write_frame
refusals = record {
  call_kept = λ s c n e. (refused s c n e).same;
  message_kept = λ s buffer n e.
      subst (IfRefused Unit (λ m. (Calls.next_message s.runner s.bytes buffer).buffer ≡ buffer)) e
      (message_buffer (stop s.runner (bytes_do s.runner.limits s.bytes)) s buffer refl);
  call_number = λ s c n e. (refused s c n e).known;
  entry_kept = λ s e n a. (kept s e n a).same;
  buffer_kept = λ s channel buffer n e.
      subst (IfRefused Unit (λ m. (Channel.write_record s.runner channel s.bytes buffer).buffer ≡ buffer)) e
      (write_buffer s (write_record channel buffer) (carriage s.runner channel s.bytes buffer) buffer (pays channel (last_end (outputs_of s.runner))));
  frame_buffer_kept = λ s stream buffer n e.
      subst (IfRefused Unit (λ m. (Frames.write_frame s.runner stream s.bytes buffer).buffer ≡ buffer)) e
      (write_buffer s (write_frame stream buffer) (Frames.carriage s.runner stream) buffer (Laid.pays stream (out_of Stdout s.runner).ended (out_of Stderr s.runner).ended));
  entry_number = λ s e n a. (kept s e n a).known;
  stale_kept = stale;
  stale_read = stale_entry;
  open_number = λ conf now bytes lengths. open_by_lem conf now (is_valid conf.limits) (grant_fits conf.smallest conf.limits.input.size)
      (need_fits conf.limits && (bytes_do conf.limits bytes && lengths_do conf.limits lengths));
  unopened = λ conf now bytes lengths n h store slots es e. unlimited_list es _
      (rw (open_none conf now (open_stop conf.limits conf.smallest (bytes_do conf.limits bytes && lengths_do conf.limits lengths)) n h) (none_unlimited conf.key conf.timers conf.smallest now)) e;
  write_kept = write_kept;
  lay_kept = lay_kept;
  close_kept = close_kept;
  frame_kept = λ stream f payload buffer. write_refused (Among (25 ∷ 42 ∷ 43 ∷ [])) refl refl buffer stream f (either (Among (25 ∷ 42 ∷ 43 ∷ [])) (is_framed_stream (named f)) Refusal.BadFrame Refusal.NotFramed refl refl) payload;
  frame_number = λ stream b x e. read_refused (Among (43 ∷ 44 ∷ [])) refl refl stream b x e;
  read_number = λ channel b x e. (let own = Among (20 ∷ 21 ∷ 22 ∷ 23 ∷ []) in subst (RefusedBy own) e (reads_by own refl refl refl refl channel b));
  request_number = λ channel b x e. subst Untold e (request_by channel b);
}
