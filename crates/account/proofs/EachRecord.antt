-- A record that is read does what the call does that it makes, or makes none and is refused by a number of its own.
use Rattle.std.specs.Prelude.{Result, Ok, Err}
use Rattle.exec.specs.declared.Receipt.{Receipt}
use mathlib.Core.Bool.{Bool, true, false, cond}
use mathlib.Core.Path.{◌≡◌, refl}
use mathlib.Core.List.{List, [], ◌∷◌}
use Prim.Native.Nat.{ℕ, ◌+◌}
use lib.Dec.{eqb}
use lib.ListN.{length, drop, get_or}
use Rattle.exec.specs.declared.Key.{Key}
use Rattle.exec.specs.declared.Pool.TheVariants as Pool
use Rattle.exec.specs.declared.Refusal.{Refusal}
use Rattle.exec.specs.declared.Refusal.TheVariants.{NotAChannel, BadLength, UnknownKind, OtherChannel, BadType}
use Rattle.exec.specs.declared.Stream.TheVariants.{Stdout, Stderr, Notes}
use Rattle.exec.specs.Refusal.{number}
use Rattle.runner.specs.Calls as Calls
use Rattle.codec.specs.declared.Record.{Record}
use Rattle.codec.specs.Codec.{start, size, kinded, is_typed, fitting, checked, read}
use Rattle.carrier.specs.Carrier.{heard_as, noted_as, accepted}
use Rattle.channel.specs.Calls as Channel
use Rattle.channel.specs.Calls.{parsed_read}
use Rattle.framing.specs.declared.Frame.{Frame}
use Rattle.framing.specs.Framing as Framing
use Rattle.calls.specs.Call as Call
use Rattle.calls.specs.Call.{Conf, Call, Answer, is_refused}
use Rattle.account.specs.Step as Step
use Rattle.account.specs.Step.{State, replied, received_as}
use Rattle.account.specs.Claim.{is_message}
use Rattle.account.specs.Records.{Entry, call, read_record, write_record, read_frame, write_frame, leaves, read_as, call_of, frame_calls, is_untaken, written_call, made, among, of_reads, of_entry}
use Rattle.account.proofs.Lives.{conf_of}
use Rattle.account.proofs.Flags.{either}

-- ---- a refusal of the record's own: no call was made

pub record Unmade (e : Entry) (before after : State) (a : Answer) : Type 0 where
  pub kept : after ≡ before
  pub refusal : ℕ
  pub answered : a ≡ Call.Refused refusal
  pub own : among refusal (of_entry e) ≡ true

-- what an entry does, by the calls that it makes; where they are several they are answered alike, and by no message
unfoldable pub Does : Entry → List Call → (s after : State) → Answer → Type 0
Does e [] s after a = Unmade e s after a
Does e (c ∷ []) s after a = (after ≡ Step.next s c) × (a ≡ Step.answer s c)
Does e (c ∷ d ∷ cs) s after a = (a ≡ Step.answer s c) × (is_message a ≡ false) × Does e (d ∷ cs) (Step.next s c) after a

-- ---- a record or a frame hands over no output and closes none

abbrev pub Outputless : Call → Type 0
Outputless (Call.output x b) = ⊥
Outputless (Call.output_closed x) = ⊥
Outputless _ = Unit

abbrev pub AllOutputless : List Call → Type 0
AllOutputless [] = Unit
AllOutputless (c ∷ cs) = Outputless c × AllOutputless cs

abbrev pub IsRecord : Entry → Type 0
IsRecord (call c) = ⊥
IsRecord _ = Unit

read_outputless : (conf : Conf) (now : ℕ) (b : List ℕ) (p : Result Record Refusal) → AllOutputless (call_of conf now b p)
unfolding call_of
read_outputless conf now b (Ok (Record.Extended n)) = tt
read_outputless conf now b (Ok (Record.Notes n)) = tt
read_outputless conf now b (Err x) = tt
read_outputless conf now b _ = (tt, tt)

data_outputless : (alone behind : Bool) (k : Key) (b : List ℕ) → AllOutputless (cond alone (Call.end_input k ∷ []) (Call.input k b ∷ cond behind (Call.end_input k ∷ []) []))
data_outputless true behind k b = (tt, tt)
data_outputless false true k b = (tt, (tt, tt))
data_outputless false false k b = (tt, tt)

frame_outputless : (conf : Conf) (now : ℕ) (b : List ℕ) (p : Result Frame Refusal) (a : Answer) → AllOutputless (frame_calls conf now b p a)
unfolding frame_calls
frame_outputless conf now b (Ok (Frame.Data Stdout n ends)) a = data_outputless _ _ conf.key (drop 9 b)
frame_outputless conf now b (Ok (Frame.Data Stderr n ends)) a = tt
frame_outputless conf now b (Ok (Frame.Data Notes n ends)) a = tt
frame_outputless conf now b (Ok (Frame.Update Stdout units)) a = (tt, tt)
frame_outputless conf now b (Ok (Frame.Update Stderr units)) a = (tt, tt)
frame_outputless conf now b (Ok (Frame.Update Notes units)) a = (tt, tt)
frame_outputless conf now b (Ok (Frame.Reset x)) a = (tt, tt)
frame_outputless conf now b (Err x) a = tt

write_outputless : (conf : Conf) (carries : Bool) (at : ℕ) (buffer : List ℕ) (a : Answer) → AllOutputless (written_call conf carries at buffer a)
write_outputless conf carries at buffer a = either AllOutputless _ _ [] (either AllOutputless (is_untaken a) [] _ tt (tt, tt)) tt

pub record_outputless : (conf : Conf) (e : Entry) (a : Answer) → IsRecord e → AllOutputless (made conf e a)
unfolding made
record_outputless conf (call c) a h = absurd h
record_outputless conf (read_record now channel b) a h = either AllOutputless _ _ [] (read_outputless conf now b (read channel b)) tt
record_outputless conf (write_record channel buffer) a h = write_outputless conf _ 13 buffer a
record_outputless conf (read_frame now stream b) a h = either AllOutputless _ _ [] (frame_outputless conf now b (Framing.read stream b) a) tt
record_outputless conf (write_frame stream buffer) a h = write_outputless conf _ 9 buffer a

-- ---- a record read

pub heard_as_lem : (x : Result Receipt Refusal) → read_as (heard_as x) ≡ received_as x
heard_as_lem (Ok Receipt.Applied) = refl
heard_as_lem _ = refl

pub noted_as_lem : (x : Result (Unit {0}) Refusal) → read_as (noted_as x) ≡ replied x
noted_as_lem (Ok tt) = refl
noted_as_lem (Err x) = refl

-- what is so of every refusal of the reader's own is so of what it reads
abbrev pub RefusedBy : (Refusal → Type 0) → Result Record Refusal → Type 0
RefusedBy P (Ok rec) = Unit
RefusedBy P (Err x) = P x

module _ (P : Refusal → Type 0) (bad-length : P BadLength) (unknown : P UnknownKind) (other : P OtherChannel) (bad-type : P BadType) where
  checked_by : (channel : ℕ) (s : List ℕ) (p : Result Record Refusal) → RefusedBy P p → RefusedBy P (checked channel s p)
  unfolding checked fitting
  checked_by channel s (Ok rec) h =
      either (RefusedBy P) (eqb (length s) (start rec + size rec)) _ _
      (either (RefusedBy P) (eqb _ channel) _ _ (either (RefusedBy P) (is_typed rec s) _ _ tt bad-type) other) bad-length
  checked_by channel s (Err x) h = h

  pub reads_by : (channel : ℕ) (s : List ℕ) → RefusedBy P (read channel s)
  unfolding read kinded
  reads_by channel s =
      let kind = get_or s 0 0 in
      let or : (n : ℕ) (p q : (Result Record Refusal)) → RefusedBy P p → RefusedBy P q → RefusedBy P (cond (eqb kind n) p q) = λ n. either (RefusedBy P) (eqb kind n) in
      let k : RefusedBy P (kinded kind s) = or 93 _ _ tt (or 94 _ _ tt (or 95 _ _ tt (or 96 _ _ tt (or 97 _ _ tt unknown)))) in
      either (RefusedBy P) (eqb (length s) 0) _ _ bad-length (checked_by channel s (kinded kind s) k)

abbrev pub Among : List ℕ → Refusal → Type 0
Among numbers x = among (number x) numbers ≡ true

parsed_does : (p : Result Record Refusal) (s : State) (now channel : ℕ) (b : List ℕ) → RefusedBy (Among of_reads) p
    → Does (read_record now channel b) (call_of (conf_of s.runner) now b p) s (leaves (parsed_read p s.runner now b s.bytes s.lengths)) (read_as (parsed_read p s.runner now b s.bytes s.lengths).reading.answer)
unfolding Does call_of parsed_read Channel.made Step.next Step.answer
parsed_does (Ok (Record.Adjust units)) s now channel b h = (refl, heard_as_lem (Calls.credit s.runner s.runner.key Pool.Output units).answer)
parsed_does (Ok (Record.Data n)) s now channel b h =
    (refl, heard_as_lem (Calls.input s.runner s.runner.key (drop 9 b) s.bytes s.lengths).hearing.answer)
parsed_does (Ok (Record.Extended n)) s now channel b h = record { kept = refl; refusal = 24; answered = refl; own = refl }
parsed_does (Ok (Record.Notes n)) s now channel b h = record { kept = refl; refusal = 24; answered = refl; own = refl }
parsed_does (Ok Record.Eof) s now channel b h = (refl, heard_as_lem (Calls.end_input s.runner s.runner.key).answer)
parsed_does (Ok Record.Close) s now channel b h = (refl, noted_as_lem (Calls.disconnect s.runner now).answer)
parsed_does (Err x) s now channel b h = record { kept = refl; refusal = number x; answered = refl; own = h }

-- by whether the runner is a channel's
pub read_by : (channels : Bool) (s : State) (now channel : ℕ) (b : List ℕ)
    → Does (read_record now channel b) (cond channels (call_of (conf_of s.runner) now b (read channel b)) []) s
    (leaves (parsed_read (accepted (cond channels (Ok tt) (Err NotAChannel)) (read channel b)) s.runner now b s.bytes s.lengths))
    (read_as (parsed_read (accepted (cond channels (Ok tt) (Err NotAChannel)) (read channel b)) s.runner now b s.bytes s.lengths).reading.answer)
unfolding Does accepted parsed_read
read_by true s now channel b = parsed_does (read channel b) s now channel b (reads_by (Among of_reads) refl refl refl refl channel b)
read_by false s now channel b = record { kept = refl; refusal = 13; answered = refl; own = refl }
