-- A call that is not refused by 12, 10, 46 or 11 is refused by one of 1 to 6, and then changes nothing; nor does one that answers Stale. Only
-- credit, input, end_input and cancel refuse, and only these answer Stale.
use Rattle.std.specs.Prelude.{Result, Ok, Err, Option, Some}
use Rattle.exec.specs.declared.Admission.TheVariants.{Own, Stale}
use Rattle.exec.specs.declared.Admission.{Admission}
use Rattle.exec.specs.declared.Receipt.{Receipt}
use mathlib.Core.Bool.{Bool, true, false, cond, not, ◌&&◌, false≢true}
use mathlib.Core.Path.{◌≡◌, refl, sym}
use mathlib.Core.List.{List, [], ◌∷◌}
use Prim.Native.Nat.{ℕ}
use lib.Dec.{ltb, eqb}
use Rattle.exec.specs.declared.Key.{Key}
use Rattle.exec.specs.declared.Pool.{Pool}
use Rattle.exec.specs.declared.Refusal.{Refusal}
use Rattle.exec.specs.Key.{admits}
use Rattle.exec.specs.Limits.{output_pool, has_notes}
use Rattle.credit.specs.declared.sender.Credit.{Credit}
use Rattle.credit.specs.Sender.{grantable, grant}
use Rattle.runner.specs.State.{credit_at, put_credit, with_flow, with_input}
use Rattle.runner.specs.Streams as Streams
use Rattle.calls.specs.Call as Call
use Rattle.calls.specs.Call.{Conf, Call, Answer, is_refused}
use Rattle.account.specs.Step.{State, on_runner, received_as, asks}
use Rattle.account.specs.Records.{among}
use Rattle.account.proofs.Flags.{either}
use Rattle.runner.specs.declared.answer.Request.{Request}
use lib.ListN.{length}
use Rattle.exec.specs.declared.Cause.{Cause}
use Rattle.exec.specs.declared.Limits.{Limits}
use Rattle.input.specs.declared.Input.{Input}
use Rattle.input.specs.Input as Input
use Rattle.choice.specs.declared.Choice.{Choice}
use Rattle.runner.specs.declared.runner.Runner.{Runner}
use Rattle.runner.specs.Calls.{asked_for}
use Rattle.runner.specs.Life.{is_late, ticked, cancel_answer, cancel_next}
use Rattle.account.proofs.Plain.{said}

-- ---- what is to be shown of a call that leaves the state t and has the answer a

-- of Stale, and of a refusal's number
abbrev pub IfRefused : (stale : Type 0) → (ℕ → Type 0) → Answer → Type 0
IfRefused Q P Call.Stale = Q
IfRefused Q P (Call.Refused n) = P n
IfRefused Q P _ = Unit

pub record Kept (numbers : List ℕ) (s t : State) (n : ℕ) : Type 0 where
  pub same : t ≡ s
  pub known : among n numbers ≡ true

-- what a call is refused by where it is not refused by 10, 11 or 12
abbrev pub of_plain : List ℕ
of_plain = 1 ∷ 2 ∷ 3 ∷ 4 ∷ 5 ∷ 6 ∷ []

abbrev pub Safe : (s t : State) → Answer → Type 0
Safe s t a = IfRefused (t ≡ s) (Kept of_plain s t) a

pub safe_among : (numbers : List ℕ) → ((n : ℕ) → among n of_plain ≡ true → among n numbers ≡ true) → (s t : State) (a : Answer) → Safe s t a → IfRefused (t ≡ s) (Kept numbers s t) a
safe_among numbers f s t (Call.Refused n) h = record { same = h.same; known = f n h.known }
safe_among numbers f s t _ h = h

-- ---- refused by 1 to 6

-- a key is the runner's own, stale, or refused by 1
admits_by : (P : Result Admission Refusal → Type 0) → P (Ok Own) → P (Ok Stale) → P (Err Refusal.Key) → (own message : Key) → P (admits own message)
unfolding admits
admits_by P own stale other k m =
    either P (eqb m.id k.id) _ _
    (either P (ltb m.generation k.generation) _ _ stale (either P (eqb m.generation k.generation) _ _ own other))
    other

-- a pool is refused by 2, or has an account
pool_by : (P : Result ℕ Refusal → Type 0) → P (Err Refusal.Pool) → ((i : ℕ) → P (Ok i)) → (shared notes : Bool) (p : Pool) → P (output_pool shared notes p)
pool_by P other at true n Pool.Output = at 0
pool_by P other at false n Pool.Input = other
pool_by P other at false n Pool.Stdout = at 0
pool_by P other at false n Pool.Stderr = at 1
pool_by P other at false n Pool.Output = other
pool_by P other at false true Pool.Notes = at 2
pool_by P other at false false Pool.Notes = other
pool_by P other at true n _ = other

-- the state with other accounts
accounts : State → List Credit → State
accounts s cs = on_runner (with_flow cs s.runner.turn s.runner.flags s.runner.high_water s.runner) s

granted : (s : State) (cs : List Credit) (finished fits : Bool)
    → Safe s (accounts s (cond (not finished && fits) cs s.runner.credits))
    (received_as (cond finished (Ok Receipt.Late) (cond fits (Ok Receipt.Applied) (Err Refusal.Credit))))
unfolding accounts
granted s cs true fits = tt
granted s cs false true = tt
granted s cs false false = record { same = refl; known = refl }

abbrev CreditSafe : State → ℕ → Result Admission Refusal → Result ℕ Refusal → Type 0
CreditSafe s u a p = Safe s (on_runner (Streams.credit_next a p s.runner u) s) (received_as (Streams.credit_answer a p s.runner u))

pub credit_safe : (s : State) (k : Key) (p : Pool) (u : ℕ) → CreditSafe s u (admits s.runner.key k) (output_pool s.runner.limits.shared (has_notes s.runner.limits) p)
unfolding Streams.credit_next Streams.credit_answer Streams.credit_in accounts
credit_safe s k p u =
    let cs = s.runner.credits in
    admits_by (λ a. CreditSafe s u a (output_pool s.runner.limits.shared (has_notes s.runner.limits) p))
    (pool_by (CreditSafe s u (Ok Own)) (record { same = refl; known = refl })
    (λ i. granted s (put_credit i (grant (credit_at i cs) u).credit cs) s.runner.flags.finished (grantable (credit_at i cs) u))
    s.runner.limits.shared (has_notes s.runner.limits) p)
    refl (record { same = refl; known = refl }) s.runner.key k

late_safe : (s t : State) (late : Bool) → Safe s t (received_as (cond late (Ok Receipt.Late) (Ok Receipt.Applied)))
late_safe s t true = tt
late_safe s t false = tt

-- ---- input, end_input and cancel

abbrev received : State → List ℕ → Result Admission Refusal → State
received s b a = record {
  runner = Streams.input_next a s.runner (length b);
  bytes = Streams.input_store a s.runner b s.bytes;
  lengths = Streams.input_lengths a s.runner (length b) s.lengths;
}

-- one that is not charged is not kept either: state and stores are what they were
unpaid_by : (taken kept : Bool) (s : State) (i : Input) (bytes lengths : List ℕ) (high : ℕ) → i ≡ s.runner.input → bytes ≡ s.bytes → lengths ≡ s.lengths → kept ≡ false
    → ◌≡◌ {A = State} (record {
      runner =
          with_flow s.runner.credits s.runner.turn s.runner.flags (cond (taken && kept) high s.runner.high_water)
          (with_input (cond taken i s.runner.input) s.runner);
      bytes = cond taken bytes s.bytes;
      lengths = cond taken lengths s.lengths;
    }) s
unpaid_by false kept s i bytes lengths high ei eb el k = refl
unpaid_by true false s i bytes lengths high ei eb el k = rw (ei, eb, el) refl
unpaid_by true true s i bytes lengths high ei eb el k = absurd (false≢true (sym k))

module _ (l : Limits) (i : Input) (b : List ℕ) (x : Refusal) (h : Input.receive_answer l i (length b) ≡ Err x) where
  unpaid_input : Input.receive_input l i (length b) ≡ i
  unfolding Input.receive_input
  unpaid_input = rw h refl

  unpaid_bytes : (store : List ℕ) → Input.receive_bytes l i b store ≡ store
  unfolding Input.receive_bytes
  unpaid_bytes store = rw h refl

  unpaid_lengths : (lengths : List ℕ) → Input.receive_lengths l i (length b) lengths ≡ lengths
  unfolding Input.receive_lengths
  unpaid_lengths lengths = rw h refl

unpaid : (s : State) (b : List ℕ) (x : Refusal) → Input.receive_answer s.runner.limits s.runner.input (length b) ≡ Err x → received s b (Ok Own) ≡ s
unfolding Streams.input_next Streams.input_store Streams.input_lengths
unpaid s b x h =
    let l : Limits = s.runner.limits in
    let i : Input = s.runner.input in
    unpaid_by (not s.runner.flags.finished) (Input.is_kept l i (length b)) s _ _ _ _ (unpaid_input l i b x h) (unpaid_bytes l i b x h s.bytes)
    (unpaid_lengths l i b x h s.lengths) (rw h refl)

abbrev InputSafe : State → List ℕ → Result Admission Refusal → Type 0
InputSafe s b a = Safe s (received s b a) (received_as (Streams.input_answer a s.runner (length b)))

-- an input is refused by 4, 5 or 6 behind its key
input_own : (s : State) (b : List ℕ) → InputSafe s b (Ok Own)
unfolding Streams.input_answer
input_own s b =
    let l : Limits = s.runner.limits in
    let i : Input = s.runner.input in
    either (λ x. Safe s (received s b (Ok Own)) (received_as x)) s.runner.flags.finished _ _ tt
    (Input.answered l i (length b) (λ x. Input.receive_answer l i (length b) ≡ x → Safe s (received s b (Ok Own)) (received_as x))
    (λ e. record { same = unpaid s b Refusal.Ended e; known = refl })
    (λ e. record { same = unpaid s b Refusal.Chunk e; known = refl })
    (λ e. record { same = unpaid s b Refusal.Window e; known = refl }) (λ p e. tt) (λ p e. tt) refl)

pub input_safe : (s : State) (k : Key) (b : List ℕ) → InputSafe s b (admits s.runner.key k)
unfolding Streams.input_answer Streams.input_next Streams.input_store Streams.input_lengths
input_safe s k b =
    admits_by (InputSafe s b) (input_own s b) refl (record { same = refl; known = refl }) s.runner.key k

-- end_input by 6: the input is kept
ended : (over finished : Bool) (s : State) (i : Input)
    → Safe s (on_runner (with_input (cond (not finished) (cond over s.runner.input i) s.runner.input) s.runner) s)
    (received_as (cond finished (Ok Receipt.Late) (cond over (Err Refusal.Ended) (cond s.runner.input.closed (Ok Receipt.Late) (Ok Receipt.Applied)))))
ended over true s i = tt
ended true false s i = record { same = refl; known = refl }
ended false false s i = late_safe s _ s.runner.input.closed

pub end_safe : (s : State) (k : Key)
    → Safe s (on_runner (Streams.end_next (admits s.runner.key k) s.runner) s) (received_as (Streams.end_answer (admits s.runner.key k) s.runner))
unfolding Streams.end_next Streams.end_answer Input.end_input Input.end_answer
end_safe s k =
    admits_by (λ a. Safe s (on_runner (Streams.end_next a s.runner) s) (received_as (Streams.end_answer a s.runner)))
    (ended s.runner.input.peer_ended s.runner.flags.finished s _) refl (record { same = refl; known = refl }) s.runner.key k

-- cancel is refused by its key alone
pub cancel_safe : (s : State) (now : ℕ) (k : Key) (c : Cause)
    → Safe s (on_runner (cancel_next (admits s.runner.key k) s.runner now c) s) (received_as (cancel_answer (admits s.runner.key k) s.runner now))
unfolding cancel_next cancel_answer
cancel_safe s now k c =
    admits_by (λ a. Safe s (on_runner (cancel_next a s.runner now c) s) (received_as (cancel_answer a s.runner now)))
    (late_safe s _ (is_late (ticked s.runner now))) refl (record { same = refl; known = refl }) s.runner.key k

-- ---- the calls that say what waits

pub wish_safe : (s t : State) (w : Option Request) → Safe s t (asks (asked_for w))
wish_safe s t (Some (Request.Terminate c)) = tt
wish_safe s t _ = tt

pub said_safe : (Q : Type 0) (P : ℕ → Type 0) (m : Choice) (r : Runner) (bytes : List ℕ) → IfRefused Q P (said m r bytes)
unfolding said
said_safe Q P (Choice.End x) r bytes = tt
said_safe Q P _ r bytes = tt
