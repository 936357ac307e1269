-- What is known of a message that was chosen. Of an output: it has bytes, they are queued and fit the buffer, and credit has their cost.
use Rattle.std.specs.Prelude.{◌≡◌, refl, Bool, true, false, cond, ◌&&◌, List, length, Ok}
use Rattle.std.proofs.Math.Bool.{not}
use Prim.Native.Nat.{ℕ, ◌+◌, ◌≤◌, ◌<◌, min}
use Rattle.std.proofs.Common.{arith, ltb-true, leb-true}
use Rattle.std.proofs.lemmas.Bool.{not-true, false≢true}
use Rattle.std.proofs.Math.Dec.{ltb}
use Rattle.exec.specs.declared.Stream.{Stream}
use Rattle.exec.specs.declared.Stream.TheVariants.{Stdout, Stderr, Notes}
use Rattle.exec.specs.declared.Unit as Units
use Rattle.exec.specs.declared.Unit.TheVariants.{Bytes, Frames}
use Rattle.exec.specs.Limits.{cost, pool_of, has, has_notes, input_bytes}
use Rattle.exec.specs.Stream.{pick, picked}
use Rattle.ring.specs.RingLaws.{read_length}
use Rattle.inbox.specs.Need.{byte_need}
use Rattle.inbox.specs.RangeLaws.{both}
use Rattle.inbox.specs.Receiver.{is_due, take_grant}
use Rattle.credit.specs.Sender.{sendable}
use Rattle.choice.specs.declared.Choice.{Choice}
use Rattle.runner.specs.declared.runner.Runner.{Runner}
use Rattle.choice.specs.Order.{if_else, order}
use Rattle.input.specs.Input.{input_accepts, can_grant}
use Rattle.runner.specs.Life.{awaits_launch, is_ready}
use Rattle.runner.specs.Message.{sendable_of, untold, choose, effect, payload}
use Rattle.runner.specs.Range.{bytes_do, stop}
use Rattle.runner.specs.RangeLaws.{Queued, InRange, Good, is_good_lem}
use Rattle.runner.specs.State.{out_of, base, credit_at}

-- the account of its pool has the cost of n bytes
pub record Payable (r : Runner) (x : Stream) (n : ℕ) : Type 0 where
  pub paid : cost r.limits.output.unit n ≤ (credit_at (pool_of r.limits x) r.credits).available

-- n bytes are queued in the store, and fit the buffer
pub record Sendable (r : Runner) (x : Stream) (n : ℕ) (store buffer : List ℕ) : Type 0 where
  pub area : base x r.limits.chunk + r.limits.chunk ≤ length store
  pub queue : Queued r.limits.chunk (out_of x r)
  pub queued : n ≤ (out_of x r).queued
  pub fits : n ≤ length buffer

-- something is said
abbrev pub is_said : Choice → Bool
is_said Choice.None = false
is_said Choice.Credit = true
is_said Choice.Started = true
is_said Choice.InputClosed = true
is_said (Choice.End x) = true
is_said (Choice.Output x n) = true
is_said Choice.Terminal = true

-- where something is said it was chosen, of a runner in range with a store that does
abbrev pub Sayable : Choice → Runner → (store buffer : List ℕ) → Type 0
Sayable c r store buffer = is_said c ≡ true → InRange r × (byte_need r.limits ≤ length store) × (c ≡ choose r (length buffer))

-- ---- what a choice shows, by one walk through the order of messages

-- the bytes of an output are what its stream can send, and there are some
pub record Chosen (r : Runner) (buffer : ℕ) (x : Stream) (n : ℕ) : Type 0 where
  pub bytes : n ≡ sendable_of r buffer x
  pub some_bytes : 0 < n

-- Credit can be granted; Started and InputClosed are to be told; End and Output come with the launch known and its Started told, an End
-- of a stream that is done, which was not told; Terminal once all is told
abbrev pub Shows : Runner → (buffer : ℕ) → Choice → Type 0
Shows r buffer Choice.None = Unit
Shows r buffer Choice.Credit = can_grant r.input ≡ true
Shows r buffer Choice.Started = r.flags.started_message ≡ true
Shows r buffer Choice.InputClosed = r.input.closed_message ≡ true
Shows r buffer (Choice.End x) = (awaits_launch r ≡ false) × (r.flags.started_message ≡ false) × (untold r x ≡ true)
Shows r buffer (Choice.Output x n) = (awaits_launch r ≡ false) × (r.flags.started_message ≡ false) × Chosen r buffer x n
Shows r buffer Choice.Terminal = is_ready r ≡ true

pub pick_if : (P : Choice → Type 0) (b : Bool) (x y : Choice) → (b ≡ true → P x) → (b ≡ false → P y) → P (if_else b x y)
unfolding if_else
pick_if P true x y p q = p refl
pick_if P false x y p q = q refl

pub shows : (buffer : ℕ) (r : Runner) → Shows r buffer (choose r buffer)
unfolding choose order
shows buffer r =
    let P = Shows r buffer in
    let known : (b : Bool) → (not (awaits_launch r) && b) ≡ true → awaits_launch r ≡ false = λ b e. not-true (awaits_launch r) (both (not (awaits_launch r)) b e).0 in
    let some : (n : ℕ) → (not (awaits_launch r) && ltb 0 n) ≡ true → 0 < n = λ n e. ltb-true 0 n (both (not (awaits_launch r)) (ltb 0 n) e).1 in
    pick_if P _ _ _ (λ _. tt) (λ _.
    pick_if P _ _ _ (λ _. pick_if P _ _ _ (λ e. e) (λ _. tt)) (λ _.
    pick_if P _ _ _ (λ c. (both (can_grant r.input) (not r.flags.credited) c).0) (λ _.
    pick_if P _ _ _ (λ s. s) (λ s.
    pick_if P _ _ _ (λ c. c) (λ _.
    pick_if P _ _ _ (λ e. (known _ e, s, (both (not (awaits_launch r)) _ e).1)) (λ _.
    pick_if P _ _ _ (λ e. (known _ e, s, (both (not (awaits_launch r)) _ e).1)) (λ _.
    pick_if P _ _ _ (λ e. (known _ e, s, (both (not (awaits_launch r)) _ e).1)) (λ _.
    pick_if P _ _ _ (λ e. (known _ e, s, record { bytes = refl; some_bytes = some _ e })) (λ _.
    pick_if P _ _ _ (λ e. (known _ e, s, record { bytes = refl; some_bytes = some _ e })) (λ _.
    pick_if P _ _ _ (λ e. (known _ e, s, record { bytes = refl; some_bytes = some _ e })) (λ _.
    pick_if P _ _ _ (λ c. c) (λ _.
    pick_if P _ _ _ (λ e. e) (λ _. tt)))))))))))))

pub shown : (r : Runner) (buffer : ℕ) (c : Choice) → c ≡ choose r buffer → Shows r buffer c
shown r buffer c e = rw e (shows buffer r)

pub chosen : (r : Runner) (buffer : ℕ) (x : Stream) (n : ℕ) → Choice.Output x n ≡ choose r buffer → Chosen r buffer x n
chosen r buffer x n e = (shown r buffer (Choice.Output x n) e).2

-- Credit is chosen only where it is due
pub credit_due : (r : Runner) (buffer : ℕ) → Choice.Credit ≡ choose r buffer → is_due r.input.window ≡ true
credit_due r buffer e = (both (input_accepts r.input) (is_due r.input.window) (shown r buffer Choice.Credit e)).1

-- and then it is what take_grant takes
pub credit_takes : (r : Runner) (buffer : ℕ) → Choice.Credit ≡ choose r buffer
    → take_grant r.input.window ≡ record { granted = (effect Choice.Credit r).input.window; units = r.input.window.returnable }
unfolding effect
credit_takes r buffer e = rw (credit_due r buffer e) refl

-- ---- what a stream can send

-- picked from what each can send
pub picked_by : (r : Runner) (buffer : ℕ) (x : Stream) (stdout stderr notes n : ℕ) → stdout ≡ sendable_of r buffer Stdout → stderr ≡ sendable_of r buffer Stderr
    → notes ≡ sendable_of r buffer Notes → n ≡ pick x stdout stderr notes → n ≡ sendable_of r buffer x
picked_by r buffer x stdout stderr notes n h0 h1 h2 hn = rw (hn, h0, h1, h2) (picked (sendable_of r buffer) x)

-- no more than is asked of it
pub least : (u : Units.Unit) (available m : ℕ) → sendable u available m ≤ m
least Bytes available m = omega arith
least Frames available m = at (ltb 0 available)
  where
    at : (b : Bool) → cond b m 0 ≤ m
    at true = omega arith
    at false = omega arith

affordable : (u : Units.Unit) (available m : ℕ) → 0 < sendable u available m → cost u (sendable u available m) ≤ available
unfolding cost
affordable Bytes available m h = omega arith
affordable Frames available m h = at (ltb 0 available) refl h
  where
    at : (b : Bool) → ltb 0 available ≡ b → 0 < cond b m 0 → 1 ≤ available
    at true e p = ltb-true 0 available e
    at false e p = absurd (omega arith)

-- the ring of a stream that is open stands in the store
pub area_of : (r : Runner) (x : Stream) (store : List ℕ) → has r.limits x ≡ true → byte_need r.limits ≤ length store → base x r.limits.chunk + r.limits.chunk ≤ length store
area_of r Stdout store o h = omega arith
area_of r Stderr store o h = omega arith
area_of r Notes store o h = let need : r.limits.chunk + r.limits.chunk + r.limits.chunk + input_bytes r.limits ≤ length store = rw o at h in omega arith

-- and one that is not open sends nothing
silent : (u : Units.Unit) (available chunk buffer : ℕ) → sendable u available (min (min 0 chunk) buffer) ≡ 0
silent Bytes available chunk buffer = omega arith
silent Frames available chunk buffer = at (ltb 0 available)
  where
    at : (b : Bool) → cond b (min (min 0 chunk) buffer) 0 ≡ 0
    at true = omega arith
    at false = refl

pub open_sends : (r : Runner) (buffer : ℕ) (x : Stream) → 0 < sendable_of r buffer x → has r.limits x ≡ true
unfolding sendable_of
open_sends r buffer Stdout h = refl
open_sends r buffer Stderr h = refl
open_sends r buffer Notes h = by (has_notes r.limits) refl
  where
    by : (b : Bool) → has_notes r.limits ≡ b → b ≡ true
    by true e = refl
    by false e =
        let z : sendable_of r buffer Notes ≡ 0 = rw e (silent r.limits.output.unit (credit_at (pool_of r.limits Notes) r.credits).available r.limits.chunk buffer) in
        absurd (omega (arith, h, z))

-- ---- a choice names only a stream that is open

-- (of one that is not the End counts as told)
untold_open : (r : Runner) (x : Stream) → untold r x ≡ true → has r.limits x ≡ true
untold_open r Stdout e = refl
untold_open r Stderr e = refl
untold_open r Notes e = by (has_notes r.limits) refl
  where
    by : (b : Bool) → has_notes r.limits ≡ b → b ≡ true
    by true h = refl
    by false h = absurd (false≢true (rw h at e))

abbrev pub NamesOpen : Runner → Choice → Type 0
NamesOpen r (Choice.End x) = has r.limits x ≡ true
NamesOpen r (Choice.Output x n) = has r.limits x ≡ true
NamesOpen r _ = Unit

pub names_open : (r : Runner) (buffer : ℕ) (c : Choice) → c ≡ choose r buffer → NamesOpen r c
names_open r buffer (Choice.End x) e = untold_open r x (shown r buffer (Choice.End x) e).2
names_open r buffer (Choice.Output x n) e = let c = chosen r buffer x n e in open_sends r buffer x (omega (arith, c.bytes, c.some_bytes))
names_open r buffer _ e = tt

module _ (r : Runner) (x : Stream) (n : ℕ) (store buffer : List ℕ) (h : InRange r) (need : byte_need r.limits ≤ length store)
    (e : Choice.Output x n ≡ choose r (length buffer)) where
  c : Chosen r (length buffer) x n
  c = chosen r (length buffer) x n e

  pub is_payable : Payable r x n
  unfolding sendable_of
  is_payable = record { paid = rw c.bytes (affordable _ _ _ (rw c.bytes at c.some_bytes)) }

  pub is_sendable : Sendable r x n store buffer
  unfolding sendable_of
  is_sendable =
      let m = min (min (out_of x r).queued r.limits.chunk) (length buffer) in
      let l = least r.limits.output.unit (credit_at (pool_of r.limits x) r.credits).available m in
      record {
        area = area_of r x store (open_sends r (length buffer) x (omega (arith, c.bytes, c.some_bytes))) need;
        queue = h.queue x;
        queued = omega (arith, c.bytes, l);
        fits = omega (arith, c.bytes, l);
      }

-- the bytes of an output message that is chosen are as many as it says
pub payload_length : (r : Runner) (store buffer : List ℕ) (x : Stream) (n : ℕ) → stop r (bytes_do r.limits store) ≡ Ok tt
    → Choice.Output x n ≡ choose r (length buffer) → length (payload r x n store) ≡ n
unfolding payload
payload_length r store buffer x n g e =
    let good : Good r (bytes_do r.limits store) = is_good_lem r (bytes_do r.limits store) g in
    let b : Sendable r x n store buffer = is_sendable r x n store buffer good.range (leb-true (byte_need r.limits) (length store) good.stores_do) e in
    let most = b.queued in let within = b.queue.most in
    read_length (base x r.limits.chunk) r.limits.chunk (out_of x r).start n store b.area b.queue.begins (omega arith)
