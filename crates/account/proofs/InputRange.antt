-- The input in range: its inbox, its frames and its window, through every change of it.
use Rattle.std.specs.Prelude.{Result, Ok, Err}
use Rattle.exec.specs.declared.Receipt.{Receipt}
use Rattle.exec.specs.declared.Refusal.{Refusal}
use mathlib.Core.Bool.{Bool, true, false, cond}
use mathlib.Core.Path.{◌≡◌, refl, ap, ◌∙◌}
use mathlib.Core.List.{List, [], ◌∷◌, ◌++◌}
use Prim.Native.Nat.{ℕ, suc, ◌+◌, ◌-◌, ◌*◌, ◌≤◌, ◌<◌, min}
use native.Mathlib.Omega.{arith}
use native.Mathlib.Nat.{mul-le-mul_right, suc-mul, zero-mul}
use lib.Dec.{ltb, eqb}
use lib.ListN.{length, set, length-set}
use borrow.Author.Tests.{ltb-true, ltb-false}
use Rattle.exec.specs.declared.Limits.{Limits}
use Rattle.exec.specs.declared.Unit as units
use Rattle.exec.specs.declared.Unit.TheVariants.{Bytes, Frames}
use Rattle.exec.specs.Limits.{cost, bytes_with, input_bytes}
use Rattle.ring.specs.Ring.{wrap, ring_read}
use Rattle.ring.specs.RingLaws.{wrap_lt, read_length, read_none, write_read}
use Rattle.ring.specs.Frames.{rest_of, sum, Popped, popped}
use Rattle.ring.specs.FrameLaws.{rest_sum, pop_rest, pop_most, pop_length, push_is_write}
use Rattle.inbox.specs.Inbox.{frames_pushed, frames_popped, lengths_pushed, freed_by, lengths_popped, first_after, pushed}
use Rattle.input.specs.declared.Input.{Input}
use Rattle.input.specs.Input.{close_input, receive_answer, is_receipt, is_applied, receive_input, receive_lengths, is_paid, passed, end_input, written_input, written_lengths, close_when_taken, peer_ends, pop_in}
use Rattle.input.proofs.Receives.{chunk_some, chunk_fits}
use Rattle.account.proofs.Flags.{either}

-- ---- frames: the bytes they hold, and what a pop leaves

-- from 1 to n bytes each
pub data All (n : ℕ) : List ℕ → Type 0 where
  none : All n []
  more : {f : ℕ} {fs : List ℕ} → 0 < f → f ≤ n → All n fs → All n (f ∷ fs)

pub sum_most : (n : ℕ) (fs : List ℕ) → All n fs → sum fs ≤ length fs * n
sum_most n [] a = rw zero-mul (omega arith)
sum_most n (f ∷ fs) (more s l a) = let z = sum_most n fs a in rw suc-mul (omega arith)

rest_small : (n m f : ℕ) (fs : List ℕ) (b1 b2 : Bool) → ltb m f ≡ b2 → 0 < f → f ≤ n → All n fs → All n (rest_of fs (m - f))
    → All n (cond b1 (f ∷ fs) (cond b2 ((f - m) ∷ fs) (rest_of fs (m - f))))
rest_small n m f fs true b2 e s h a r = more s h a
rest_small n m f fs false true e s h a r = more {f = f - m} (omega (arith, ltb-true m f e)) (omega arith) a
rest_small n m f fs false false e s h a r = r

all_rest : (n m : ℕ) (fs : List ℕ) → All n fs → All n (rest_of fs m)
unfolding rest_of
all_rest n m [] a = none
all_rest n m (f ∷ fs) (more s h a) = rest_small n m f fs (eqb m 0) (ltb m f) refl s h a (all_rest n (m - f) fs a)

all_append : (n : ℕ) (a b : List ℕ) → All n a → All n b → All n (a ++ b)
all_append n [] b p q = q
all_append n (x ∷ a) b (more s h p) q = more s h (all_append n a b p q)

sum_append : (a b : List ℕ) → sum (a ++ b) ≡ sum a + sum b
sum_append [] b = omega arith
sum_append (x ∷ a) b = let z = sum_append a b in omega arith

-- ---- the input in range

-- the bytes of the inbox's ring
abbrev pub area_as : units.Unit → Limits → ℕ
area_as u l = bytes_with u l.input.size l.chunk

-- the frames that wait
abbrev pub waiting : List ℕ → ℕ → ℕ → ℕ → List ℕ
waiting lengths size first frames = ring_read 0 size first frames lengths

-- by the unit: in Bytes no frame is counted, in Frames the lengths that wait stand in their ring
abbrev pub Held : units.Unit → Limits → List ℕ → ℕ → ℕ → ℕ → ℕ → ℕ → Type 0
Held Bytes l lengths open' returnable count first frames = (open' + returnable + count ≤ l.input.size) × (first ≡ 0) × (frames ≡ 0)
Held Frames l lengths open' returnable count first frames =
    (open' + returnable + frames ≤ l.input.size) × (count ≡ sum (waiting lengths l.input.size first frames))
    × All l.chunk (waiting lengths l.input.size first frames) × (first < l.input.size) × (l.input.size ≤ length lengths)

abbrev pub HeldIn : units.Unit → Limits → List ℕ → Input → Type 0
HeldIn u l lengths i = Held u l lengths i.window.open i.window.returnable i.inbox.length i.inbox.first i.inbox.frames

abbrev pub InRange : Limits → List ℕ → Input → Type 0
InRange l lengths i = HeldIn l.input.unit l lengths i × (i.inbox.start < input_bytes l)

pub waiting_length : (lengths : List ℕ) (size first frames : ℕ) → size ≤ length lengths → first < size → frames ≤ size → length (waiting lengths size first frames) ≡ frames
waiting_length lengths size first frames a b c = read_length 0 size first frames lengths (omega arith) (omega arith) c

-- what is held fits the ring, with one more message that is paid for
pub room_by : (u : units.Unit) (l : Limits) (lengths : List ℕ) (i : Input) (n : ℕ) → HeldIn u l lengths i → n ≤ l.chunk → cost u n ≤ i.window.open → i.inbox.length + n ≤ bytes_with u l.input.size l.chunk
unfolding cost bytes_with
room_by Bytes l lengths i n h m k = let z = h.0 in omega arith
room_by Frames l lengths i n h m k =
    let z = h.0 in let s = h.1 in
    let t = sum_most l.chunk (waiting lengths l.input.size i.inbox.first i.inbox.frames) h.2 in
    let w = waiting_length lengths l.input.size i.inbox.first i.inbox.frames h.4 h.3 (omega arith) in
    let e : length (waiting lengths l.input.size i.inbox.first i.inbox.frames) * l.chunk ≡ i.inbox.frames * l.chunk = ap (λ (x : ℕ). x * l.chunk) w in
    let p = mul-le-mul_right {m = suc i.inbox.frames} {n = l.input.size} l.chunk (omega arith) in
    let q : i.inbox.length + n ≤ suc i.inbox.frames * l.chunk = rw suc-mul (omega arith) in
    omega arith

pub holds_by : (u : units.Unit) (l : Limits) (lengths : List ℕ) (i : Input) → HeldIn u l lengths i → i.inbox.length ≤ area_as u l
unfolding bytes_with
holds_by Bytes l lengths i h = let z = h.0 in omega arith
holds_by Frames l lengths i h =
    let z = h.0 in let s = h.1 in
    let t = sum_most l.chunk (waiting lengths l.input.size i.inbox.first i.inbox.frames) h.2 in
    let w = waiting_length lengths l.input.size i.inbox.first i.inbox.frames h.4 h.3 (omega arith) in
    let e : length (waiting lengths l.input.size i.inbox.first i.inbox.frames) * l.chunk ≡ i.inbox.frames * l.chunk = ap (λ (x : ℕ). x * l.chunk) w in
    let p = mul-le-mul_right {m = i.inbox.frames} {n = l.input.size} l.chunk (omega arith) in omega arith

cleared_by : (u : units.Unit) (l : Limits) (lengths : List ℕ) (i : Input) → HeldIn u l lengths i → Held u l lengths i.window.open i.window.returnable 0 0 0
cleared_by Bytes l lengths i h = let z = h.0 in (omega arith, refl, refl)
cleared_by Frames l lengths i h =
    let z = h.0 in let f = h.3 in (omega arith, rw (read_none 0 l.input.size 0 lengths) refl, rw (read_none 0 l.input.size 0 lengths) none, omega arith, h.4)

pub close_range : (l : Limits) (lengths : List ℕ) (i : Input) (d : Bool) → InRange l lengths i → InRange l lengths (close_input i d)
close_range l lengths i d h = either (InRange l lengths) i.closed i _ h (cleared_by l.input.unit l lengths i h.0, (let z = h.1 in omega arith))

-- m bytes taken by the workload: the lengths after it
pop_by : (u : units.Unit) (l : Limits) (lengths : List ℕ) (i : Input) (m : ℕ) → m ≤ i.inbox.length → HeldIn u l lengths i
    → Held u l (lengths_popped u l.input.size m i.inbox lengths) i.window.open (i.window.returnable + freed_by u l.input.size m i.inbox lengths)
    (i.inbox.length - m) (first_after u l.input.size (freed_by u l.input.size m i.inbox lengths) i.inbox)
    (frames_popped u (freed_by u l.input.size m i.inbox lengths) i.inbox.frames)
pop_by Bytes l lengths i m k h = let z = h.0 in (omega arith, h.1, h.2)
pop_by Frames l lengths i m k h =
    let size : ℕ = l.input.size in let first : ℕ = i.inbox.first in let frames : ℕ = i.inbox.frames in
    let fs : List ℕ = waiting lengths size first frames in
    let z0 = h.0 in let z1 = h.1 in let z3 = h.3 in let z4 = h.4 in
    let most : frames ≤ size = omega arith in
    let begins : first ≤ size = omega arith in
    let q : Popped = popped frames size first m lengths in
    let r : waiting q.lengths size (wrap size (first + q.freed)) (frames - q.freed) ≡ rest_of fs m = pop_rest frames size first m lengths z4 begins most in
    let fm : q.freed ≤ frames = pop_most frames size first m lengths z4 begins most in
    let ll : length q.lengths ≡ length lengths = pop_length frames size first m 0 lengths in
    let s1 : sum (rest_of fs m) ≡ sum fs - m = rest_sum fs m in (
      omega arith,
      rw r (omega arith),
      rw r (all_rest l.chunk m fs h.2),
      wrap_lt size (first + q.freed) (omega arith),
      omega arith,
    )

pub written_range : (l : Limits) (lengths : List ℕ) (n : ℕ) (i : Input) → InRange l lengths i → InRange l (written_lengths l i n lengths) (written_input l i n lengths)
unfolding written_lengths written_input
written_range l lengths n i h = go i.closed
  where
    go : (b : Bool)
        → InRange l (cond b lengths (lengths_popped l.input.unit l.input.size (min n i.inbox.length) i.inbox lengths)) (cond b i (close_when_taken (pop_in l n lengths i)))
    go true = h
    go false =
        let m : ℕ = min n i.inbox.length in
        let k : m ≤ i.inbox.length = omega arith in
        let w = holds_by l.input.unit l lengths i h.0 in let z = h.1 in
        (pop_by l.input.unit l lengths i m k h.0, wrap_lt (input_bytes l) (i.inbox.start + m) (omega arith))

-- a message that is paid for, kept: its length goes behind the others
push_by : (u : units.Unit) (l : Limits) (lengths : List ℕ) (n : ℕ) (i : Input) → 0 < n → n ≤ l.chunk → cost u n ≤ i.window.open → HeldIn u l lengths i
    → Held u l (lengths_pushed u l.input.size n i.inbox lengths) (i.window.open - cost u n) i.window.returnable (i.inbox.length + n) i.inbox.first (frames_pushed u i.inbox.frames)
unfolding cost
push_by Bytes l lengths n i p m k h = let z = h.0 in (omega arith, h.1, h.2)
push_by Frames l lengths n i p m k h =
    let size : ℕ = l.input.size in let first : ℕ = i.inbox.first in let frames : ℕ = i.inbox.frames in
    let z = h.0 in let z1 = h.1 in let z3 = h.3 in let z4 = h.4 in
    let less : frames < size = omega arith in
    let e : waiting (set lengths (wrap size (first + frames)) n) size first (frames + 1) ≡ waiting lengths size first frames ++ (n ∷ [])
    = ap (λ (x : List ℕ). ring_read 0 size first (frames + 1) x) (push_is_write size first frames n lengths z4 (omega arith) less)
    ∙ write_read 0 size first frames (n ∷ []) 1 lengths (omega arith) (omega arith) (omega arith) (omega arith) in
    let ls = length-set lengths (wrap size (first + frames)) n in (
      omega arith,
      rw (e, sum_append (waiting lengths size first frames) (n ∷ [])) (omega arith),
      rw e (all_append l.chunk (waiting lengths size first frames) (n ∷ []) h.2 (more p m none)),
      z3,
      omega arith,
    )

-- paid for and dropped
pay_by : (u : units.Unit) (l : Limits) (lengths : List ℕ) (n : ℕ) (i : Input) → HeldIn u l lengths i
    → Held u l lengths (i.window.open - cost u n) i.window.returnable i.inbox.length i.inbox.first i.inbox.frames
pay_by Bytes l lengths n i h = let z = h.0 in (omega arith, h.1, h.2)
pay_by Frames l lengths n i h = let z = h.0 in (omega arith, h.1, h.2, h.3, h.4)

-- what an input that is paid for has passed
pub record Paid (l : Limits) (n : ℕ) (i : Input) : Type 0 where
  pub some : 0 < n
  pub small : n ≤ l.chunk
  pub enough : cost l.input.unit n ≤ i.window.open

pub paid : (l : Limits) (i : Input) (n : ℕ) → is_paid l i n ≡ true → Paid l n i
paid l i n e =
    let p = passed l i n e in
    record { some = chunk_some l n p.chunk; small = chunk_fits l n p.chunk; enough = ltb-false i.window.open (cost l.input.unit n) p.window }

-- the input by whether the message is paid for, and kept
abbrev received_if : Bool → Bool → Limits → ℕ → Input → Input
received_if pays keeps l n i = record {
  inbox = cond keeps (pushed l.input.unit n i.inbox) i.inbox;
  window = record {
    «open» = cond pays (i.window.open - cost l.input.unit n) i.window.open;
    returnable = i.window.returnable;
    smallest = i.window.smallest;
  };
  peer_ended = i.peer_ended;
  closed = i.closed;
  close_requested = i.close_requested;
  closed_message = i.closed_message;
}

received_if_lem : (x : Result Receipt Refusal) (l : Limits) (lengths : List ℕ) (n : ℕ) (i : Input) → (is_receipt x ≡ true → Paid l n i) → InRange l lengths i
    → InRange l (cond (is_applied x) (lengths_pushed l.input.unit l.input.size n i.inbox lengths) lengths) (received_if (is_receipt x) (is_applied x) l n i)
received_if_lem (Err y) l lengths n i p h = h
received_if_lem (Ok Receipt.Applied) l lengths n i p h = let q = p refl in (push_by l.input.unit l lengths n i q.some q.small q.enough h.0, h.1)
received_if_lem _ l lengths n i p h = (pay_by l.input.unit l lengths n i h.0, h.1)

pub input_if : (b : Bool) (l : Limits) (lengths : List ℕ) (n : ℕ) (i : Input) → InRange l lengths i
    → InRange l (cond b (receive_lengths l i n lengths) lengths) (cond b (receive_input l i n) i)
unfolding receive_lengths receive_input
input_if true l lengths n i h = received_if_lem (receive_answer l i n) l lengths n i (paid l i n) h
input_if false l lengths n i h = h

pub end_if : (b : Bool) (l : Limits) (lengths : List ℕ) (i : Input) → InRange l lengths i → InRange l lengths (cond b (end_input i) i)
unfolding end_input
end_if false l lengths i h = h
end_if true l lengths i h = either (InRange l lengths) i.peer_ended i (close_when_taken (peer_ends i)) h h

pub granted_by : (u : units.Unit) (l : Limits) (lengths : List ℕ) (i : Input) → HeldIn u l lengths i
    → Held u l lengths (i.window.open + i.window.returnable) 0 i.inbox.length i.inbox.first i.inbox.frames
granted_by Bytes l lengths i h = let z = h.0 in (omega arith, h.1, h.2)
granted_by Frames l lengths i h = let z = h.0 in (omega arith, h.1, h.2, h.3, h.4)
