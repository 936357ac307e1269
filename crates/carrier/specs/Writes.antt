-- The ways of a write, whatever carries it.
use Rattle.std.specs.Prelude.{Bool, true, false, cond, ◌&&◌, List, ◌≡◌, refl, ℕ, ◌+◌, ◌≤◌, ◌<◌, leb, length, drop, Result, None, Ok, Err}
use Rattle.std.proofs.lemmas.Bool.{false≢true}
use Rattle.std.proofs.Common.{sym, ap, ◌∙◌, arith, leb-true, leb-false}
use Rattle.exec.specs.declared.Refusal.{Refusal}
use Rattle.exec.specs.declared.Refusal.TheVariants.{BufferShort, UntoldStatus}
use Rattle.runner.specs.declared.runner.Runner.{Runner}
use Rattle.runner.specs.Range.{bytes_do, stop}
use Rattle.carrier.specs.Carrier.{admitted, WriteAfter, write_after, unwritten, room, readied, written, asked, told, Carriage, sent, write}
use Rattle.carrier.specs.SaidLaws.{Keeps, told_beyond, none_told}

-- the message is taken and told
abbrev pub tells : Carriage → Runner → (store b : List ℕ) → WriteAfter
tells k r store b = told k.laying (asked k.at r store b)

-- what a write leaves, by whether the carrier is for the runner and there is room: it is refused by the carrier's own number, then by
-- 25, then by 40, or its message is told
pub data Writes (k : Carriage) (r : Runner) (store b : List ℕ) : Bool → WriteAfter → Type 0 where
  elsewhere : k.carries ≡ false → Writes k r store b false (write_after (unwritten k.own r) b)
  short : k.carries ≡ true → length b < room r.limits → Writes k r store b false (write_after (unwritten BufferShort r) b)
  left : k.left ≡ true → Writes k r store b true (write_after (unwritten UntoldStatus r) b)
  taken : k.left ≡ false → room r.limits ≤ length b → Writes k r store b true (tells k r store b)

module _ (k : Carriage) (r : Runner) (store b : List ℕ) where
  write_by : (carries roomy isleft : Bool) → k.carries ≡ carries → leb (room r.limits) (length b) ≡ roomy → k.left ≡ isleft
      → Writes k r store b (carries && roomy) (written (readied (cond carries (Ok tt) (Err k.own)) roomy) (cond isleft (write_after (unwritten UntoldStatus r) b) (tells k r store b)) r b)
  unfolding written readied
  write_by false roomy isleft c e u = elsewhere c
  write_by true false isleft c e u = short c (leb-false (room r.limits) (length b) e)
  write_by true true true c e u = left u
  write_by true true false c e u = taken u (leb-true (room r.limits) (length b) e)

  -- of a runner in range with its stores
  pub writes : stop r (bytes_do r.limits store) ≡ Ok tt → Writes k r store b (k.carries && leb (room r.limits) (length b)) (write k r store b)
  unfolding write admitted sent
  writes g = rw g (write_by k.carries (leb (room r.limits) (length b)) k.left refl refl refl)

  -- and of any other
  pub stopped : (x : Refusal) → stop r (bytes_do r.limits store) ≡ Err x → write k r store b ≡ write_after (unwritten x r) b
  unfolding write admitted written readied
  stopped x g = rw g refl

-- where there is room a message that is left is left by 40
pub write_left : (k : Carriage) (r : Runner) (store b : List ℕ) (met : Bool) (w : WriteAfter) → Writes k r store b met w → met ≡ true → k.left ≡ true
    → w ≡ write_after (unwritten UntoldStatus r) b
write_left k r store b met w (elsewhere c) m e = absurd (false≢true m)
write_left k r store b met w (short c l) m e = absurd (false≢true m)
write_left k r store b met w (left u) m e = refl
write_left k r store b met w (taken u l) m e = absurd (false≢true (sym u ∙ e))

-- ---- what is kept of the buffer

module _ (k : Carriage) (r : Runner) (store b : List ℕ) where
  none_by : (met : Bool) (w : WriteAfter) → Writes k r store b met w → w.writing.answer ≡ Ok None → w.buffer ≡ b
  none_by met w (elsewhere c) e = refl
  none_by met w (short c l) e = refl
  none_by met w (left u) e = refl
  none_by met w (taken u l) e = none_told k.at r store b k.laying e

  -- WHERE NO MESSAGE WAITS, THE WHOLE BUFFER
  pub none_kept : (write k r store b).writing.answer ≡ Ok None → (write k r store b).buffer ≡ b
  none_kept = by (stop r (bytes_do r.limits store)) refl
    where
      by : (met : Result (Unit {0}) Refusal) → stop r (bytes_do r.limits store) ≡ met → (write k r store b).writing.answer ≡ Ok None → (write k r store b).buffer ≡ b
      by (Ok tt) g = none_by _ _ (writes k r store b g)
      by (Err x) g = λ e. ap (λ (w : WriteAfter). w.buffer) (stopped k r store b x g)

  module _ (inside : k.at + r.limits.chunk ≤ room r.limits) (keeps : Keeps r.limits k.laying (room r.limits) (room r.limits)) where
    beyond_by : (met : Bool) (w : WriteAfter) → Writes k r store b met w → drop (room r.limits) w.buffer ≡ drop (room r.limits) b
    unfolding Keeps
    beyond_by met w (elsewhere c) = refl
    beyond_by met w (short c l) = refl
    beyond_by met w (left u) = refl
    beyond_by met w (taken u l) =
        told_beyond k.at r store b (omega arith) k.laying (room r.limits) inside (λ m p h n. keeps m p h (omega arith))

    -- ALL BYTES BEHIND max(chunk + 13, 43), WHATEVER IS WRITTEN
    pub beyond_kept : drop (room r.limits) (write k r store b).buffer ≡ drop (room r.limits) b
    beyond_kept = by (stop r (bytes_do r.limits store)) refl
      where
        by : (met : Result (Unit {0}) Refusal) → stop r (bytes_do r.limits store) ≡ met → drop (room r.limits) (write k r store b).buffer ≡ drop (room r.limits) b
        by (Ok tt) g = beyond_by _ _ (writes k r store b g)
        by (Err x) g = ap (λ (w : WriteAfter). drop (room r.limits) w.buffer) (stopped k r store b x g)
