-- One call: what a write comes to, frees and leaves, of any state.
use Rattle.std.specs.Prelude.{◌≡◌, refl, Bool, true, false, cond, List, ℕ, ◌+◌, ◌≤◌, min, Result, Ok, Err}
use Rattle.std.proofs.Common.{sym, ap, ◌∙◌, subst, arith}
use Rattle.std.proofs.lemmas.Bool.{false≢true}
use Rattle.exec.specs.declared.Limits.{Limits}
use Rattle.exec.specs.declared.Refusal.{Refusal}
use Rattle.inbox.specs.Inbox.{pop_freed, pop_came}
use Rattle.inbox.specs.PopLaws.{popped}
use Rattle.input.specs.declared.Input.{Input}
use Rattle.input.specs.Input.{close_when_taken, pop_in, written_input, written_came}
use Rattle.runner.specs.Calls as Calls
use Rattle.runner.specs.Range.{lengths_do, stop}
use Rattle.runner.specs.Streams as Streams
use Rattle.calls.specs.Call as Call
use Rattle.account.specs.Step.{State, next, answer, came}
use Rattle.budget.specs.BudgetClaim.{told_of, Write, Writes}

module _ (l : Limits) (i : Input) (n : ℕ) (lengths : List ℕ) where
  -- the call's own claim, and the frames that are left
  pub record Written (i' : Input) (m : ℕ) : Type 0 where
    pub write : Write l i i' n m
    pub left : m + i'.inbox.frames ≤ i.inbox.frames + min m 1

  by_closed : (c : Bool) → i.closed ≡ c → Written (cond c i (close_when_taken (pop_in l n lengths i))) (cond c 0 (pop_came l i.inbox n lengths))
  by_closed true e = record {
    write = record { none = λ z. refl; bytes = λ z. refl; closed = λ z. refl; freed = (0, omega arith, omega arith, λ u. (omega arith, omega arith)); frames = omega arith };
    left = omega arith;
  }
  by_closed false e =
      let p = popped l i.inbox n lengths in record {
        write = record {
          none = λ z. p.none (omega arith);
          bytes = p.bytes;
          closed = λ z. absurd (false≢true (sym e ∙ z));
          freed = (pop_freed l i.inbox n lengths, refl, p.most, λ u. (p.gone u, p.least u));
          frames = p.frames;
        };
        left = p.left;
      }

  pub written : Written (written_input l i n lengths) (written_came l i n lengths)
  unfolding written_input written_came
  written = by_closed i.closed refl

-- a call that is answered by a number was not refused: it is what the write comes to
pub told : (s : State) (n m : ℕ) → answer s (Call.input_written n) ≡ Call.Came m → written_came s.runner.limits s.runner.input n s.lengths ≡ m
unfolding answer Calls.input_written Streams.written_came
told s n m e = by (stop s.runner (lengths_do s.runner.limits s.lengths)) e
  where
    by : (x : Result (Unit {0}) Refusal) → came (Calls.written_by x s.runner n s.lengths).counting.answer ≡ Call.Came m
        → written_came s.runner.limits s.runner.input n s.lengths ≡ m
    by (Ok tt) h = ap told_of h
    by (Err x) h = cc

pub one : Writes
unfolding next answer Calls.input_written Streams.written_came Streams.written_next
one s n m e = by (stop s.runner (lengths_do s.runner.limits s.lengths)) e
  where
    by : (x : Result (Unit {0}) Refusal) → came (Calls.written_by x s.runner n s.lengths).counting.answer ≡ Call.Came m
        → Write s.runner.limits s.runner.input (Calls.written_by x s.runner n s.lengths).counting.runner.input n m
    by (Ok tt) h =
        let r = s.runner in
        subst (Write r.limits r.input (written_input r.limits r.input n s.lengths) n) (ap told_of h) (written r.limits r.input n s.lengths).write
    by (Err x) h = cc
