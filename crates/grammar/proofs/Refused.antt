-- A refused line changes nothing: the card's refusals give back the stage, and a call that is refused leaves its state.
use Rattle.inbox.specs.Need.{need_fits}
use Rattle.std.specs.Prelude.{Option, Result, Some, None, Ok, Err}
use Rattle.exec.specs.declared.Refusal.{Refusal}
use mathlib.Core.Bool.{true, ◌&&◌}
use mathlib.Core.Path.{◌≡◌, refl, subst, subst⁻¹}
use mathlib.Core.List.{List, [], ◌∷◌}
use Prim.Native.Nat.{ℕ}
use Rattle.exec.specs.Limits.{is_valid}
use Rattle.inbox.specs.Receiver.{grant_fits}
use Rattle.runner.specs.Calls as Calls
use Rattle.runner.specs.Range.{bytes_do, lengths_do}
use Rattle.calls.specs.Call as Call
use Rattle.calls.specs.Call.{Call, Answer, is_refused}
use Rattle.account.specs.Step.{State, replied}
use Rattle.account.specs.Records.{among}
use Rattle.account.specs.Refused.{open_answer}
use Rattle.account.proofs.Refused.{refusals}
use Rattle.account.proofs.Flags.{either}
use Rattle.opening.specs.Open.{Opening, line_open}
use Rattle.syntax.specs.Lines.{line_call, zeros}
use Rattle.grammar.specs.Feed.{Running, Over, Answered, bad, opened_by, first, later, answered, too_long, is_short, answer_of}
use Rattle.grammar.specs.Refused.{RefusedLines}
use Rattle.grammar.proofs.Called.{Safe, own, called}

-- ---- once a runner is open

later_safe : (c : Option Call) (s : State) → Safe s (later c s)
unfolding later
later_safe None s = own s
later_safe (Some c) s = called s c

line_safe : (s : State) (line : List ℕ) → Safe s (answer_of (Running s) line)
unfolding answer_of answered too_long
line_safe s line = either (Safe s) (is_short line) _ _ (later_safe (line_call line) s) (own s)

-- ---- the first line

abbrev IsFirst : ℕ → Type 0
IsFirst n = among n (10 ∷ 11 ∷ 30 ∷ 46 ∷ []) ≡ true

-- an answer that is no refusal, or one by such a number
abbrev First : Answer → Type 0
First a = (n : ℕ) → a ≡ Call.Refused n → IsFirst n

refused_first : (m : ℕ) → IsFirst m → First (Call.Refused m)
refused_first m h n e = let k : m ≡ n = cc in subst IsFirst k h

open_first : (o : Opening) → First (open_answer o.conf o.now (zeros 65536) (zeros 1024))
open_first o =
    let l = o.conf.limits in
    subst⁻¹ First (refusals.open_number o.conf o.now (zeros 65536) (zeros 1024))
    (either First (is_valid l) _ _
    (either First (grant_fits o.conf.smallest l.input.size) _ _
    (either First (need_fits l && (bytes_do l (zeros 65536) && lengths_do l (zeros 1024))) _ _ (λ n e. cc) (refused_first 11 refl)) (refused_first 46 refl)) (refused_first 10 refl))

abbrev Unopened : Answered → Type 0
Unopened x = (n : ℕ) → x.answer ≡ Call.Refused n → (x.stage ≡ Over) × IsFirst n

bad_first : Unopened (bad Over)
bad_first n e = (refl, refused_first 30 refl n e)

opened_by_lem : (met : Result (Unit {0}) Refusal) (o : Opening) → First (replied met) → Unopened (opened_by met o)
opened_by_lem (Ok tt) o h n e = cc
opened_by_lem (Err x) o h n e = (refl, h n e)

first_safe : (o : Option Opening) → Unopened (first o)
unfolding first
first_safe None = bad_first
first_safe (Some o) =
    opened_by_lem (Calls.«open» o.conf.key o.conf.limits o.conf.timers o.conf.smallest o.now (zeros 65536) (zeros 1024)).answer o (open_first o)

-- DEMAND 1, OF A CARD'S LINES
pub refused_lines : RefusedLines
unfolding answer_of answered too_long
refused_lines = record {
  kept = λ s line n e. (line_safe s line n e).0;
  numbered = λ s line n e. (line_safe s line n e).1;
  unopened = λ line. either Unopened (is_short line) _ _ (first_safe (line_open line)) bad_first;
  over = λ line. either (λ (x : Answered). x ≡ bad Over) (is_short line) _ _ refl refl;
}
