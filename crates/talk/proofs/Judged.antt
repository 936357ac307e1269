-- The judge by one item: what passes its tests is accepted; and what is noted of its accounts and of the ends that it heard.
use Rattle.std.specs.Prelude.{◌≡◌, refl, Bool, true, false, cond, ◌||◌, List, ℕ, eqb, Ok}
use Rattle.exec.specs.declared.Stream.{Stream}
use Rattle.exec.specs.declared.Stream.TheVariants.{Stdout, Stderr, Notes}
use Rattle.exec.specs.Each.{Each, one, on_one}
use Rattle.exec.specs.Limits.{is_valid}
use Rattle.exec.specs.Row.{at, put}
use Rattle.credit.specs.declared.sender.Credit.{Credit}
use Rattle.runner.specs.State.{credit_at, put_credit}
use Rattle.calls.specs.Call as Call
use Rattle.calls.specs.Call.{Message}
use Rattle.wire.specs.Messages.{ends_by}
use Rattle.judge.specs.declared.Item.{Item}
use Rattle.judge.specs.declared.Judge.{Judge}
use Rattle.judge.specs.Judge.{is_shut, is_out_of_order, is_off_chunk, is_unpaid, is_above_window, judged, noted, ended_now}
use Rattle.talk.specs.TalkClaim.{item_of}

pub accepts : (j : Judge) (x : Item) → is_valid j.limits ≡ true → is_out_of_order j x ≡ false → is_off_chunk j x ≡ false → is_unpaid j x ≡ false
    → is_above_window j x ≡ false → judged j x ≡ Ok tt
unfolding judged
accepts j x v order length cost window = rw (v, order, length, cost, window) refl

-- what holds of each account with what the judge has left of it holds still where both put one in the same place
pub put_both : (P : ℕ → Credit → Type 0) (left : List ℕ) (cs : List Credit) (k v : ℕ) (c : Credit) → P v c → ((i : ℕ) → P (at i 0 left) (credit_at i cs))
    → (i : ℕ) → P (at i 0 (put k v 0 left)) (credit_at i (put_credit k c cs))
put_both P left cs k v c p h i = by (eqb i 0) (eqb i 1) (eqb k 0) (eqb k 1)
  where
    by : (a a1 b b1 : Bool)
        → P (cond a (cond b v (at 0 0 left)) (cond a1 (cond b1 v (at 1 0 left)) (cond (b || b1) (at 2 0 left) v)))
        (cond a (cond b c (credit_at 0 cs)) (cond a1 (cond b1 c (credit_at 1 cs)) (cond (b || b1) (credit_at 2 cs) c)))
    by true a1 true b1 = p
    by true a1 false b1 = h 0
    by false true b true = p
    by false true b false = h 1
    by false false true b1 = h 2
    by false false false true = h 2
    by false false false false = p

-- ---- the ends; a stream that is not open counts as ended

abbrev pub Ended : Judge → Each Bool → Type 0
Ended j e = (x : Stream) → is_shut x j ≡ one x e

put_ended : (y : Stream) (j : Judge) (e : Each Bool) → Ended j e → Ended (ended_now j y) (on_one y (λ (b : Bool). true) e)
put_ended Stdout j e h Stdout = refl
put_ended Stdout j e h Stderr = h Stderr
put_ended Stdout j e h Notes = h Notes
put_ended Stderr j e h Stdout = h Stdout
put_ended Stderr j e h Stderr = refl
put_ended Stderr j e h Notes = h Notes
put_ended Notes j e h Stdout = h Stdout
put_ended Notes j e h Stderr = h Stderr
put_ended Notes j e h Notes = refl

pub noted_ends : (m : Message) (j : Judge) (e : Each Bool) → Ended j e → Ended (noted j (item_of m)) (ends_by m e)
noted_ends (Call.End y) j e h = put_ended y j e h
noted_ends _ j e h = h
