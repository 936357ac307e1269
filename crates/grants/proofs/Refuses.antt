-- What 46 refuses: an open, and every other call, of a smallest grant of 0 or above the input's size, behind 12 and 10.
use Rattle.inbox.specs.Need.{need_fits}
use Rattle.std.specs.Prelude.{Bool, true, false, cond, ◌&&◌, ◌≡◌, refl, ℕ, ◌≤◌, ◌<◌}
use Rattle.std.proofs.lemmas.Bool.{lt-ltb, le-leb}
use Rattle.std.proofs.lemmas.Bool.Decides.{nat_tests}
use Rattle.std.proofs.Common.{arith, ◌∙◌}
use mathlib.Core.Logic.{inl, inr}
use Rattle.exec.specs.declared.Refusal.{Refusal}
use Rattle.exec.specs.Limits.{is_valid}
use Rattle.inbox.specs.Receiver.{grant_fits}
use Rattle.runner.specs.Range.{bytes_do, lengths_do, stop}
use Rattle.calls.specs.Call as Call
use Rattle.calls.specs.Call.{Conf, Call, Answer}
use Rattle.account.proofs.Refused.{refusals, stopped}
use Rattle.grants.specs.GrantsClaim.{Misfits, Refuses}

misfit : (smallest size : ℕ) → Misfits smallest size → grant_fits smallest size ≡ false
misfit smallest size (inl e) = rw e refl
misfit smallest size (inr l) = grind (arith, nat_tests)

fit : (smallest size : ℕ) → 0 < smallest → smallest ≤ size → grant_fits smallest size ≡ true
fit smallest size a b = rw (lt-ltb 0 smallest a, le-leb smallest size b) refl

-- open's answer by its tests
other : (valid stores : Bool) → cond valid (cond stores Call.Ok (Call.Refused 11)) (Call.Refused 10) ≡ Call.Refused 46 → ⊥
other true true e = cc
other true false e = let z : ◌≡◌ {A = ℕ} 11 46 = cc in omega arith
other false stores e = let z : ◌≡◌ {A = ℕ} 10 46 = cc in omega arith

pub refuses : Refuses
unfolding stop
refuses = record {
  at_open = λ conf now bytes lengths v m. refusals.open_number conf now bytes lengths ∙ rw (v, misfit conf.smallest conf.limits.input.size m) refl;
  fitting = λ conf now bytes lengths a b e. other (is_valid conf.limits) (need_fits conf.limits && (bytes_do conf.limits bytes && lengths_do conf.limits lengths))
      (rw (refusals.open_number conf now bytes lengths, fit conf.smallest conf.limits.input.size a b) at e);
  in_calls = λ s c i v m. stopped s c Refusal.SmallestGrant (rw (i, v, misfit s.runner.input.window.smallest s.runner.limits.input.size m) refl);
}
