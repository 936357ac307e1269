-- Of what the turn needs: a stream that is closed and not marked was closed by the program, and one of a runner that has finished
-- stays closed.
use Rattle.exec.specs.declared.Limits.{Limits}
use Rattle.exec.specs.Limits.{has}
use mathlib.Core.Bool.{Bool, true, false, true≢false, false≢true, not, cond}
use mathlib.Core.Path.{◌≡◌, refl, sym, ◌∙◌, ap}
use mathlib.Core.List.{List, [], ◌∷◌}
use mathlib.Core.Logic.{inl, inr}
use Prim.Native.Nat.{ℕ}
use Rattle.exec.specs.declared.Stream.{Stream}
use Rattle.runner.specs.declared.runner.Runner.{Runner}
use Rattle.runner.specs.State.{out_of}
use Rattle.calls.specs.Call as Call
use Rattle.calls.specs.Call.{Conf, Call, Answer, Done, count, is_refused}
use Rattle.account.specs.Step.{State}
use Rattle.account.specs.Account.{Account, Tally, add, account, start}
use Rattle.account.specs.TurnClaim.{Has}
use Rattle.account.proofs.Plain.{next, answer, run}
use Rattle.account.proofs.Sides.{one_per}
use Rattle.account.proofs.Keeps.{All, add_keeps}
use Rattle.account.proofs.Finish.{no_more}
use Rattle.std.proofs.lemmas.Bool.{or_left, or_parts}
use Rattle.account.proofs.Outs.{Stands, quiet_keeps}

-- ---- own: by the account a stream that is closed and not marked was closed by the program

-- over calls: the call that closed it
abbrev pub closing_call : Stream → Done
closing_call x = record { call = Call.output_closed x; answer = Call.Ok }

closed_now : (x : Stream) (c : Call) (s : State) → c ≡ Call.output_closed x → is_refused (answer s c) ≡ false → closing_call x ≡ record { call = c; answer = answer s c }
unfolding answer
closed_now x c s e f = rw e (by (has s.runner.limits x) (rw e at f))
  where
    by : (b : Bool) → is_refused (cond b Call.Ok (Call.Refused 2)) ≡ false → closing_call x ≡ record { call = Call.output_closed x; answer = cond b Call.Ok (Call.Refused 2) }
    by true f = refl
    by false f = absurd (true≢false f)

-- G x: that the program closed x, which is open
module _ (l : Limits) (G : Stream → Type 0) where
  abbrev pub Owns : Stream → Bool → Tally → Type 0
  Owns x k t = has l x ≡ true → k ≡ true → t.mark ≡ false → G x

  pub list_own : (cs : List Call) (s : State) (a : Account) → ((x : Stream) → Has (closing_call x) (run s cs) → G x) → All Owns a → All Owns (account a (run s cs))
  list_own [] s a g h = h
  list_own (c ∷ cs) s a g h =
      list_own cs (next s c) (add a c (answer s c)) (λ x m. g x (inr m))
      (add_keeps Owns c (answer s c) (record {
        marks = λ x b k t p o e m. p o e (or_parts b t.mark m).1;
        lost = λ x k t p o e m. absurd (true≢false m);
        fails = λ x k t d p o e m. absurd (true≢false m);
        closes = λ x k t d f p o e m. g x (inl (closed_now x c s d f));
        takes = λ x b k t d p. p;
        sends = λ x b k t d p. p;
      }) a h)

pub start_own : (G : Stream → Type 0) (conf : Conf) (now : ℕ) → All (Owns conf.limits G) (start conf now)
unfolding start
start_own G conf now x o e m = absurd (false≢true (sym (ap not o) ∙ sym (one_per (λ (y : Stream). not (has conf.limits y)) x) ∙ e))

-- ---- final: a runner that has finished has its streams closed, and takes and says no more

abbrev pub Shut : Runner → Type 0
Shut r = (x : Stream) → (out_of x r).closed ≡ true

shut : Stands (λ x o. o.closed ≡ true)
shut = record {
  grace = λ x o h. h;
  gives = λ x o h. refl;
  abandons = λ x o h. or_left o.closed _ h;
  asked = λ x o h. h;
  closes = λ x o h. refl;
  fails = λ x o h. refl;
  hangs = λ x o h. h;
  loses = λ x b o h. h;
  takes = λ x g d k n o h. h;
}

pub shut_next : (c : Call) (s : State) → s.runner.flags.finished ≡ true → Shut s.runner → Shut (next s c).runner
shut_next c s f h = quiet_keeps _ shut c s (no_more c s f) h
