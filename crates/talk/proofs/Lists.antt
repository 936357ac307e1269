-- Over lists: the judge refuses nothing of what our runner says.
use Rattle.credit.specs.declared.sender.Credit.{Credit}
use Rattle.std.specs.Prelude.{◌≡◌, refl, Bool, true, false, cond, List, [], ◌∷◌, ◌++◌, ℕ, eqb, Ok}
use Rattle.std.proofs.lemmas.Bool.{false≢true}
use Rattle.std.proofs.Common.{ap, ◌∙◌, subst, arith, sym}
use Rattle.exec.specs.declared.Stream.{Stream}
use Rattle.exec.specs.declared.Stream.TheVariants.{Stdout, Stderr, Notes}
use Rattle.exec.specs.Each.{one}
use Rattle.exec.specs.Limits.{is_valid, has_notes}
use Rattle.credit.specs.Sender.{new_credit}
use Rattle.runner.specs.declared.runner.Runner.{Runner}
use Rattle.runner.specs.Range.{fresh}
use Rattle.calls.specs.Call.{Conf, Call}
use Rattle.account.specs.Claim.{Opens}
use Rattle.account.specs.Step as Step
use Rattle.account.specs.Step.{State}
use Rattle.account.specs.Records.{Entry, run_entries, calls_of}
use Rattle.account.proofs.Demand.{Fine, fine_next, fine_open, open_same, same_run, lent_open}
use Rattle.account.proofs.Plain.{next, answer, begun, run}
use Rattle.account.proofs.Range.{Lent}
use Rattle.account.proofs.Records.{same_dones, good_open}
use Rattle.wire.proofs.Ends.{Muted, ends}
use Rattle.wire.proofs.Order.{fresh_muted, third_ended}
use Rattle.judge.specs.declared.Item.{Item}
use Rattle.judge.specs.declared.Judge.{Judge}
use Rattle.judge.specs.Judge.{new_judge, is_shut, judged, noted, first}
use Rattle.judge.proofs.Exact.{exact}
use Rattle.talk.specs.TalkClaim.{items_by, items_of, told, OurRunner}
use Rattle.talk.proofs.Received.{credit_goes, input_goes}
use Rattle.talk.proofs.Rest.{Even, AllEven}
use Rattle.talk.proofs.Said.{message_goes}
use Rattle.talk.proofs.Talk.{Talk, Goes, untold_goes}
use Rattle.talk.proofs.Told.{Sort, granted, brought, spoken, untold, sort}

step : (c : Call) (s : State) (j : Judge) → Fine s → Talk s.runner j → Goes (items_by c (answer s c)) (next s c).runner j
step c s j f h = go c (sort c)
  where
    valid : is_valid j.limits ≡ true
    valid = ap is_valid h.rest.0 ∙ f.limits

    go : (c : Call) → Sort c → Goes (items_by c (answer s c)) (next s c).runner j
    go c (granted k p u) = credit_goes k p u s j valid h
    go c (brought k b) = input_goes k b s j valid h
    go c (spoken b) = message_goes b s j f valid h
    go c (untold e m) = untold_goes c s j e m h

-- an item that is accepted goes before what is accepted behind it
accepted : (x : Item) (j : Judge) (xs : List Item) → judged j x ≡ Ok tt → first (noted j x) xs ≡ Ok tt → first j (x ∷ xs) ≡ Ok tt
accepted x j xs e h = rw e h

first_on : (xs ys : List Item) (t : Runner) (j : Judge) → Goes xs t j → ((k : Judge) → Talk t k → first k ys ≡ Ok tt) → first j (xs ++ ys) ≡ Ok tt
first_on [] ys t j g h = h j g
first_on (x ∷ xs) ys t j g h = accepted x j (xs ++ ys) g.0 (first_on xs ys t (noted j x) g.1 h)

list : (cs : List Call) (s : State) (j : Judge) → Fine s → Talk s.runner j → first j (items_of (run s cs)) ≡ Ok tt
list [] s j f h = refl
list (c ∷ cs) s j f h = first_on (items_by c (answer s c)) (items_of (run (next s c) cs)) (next s c).runner j (step c s j f h) (λ k t. list cs (next s c) k (fine_next c s f) t)

-- ---- from open

module _ (conf : Conf) (now : ℕ) (bytes lengths : List ℕ) (op : Opens conf now bytes lengths) where
  opens : Talk (begun conf now bytes lengths).runner (new_judge conf.limits)
  unfolding fresh
  opens = record {
    rest = (refl, refl, record { told = λ e. absurd (false≢true e); unheard = λ e. refl; same = λ e. refl; most = omega arith }, even);
    begins = record { known = λ e. absurd (false≢true e); none = λ e. refl };
    ended = none;
    muted = subst (λ (s : State). Muted s.runner) (open_same conf now bytes lengths op) (fresh_muted conf now bytes lengths op);
  }
    where
      even : AllEven conf.limits.output.size (new_judge conf.limits).left (begun conf now bytes lengths).runner.credits
      even i = by (eqb i 0) (eqb i 1)
        where
          c : Credit
          c = new_credit conf.limits.output.size

          by : (a b : Bool) → Even conf.limits.output.size (cond a 0 (cond b 0 0)) (cond a c (cond b c c))
          by true b = (refl, refl)
          by false true = (refl, refl)
          by false false = (refl, refl)

      none : (x : Stream) → is_shut x (new_judge conf.limits) ≡ one x (ends (begun conf now bytes lengths).runner)
      none Stdout = refl
      none Stderr = refl
      none Notes = sym (third_ended (has_notes conf.limits))

  lent_enough : Lent conf bytes lengths
  lent_enough = lent_open conf now bytes lengths op

  accepts_all : (es : List Entry) → first (new_judge conf.limits) (told conf now bytes lengths es) ≡ Ok tt
  accepts_all es =
      let cs : List Call = calls_of conf (run_entries (Step.opened conf now bytes lengths) es) in
      rw (same_dones conf es (Step.opened conf now bytes lengths) (good_open conf now bytes lengths op) ∙ same_run conf now bytes lengths op cs)
      (list cs (begun conf now bytes lengths) (new_judge conf.limits) (fine_open conf now bytes lengths lent_enough) opens)

pub ours : OurRunner
ours conf now bytes lengths op = record {
  accepted = accepts_all conf now bytes lengths op;
  keeps = λ es. (exact conf.limits (lent_enough conf now bytes lengths op).limits).only (told conf now bytes lengths es) (accepts_all conf now bytes lengths op es);
}
