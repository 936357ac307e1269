-- Credit and input: the judge accepts those that the runner applied, and is in step with it behind them.
use Rattle.exec.specs.declared.Stream.{Stream}
use Rattle.std.specs.Prelude.{◌≡◌, refl, Bool, true, false, cond, not, ◌&&◌, ◌||◌, List, [], ◌∷◌, ℕ, ◌+◌, leb, ltb, length, Result, Ok, Err}
use Rattle.std.proofs.lemmas.Bool.{and_parts, leb-true, le-ltb}
use Rattle.std.proofs.Common.{ap, ◌∙◌, arith}
use mathlib.Core.Path.{subst⁻¹}
use Rattle.exec.specs.declared.Admission.TheVariants.{Own, Stale}
use Rattle.exec.specs.declared.Admission.{Admission}
use Rattle.exec.specs.declared.Key.{Key}
use Rattle.exec.specs.declared.Limits.{Limits}
use Rattle.exec.specs.declared.Pool.{Pool}
use Rattle.exec.specs.declared.Receipt.{Receipt}
use Rattle.exec.specs.declared.Refusal.{Refusal}
use Rattle.exec.specs.Key.{admits}
use Rattle.exec.specs.Limits.{cost, is_valid, output_pool, has_notes}
use Rattle.credit.specs.declared.sender.Credit.{Credit}
use Rattle.credit.specs.Sender.{grantable}
use Rattle.input.specs.Input as Input
use Rattle.input.specs.Input.{receive_answer, receive_input}
use Rattle.runner.specs.declared.runner.Runner.{Runner}
use Rattle.runner.specs.State.{credit_at, put_credit, with_flow, with_input}
use Rattle.runner.specs.Streams.{credit_in, credit_answer, credit_next, input_answer, input_next}
use Rattle.calls.specs.Call.{Call}
use Rattle.account.specs.Step.{State, received_as}
use Rattle.account.proofs.Plain.{next, answer}
use Rattle.wire.specs.Messages.{said_in}
use Rattle.judge.specs.declared.Item.{Item}
use Rattle.judge.specs.declared.Judge.{Judge}
use Rattle.judge.specs.Judge.{left_at, judged, noted, is_shut}
use Rattle.talk.specs.TalkClaim.{items_by}
use Rattle.talk.proofs.Begins.{BeginsIn, begins_on}
use Rattle.talk.proofs.Input.{receives}
use Rattle.talk.proofs.Judged.{accepts, put_both}
use Rattle.talk.proofs.Rest.{Even, Rest}
use Rattle.talk.proofs.Talk.{Talk, Goes, ended_on}
use Rattle.talk.proofs.Told.{speaks}

-- what the judge's limits, Terminal, input and accounts are behind an item that may have been applied
abbrev Hearing : Bool → Item → Runner → Judge → Type 0
Hearing true x t j = (judged j x ≡ Ok tt) × Rest (noted j x) t
Hearing false x t j = Rest j t

-- ---- credit

module _ (u : ℕ) (r : Runner) (j : Judge) (valid : is_valid j.limits ≡ true) (h : Rest j r) where
  -- the accounts after a grant at i, by whether the runner has finished and can grant
  abbrev accounts : (finished grants : Bool) (i : ℕ) → List Credit
  accounts finished grants i =
      let c : Credit = credit_at i r.credits in
      cond (not finished && grants) (put_credit i (record { window = c.window; available = cond grants (c.available + u) c.available }) r.credits) r.credits

  -- a sum above the window is not granted
  fits : (i : ℕ) → grantable (credit_at i r.credits) u ≡ true → ltb j.limits.output.size (left_at i j + u) ≡ false
  fits i g =
      let c : Credit = credit_at i r.credits in
      let most = leb-true (c.available + u) c.window (and_parts (ltb 0 u) (leb (c.available + u) c.window) g).1 in
      let e : Even r.limits.output.size (left_at i j) c = h.3 i in
      let left = e.0 in let window = e.1 in
      let size : j.limits.output.size ≡ r.limits.output.size = ap (λ (l : Limits). l.output.size) h.0 in
      le-ltb j.limits.output.size (left_at i j + u) (omega arith)

  -- the pool is the judge's too
  same_pool : (p : Pool) (i : ℕ) → output_pool r.limits.shared (has_notes r.limits) p ≡ Ok i → output_pool j.limits.shared (has_notes j.limits) p ≡ Ok i
  same_pool p i e = ap (λ (l : Limits). output_pool l.shared (has_notes l) p) h.0 ∙ e

  grants : (p : Pool) (i : ℕ) → output_pool r.limits.shared (has_notes r.limits) p ≡ Ok i → grantable (credit_at i r.credits) u ≡ true
      → Hearing true (Item.Granted p u) (with_flow (accounts false true i) r.turn r.flags r.high_water r) j
  grants p i w g =
      let q = same_pool p i w in
      let e : Even r.limits.output.size (left_at i j) (credit_at i r.credits) = h.3 i in (
        accepts j (Item.Granted p u) valid refl refl refl (rw q (fits i g)),
        rw q (h.0, h.1, h.2, put_both (Even r.limits.output.size) j.left r.credits i _ _ (ap (λ (n : ℕ). n + u) e.0, e.1) h.3),
      )

  by_tests : (p : Pool) (i : ℕ) → output_pool r.limits.shared (has_notes r.limits) p ≡ Ok i → (finished grants : Bool) → grantable (credit_at i r.credits) u ≡ grants
      → Hearing (Input.is_applied (cond finished (Ok Receipt.Late) (cond grants (Ok Receipt.Applied) (Err Refusal.Credit)))) (Item.Granted p u)
      (with_flow (accounts finished grants i) r.turn r.flags r.high_water r) j
  by_tests p i w true g e = h
  by_tests p i w false true e = grants p i w e
  by_tests p i w false false e = h

  credited : (a : Result Admission Refusal) (p : Pool) (q : Result ℕ Refusal) → output_pool r.limits.shared (has_notes r.limits) p ≡ q
      → Hearing (Input.is_applied (credit_answer a q r u)) (Item.Granted p u) (credit_next a q r u) j
  unfolding credit_answer credit_in credit_next
  credited (Err x) p q w = h
  credited (Ok Stale) p q w = h
  credited (Ok Own) p (Err x) w = h
  credited (Ok Own) p (Ok i) w = by_tests p i w r.flags.finished (grantable (credit_at i r.credits) u) refl

-- ---- input

module _ (n : ℕ) (r : Runner) (j : Judge) (valid : is_valid j.limits ≡ true) (h : Rest j r) where
  same_cost : cost j.limits.input.unit n ≡ cost r.limits.input.unit n
  same_cost = ap (λ (l : Limits). cost l.input.unit n) h.0

  received : (high : ℕ) → Hearing (Input.is_applied (receive_answer r.limits r.input n)) (Item.Input n)
      (with_flow r.credits r.turn r.flags high (with_input (receive_input r.limits r.input n) r)) j
  unfolding receive_input
  received high = by (Input.is_applied (receive_answer r.limits r.input n)) refl
    where
      by : (b : Bool) → Input.is_applied (receive_answer r.limits r.input n) ≡ b
          → Hearing b (Item.Input n) (with_flow r.credits r.turn r.flags high (with_input (receive_input r.limits r.input n) r)) j
      by true e =
          let b = receives j.input_closed j.input_left r.limits.input.size r.limits n r.input h.2 in
          let units : ltb j.input_left (cost j.limits.input.unit n) ≡ false = rw (same_cost, h.2.same (b.opens e)) (b.paid e) in
          (accepts j (Item.Input n) valid refl refl units refl, rw same_cost (h.0, h.1, b.charged e, h.3))
      by false e = let b = receives j.input_closed j.input_left r.limits.input.size r.limits n r.input h.2 in (h.0, h.1, b.kept e, h.3)

  brought : (a : Result Admission Refusal) → Hearing (Input.is_applied (input_answer a r n)) (Item.Input n) (input_next a r n) j
  unfolding input_answer input_next
  brought (Err x) = h
  brought (Ok Stale) = h
  brought (Ok Own) = by r.flags.finished _
    where
      by : (f : Bool) (high : ℕ) → Hearing (Input.is_applied (cond f (Ok Receipt.Late) (receive_answer r.limits r.input n))) (Item.Input n)
          (with_flow r.credits r.turn r.flags high (with_input (cond (not f) (receive_input r.limits r.input n) r.input) r)) j
      by true high = h
      by false high = received high

-- ---- the calls

received_quiet : (x : Result Receipt Refusal) → said_in (received_as x) ≡ []
received_quiet (Ok Receipt.Applied) = refl
received_quiet _ = refl

-- the judge is told of those that were applied
credit_items : (k : Key) (p : Pool) (u : ℕ) (x : Result Receipt Refusal) → items_by (Call.credit k p u) (received_as x) ≡ cond (Input.is_applied x) (Item.Granted p u ∷ []) []
credit_items k p u (Ok Receipt.Applied) = refl
credit_items k p u _ = refl

input_items : (k : Key) (b : List ℕ) (x : Result Receipt Refusal) → items_by (Call.input k b) (received_as x) ≡ cond (Input.is_applied x) (Item.Input (length b) ∷ []) []
input_items k b (Ok Receipt.Applied) = refl
input_items k b _ = refl

-- neither an End nor Started, Output or End is heard with them
record Still (x : Item) (j : Judge) : Type 0 where
  heard : ((noted j x).started || (noted j x).spoken) ≡ (j.started || j.spoken)
  ended : (y : Stream) → is_shut y (noted j x) ≡ is_shut y j

goes_by : (b : Bool) (x : Item) (c : Call) (s : State) (j : Judge) → Still x j → speaks c ≡ false → said_in (answer s c) ≡ [] → Hearing b x (next s c).runner j → Talk s.runner j
    → Goes (cond b (x ∷ []) []) (next s c).runner j
goes_by true x c s j t m q p h =
    let e = ended_on c s j q h in (
      p.0,
      record {
        rest = p.1;
        begins = subst⁻¹ (λ (heard : Bool). BeginsIn heard (next s c).runner) t.heard (begins_on (j.started || j.spoken) c s m h.begins);
        ended = λ y. t.ended y ∙ e.0 y;
        muted = e.1;
      },
    )
goes_by false x c s j t m q p h =
    let e = ended_on c s j q h in
    record { rest = p; begins = begins_on (j.started || j.spoken) c s m h.begins; ended = e.0; muted = e.1 }

pub credit_goes : (k : Key) (p : Pool) (u : ℕ) (s : State) (j : Judge) → is_valid j.limits ≡ true → Talk s.runner j
    → Goes (items_by (Call.credit k p u) (answer s (Call.credit k p u))) (next s (Call.credit k p u)).runner j
unfolding next answer
credit_goes k p u s j v h =
    let r : Runner = s.runner in
    let x = credit_answer (admits r.key k) (output_pool r.limits.shared (has_notes r.limits) p) r u in
    rw (credit_items k p u x)
    (goes_by (Input.is_applied x) (Item.Granted p u) (Call.credit k p u) s j (record { heard = refl; ended = λ y. refl }) refl (received_quiet x)
    (credited u r j v h.rest (admits r.key k) p (output_pool r.limits.shared (has_notes r.limits) p) refl) h)

pub input_goes : (k : Key) (b : List ℕ) (s : State) (j : Judge) → is_valid j.limits ≡ true → Talk s.runner j
    → Goes (items_by (Call.input k b) (answer s (Call.input k b))) (next s (Call.input k b)).runner j
unfolding next answer
input_goes k b s j v h =
    let r : Runner = s.runner in
    let x = input_answer (admits r.key k) r (length b) in
    rw (input_items k b x)
    (goes_by (Input.is_applied x) (Item.Input (length b)) (Call.input k b) s j (record { heard = refl; ended = λ y. refl }) refl (received_quiet x)
    (brought (length b) r j v h.rest (admits r.key k)) h)
