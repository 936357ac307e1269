-- The claim: nothing until the smallest grant is due, then all of it; grants come, and soon.
use Rattle.std.specs.Prelude.{Bool, true, false, not, ◌&&◌, ◌≡◌, refl, List, ℕ, ◌+◌, ◌≤◌, ◌<◌, leb, ltb}
use Rattle.std.proofs.lemmas.Bool.{and_parts, not-true, leb-true, le-leb}
use Rattle.std.proofs.lemmas.Bool.Decides.{nat_tests}
use Rattle.std.proofs.Common.{sym, ap, ◌∙◌, arith}
use mathlib.Core.Path.{subst, subst⁻¹}
use Rattle.inbox.specs.Inbox.{inbox_held}
use Rattle.inbox.specs.Receiver.{is_due}
use Rattle.input.specs.Input.{can_grant}
use Rattle.runner.specs.Range.{fresh}
use Rattle.calls.specs.Call as Call
use Rattle.calls.specs.Call.{Conf, Call, Answer}
use Rattle.account.specs.Claim.{Opens}
use Rattle.account.specs.Step as Step
use Rattle.account.specs.Step.{State}
use Rattle.account.specs.Records.{Entry, next_entry, answer_entry, after_entries, run_entries, calls_of, made}
use Rattle.account.specs.Units.{lost}
use Rattle.account.proofs.Demand.{answer_same, open_same}
use Rattle.account.proofs.Plain.{answer}
use Rattle.account.proofs.Records.{Good, good_open, good_at, does, message_made, to_calls}
use Rattle.account.proofs.Units.{units}
use Rattle.grants.specs.GrantsClaim.{SmallestGrant}
use Rattle.grants.proofs.Messages.{Brought, brings, Waits, soon}
use Rattle.grants.proofs.Unlost.{unlost}

-- at least one is some
one_some : (n : ℕ) → leb 1 n ≡ ltb 0 n
one_some n = grind (arith, nat_tests)

module _ (conf : Conf) (now : ℕ) (bytes lengths : List ℕ) (op : Opens conf now bytes lengths) where
  abbrev o : State
  o = Step.opened conf now bytes lengths

  good : (es : List Entry) → Good conf (after_entries o es)
  good es = good_at conf now bytes lengths op es

  -- whatever carries it
  credit_at : (es : List Entry) (e : Entry) (u : ℕ) → answer_entry (after_entries o es) e ≡ Call.Says (Call.Credit u)
      → Brought (after_entries o es).runner (next_entry (after_entries o es) e).runner u
  credit_at es e u h =
      let s : State = after_entries o es in
      let q = message_made e (made conf e (answer_entry s e)) s (next_entry s e) (answer_entry s e) (does conf e s (good es)) (rw h refl) in
      subst⁻¹ (λ (t : State). Brought s.runner t.runner u) q.1 (brings q.0 s u (good es).fine (sym q.2 ∙ h))

  smallest_at : (es : List Entry) → (after_entries o es).runner.input.window.smallest ≡ conf.smallest
  smallest_at es = ap (λ (c : Conf). c.smallest) (good es).same

  least : (es : List Entry) (e : Entry) (u : ℕ) → answer_entry (after_entries o es) e ≡ Call.Says (Call.Credit u) → conf.smallest ≤ u
  least es e u h =
      let b = credit_at es e u h in
      let w = (after_entries o es).runner.input.window in
      omega (arith, leb-true w.smallest w.returnable b.due, b.all, smallest_at es)

  -- while the input is open the window's units are open, returnable or held
  whole : (es : List Entry) → (after_entries o es).runner.input.closed ≡ false
      → let i = (after_entries o es).runner.input in i.window.open + i.window.returnable + inbox_held conf.limits.input.unit i.inbox ≡ conf.limits.input.size
  unfolding fresh
  whole es e =
      let cs : List Call = calls_of conf (run_entries o es) in
      let none : lost false o cs ≡ 0 = unlost cs o false (ap (λ (t : State). t.runner.flags.finished) (open_same conf now bytes lengths op))
      (good_open conf now bytes lengths op).fine (subst (λ (t : State). t.runner.input.closed ≡ false) (to_calls conf now bytes lengths op es) e) in
      omega (arith, units conf now bytes lengths op es, none)

  due : (es : List Entry) → let i = (after_entries o es).runner.input in
      i.closed ≡ false → i.peer_ended ≡ false → conf.smallest ≤ i.window.returnable → can_grant i ≡ true
  due es a b h = let w = (after_entries o es).runner.input.window in rw (a, b) (le-leb w.smallest w.returnable (omega (arith, smallest_at es)))

  only : (es : List Entry) → let i = (after_entries o es).runner.input in
      can_grant i ≡ true → (i.closed ≡ false) × (i.peer_ended ≡ false) × (conf.smallest ≤ i.window.returnable)
  only es h =
      let i = (after_entries o es).runner.input in
      let p = and_parts (not i.closed && not i.peer_ended) (is_due i.window) h in
      let q = and_parts (not i.closed) (not i.peer_ended) p.0 in
      (not-true i.closed q.0, not-true i.peer_ended q.1, omega (arith, leb-true i.window.smallest i.window.returnable p.1, smallest_at es))

  as_before : (es : List Entry) → let i = (after_entries o es).runner.input in
      conf.smallest ≡ 1 → can_grant i ≡ ((not i.closed && not i.peer_ended) && ltb 0 i.window.returnable)
  as_before es h =
      let i = (after_entries o es).runner.input in
      ap (λ (b : Bool). (not i.closed && not i.peer_ended) && b) (ap (λ (n : ℕ). leb n i.window.returnable) (smallest_at es ∙ h) ∙ one_some i.window.returnable)

  come : (es : List Entry) (n : ℕ) → let i = (after_entries o es).runner.input in
      i.closed ≡ false → i.peer_ended ≡ false → inbox_held conf.limits.input.unit i.inbox ≡ 0 → i.window.open < n → n + conf.smallest ≤ conf.limits.input.size + 1
      → (can_grant i ≡ true) × (i.window.open + i.window.returnable ≡ conf.limits.input.size)
  come es n a b h l m = let all = whole es a in (due es a b (omega (arith, all)), omega (arith, all))

  -- what is_finished and is_detached tell
  tells : (es : List Entry) → let s = after_entries o es in can_grant s.runner.input ≡ true → Step.answer s Call.is_finished ≡ Call.Truth false → Step.answer s Call.is_detached ≡ Call.Truth false
      → Waits s.runner
  unfolding answer
  tells es c f d =
      let s : State = after_entries o es in
      let finished : Call.Truth s.runner.flags.finished ≡ Call.Truth false = sym (answer_same s Call.is_finished (good es).fine) ∙ f in
      let detached : Call.Truth s.runner.flags.detached ≡ Call.Truth false = sym (answer_same s Call.is_detached (good es).fine) ∙ d in
      record { can = c; goes_on = cc; attached = cc }

pub smallest_grant : SmallestGrant
smallest_grant conf now bytes lengths op = record {
  nothing = λ es e u l h. (let b = credit_at conf now bytes lengths op es e u h in
      omega (arith, least conf now bytes lengths op es e u h, b.all));
  all = λ es e u h. (let b = credit_at conf now bytes lengths op es e u h in
      (b.all, b.none, b.opens ∙ ap (λ (n : ℕ). (after_entries (Step.opened conf now bytes lengths) es).runner.input.window.open + n) (sym b.all)));
  least = λ es e u h. omega (arith, least conf now bytes lengths op es e u h);
  due = due conf now bytes lengths op;
  only = only conf now bytes lengths op;
  as_before = as_before conf now bytes lengths op;
  soon = λ es b c k f d. soon b c (after_entries (Step.opened conf now bytes lengths) es) (good conf now bytes lengths op es).fine (tells conf now bytes lengths op es k f d);
  come = λ es n a b h l m. come conf now bytes lengths op es n a b (omega (arith, h)) l (omega (arith, m));
}
