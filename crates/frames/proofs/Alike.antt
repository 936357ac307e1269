-- DATA that ends its stream is refused as a whole or not at all: where its bytes are not refused, the end of the input that is made
-- behind them answers as they did, of every runner that takes bytes.
use Rattle.std.specs.Prelude.{Bool, true, false, cond, ◌&&◌, ◌≡◌, refl, List, ℕ, ◌+◌, ◌-◌, ◌≤◌, leb, eqb, length, Result, Ok, Err}
use Rattle.std.proofs.lemmas.Bool.{false≢true}
use Rattle.std.proofs.Common.{ap, arith, le-leb, leb-true, ltb-false}
use Rattle.exec.specs.declared.Admission.{Admission}
use Rattle.exec.specs.declared.Admission.TheVariants.{Own, Stale}
use Rattle.exec.specs.declared.Receipt.{Receipt}
use Rattle.exec.specs.declared.Receipt.TheVariants.{Applied, Late}
use Rattle.exec.specs.declared.Refusal.{Refusal}
use Rattle.exec.specs.declared.Unit as Units
use Rattle.exec.specs.declared.Unit.TheVariants.{Bytes, Frames}
use Rattle.exec.specs.Key.{admits}
use Rattle.exec.specs.Limits.{cost, off_chunk, is_valid, bytes_with}
use Rattle.inbox.specs.declared.Inbox.{Inbox}
use Rattle.inbox.specs.declared.receiver.Granted.{Granted}
use Rattle.inbox.specs.Need.{need_fits}
use Rattle.inbox.specs.Inbox.{inbox_held, pushed}
use Rattle.inbox.specs.Range.{ring_fits, frames_fit, inbox_fits}
use Rattle.inbox.specs.Receiver.{units_fit}
use Rattle.inbox.specs.RangeLaws.{both}
use Rattle.input.specs.Input as Input
use Rattle.input.specs.Input.{off_window, is_receipt, is_paid, is_kept}
use Rattle.output.specs.Outputs.{outputs_fit}
use Rattle.runner.specs.State.{outputs_of, credits_fit}
use Rattle.runner.specs.declared.runner.Runner.{Runner}
use Rattle.runner.specs.Calls as Calls
use Rattle.runner.specs.Calls.{stores_do}
use Rattle.runner.specs.Range.{last_turn, in_range, stop}
use Rattle.runner.specs.RangeLaws.{passed, unstopped}
use Rattle.runner.specs.SmallestLaws.{input_smallest}
use Rattle.runner.specs.Streams.{input_answer, input_next, received, end_answer}

and_true : (a b : Bool) → a ≡ true → b ≡ true → a && b ≡ true
and_true true b h k = k
and_true false b h k = absurd (false≢true h)

-- ---- the runner stays in range

-- an inbox in range, by the window's unit
abbrev inbox_in : Units.Unit → (size chunk : ℕ) → Granted → Inbox → Bool
inbox_in u size chunk g b =
    (ring_fits b.start (bytes_with u size chunk) && leb b.length (bytes_with u size chunk))
    && (units_fit g (inbox_held u b) size && frames_fit u size chunk b)

-- where its window paid for n bytes, which are kept or dropped
inbox_stays : (u : Units.Unit) → u ≡ Bytes → (size chunk n : ℕ) (kept : Bool) (g : Granted) (b : Inbox) → cost u n ≤ g.open
    → inbox_in u size chunk g b ≡ true → inbox_in u size chunk (record { «open» = g.open - cost u n; returnable = g.returnable; smallest = g.smallest }) (cond kept (pushed u n b) b) ≡ true
unfolding cost bytes_with
inbox_stays Bytes e size chunk n kept g b h f = by kept
  where
    ring : Bool
    ring = ring_fits b.start size

    frames : Bool
    frames = eqb b.first 0 && eqb b.frames 0

    p : ((ring && leb b.length size) ≡ true) × ((units_fit g b.length size && frames) ≡ true)
    p = both (ring && leb b.length size) (units_fit g b.length size && frames) f

    units : g.open + g.returnable + b.length ≤ size
    units = leb-true (g.open + g.returnable + b.length) size (both (units_fit g b.length size) frames p.1).0

    -- however many bytes wait then
    whole : (length : ℕ) → length ≤ size → g.open - n + g.returnable + length ≤ size → ((ring && leb length size) && (leb (g.open - n + g.returnable + length) size && frames)) ≡ true
    whole length l m =
        and_true _ _ (and_true _ _ (both ring (leb b.length size) p.0).0 (le-leb length size l))
        (and_true _ _ (le-leb (g.open - n + g.returnable + length) size m) (both (units_fit g b.length size) frames p.1).1)

    by : (kept : Bool) → inbox_in Bytes size chunk (record { «open» = g.open - n; returnable = g.returnable; smallest = g.smallest }) (cond kept (pushed Bytes n b) b) ≡ true
    by true = whole (b.length + n) (omega (arith, units)) (omega (arith, units))
    by false = whole b.length (omega (arith, units)) (omega (arith, units))
inbox_stays Frames e size chunk n kept g b h f = let z : ◌≡◌ {A = ℕ} 0 1 = cc in absurd (omega arith)

module _ (r : Runner) (n : ℕ) (bytes : r.limits.input.unit ≡ Bytes) where
  -- (the window paid for what is not refused)
  paid : is_paid r.limits r.input n ≡ true → cost r.limits.input.unit n ≤ r.input.window.open
  paid e = ltb-false r.input.window.open (cost r.limits.input.unit n) (Input.passed r.limits r.input n e).window

  stays : (finished : Bool) (x : Receipt) → r.flags.finished ≡ finished → input_answer (Ok Own) r n ≡ Ok x → in_range r ≡ true → in_range (input_next (Ok Own) r n) ≡ true
  unfolding in_range input_next input_answer Input.receive_input
  stays true x f e h = rw f h
  stays false x f e h =
      let rest = outputs_fit r.limits.chunk (outputs_of r) && credits_fit r.limits r.credits in
      let held = inbox_fits r.limits r.input.window r.input.inbox in
      let p = both (rest && held) (leb r.turn (last_turn r.limits)) h in
      let q = both rest held p.0 in
      let pays : is_paid r.limits r.input n ≡ true = ap is_receipt (rw f at e) in
      rw (f, pays)
      (and_true _ _ (and_true _ _ q.0 (inbox_stays r.limits.input.unit bytes r.limits.input.size r.limits.chunk n (is_kept r.limits r.input n) r.input.window r.input.inbox (paid pays) q.1)) p.1)

-- ---- the answers

-- bytes that are not refused leave the input to its end as it answered them
by_tests : (over off unpaid closed : Bool) (x : Receipt)
    → cond over (Err Refusal.Ended) (cond off (Err Refusal.Chunk) (cond unpaid (Err Refusal.Window) (cond closed (Ok Late) (Ok Applied)))) ≡ Ok x
    → cond over (Err Refusal.Ended) (cond closed (Ok Late) (Ok Applied)) ≡ Ok x
by_tests true off unpaid closed x e = e
by_tests false true unpaid closed x e = let z : ◌≡◌ {A = ℕ} 0 1 = cc in absurd (omega arith)
by_tests false false true closed x e = let z : ◌≡◌ {A = ℕ} 0 1 = cc in absurd (omega arith)
by_tests false false false closed x e = e

module _ (r : Runner) (n : ℕ) (bytes : r.limits.input.unit ≡ Bytes) (x : Receipt) where
  own : (finished : Bool) → r.flags.finished ≡ finished → input_answer (Ok Own) r n ≡ Ok x → end_answer (Ok Own) (input_next (Ok Own) r n) ≡ Ok x
  unfolding input_answer end_answer input_next Input.receive_answer Input.receive_input Input.end_answer
  own true f e = rw f (rw f at e)
  own false f e = rw f (by_tests r.input.peer_ended (off_chunk r.limits n) (off_window r.limits r.input n) r.input.closed x (rw f at e))

  -- the next runner meets no stop, and answers its end so
  by_key : (a : Result Admission Refusal) → input_answer a r n ≡ Ok x → in_range r ≡ true → (in_range (input_next a r n) ≡ true) × (end_answer a (input_next a r n) ≡ Ok x)
  unfolding input_answer end_answer input_next in_range
  by_key (Ok Own) e h = (stays r n bytes r.flags.finished x refl e h, own r.flags.finished refl e)
  by_key (Ok Stale) e h = (h, e)
  by_key (Err y) e h = let z : ◌≡◌ {A = ℕ} 0 1 = cc in absurd (omega arith)

-- BYTES AND THEIR END ANSWER ALIKE
pub alike : (r : Runner) (b store lengths : List ℕ) (x : Receipt) → r.limits.input.unit ≡ Bytes → stop r (stores_do r store lengths) ≡ Ok tt
    → (Calls.input r r.key b store lengths).hearing.answer ≡ Ok x
    → (Calls.end_input (Calls.input r r.key b store lengths).hearing.runner r.key).answer ≡ Ok x
unfolding Calls.input Calls.end_input received input_next
alike r b store lengths x bytes g e =
    let a = admits r.key r.key in
    let h = passed r (stores_do r store lengths) g in
    let p = by_key r (length b) bytes x a (rw g at e) h.0 in
    let next : stop (input_next a r (length b)) true ≡ Ok tt = unstopped (input_next a r (length b)) true p.0 (valid a h.1) (rw (input_smallest a r (length b)) h.2) (fits a h.3) refl in
    rw (g, next) p.1
  where
    valid : (a : Result Admission Refusal) → is_valid r.limits ≡ true → is_valid (input_next a r (length b)).limits ≡ true
    valid a h = h

    fits : (a : Result Admission Refusal) → need_fits r.limits ≡ true → need_fits (input_next a r (length b)).limits ≡ true
    fits a h = h
