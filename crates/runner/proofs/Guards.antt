-- What a call meets, by the two halves of the code's own test, and what is so of one that meets nothing.
use Rattle.std.proofs.Common.{◌≡◌, refl, sym, ◌∙◌, cond, ◌&&◌, Bool, true, false, ℕ, ◌≤◌, List, length, leb-true}
use Rattle.std.proofs.lemmas.Bool.{false≢true, not-true}
use Rattle.std.specs.Prelude.{Result, Ok, Err}
use Rattle.exec.specs.declared.Admission.TheVariants.{Own, Stale}
use Rattle.exec.specs.declared.Admission.{Admission}
use Rattle.exec.specs.declared.Refusal.{Refusal}
use Rattle.exec.specs.declared.Key.{Key}
use Rattle.exec.specs.declared.Stream.{Stream}
use Rattle.exec.specs.Key.{admits}
use Rattle.exec.specs.Limits.{has}
use Rattle.inbox.specs.Need.{byte_need, length_need}
use Rattle.inbox.specs.RangeLaws.{both}
use Rattle.runner.specs.declared.runner.Runner.{Runner}
use Rattle.runner.specs.Range.{bytes_do, lengths_do, stop, stop_at}
use Rattle.runner.specs.RangeLaws.{InRange, Good, is_good_lem, stop_if, stopped, stopped_at, stands, agrees, tested, tested_at, goes}
use Rattle.runner.specs.Streams.{is_taken}

pub tested_stop : (r : Runner) (stores : Bool) → stop r stores ≡ cond (agrees r stores && stands r) (Ok tt) (Err (stopped r))
unfolding stop_if
tested_stop r stores = tested r {stores = stores} {found = stores} refl refl refl

pub tested_stop_at : (r : Runner) (x : Stream) (stores : Bool)
    → stop_at r x stores ≡ cond ((agrees r stores && stands r) && has r.limits x) (Ok tt) (Err (stopped_at (agrees r stores && stands r) r))
tested_stop_at r x stores = tested_at r {stores = stores} {found = stores} refl refl refl x

-- what was admitted, with a byte store
pub admitted_bytes : (r : Runner) (store : List ℕ) (found : Bool) → found ≡ bytes_do r.limits store → stop r found ≡ Ok tt → InRange r × (byte_need r.limits ≤ length store)
admitted_bytes r store found hf h = let g = is_good_lem r found h in (g.range, leb-true (byte_need r.limits) (length store) (sym hf ∙ g.stores_do))

-- by what the code tested, where found is whether the stores do
module _ (r : Runner) {found s a : Bool} (hs : s ≡ stands r) (ha : a ≡ agrees r found) (h : (a && s) ≡ true) where
  passed : (stores : Bool) → found ≡ stores → Good r stores
  passed stores hf = is_good_lem r stores (goes r hf hs ha h)

  pub bytes_good : (store : List ℕ) → found ≡ bytes_do r.limits store → InRange r × (byte_need r.limits ≤ length store)
  bytes_good store hf =
      let g = passed (bytes_do r.limits store) hf in
      (g.range, leb-true (byte_need r.limits) (length store) g.stores_do)

  pub lengths_good : (lengths : List ℕ) → found ≡ lengths_do r.limits lengths → InRange r × (length_need r.limits ≤ length lengths)
  lengths_good lengths hf =
      let g = passed (lengths_do r.limits lengths) hf in
      (g.range, leb-true (length_need r.limits) (length lengths) g.stores_do)

  pub stores_good : (store lengths : List ℕ) (b n : Bool) → found ≡ (b && n) → b ≡ bytes_do r.limits store → n ≡ lengths_do r.limits lengths
      → InRange r × (byte_need r.limits ≤ length store) × (length_need r.limits ≤ length lengths)
  stores_good store lengths b n hf hb hn =
      let g = passed (b && n) hf in
      let p = both b n g.stores_do in
      (g.range, leb-true (byte_need r.limits) (length store) (sym hb ∙ p.0), leb-true (length_need r.limits) (length lengths) (sym hn ∙ p.1))

pub is_in_range : (r : Runner) {s a : Bool} → s ≡ stands r → a ≡ agrees r true → (a && s) ≡ true → InRange r
is_in_range r hs ha h = (passed r hs ha h true refl).range

-- a message that does something: the call is not refused, the key is the execution's own, and the outcome was not returned
pub record Heard (r : Runner) (k : Key) (g : Bool) : Type 0 where
  pub good : g ≡ true
  pub own : admits r.key k ≡ Ok Own
  pub goes_on : r.flags.finished ≡ false

pub heard : (r : Runner) (k : Key) (good h : Bool) → h ≡ (good && is_taken (admits r.key k) r) → h ≡ true → Heard r k good
heard r k good h e t =
    let b = both good (is_taken (admits r.key k) r) (sym e ∙ t) in
    let p = by (admits r.key k) b.1 in
    record { good = b.0; own = p.0; goes_on = p.1 }
  where
    by : (a : Result Admission Refusal) → is_taken a r ≡ true → (a ≡ Ok Own) × (r.flags.finished ≡ false)
    by (Ok Own) t = (refl, not-true r.flags.finished t)
    by (Ok Stale) t = absurd (false≢true t)
    by (Err x) t = absurd (false≢true t)
