-- And no other line opens: what a line opens with, it says. So a field that is not read is 30.
use Rattle.std.specs.Prelude.{Bool, true, false, cond, ◌&&◌, ◌≡◌, refl, List, [], ℕ, ◌≤◌, leb, length, get_or, Option, Some, None}
use Rattle.std.proofs.Common.{sym, ap, true≢false}
use Rattle.std.proofs.lemmas.Bool.{leb-true}
use Rattle.std.proofs.lemmas.Option.{none-some, same_Some}
use Rattle.exec.specs.declared.Limits.{Limits}
use Rattle.exec.specs.declared.Timers.{Timers}
use Rattle.exec.specs.declared.Unit as Units
use Rattle.exec.specs.Key.{new_key}
use Rattle.exec.specs.Limits.{limits_for}
use Rattle.octets.specs.Text.{same_is}
use Rattle.syntax.specs.Lines.{on, fields, u64, u32, digit}
use Rattle.syntax.specs.Words.{bytes, same, unit}
use Rattle.opening.specs.Open.{Opening, at, timeout, is_open, open_of, opening_of, limits_of, timers_of, smallest_of, line_open}
use Rattle.opening.specs.Says.{Says}

record Parts (now id generation : Option ℕ) (l : Option Limits) (t : Option Timers) (smallest : Option ℕ) (o : Opening) : Type 0 where
  now_is : now ≡ Some o.now
  id_is : id ≡ Some o.conf.key.id
  generation_is : generation ≡ Some o.conf.key.generation
  limits_are : l ≡ Some o.conf.limits
  timers_are : t ≡ Some o.conf.timers
  smallest_is : smallest ≡ Some o.conf.smallest

parts : (now id generation : Option ℕ) (l : Option Limits) (t : Option Timers) (smallest : Option ℕ) (o : Opening)
    → (on now λ n. on id λ i. on generation λ g. on l λ k. on t λ x. on smallest λ s. Some (record { conf = record { key = new_key i g; limits = k; timers = x; smallest = s }; now = n })) ≡ Some o
    → Parts now id generation l t smallest o
parts None id generation l t smallest o e = absurd (none-some o e)
parts (Some n) None generation l t smallest o e = absurd (none-some o e)
parts (Some n) (Some i) None l t smallest o e = absurd (none-some o e)
parts (Some n) (Some i) (Some g) None t smallest o e = absurd (none-some o e)
parts (Some n) (Some i) (Some g) (Some k) None smallest o e = absurd (none-some o e)
parts (Some n) (Some i) (Some g) (Some k) (Some x) None o e = absurd (none-some o e)
parts (Some n) (Some i) (Some g) (Some k) (Some x) (Some s) o e =
    let h = same_Some _ o e in
    record {
      now_is = ap (λ (o : Opening). Some o.now) h;
      id_is = ap (λ (o : Opening). Some o.conf.key.id) h;
      generation_is = ap (λ (o : Opening). Some o.conf.key.generation) h;
      limits_are = ap (λ (o : Opening). Some o.conf.limits) h;
      timers_are = ap (λ (o : Opening). Some o.conf.timers) h;
      smallest_is = ap (λ (o : Opening). Some o.conf.smallest) h;
    }

record Bounds (chunk : Option ℕ) (iu : Option Units.Unit) (is : Option ℕ) (ou : Option Units.Unit) (os : Option ℕ) (s : Option Bool) (l : Limits) : Type 0 where
  chunk_is : chunk ≡ Some l.chunk
  input_unit_is : iu ≡ Some l.input.unit
  input_size_is : is ≡ Some l.input.size
  output_unit_is : ou ≡ Some l.output.unit
  output_size_is : os ≡ Some l.output.size
  shared_is : s ≡ Some l.shared

bounds : (chunk : Option ℕ) (iu : Option Units.Unit) (is : Option ℕ) (ou : Option Units.Unit) (os : Option ℕ) (s : Option Bool) (l : Limits)
    → (on chunk λ c. on (on iu λ u. on is λ k. Some (record { unit = u; size = k })) λ i. on (on ou λ u. on os λ k. Some (record { unit = u; size = k })) λ o. on s λ b. Some (limits_for c i o b)) ≡ Some l
    → Bounds chunk iu is ou os s l
bounds None iu is ou os s l e = absurd (none-some l e)
bounds (Some c) None is ou os s l e = absurd (none-some l e)
bounds (Some c) (Some u) None ou os s l e = absurd (none-some l e)
bounds (Some c) (Some u) (Some k) None os s l e = absurd (none-some l e)
bounds (Some c) (Some u) (Some k) (Some v) None s l e = absurd (none-some l e)
bounds (Some c) (Some u) (Some k) (Some v) (Some m) None l e = absurd (none-some l e)
bounds (Some c) (Some u) (Some k) (Some v) (Some m) (Some b) l e =
    let h = same_Some _ l e in
    record {
      chunk_is = ap (λ (l : Limits). Some l.chunk) h;
      input_unit_is = ap (λ (l : Limits). Some l.input.unit) h;
      input_size_is = ap (λ (l : Limits). Some l.input.size) h;
      output_unit_is = ap (λ (l : Limits). Some l.output.unit) h;
      output_size_is = ap (λ (l : Limits). Some l.output.size) h;
      shared_is = ap (λ (l : Limits). Some l.shared) h;
    }

record Clocks (x : Option (Option ℕ)) (y z : Option ℕ) (t : Timers) : Type 0 where
  limit_is : x ≡ Some t.timeout
  grace_is : y ≡ Some t.grace
  settlement_is : z ≡ Some t.settlement

clocks : (x : Option (Option ℕ)) (y z : Option ℕ) (t : Timers)
    → (on x λ a. on y λ b. on z λ c. Some (record { timeout = a; grace = b; settlement = c })) ≡ Some t → Clocks x y z t
clocks None y z t e = absurd (none-some t e)
clocks (Some a) None z t e = absurd (none-some t e)
clocks (Some a) (Some b) None t e = absurd (none-some t e)
clocks (Some a) (Some b) (Some c) t e =
    let h = same_Some _ t e in
    record {
      limit_is = ap (λ (t : Timers). Some t.timeout) h;
      grace_is = ap (λ (t : Timers). Some t.grace) h;
      settlement_is = ap (λ (t : Timers). Some t.settlement) h;
    }

-- WHAT A LINE OPENS WITH, IT SAYS
pub line_says : (line : List ℕ) (o : Opening) → line_open line ≡ Some o → Says line o
unfolding is_open open_of opening_of limits_of timers_of
line_says line o e =
    let b = by (is_open fs) refl e in
    let n = named (leb 13 (length fs)) (leb (length fs) 14) refl refl b.0 in
    let p = parts (u64 (at fs 1)) (u64 (at fs 2)) (u64 (at fs 3)) (limits_of fs) (timers_of fs) (smallest_of fs) o b.1 in
    let l = bounds (u32 (at fs 4)) (unit (at fs 5)) (u32 (at fs 6)) (unit (at fs 7)) (u32 (at fs 8)) (digit (at fs 9)) o.conf.limits p.limits_are in
    let t = clocks (timeout (at fs 10)) (u64 (at fs 11)) (u64 (at fs 12)) o.conf.timers p.timers_are in
    record {
      count = n.0;
      name = n.1;
      now = p.now_is;
      id = p.id_is;
      generation = p.generation_is;
      chunk = l.chunk_is;
      input_unit = l.input_unit_is;
      input_size = l.input_size_is;
      output_unit = l.output_unit_is;
      output_size = l.output_size_is;
      shared = l.shared_is;
      limit = t.limit_is;
      grace = t.grace_is;
      settlement = t.settlement_is;
      smallest = p.smallest_is;
    }
  where
    fs : List (List ℕ)
    fs = fields line

    by : (b : Bool) → is_open fs ≡ b → cond b (opening_of fs) None ≡ Some o → (is_open fs ≡ true) × (opening_of fs ≡ Some o)
    by true h e = (h, e)
    by false h e = absurd (none-some o e)

    named : (a b : Bool) → leb 13 (length fs) ≡ a → leb (length fs) 14 ≡ b → ((a && b) && same (get_or fs 0 []) (bytes "open")) ≡ true
        → ((13 ≤ length fs) × (length fs ≤ 14)) × (get_or fs 0 [] ≡ bytes "open")
    named true true h k e = ((leb-true 13 (length fs) h, leb-true (length fs) 14 k), same_is (get_or fs 0 []) (bytes "open") e)
    named true false h k e = absurd (true≢false (sym e))
    named false b h k e = absurd (true≢false (sym e))
