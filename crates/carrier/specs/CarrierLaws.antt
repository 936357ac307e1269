-- Laws of what carriers share: what is met first, by the runner's own limits, and the part of the buffer that a message is asked for in.
use Rattle.std.specs.Prelude.{Bool, true, false, cond, not, ◌&&◌, List, ◌++◌, ◌≡◌, refl, ℕ, ◌+◌, ◌-◌, ◌≤◌, leb, length, take, drop, Option, Result, Ok, Err}
use Rattle.std.proofs.Common.{sym, ap, ◌∙◌, arith, leb-true, append_assoc, length-append, length-drop, length-take-le, take-append-drop, drop_at, drop-drop}
use Rattle.std.proofs.lemmas.List.{take-append-le}
use Rattle.exec.specs.declared.Refusal.{Refusal}
use Rattle.exec.specs.declared.Limits.{Limits}
use Rattle.exec.specs.declared.Refusal.TheVariants.{NoLimits, StoreShort, StateOutOfRange, SmallestGrant, BufferShort}
use Rattle.exec.specs.Limits.{is_valid}
use Rattle.inbox.specs.Need.{need_fits}
use Rattle.runner.specs.declared.answer.After.{After}
use Rattle.runner.specs.declared.answer.Message.{Message}
use Rattle.runner.specs.declared.runner.Runner.{Runner}
use Rattle.runner.specs.Calls as Calls
use Rattle.runner.specs.Calls.{unless}
use Rattle.runner.specs.Message.{MessageAfter, message_after}
use Rattle.runner.specs.Range.{in_range, stop}
use Rattle.runner.specs.RangeLaws.{grants}
use Rattle.carrier.specs.Carrier.{carried, admitted, readied, part_back, asked, write_after, Laying, wrote, wrote_buffer, told}

-- ---- what is met first

-- admission by what the runner tells of its limits
unfoldable pub admitted_by : Result Limits Refusal → (enough carries : Bool) → (own : Refusal) → Result (Unit {0}) Refusal
admitted_by (Ok l) enough carries own = carried (cond enough (Ok tt) (Err StoreShort)) carries own
admitted_by (Err x) enough carries own = Err x

-- by the tests
abbrev met : (range valid grants need stores : Bool) → Result (Unit {0}) Refusal
met range valid grants need stores =
    cond (not range) (Err StateOutOfRange)
    (cond (not valid) (Err NoLimits) (cond (not grants) (Err SmallestGrant) (cond (not (need && stores)) (Err StoreShort) (Ok tt))))

-- the runner's limits tell whether it is in range, has limits, grants as it may, and has a need that a store can have
admitted_as : (range valid grants need enough carries : Bool) (own : Refusal) (l : Limits)
    → admitted_by (unless (met range valid grants need true) l) enough carries own ≡ carried (met range valid grants need enough) carries own
unfolding admitted_by
admitted_as true true true true true carries own l = refl
admitted_as true true true true false carries own l = refl
admitted_as true true true false enough carries own l = refl
admitted_as true true false need enough carries own l = refl
admitted_as true false grants need enough carries own l = refl
admitted_as false valid grants need enough carries own l = refl

pub admitted_by_lem : (r : Runner) (enough carries : Bool) (own : Refusal) → admitted r enough carries own ≡ admitted_by (Calls.limits r) enough carries own
unfolding Calls.limits stop admitted
admitted_by_lem r enough carries own = sym (admitted_as (in_range r) (is_valid r.limits) (grants r) (need_fits r.limits) enough carries own r.limits)

-- of a runner in range with its stores
pub admitted_so : (r : Runner) (stores carries : Bool) (own : Refusal) → stop r stores ≡ Ok tt → admitted r stores carries own ≡ cond carries (Ok tt) (Err own)
unfolding admitted
admitted_so r stores carries own g = rw g refl

-- and of any other
pub stopped_so : (r : Runner) (stores carries : Bool) (own x : Refusal) → stop r stores ≡ Err x → admitted r stores carries own ≡ Err x
unfolding admitted
stopped_so r stores carries own x g = rw g refl

-- where it is ready there is room
pub ready_room : (a : Result (Unit {0}) Refusal) (n m : ℕ) → readied a (leb n m) ≡ Ok tt → n ≤ m
unfolding readied
ready_room (Ok tt) n m e = by (leb n m) refl e
  where
    by : (roomy : Bool) → leb n m ≡ roomy → cond roomy (Ok tt) (Err BufferShort) ≡ Ok tt → n ≤ m
    by true t h = leb-true n m t
    by false t h = let z : ◌≡◌ {A = ℕ} 0 1 = cc in absurd (omega arith)
ready_room (Err x) n m e = let z : ◌≡◌ {A = ℕ} 0 1 = cc in absurd (omega arith)

-- and it carries
pub ready_carried : (l : Result Limits Refusal) (enough carries roomy : Bool) (own : Refusal) → readied (admitted_by l enough carries own) roomy ≡ Ok tt → carries ≡ true
unfolding readied admitted_by
ready_carried (Ok l) true true roomy own e = refl
ready_carried (Ok l) true false roomy own e = let z : ◌≡◌ {A = ℕ} 0 1 = cc in absurd (omega arith)
ready_carried (Ok l) false carries roomy own e = let z : ◌≡◌ {A = ℕ} 0 1 = cc in absurd (omega arith)
ready_carried (Err x) enough carries roomy own e = let z : ◌≡◌ {A = ℕ} 0 1 = cc in absurd (omega arith)

-- ---- the part of the buffer

-- as the code has it
pub asked_as : (at : ℕ) (r : Runner) (store b : List ℕ) (k : ℕ) (x : After (Option Message)) (part : List ℕ) → k ≡ r.limits.chunk
    → message_after x part ≡ Calls.next_message r store (take k (drop at b)) → message_after x (take at b ++ (part ++ drop k (drop at b))) ≡ asked at r store b
unfolding asked
asked_as at r store b k x part e said =
    let m = Calls.next_message r store (take r.limits.chunk (drop at b)) in
    let same : message_after x part ≡ m = rw e at said in
    ap (λ (n : ℕ). message_after x (take at b ++ (part ++ drop n (drop at b)))) e
    ∙ ap (λ (y : List ℕ). message_after x (take at b ++ (part ++ y))) (drop-drop r.limits.chunk at b)
    ∙ ap (λ (y : MessageAfter). message_after y.saying (part_back at r.limits.chunk b y.buffer)) same

-- the part that is lent, given back as it was, leaves the buffer as it was
pub part_kept : (at k : ℕ) (b : List ℕ) → part_back at k b (take k (drop at b)) ≡ b
part_kept at k b =
    ap (λ (x : List ℕ). take at b ++ (take k (drop at b) ++ x)) (sym (drop-drop k at b))
    ∙ ap (λ (x : List ℕ). take at b ++ x) (take-append-drop k (drop at b))
    ∙ take-append-drop at b

-- its bytes stand at that index
pub part_in : (at k : ℕ) (b part : List ℕ) (n : ℕ) → at ≤ length b → n ≤ length part → take n (drop at (part_back at k b part)) ≡ take n part
part_in at k b part n h m =
    ap (take n) (drop_at (take at b) (part ++ drop (at + k) b) at (length-take-le at b h))
    ∙ take-append-le n part (drop (at + k) b) m

pub part_reaches : (at k : ℕ) (b part : List ℕ) (n : ℕ) → at ≤ length b → n ≤ length part → at + n ≤ length (part_back at k b part)
part_reaches at k b part n h m = simp (length-append, length-take-le at b h) (omega arith)

-- a part that comes back as long as it was lent leaves the buffer's length, and all behind it
pub part_long : (at k : ℕ) (b part : List ℕ) → at + k ≤ length b → length part ≡ k → length (part_back at k b part) ≡ length b
part_long at k b part h e = simp (length-append, length-take-le at b (omega arith), length-drop) (omega (arith, e))

-- what is laid over the first m bytes leaves those from k on
pub beyond : (p b : List ℕ) (m k : ℕ) → length p ≡ m → m ≤ k → drop k (p ++ drop m b) ≡ drop k b
beyond p b m k e h =
    let j : m + (k - m) ≡ k = omega arith in
    ap (λ (n : ℕ). drop n (p ++ drop m b)) (sym j)
    ∙ sym (drop-drop (k - m) m (p ++ drop m b))
    ∙ ap (drop (k - m)) (drop_at p (drop m b) m e)
    ∙ drop-drop (k - m) m b
    ∙ ap (λ (n : ℕ). drop n b) j

pub part_beyond : (at k : ℕ) (b part : List ℕ) (from : ℕ) → at + k ≤ length b → length part ≡ k → at + k ≤ from → drop from (part_back at k b part) ≡ drop from b
part_beyond at k b part from h e f =
    let front : List ℕ = take at b ++ part in
    let l : length front ≡ at + k = simp (length-append, length-take-le at b (omega arith)) (omega (arith, e)) in
    ap (drop from) (sym (append_assoc (take at b) part (drop (at + k) b))) ∙ beyond front b (at + k) from l f

-- what was asked for, told
pub told_as : (w : Laying) (x : After (Option Message)) (b c : List ℕ) (answer : Result (Option (Message × ℕ)) Refusal) (m : MessageAfter) → message_after x b ≡ m
    → answer ≡ wrote w x.answer → c ≡ wrote_buffer w x.answer b → write_after (record { runner = x.runner; answer = answer }) c ≡ told w m
unfolding told
told_as w x b c answer m said e f = rw (← said, e, f) refl
