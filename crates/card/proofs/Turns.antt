-- A turn from line to line, and turns one after the other.
use mathlib.Core.Bool.{Bool, true, false, cond, ◌&&◌, true≢false}
use lib.Dec.{eqb, ltb, leb}
use borrow.Author.Tests.{ne_eqb, leb-true, eqb-true}
use Rattle.inbox.specs.RangeLaws.{both}
use mathlib.Core.Path.{◌≡◌, refl, sym, ap, ◌∙◌}
use mathlib.Core.List.{List, [], ◌∷◌, ◌++◌}
use Prim.Native.Nat.{ℕ, ◌+◌, ◌-◌, ◌≤◌, ◌<◌}
use native.Mathlib.Omega.{arith}
use lib.ListN.{length, take, drop, length-drop}
use native.Mathlib.Nat.{zero-add, sub-zero}
use lib.Seq.{take_all, length-take-le, take-add, drop-drop}
use Rattle.ring.specs.Runs.{copied_zero}
use Rattle.card.specs.declared.feed.Card.{Card}
use Rattle.standing.specs.declared.Standing.{Standing}
use Rattle.card.specs.declared.feed.Turn.{Turn}
use Rattle.grammar.specs.Feed.{Session, line_ends, feeds, pieces, ended, ends}
use Rattle.card.specs.Feeding.{eaten, goes_on, line_length, hold_all, line_feeds, to_line_end, feeds_end, all_held, line_answered, line_stopped}
use Rattle.search.specs.SearchLaws.{index_most}
use Rattle.card.specs.Laying.{laid, laid_pieces, laid_end, line_lays}
use Rattle.card.specs.Holding.{Lent, place_in, session_of, Stands, Holds, EndsLine}
use Rattle.standing.specs.Standing.{Place, place_of, placed}
use Rattle.card.specs.Turning.{If, Answered, Stopped, Passes, Feeds, to_eat, Goes, can_eat, Ended}
use Rattle.standing.specs.Standing.{placed_own}
use Rattle.card.proofs.Opens.{placed_on}
use Rattle.printing.specs.Written.{Wrote, same_text, joined}

-- a text within an area is no longer than it
bound : {a : ℕ} {out then : List ℕ} {at to : ℕ} {text : List ℕ} → Wrote a out then at to text → Wrote (length out) out then at to text
bound w = record { holds = w.holds; ends = w.ends; short = let e = w.ends in let r = w.room in omega arith; room = w.room; size = w.size }

wrote_none : (out then : List ℕ) (at to : ℕ) → then ≡ out → to ≡ at → at ≤ length out → Wrote (length out) out then at to []
wrote_none out then at to e h l = record {
  holds = e ∙ copied_zero out at [] 0;
  ends = omega arith;
  short = omega arith;
  room = omega arith;
  size = ap length e;
}

-- ---- what a card stands for

own : (c : Card) (x : Lent) → c.held ≤ 65536 → length x.line ≡ 65536 → Stands (session_of c x) (place_in c x) c x
own c x h l = record {
  session = refl;
  place = placed_own (place_in c x);
  held = sym (length-take-le c.held x.line (omega arith));
  most = h;
}

stands_as : {s s' : Session} {was : Place} {c : Card} {x : Lent} → s ≡ s' → Stands s was c x → Stands s' was c x
stands_as e h = rw e at h

stands_at : {s : Session} {was was' : Place} {c : Card} {x : Lent} → was ≡ was' → Stands s was c x → Stands s was' c x
stands_at e h = rw e at h

-- ---- bytes that are eaten

-- none
feeds_none : (c : Card) (x : Lent) (at : ℕ) → c.held ≤ 65536 → length x.line ≡ 65536 → at ≤ length x.out → Feeds [] c x at c x at
unfolding feeds laid
feeds_none c x at h l r = record { stands = own c x h l; area = refl; printed = wrote_none x.out x.out at at refl refl r }

-- some, and then more
feeds_on : (a b : List ℕ) (c d e : Card) (x y z : Lent) (at m to : ℕ) → Feeds a c x at d y m → Feeds b d y m e z to → Feeds (a ++ b) c x at e z to
feeds_on a b c d e x y z at m to f g =
    let s = session_of c x in
    let between = f.stands.session in
    let p = pieces s a b in
    let after : (feeds (session_of d y) b).session ≡ (feeds s (a ++ b)).session = ap (λ (t : Session). (feeds t b).session) between ∙ sym p.0 in
    let text = ap (λ (t : Session). (feeds s a).printed ++ (feeds t b).printed) between ∙ sym p.1 in
    let k = stands_as after g.stands in
    record {
      stands = record {
        session = k.session;
        place = k.place ∙ ap (placed (feeds s (a ++ b)).session.stage) f.stands.place ∙ rw p.0 (placed_on (feeds s a).session b (place_in c x));
        held = k.held;
        most = k.most;
      };
      area = g.area ∙ ap (λ (t : Session). laid t y.line b) between ∙ ap (λ (t : List ℕ). laid (feeds s a).session t b) f.area ∙ sym (laid_pieces s x.line a b);
      printed = same_text text (bound (joined f.printed g.printed));
    }

-- the end of a line
feeds_line : (c : Card) (x : Lent) (r : Card) (y : Lent) (at to : ℕ) → EndsLine at c x r to y → y.line ≡ x.line → Feeds (10 ∷ []) c x at r y to
feeds_line c x r y at to h l =
    let e = feeds_end (session_of c x) in
    record { stands = stands_as (sym e.0) h.stands; area = l ∙ sym (laid_end (session_of c x) x.line); printed = same_text (sym e.1) (bound h.printed) }

-- ---- a turn

-- what is left of a piece, as a part of it
pub rest_is : (piece : List ℕ) (used : ℕ) → take (length piece - used) (drop used piece) ≡ drop used piece
rest_is piece used = take_all (length piece - used) (drop used piece) (omega (arith, length-drop used piece))

-- the line area with other bytes
abbrev pub with_line : Lent → List ℕ → Lent
with_line x line = record { line = line; stores = x.stores; out = x.out }

-- the bytes of the line are held first
module _ (piece : List ℕ) (t : Turn) (before : Lent) (c : Card) (line : List ℕ) (n : ℕ) (few : t.card.held ≤ 65536) (size : length before.line ≡ 65536)
    (e : n ≡ line_length (drop t.used piece)) (from : t.used ≤ length piece) (room : t.at ≤ length before.out)
    (h : Holds (take n (drop t.used piece)) t.card before.line c line) (size' : length line ≡ 65536) where
  abbrev bs : List ℕ
  bs = drop t.used piece

  abbrev s : Session
  s = session_of t.card before

  abbrev mid : Lent
  mid = with_line before line

  abbrev end : ℕ
  end = t.used + n

  held_length : length (take t.card.held before.line) ≡ t.card.held
  held_length = length-take-le t.card.held before.line (omega arith)

  held_few : length (take t.card.held before.line) ≤ 65536
  held_few = omega (arith, held_length)

  held_session : session_of c mid ≡ hold_all s (take (line_length bs) bs)
  unfolding hold_all
  held_session = rw (h.standing, h.lines, h.held, e) refl

  held_area : line ≡ laid s before.line (take (line_length bs) bs)
  held_area = h.area ∙ sym (line_lays bs s before.line held_few size ∙ rw (held_length, e) refl)

  held_fed : Feeds (take (line_length bs) bs) t.card before t.at c mid t.at
  held_fed =
      let f = line_feeds s bs held_few in
      let place = ap (λ (x : Standing). place_of x before.stores) h.standing in
      record {
        stands = stands_as (held_session ∙ sym f.0) (stands_at place (own c mid h.most size'));
        area = held_area;
        printed = same_text (sym f.1) (wrote_none before.out before.out t.at t.at refl refl room);
      }

  -- and no more is eaten
  go_stop : eaten s (length before.out - t.at) bs ≡ line_length bs → Goes piece t before (record { card = c; used = end; at = t.at; more = false }) mid
  go_stop n = record {
    k = line_length bs;
    used = ap (λ (k : ℕ). t.used + k) e;
    most = omega (arith, e, index_most 10 bs, length-drop t.used piece);
    fed = held_fed;
    eats = n ∙ omega arith;
    further = λ q. absurd (true≢false (sym q));
  }

  -- the line does not end within the piece
  pub go_held : end ≡ length piece → Goes piece t before (record { card = c; used = end; at = t.at; more = false }) mid
  go_held l = go_stop (all_held s (length before.out - t.at) bs held_few (omega (arith, length-drop t.used piece)))

  -- or it does
  module _ (r : Turn) (after : Lent) (l : end < length piece) (same : after.line ≡ line) where
    less : line_length bs < length bs
    less = omega (arith, length-drop t.used piece)

    go_answered : goes_on s (length before.out - t.at) ≡ true → Answered t.at end c mid r after → Goes piece t before r after
    go_answered g p =
        let used = p.used in
        let ends = p.ends.printed.ends in
        let out = p.ends.printed.size in
        let text = ap (λ (x : Session). length (line_ends x).printed) held_session in
        let left : length after.out - r.at ≡ length before.out - t.at - length (line_ends (hold_all s (take (line_length bs) bs))).printed = omega arith in
        let next : session_of r.card after ≡ (line_ends (hold_all s (take (line_length bs) bs))).session = p.ends.stands.session ∙ ap (λ (x : Session). (line_ends x).session) held_session in
        let on : r.used ≡ t.used + (line_length bs + 1) = omega arith in
        let rest : drop r.used piece ≡ drop (line_length bs + 1) bs = rw on (sym (drop-drop (line_length bs + 1) t.used piece)) in
        record {
          k = line_length bs + 1;
          used = on;
          most = omega arith;
          fed = rw (to_line_end bs less) (feeds_on _ _ _ _ _ _ _ _ _ _ _ held_fed (feeds_line c mid r.card after t.at r.at p.ends same));
          eats = rw (p.more, next, left, rest) (line_answered s (length before.out - t.at) bs held_few less g);
          further = λ x. omega arith;
        }

    go_if : (b : Bool) → goes_on s (length before.out - t.at) ≡ b → If b (Answered t.at end c mid r after) (Stopped t.at end c mid r after) → Goes piece t before r after
    go_if true g p = go_answered g p
    go_if false g p = rw (p.0, p.1) (go_stop (line_stopped s (length before.out - t.at) bs held_few less g))

    pub go_passed : Passes t.at end c mid r after → Goes piece t before r after
    go_passed p = go_if _ (ap (λ (n : ℕ). leb 131200 (length before.out - t.at) && ltb n 18446744073709551615) (sym h.lines)) p

-- ---- turns one after the other

-- what is so far eaten of a piece
pub record So (piece : List ℕ) (c : Card) (before : Lent) (t : Turn) (x : Lent) : Type 0 where
  pub most : t.used ≤ length piece
  pub fed : Feeds (take t.used piece) c before 0 t.card x t.at
  pub eats : eaten (session_of c before) (length before.out) piece ≡ t.used + cond t.more (to_eat piece t x) 0

pub so_first : (piece : List ℕ) (c : Card) (x : Lent) → c.held ≤ 65536 → length x.line ≡ 65536 → So piece c x (record { card = c; used = 0; at = 0; more = true }) x
so_first piece c x h l = record {
  most = omega arith;
  fed = feeds_none c x 0 h l (omega arith);
  eats = sym (zero-add _) ∙ ap (λ (n : ℕ). 0 + eaten (session_of c x) n piece) (sym (sub-zero (length x.out)));
}

pub so_next : (piece : List ℕ) (c : Card) (before : Lent) (t r : Turn) (x y : Lent) → So piece c before t x → t.more ≡ true → Goes piece t x r y → So piece c before r y
so_next piece c before t r x y h m g =
    let parts = ap (λ (n : ℕ). take n piece) g.used ∙ take-add t.used g.k piece in
    let first : eaten (session_of c before) (length before.out) piece ≡ t.used + to_eat piece t x = rw m at h.eats in
    record {
      most = g.most;
      fed = rw parts (feeds_on _ _ _ _ _ _ _ _ _ _ _ h.fed g.fed);
      eats = first ∙ ap (λ (n : ℕ). t.used + n) g.eats ∙ (let u = g.used in omega arith);
    }

-- the turns come to an end
pub fewer : (b : Bool) (used used' n k : ℕ) → used' ≡ used + k → used' ≤ n → (b ≡ true → 0 < k) → used ≤ n → cond b (n + 1 - used') 0 < n + 1 - used
fewer true used used' n k e l f m = let p = f refl in omega arith
fewer false used used' n k e l f m = omega arith

-- ---- the end of the input

pub ended_some : (c : Card) (x : Lent) (r : Card) (to : ℕ) (y : Lent) → c.held ≤ 65536 → length x.line ≡ 65536 → 0 < c.held → EndsLine 0 c x r to y
    → Ended c x (record { card = r; used = 0; printed = to }) y
unfolding ended ends
ended_some c x r to y h l m e =
    let size : length (take c.held x.line) ≡ c.held = length-take-le c.held x.line (omega arith) in
    let some = ne_eqb (length (take c.held x.line)) 0 (λ z. absurd (omega arith)) in
    record { used = refl; stands = rw some e.stands; printed = rw some (bound e.printed) }

pub ended_none : (c : Card) (x : Lent) → length x.line ≡ 65536 → c.held ≡ 0 → Ended c x (record { card = c; used = 0; printed = 0 }) x
unfolding ended ends
ended_none c x l m =
    let none : eqb (length (take c.held x.line)) 0 ≡ true = rw m refl in
    record { used = refl; stands = rw none (own c x (omega arith) l); printed = rw none (wrote_none x.out x.out 0 0 refl refl (omega arith)) }

-- ---- the areas are a session's

pub ready : (c : Card) (x : Lent) → can_eat c x ≡ true
    → (length x.line ≡ 65536) × (length x.stores.bytes ≡ 65536) × (length x.stores.lengths ≡ 1024) × (c.held ≤ 65536)
ready c x h =
    let lengths = both _ _ h in
    let bytes = both _ _ lengths.0 in
    let line = both _ _ bytes.0 in
    (eqb-true _ _ line.1, eqb-true _ _ bytes.1, eqb-true _ _ lengths.1, leb-true _ _ line.0)
