-- From any card on, calls go as the session that is fed the bytes they eat, and print what these print.
use mathlib.Core.Bool.{Bool, true, false}
use mathlib.Core.Path.{◌≡◌, refl}
use mathlib.Core.List.{List, [], ◌∷◌}
use Prim.Native.Nat.{ℕ, ◌≤◌, ◌<◌}
use native.Mathlib.Omega.{arith}
use lib.ListN.{length, take}
use Rattle.std.proofs.lemmas.Bool.Decides.{nat_tests}
use Rattle.ring.specs.Lent.{copied_back}
use Rattle.card.specs.declared.feed.Card.{Card}
use Rattle.card.specs.declared.feed.Eaten.{Eaten}
use Rattle.printing.specs.Written.{Wrote}
use Rattle.grammar.specs.Feed.{Session, feeds, pieces, prints}
use Rattle.card.specs.Feeding.{eaten}
use Rattle.card.specs.Holding.{Lent, session_of}
use Rattle.card.specs.Turning.{If, new_card, new_starts, can_eat, can_finish, Fed, Left, Eats}
use Rattle.cards.specs.Host.{EatCall, lending, AllEat, card_after, lent_after, eaten_by, printed_by, Room, Hosted}

-- a text that was written at the start of an area stands there
at_start : {most to : ℕ} {out then text : List ℕ} → Wrote most out then 0 to text → take to then ≡ text
at_start {to} {out} {text} w =
    let size : to ≡ length text = omega arith in rw (size, w.holds) (copied_back out 0 text (length text) refl (omega arith))

-- bytes were eaten: the session was fed them, what they print was printed, and no more of a line is held than may be
pub record Ate (bytes printed : List ℕ) (c : Card) (x : Lent) (c' : Card) (x' : Lent) : Type 0 where
  pub session : session_of c' x' ≡ (feeds (session_of c x) bytes).session
  pub text : printed ≡ (feeds (session_of c x) bytes).printed
  pub held : c.held ≤ 65536 → c'.held ≤ 65536

none_eaten : (c : Card) (x : Lent) → Ate [] [] c x c x
unfolding feeds
none_eaten c x = record { session = refl; text = refl; held = λ h. h }

-- by one call
one_eats : (piece : List ℕ) (c : Card) (x : Lent) (r : Eaten) (after : Lent) → Eats piece c x r after
    → Ate (take r.used piece) (take r.printed after.out) c x r.card after
one_eats piece c x r after = by (can_eat c x)
  where
    by : (b : Bool) → If b (Fed piece c x r after) (Left c x r after) → Ate (take r.used piece) (take r.printed after.out) c x r.card after
    by true h = record { session = h.fed.stands.session; text = at_start h.fed.printed; held = λ k. h.fed.stands.most }
    by false h = rw (h.0, h.1) (none_eaten c x)

-- and by all
all_eat : (ms : List EatCall) (c : Card) (x : Lent) → AllEat c x ms → Ate (eaten_by ms) (printed_by ms) c x (card_after c ms) (lent_after x ms)
all_eat [] c x h = none_eaten c x
all_eat (m ∷ ms) c x h =
    let f = one_eats m.piece c (lending x m.out) m.result m.after h.0 in
    let g = all_eat ms m.result.card m.after h.1 in
    let p = pieces (session_of c x) (take m.result.used m.piece) (eaten_by ms) in
    record { session = cc; text = cc; held = λ k. g.held (f.held k) }

-- with room the areas are a session's, and the end of the input is answered
room_eats : {c : Card} {x : Lent} → c.held ≤ 65536 → Room c x → can_eat c x ≡ true
room_eats h r = grind (arith, nat_tests)

room_finishes : {c : Card} {x : Lent} → c.held ≤ 65536 → Room c x → can_finish c x ≡ true
room_finishes h r = grind (arith, nat_tests)

-- and a byte is eaten
eats_one : (s : Session) (room : ℕ) (piece : List ℕ) → 131200 ≤ room → s.lines < 18446744073709551615 → 0 < length piece
    → 0 < eaten s room piece
unfolding eaten
eats_one s room [] h l n = n
eats_one s room (b ∷ bs) h l n = grind (arith, nat_tests)

new_few : new_card.held ≤ 65536
unfolding new_card
new_few = omega arith

-- HOW A HOST FEEDS A CARD MAKES NO DIFFERENCE
pub hosted : Hosted
unfolding prints
hosted x ms h =
    let t = all_eat ms new_card x h in
    let few = t.held new_few in
    let starts = new_starts x in
    record {
      so_far = cc;
      whole = λ out r after room f.
          let e = rw (room_finishes few room) at f in
          let text = at_start e.printed in cc;
      further = λ m room f n.
          let e = rw (room_eats few room) at f in
          rw e.used (eats_one _ _ m.piece room.out room.number n);
    }
