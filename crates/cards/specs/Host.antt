-- A host that feeds a card: with pieces of any length and an output area of any length and content at each call, going on with the rest of a
-- piece as it likes. What is printed depends on nothing but the bytes that were eaten; and with the end of the input it is what the card prints.
use Rattle.std.specs.Prelude.{◌≡◌, List, [], ◌∷◌, ◌++◌, ℕ, ◌≤◌, ◌<◌, length, take}
use Rattle.card.specs.declared.feed.Card.{Card}
use Rattle.card.specs.declared.feed.Eaten.{Eaten}
use Rattle.grammar.specs.Feed.{start, feeds, prints}
use Rattle.card.specs.Holding.{Lent}
use Rattle.card.specs.Turning.{new_card, Eats, Finishes}

-- ---- calls of eat

-- a call: the piece and the output area that it is given, its result, and what was lent as it stands after the call
pub record EatCall : Type 0 where
  pub piece : List ℕ
  pub out : List ℕ
  pub result : Eaten
  pub after : Lent

-- the line area and the stores as they stand, with another output area
abbrev pub lending : Lent → (out : List ℕ) → Lent
lending x out = record { line = x.line; stores = x.stores; out = out }

-- calls one after the other, by what eat promises: each gets the card, the line area and the stores as the last one left them
abbrev pub AllEat : Card → Lent → List EatCall → Type 0
AllEat c x [] = Unit
AllEat c x (m ∷ ms) = Eats m.piece c (lending x m.out) m.result m.after × AllEat m.result.card m.after ms

-- the card, and what is lent, after them
abbrev pub card_after : Card → List EatCall → Card
card_after c [] = c
card_after c (m ∷ ms) = card_after m.result.card ms

abbrev pub lent_after : Lent → List EatCall → Lent
lent_after x [] = x
lent_after x (m ∷ ms) = lent_after m.after ms

-- the bytes that they have eaten, of each piece as many as the result says; and those that they have printed, at the start of each output area
abbrev pub eaten_by : List EatCall → List ℕ
eaten_by [] = []
eaten_by (m ∷ ms) = take m.result.used m.piece ++ eaten_by ms

abbrev pub printed_by : List EatCall → List ℕ
printed_by [] = []
printed_by (m ∷ ms) = take m.result.printed m.after.out ++ printed_by ms

-- ---- the claim

-- the areas are as long as a session's, the output area has room for any answer, and the next line's number is a u64
pub record Room (c : Card) (x : Lent) : Type 0 where
  pub line : length x.line ≡ 65536
  pub bytes : length x.stores.bytes ≡ 65536
  pub lengths : length x.stores.lengths ≡ 1024
  pub out : 131200 ≤ length x.out
  pub number : c.lines < 18446744073709551615

-- after these calls from a new card, which left the card c and what is lent as x
pub record AfterCalls (ms : List EatCall) (c : Card) (x : Lent) : Type 0 where
  -- what they have printed depends on the bytes that they have eaten, and on nothing else
  pub so_far : printed_by ms ≡ (feeds start (eaten_by ms)).printed
  -- with the end of the input, where there is room, it is what the card prints
  pub whole : (out : List ℕ) (r : Eaten) (after : Lent) → Room c (lending x out) → Finishes c (lending x out) r after
      → printed_by ms ++ take r.printed after.out ≡ prints (eaten_by ms)
  -- and where there is room, one more call eats a byte at least: so a host that goes on with the rest of a piece comes to its end
  pub further : (m : EatCall) → Room c (lending x m.out) → Eats m.piece c (lending x m.out) m.result m.after → 0 < length m.piece
      → 0 < m.result.used

-- HOW A HOST FEEDS A CARD MAKES NO DIFFERENCE, for a line area and stores of any length and content at first, and every list of calls
abbrev pub Hosted : Type 0
Hosted = (x : Lent) (ms : List EatCall) → AllEat new_card x ms → AfterCalls ms (card_after new_card ms) (lent_after x ms)
