-- Bytes in and bytes out: what the calls Card::new, eat and finish make of a card that opens a runner.
use Rattle.std.specs.Prelude.{◌≡◌, List, [], ◌∷◌, ◌++◌, ℕ, take}
use Rattle.card.specs.declared.feed.Card.{Card}
use Rattle.card.specs.declared.feed.Eaten.{Eaten}
use Rattle.textlines.specs.Lines.{lines_in}
use Rattle.card.specs.Holding.{Lent}
use Rattle.card.specs.Turning.{new_card, Finishes}
use Rattle.cards.specs.Host.{EatCall, lending, AllEat, card_after, lent_after, eaten_by, printed_by, Room}
use Rattle.cards.specs.Runs.{StartsOk, CardRuns}

-- after these calls from a new card, which left the card c and what is lent as x; of bytes whose first line is answered ok
pub record Program (ms : List EatCall) (c : Card) (x : Lent) : Type 0 where
  -- while the input still comes, wherever it ends a line
  pub so_far : (text : List ℕ) → eaten_by ms ≡ text ++ (10 ∷ []) → StartsOk (lines_in (eaten_by ms)) → CardRuns (eaten_by ms) (printed_by ms)
  -- and with its end, where there is room for an answer
  pub whole : (out : List ℕ) (r : Eaten) (after : Lent) → Room c (lending x out) → Finishes c (lending x out) r after
      → StartsOk (lines_in (eaten_by ms)) → CardRuns (eaten_by ms) (printed_by ms ++ take r.printed after.out)

-- BYTES IN, BYTES OUT: HOWEVER A HOST FEEDS A CARD THAT OPENS A RUNNER, WHAT IT IS GIVEN ARE THE ANSWERS OF ONE OF DEMAND 3'S LISTS, by
-- promise of the code, for a line area and stores of any content at first and every list of calls of eat
abbrev pub Programs : Type 0
Programs = (x : Lent) (ms : List EatCall) → AllEat new_card x ms → Program ms (card_after new_card ms) (lent_after x ms)
