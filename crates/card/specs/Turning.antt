-- How the code goes from line to line of a piece.
use Rattle.std.specs.Prelude.{Bool, true, false, cond, ◌&&◌, ◌≡◌, refl, List, [], ℕ, ◌+◌, ◌-◌, ◌≤◌, ◌<◌, eqb, ltb, leb, length, take, drop}
use Rattle.card.specs.declared.feed.Card.{Card}
use Rattle.card.specs.declared.feed.Eaten.{Eaten}
use Rattle.standing.specs.declared.Stage.TheVariants as Stage
use Rattle.card.specs.declared.feed.Turn.{Turn}
use Rattle.exec.specs.Key.{new_key}
use Rattle.exec.specs.Time.{new_timers}
use Rattle.runner.specs.Calls as Calls
use Rattle.exec.specs.Limits.{no_limits}
use Rattle.grammar.specs.Feed.{start, feeds, ended, ends}
use Rattle.card.specs.Holding.{Lent, session_of, place_in, Stands, EndsLine}
use Rattle.card.specs.Feeding.{goes_on, eaten}
use Rattle.card.specs.Laying.{laid}
use Rattle.printing.specs.Written.{Wrote}

-- the claim of the one case or of the other
abbrev pub If : Bool → (this that : Type 0) → Type 0
If true this that = this
If false this that = that

-- ---- from line to line

-- the line that is held ends at index `end` of the piece: it is answered, from index `at` of the output area on
pub record Answered (at end : ℕ) (c : Card) (before : Lent) (r : Turn) (after : Lent) : Type 0 where
  pub ends : EndsLine at c before r.card r.at after
  pub used : r.used ≡ end + 1
  pub more : r.more ≡ true

-- or nothing changes
abbrev pub Stopped : (at end : ℕ) → Card → (before : Lent) → Turn → (after : Lent) → Type 0
Stopped at end c before r after = (r ≡ record { card = c; used = end; at = at; more = false }) × (after ≡ before)

abbrev pub Passes : (at end : ℕ) → Card → (before : Lent) → Turn → (after : Lent) → Type 0
Passes at end c before r after =
    If (goes_on (session_of c before) (length before.out - at)) (Answered at end c before r after) (Stopped at end c before r after)

-- BYTES ARE EATEN: WHAT THEY FEED THE SESSION IS PRINTED FROM INDEX `at` TO BEFORE INDEX `to`, AND THE CARD, ITS STORES AND THE LINE
-- AREA ARE AS IT LEAVES THEM
pub record Feeds (bytes : List ℕ) (c : Card) (before : Lent) (at : ℕ) (r : Card) (after : Lent) (to : ℕ) : Type 0 where
  pub stands : Stands (feeds (session_of c before) bytes).session (place_in c before) r after
  pub area : after.line ≡ laid (session_of c before) before.line bytes
  pub printed : Wrote (length before.out) before.out after.out at to (feeds (session_of c before) bytes).printed

-- how many bytes are still to be eaten
abbrev pub to_eat : (piece : List ℕ) → Turn → Lent → ℕ
to_eat piece t x = eaten (session_of t.card x) (length x.out - t.at) (drop t.used piece)

-- k bytes further on
pub record Goes (piece : List ℕ) (t : Turn) (before : Lent) (r : Turn) (after : Lent) : Type 0 where
  pub k : ℕ
  pub used : r.used ≡ t.used + k
  pub most : r.used ≤ length piece
  pub fed : Feeds (take k (drop t.used piece)) t.card before t.at r.card after r.at
  pub eats : to_eat piece t before ≡ k + cond r.more (to_eat piece r after) 0
  pub further : r.more ≡ true → 0 < k

-- ---- a piece

-- a card before its first line, with a runner that is not open: it was refused, having no limits
unfoldable pub new_card : Card
new_card = record {
  standing = record {
    stage = Stage.First;
    runner = (Calls.«open» (new_key 0 0) no_limits (new_timers 0 0) 1 0 [] []).runner;
  };
  lines = 0;
  held = 0;
}

pub new_starts : (x : Lent) → session_of new_card x ≡ start
unfolding new_card
new_starts x = refl

-- whether the areas are a session's, by how long they are
abbrev pub is_ready : Card → (line bytes lengths : ℕ) → Bool
is_ready c line bytes lengths = leb c.held 65536 && eqb line 65536 && eqb bytes 65536 && eqb lengths 1024

abbrev pub can_eat : Card → Lent → Bool
can_eat c x = is_ready c (length x.line) (length x.stores.bytes) (length x.stores.lengths)

-- as many bytes are eaten as the definition says
pub record Fed (piece : List ℕ) (c : Card) (before : Lent) (r : Eaten) (after : Lent) : Type 0 where
  pub used : r.used ≡ eaten (session_of c before) (length before.out) piece
  pub fed : Feeds (take r.used piece) c before 0 r.card after r.printed

-- nothing is eaten, and nothing changes
abbrev pub Left : Card → (before : Lent) → Eaten → (after : Lent) → Type 0
Left c before r after = (r ≡ record { card = c; used = 0; printed = 0 }) × (after ≡ before)

-- A PIECE IS EATEN, AS FAR AS THERE IS ROOM FOR THE ANSWERS; WITH AREAS THAT ARE NOT A SESSION'S NOTHING CHANGES
abbrev pub Eats : (piece : List ℕ) → Card → (before : Lent) → Eaten → (after : Lent) → Type 0
Eats piece c before r after = If (can_eat c before) (Fed piece c before r after) (Left c before r after)

-- ---- the end of the input

-- what it prints stands at the start of the output area
pub record Ended (c : Card) (before : Lent) (r : Eaten) (after : Lent) : Type 0 where
  pub used : r.used ≡ 0
  pub stands : Stands (ended (session_of c before)) (place_in c before) r.card after
  pub printed : Wrote (length before.out) before.out after.out 0 r.printed (ends (session_of c before))

abbrev pub can_finish : Card → Lent → Bool
can_finish c x = can_eat c x && ltb c.lines 18446744073709551615 && leb 131200 (length x.out)

-- THE END OF THE INPUT, WHERE THERE IS ROOM FOR AN ANSWER; ELSE NOTHING CHANGES
abbrev pub Finishes : Card → (before : Lent) → Eaten → (after : Lent) → Type 0
Finishes c before r after = If (can_finish c before) (Ended c before r after) (Left c before r after)
