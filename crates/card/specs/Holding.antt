-- What is lent to a card, the session that it is, and the line that it holds.
use Rattle.std.specs.Prelude.{◌≡◌, List, ◌++◌, ℕ, ◌-◌, ◌≤◌, length, take}
use Rattle.card.specs.declared.feed.Card.{Card}
use Rattle.printing.specs.Written.{Wrote}
use Rattle.grammar.specs.Feed.{Session, line_ends}
use Rattle.card.specs.Laying.{put}
use Rattle.standing.specs.declared.areas.Areas.{Areas}
use Rattle.standing.specs.Standing.{Stores, stores, stores_in, Place, place_of, stage_at, placed}

-- what is lent to a card: the line area, the runner's stores and the output area
pub record Lent : Type 0 where
  pub line : List ℕ
  pub stores : Stores
  pub out : List ℕ

abbrev pub lent : (line bytes lengths out : List ℕ) → Lent
lent line bytes lengths out = record { line = line; stores = stores bytes lengths; out = out }

-- the same by the areas of a session
abbrev pub lent_with : (line : List ℕ) → Areas → (out : List ℕ) → Lent
lent_with line x out = record { line = line; stores = stores_in x; out = out }

abbrev pub place_in : Card → Lent → Place
place_in c x = place_of c.standing x.stores

-- the session: the line that has not ended stands at the start of the line area
abbrev pub session_of : Card → Lent → Session
session_of c x = record { stage = stage_at (place_in c x); lines = c.lines; held = take c.held x.line }

-- A CARD AND ITS STORES ARE A SESSION'S, all of them; `was` is the place before
pub record Stands (s : Session) (was : Place) (c : Card) (x : Lent) : Type 0 where
  pub session : session_of c x ≡ s
  pub place : place_in c x ≡ placed s.stage was  -- the standing and both stores
  pub held : c.held ≡ length s.held
  pub most : c.held ≤ 65536

-- bytes of a line are held as far as there is room for them, and nothing else changes
pub record Holds (bytes : List ℕ) (c : Card) (line : List ℕ) (r : Card) (line' : List ℕ) : Type 0 where
  pub standing : r.standing ≡ c.standing
  pub lines : r.lines ≡ c.lines
  pub held : take r.held line' ≡ take 65536 (take c.held line ++ bytes)
  pub most : r.held ≤ 65536
  pub area : line' ≡ put line c.held (take (65536 - c.held) bytes)

-- the line that is held is answered, and its answer written from index `at` to before index `to`
pub record EndsLine (at : ℕ) (c : Card) (before : Lent) (r : Card) (to : ℕ) (after : Lent) : Type 0 where
  pub stands : Stands (line_ends (session_of c before)).session (place_in c before) r after
  pub printed : Wrote 131200 before.out after.out at to (line_ends (session_of c before)).printed
