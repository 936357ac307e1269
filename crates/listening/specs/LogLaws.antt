-- Lines with more fields than any has; and that limits are the card's.
use Rattle.std.specs.Prelude.{◌≡◌, refl, List, [], ◌∷◌, ℕ, None}
use Rattle.syntax.specs.Lines.{fields}
use Rattle.reading.specs.FieldLaws.{fields_some}
use Rattle.opening.specs.Open as Open
use Rattle.listening.specs.Log.{limits_of, item_of}

pub limits_none : (c u n v m b t : List ℕ) → limits_of (c ∷ u ∷ n ∷ v ∷ m ∷ b ∷ fields t) ≡ None
unfolding limits_of
limits_none c u n v m b t = let f = fields_some t in rw f.is refl

pub item_none : (name a b t : List ℕ) → item_of name (a ∷ b ∷ fields t) ≡ None
unfolding item_of
item_none name a b t = let f = fields_some t in rw f.is refl

-- THE LIMITS ARE CHUNK TO SHARED OF THE CARD'S FIRST LINE, whatever stands in its others
pub limits_card : (word now id generation c u n v m b : List ℕ) (timers : List (List ℕ))
    → limits_of (c ∷ u ∷ n ∷ v ∷ m ∷ b ∷ []) ≡ Open.limits_of (word ∷ now ∷ id ∷ generation ∷ c ∷ u ∷ n ∷ v ∷ m ∷ b ∷ timers)
unfolding limits_of Open.limits_of
limits_card word now id generation c u n v m b timers = refl
