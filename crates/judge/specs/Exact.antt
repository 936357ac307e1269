-- What is claimed of the judge: it accepts exactly the lists that keep the rules, and refuses another at the first item that breaks one,
-- by that item's number.
use Rattle.std.specs.Prelude.{true, false, ◌≡◌, List, ◌∷◌, ◌++◌, Ok, Err}
use Rattle.exec.specs.declared.Limits.{Limits}
use Rattle.exec.specs.declared.Refusal.{Refusal}
use Rattle.exec.specs.Limits.{is_valid}
use Rattle.judge.specs.declared.Item.{Item}
use Rattle.judge.specs.declared.Judge.{Judge}
use Rattle.judge.specs.Judge.{new_judge, hear, after, first}
use Rattle.judge.specs.Rules.{Keeps, breach}

-- the judge of these limits, and whatever list
pub record Exact (l : Limits) : Type 0 where
  -- a list is accepted where it keeps the rules, and only there
  pub accepts : (xs : List Item) → Keeps l xs → first (new_judge l) xs ≡ Ok tt
  pub only : (xs : List Item) → first (new_judge l) xs ≡ Ok tt → Keeps l xs
  -- one that is refused is so at an item behind those that keep the rules, by its breach
  pub refuses : (xs : List Item) (r : Refusal) → first (new_judge l) xs ≡ Err r
      → (pre : List Item) × (x : Item) × (post : List Item) × (xs ≡ pre ++ (x ∷ post)) × Keeps l pre × (breach l pre x ≡ Err r)
  -- and wherever an item breaks a rule behind those that keep them, the list is refused by its breach, whatever stands behind it
  pub breaks : (pre : List Item) (x : Item) (post : List Item) (r : Refusal) → Keeps l pre → breach l pre x ≡ Err r
      → first (new_judge l) (pre ++ (x ∷ post)) ≡ Err r
  -- so item by item: behind a list that keeps the rules the answer to the next is its breach, or none
  pub answers : (pre : List Item) (x : Item) → Keeps l pre → (hear (after (new_judge l) pre) x).answer ≡ breach l pre x

-- limits with a 0 are refused ahead of all, and what is refused leaves the judge as it was
pub record Careful (j : Judge) (x : Item) : Type 0 where
  pub limits : is_valid j.limits ≡ false → (hear j x).answer ≡ Err Refusal.NoLimits
  pub left : (r : Refusal) → (hear j x).answer ≡ Err r → (hear j x).judge ≡ j

-- THE CLAIMS: of all limits none of which is 0, and of any judge, of any state
abbrev pub TheJudge : Type 0
TheJudge = (l : Limits) → is_valid l ≡ true → Exact l

abbrev pub AnyJudge : Type 0
AnyJudge = (j : Judge) (x : Item) → Careful j x
