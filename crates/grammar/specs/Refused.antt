-- Demand 1, of the lines of a card: once a runner is open, a line that is refused changes nothing; where the first is refused there
-- is none.
use Rattle.std.specs.Prelude.{true, ◌||◌, ◌≡◌, List, [], ◌∷◌, ℕ, eqb}
use Rattle.calls.specs.Call as Call
use Rattle.account.specs.Step.{State}
use Rattle.account.specs.Records.{among}
use Rattle.account.specs.Refused.{of_calls}
use Rattle.grammar.specs.Feed.{First, Running, Over, bad, answer_of}

-- for every runner and stores, line, and number
pub record RefusedLines : Type 0 where
  -- once a runner is open, a line that is refused, by the card or by its call, leaves runner and stores as they were
  pub kept : (s : State) (line : List ℕ) (n : ℕ) → (answer_of (Running s) line).answer ≡ Call.Refused n → (answer_of (Running s) line).stage ≡ Running s
  pub numbered : (s : State) (line : List ℕ) (n : ℕ) → (answer_of (Running s) line).answer ≡ Call.Refused n → (among n of_calls || eqb n 30) ≡ true
  -- a first line that is refused leaves no runner
  pub unopened : (line : List ℕ) (n : ℕ) → (answer_of First line).answer ≡ Call.Refused n
      → ((answer_of First line).stage ≡ Over) × (among n (10 ∷ 11 ∷ 30 ∷ 46 ∷ []) ≡ true)
  -- and then every line is 30
  pub over : (line : List ℕ) → answer_of Over line ≡ bad Over
