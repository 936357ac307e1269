-- 02's A3, of every card: when its workload's time is up, as the runner answers right after the first line.
use Rattle.std.specs.Prelude.{true, ◌≡◌, List, [], ◌∷◌, ℕ, get_or, Some, None}
use Rattle.exec.specs.Time.{after}
use Rattle.calls.specs.Call as Call
use Rattle.calls.specs.Call.{Answer}
use Rattle.account.specs.Claim.{Opens}
use Rattle.account.specs.Step.{opened}
use Rattle.syntax.specs.Lines.{fields, u64, zeros}
use Rattle.syntax.specs.Words.{bytes}
use Rattle.opening.specs.Open.{Opening}
use Rattle.opening.specs.Says.{Says}
use Rattle.grammar.specs.Feed.{First, Running, Over, bad, is_short, answer_of}
use Rattle.grammar.specs.ByLine.{answers_from}

-- the answers to a first line and to the question for the deadline behind it
abbrev pub asked : (line : List ℕ) → List Answer
asked line = answers_from First (line ∷ bytes "deadline" ∷ [])

-- a first line that is answered ok, and the time that its NOW says
abbrev pub Starts : (line : List ℕ) (now : ℕ) → Type 0
Starts line now = ((answer_of First line).answer ≡ Call.Ok) × (u64 (get_or (fields line) 1 []) ≡ Some now)

pub record EveryCard : Type 0 where
  -- a first line that says all that open needs, where open accepts it, is answered ok and leaves the runner that open gives
  pub opens : (line : List ℕ) (o : Opening) → is_short line ≡ true → Says line o → Opens o.conf o.now (zeros 65536) (zeros 1024)
      → answer_of First line ≡ record { stage = Running (opened o.conf o.now (zeros 65536) (zeros 1024)); answer = Call.Ok }
  -- and one that is answered ok says it: no other line opens a runner
  pub only : (line : List ℕ) → (answer_of First line).answer ≡ Call.Ok → (o : Opening) × Says line o
  -- a missing TIMEOUT is 3,600,000,000,000 ns from open (none, where that is past 2^64 - 1)
  pub missing : (line : List ℕ) (now : ℕ) → Starts line now → get_or (fields line) 10 [] ≡ bytes "-" → asked line ≡ Call.Ok ∷ Call.Time (after now 3600000000000) ∷ []
  -- never is no limit
  pub never : (line : List ℕ) (now : ℕ) → Starts line now → get_or (fields line) 10 [] ≡ bytes "never" → asked line ≡ Call.Ok ∷ Call.Time None ∷ []
  -- a number is itself
  pub number : (line : List ℕ) (now n : ℕ) → Starts line now → u64 (get_or (fields line) 10 []) ≡ Some n → asked line ≡ Call.Ok ∷ Call.Time (after now n) ∷ []
  -- any other text is 30, and no runner is opened; so it is where the line has no such field
  pub other : (line : List ℕ) → (get_or (fields line) 10 [] ≡ bytes "-" → ⊥) → (get_or (fields line) 10 [] ≡ bytes "never" → ⊥) → u64 (get_or (fields line) 10 []) ≡ None → answer_of First line ≡ bad Over
