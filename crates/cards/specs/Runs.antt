-- A card that opens a runner makes one of demand 3's lists, and prints its answers: so demand 3 and the turn hold of what is printed.
use Rattle.exec.specs.Limits.{has, streams}
use Rattle.std.specs.Prelude.{true, false, ◌≡◌, List, [], ◌∷◌, ◌++◌, ℕ, ◌+◌, ◌^◌, ◌≤◌, ◌<◌, Some, None}
use mathlib.Core.List.{map}
use Rattle.exec.specs.declared.Cause.{Cause}
use Rattle.exec.specs.declared.Key.{Key}
use Rattle.exec.specs.declared.Outcome.{Outcome}
use Rattle.exec.specs.declared.Stream.{Stream}
use Rattle.exec.specs.Outcome.{is_truncated}
use Rattle.calls.specs.Call as Call
use Rattle.calls.specs.Call.{Call, Answer, Done}
use Rattle.account.specs.Account as Accounts
use Rattle.account.specs.Account.{Account, account, tally_of, cut, tick_a}
use Rattle.account.specs.Claim.{Opens, IsPrefix, is_message, is_terminal, any_terminal, messages}
use Rattle.account.specs.Records.{EntryDone, call, alike, among}
use Rattle.account.specs.Step.{State, opened, after, run}
use Rattle.account.specs.TurnClaim.{Has, closing, taken_in, sent_in}
use Rattle.syntax.specs.Lines.{zeros}
use Rattle.opening.specs.Open.{Opening, line_open}
use Rattle.grammar.specs.Feed.{First, Running, answer_of, start, feeds, ended}
use Rattle.grammar.specs.Calls.{made_of}
use Rattle.textlines.specs.Lines.{lines_in}
use Rattle.grammar.specs.ByLine.{Line, call_said, lines_from, answers_of, text_from}

-- ---- lines

-- the calls that they make
abbrev pub calls_of : List Line → List Call
calls_of [] = []
calls_of (l ∷ ls) = made_of l.call ++ calls_of ls

-- each with its line's answer
abbrev pub dones_of : List Line → List Done
dones_of [] = []
dones_of (l ∷ ls) = alike l.answer (made_of l.call) ++ dones_of ls

-- and as entries of a list of calls, records and frames
abbrev pub entries_of : List Done → List EntryDone
entries_of [] = []
entries_of (d ∷ ds) = record { entry = call d.call; answer = d.answer } ∷ entries_of ds

-- ---- a runner that a first line opened

-- with the stores that the program lends, cleared
abbrev pub just_opened : Opening → State
just_opened o = opened o.conf o.now (zeros 65536) (zeros 1024)

-- the account after lines, from their calls and what is printed of them
abbrev pub account_after : Opening → List Line → Account
account_after o ls = account (Accounts.start o.conf o.now) (dones_of ls)

-- what a line is refused by: of those behind the first one, and on any card
abbrev pub of_lines : List ℕ
of_lines = 1 ∷ 2 ∷ 3 ∷ 4 ∷ 5 ∷ 6 ∷ 30 ∷ []

abbrev pub of_cards : List ℕ
of_cards = 1 ∷ 2 ∷ 3 ∷ 4 ∷ 5 ∷ 6 ∷ 10 ∷ 11 ∷ 30 ∷ 46 ∷ []

-- ---- what holds of the lines behind the first one, as many as there are so far

-- demand 3
pub record Demand (o : Opening) (lines : List Line) : Type 0 where
  -- on each stream what was sent is a prefix of what was taken
  pub joined : (x : Stream) → IsPrefix (tally_of x (account_after o lines)).sent (tally_of x (account_after o lines)).taken
  -- behind Terminal no line is answered by a message
  pub once : (xs ys zs : List Line) (l m : Line) → lines ≡ xs ++ (l ∷ (ys ++ (m ∷ zs))) → is_terminal l.answer ≡ true → is_message m.answer ≡ false
  -- Terminal marks a stream exactly when the account before it does
  pub marks : (xs ys : List Line) (l : Line) (u : Outcome) → lines ≡ xs ++ (l ∷ ys) → l.answer ≡ Call.Says (Call.Terminal u)
      → (x : Stream) → is_truncated u x ≡ cut (tally_of x (account_after o xs))
  -- an Applied cancel is the first of the three events
  pub first : (xs ys : List Line) (l : Line) (t : ℕ) (k : Key) (c : Cause) → lines ≡ xs ++ (l ∷ ys) → l.call ≡ Some (Call.cancel t k c) → l.answer ≡ Call.Applied
      → (tick_a t (account_after o xs)).rep.begun ≡ false
  -- and Terminal has come by message 3 + the number of streams asked for after a tick at or past t + grace + settlement
  pub late : (xs ys zs : List Line) (l m : Line) (t n : ℕ) (k : Key) (c : Cause) → lines ≡ xs ++ (l ∷ (ys ++ (m ∷ zs)))
      → l.call ≡ Some (Call.cancel t k c) → l.answer ≡ Call.Applied → m.call ≡ Some (Call.tick n)
      → t + o.conf.timers.grace + o.conf.timers.settlement < 2 ^ 64 → t + o.conf.timers.grace + o.conf.timers.settlement ≤ n → 3 + streams o.conf.limits ≤ messages (calls_of zs)
      → any_terminal (dones_of lines) ≡ true
  -- no line is refused by 10, 11, 12 or 46, nor by any number but these
  pub numbers : (xs ys : List Line) (l : Line) (n : ℕ) → lines ≡ xs ++ (l ∷ ys) → l.answer ≡ Call.Refused n → among n of_lines ≡ true

-- behind the lines `before` stands one that is answered by a Terminal which reports the stream x untruncated
pub record Untruncated (x : Stream) (lines before : List Line) : Type 0 where
  pub line : Line
  pub behind : List Line
  pub outcome : Outcome
  pub stands : lines ≡ before ++ (line ∷ behind)
  pub says : line.answer ≡ Call.Says (Call.Terminal outcome)
  pub reports : is_truncated outcome x ≡ false

-- the turn
pub record Turn (o : Opening) (lines : List Line) : Type 0 where
  -- then the bytes sent of it before are the bytes taken of it, all of them
  pub rows : (x : Stream) (before : List Line) → Untruncated x lines before → sent_in x (entries_of (dones_of before)) ≡ taken_in x (entries_of (dones_of before))
  -- and, if it is open, the program itself closed it
  pub own : (x : Stream) (before : List Line) → has o.conf.limits x ≡ true → Untruncated x lines before → Has (closing x) (entries_of (dones_of before))
  -- and it reported no byte of it discarded, and no failure to read it, whatever that was answered
  pub undropped : (x : Stream) (before : List Line) (n : ℕ) → has o.conf.limits x ≡ true → Untruncated x lines before → 0 < n → Has (Call.discarded x n) (calls_of before) → ⊥
  pub unfailed : (x : Stream) (before : List Line) → has o.conf.limits x ≡ true → Untruncated x lines before → Has (Call.output_failed x) (calls_of before) → ⊥
  -- and behind any Terminal no line adds to the bytes taken or sent of a stream
  pub final : (x : Stream) (before behind : List Line) (l : Line) → lines ≡ before ++ (l ∷ behind) → is_terminal l.answer ≡ true
      → (taken_in x (entries_of (dones_of lines)) ≡ taken_in x (entries_of (dones_of before)))
      × (sent_in x (entries_of (dones_of lines)) ≡ sent_in x (entries_of (dones_of before)))

-- ---- the claim

-- its first line is answered ok
abbrev pub StartsOk : (lines : List (List ℕ)) → Type 0
StartsOk [] = ⊥
StartsOk (line ∷ lines) = (answer_of First line).answer ≡ Call.Ok

-- EACH CARD THAT OPENS A RUNNER MAKES ONE OF DEMAND 3'S LISTS AND PRINTS ITS ANSWERS
pub record CardRuns (card printed : List ℕ) : Type 0 where
  -- what its first line gives to open, which answers ok
  pub line : List ℕ
  pub later : List (List ℕ)
  pub split : lines_in card ≡ line ∷ later
  pub opening : Opening
  pub reads : line_open line ≡ Some opening
  pub opens : Opens opening.conf opening.now (zeros 65536) (zeros 1024)
  -- the others: what is printed is ok and, line by line, their answers
  pub rest : List Line
  pub lines : lines_from First (lines_in card) ≡ record { call = None; answer = Call.Ok } ∷ rest
  pub text : printed ≡ text_from 0 (Call.Ok ∷ answers_of rest)
  -- their calls are those that they say, whatever the times
  pub called : map (λ (l : Line). l.call) rest ≡ map call_said later
  -- these are the answers of the list of their calls, from the runner that was opened, which the end of the card leaves as the list does
  pub answers : dones_of rest ≡ run (just_opened opening) (calls_of rest)
  pub leaves : (ended (feeds start card).session).stage ≡ Running (after (just_opened opening) (calls_of rest))
  -- and a line that makes no call is 30
  pub uncalled : (xs ys : List Line) (l : Line) → rest ≡ xs ++ (l ∷ ys) → l.call ≡ None → l.answer ≡ Call.Refused 30
  -- so demand 3 and the turn hold of what is printed, up to any line
  pub demand : (ls ms : List Line) → rest ≡ ls ++ ms → Demand opening ls
  pub turn : (ls ms : List Line) → rest ≡ ls ++ ms → Turn opening ls

-- WHAT THE LINES OF ANY CARD ARE REFUSED BY: 1 to 6, 10, 11, 30 or 46
abbrev pub Numbers : (card : List ℕ) → Type 0
Numbers card = (xs ys : List Line) (l : Line) (n : ℕ) → lines_from First (lines_in card) ≡ xs ++ (l ∷ ys) → l.answer ≡ Call.Refused n
    → among n of_cards ≡ true
