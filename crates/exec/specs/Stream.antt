-- The streams in the order of Stream::ALL, which is the order everywhere.
use Rattle.std.specs.Prelude.{ℕ, zero, suc, ◌+◌, ◌<◌, Bool, true, false, cond, ◌&&◌, ◌||◌, ◌≡◌, refl, List, [], ◌∷◌, get_or}
use Rattle.std.proofs.Common.{arith}
use Rattle.std.proofs.lemmas.Bool.{false≢true}
use Rattle.exec.specs.declared.Stream.{Stream}
use Rattle.exec.specs.declared.Stream.TheVariants.{Stdout, Stderr, Notes}

abbrev pub all : List Stream
all = Stdout ∷ Stderr ∷ Notes ∷ []

-- a stream's position, and the stream at a position
abbrev pub index : Stream → ℕ
index Stdout = 0
index Stderr = 1
index Notes = 2

abbrev pub stream_at : ℕ → Stream
stream_at i = get_or all i Stdout

pub stream_at_index : (x : Stream) → stream_at (index x) ≡ x
stream_at_index Stdout = refl
stream_at_index Stderr = refl
stream_at_index Notes = refl

pub index_stream_at : (i : ℕ) → i < 3 → index (stream_at i) ≡ i
index_stream_at zero h = refl
index_stream_at (suc zero) h = refl
index_stream_at (suc (suc zero)) h = refl
index_stream_at (suc (suc (suc i))) h = absurd (omega arith)

-- ---- one of the streams

abbrev pub is_stdout : Stream → Bool
is_stdout Stdout = true
is_stdout Stderr = false
is_stdout Notes = false

abbrev pub is_stderr : Stream → Bool
is_stderr Stdout = false
is_stderr Stderr = true
is_stderr Notes = false

abbrev pub is_notes : Stream → Bool
is_notes Stdout = false
is_notes Stderr = false
is_notes Notes = true

-- what stands for a stream among what stands for each
abbrev pub pick : {A : Type 0} → Stream → (stdout stderr notes : A) → A
pick x stdout stderr notes = cond (is_stdout x) stdout (cond (is_stderr x) stderr notes)

-- picked from what a function gives for each, it is what it gives for that stream
pub picked : {A : Type 0} (f : Stream → A) (x : Stream) → pick x (f Stdout) (f Stderr) (f Notes) ≡ f x
picked f Stdout = refl
picked f Stderr = refl
picked f Notes = refl

abbrev pub same_stream : Stream → Stream → Bool
same_stream x y = pick x (is_stdout y) (is_stderr y) (is_notes y)

-- ---- the round

-- the stream that is looked at after this one: Notes always, as it sends nothing where it is not open
abbrev pub following : Stream → Stream
following Stdout = Stderr
following Stderr = Notes
following Notes = Stdout

-- each of the two that follow is another one, and then it is this one's turn again
pub round : (x : Stream)
    → (same_stream x (following x) ≡ false) × (same_stream x (following (following x)) ≡ false) × (following (following (following x)) ≡ x)
round Stdout = (refl, refl, refl)
round Stderr = (refl, refl, refl)
round Notes = (refl, refl, refl)

-- the position of the stream that has its turn once this one has sent: of the next that is open
abbrev pub turn_after : (notes : Bool) → Stream → ℕ
turn_after notes x = pick x 1 (cond notes 2 0) 0

-- it is the one that follows, or with two streams the one behind Notes
pub turns : (x : Stream) → stream_at (turn_after true x) ≡ following x
turns Stdout = refl
turns Stderr = refl
turns Notes = refl

pub turns_of_two : (turn_after false Stdout ≡ index Stderr) × (turn_after false Stderr ≡ index Stdout)
turns_of_two = (refl, refl)

-- ---- over all of them

abbrev pub every_stream : (Stream → Bool) → Bool
every_stream p = (p Stdout && p Stderr) && p Notes

pub every_stream_lem : (p : Stream → Bool) → every_stream p ≡ true → (x : Stream) → p x ≡ true
every_stream_lem p h x = by (p Stdout) (p Stderr) (p Notes) h refl refl refl x
  where
    by : (a b c : Bool) → ((a && b) && c) ≡ true → p Stdout ≡ a → p Stderr ≡ b → p Notes ≡ c → (x : Stream) → p x ≡ true
    by true true true h e d c Stdout = e
    by true true true h e d c Stderr = d
    by true true true h e d c Notes = c
    by true true false h e d c x = absurd (false≢true h)
    by true false n h e d c x = absurd (false≢true h)
    by false b n h e d c x = absurd (false≢true h)

abbrev pub any_stream : (Stream → Bool) → Bool
any_stream p = (p Stdout || p Stderr) || p Notes

abbrev pub sum_of_streams : (Stream → ℕ) → ℕ
sum_of_streams f = (f Stdout + f Stderr) + f Notes
