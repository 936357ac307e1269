-- The outputs side by side, in the order of Stream::ALL: that of one stream, and what is asked of every one.
use Rattle.std.specs.Prelude.{ℕ, ◌≡◌, Bool, cond, ◌&&◌, List, [], ◌∷◌, get_or}
use Rattle.exec.specs.declared.Stream.{Stream}
use Rattle.exec.specs.Stream.{is_stdout, is_stderr, is_notes, pick, every_stream, any_stream, sum_of_streams}
use Rattle.output.specs.declared.Output.{Output}
use Rattle.output.specs.Output.{new_output, over, is_held, is_delivered, output_fits, output_within}

abbrev pub stdout : List Output → Output
stdout os = get_or os 0 new_output

abbrev pub stderr : List Output → Output
stderr os = get_or os 1 new_output

abbrev pub notes : List Output → Output
notes os = get_or os 2 new_output

-- a stream's output
abbrev pub output_in : Stream → List Output → Output
output_in x os = pick x (stdout os) (stderr os) (notes os)

-- and put back
abbrev pub put_output : Stream → Output → List Output → List Output
put_output x o os = cond (is_stdout x) o (stdout os) ∷ cond (is_stderr x) o (stderr os) ∷ cond (is_notes x) o (notes os) ∷ []

-- as they are read: one of a stream that is not open is over
abbrev pub seen : (third : Bool) → List Output → List Output
seen third os = stdout os ∷ stderr os ∷ cond third (notes os) over ∷ []

-- each that is open changed alike
abbrev pub each_output : (third : Bool) → (Output → Output) → List Output → List Output
each_output third f os = f (stdout os) ∷ f (stderr os) ∷ cond third (f (notes os)) (notes os) ∷ []

-- the same, where After says what each may become
abbrev pub Changes : (third : Bool) → (After : Output → Output → Type 0) → (os changed : List Output) → Type 0
Changes third After os changed =
    (a b c : Output) × After (stdout os) a × After (stderr os) b × After (notes os) c × (changed ≡ a ∷ b ∷ cond third c (notes os) ∷ [])

-- whether every one passes a test, where After says what the test may answer of each
abbrev pub Passes : (After : Output → Bool → Type 0) → List Output → Bool → Type 0
Passes After os passes =
    (a b c : Bool) × After (stdout os) a × After (stderr os) b × After (notes os) c × (passes ≡ ((a && b) && c))

abbrev pub all_closed : List Output → Bool
all_closed os = every_stream (λ (x : Stream). (output_in x os).closed)

abbrev pub any_held : List Output → Bool
any_held os = any_stream (λ (x : Stream). is_held (output_in x os))

abbrev pub all_delivered : List Output → (detached : Bool) → Bool
all_delivered os detached = every_stream (λ (x : Stream). is_delivered detached (output_in x os))

-- the bytes of output that wait
abbrev pub queued_of : List Output → ℕ
queued_of os = sum_of_streams (λ (x : Stream). (output_in x os).queued)

abbrev pub outputs_fit : (chunk : ℕ) → List Output → Bool
outputs_fit chunk os = every_stream (λ (x : Stream). output_fits chunk (output_in x os))

abbrev pub outputs_within : (chunk : ℕ) → List Output → Bool
outputs_within chunk os = every_stream (λ (x : Stream). output_within chunk (output_in x os))
