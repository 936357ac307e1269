-- 01's order of messages, sentence by sentence, computed from the definition: the equation with the code does not pin it.
use Rattle.std.specs.Prelude.{◌≡◌, refl, Bool, true, false, ℕ}
use Rattle.exec.specs.declared.Stream.{Stream}
use Rattle.exec.specs.declared.Stream.TheVariants.{Stdout, Stderr, Notes}
use Rattle.choice.specs.declared.Choice.TheVariants as Choice
use Rattle.choice.specs.Order.{if_else, order}

-- "Once detached, only Terminal": whatever else waits; and no message after it
detached : (can credited started closed awaits end0 end1 end2 : Bool) (x : Stream) (n1 n2 n3 : ℕ)
    → (order false true can credited started closed awaits end0 end1 end2 false x n1 n2 n3 ≡ Choice.None)
    × (order false true can credited started closed awaits end0 end1 end2 true x n1 n2 n3 ≡ Choice.Terminal)
    × (order true true can credited started closed awaits end0 end1 end2 true x n1 n2 n3 ≡ Choice.None)
unfolding order if_else
detached can credited started closed awaits end0 end1 end2 x n1 n2 n3 = (refl, refl, refl)

-- "Credit unless the last message was one; then Started, InputClosed .."
first : (closed awaits end0 end1 end2 ready : Bool) (x : Stream) (n1 n2 n3 : ℕ)
    → (order false false true false true closed awaits end0 end1 end2 ready x n1 n2 n3 ≡ Choice.Credit)
    × (order false false true true true closed awaits end0 end1 end2 ready x n1 n2 n3 ≡ Choice.Started)
    × (order false false true true false true awaits end0 end1 end2 ready x n1 n2 n3 ≡ Choice.InputClosed)
unfolding order if_else
first closed awaits end0 end1 end2 ready x n1 n2 n3 = (refl, refl, refl)

-- ".. End, Output by turns": the ends in the order of the streams; the stream whose turn it is, then the two that follow, by the round
streams : (ready : Bool)
    → (order false false true true false false false true true true ready Stderr 3 5 7 ≡ Choice.End Stdout)
    × (order false false true true false false false false true true ready Stderr 3 5 7 ≡ Choice.End Stderr)
    × (order false false true true false false false false false true ready Stderr 3 5 7 ≡ Choice.End Notes)
    × (order false false true true false false false false false false ready Stderr 3 5 7 ≡ Choice.Output Stderr 3)
    × (order false false true true false false false false false false ready Stderr 0 5 7 ≡ Choice.Output Notes 5)
    × (order false false true true false false false false false false ready Stderr 0 0 7 ≡ Choice.Output Stdout 7)
    × (order false false true true false false false false false false ready Notes 0 0 7 ≡ Choice.Output Stderr 7)
unfolding order if_else
streams ready = (refl, refl, refl, refl, refl, refl, refl)

-- "unless the launch is still awaited"; "then Credit; then Terminal"; and none where no stream can send and nothing else waits
last : (x : Stream)
    → (order false false false true false false true true true true false x 3 5 7 ≡ Choice.None)
    × (order false false true true false false false false false false true x 0 0 0 ≡ Choice.Credit)
    × (order false false false true false false false false false false true x 0 0 0 ≡ Choice.Terminal)
    × (order false false false false false false false false false false false x 0 0 0 ≡ Choice.None)
unfolding order if_else
last x = (refl, refl, refl, refl)
