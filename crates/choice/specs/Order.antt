-- The order of messages.
use Rattle.std.specs.Prelude.{ℕ, Bool, true, false, not, ◌&&◌, ltb}
use Rattle.exec.specs.declared.Stream.{Stream}
use Rattle.exec.specs.declared.Stream.TheVariants.{Stdout, Stderr, Notes}
use Rattle.exec.specs.Stream.{following}
use Rattle.choice.specs.declared.Choice.{Choice}

-- a choice that stays shut: `cond` computes everywhere, so that a law over `cond b x y` would never be found by its shape
unfoldable pub if_else {ℓ} : {A : Type ℓ} → Bool → A → A → A
if_else true x y = x
if_else false x y = y

-- the order of messages: Credit unless the last message was one; then Started, InputClosed and, unless the launch is still
-- awaited, End, Output by turns; then Credit; then Terminal. Once detached, only Terminal.
-- (x is the stream whose turn it is, n1, n2 and n3 what it and the two that follow can send)
unfoldable pub order : (finished detached can credited started closed awaits end0 end1 end2 ready : Bool) (x : Stream) (n1 n2 n3 : ℕ) → Choice
order finished detached can credited started closed awaits end0 end1 end2 ready x n1 n2 n3 =
    if_else finished Choice.None
    (if_else detached (if_else ready Choice.Terminal Choice.None)
    (if_else (can && not credited) Choice.Credit
    (if_else started Choice.Started
    (if_else closed Choice.InputClosed
    (if_else (not awaits && end0) (Choice.End Stdout)
    (if_else (not awaits && end1) (Choice.End Stderr)
    (if_else (not awaits && end2) (Choice.End Notes)
    (if_else (not awaits && ltb 0 n1) (Choice.Output x n1)
    (if_else (not awaits && ltb 0 n2) (Choice.Output (following x) n2)
    (if_else (not awaits && ltb 0 n3) (Choice.Output (following (following x)) n3)
    (if_else can Choice.Credit
    (if_else ready Choice.Terminal Choice.None))))))))))))
