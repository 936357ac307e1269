-- The words of the card: every name stands here once, and is read and written by it.
use Rattle.std.specs.Prelude.{cond, List, [], ◌∷◌, ℕ, Option, Some, None}
use Rattle.exec.specs.declared.Cause.{Cause}
use Rattle.exec.specs.declared.Pool.{Pool}
use Rattle.exec.specs.declared.Settlement.{Settlement}
use Rattle.exec.specs.declared.Stream.{Stream}
use Rattle.exec.specs.declared.Unit as Units
use Rattle.exec.specs.declared.Unit.TheVariants as Unit
unfoldable pub use Rattle.octets.specs.Text.{bytes, same}

-- ---- names, and what is named: the first of a list whose name a field is

abbrev pub stream_name : Stream → List ℕ
stream_name Stream.Stdout = bytes "Stdout"
stream_name Stream.Stderr = bytes "Stderr"
stream_name Stream.Notes = bytes "Notes"

abbrev pub pool_name : Pool → List ℕ
pool_name Pool.Input = bytes "Input"
pool_name Pool.Stdout = bytes "Stdout"
pool_name Pool.Stderr = bytes "Stderr"
pool_name Pool.Output = bytes "Output"
pool_name Pool.Notes = bytes "Notes"

abbrev pub cause_name : Cause → List ℕ
cause_name Cause.Cancelled = bytes "Cancelled"
cause_name Cause.Dropped = bytes "Dropped"
cause_name Cause.TimedOut = bytes "TimedOut"
cause_name Cause.Reset = bytes "Reset"
cause_name Cause.Disconnected = bytes "Disconnected"

abbrev pub settlement_name : Settlement → List ℕ
settlement_name Settlement.Settled = bytes "Settled"
settlement_name Settlement.Failed = bytes "Failed"

abbrev pub unit_name : Units.Unit → List ℕ
unit_name Unit.Bytes = bytes "B"
unit_name Unit.Frames = bytes "F"

unfoldable pub named : {A : Type 0} → (A → List ℕ) → List A → (field : List ℕ) → Option A
named name [] field = None
named name (x ∷ xs) field = cond (same field (name x)) (Some x) (named name xs field)

-- (Notes has its names above, as they are of every stream and pool, but is not read: a card opens two streams (02, A10))
abbrev pub stream : List ℕ → Option Stream
stream field = named stream_name (Stream.Stdout ∷ Stream.Stderr ∷ []) field

abbrev pub pool : List ℕ → Option Pool
pool field = named pool_name (Pool.Input ∷ Pool.Stdout ∷ Pool.Stderr ∷ Pool.Output ∷ []) field

abbrev pub cause : List ℕ → Option Cause
cause field = named cause_name (Cause.Cancelled ∷ Cause.Dropped ∷ Cause.TimedOut ∷ Cause.Reset ∷ Cause.Disconnected ∷ []) field

abbrev pub settlement : List ℕ → Option Settlement
settlement field = named settlement_name (Settlement.Settled ∷ Settlement.Failed ∷ []) field

abbrev pub unit : List ℕ → Option Units.Unit
unit field = named unit_name (Unit.Bytes ∷ Unit.Frames ∷ []) field
