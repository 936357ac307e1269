-- What the round trips speak of: a reserved bit, and bytes in which nothing stands that a reader ignores. (`proofs/RoundTrip`)
use Rattle.std.specs.Prelude.{◌≡◌, Bool, true, false, List, ℕ, ◌+◌, ◌^◌, ◌<◌, get_or}
use Rattle.octets.specs.Bytes.{number_at}
use Rattle.framing.specs.declared.Frame.{Frame}
use Rattle.framing.specs.declared.Frame.TheVariants.{Update, Data, Reset}
use Rattle.framing.specs.Framing.{flags_of}

-- a number of 31 bits behind its reserved bit
abbrev pub with_bit : (reserved : Bool) → ℕ → ℕ
with_bit true n = 2147483648 + n
with_bit false n = n

-- a list of bytes
abbrev pub Bytes : List ℕ → Type 0
Bytes b = (i : ℕ) → get_or b i 0 < 256

-- what a reader ignores is as we write it: the flags but those of DATA are 0, so is the reserved bit before the units, and the code is CANCEL
abbrev pub AsWritten : List ℕ → Frame → Type 0
AsWritten b (Update x units) = (get_or b 4 0 ≡ 0) × (number_at b 9 < 2 ^ 31)
AsWritten b (Data x n ends) = get_or b 4 0 ≡ flags_of ends
AsWritten b (Reset x) = (get_or b 4 0 ≡ 0) × (number_at b 9 ≡ 8)

-- and the reserved bit before the stream is 0
pub record Plain (b : List ℕ) (f : Frame) : Type 0 where
  pub bytes : Bytes b
  pub stream : number_at b 5 < 2 ^ 31
  pub rest : AsWritten b f
