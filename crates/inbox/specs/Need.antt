-- What the stores need: the rings of the output streams that are open and the inbox; a length a frame.
use Rattle.std.specs.Prelude.{ℕ, ◌+◌, ◌-◌, ◌^◌, ◌≤◌, ◌<◌, ◌≡◌, refl, Bool, true, false, cond, not, ◌||◌, leb}
use Rattle.std.proofs.Common.{arith, sym, le-leb, mul-le-mul}
use Rattle.std.proofs.lemmas.Bool.{false≢true}
use Rattle.std.proofs.lemmas.Bool.Decides.{nat_tests}
use Rattle.exec.specs.declared.Limits.{Limits}
use Rattle.exec.specs.declared.Stream.{Stream}
use Rattle.exec.specs.declared.Unit as Units
use Rattle.exec.specs.declared.Unit.TheVariants.{Bytes, Frames}
use Rattle.exec.specs.Limits.{bytes_with, input_bytes, has, has_notes}
use Rattle.exec.specs.Stream.{sum_of_streams}

-- the bytes of the output streams' rings: a chunk for each stream that is open
abbrev pub rings_of : Limits → ℕ
rings_of l = sum_of_streams (λ (x : Stream). cond (has l x) l.chunk 0)

abbrev pub byte_need : Limits → ℕ
byte_need l = rings_of l + input_bytes l

-- the need is one that a store can have
abbrev pub need_fits : Limits → Bool
need_fits l = leb (byte_need l) (2 ^ 64 - 1)

abbrev pub length_need_as : Units.Unit → ℕ → ℕ
length_need_as Bytes size = 0
length_need_as Frames size = size

abbrev pub length_need : Limits → ℕ
length_need l = length_need_as l.input.unit l.input.size

-- ---- with numbers of 32 bits

-- an inbox leaves room for two rings
pub inbox_fits : (l : Limits) → l.chunk < 2 ^ 32 → l.input.size < 2 ^ 32 → input_bytes l + (l.chunk + l.chunk) ≤ 2 ^ 64 - 1
unfolding bytes_with
inbox_fits l hc hs = by l.input.unit
  where
    by : (u : Units.Unit) → bytes_with u l.input.size l.chunk + (l.chunk + l.chunk) ≤ 2 ^ 64 - 1
    by Bytes = omega arith
    by Frames =
        let c : l.chunk ≤ 2 ^ 32 - 1 = omega arith in
        let s : l.input.size + 2 ≤ 2 ^ 32 + 1 = omega arith in
        omega (arith, mul-le-mul s c)

-- so with two streams every need fits
third : (l : Limits) (b : Bool) → b ≡ false → cond b l.chunk 0 ≡ 0
third l false e = refl
third l true e = absurd (false≢true (sym e))

pub two_fit : (l : Limits) → has_notes l ≡ false → l.chunk < 2 ^ 32 → l.input.size < 2 ^ 32 → need_fits l ≡ true
two_fit l two hc hs = le-leb (byte_need l) (2 ^ 64 - 1) (omega (arith, third l (has_notes l) two, inbox_fits l hc hs))

-- the test in parts, whose sums fit
third_most : (l : Limits) (b : Bool) → cond b l.chunk 0 ≤ l.chunk
third_most l false = omega arith
third_most l true = omega arith

apart : (most rings bytes : ℕ) → rings ≤ most → leb bytes (most - rings) ≡ leb (rings + bytes) most
apart most rings bytes h = grind (arith, nat_tests)

pub fits_apart : (l : Limits) → l.chunk < 2 ^ 32 → l.input.size < 2 ^ 32
    → (not (has_notes l) || leb (input_bytes l) (2 ^ 64 - 1 - rings_of l)) ≡ need_fits l
fits_apart l hc hs = by (has_notes l) refl
  where
    by : (b : Bool) → has_notes l ≡ b → (not b || leb (input_bytes l) (2 ^ 64 - 1 - rings_of l)) ≡ need_fits l
    by false e = sym (two_fit l e hc hs)
    by true e = apart (2 ^ 64 - 1) (rings_of l) (input_bytes l) (omega (arith, third_most l (has_notes l)))
