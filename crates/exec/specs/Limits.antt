-- Windows, limits and pools.
use Rattle.std.specs.Prelude.{ℕ, ◌*◌, Bool, true, false, cond, not, ◌&&◌, ◌||◌, ltb, eqb, Result, Ok, Err}
use Rattle.exec.specs.declared.Refusal.{Refusal}
use Rattle.exec.specs.declared.Stream.{Stream}
use Rattle.exec.specs.declared.Pool.{Pool}
use Rattle.exec.specs.declared.Pool.TheVariants.{Input, Stdout, Stderr, Output, Notes}
use Rattle.exec.specs.declared.Unit as Units
use Rattle.exec.specs.declared.Unit.TheVariants.{Bytes, Frames}
use Rattle.exec.specs.declared.Window.{Window}
use Rattle.exec.specs.declared.Limits.{Limits}
use Rattle.exec.specs.Stream.{index, is_notes, sum_of_streams}

abbrev pub bytes_window : ℕ → Window
bytes_window size = record { unit = Bytes; size = size }

abbrev pub frames_window : ℕ → Window
frames_window size = record { unit = Frames; size = size }

-- Bytes costs the length, Frames costs 1
unfoldable pub cost : Units.Unit → ℕ → ℕ
cost Bytes length = length
cost Frames length = 1

-- the bytes that a window of so many units holds with chunks of so many bytes
unfoldable pub bytes_with : Units.Unit → (size chunk : ℕ) → ℕ
bytes_with Bytes size chunk = size
bytes_with Frames size chunk = size * chunk

-- 01's I, the size of the inbox's ring
abbrev pub input_bytes : Limits → ℕ
input_bytes l = bytes_with l.input.unit l.input.size l.chunk

-- neither the chunk nor a size is 0
abbrev pub is_valid : Limits → Bool
is_valid l = (ltb 0 l.chunk && ltb 0 l.input.size) && ltb 0 l.output.size

-- limits of any numbers, valid or not
abbrev pub limits_for : (chunk : ℕ) (input output : Window) (shared : Bool) → Limits
limits_for chunk input output shared = record { chunk = chunk; input = input; output = output; shared = shared }

-- limits that are none
abbrev pub no_limits : Limits
no_limits = limits_for 0 (bytes_window 0) (bytes_window 0) false

unfoldable pub new_limits : ℕ → Window → Window → Result Limits Refusal
new_limits chunk input output =
    let l : Limits = limits_for chunk input output false in
    cond (is_valid l) (Ok l) (Err Refusal.NoLimits)

abbrev pub shared_output : Limits → Limits
shared_output l = limits_for l.chunk l.input l.output true

-- whether Notes is open: no limits have it
unfoldable pub has_notes : Limits → Bool
has_notes l = false

-- whether a stream is
abbrev pub has : Limits → Stream → Bool
has l x = not (is_notes x) || has_notes l

-- how many are
abbrev pub streams : Limits → ℕ
streams l = sum_of_streams (λ (x : Stream). cond (has l x) 1 0)

-- with shared, pool Output alone is good; without it, those of the streams that are open are; Input never is
abbrev pub output_pool : (shared notes : Bool) → Pool → Result ℕ Refusal
output_pool true n Input = Err Refusal.Pool
output_pool true n Stdout = Err Refusal.Pool
output_pool true n Stderr = Err Refusal.Pool
output_pool true n Output = Ok 0
output_pool true n Notes = Err Refusal.Pool
output_pool false n Input = Err Refusal.Pool
output_pool false n Stdout = Ok 0
output_pool false n Stderr = Ok 1
output_pool false n Output = Err Refusal.Pool
output_pool false true Notes = Ok 2
output_pool false false Notes = Err Refusal.Pool

-- the position of a stream's pool
abbrev pub pool_of : Limits → Stream → ℕ
pool_of l x = cond l.shared 0 (index x)

-- a data message that is empty or longer than a chunk is refused
abbrev pub off_chunk : Limits → ℕ → Bool
off_chunk l length = eqb length 0 || ltb l.chunk length

unfoldable pub check_chunk : Limits → ℕ → Result ℕ Refusal
check_chunk l length = cond (off_chunk l length) (Err Refusal.Chunk) (Ok length)
