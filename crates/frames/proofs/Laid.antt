-- What a write lays: frames that read back, one behind the other, and an Output's payload at the end of its frame; and what it keeps of the buffer.
use Rattle.std.specs.Prelude.{Bool, true, false, List, [], ◌∷◌, ◌++◌, ◌≡◌, refl, ℕ, ◌+◌, ◌-◌, ◌≤◌, length, take, drop, None, Ok}
use Rattle.std.proofs.Common.{ap, ◌∙◌, arith, append-nil, length-append, length-drop, length-take-le, take_at}
use Rattle.exec.specs.declared.Limits.{Limits}
use Rattle.exec.specs.declared.Stream.TheVariants.{Stdout, Stderr}
use Rattle.runner.specs.declared.answer.Message.{Message}
use Rattle.runner.specs.declared.runner.Runner.{Runner}
use Rattle.runner.specs.State.{out_of}
use Rattle.carrier.specs.Carrier.{room}
use Rattle.carrier.specs.CarrierLaws.{beyond}
use Rattle.carrier.specs.SaidLaws.{Within, Keeps, Pays}
use Rattle.carrier.specs.Writes as Writes
use Rattle.framing.specs.declared.Frame.{Frame}
use Rattle.framing.specs.declared.Frame.TheVariants.{Update, Data}
use Rattle.framing.specs.Framing.{start, size, bytes_of}
use Rattle.framing.specs.FramingLaws.{header_length}
use Rattle.framing.proofs.RoundTrip.{payload_back}
use Rattle.frames.specs.Calls.{reset_unless, sent_as, length_all, bytes_all, laid, laying, carriage, write_frame}

-- ---- how long frames are

-- a frame whose payload is there
one_long : (s : ℕ) (f : Frame) (payload : List ℕ) → length payload ≡ size f → length (bytes_of s f payload) ≡ start f + size f
unfolding bytes_of
one_long s f payload e = simp length-append (omega (arith, header_length s f))

-- frames whose payloads are within the buffer
abbrev pub AllWithin : List Frame → (room : ℕ) → Type 0
AllWithin [] room = Unit
AllWithin (f ∷ fs) room = (9 + size f ≤ room) × AllWithin fs room

pub all_long : (s : ℕ) (fs : List Frame) (b : List ℕ) → AllWithin fs (length b) → length (bytes_all s fs b) ≡ length_all fs
all_long s [] b h = refl
all_long s (f ∷ fs) b h =
    let p : length (take (size f) (drop 9 b)) ≡ size f = length-take-le (size f) (drop 9 b) (simp length-drop (omega (arith, h.0))) in
    simp length-append (omega (arith, one_long s f _ p, all_long s fs b h.1))

-- they stand at the buffer's start
pub laid_front : (s : ℕ) (fs : List Frame) (b : List ℕ) → AllWithin fs (length b) → take (length_all fs) (laid s fs b) ≡ bytes_all s fs b
unfolding laid
laid_front s fs b h = take_at (bytes_all s fs b) (drop (length_all fs) b) (length_all fs) (all_long s fs b h)

-- ---- the payload of an Output is the last of its frame

pub pays : (s : ℕ) (stdout stderr : Bool) → Pays 9 (laying s stdout stderr)
unfolding Pays sent_as
pays s stdout stderr x n b h =
    let f = Data x n false in
    let p = take n (drop 9 b) in
    let z : 9 + n + 0 - n ≡ 9 = omega arith in
    rw z (ap (drop 9) (laid_front s (f ∷ []) b (h, tt) ∙ append-nil (bytes_of s f p)) ∙ payload_back s f p)

-- ---- what is kept

resets_most : (stdout stderr : Bool) → length_all (reset_unless stdout Stdout ++ reset_unless stderr Stderr) ≤ 26
resets_most true true = omega arith
resets_most true false = omega arith
resets_most false true = omega arith
resets_most false false = omega arith

resets_within : (stdout stderr : Bool) (room : ℕ) → 9 ≤ room → AllWithin (reset_unless stdout Stdout ++ reset_unless stderr Stderr) room
resets_within true true room h = tt
resets_within true false room h = (omega arith, tt)
resets_within false true room h = (omega arith, tt)
resets_within false false room h = (omega arith, (omega arith, tt))

-- frames that have room are laid within it
laid_beyond : (s : ℕ) (fs : List Frame) (b : List ℕ) (from : ℕ) → AllWithin fs (length b) → length_all fs ≤ from → drop from (laid s fs b) ≡ drop from b
unfolding laid
laid_beyond s fs b from h m = beyond (bytes_all s fs b) b (length_all fs) from (all_long s fs b h) m

keeps : (l : Limits) (s : ℕ) (stdout stderr : Bool) → Keeps l (laying s stdout stderr) (room l) (room l)
unfolding Keeps Within sent_as
keeps l s stdout stderr (Message.Credit units) b k h = laid_beyond s (Update Stdout units ∷ []) b (room l) (omega arith, tt) (omega arith)
keeps l s stdout stderr Message.Started b k h = laid_beyond s [] b (room l) tt (omega arith)
keeps l s stdout stderr (Message.Output x n) b k h = laid_beyond s (Data x n false ∷ []) b (room l) (omega arith, tt) (omega arith)
keeps l s stdout stderr (Message.End x) b k h = laid_beyond s (Data x 0 true ∷ []) b (room l) (omega arith, tt) (omega arith)
keeps l s stdout stderr Message.InputClosed b k h = laid_beyond s [] b (room l) tt (omega arith)
keeps l s stdout stderr (Message.Terminal o) b k h =
    laid_beyond s (reset_unless stdout Stdout ++ reset_unless stderr Stderr) b (room l) (resets_within stdout stderr (length b) (omega arith)) (omega (arith, resets_most stdout stderr))

module _ (r : Runner) (s : ℕ) (store b : List ℕ) where
  -- WHERE NO MESSAGE WAITS, THE WHOLE BUFFER IS KEPT
  pub none_kept : (write_frame r s store b).writing.answer ≡ Ok None → (write_frame r s store b).buffer ≡ b
  unfolding write_frame
  none_kept = Writes.none_kept (carriage r s) r store b

  -- ALL BYTES BEHIND max(chunk + 13, 43) ARE KEPT, WHATEVER IS WRITTEN
  pub beyond_kept : drop (room r.limits) (write_frame r s store b).buffer ≡ drop (room r.limits) b
  unfolding write_frame
  beyond_kept = Writes.beyond_kept (carriage r s) r store b (omega arith) (keeps r.limits s (out_of Stdout r).ended (out_of Stderr r).ended)
