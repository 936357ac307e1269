-- What reading and writing are refused by: 43 or 44; and 25 or 43, or 42 for Notes, when the buffer is left as it was.
use Rattle.std.specs.Prelude.{◌≡◌, refl, Bool, true, false, cond, List, ℕ, ◌+◌, eqb, leb, length, get_or, Option, Some, None, Result, Ok, Err}
use Rattle.std.proofs.Common.{arith, subst}
use Rattle.exec.specs.declared.Refusal.{Refusal}
use Rattle.exec.specs.declared.Refusal.TheVariants.{BufferShort, NotFramed, BadFrame, PaddedFrame}
use Rattle.exec.specs.declared.Stream.{Stream}
use Rattle.exec.specs.declared.Stream.TheVariants.{Stdout, Stderr, Notes}
use Rattle.exec.specs.Written.{WrittenAfter, written_after}
use Rattle.octets.specs.Bytes.{be24_at}
use Rattle.framing.specs.declared.Frame.{Frame}
use Rattle.framing.specs.Framing.{is_framed, named, start, size, is_whole, number31_at, stream_of, is_set, padded, data_in, of_four, kinded, on_stream, read, is_writable, unwritable, put_frame, write}

-- what is so of each refusal
abbrev RefusedBy : (Refusal → Type 0) → Result Frame Refusal → Type 0
RefusedBy P (Ok f) = Unit
RefusedBy P (Err x) = P x

module _ (P : Refusal → Type 0) (bad : P BadFrame) where
  either : (b : Bool) (x y : Result Frame Refusal) → RefusedBy P x → RefusedBy P y → RefusedBy P (cond b x y)
  either true x y h k = h
  either false x y h k = k

  module _ (padding : P PaddedFrame) where
    padded_by : (x : Stream) → P (padded x)
    padded_by Stdout = padding
    padded_by Stderr = bad
    padded_by Notes = bad

    kinded_by : (b : List ℕ) (x : Stream) → RefusedBy P (kinded b x)
    unfolding kinded data_in of_four
    kinded_by b x =
        let kind = get_or b 3 0 in
        let four : (f : Frame) → RefusedBy P (of_four (be24_at b 0) f) = λ f. either (eqb (be24_at b 0) 4) _ _ tt bad in
        either (eqb kind 0) _ _ (either (is_set 8 (get_or b 4 0)) _ _ (padded_by x) tt)
        (either (eqb kind 3) _ _ (four _) (either (eqb kind 8) _ _ (four _) bad))

    stream_by : (b : List ℕ) (o : Option Stream) → RefusedBy P (on_stream b o)
    unfolding on_stream
    stream_by b None = bad
    stream_by b (Some x) = kinded_by b x

    reads_by : (s : ℕ) (b : List ℕ) → RefusedBy P (read s b)
    unfolding read
    reads_by s b = either (is_whole b) _ _ (stream_by b (stream_of s (number31_at b 5))) bad

    -- a claim on 43 and 44 holds of whatever bytes are refused by
    pub read_refused : (s : ℕ) (b : List ℕ) (x : Refusal) → read s b ≡ Err x → P x
    read_refused s b x e = subst (RefusedBy P) e (reads_by s b)

  -- a claim on 43, and on 42, holds of whatever a frame is refused by that is not writable
  pub unwritable_by : P NotFramed → (f : Frame) → P (unwritable f)
  unwritable_by third f = by (is_framed (named f))
    where
      by : (t : Bool) → P (cond t BadFrame NotFramed)
      by true = bad
      by false = third

  -- a claim on 25 and 43, and on 42 where the frame names Notes, holds of whatever a frame is refused by, and nothing is written then
  module _ (short : P BufferShort) (b : List ℕ) where
    abbrev Unwritten : WrittenAfter → Type 0
    Unwritten w = (x : Refusal) → w.answer ≡ Err x → (P x) × (w.buffer ≡ b)

    none : (y : Refusal) → P y → Unwritten (written_after (Err y) b)
    none y h x e = let same : y ≡ x = cc in (subst P same h, refl)

    one : (t : Bool) (v w : WrittenAfter) → Unwritten v → Unwritten w → Unwritten (cond t v w)
    one true v w h k = h
    one false v w h k = k

    written : (n : ℕ) (c : List ℕ) → Unwritten (written_after (Ok n) c)
    written n c x e = let z : ◌≡◌ {A = ℕ} 0 1 = cc in absurd (omega arith)

    pub write_refused : (s : ℕ) (f : Frame) → P (unwritable f) → (payload : List ℕ) (x : Refusal) → (write s f payload b).answer ≡ Err x → (P x) × ((write s f payload b).buffer ≡ b)
    unfolding write put_frame
    write_refused s f other payload =
        one (leb (start f + size f) (length b)) _ _
        (one (eqb (length payload) (size f)) _ _ (one (is_writable s f) _ _ (written _ _) (none (unwritable f) other)) (none BadFrame bad))
        (none BufferShort short)
