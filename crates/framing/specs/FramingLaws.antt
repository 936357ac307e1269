-- Laws of the frames' definitions: how long the bytes before a payload are, and which bytes are a whole frame.
use Rattle.std.specs.Prelude.{◌≡◌, refl, Bool, true, false, cond, ◌&&◌, List, [], ◌++◌, ℕ, ◌+◌, ◌≤◌, ◌<◌, eqb, leb, length, take, drop, Some, None, Ok, Err}
use Rattle.std.proofs.lemmas.Bool.{lt-leb}
use Rattle.std.proofs.Common.{arith, sym, ap, ◌∙◌, append_assoc, leb-false, le-leb, eq-eqb, ne_eqb, length-drop, length-take-le, take-append-drop, drop-drop}
use Rattle.exec.specs.declared.Refusal.TheVariants.{BufferShort}
use Rattle.exec.specs.Written.{written_after}
use Rattle.ring.specs.Flags.{and_l, and_r}
use Rattle.octets.specs.Bytes.{be24_at, number24_within}
use Rattle.framing.specs.declared.Frame.{Frame}
use Rattle.framing.specs.declared.Frame.TheVariants.{Update, Data, Reset}
use Rattle.framing.specs.Framing.{is_stream, is_framed, named, header, start, size, fits, bytes_of, is_whole, is_writable, unwritable, put_frame, write, lay}

pub header_length : (s : ℕ) (f : Frame) → length (header s f) ≡ start f
unfolding header
header_length s (Update x units) = refl
header_length s (Data x n ends) = refl
header_length s (Reset x) = refl

pub start_least : (f : Frame) → 9 ≤ start f
start_least (Update x units) = omega arith
start_least (Data x n ends) = omega arith
start_least (Reset x) = omega arith

-- bytes that end before their length are no whole frame
pub whole_none : (b : List ℕ) → number24_within b 0 ≡ None → is_whole b ≡ false
unfolding number24_within is_whole
whole_none b = by (leb 3 (length b)) refl
  where
    by : (t : Bool) → leb 3 (length b) ≡ t → cond t (Some (be24_at b 0)) None ≡ None → eqb (length b) (9 + be24_at b 0) ≡ false
    by true t e = let z : ◌≡◌ {A = ℕ} 0 1 = cc in absurd (omega arith)
    by false t e = ne_eqb (length b) (9 + be24_at b 0) (λ q. let h = leb-false 3 (length b) t in omega (arith, h, q))

pub length_is : (b : List ℕ) (n : ℕ) → number24_within b 0 ≡ Some n → n ≡ be24_at b 0
unfolding number24_within
length_is b n = by (leb 3 (length b))
  where
    by : (t : Bool) → cond t (Some (be24_at b 0)) None ≡ Some n → n ≡ be24_at b 0
    by true e = cc
    by false e = let z : ◌≡◌ {A = ℕ} 0 1 = cc in absurd (omega arith)

pub whole_is : (b : List ℕ) (n : ℕ) → number24_within b 0 ≡ Some n → is_whole b ≡ eqb (length b) (9 + n)
unfolding is_whole
whole_is b n e = rw (length_is b n e) refl

-- ---- writing

module _ (s : ℕ) (f : Frame) (w : is_writable s f ≡ true) where
  on : (is_framed (named f) && is_stream s) ≡ true
  unfolding is_writable
  on = and_l (is_framed (named f) && is_stream s) (fits f) w

  pub writable_framed : is_framed (named f) ≡ true
  writable_framed = and_l (is_framed (named f)) (is_stream s) on

  pub writable_stream : is_stream s ≡ true
  writable_stream = and_r (is_framed (named f)) (is_stream s) on

  pub writable_fits : fits f ≡ true
  unfolding is_writable
  writable_fits = and_r (is_framed (named f) && is_stream s) (fits f) w

-- the payload that a frame is laid with has its length
lies : (f : Frame) (b : List ℕ) → start f + size f ≤ length b → length (take (size f) (drop 9 b)) ≡ size f
lies f b h = length-take-le (size f) (drop 9 b) (simp length-drop (omega (arith, start_least f)))

-- the frame laid is its header before what stands behind it
pub header_laid : (s : ℕ) (f : Frame) (b : List ℕ) → bytes_of s f (take (size f) (drop 9 b)) ++ drop (start f + size f) b ≡ header s f ++ drop (start f) b
unfolding bytes_of
header_laid s (Update x units) b = append_assoc (header s (Update x units)) [] (drop 13 b)
header_laid s (Data x n ends) b =
    append_assoc (header s (Data x n ends)) (take n (drop 9 b)) (drop (9 + n) b)
    ∙ ap (λ (t : List ℕ). header s (Data x n ends) ++ t) (ap (λ (t : List ℕ). take n (drop 9 b) ++ t) (sym (drop-drop n 9 b)) ∙ take-append-drop n (drop 9 b))
header_laid s (Reset x) b = append_assoc (header s (Reset x)) [] (drop 13 b)

module _ (s : ℕ) (f : Frame) (b : List ℕ) where
  pub lay_short : length b < start f + size f → lay s f b ≡ written_after (Err BufferShort) b
  unfolding write
  lay_short h = simp (lt-leb (start f + size f) (length b) h)

  lay_put : start f + size f ≤ length b → lay s f b ≡ put_frame s f (take (size f) (drop 9 b)) b
  unfolding write
  lay_put h = simp (le-leb (start f + size f) (length b) h, eq-eqb _ (size f) (lies f b h))

  pub lay_bad : start f + size f ≤ length b → is_writable s f ≡ false → lay s f b ≡ written_after (Err (unwritable f)) b
  unfolding put_frame
  lay_bad h w = lay_put h ∙ rw w refl

  -- so it is its header that is written
  pub lay_all : start f + size f ≤ length b → is_writable s f ≡ true → lay s f b ≡ written_after (Ok (start f + size f)) (header s f ++ drop (start f) b)
  unfolding put_frame
  lay_all h w = lay_put h ∙ rw w (ap (written_after (Ok (start f + size f))) (header_laid s f b))
