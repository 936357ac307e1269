-- Laws of the frame calls: what their inner functions ask and give (a frame that was read is whole, a message's frames have room).
use Rattle.std.specs.Prelude.{Bool, true, false, not, ◌&&◌, List, [], ◌∷◌, ◌++◌, ◌≡◌, refl, ℕ, ◌+◌, ◌-◌, ◌≤◌, leb, length, take, drop, Option, Result, Some, None, Ok, Err}
use Rattle.std.proofs.lemmas.Bool.{false≢true, not-true}
use Rattle.std.proofs.Common.{sym, ap, ◌∙◌, arith, true≢false, leb-true, append_assoc, append-nil, length-drop, length-take-le, take_all, drop-drop}
use Rattle.std.proofs.Math.Seq.{drop-length}
use Rattle.exec.specs.declared.Limits.{Limits}
use Rattle.exec.specs.declared.Refusal.{Refusal}
use Rattle.exec.specs.declared.Unit as Units
use Rattle.exec.specs.declared.Unit.TheVariants.{Bytes, Frames}
use Rattle.exec.specs.declared.Stream.{Stream}
use Rattle.exec.specs.declared.Stream.TheVariants.{Stdout, Stderr, Notes}
use Rattle.exec.specs.Limits.{has, has_notes}
use Rattle.exec.specs.Written.{WrittenAfter, written_after}
use Rattle.runner.specs.declared.answer.Message.{Message}
use Rattle.runner.specs.declared.answer.After.{After}
use Rattle.runner.specs.declared.runner.Runner.{Runner}
use Rattle.runner.specs.Message.{MessageAfter, message_after}
use Rattle.carrier.specs.Carrier.{is_bytes, accepted, room, asked}
use Rattle.carrier.specs.SaidLaws.{Within, SaidWithin, said_within}
use Rattle.framing.specs.declared.Frame.{Frame}
use Rattle.framing.specs.declared.Frame.TheVariants.{Update, Data, Reset}
use Rattle.framing.specs.Framing.{is_stream, is_framed as has_frames, named, start, size, fits, bytes_of, header, is_writable, read, lay}
use Rattle.framing.specs.FramingLaws.{header_laid, lay_all}
use Rattle.framing.proofs.RoundTrip.{Says, read_is}
use Rattle.frames.specs.Calls.{is_plain, most_payload, most_window, is_small, is_framed, reset_unless, length_all, bytes_all, laid}

-- ---- what is framed

and_l : (a b : Bool) → a && b ≡ true → a ≡ true
and_l true b h = refl
and_l false b h = absurd (false≢true h)

and_r : (a b : Bool) → a && b ≡ true → b ≡ true
and_r true b h = h
and_r false b h = absurd (false≢true h)

pub framed_stream : (l : Limits) (s : ℕ) → is_framed l s ≡ true → is_stream s ≡ true
framed_stream l s h = and_r _ _ h

pub framed_plain : (l : Limits) (s : ℕ) → is_framed l s ≡ true → is_plain l ≡ true
framed_plain l s h = and_l (is_plain l) (is_small l) (and_l (is_plain l && is_small l) (is_stream s) h)

-- limits of frames have two streams
pub framed_two : (l : Limits) (s : ℕ) → is_framed l s ≡ true → has_notes l ≡ false
framed_two l s h = not-true (has_notes l) (and_r (not l.shared && is_bytes l.input.unit && is_bytes l.output.unit) (not (has_notes l)) (framed_plain l s h))

-- a stream that is open has frames
pub framed_open : (l : Limits) (s : ℕ) (x : Stream) → is_framed l s ≡ true → has l x ≡ true → has_frames x ≡ true
framed_open l s Stdout h o = refl
framed_open l s Stderr h o = refl
framed_open l s Notes h o =
    absurd (true≢false (sym o ∙ framed_two l s h))

unit_bytes : (u : Units.Unit) → is_bytes u ≡ true → u ≡ Bytes
unit_bytes Bytes h = refl
unit_bytes Frames h = absurd (false≢true h)

pub plain_bytes : (l : Limits) → is_plain l ≡ true → l.input.unit ≡ Bytes
plain_bytes l h =
    let counted = and_l (not l.shared && is_bytes l.input.unit && is_bytes l.output.unit) (not (has_notes l)) h in
    unit_bytes l.input.unit (and_r (not l.shared) (is_bytes l.input.unit) (and_l (not l.shared && is_bytes l.input.unit) (is_bytes l.output.unit) counted))

two_most : (n a m b k c : ℕ) → leb n a && leb m b && leb k c ≡ true → (n ≤ a) × (m ≤ b)
two_most n a m b k c h =
    let two = and_l (leb n a && leb m b) (leb k c) h in
    (leb-true n a (and_l (leb n a) (leb m b) two), leb-true m b (and_r (leb n a) (leb m b) two))

-- so a payload's length fits 24 bits, and the units of a Credit 31
pub framed_small : (l : Limits) (s : ℕ) → is_framed l s ≡ true → (l.chunk ≤ 16777215) × (l.input.size ≤ 2147483647)
framed_small l s h =
    let small : is_small l ≡ true = and_r (is_plain l) (is_small l) (and_l (is_plain l && is_small l) (is_stream s) h) in
    let p = two_most l.chunk most_payload l.input.size most_window l.output.size most_window small in
    (omega (arith, p.0), omega (arith, p.1))

-- ---- reading

pub rest : (b : List ℕ) → take (length b - 9) (drop 9 b) ≡ drop 9 b
rest b = take_all (length b - 9) (drop 9 b) (simp length-drop (omega arith))

-- the first bytes of a frame that was read are there
read_whole : (s : ℕ) (b : List ℕ) (f : Frame) → Says s b f → start f ≤ length b
read_whole s b (Update x units) h = omega (arith, h.whole, h.frame.1)
read_whole s b (Data x n ends) h = omega (arith, h.whole)
read_whole s b (Reset x) h = omega (arith, h.whole, h.frame.1)

pub accepted_whole : (a : Result (Unit {0}) Refusal) (s : ℕ) (b : List ℕ) (f : Frame) → accepted a (read s b) ≡ Ok f → start f ≤ length b
unfolding accepted
accepted_whole (Ok tt) s b f e = read_whole s b f (read_is s b f e)
accepted_whole (Err x) s b f e = let z : ◌≡◌ {A = ℕ} 0 1 = cc in absurd (omega arith)

-- ---- writing

abbrev pub resets : (stdout stderr : Bool) → List Frame
resets stdout stderr = reset_unless stdout Stdout ++ reset_unless stderr Stderr

-- a message's frames are of streams that have frames, their numbers fit their fields, and there is room for them
unfoldable pub Layable : Message → (room : ℕ) → Type 0
Layable (Message.Credit units) room = (units ≤ 2147483647) × (13 ≤ room)
Layable Message.Started room = Unit
Layable (Message.Output x n) room = (has_frames x ≡ true) × (n ≤ 16777215) × (9 + n ≤ room)
Layable (Message.End x) room = (has_frames x ≡ true) × (9 ≤ room)
Layable Message.InputClosed room = Unit
Layable (Message.Terminal outcome) room = 26 ≤ room

unfoldable pub Sayable : (s : ℕ) → Result (Option Message) Refusal → (room : ℕ) → Type 0
Sayable s (Ok None) room = Unit
Sayable s (Ok (Some m)) room = (is_stream s ≡ true) × Layable m room
Sayable s (Err x) room = Unit

-- frames laid at a buffer's start
abbrev pub laid_after : (s : ℕ) → List Frame → (buffer : List ℕ) → WrittenAfter
laid_after s fs buffer = written_after (Ok (length_all fs)) (laid s fs buffer)

module _ (s : ℕ) where
  pub lay_none : (b : List ℕ) → laid s [] b ≡ b
  unfolding laid
  lay_none b = refl

  -- one frame, as its writer answers and leaves the buffer
  one : (f : Frame) (b : List ℕ) → written_after (Ok (start f + size f)) (header s f ++ drop (start f) b) ≡ laid_after s (f ∷ []) b
  unfolding laid
  one f b =
      let p = bytes_of s f (take (size f) (drop 9 b)) in
      let n : start f + size f ≡ length_all (f ∷ []) = omega arith in
      let l : header s f ++ drop (start f) b ≡ (p ++ []) ++ drop (start f + size f) b =
      sym (header_laid s f b) ∙ ap (λ (t : List ℕ). t ++ drop (start f + size f) b) (sym (append-nil p)) in
      ap (λ (t : List ℕ). written_after (Ok (start f + size f)) t) l ∙ ap (λ (m : ℕ). written_after (Ok m) ((p ++ []) ++ drop m b)) n

  pub lay_one : (f : Frame) (b : List ℕ) → is_stream s ≡ true → has_frames (named f) ≡ true → fits f ≡ true → start f + size f ≤ length b
      → lay s f b ≡ laid_after s (f ∷ []) b
  unfolding is_writable
  lay_one f b hs hx hf h = lay_all s f b h (rw (hs, hx, hf) refl) ∙ one f b

  -- a reset that is laid in the first 13 bytes, and what is laid behind it
  module _ (x : Stream) (b first : List ℕ) (u : Result ℕ Refusal) (stream : is_stream s ≡ true) (framed : has_frames x ≡ true) (room : 13 ≤ length b)
      (laid-first : written_after u first ≡ lay s (Reset x) (take 13 b)) where
    short : length (take 13 b) ≡ 13
    short = length-take-le 13 b room

    told_first : written_after u first ≡ laid_after s (Reset x ∷ []) (take 13 b)
    told_first = laid-first ∙ lay_one (Reset x) (take 13 b) stream framed refl (omega (arith, short))

    pub first_taken : u ≡ Ok 13
    first_taken = ap (λ (w : WrittenAfter). w.answer) told_first

    -- its bytes
    reset : List ℕ
    reset = bytes_of s (Reset x) []

    front : first ≡ reset
    unfolding laid reset
    front =
        ap (λ (w : WrittenAfter). w.buffer) told_first
        ∙ ap (λ (t : List ℕ). (reset ++ []) ++ t) (ap (λ (n : ℕ). drop n (take 13 b)) (sym short) ∙ drop-length (take 13 b))
        ∙ append-nil (reset ++ [])
        ∙ append-nil reset

    -- a reset has no payload
    alone : (e : Bool) (y : Stream) → bytes_all s (reset_unless e y) (drop 13 b) ≡ bytes_all s (reset_unless e y) b
    alone true y = refl
    alone false y = refl

    pub two_laid : (y : Stream) (ended : Bool) (behind : List ℕ) (v : Result ℕ Refusal) (n : ℕ) → written_after v behind ≡ laid_after s (reset_unless ended y) (drop 13 b) → v ≡ Ok n
        → written_after (Ok (13 + n)) (first ++ behind) ≡ laid_after s (Reset x ∷ reset_unless ended y) b
    unfolding laid reset
    two_laid y ended behind v n e h =
        let fs = reset_unless ended y in
        let m = length_all fs in
        let same : ◌≡◌ {A = Result ℕ Refusal} (Ok n) (Ok m) = sym h ∙ ap (λ (w : WrittenAfter). w.answer) e in
        let long : n ≡ m = cc in
        let rest : behind ≡ bytes_all s fs b ++ drop (13 + m) b =
        ap (λ (w : WrittenAfter). w.buffer) e
        ∙ ap (λ (t : List ℕ). t ++ drop m (drop 13 b)) (alone ended y)
        ∙ ap (λ (t : List ℕ). bytes_all s fs b ++ t) (drop-drop m 13 b) in
        rw (long, front, rest) (ap (written_after (Ok (13 + m))) (sym (append_assoc reset (bytes_all s fs b) (drop (13 + m) b))))

-- ---- what is said of limits has room, and fits

fits_said : (l : Limits) (s n : ℕ) → is_framed l s ≡ true → room l ≤ n → (said : Result (Option Message) Refusal) → SaidWithin l said → Sayable s said n
unfolding Sayable Layable SaidWithin Within
fits_said l s n f h (Ok None) k = tt
fits_said l s n f h (Ok (Some m)) k = (framed_stream l s f, message m k)
  where
    small : (l.chunk ≤ 16777215) × (l.input.size ≤ 2147483647)
    small = framed_small l s f

    message : (m : Message) → Within l m → Layable m n
    message (Message.Credit units) k = (omega (arith, small), omega arith)
    message Message.Started k = tt
    message (Message.Output x i) k = (framed_open l s x f k.0, omega (arith, small, k.1), omega (arith, k.1))
    message (Message.End x) k = (framed_open l s x f k, omega arith)
    message Message.InputClosed k = tt
    message (Message.Terminal outcome) k = omega arith
fits_said l s n f h (Err x) k = tt

pub said_fits : (r : Runner) (s : ℕ) (store b : List ℕ) (x : After (Option Message)) (after : List ℕ) → message_after x after ≡ asked 9 r store b
    → is_framed r.limits s ≡ true → room r.limits ≤ length b → length after ≡ length b → Sayable s x.answer (length after)
said_fits r s store b x after said f h kept =
    rw (kept, ap (λ (y : MessageAfter). y.saying.answer) said) (fits_said r.limits s (length b) f h (asked 9 r store b).saying.answer (said_within 9 r store b))
