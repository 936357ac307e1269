-- A frame that is written, at the peer: it is heard as what is to be heard of the message that was told.
use mathlib.Core.Bool.{false≢true, true}
use Rattle.std.specs.Prelude.{◌≡◌, refl, Bool, true, false, List, [], ◌∷◌, ◌++◌, map, ℕ, ◌+◌, eqb, length, take, drop, Option, Result, Some, None, Ok, Err}
use Rattle.std.proofs.Common.{ap, ◌∙◌, arith, eq-eqb, ne_eqb, le-leb, length-drop, length-take-le}
use mathlib.Core.Path.{subst⁻¹}
use Rattle.exec.specs.declared.Refusal.{Refusal}
use Rattle.exec.specs.declared.Stream.{Stream}
use Rattle.exec.specs.declared.Stream.TheVariants.{Stdout, Stderr, Notes}
use Rattle.exec.specs.Each.{Each}
use Rattle.runner.specs.declared.answer.Message.{Message}
use Rattle.runner.specs.Range.{stop, bytes_do}
use Rattle.runner.specs.State.{out_of}
use Rattle.carrier.specs.Carrier.{WriteAfter, asked, Laying, wrote, wrote_buffer, told}
use Rattle.carrier.specs.SaidLaws.{Pays, asked_long}
use Rattle.carrier.specs.Writes.{Writes, taken, writes}
use Rattle.framing.specs.declared.Frame.{Frame}
use Rattle.framing.specs.declared.Frame.TheVariants.{Update, Data, Reset}
use Rattle.framing.specs.Framing.{is_stream, start, size, fits, bytes_of, is_writable, read, named, is_framed as has_frames}
use Rattle.framing.proofs.RoundTrip.{Says, back, payload_back, long, read_is}
use Rattle.frames.specs.Calls.{is_framed, reset_unless, sent_as, length_all, bytes_all, laid, laying, carriage, write_frame}
use Rattle.frames.specs.CallLaws.{framed_stream, Layable, Sayable, said_fits, framed_two}
use Rattle.frames.proofs.Laid.{AllWithin, laid_front, pays}
use Rattle.calls.specs.Call as Call
use Rattle.account.specs.Step.{State}
use Rattle.account.specs.Records as Records
use Rattle.account.specs.Records.{message_in, wrote_as, answers, answer_entry}
use Rattle.account.proofs.Plain as Plain
use Rattle.account.proofs.Demand.{Fine, goes}
use Rattle.wire.specs.Messages.{said_in}
use Rattle.wire.specs.Heard.{written, told_by}
use Rattle.wire.proofs.Ends.{ends}
use Rattle.wire.proofs.Follows.{Hears, hears_append}
use Rattle.peer.specs.Framed as Framed
use Rattle.peer.specs.Framed.{front, on_wire, Heard, Window, Bytes, Ended, Unread, read_if, hear, heard, reset_in, speaks}
use Rattle.peer.proofs.Cut.{cut_first}

-- ---- one frame

-- what it is heard as
abbrev as_heard : Frame → (payload : List ℕ) → Heard
as_heard (Update Stdout units) p = Window units
as_heard (Update Stderr units) p = Unread
as_heard (Update Notes units) p = Unread
as_heard (Data x n false) p = Bytes x p
as_heard (Data x n true) p = read_if (eqb (9 + n) 9) (Ended x)
as_heard (Reset x) p = Framed.Reset x

abbrev all_as : List Frame → (buffer : List ℕ) → List Heard
all_as [] b = []
all_as (f ∷ fs) b = as_heard f (take (size f) (drop 9 b)) ∷ all_as fs b

module _ (s : ℕ) where
  abbrev AllWritable : List Frame → Type 0
  AllWritable [] = Unit
  AllWritable (f ∷ fs) = (is_writable s f ≡ true) × AllWritable fs

  here : eqb s s ≡ true
  here = eq-eqb s s refl

  apart : eqb (s + 2) s ≡ false
  apart = ne_eqb (s + 2) s (λ e. omega arith)

  beside : eqb (s + 2) (s + 2) ≡ true
  beside = eq-eqb (s + 2) (s + 2) refl

  frame_heard : (f : Frame) (p : List ℕ) → is_writable s f ≡ true → length p ≡ size f → hear s (bytes_of s f p) ≡ as_heard f p
  frame_heard f p w l = by f (back s f p w l) (read_is s (bytes_of s f p) f (back s f p w l)) (payload_back s f p) (long s f p l)
    where
      by : (f : Frame) → read s (bytes_of s f p) ≡ Ok f → Says s (bytes_of s f p) f → drop (start f) (bytes_of s f p) ≡ p → length (bytes_of s f p) ≡ start f + size f
          → hear s (bytes_of s f p) ≡ as_heard f p
      by (Update Stdout units) e h d n = rw (e, h.frame.0, h.frame.2, here) (ap Window h.frame.3)
      by (Update Stderr units) e h d n = rw (e, h.frame.0, h.frame.2, apart, beside) refl
      by (Update Notes units) e h d n = absurd (false≢true h.framed)
      by (Data Notes k ends) e h d n = absurd (false≢true h.framed)
      by (Reset Notes) e h d n = absurd (false≢true h.framed)
      by (Data Stdout k false) e h d n = rw (e, h.frame.0, h.frame.2, here, h.frame.3) (ap (Bytes Stdout) d)
      by (Data Stderr k false) e h d n = rw (e, h.frame.0, h.frame.2, apart, beside, h.frame.3) (ap (Bytes Stderr) d)
      by (Data Stdout k true) e h d n = rw (e, h.frame.0, h.frame.2, here, h.frame.3) (ap (λ (m : ℕ). read_if (eqb m 9) (Ended Stdout)) n)
      by (Data Stderr k true) e h d n = rw (e, h.frame.0, h.frame.2, apart, beside, h.frame.3) (ap (λ (m : ℕ). read_if (eqb m 9) (Ended Stderr)) n)
      by (Reset Stdout) e h d n = rw (e, h.frame.0, h.frame.2, here) refl
      by (Reset Stderr) e h d n = rw (e, h.frame.0, h.frame.2, apart, beside) refl

  one_heard : (f : Frame) (p : List ℕ) → is_writable s f ≡ true → length p ≡ size f → Hears (heard s) (bytes_of s f p) (as_heard f p ∷ [])
  one_heard f p w l rest =
      ap (map (hear s)) (cut_first (bytes_of s f p) rest (read_is s (bytes_of s f p) f (back s f p w l)).whole)
      ∙ ap (λ (h : Heard). h ∷ heard s rest) (frame_heard f p w l)

  -- ---- frames, one behind the other

  all_heard : (fs : List Frame) (b : List ℕ) → AllWritable fs → AllWithin fs (length b) → Hears (heard s) (bytes_all s fs b) (all_as fs b)
  all_heard [] b w h = λ rest. refl
  all_heard (f ∷ fs) b w h =
      hears_append (heard s) (bytes_of s f (take (size f) (drop 9 b))) (bytes_all s fs b) (as_heard f (take (size f) (drop 9 b)) ∷ []) (all_as fs b)
      (one_heard f (take (size f) (drop 9 b)) w.0 (length-take-le (size f) (drop 9 b) (simp length-drop (omega (arith, h.0))))) (all_heard fs b w.1 h.1)

  laid_heard : (fs : List Frame) (b : List ℕ) → AllWritable fs → AllWithin fs (length b) → Hears (heard s) (take (length_all fs) (laid s fs b)) (all_as fs b)
  laid_heard fs b w h = subst⁻¹ (λ (l : List ℕ). Hears (heard s) l (all_as fs b)) (laid_front s fs b h) (all_heard fs b w h)

  module _ (stream : is_stream s ≡ true) where
    writable : (f : Frame) → has_frames (named f) ≡ true → fits f ≡ true → is_writable s f ≡ true
    unfolding is_writable
    writable f n h = rw (n, stream, h) refl

    reset_fits : (x : Stream) → has_frames x ≡ true → is_writable s (Reset x) ≡ true
    reset_fits x n = writable (Reset x) n refl

    -- A MESSAGE THAT IS LAID IS WHAT THE PEER HEARS
    module _ (t u : Bool) where
      abbrev lays : Laying
      lays = laying s t u

      abbrev ends_are : Each Bool
      ends_are = record { stdout = t; stderr = u; notes = true }

      message_heard : (m : Message) (b : List ℕ) → Layable m (length b)
          → Hears (heard s) (take (lays.size m) (lays.lay m b)) (told_by speaks ends_are (said_in (message_in m (lays.size m) (lays.lay m b))))
      unfolding Layable sent_as Pays
      message_heard (Message.Credit units) b h = laid_heard (Update Stdout units ∷ []) b (writable _ refl (le-leb units 2147483647 h.0), tt) (omega (arith, h.1), tt)
      message_heard (Message.Output x n) b h =
          subst⁻¹ (λ (p : List ℕ). Hears (heard s) (take (9 + n + 0) (laid s (Data x n false ∷ []) b)) (Bytes x p ∷ [])) (pays s t u x n b h.2)
          (laid_heard (Data x n false ∷ []) b (writable _ h.0 (le-leb n 16777215 h.1), tt) (h.2, tt))
      message_heard (Message.End x) b h = laid_heard (Data x 0 true ∷ []) b (writable _ h.0 refl, tt) (h.1, tt)
      message_heard (Message.Terminal o) b h = terminal t u
        where
          terminal : (t u : Bool) → let fs = reset_unless t Stdout ++ reset_unless u Stderr in
              Hears (heard s) (take (length_all fs) (laid s fs b)) (speaks (record { stdout = t; stderr = u; notes = true }) (Call.Terminal o) ++ [])
          terminal true true = laid_heard [] b tt tt
          terminal true false = laid_heard (Reset Stderr ∷ []) b (reset_fits Stderr refl, tt) (omega (arith, h), tt)
          terminal false true = laid_heard (Reset Stdout ∷ []) b (reset_fits Stdout refl, tt) (omega (arith, h), tt)
          terminal false false = laid_heard (Reset Stdout ∷ Reset Stderr ∷ []) b (reset_fits Stdout refl, (reset_fits Stderr refl, tt)) (omega (arith, h), (omega (arith, h), tt))
      message_heard _ b h = laid_heard [] b tt tt

      told_heard : (a : Result (Option Message) Refusal) (b : List ℕ) → Sayable s a (length b)
          → Hears (heard s) (written front (wrote lays a) (wrote_buffer lays a b)) (told_by speaks ends_are (said_in (wrote_as (wrote lays a) (wrote_buffer lays a b))))
      unfolding wrote wrote_buffer Sayable
      told_heard (Ok None) b h = λ rest. refl
      told_heard (Ok (Some m)) b h = message_heard m b h.1
      told_heard (Err x) b h = λ rest. refl

-- ---- at a state that came from open

module _ (st : State) (f : Fine st) (s : ℕ) (framed : is_framed st.runner.limits s ≡ true) (buffer : List ℕ) where
  pub good : stop st.runner (bytes_do st.runner.limits st.bytes) ≡ Ok tt
  unfolding Plain.enough
  good = goes st (Call.next_message []) f

  written_heard : (met : Bool) (w : WriteAfter) → Writes (carriage st.runner s) st.runner st.bytes buffer met w
      → Hears (heard s) (written front w.writing.answer w.buffer) (told_by speaks (ends st.runner) (said_in (answers w)))
  unfolding told
  written_heard met w (taken u h) =
      let a = asked 9 st.runner st.bytes buffer in
      let two : ends st.runner ≡ record { stdout = (out_of Stdout st.runner).ended; stderr = (out_of Stderr st.runner).ended; notes = true }
      = rw (framed_two st.runner.limits s framed) refl in
      rw two (told_heard s (framed_stream st.runner.limits s framed) (out_of Stdout st.runner).ended (out_of Stderr st.runner).ended a.saying.answer a.buffer
      (said_fits st.runner s st.bytes buffer a.saying a.buffer refl framed h (asked_long 9 st.runner st.bytes buffer (omega (arith, h)))))
  written_heard met w _ = λ rest. refl

  -- A FRAME THAT IS WRITTEN IS HEARD AS ITS MESSAGE
  pub frame_told : Hears (heard s) (on_wire st (Records.write_frame s buffer)) (told_by speaks (ends st.runner) (said_in (answer_entry st (Records.write_frame s buffer))))
  unfolding on_wire answer_entry write_frame
  frame_told = written_heard _ _ (writes (carriage st.runner s) st.runner st.bytes buffer good)
