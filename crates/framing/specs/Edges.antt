-- Document 02's A7 as literal bytes, spelled from RFC 9113: what writer and reader share, no round trip pins. Each is computed from
-- the definitions.
use Rattle.std.specs.Prelude.{◌≡◌, refl, Bool, true, false, cond, List, [], ◌∷◌, ◌++◌, ℕ, ◌+◌, eqb, length, get_or, Option, Some, None, Result, Ok, Err}
use Rattle.std.proofs.Common.{eq-eqb, ne_eqb}
use Rattle.exec.specs.declared.Stream.{Stream}
use Rattle.exec.specs.declared.Refusal.{Refusal}
use Rattle.exec.specs.declared.Refusal.TheVariants.{NotFramed, BadFrame, PaddedFrame, BufferShort}
use Rattle.exec.specs.declared.Stream.TheVariants.{Stdout, Stderr, Notes}
use Rattle.exec.specs.Refusal.{number}
use Rattle.exec.specs.Written.{WrittenAfter, written_after}
use Rattle.octets.specs.Bytes.{be24_at, be32_at, number_at}
use Rattle.framing.specs.declared.Frame.{Frame}
use Rattle.framing.specs.declared.Frame.TheVariants.{Update, Data, Reset}
use Rattle.framing.specs.Framing.{is_stream, is_framed, header, fits, bytes_of, is_whole, number31_at, stream_of, is_set, data_in, of_four, kinded, on_stream, read, is_writable, put_frame, write, lay}

-- ---- the bytes

-- WINDOW_UPDATE of 8 on stream 1
update_8 : List ℕ
update_8 = 0 ∷ 0 ∷ 4 ∷ 8 ∷ 0 ∷ 0 ∷ 0 ∷ 0 ∷ 1 ∷ 0 ∷ 0 ∷ 0 ∷ 8 ∷ []

-- DATA "ab" on 1, and "bad" on 3
ab : List ℕ
ab = 0 ∷ 0 ∷ 2 ∷ 0 ∷ 0 ∷ 0 ∷ 0 ∷ 0 ∷ 1 ∷ 97 ∷ 98 ∷ []

bad : List ℕ
bad = 0 ∷ 0 ∷ 3 ∷ 0 ∷ 0 ∷ 0 ∷ 0 ∷ 0 ∷ 3 ∷ 98 ∷ 97 ∷ 100 ∷ []

-- the empty DATA with END_STREAM on 3
end_3 : List ℕ
end_3 = 0 ∷ 0 ∷ 0 ∷ 0 ∷ 1 ∷ 0 ∷ 0 ∷ 0 ∷ 3 ∷ []

-- RST_STREAM with CANCEL on a stream below 256
reset_on : (id : ℕ) → List ℕ
reset_on id = 0 ∷ 0 ∷ 4 ∷ 3 ∷ 0 ∷ 0 ∷ 0 ∷ 0 ∷ id ∷ 0 ∷ 0 ∷ 0 ∷ 8 ∷ []

spelled : (bytes_of 1 (Update Stdout 8) [] ≡ update_8)
    × (bytes_of 1 (Data Stdout 2 false) (97 ∷ 98 ∷ []) ≡ ab)
    × (bytes_of 1 (Data Stderr 3 false) (98 ∷ 97 ∷ 100 ∷ []) ≡ bad)
    × (bytes_of 1 (Data Stderr 0 true) [] ≡ end_3)
    × (bytes_of 1 (Reset Stdout) [] ≡ reset_on 1)
    × (bytes_of 1 (Reset Stderr) [] ≡ reset_on 3)
unfolding bytes_of header update_8 ab bad end_3 reset_on
spelled = (refl, refl, refl, refl, refl, refl)

-- the order of the bytes: units 0x01020304 on stream 0x05060708, a length of 0x010203, and the highest streams, 7ffffffd and 7fffffff
order : (header 84281096 (Update Stdout 16909060) ≡ 0 ∷ 0 ∷ 4 ∷ 8 ∷ 0 ∷ 5 ∷ 6 ∷ 7 ∷ 8 ∷ 1 ∷ 2 ∷ 3 ∷ 4 ∷ [])
    × (header 1 (Data Stdout 66051 true) ≡ 1 ∷ 2 ∷ 3 ∷ 0 ∷ 1 ∷ 0 ∷ 0 ∷ 0 ∷ 1 ∷ [])
    × (header 2147483645 (Data Stdout 16777215 false) ≡ 255 ∷ 255 ∷ 255 ∷ 0 ∷ 0 ∷ 127 ∷ 255 ∷ 255 ∷ 253 ∷ [])
    × (header 2147483645 (Update Stderr 2147483647) ≡ 0 ∷ 0 ∷ 4 ∷ 8 ∷ 0 ∷ 127 ∷ 255 ∷ 255 ∷ 255 ∷ 127 ∷ 255 ∷ 255 ∷ 255 ∷ [])
unfolding header
order = (refl, refl, refl, refl)

-- s goes from 1 to 2^31 - 3, and two streams have frames; a length has 24 bits, and units have 31
bounds : (is_stream 0 ≡ false)
    × (is_stream 1 ≡ true)
    × (is_stream 2147483645 ≡ true)
    × (is_stream 2147483646 ≡ false)
    × (is_framed Stdout ≡ true)
    × (is_framed Stderr ≡ true)
    × (is_framed Notes ≡ false)
    × (fits (Data Stdout 16777215 true) ≡ true)
    × (fits (Data Stdout 16777216 true) ≡ false)
    × (fits (Update Stderr 2147483647) ≡ true)
    × (fits (Update Stderr 2147483648) ≡ false)
bounds = (refl, refl, refl, refl, refl, refl, refl, refl, refl, refl, refl)

-- the numbers of the refusals
numbers : (number BufferShort ≡ 25) × (number NotFramed ≡ 42) × (number BadFrame ≡ 43) × (number PaddedFrame ≡ 44)
numbers = (refl, refl, refl, refl)

-- ---- writing: 25, then 43, 42 for Notes, and nothing written by any of them

writes : Frame → (payload buffer : List ℕ) → WrittenAfter
unfolding write put_frame is_writable bytes_of header
writes f payload buffer = write 1 f payload buffer

written : (writes (Data Stdout 2 false) (97 ∷ 98 ∷ []) (7 ∷ 7 ∷ 7 ∷ 7 ∷ 7 ∷ 7 ∷ 7 ∷ 7 ∷ 7 ∷ 7 ∷ 7 ∷ 6 ∷ 5 ∷ []) ≡ written_after (Ok 11) (ab ++ (6 ∷ 5 ∷ [])))
    × (writes (Update Stdout 8) [] update_8 ≡ written_after (Ok 13) update_8)
    × (writes (Data Stdout 2 false) (97 ∷ []) (1 ∷ 2 ∷ 3 ∷ []) ≡ written_after (Err BufferShort) (1 ∷ 2 ∷ 3 ∷ []))
    × (writes (Data Stdout 2 false) (97 ∷ []) bad ≡ written_after (Err BadFrame) bad)
    × (writes (Update Stdout 2147483648) [] update_8 ≡ written_after (Err BadFrame) update_8)
    × (write 0 (Data Stderr 0 true) [] end_3 ≡ written_after (Err BadFrame) end_3)
    × (write 2147483646 (Data Stdout 0 true) [] end_3 ≡ written_after (Err BadFrame) end_3)
    × (lay 1 (Data Stdout 2 false) (7 ∷ 7 ∷ 7 ∷ 7 ∷ 7 ∷ 7 ∷ 7 ∷ 7 ∷ 7 ∷ 97 ∷ 98 ∷ 5 ∷ []) ≡ written_after (Ok 11) (ab ++ (5 ∷ [])))
    × (lay 1 (Data Stderr 0 true) (1 ∷ 2 ∷ 3 ∷ 4 ∷ 5 ∷ 6 ∷ 7 ∷ 8 ∷ []) ≡ written_after (Err BufferShort) (1 ∷ 2 ∷ 3 ∷ 4 ∷ 5 ∷ 6 ∷ 7 ∷ 8 ∷ []))
unfolding writes ab bad end_3 update_8 write put_frame is_writable bytes_of header
written = (refl, refl, refl, refl, refl, refl, refl, refl, refl)

-- a frame that names Notes is 42 behind 25 and behind 43 for the payload's length, and ahead of 43 for s or for units
notes : (writes (Update Notes 8) [] update_8 ≡ written_after (Err NotFramed) update_8)
    × (writes (Data Notes 3 true) (97 ∷ 98 ∷ 99 ∷ []) bad ≡ written_after (Err NotFramed) bad)
    × (writes (Reset Notes) [] update_8 ≡ written_after (Err NotFramed) update_8)
    × (writes (Data Notes 2 false) (97 ∷ []) (1 ∷ 2 ∷ 3 ∷ []) ≡ written_after (Err BufferShort) (1 ∷ 2 ∷ 3 ∷ []))
    × (writes (Data Notes 2 false) (97 ∷ []) bad ≡ written_after (Err BadFrame) bad)
    × (writes (Update Notes 2147483648) [] update_8 ≡ written_after (Err NotFramed) update_8)
    × (write 0 (Reset Notes) [] update_8 ≡ written_after (Err NotFramed) update_8)
    × (lay 1 (Data Notes 0 true) end_3 ≡ written_after (Err NotFramed) end_3)
unfolding writes bad end_3 update_8 write put_frame is_writable
notes = (refl, refl, refl, refl, refl, refl, refl, refl)

-- ---- reading, for s = 5: stdout and input on 5, stderr on 7

reads : List ℕ → Result Frame Refusal
unfolding read is_whole on_stream stream_of number31_at number_at be32_at be24_at kinded data_in of_four
reads b = read 5 b

-- a frame of n bytes, below 256, its first nine with a type, flags, and the stream's first and last byte
framed : (n kind flags high id : ℕ) → List ℕ → List ℕ
framed n kind flags high id payload = 0 ∷ 0 ∷ n ∷ kind ∷ flags ∷ high ∷ 0 ∷ 0 ∷ id ∷ payload

-- the length is that of what stands behind the first nine bytes, all of it: none, eight bytes, one too few, one too many; a length of 65,536
-- and one of 256 where none follow
lengths : (reads [] ≡ Err BadFrame)
    × (reads (0 ∷ 0 ∷ 0 ∷ 0 ∷ 0 ∷ 0 ∷ 0 ∷ 0 ∷ []) ≡ Err BadFrame)
    × (reads (0 ∷ 0 ∷ 2 ∷ []) ≡ Err BadFrame)
    × (reads (0 ∷ 0 ∷ []) ≡ Err BadFrame)
    × (reads (framed 2 0 0 0 5 (97 ∷ [])) ≡ Err BadFrame)
    × (reads (framed 2 0 0 0 5 (97 ∷ 98 ∷ 99 ∷ [])) ≡ Err BadFrame)
    × (reads (framed 0 0 0 0 5 (97 ∷ [])) ≡ Err BadFrame)
    × (reads (1 ∷ 0 ∷ 0 ∷ 0 ∷ 0 ∷ 0 ∷ 0 ∷ 0 ∷ 5 ∷ []) ≡ Err BadFrame)
    × (reads (0 ∷ 1 ∷ 0 ∷ 0 ∷ 0 ∷ 0 ∷ 0 ∷ 0 ∷ 5 ∷ []) ≡ Err BadFrame)
    × (reads (framed 2 0 0 0 5 (97 ∷ 98 ∷ [])) ≡ Ok (Data Stdout 2 false))
    × (reads (framed 0 0 0 0 5 []) ≡ Ok (Data Stdout 0 false))
unfolding reads framed
lengths = (refl, refl, refl, refl, refl, refl, refl, refl, refl, refl, refl)

-- the types 0, 3 and 8 alone are read; 3 and 8 have four bytes
types : (reads (framed 4 1 0 0 5 (0 ∷ 0 ∷ 0 ∷ 8 ∷ [])) ≡ Err BadFrame)
    × (reads (framed 4 2 0 0 5 (0 ∷ 0 ∷ 0 ∷ 8 ∷ [])) ≡ Err BadFrame)
    × (reads (framed 4 4 0 0 5 (0 ∷ 0 ∷ 0 ∷ 8 ∷ [])) ≡ Err BadFrame)
    × (reads (framed 4 7 0 0 5 (0 ∷ 0 ∷ 0 ∷ 8 ∷ [])) ≡ Err BadFrame)
    × (reads (framed 4 9 0 0 5 (0 ∷ 0 ∷ 0 ∷ 8 ∷ [])) ≡ Err BadFrame)
    × (reads (framed 4 8 0 0 5 (0 ∷ 0 ∷ 0 ∷ 8 ∷ [])) ≡ Ok (Update Stdout 8))
    × (reads (framed 4 8 0 0 7 (1 ∷ 2 ∷ 3 ∷ 4 ∷ [])) ≡ Ok (Update Stderr 16909060))
    × (reads (framed 3 8 0 0 5 (0 ∷ 0 ∷ 8 ∷ [])) ≡ Err BadFrame)
    × (reads (framed 5 8 0 0 5 (0 ∷ 0 ∷ 0 ∷ 8 ∷ 0 ∷ [])) ≡ Err BadFrame)
    × (reads (framed 0 8 0 0 5 []) ≡ Err BadFrame)
    × (reads (framed 4 3 0 0 5 (0 ∷ 0 ∷ 0 ∷ 8 ∷ [])) ≡ Ok (Reset Stdout))
    × (reads (framed 4 3 0 0 7 (0 ∷ 0 ∷ 0 ∷ 8 ∷ [])) ≡ Ok (Reset Stderr))
    × (reads (framed 3 3 0 0 5 (0 ∷ 0 ∷ 8 ∷ [])) ≡ Err BadFrame)
    × (reads (framed 5 3 0 0 5 (0 ∷ 0 ∷ 0 ∷ 8 ∷ 0 ∷ [])) ≡ Err BadFrame)
unfolding reads framed
types = (refl, refl, refl, refl, refl, refl, refl, refl, refl, refl, refl, refl, refl, refl)

-- streams s and s + 2 alone: 43 on 0, s - 1, s + 1, s + 3, and where the first byte of the number is another
streams : (reads (framed 0 0 1 0 0 []) ≡ Err BadFrame)
    × (reads (framed 0 0 1 0 4 []) ≡ Err BadFrame)
    × (reads (framed 0 0 1 0 5 []) ≡ Ok (Data Stdout 0 true))
    × (reads (framed 0 0 1 0 6 []) ≡ Err BadFrame)
    × (reads (framed 0 0 1 0 7 []) ≡ Ok (Data Stderr 0 true))
    × (reads (framed 0 0 1 0 8 []) ≡ Err BadFrame)
    × (reads (framed 0 0 1 1 5 []) ≡ Err BadFrame)
    × (reads (framed 0 0 1 64 7 []) ≡ Err BadFrame)
    × (reads (framed 4 8 0 0 0 (0 ∷ 0 ∷ 0 ∷ 8 ∷ [])) ≡ Err BadFrame)
    × (reads (framed 4 3 0 0 6 (0 ∷ 0 ∷ 0 ∷ 8 ∷ [])) ≡ Err BadFrame)
    × (read 2147483645 (0 ∷ 0 ∷ 0 ∷ 0 ∷ 1 ∷ 127 ∷ 255 ∷ 255 ∷ 253 ∷ []) ≡ Ok (Data Stdout 0 true))
    × (read 2147483645 (0 ∷ 0 ∷ 0 ∷ 0 ∷ 1 ∷ 127 ∷ 255 ∷ 255 ∷ 255 ∷ []) ≡ Ok (Data Stderr 0 true))
unfolding reads framed read is_whole on_stream stream_of number31_at number_at be32_at be24_at kinded data_in of_four
streams = (refl, refl, refl, refl, refl, refl, refl, refl, refl, refl, refl, refl)

-- padded DATA is 44 on s, with END_STREAM and without; on s + 2 it is 43, and so it is where length, type or stream are wrong
paddings : (reads (framed 1 0 8 0 5 (0 ∷ [])) ≡ Err PaddedFrame)
    × (reads (framed 1 0 9 0 5 (0 ∷ [])) ≡ Err PaddedFrame)
    × (reads (framed 0 0 8 0 5 []) ≡ Err PaddedFrame)
    × (reads (framed 1 0 255 128 5 (0 ∷ [])) ≡ Err PaddedFrame)
    × (reads (framed 1 0 8 0 7 (0 ∷ [])) ≡ Err BadFrame)
    × (reads (framed 2 0 8 0 5 (0 ∷ [])) ≡ Err BadFrame)
    × (reads (framed 1 1 8 0 5 (0 ∷ [])) ≡ Err BadFrame)
    × (reads (framed 1 0 8 0 6 (0 ∷ [])) ≡ Err BadFrame)
unfolding reads framed
paddings = (refl, refl, refl, refl, refl, refl, refl, refl)

-- what is ignored: of DATA every flag but 1 and 8 (246 and 247 are all the others, without END_STREAM and with it), of the other two every
-- flag, the bit before the stream, the bit before the units, and the code of RST_STREAM; units of 0 are read
ignored : (reads (framed 1 0 246 0 5 (97 ∷ [])) ≡ Ok (Data Stdout 1 false))
    × (reads (framed 1 0 247 0 5 (97 ∷ [])) ≡ Ok (Data Stdout 1 true))
    × (reads (framed 1 0 2 0 7 (97 ∷ [])) ≡ Ok (Data Stderr 1 false))
    × (reads (framed 4 8 255 0 5 (0 ∷ 0 ∷ 0 ∷ 8 ∷ [])) ≡ Ok (Update Stdout 8))
    × (reads (framed 4 3 255 0 5 (0 ∷ 0 ∷ 0 ∷ 8 ∷ [])) ≡ Ok (Reset Stdout))
    × (reads (framed 1 0 0 128 5 (97 ∷ [])) ≡ Ok (Data Stdout 1 false))
    × (reads (framed 4 8 0 128 7 (128 ∷ 0 ∷ 0 ∷ 8 ∷ [])) ≡ Ok (Update Stderr 8))
    × (reads (framed 4 8 0 0 5 (255 ∷ 255 ∷ 255 ∷ 255 ∷ [])) ≡ Ok (Update Stdout 2147483647))
    × (reads (framed 4 8 0 0 5 (0 ∷ 0 ∷ 0 ∷ 0 ∷ [])) ≡ Ok (Update Stdout 0))
    × (reads (framed 4 8 0 0 5 (128 ∷ 0 ∷ 0 ∷ 0 ∷ [])) ≡ Ok (Update Stdout 0))
    × (reads (framed 4 3 0 128 7 (0 ∷ 0 ∷ 0 ∷ 0 ∷ [])) ≡ Ok (Reset Stderr))
    × (reads (framed 4 3 0 0 5 (255 ∷ 255 ∷ 255 ∷ 255 ∷ [])) ≡ Ok (Reset Stdout))
unfolding reads framed
ignored = (refl, refl, refl, refl, refl, refl, refl, refl, refl, refl, refl, refl)

-- ---- and of any bytes

at_least : (b : Bool) (x : Result Frame Refusal) → x ≡ Err BadFrame → cond b x (Err BadFrame) ≡ Err BadFrame
at_least true x h = h
at_least false x h = refl

-- "a frame of wrong length"
pub other_length : (s : ℕ) (b : List ℕ) → (length b ≡ 9 + be24_at b 0 → ⊥) → read s b ≡ Err BadFrame
unfolding read is_whole
other_length s b h = rw (ne_eqb (length b) (9 + be24_at b 0) h) refl

-- "stream": every other, 0 among them
pub other_stream : (s : ℕ) (b : List ℕ) → (number31_at b 5 ≡ s → ⊥) → (number31_at b 5 ≡ s + 2 → ⊥) → read s b ≡ Err BadFrame
unfolding read stream_of on_stream
other_stream s b h k = at_least (is_whole b) _ (rw (ne_eqb (number31_at b 5) s h, ne_eqb (number31_at b 5) (s + 2) k) (none (is_stream s)))
  where
    none : (t : Bool) → on_stream b (cond t None None) ≡ Err BadFrame
    none true = refl
    none false = refl

-- and every one where s is no stream
pub no_stream : (s : ℕ) (b : List ℕ) → is_stream s ≡ false → read s b ≡ Err BadFrame
unfolding read stream_of on_stream
no_stream s b h = at_least (is_whole b) _ (rw h refl)

on_any : (b : List ℕ) → ((x : Stream) → kinded b x ≡ Err BadFrame) → (o : Option Stream) → on_stream b o ≡ Err BadFrame
unfolding on_stream
on_any b h (Some x) = h x
on_any b h None = refl

-- "type": every other
pub other_type : (s : ℕ) (b : List ℕ) → (get_or b 3 0 ≡ 0 → ⊥) → (get_or b 3 0 ≡ 3 → ⊥) → (get_or b 3 0 ≡ 8 → ⊥) → read s b ≡ Err BadFrame
unfolding read kinded
other_type s b h k l =
    at_least (is_whole b) _ (on_any b (λ x. rw (ne_eqb (get_or b 3 0) 0 h, ne_eqb (get_or b 3 0) 3 k, ne_eqb (get_or b 3 0) 8 l) refl) (stream_of s (number31_at b 5)))

-- and a type but DATA with other than four bytes
pub other_four : (s : ℕ) (b : List ℕ) → (get_or b 3 0 ≡ 0 → ⊥) → (be24_at b 0 ≡ 4 → ⊥) → read s b ≡ Err BadFrame
unfolding read kinded of_four
other_four s b h k =
    let four = ne_eqb (be24_at b 0) 4 k in
    at_least (is_whole b) _ (on_any b (λ x. rw (ne_eqb (get_or b 3 0) 0 h, four) (same (eqb (get_or b 3 0) 3) (eqb (get_or b 3 0) 8))) (stream_of s (number31_at b 5)))
  where
    same : (t u : Bool) → cond {A = Result Frame Refusal} t (Err BadFrame) (cond u (Err BadFrame) (Err BadFrame)) ≡ Err BadFrame
    same true u = refl
    same false true = refl
    same false false = refl

-- "a padded DATA", on s, whatever else its flags are
pub padding : (s : ℕ) (b : List ℕ) → is_stream s ≡ true → length b ≡ 9 + be24_at b 0 → number31_at b 5 ≡ s → get_or b 3 0 ≡ 0 → is_set 8 (get_or b 4 0) ≡ true
    → read s b ≡ Err PaddedFrame
unfolding read is_whole stream_of on_stream kinded data_in
padding s b h l id k p = rw (h, eq-eqb (length b) (9 + be24_at b 0) l, eq-eqb (number31_at b 5) s id, k, p) refl
