-- Which kinds and which types are read, and what `lay` leaves on each side of its bound, computed from the definitions; the records' own
-- bytes are edges (11) and (12) in the crate channel.
use Rattle.std.specs.Prelude.{◌≡◌, refl, List, [], ◌∷◌, ◌++◌, ℕ, ◌<◌, length, Ok, Err}
use Rattle.std.proofs.Common.{arith, ne_eqb}
use Rattle.exec.specs.declared.Refusal.TheVariants.{BadLength, UnknownKind, OtherChannel, BadType, BufferShort}
use Rattle.exec.specs.Refusal.{number}
use Rattle.codec.specs.declared.Record.TheVariants.{Data, Extended, Notes, Eof, Close}
use Rattle.exec.specs.Written.{written_after}
use Rattle.octets.specs.Bytes.{be32_at, number_at}
use Rattle.codec.specs.Codec.{header, bytes_of, kinded, fitting, checked, read, write, laid_record, lay}

-- twelve bytes
abbrev twelve : List ℕ
twelve = 1 ∷ 2 ∷ 3 ∷ 4 ∷ 5 ∷ 6 ∷ 7 ∷ 8 ∷ 9 ∷ 10 ∷ 11 ∷ 12 ∷ []

-- a record without a payload is laid in thirteen bytes, and twelve are left
eof : (lay 5 Eof twelve ≡ written_after (Err BufferShort) twelve)
    × (lay 5 Eof (twelve ++ (13 ∷ [])) ≡ written_after (Ok 5) (96 ∷ 0 ∷ 0 ∷ 0 ∷ 5 ∷ 6 ∷ 7 ∷ 8 ∷ 9 ∷ 10 ∷ 11 ∷ 12 ∷ 13 ∷ []))
unfolding lay laid_record bytes_of header
eof = (refl, refl)

-- a payload "ab" from byte 13 on is brought to byte 9; where its second byte is not there, nothing is
data_ab : (lay 5 (Data 2) (twelve ++ (13 ∷ 97 ∷ [])) ≡ written_after (Err BufferShort) (twelve ++ (13 ∷ 97 ∷ [])))
    × (lay 5 (Data 2) (twelve ++ (13 ∷ 97 ∷ 98 ∷ [])) ≡ written_after (Ok 11) (94 ∷ 0 ∷ 0 ∷ 0 ∷ 5 ∷ 0 ∷ 0 ∷ 0 ∷ 2 ∷ 97 ∷ 98 ∷ 12 ∷ 13 ∷ 97 ∷ 98 ∷ []))
unfolding lay laid_record bytes_of header
data_ab = (refl, refl)

-- "kind not 93 to 97": every other kind is 21, whatever stands behind it, 92 and 98 among them
pub kind_over : (channel k : ℕ) (s : List ℕ) → 97 < k → read channel (k ∷ s) ≡ Err UnknownKind
unfolding read checked kinded
kind_over channel k s h =
    simp (
      ne_eqb (length (k ∷ s)) 0 (omega arith),
      ne_eqb k 93 (omega arith),
      ne_eqb k 94 (omega arith),
      ne_eqb k 95 (omega arith),
      ne_eqb k 96 (omega arith),
      ne_eqb k 97 (omega arith),
    )

pub kind_under : (channel k : ℕ) (s : List ℕ) → k < 93 → read channel (k ∷ s) ≡ Err UnknownKind
unfolding read checked kinded
kind_under channel k s h =
    simp (
      ne_eqb (length (k ∷ s)) 0 (omega arith),
      ne_eqb k 93 (omega arith),
      ne_eqb k 94 (omega arith),
      ne_eqb k 95 (omega arith),
      ne_eqb k 96 (omega arith),
      ne_eqb k 97 (omega arith),
    )

-- the bytes of the other three kinds, for channel 5: EXTENDED_DATA of type 1 with "a", EOF, CLOSE
others : (bytes_of 5 (Extended 1) (97 ∷ []) ≡ 95 ∷ 0 ∷ 0 ∷ 0 ∷ 5 ∷ 0 ∷ 0 ∷ 0 ∷ 1 ∷ 0 ∷ 0 ∷ 0 ∷ 1 ∷ 97 ∷ [])
    × (bytes_of 5 Eof [] ≡ 96 ∷ 0 ∷ 0 ∷ 0 ∷ 5 ∷ [])
    × (bytes_of 5 Close [] ≡ 97 ∷ 0 ∷ 0 ∷ 0 ∷ 5 ∷ [])
    × (number UnknownKind ≡ 21)
unfolding bytes_of header
others = (refl, refl, refl, refl)

-- ---- the types of extended data

-- extended data that says two bytes, of the type that has these four, for channel 5
typed : (a b c d : ℕ) → List ℕ → List ℕ
typed a b c d payload = 95 ∷ 0 ∷ 0 ∷ 0 ∷ 5 ∷ a ∷ b ∷ c ∷ d ∷ 0 ∷ 0 ∷ 0 ∷ 2 ∷ payload

-- "kn" for Notes, of type fe000000: written, laid, and read back
notes_kn : (write 5 (Notes 2) (107 ∷ 110 ∷ []) (twelve ++ (13 ∷ 14 ∷ 15 ∷ 16 ∷ [])) ≡ written_after (Ok 15) (typed 254 0 0 0 (107 ∷ 110 ∷ 16 ∷ [])))
    × (lay 5 (Notes 2) (twelve ++ (13 ∷ 107 ∷ 110 ∷ 16 ∷ [])) ≡ written_after (Ok 15) (typed 254 0 0 0 (107 ∷ 110 ∷ 16 ∷ [])))
    × (read 5 (typed 254 0 0 0 (107 ∷ 110 ∷ [])) ≡ Ok (Notes 2))
unfolding typed write lay laid_record bytes_of header read checked kinded fitting number_at be32_at
notes_kn = (refl, refl, refl)

-- 1 is stderr's, and every other is 23: 0, 2, 254, fdffffff, fe000001, ff000000
types : (read 5 (typed 0 0 0 1 (107 ∷ 110 ∷ [])) ≡ Ok (Extended 2))
    × (read 5 (typed 0 0 0 0 (107 ∷ 110 ∷ [])) ≡ Err BadType)
    × (read 5 (typed 0 0 0 2 (107 ∷ 110 ∷ [])) ≡ Err BadType)
    × (read 5 (typed 0 0 0 254 (107 ∷ 110 ∷ [])) ≡ Err BadType)
    × (read 5 (typed 253 255 255 255 (107 ∷ 110 ∷ [])) ≡ Err BadType)
    × (read 5 (typed 254 0 0 1 (107 ∷ 110 ∷ [])) ≡ Err BadType)
    × (read 5 (typed 255 0 0 0 (107 ∷ 110 ∷ [])) ≡ Err BadType)
    × (number BadType ≡ 23)
unfolding typed read checked kinded fitting number_at be32_at
types = (refl, refl, refl, refl, refl, refl, refl, refl)

-- of each type a wrong length is 20, with another channel too, and another channel is 22
before_types : (read 5 (typed 0 0 0 1 (107 ∷ [])) ≡ Err BadLength)
    × (read 5 (typed 254 0 0 0 (107 ∷ [])) ≡ Err BadLength)
    × (read 5 (typed 254 0 0 0 (107 ∷ 110 ∷ 10 ∷ [])) ≡ Err BadLength)
    × (read 5 (typed 254 0 0 1 (107 ∷ [])) ≡ Err BadLength)
    × (read 6 (typed 254 0 0 0 (107 ∷ [])) ≡ Err BadLength)
    × (read 5 (95 ∷ 0 ∷ 0 ∷ 0 ∷ 5 ∷ 254 ∷ 0 ∷ 0 ∷ 0 ∷ []) ≡ Err BadLength)
    × (read 6 (typed 0 0 0 1 (107 ∷ 110 ∷ [])) ≡ Err OtherChannel)
    × (read 6 (typed 254 0 0 0 (107 ∷ 110 ∷ [])) ≡ Err OtherChannel)
    × (read 6 (typed 254 0 0 1 (107 ∷ 110 ∷ [])) ≡ Err OtherChannel)
    × (number BadLength ≡ 20)
    × (number OtherChannel ≡ 22)
unfolding typed read checked kinded fitting number_at be32_at
before_types = (refl, refl, refl, refl, refl, refl, refl, refl, refl, refl, refl)
