-- What is written holds the record, and reads back as it; what is read as a record holds it, and is written back byte for byte.
use Rattle.std.specs.Prelude.{◌≡◌, List, [], ◌∷◌, ◌++◌, ℕ, ◌^◌, ◌≤◌, ◌<◌, length, take, drop, get_or, refl, Bool, true, false, cond, ◌+◌, eqb, Result, Ok, Err}
use Rattle.std.proofs.Common.{ap, ◌∙◌, arith, length-append, length-drop, subst}
use Rattle.codec.specs.declared.Record.{Record}
use Rattle.octets.specs.BytesLaws.{number_fits, number_written}
use Rattle.codec.specs.Codec.{stderr_type, notes_type, header, start, size, Fits, bytes_of, laid_record, read, extended, kinded, is_typed, fitting, checked}
use Rattle.codec.specs.CodecLaws.{header_length, start_least, IsKind, Holds, written_again, held_fits}
use Rattle.codec.specs.RoundTrip.{laid_front, payload_length}
use borrow.Author.Tests.{eq-eqb, ne_eqb, eqb-true}
use Rattle.exec.specs.declared.Refusal.{Refusal}
use Rattle.codec.specs.declared.Record.TheVariants.{Adjust, Data, Extended, Notes, Eof, Close}
use Rattle.octets.specs.Bytes.{be32, number_at}

-- ---- WRITTEN, THEN READ

kinded_of : (k : ℕ) (s : List ℕ) (rec : Record) → IsKind k s rec → is_typed rec s ≡ true → kinded k s ≡ Ok rec
unfolding kinded
kinded_of k s (Adjust units) h t = rw (h.0, h.1)
kinded_of k s (Data n) h t = rw (h.0, h.1)
kinded_of k s (Extended n) h t = rw (h.0, h.1, eqb-true _ stderr_type t)
kinded_of k s (Notes n) h t = rw (h.0, h.1, t)
kinded_of k s Eof h t = rw h
kinded_of k s Close h t = rw h

read_of : (channel : ℕ) (s : List ℕ) (rec : Record) → Holds channel s rec → read channel s ≡ Ok rec
unfolding read checked fitting
read_of channel s rec h =
    let some : eqb (length s) 0 ≡ false = ne_eqb (length s) 0 (omega (arith, start_least rec)) in
    simp (some, kinded_of (get_or s 0 0) s rec h.kind h.typed, eq-eqb _ _ h.whole, eq-eqb _ _ h.mine, h.typed)

written_length : (channel : ℕ) (rec : Record) (payload : List ℕ) → length payload ≡ size rec → length (bytes_of channel rec payload) ≡ start rec + size rec
unfolding bytes_of
written_length channel rec payload e = simp length-append (omega (arith, header_length channel rec))

-- the three numbers of extended data
typed_written : (channel t n : ℕ) (payload : List ℕ) → channel < 2 ^ 32 → t < 2 ^ 32 → n < 2 ^ 32
    → let s = 95 ∷ (be32 channel ++ (be32 t ++ (be32 n ++ payload))) in (number_at s 1 ≡ channel) × (number_at s 5 ≡ t) × (number_at s 9 ≡ n)
typed_written channel t n payload known typed sized = (
  number_written (95 ∷ []) (be32 t ++ (be32 n ++ payload)) channel known,
  number_written (95 ∷ be32 channel) (be32 n ++ payload) t typed,
  number_written (95 ∷ (be32 channel ++ be32 t)) payload n sized,
)

holds_written : (channel : ℕ) (rec : Record) (payload : List ℕ) → channel < 2 ^ 32 → Fits rec → length payload ≡ size rec
    → Holds channel (bytes_of channel rec payload) rec
unfolding bytes_of header
holds_written channel (Adjust units) payload known fits e = record {
  kind = (refl, number_written (93 ∷ be32 channel) payload units fits);
  whole = written_length channel (Adjust units) payload e;
  mine = number_written (93 ∷ []) (be32 units ++ payload) channel known;
  typed = refl;
}
holds_written channel (Data n) payload known fits e = record {
  kind = (refl, number_written (94 ∷ be32 channel) payload n fits);
  whole = written_length channel (Data n) payload e;
  mine = number_written (94 ∷ []) (be32 n ++ payload) channel known;
  typed = refl;
}
holds_written channel (Extended n) payload known fits e =
    let w = typed_written channel stderr_type n payload known (omega arith) fits in
    record { kind = (refl, w.2); whole = written_length channel (Extended n) payload e; mine = w.0; typed = eq-eqb _ stderr_type w.1 }
holds_written channel (Notes n) payload known fits e =
    let w = typed_written channel notes_type n payload known (omega arith) fits in
    record { kind = (refl, w.2); whole = written_length channel (Notes n) payload e; mine = w.0; typed = eq-eqb _ notes_type w.1 }
holds_written channel Eof payload known fits e = record {
  kind = refl;
  whole = written_length channel Eof payload e;
  mine = number_written (96 ∷ []) payload channel known;
  typed = refl;
}
holds_written channel Close payload known fits e = record {
  kind = refl;
  whole = written_length channel Close payload e;
  mine = number_written (97 ∷ []) payload channel known;
  typed = refl;
}

pub back : (channel : ℕ) (rec : Record) (payload : List ℕ) → channel < 2 ^ 32 → Fits rec → length payload ≡ size rec
    → read channel (bytes_of channel rec payload) ≡ Ok rec
back channel rec payload known fits e = read_of channel _ rec (holds_written channel rec payload known fits e)

-- so too of what was laid
pub laid_reads : (channel : ℕ) (rec : Record) (b : List ℕ) → 13 + size rec ≤ length b → channel < 2 ^ 32 → Fits rec
    → read channel (take (start rec + size rec) (laid_record channel rec b)) ≡ Ok rec
laid_reads channel rec b room known fits =
    ap (read channel) (laid_front channel rec b room)
    ∙ back channel rec (take (size rec) (drop 13 b)) known fits (payload_length channel rec b room)

-- ---- READ, THEN WRITTEN

-- a choice that came out as a record that was read: by the test, or by its failing
pick : (P : Type 0) (b : Bool) (x y : Result Record Refusal) (rec : Record) → (b ≡ true → x ≡ Ok rec → P) → (b ≡ false → y ≡ Ok rec → P)
    → cond b x y ≡ Ok rec → P
pick P true x y rec f g h = f refl h
pick P false x y rec f g h = g refl h

same : (r rec : Record) → ◌≡◌ {A = Result Record Refusal} (Ok r) (Ok rec) → r ≡ rec
same r rec h = cc

never : {P : Type 0} (x : Refusal) (rec : Record) → ◌≡◌ {A = Result Record Refusal} (Err x) (Ok rec) → P
never x rec h = let z : ◌≡◌ {A = ℕ} 0 1 = cc in absurd (omega arith)

-- extended data is of its kind, whichever its type
extended_is : (k : ℕ) (s : List ℕ) → k ≡ 95 → IsKind k s (extended (number_at s 5) (number_at s 9))
extended_is k s e = by (eqb (number_at s 5) notes_type)
  where
    by : (b : Bool) → IsKind k s (cond b (Notes (number_at s 9)) (Extended (number_at s 9)))
    by true = (e, refl)
    by false = (e, refl)

kinded_is : (k : ℕ) (s : List ℕ) (rec : Record) → kinded k s ≡ Ok rec → IsKind k s rec
unfolding kinded
kinded_is k s rec =
    let P = IsKind k s rec in
    let found : (r : Record) → IsKind k s r → ◌≡◌ {A = Result Record Refusal} (Ok r) (Ok rec) → P = λ r i h. subst (λ (x : Record). IsKind k s x) (same r rec h) i in
    pick P (eqb k 93) _ _ rec (λ b. found (Adjust (number_at s 5)) (eqb-true k 93 b, refl))
    (λ _. pick P (eqb k 94) _ _ rec (λ b. found (Data (number_at s 5)) (eqb-true k 94 b, refl))
    (λ _. pick P (eqb k 95) _ _ rec (λ b. found (extended (number_at s 5) (number_at s 9)) (extended_is k s (eqb-true k 95 b)))
    (λ _. pick P (eqb k 96) _ _ rec (λ b. found Eof (eqb-true k 96 b))
    (λ _. pick P (eqb k 97) _ _ rec (λ b. found Close (eqb-true k 97 b)) (λ _. never _ rec)))))

holds_fitting : (channel : ℕ) (s : List ℕ) (r rec : Record) → IsKind (get_or s 0 0) s r → fitting channel s r ≡ Ok rec → Holds channel s rec
unfolding fitting
holds_fitting channel s r rec k =
    let P = Holds channel s rec in
    pick P (eqb (length s) (start r + size r)) _ _ rec
    (λ l. pick P (eqb (number_at s 1) channel) _ _ rec
    (λ m. pick P (is_typed r s) _ _ rec
    (λ t h. subst (λ (x : Record). Holds channel s x) (same r rec h) (record { kind = k; whole = eqb-true _ _ l; mine = eqb-true _ _ m; typed = t }))
    (λ _. never _ rec))
    (λ _. never _ rec))
    (λ _. never _ rec)

holds_checked : (channel : ℕ) (s : List ℕ) (p : Result Record Refusal) (rec : Record) → kinded (get_or s 0 0) s ≡ p → checked channel s p ≡ Ok rec → Holds channel s rec
unfolding checked
holds_checked channel s (Ok r) rec e = holds_fitting channel s r rec (kinded_is (get_or s 0 0) s r e)
holds_checked channel s (Err x) rec e = never x rec

pub read_is : (channel : ℕ) (s : List ℕ) (rec : Record) → read channel s ≡ Ok rec → Holds channel s rec
unfolding read
read_is channel s rec =
    pick (Holds channel s rec) (eqb (length s) 0) _ _ rec (λ _. never _ rec)
    (λ _. holds_checked channel s (kinded (get_or s 0 0) s) rec refl)

-- and what was read meets what `back` asks
module _ (channel : ℕ) (s : List ℕ) (rec : Record) (bytes : (i : ℕ) → get_or s i 0 < 256) (accepted : read channel s ≡ Ok rec) where
  pub forth : bytes_of channel rec (drop (start rec) s) ≡ s
  forth = written_again channel s bytes rec (read_is channel s rec accepted)

  pub forth_channel : channel < 2 ^ 32
  forth_channel = omega (arith, number_fits s bytes 1, (read_is channel s rec accepted).mine)

  pub forth_fits : Fits rec
  forth_fits = held_fits channel s bytes rec (read_is channel s rec accepted)

  pub forth_size : length (drop (start rec) s) ≡ size rec
  forth_size = simp length-drop (omega (arith, (read_is channel s rec accepted).whole))
