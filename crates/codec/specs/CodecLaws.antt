-- What bytes hold that are a record's, and that they are those written for it; the answers of `write`, and what `lay` leaves.
use Rattle.std.specs.Prelude.{◌≡◌, refl, Bool, true, false, cond, ℕ, ◌+◌, ◌-◌, ◌≤◌, ◌<◌, eqb, leb, length, take, drop, get_or, Some, None, Result, Ok, Err}
use Rattle.std.specs.List.{copy_within}
use Rattle.std.specs.Option.{option_eq}
use Rattle.std.proofs.Common.{sym, ◌∙◌, arith, drop-cons}
use Rattle.std.proofs.Math.Path.{ap}
use mathlib.Core.List.{List, ◌∷◌, ◌++◌, append_assoc}
use Rattle.std.proofs.Math.Seq.{take_all}
use borrow.Author.Tests.{eq-eqb, ne_eqb, le-leb, lt-leb, eqb-true}
use Rattle.std.proofs.Math.Decide.{dec_lt}
use Rattle.exec.specs.declared.Refusal.{Refusal}
use Rattle.exec.specs.declared.Refusal.TheVariants.{BadLength, BufferShort}
use Rattle.ring.specs.Runs.{copied}
use Rattle.ring.specs.Lent.{copied_drop}
use Rattle.codec.specs.declared.Record.{Record}
use Rattle.codec.specs.declared.Record.TheVariants.{Adjust, Data, Extended, Notes, Eof, Close}
use Rattle.octets.specs.Bytes.{be32, be32_at, number_at, number_within}
use Rattle.octets.specs.BytesLaws.{number_fits, within_some, within_none, peel}
use Rattle.exec.specs.Written.{written_after}
use Rattle.codec.specs.Codec.{stderr_type, notes_type, header, start, size, Fits, bytes_of, extended, kinded, numbered, spelled, is_typed, fitting, checked, write, laid_record, lay}

pub header_length : (channel : ℕ) (rec : Record) → length (header channel rec) ≡ start rec
unfolding header
header_length channel (Adjust units) = refl
header_length channel (Data n) = refl
header_length channel (Extended n) = refl
header_length channel (Notes n) = refl
header_length channel Eof = refl
header_length channel Close = refl

-- ---- reading

-- the record's kind, and its number where its kind has one
abbrev pub IsKind : (kind : ℕ) → List ℕ → Record → Type 0
IsKind kind s (Adjust units) = (kind ≡ 93) × (number_at s 5 ≡ units)
IsKind kind s (Data n) = (kind ≡ 94) × (number_at s 5 ≡ n)
IsKind kind s (Extended n) = (kind ≡ 95) × (number_at s 9 ≡ n)
IsKind kind s (Notes n) = (kind ≡ 95) × (number_at s 9 ≡ n)
IsKind kind s Eof = kind ≡ 96
IsKind kind s Close = kind ≡ 97

pub record Holds (channel : ℕ) (s : List ℕ) (rec : Record) : Type 0 where
  pub kind : IsKind (get_or s 0 0) s rec
  pub whole : length s ≡ start rec + size rec
  pub mine : number_at s 1 ≡ channel
  pub typed : is_typed rec s ≡ true

pub start_least : (rec : Record) → 5 ≤ start rec
start_least (Adjust units) = omega arith
start_least (Data n) = omega arith
start_least (Extended n) = omega arith
start_least (Notes n) = omega arith
start_least Eof = omega arith
start_least Close = omega arith

-- and at most at byte 13
pub start_most : (rec : Record) → start rec ≤ 13
start_most (Adjust units) = omega arith
start_most (Data n) = omega arith
start_most (Extended n) = omega arith
start_most (Notes n) = omega arith
start_most Eof = omega arith
start_most Close = omega arith

-- a number that the bytes do not hold is refused as they would be with 0 in its place
number_checked : (channel : ℕ) (s : List ℕ) (at : ℕ) (rec : ℕ → Record) → ((n : ℕ) → at + 4 ≤ start (rec n) + size (rec n))
    → checked channel s (numbered rec (number_within s at)) ≡ checked channel s (Ok (rec (number_at s at)))
unfolding checked fitting
number_checked channel s at rec most =
    let n = number_at s at in
    elim (dec_lt (length s) (at + 4)) [
      | yes l ↦ rw (within_none s at l, ne_eqb (length s) (start (rec n) + size (rec n)) (λ e. omega (arith, most n))) refl
      | no l ↦ rw (within_some s at (omega arith)) refl
    ]

either : (channel : ℕ) (s : List ℕ) (b : Bool) (x y v w : Result Record Refusal) → checked channel s x ≡ checked channel s v
    → checked channel s y ≡ checked channel s w → checked channel s (cond b x y) ≡ checked channel s (cond b v w)
either channel s true x y v w e f = e
either channel s false x y v w e f = f

-- extended data has its number in its first 13 bytes, whichever its type
extended_least : (t n : ℕ) → 13 ≤ start (extended t n) + size (extended t n)
extended_least t n = each (eqb t notes_type) _ _ (omega arith) (omega arith)
  where
    each : (b : Bool) (x y : Record) → 13 ≤ start x + size x → 13 ≤ start y + size y → 13 ≤ start (cond b x y) + size (cond b x y)
    each true x y h k = h
    each false x y h k = k

pub checked_spelled : (channel k : ℕ) (s : List ℕ) → checked channel s (spelled k s) ≡ checked channel s (kinded k s)
unfolding spelled kinded
checked_spelled channel k s =
    either channel s (eqb k 93) _ _ _ _ (number_checked channel s 5 Adjust (λ n. omega arith))
    (either channel s (eqb k 94) _ _ _ _ (number_checked channel s 5 Data (λ n. omega arith))
    (either channel s (eqb k 95) _ _ _ _ (number_checked channel s 9 (extended (number_at s 5)) (λ n. extended_least (number_at s 5) n)) refl))

pub spelled_err : (channel k : ℕ) (s : List ℕ) (x : Refusal) → spelled k s ≡ Err x → Err x ≡ checked channel s (kinded k s)
unfolding checked
spelled_err channel k s x h = sym (ap (checked channel s) h) ∙ checked_spelled channel k s

pub spelled_ok : (channel k : ℕ) (s : List ℕ) (rec : Record) → spelled k s ≡ Ok rec → fitting channel s rec ≡ checked channel s (kinded k s)
unfolding checked
spelled_ok channel k s rec h = sym (ap (checked channel s) h) ∙ checked_spelled channel k s

-- a number that the bytes hold, compared
pub number_is : (s : List ℕ) (at n : ℕ) → at + 4 ≤ length s → option_eq eqb (number_within s at) (Some n) ≡ eqb (number_at s at) n
number_is s at n h = rw (within_some s at h) refl

-- the type of Notes, compared in any bytes: a number that they do not hold is read as 0
pub type_is : (s : List ℕ) → option_eq eqb (number_within s 5) (Some notes_type) ≡ eqb (number_at s 5) notes_type
unfolding number_within number_at
type_is s = by (leb 9 (length s))
  where
    by : (b : Bool) → option_eq eqb (cond b (Some (be32_at s 5)) None) (Some notes_type) ≡ eqb (cond b (be32_at s 5) 0) notes_type
    by true = refl
    by false = refl

-- ---- bytes that hold a record are those that are written for it

module _ (channel : ℕ) (s : List ℕ) (bytes : (i : ℕ) → get_or s i 0 < 256) where
  front : (k : ℕ) → get_or s 0 0 ≡ k → number_at s 1 ≡ channel → 5 ≤ length s → k ∷ (be32 channel ++ drop 5 s) ≡ s
  front k e mine h =
      ap (λ (t : List ℕ). k ∷ t) (sym (peel s bytes 1 channel h mine))
      ∙ ap (λ (x : ℕ). x ∷ drop 1 s) (sym e)
      ∙ sym (drop-cons s 0 0 (omega arith))

  -- extended data of a type, from its three numbers
  typed_again : (t n : ℕ) → get_or s 0 0 ≡ 95 → number_at s 1 ≡ channel → number_at s 5 ≡ t → number_at s 9 ≡ n → 13 ≤ length s
      → 95 ∷ (be32 channel ++ (be32 t ++ (be32 n ++ drop 13 s))) ≡ s
  typed_again t n kind mine typed sized h =
      ap (λ (x : List ℕ). 95 ∷ (be32 channel ++ (be32 t ++ x))) (sym (peel s bytes 9 n h sized))
      ∙ ap (λ (x : List ℕ). 95 ∷ (be32 channel ++ x)) (sym (peel s bytes 5 t (omega arith) typed))
      ∙ front 95 kind mine (omega arith)

  pub written_again : (rec : Record) → Holds channel s rec → bytes_of channel rec (drop (start rec) s) ≡ s
  unfolding bytes_of header
  written_again (Adjust units) h =
      ap (λ (t : List ℕ). 93 ∷ (be32 channel ++ t)) (sym (peel s bytes 5 units (omega arith) h.kind.1))
      ∙ front 93 h.kind.0 h.mine (omega arith)
  written_again (Data n) h =
      ap (λ (t : List ℕ). 94 ∷ (be32 channel ++ t)) (sym (peel s bytes 5 n (omega arith) h.kind.1))
      ∙ front 94 h.kind.0 h.mine (omega arith)
  written_again (Extended n) h = typed_again stderr_type n h.kind.0 h.mine (eqb-true _ stderr_type h.typed) h.kind.1 (omega (arith, h.whole))
  written_again (Notes n) h = typed_again notes_type n h.kind.0 h.mine (eqb-true _ notes_type h.typed) h.kind.1 (omega (arith, h.whole))
  written_again Eof h = front 96 h.kind h.mine (omega arith)
  written_again Close h = front 97 h.kind h.mine (omega arith)

  pub held_fits : (rec : Record) → Holds channel s rec → Fits rec
  held_fits (Adjust units) h = omega (arith, number_fits s bytes 5)
  held_fits (Data n) h = omega (arith, number_fits s bytes 5)
  held_fits (Extended n) h = omega (arith, number_fits s bytes 9)
  held_fits (Notes n) h = omega (arith, number_fits s bytes 9)
  held_fits Eof h = omega arith
  held_fits Close h = omega arith

-- ---- writing

-- the header laid before n bytes that were copied to where the payload begins
pub header_laid : (channel : ℕ) (rec : Record) (b src : List ℕ) (from n : ℕ) → start rec ≤ length b
    → header channel rec ++ drop (start rec) (copied b (start rec) src from n)
    ≡ bytes_of channel rec (take n (drop from src)) ++ drop (start rec + n) b
unfolding bytes_of
header_laid channel rec b src from n h =
    ap (λ (x : List ℕ). header channel rec ++ x) (copied_drop b (start rec) src from n h)
    ∙ sym (append_assoc (header channel rec) (take n (drop from src)) (drop (start rec + n) b))

-- and before a payload that was moved to it from byte 13
pub header_moved : (channel : ℕ) (rec : Record) (b : List ℕ) (to : ℕ) → to ≡ 13 + size rec → to ≤ length b
    → header channel rec ++ drop (start rec) (copy_within b 13 to (start rec)) ≡ laid_record channel rec b
unfolding laid_record copied
header_moved channel rec b to e h =
    let n : to - 13 ≡ size rec = omega arith in
    rw n (header_laid channel rec b b 13 (size rec) (omega (arith, start_most rec)))

-- the three answers
module _ (channel : ℕ) (rec : Record) (payload b : List ℕ) where
  pub write_short : length b < start rec + size rec → write channel rec payload b ≡ written_after (Err BufferShort) b
  unfolding write
  write_short h = simp (lt-leb (start rec + size rec) (length b) h)

  pub write_other : start rec + size rec ≤ length b → (length payload ≡ size rec → ⊥)
      → write channel rec payload b ≡ written_after (Err BadLength) b
  unfolding write
  write_other h n = simp (le-leb (start rec + size rec) (length b) h, ne_eqb (length payload) (size rec) n)

  pub write_all : start rec + size rec ≤ length b → length payload ≡ size rec
      → write channel rec payload b
      ≡ written_after (Ok (start rec + size rec)) (header channel rec ++ drop (start rec) (copied b (start rec) payload 0 (size rec)))
  unfolding write
  write_all h e =
      simp (
        le-leb (start rec + size rec) (length b) h,
        eq-eqb (length payload) (size rec) e,
        header_laid channel rec b payload 0 (size rec) (omega arith),
        take_all (size rec) payload (omega arith),
      )

-- a record is laid where its payload is there
module _ (channel : ℕ) (rec : Record) (b : List ℕ) where
  pub lay_roomy : 13 + size rec ≤ length b → lay channel rec b ≡ written_after (Ok (start rec + size rec)) (laid_record channel rec b)
  unfolding lay
  lay_roomy h = simp (le-leb (13 + size rec) (length b) h)

  pub lay_short : length b < 13 + size rec → lay channel rec b ≡ written_after (Err BufferShort) b
  unfolding lay
  lay_short h = simp (lt-leb (13 + size rec) (length b) h)
