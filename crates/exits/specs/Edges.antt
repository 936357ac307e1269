-- Document 02's A1 as literal bytes: what writer and reader share, no round trip pins. Every number and name stands here as 02 spells
-- it, and is computed from the definitions.
use Rattle.std.specs.Prelude.{◌&&◌, Bool, true, false, cond, ◌||◌, List, [], ◌∷◌, ◌++◌, ◌≡◌, refl, ℕ, zero, suc, ◌+◌, ◌*◌, ◌^◌, ◌≤◌, ◌<◌, eqb, pos, negsuc, length, take, Option, Result, Some, None, Ok, Err}
use Rattle.std.specs.Ordering.{int_eq}
use Rattle.std.proofs.lemmas.Bool.Decides.{Decides-int_eq, same_from_decides}
use Rattle.std.proofs.Common.{◌∙◌, ap, arith, eqb-true, eq-eqb, lt-ltb, le-ltb, ne_eqb}
use Rattle.std.proofs.lemmas.Bool.{lt-leb}
use Rattle.exec.specs.declared.Refusal.{Refusal}
use Rattle.exec.specs.declared.Refusal.TheVariants.{BadLength, UnknownKind, OtherChannel, BufferShort, UntoldStatus, BadRequest}
use Rattle.exec.specs.declared.Status.{Status}
use Rattle.exec.specs.declared.Status.TheVariants.{Exited, Signaled}
use Rattle.exec.specs.Refusal.{number}
use Rattle.ring.specs.Flags.{and_r}
use Rattle.octets.specs.Bytes.{be32_at, number_at}
use Rattle.octets.specs.Text.{bytes, same, same_is}
use Rattle.exec.specs.Written.{WrittenAfter, written_after}
use Rattle.codec.specs.Codec.{header, bytes_of}
use Rattle.exits.specs.Signals.{name_of, number_of}
use Rattle.exits.specs.SignalLaws.{named_any}
use Rattle.exits.specs.RoundTrip.{guess_told}
use Rattle.exits.specs.Exit.{request, is_told, is_untold, ending, closed, close, guess, matching, is_mine, read}

-- ---- the bytes

-- 98, channel 1, the 11 bytes 65 78 69 74 2d 73 74 61 74 75 73, a false byte, the code 0: as OpenSSH's server sends it
zero_on_1 : List ℕ
zero_on_1 = 98 ∷ 0 ∷ 0 ∷ 0 ∷ 1 ∷ 0 ∷ 0 ∷ 0 ∷ 11
    ∷ 101 ∷ 120 ∷ 105 ∷ 116 ∷ 45 ∷ 115 ∷ 116 ∷ 97 ∷ 116 ∷ 117 ∷ 115 ∷ 0 ∷ 0 ∷ 0 ∷ 0 ∷ 0 ∷ []

-- "exit-signal" on channel 5: INT, of three letters, and TERM, of four
int_on_5 : List ℕ
int_on_5 = 98 ∷ 0 ∷ 0 ∷ 0 ∷ 5 ∷ 0 ∷ 0 ∷ 0 ∷ 11
    ∷ 101 ∷ 120 ∷ 105 ∷ 116 ∷ 45 ∷ 115 ∷ 105 ∷ 103 ∷ 110 ∷ 97 ∷ 108 ∷ 0
    ∷ 0 ∷ 0 ∷ 0 ∷ 3 ∷ 73 ∷ 78 ∷ 84 ∷ 0 ∷ 0 ∷ 0 ∷ 0 ∷ 0 ∷ 0 ∷ 0 ∷ 0 ∷ 0 ∷ []

term_on_5 : List ℕ
term_on_5 = 98 ∷ 0 ∷ 0 ∷ 0 ∷ 5 ∷ 0 ∷ 0 ∷ 0 ∷ 11
    ∷ 101 ∷ 120 ∷ 105 ∷ 116 ∷ 45 ∷ 115 ∷ 105 ∷ 103 ∷ 110 ∷ 97 ∷ 108 ∷ 0
    ∷ 0 ∷ 0 ∷ 0 ∷ 4 ∷ 84 ∷ 69 ∷ 82 ∷ 77 ∷ 0 ∷ 0 ∷ 0 ∷ 0 ∷ 0 ∷ 0 ∷ 0 ∷ 0 ∷ 0 ∷ []

requests : (request 1 (Exited (pos 0)) ≡ zero_on_1)
    × (request 1 (Exited (pos 16909060)) ≡ take 21 zero_on_1 ++ (1 ∷ 2 ∷ 3 ∷ 4 ∷ []))
    × (request 5 (Signaled (pos 2)) ≡ int_on_5)
    × (request 5 (Signaled (pos 15)) ≡ term_on_5)
unfolding request bytes name_of zero_on_1 int_on_5 term_on_5
requests = (refl, refl, refl, refl)

-- CLOSE stands directly behind, and a missing status has no request
closing : (ending 5 (Some (Signaled (pos 2))) ≡ int_on_5 ++ (97 ∷ 0 ∷ 0 ∷ 0 ∷ 5 ∷ []))
    × (ending 5 None ≡ 97 ∷ 0 ∷ 0 ∷ 0 ∷ 5 ∷ [])
unfolding ending bytes_of header request bytes name_of int_on_5
closing = (refl, refl)

-- ---- the table: thirteen numbers with their names

named_so : ℕ → Option (List ℕ)
unfolding name_of bytes
named_so n = name_of (pos n)

table : (named_so 1 ≡ Some (bytes "HUP")) × (named_so 2 ≡ Some (bytes "INT")) × (named_so 3 ≡ Some (bytes "QUIT")) × (named_so 4 ≡ Some (bytes "ILL"))
    × (named_so 6 ≡ Some (bytes "ABRT")) × (named_so 8 ≡ Some (bytes "FPE")) × (named_so 9 ≡ Some (bytes "KILL")) × (named_so 10 ≡ Some (bytes "USR1"))
    × (named_so 11 ≡ Some (bytes "SEGV")) × (named_so 12 ≡ Some (bytes "USR2")) × (named_so 13 ≡ Some (bytes "PIPE")) × (named_so 14 ≡ Some (bytes "ALRM"))
    × (named_so 15 ≡ Some (bytes "TERM"))
unfolding named_so
table = (refl, refl, refl, refl, refl, refl, refl, refl, refl, refl, refl, refl, refl)

-- ---- how long an ending is: 5, 30, 42, 43

long : Option Status → ℕ
unfolding ending bytes_of header request bytes name_of
long status = length (ending 0 status)

after : ℕ → ℕ
unfolding long
after n = long (Some (Signaled (pos n)))

lengths : (long None ≡ 5) × ((code : ℕ) → long (Some (Exited (pos code))) ≡ 30)
    × (after 1 ≡ 42) × (after 2 ≡ 42) × (after 3 ≡ 43) × (after 4 ≡ 42) × (after 6 ≡ 43) × (after 8 ≡ 42) × (after 9 ≡ 43) × (after 10 ≡ 43)
    × (after 11 ≡ 43) × (after 12 ≡ 43) × (after 13 ≡ 43) × (after 14 ≡ 43) × (after 15 ≡ 43)
unfolding after
lengths = (refl, λ code. refl, refl, refl, refl, refl, refl, refl, refl, refl, refl, refl, refl, refl, refl)

-- ---- what is told, and what is left with 40: "a negative code or a number outside the table"

pub codes_told : (code : ℕ) → code < 2 ^ 31 → is_told (Exited (pos code)) ≡ true
unfolding is_told
codes_told code h = lt-ltb code (2 ^ 31) h

pub codes_over : (code : ℕ) → 2 ^ 31 ≤ code → is_told (Exited (pos code)) ≡ false
unfolding is_told
codes_over code h = le-ltb code (2 ^ 31) h

pub codes_negative : (n : ℕ) → is_told (Exited (negsuc n)) ≡ false
unfolding is_told
codes_negative n = refl

-- a signal is told exactly where its number is one of the thirteen
abbrev among : ℕ → List ℕ → Bool
among n [] = false
among n (x ∷ xs) = eqb x n || among n xs

equal_pos : (a b : ℕ) → int_eq (pos a) (pos b) ≡ eqb a b
equal_pos a b =
    let e = Decides-int_eq (pos a) (pos b) in
    same_from_decides (int_eq (pos a) (pos b)) (eqb a b) e (λ h. ap pos (eqb-true a b h), λ h. (let k : a ≡ b = cc in eq-eqb a b k))

pub signals_told : (n : ℕ) → is_told (Signaled (pos n)) ≡ among n (1 ∷ 2 ∷ 3 ∷ 4 ∷ 6 ∷ 8 ∷ 9 ∷ 10 ∷ 11 ∷ 12 ∷ 13 ∷ 14 ∷ 15 ∷ [])
unfolding is_told bytes
signals_told n = named_any (pos n) ∙ simp equal_pos

pub none_negative : (n : ℕ) → is_told (Signaled (negsuc n)) ≡ false
unfolding is_told name_of
none_negative n = refl

-- ---- 25 asks for 43 bytes whatever the status; then 40

-- a buffer in which every byte is 7
sevens : ℕ → List ℕ
sevens zero = []
sevens (suc n) = 7 ∷ sevens n

closed_in : (room : ℕ) → Option Status → WrittenAfter
unfolding close closed is_untold is_told ending bytes_of header request bytes name_of sevens
closed_in room status = close 5 status (sevens room)

close_on_5 : List ℕ
close_on_5 = 97 ∷ 0 ∷ 0 ∷ 0 ∷ 5 ∷ []

room : (closed_in 42 None ≡ written_after (Err BufferShort) (sevens 42))
    × (closed_in 43 None ≡ written_after (Ok 5) (close_on_5 ++ sevens 38))
    × (closed_in 43 (Some (Signaled (pos 15))) ≡ written_after (Ok 43) (term_on_5 ++ close_on_5))
    × (closed_in 44 (Some (Signaled (pos 2))) ≡ written_after (Ok 42) (int_on_5 ++ (close_on_5 ++ sevens 2)))
    × (closed_in 42 (Some (Signaled (pos 7))) ≡ written_after (Err BufferShort) (sevens 42))
    × (closed_in 43 (Some (Signaled (pos 7))) ≡ written_after (Err UntoldStatus) (sevens 43))
    × (closed_in 43 (Some (Exited (negsuc 0))) ≡ written_after (Err UntoldStatus) (sevens 43))
    × (number BufferShort ≡ 25)
    × (number UntoldStatus ≡ 40)
unfolding closed_in term_on_5 int_on_5 close_on_5
room = (refl, refl, refl, refl, refl, refl, refl, refl, refl)

-- so too in any buffer that is shorter
pub short : (channel : ℕ) (status : Option Status) (b : List ℕ) → length b < 43 → close channel status b ≡ written_after (Err BufferShort) b
unfolding close
short channel status b h = simp (lt-leb 43 (length b) h)

-- ---- the reader, for channel 5: 20 (empty), 21, 22 from 5 bytes on, 41

reads : List ℕ → Result Status Refusal
unfolding read matching guess is_told request bytes name_of number_of same number_at be32_at
reads s = read 5 s

-- exit-status with the channel's last byte, the byte that wants a reply, and the code's first and last
status_with : (channel reply high low : ℕ) → List ℕ
status_with channel reply high low = 98 ∷ 0 ∷ 0 ∷ 0 ∷ channel ∷ 0 ∷ 0 ∷ 0 ∷ 11
    ∷ 101 ∷ 120 ∷ 105 ∷ 116 ∷ 45 ∷ 115 ∷ 116 ∷ 97 ∷ 116 ∷ 117 ∷ 115 ∷ reply ∷ high ∷ 0 ∷ 0 ∷ low ∷ []

-- exit-signal of three letters with its length's last byte, its first letter, the byte of a core, and the last byte of all
signal_with : (size letter core last : ℕ) → List ℕ
signal_with size letter core last = 98 ∷ 0 ∷ 0 ∷ 0 ∷ 5 ∷ 0 ∷ 0 ∷ 0 ∷ 11
    ∷ 101 ∷ 120 ∷ 105 ∷ 116 ∷ 45 ∷ 115 ∷ 105 ∷ 103 ∷ 110 ∷ 97 ∷ 108 ∷ 0
    ∷ 0 ∷ 0 ∷ 0 ∷ size ∷ letter ∷ 78 ∷ 84 ∷ core ∷ 0 ∷ 0 ∷ 0 ∷ 0 ∷ 0 ∷ 0 ∷ 0 ∷ last ∷ []

order : (reads [] ≡ Err BadLength)
    × (reads (97 ∷ 0 ∷ 0 ∷ 0 ∷ 5 ∷ []) ≡ Err UnknownKind)
    × (reads (97 ∷ 0 ∷ 0 ∷ 0 ∷ 6 ∷ []) ≡ Err UnknownKind)
    × (reads (98 ∷ []) ≡ Err BadRequest)
    × (reads (98 ∷ 0 ∷ 0 ∷ 0 ∷ []) ≡ Err BadRequest)
    × (reads (98 ∷ 0 ∷ 0 ∷ 0 ∷ 6 ∷ []) ≡ Err OtherChannel)
    × (reads (98 ∷ 0 ∷ 0 ∷ 0 ∷ 5 ∷ []) ≡ Err BadRequest)
    × (reads (status_with 6 0 0 0) ≡ Err OtherChannel)
    × (number BadLength ≡ 20)
    × (number UnknownKind ≡ 21)
    × (number OtherChannel ≡ 22)
    × (number BadRequest ≡ 41)
unfolding reads status_with
order = (refl, refl, refl, refl, refl, refl, refl, refl, refl, refl, refl, refl)

-- "any other kind is 21", whatever stands behind it
pub other_kind : (channel k : ℕ) (s : List ℕ) → (k ≡ 98 → ⊥) → read channel (k ∷ s) ≡ Err UnknownKind
unfolding read
other_kind channel k s h = simp (ne_eqb (length (k ∷ s)) 0 (omega arith), ne_eqb k 98 h)

-- "22, which fewer than 5 bytes skip": from 5 bytes on bytes for another channel are 22, whatever stands behind it
pub other_channel : (channel : ℕ) (s : List ℕ) → 5 ≤ length (98 ∷ s) → (number_at (98 ∷ s) 1 ≡ channel → ⊥) → read channel (98 ∷ s) ≡ Err OtherChannel
unfolding read
other_channel channel s h n =
    simp (ne_eqb (length (98 ∷ s)) 0 (omega arith), le-ltb (length (98 ∷ s)) 5 h, ne_eqb (number_at (98 ∷ s) 1) channel n)

unless : (b : Bool) (x y : Result Status Refusal) → (b ≡ true → ⊥) → cond b x y ≡ y
unless true x y h = absurd (h refl)
unless false x y h = refl

unmatched : (channel : ℕ) (s : List ℕ) → ((status : Status) → is_told status ≡ true → request channel status ≡ s → ⊥)
    → (o : Option Status) → guess s ≡ o → matching channel s o ≡ Err BadRequest
unfolding matching
unmatched channel s none None g = refl
unmatched channel s none (Some x) g =
    unless (is_told x && same (request channel x) s) (Ok x) (Err BadRequest)
    (λ e. none x (guess_told s x g) (same_is (request channel x) s (and_r (is_told x) (same (request channel x) s) e)))

-- "bytes of kind 98 that are neither form": all that are no request of a status that is told are 41, of whatever length
pub neither : (channel : ℕ) (s : List ℕ) → is_mine channel (98 ∷ s) ≡ true
    → ((status : Status) → is_told status ≡ true → request channel status ≡ 98 ∷ s → ⊥) → read channel (98 ∷ s) ≡ Err BadRequest
unfolding read
neither channel s mine none =
    rw (ne_eqb (length (98 ∷ s)) 0 (omega arith), mine) (unmatched channel (98 ∷ s) none (guess (98 ∷ s)) refl)

-- "a wrong length, a code no status holds", and bytes that 6.10 fixes
forms : (reads (status_with 5 0 0 7) ≡ Ok (Exited (pos 7)))
    × (reads (status_with 5 0 127 255) ≡ Ok (Exited (pos (127 * 2 ^ 24 + 255))))
    × (reads (status_with 5 0 128 0) ≡ Err BadRequest)
    × (reads (status_with 5 1 0 7) ≡ Err BadRequest)
    × (reads (status_with 5 0 0 7 ++ (0 ∷ [])) ≡ Err BadRequest)
    × (reads (take 24 (status_with 5 0 0 7)) ≡ Err BadRequest)
    × (reads (signal_with 3 73 0 0) ≡ Ok (Signaled (pos 2)))
    × (reads (signal_with 4 73 0 0) ≡ Err BadRequest)
    × (reads (signal_with 3 105 0 0) ≡ Err BadRequest)
    × (reads (signal_with 3 73 1 0) ≡ Err BadRequest)
    × (reads (signal_with 3 73 0 1) ≡ Err BadRequest)
    × (reads (signal_with 3 73 0 0 ++ (0 ∷ [])) ≡ Err BadRequest)
    × (reads (take 36 (signal_with 3 73 0 0)) ≡ Err BadRequest)
unfolding reads status_with signal_with
forms = (refl, refl, refl, refl, refl, refl, refl, refl, refl, refl, refl, refl, refl)
