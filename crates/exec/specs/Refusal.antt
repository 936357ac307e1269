-- The numbers of 01's table 'Stops', and of 02's requests.
use Rattle.std.specs.Prelude.{ℕ, ◌≡◌, refl, Bool, true, false, cond, List, [], ◌∷◌, eqb, Option, Some, None, codes}
use Rattle.std.proofs.Common.{arith, eqb-true}
use Rattle.exec.specs.declared.Refusal.{Refusal}
use Rattle.exec.specs.declared.Refusal.TheVariants.{Key, Pool, Credit, Chunk, Window, Ended, NoLimits, StoreShort, StateOutOfRange, NotAChannel, BadLength, UnknownKind, OtherChannel, BadType, NotInbound, BufferShort, BadLine, UntoldStatus, BadRequest, NotFramed, BadFrame, PaddedFrame, OutOfOrder, SmallestGrant}

abbrev pub number : Refusal → ℕ
number Key = 1
number Pool = 2
number Credit = 3
number Chunk = 4
number Window = 5
number Ended = 6
number NoLimits = 10
number StoreShort = 11
number StateOutOfRange = 12
number NotAChannel = 13
number BadLength = 20
number UnknownKind = 21
number OtherChannel = 22
number BadType = 23
number NotInbound = 24
number BufferShort = 25
number BadLine = 30
number UntoldStatus = 40
number BadRequest = 41
number NotFramed = 42
number BadFrame = 43
number PaddedFrame = 44
number OutOfOrder = 45
number SmallestGrant = 46

-- what a refusal prints
abbrev pub text : Refusal → List ℕ
text Key = codes "the key is another execution's"
text Pool = codes "the limits have no such pool"
text Credit = codes "no units are granted, or more than are in flight"
text Chunk = codes "the message is empty or longer than a chunk"
text Window = codes "the message costs more than is granted"
text Ended = codes "the input has ended"
text NoLimits = codes "a chunk or a window is 0"
text StoreShort = codes "a store is too short"
text StateOutOfRange = codes "the state is none that the calls reach"
text NotAChannel = codes "the limits are not a channel's"
text BadLength = codes "the bytes are not as long as their record"
text UnknownKind = codes "the kind of the record is unknown"
text OtherChannel = codes "the record is for another channel"
text BadType = codes "the type of the extended data is unknown"
text NotInbound = codes "the record is none that a peer sends"
text BufferShort = codes "the buffer is too short"
text BadLine = codes "the line is no call"
text UntoldStatus = codes "no request tells the status"
text BadRequest = codes "the request tells no status"
text NotFramed = codes "the limits or the stream are not those of frames"
text BadFrame = codes "the frame is none that a peer sends on these streams"
text PaddedFrame = codes "the frame is padded"
text OutOfOrder = codes "the message is out of order"
text SmallestGrant = codes "the smallest grant is 0 or above the input's window"

-- every refusal, in the order of the table
abbrev pub stops : List Refusal
stops =
    Key ∷ Pool ∷ Credit ∷ Chunk ∷ Window ∷ Ended ∷ NoLimits ∷ StoreShort ∷ StateOutOfRange ∷ NotAChannel ∷ BadLength ∷ UnknownKind
    ∷ OtherChannel ∷ BadType ∷ NotInbound ∷ BufferShort ∷ BadLine ∷ UntoldStatus ∷ BadRequest ∷ NotFramed ∷ BadFrame
    ∷ PaddedFrame ∷ OutOfOrder ∷ SmallestGrant ∷ []

unfoldable pub find : ℕ → List Refusal → Option Refusal
find n [] = None
find n (x ∷ xs) = cond (eqb (number x) n) (Some x) (find n xs)

-- the way back: the refusal of a number, if it is one of the table
abbrev pub refusal : ℕ → Option Refusal
refusal n = find n stops

pub refusal_number : (x : Refusal) → refusal (number x) ≡ Some x
unfolding find
refusal_number Key = refl
refusal_number Pool = refl
refusal_number Credit = refl
refusal_number Chunk = refl
refusal_number Window = refl
refusal_number Ended = refl
refusal_number NoLimits = refl
refusal_number StoreShort = refl
refusal_number StateOutOfRange = refl
refusal_number NotAChannel = refl
refusal_number BadLength = refl
refusal_number UnknownKind = refl
refusal_number OtherChannel = refl
refusal_number BadType = refl
refusal_number NotInbound = refl
refusal_number BufferShort = refl
refusal_number BadLine = refl
refusal_number UntoldStatus = refl
refusal_number BadRequest = refl
refusal_number NotFramed = refl
refusal_number BadFrame = refl
refusal_number PaddedFrame = refl
refusal_number OutOfOrder = refl
refusal_number SmallestGrant = refl

-- a refusal that was found, at the head of a list or behind it, has the number
found : (b : Bool) (n : ℕ) (x y : Refusal) (rest : Option Refusal) → eqb (number y) n ≡ b → (rest ≡ Some x → number x ≡ n)
    → cond b (Some y) rest ≡ Some x → number x ≡ n
found true n x y rest e behind h = cc (eqb-true (number y) n e)
found false n x y rest e behind h = behind h

find_number : (n : ℕ) (x : Refusal) (xs : List Refusal) → find n xs ≡ Some x → number x ≡ n
unfolding find
find_number n x [] h = let z : ◌≡◌ {A = ℕ} 0 1 = cc in absurd (omega arith)
find_number n x (y ∷ ys) h = found (eqb (number y) n) n x y (find n ys) refl (find_number n x ys) h

pub number_refusal : (n : ℕ) (x : Refusal) → refusal n ≡ Some x → number x ≡ n
number_refusal n x h = find_number n x stops h

-- 31 was the card's, for times that fall; 02's A5 retired it: never given again
pub retired : refusal 31 ≡ None
unfolding find
retired = refl
