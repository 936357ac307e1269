-- A line of the card as a call: fields in fixed order parted by commas, no quoting. What is no line of the card is none (30).
use Rattle.std.specs.Prelude.{Bool, true, false, cond, ◌&&◌, List, [], ◌∷◌, ℕ, zero, suc, ◌-◌, ◌^◌, eqb, Option, Result, Some, None, Ok, Err, option_map}
use Rattle.exec.specs.declared.LaunchFailure.{LaunchFailure}
use Rattle.exec.specs.declared.Status.{Status}
use Rattle.exec.specs.declared.Key.{Key}
use Rattle.exec.specs.Key.{new_key}
use Rattle.decimal.specs.Decimal.{number, signed}
use Rattle.hexadecimal.specs.Hexadecimal.{unhex}
use Rattle.calls.specs.Call.{Call}
use Rattle.syntax.specs.Words.{bytes, same, stream, pool, cause, settlement}

-- all the fields of a line have to be good
abbrev pub on : {A B : Type 0} → Option A → (A → Option B) → Option B
on None f = None
on (Some x) f = f x

-- ---- fields

-- a byte in front of the first field
abbrev pub in_first : ℕ → List (List ℕ) → List (List ℕ)
in_first b [] = (b ∷ []) ∷ []
in_first b (f ∷ fs) = (b ∷ f) ∷ fs

-- cut at every comma (44): one field more than there are commas
unfoldable pub fields : (line : List ℕ) → List (List ℕ)
fields [] = [] ∷ []
fields (b ∷ s) = cond (eqb b 44) ([] ∷ fields s) (in_first b (fields s))

-- ---- values: numbers within their types, bytes in hexadecimal, `-` for what is missing

abbrev pub u64 : List ℕ → Option ℕ
u64 field = number (2 ^ 64 - 1) field

abbrev pub u32 : List ℕ → Option ℕ
u32 field = number (2 ^ 32 - 1) field

abbrev pub missing : List ℕ → Bool
missing field = same field (bytes "-")

-- 0 or 1
unfoldable pub digit : List ℕ → Option Bool
digit field = cond (same field (bytes "0")) (Some false) (cond (same field (bytes "1")) (Some true) None)

-- the length of a message's buffer
abbrev pub message_length : List ℕ → Option ℕ
message_length field = number 16384 field

-- a key is two fields
abbrev pub key_of : (id generation : List ℕ) → Option Key
key_of id generation = on (u64 id) λ i. on (u64 generation) λ g. Some (new_key i g)

-- Status is E or S with a number, or missing
unfoldable pub status : List ℕ → Option (Option Status)
status [] = None
status (b ∷ rest) =
    cond (missing (b ∷ rest)) (Some None)
    (cond (eqb b 69) (option_map (λ n. Some (Status.Exited n)) (signed rest))
    (cond (eqb b 83) (option_map (λ n. Some (Status.Signaled n)) (signed rest))
    None))

-- a launch result: OK 0 with nothing else, or 1 with stage and error
unfoldable pub launch_result : (ok stage error : List ℕ) → Option (Result (Unit {0}) LaunchFailure)
launch_result ok stage error =
    on (digit ok) λ failed.
    cond failed
    (on (u32 stage) λ n. on (signed error) λ e. Some (Err (record { stage = n; error = e })))
    (cond (missing stage && missing error) (Some (Ok tt)) None)

-- ---- calls: the method's name, and its arguments as in the Rust, a key as two fields

-- a name, and the call that it makes
pub record Entry (A : Type 0) : Type 0 where
  pub name : List ℕ
  pub call : A

abbrev pub entry : {A : Type 0} → List ℕ → A → Entry A
entry name call = record { name = name; call = call }

unfoldable pub find : {A : Type 0} → (field : List ℕ) → List (Entry A) → Option A
find field [] = None
find field (e ∷ es) = cond (same field e.name) (Some e.call) (find field es)

-- with no argument
abbrev pub plain_calls : List (Entry Call)
plain_calls =
    entry (bytes "pending_input") Call.pending_input
    ∷ entry (bytes "input_closed") Call.input_closed
    ∷ entry (bytes "deadline") Call.deadline
    ∷ entry (bytes "request") Call.next_request
    ∷ entry (bytes "is_finished") Call.is_finished
    ∷ entry (bytes "is_detached") Call.is_detached
    ∷ entry (bytes "awaits_settlement") Call.awaits_settlement
    ∷ entry (bytes "memory_bound") Call.memory_bound
    ∷ entry (bytes "buffered") Call.buffered
    ∷ entry (bytes "high_water") Call.high_water
    ∷ []

-- a buffer of so many bytes
unfoldable pub zeros : ℕ → List ℕ
zeros zero = []
zeros (suc n) = 0 ∷ zeros n

-- with one
abbrev pub read_allowance_of : List ℕ → Option Call
read_allowance_of a = option_map Call.read_allowance (stream a)

abbrev pub output_closed_of : List ℕ → Option Call
output_closed_of a = option_map Call.output_closed (stream a)

abbrev pub output_failed_of : List ℕ → Option Call
output_failed_of a = option_map Call.output_failed (stream a)

abbrev pub output_hung_up_of : List ℕ → Option Call
output_hung_up_of a = option_map Call.output_hung_up (stream a)

abbrev pub input_written_of : List ℕ → Option Call
input_written_of a = option_map Call.input_written (u64 a)

abbrev pub settled_of : List ℕ → Option Call
settled_of a = option_map Call.settled (settlement a)

abbrev pub dropped_of : List ℕ → Option Call
dropped_of a = option_map Call.dropped (u64 a)

abbrev pub reset_of : List ℕ → Option Call
reset_of a = option_map Call.reset (u64 a)

abbrev pub disconnect_of : List ℕ → Option Call
disconnect_of a = option_map Call.disconnect (u64 a)

abbrev pub tick_of : List ℕ → Option Call
tick_of a = option_map Call.tick (u64 a)

abbrev pub message_of : List ℕ → Option Call
message_of a = option_map (λ n. Call.next_message (zeros n)) (message_length a)

abbrev pub calls1 : List (Entry (List ℕ → Option Call))
calls1 =
    entry (bytes "read_allowance") read_allowance_of
    ∷ entry (bytes "output_closed") output_closed_of
    ∷ entry (bytes "output_failed") output_failed_of
    ∷ entry (bytes "output_hung_up") output_hung_up_of
    ∷ entry (bytes "input_written") input_written_of
    ∷ entry (bytes "settled") settled_of
    ∷ entry (bytes "dropped") dropped_of
    ∷ entry (bytes "reset") reset_of
    ∷ entry (bytes "disconnect") disconnect_of
    ∷ entry (bytes "tick") tick_of
    ∷ entry (bytes "message") message_of
    ∷ []

-- with two
abbrev pub end_input_of : List ℕ → List ℕ → Option Call
end_input_of a b = option_map Call.end_input (key_of a b)

abbrev pub output_of : List ℕ → List ℕ → Option Call
output_of a b = on (stream a) λ x. on (unhex b) λ bs. Some (Call.output x bs)

abbrev pub discarded_of : List ℕ → List ℕ → Option Call
discarded_of a b = on (stream a) λ x. on (u64 b) λ n. Some (Call.discarded x n)

abbrev pub exited_of : List ℕ → List ℕ → Option Call
exited_of a b = on (u64 a) λ now. on (status b) λ x. Some (Call.exited now x)

abbrev pub calls2 : List (Entry (List ℕ → List ℕ → Option Call))
calls2 =
    entry (bytes "end_input") end_input_of
    ∷ entry (bytes "output") output_of
    ∷ entry (bytes "discarded") discarded_of
    ∷ entry (bytes "exited") exited_of
    ∷ []

-- with three
abbrev pub launched_of : List ℕ → List ℕ → List ℕ → Option Call
launched_of a b c = option_map Call.launched (launch_result a b c)

abbrev pub input_of : List ℕ → List ℕ → List ℕ → Option Call
input_of a b c = on (key_of a b) λ key. on (unhex c) λ bs. Some (Call.input key bs)

abbrev pub calls3 : List (Entry (List ℕ → List ℕ → List ℕ → Option Call))
calls3 =
    entry (bytes "launched") launched_of
    ∷ entry (bytes "input") input_of
    ∷ []

-- with four
abbrev pub credit_of : List ℕ → List ℕ → List ℕ → List ℕ → Option Call
credit_of a b c d = on (key_of a b) λ key. on (pool c) λ p. on (u32 d) λ n. Some (Call.credit key p n)

abbrev pub cancel_of : List ℕ → List ℕ → List ℕ → List ℕ → Option Call
cancel_of a b c d = on (u64 a) λ now. on (key_of b c) λ key. on (cause d) λ x. Some (Call.cancel now key x)

abbrev pub calls4 : List (Entry (List ℕ → List ℕ → List ℕ → List ℕ → Option Call))
calls4 =
    entry (bytes "credit") credit_of
    ∷ entry (bytes "cancel") cancel_of
    ∷ []

unfoldable pub call_of : List (List ℕ) → Option Call
call_of [] = None
call_of (name ∷ []) = find name plain_calls
call_of (name ∷ a ∷ []) = on (find name calls1) λ f. f a
call_of (name ∷ a ∷ b ∷ []) = on (find name calls2) λ f. f a b
call_of (name ∷ a ∷ b ∷ c ∷ []) = on (find name calls3) λ f. f a b c
call_of (name ∷ a ∷ b ∷ c ∷ d ∷ []) = on (find name calls4) λ f. f a b c d
call_of (name ∷ a ∷ b ∷ c ∷ d ∷ e ∷ rest) = None

-- the call of a line
abbrev pub line_call : (line : List ℕ) → Option Call
line_call line = call_of (fields line)
