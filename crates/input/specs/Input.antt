-- The workload's input: what each call does to it and to the stores.
use Rattle.std.specs.Prelude.{ℕ, ◌-◌, ◌≤◌, ◌≡◌, refl, Bool, true, false, cond, not, ◌&&◌, ◌||◌, List, [], ltb, eqb, length, Result, Ok, Err}
use Rattle.std.proofs.lemmas.Bool.{false≢true}
use Rattle.exec.specs.declared.Receipt.{Receipt}
use Rattle.exec.specs.declared.Refusal.{Refusal}
use Rattle.exec.specs.declared.Limits.{Limits}
use Rattle.exec.specs.declared.Receipt.TheVariants.{Applied, Stale, Late}
use Rattle.exec.specs.Limits.{cost, off_chunk}
use Rattle.inbox.specs.Inbox.{new_inbox, pushed, bytes_pushed, lengths_pushed, front, pop_freed, pop_came, pop_inbox, pop_lengths}
use Rattle.inbox.specs.Need.{byte_need, length_need}
use Rattle.inbox.specs.RangeLaws.{InRange}
use Rattle.inbox.specs.Receiver.{new_granted, opened, is_due, freed}
use Rattle.input.specs.declared.Crediting.{Crediting}
use Rattle.input.specs.declared.Input.{Input}
use Rattle.input.specs.declared.Receiving.{Receiving}
use Rattle.input.specs.declared.Writing.{Writing}
use Rattle.input.specs.Setters.{set_inbox, set_window, set_peer_ended, set_input_closed, set_close_requested, set_closed_message}

abbrev pub new_input : (size smallest : ℕ) → Input
new_input size smallest = record {
  inbox = new_inbox;
  window = new_granted size smallest;
  peer_ended = false;
  closed = false;
  close_requested = false;
  closed_message = false;
}

-- ---- credit of the input

abbrev pub input_accepts : Input → Bool
input_accepts i = not i.closed && not i.peer_ended

-- credit waits to be granted: at least the smallest grant
abbrev pub can_grant : Input → Bool
can_grant i = input_accepts i && is_due i.window

-- where it is due: all that is returnable
abbrev pub granted_in : Input → Input
granted_in i = set_window (opened i.window) i

abbrev pub take_credit : Input → Crediting
take_credit i = record { input = granted_in i; units = i.window.returnable }

-- ---- closing

-- other than by the runner's request: what waits is dropped, and the peer told unless it ended the input or is gone
abbrev pub close_input : Input → Bool → Input
close_input i detached =
    cond i.closed i (set_inbox new_inbox (set_input_closed true (set_closed_message (not i.peer_ended && not detached) i)))

-- by the runner's request, once the input is used up: the peer ended it, it is open, and the workload took every byte
abbrev pub is_used_up : Input → Bool
is_used_up i = (i.peer_ended && not i.closed) && eqb i.inbox.length 0

abbrev pub close_when_taken : Input → Input
close_when_taken i = set_input_closed (is_used_up i || i.closed) (set_close_requested (is_used_up i || i.close_requested) i)

-- ---- bytes from the peer: Ended, Chunk, Window, then closed, where the charge stands and the answer is Late

-- a message of so many bytes costs more than the window has open
abbrev pub off_window : Limits → Input → ℕ → Bool
off_window l i n = ltb i.window.open (cost l.input.unit n)

unfoldable pub receive_answer : Limits → Input → ℕ → Result Receipt Refusal
receive_answer l i n =
    cond i.peer_ended (Err Refusal.Ended)
    (cond (off_chunk l n) (Err Refusal.Chunk)
    (cond (off_window l i n) (Err Refusal.Window)
    (cond i.closed (Ok Late) (Ok Applied))))

abbrev pub is_receipt : Result Receipt Refusal → Bool
is_receipt (Err x) = false
is_receipt (Ok x) = true

abbrev pub is_applied : Result Receipt Refusal → Bool
is_applied (Err x) = false
is_applied (Ok Applied) = true
is_applied (Ok Stale) = false
is_applied (Ok Late) = false

-- the message is charged unless it is refused, and kept where it is applied
abbrev pub is_paid : Limits → Input → ℕ → Bool
is_paid l i n = is_receipt (receive_answer l i n)

abbrev pub is_kept : Limits → Input → ℕ → Bool
is_kept l i n = is_applied (receive_answer l i n)

unfoldable pub receive_input : Limits → Input → ℕ → Input
receive_input l i n =
    set_inbox (cond (is_kept l i n) (pushed l.input.unit n i.inbox) i.inbox)
    (set_window (record {
      «open» = cond (is_paid l i n) (i.window.open - cost l.input.unit n) i.window.open;
      returnable = i.window.returnable;
      smallest = i.window.smallest;
    }) i)

unfoldable pub receive_bytes : Limits → Input → (bytes store : List ℕ) → List ℕ
receive_bytes l i bytes store =
    cond (is_kept l i (length bytes)) (bytes_pushed l i.inbox bytes store) store

unfoldable pub receive_lengths : Limits → Input → ℕ → List ℕ → List ℕ
receive_lengths l i n lengths =
    cond (is_kept l i n) (lengths_pushed l.input.unit l.input.size n i.inbox lengths) lengths

-- what is left: the input with its answer, and both stores
pub record ReceiveAfter : Type 0 where
  pub receiving : Receiving
  pub bytes : List ℕ
  pub lengths : List ℕ

abbrev pub receive_after : Receiving → (store lengths : List ℕ) → ReceiveAfter
receive_after r store lengths = record { receiving = r; bytes = store; lengths = lengths }

abbrev pub receive : Limits → Input → (bytes store lengths : List ℕ) → ReceiveAfter
receive l i bytes store lengths =
    receive_after
    (record { input = receive_input l i (length bytes); received = receive_answer l i (length bytes) })
    (receive_bytes l i bytes store)
    (receive_lengths l i (length bytes) lengths)

-- the input is in range, and the stores do
pub record Lent (l : Limits) (i : Input) (store lengths : List ℕ) : Type 0 where
  pub range : InRange l i.window i.inbox
  pub bytes : byte_need l ≤ length store
  pub slots : length_need l ≤ length lengths

-- ---- the answer by its ways

-- a message that is charged passed the tests
pub record Paid (l : Limits) (i : Input) (n : ℕ) : Type 0 where
  pub goes_on : i.peer_ended ≡ false
  pub chunk : off_chunk l n ≡ false
  pub window : off_window l i n ≡ false

-- what holds of each answer that there is holds of this one
module _ (l : Limits) (i : Input) (n : ℕ) (P : Result Receipt Refusal → Type 0) (ended : P (Err Refusal.Ended)) (chunk : P (Err Refusal.Chunk)) (window : P (Err Refusal.Window)) (late : Paid l i n → P (Ok Late)) (applied : Paid l i n → P (Ok Applied)) where
  by_tests : (over off unpaid closed : Bool) → (over ≡ false → off ≡ false → unpaid ≡ false → Paid l i n)
      → P (cond over (Err Refusal.Ended) (cond off (Err Refusal.Chunk) (cond unpaid (Err Refusal.Window) (cond closed (Ok Late) (Ok Applied)))))
  by_tests true off unpaid closed paid = ended
  by_tests false true unpaid closed paid = chunk
  by_tests false false true closed paid = window
  by_tests false false false true paid = late (paid refl refl refl)
  by_tests false false false false paid = applied (paid refl refl refl)

  pub answered : P (receive_answer l i n)
  unfolding receive_answer
  answered =
      by_tests i.peer_ended (off_chunk l n) (off_window l i n) i.closed (λ e c w. record { goes_on = e; chunk = c; window = w })

module _ (l : Limits) (i : Input) (n : ℕ) where
  pub kept_paid : is_kept l i n ≡ true → is_paid l i n ≡ true
  kept_paid = answered l i n (λ x. is_applied x ≡ true → is_receipt x ≡ true) (λ e. e) (λ e. e) (λ e. e) (λ p e. refl) (λ p e. refl)

  pub passed : is_paid l i n ≡ true → Paid l i n
  passed = answered l i n (λ x. is_receipt x ≡ true → Paid l i n) (λ e. absurd (false≢true e)) (λ e. absurd (false≢true e)) (λ e. absurd (false≢true e)) (λ p e. p) (λ p e. p)

-- ---- the peer's end of the input

abbrev pub peer_ends : Input → Input
peer_ends i = set_peer_ended true i

unfoldable pub end_answer : Input → Result Receipt Refusal
end_answer i = cond i.peer_ended (Err Refusal.Ended) (cond i.closed (Ok Late) (Ok Applied))

unfoldable pub end_input : Input → Input
end_input i = cond i.peer_ended i (close_when_taken (peer_ends i))

abbrev pub input_ended : Input → Receiving
input_ended i = record { input = end_input i; received = end_answer i }

-- ---- bytes to the workload

unfoldable pub pending_input : Limits → Input → List ℕ → List ℕ
pending_input l i store = cond i.closed [] (front l i.inbox store)

abbrev pub pop_in : Limits → ℕ → List ℕ → Input → Input
pop_in l count lengths i =
    set_inbox (pop_inbox l i.inbox count lengths)
    (set_window (freed i.window (pop_freed l i.inbox count lengths)) i)

unfoldable pub written_input : Limits → Input → ℕ → List ℕ → Input
written_input l i count lengths = cond i.closed i (close_when_taken (pop_in l count lengths i))

-- the frames that it comes to with bytes still to take: a closed input is not popped
unfoldable pub written_came : Limits → Input → ℕ → List ℕ → ℕ
written_came l i count lengths = cond i.closed 0 (pop_came l i.inbox count lengths)

unfoldable pub written_lengths : Limits → Input → ℕ → List ℕ → List ℕ
written_lengths l i count lengths =
    cond i.closed lengths (pop_lengths l i.inbox count lengths)

-- what is left: the input with the frames come to, and the length store
pub record WrittenAfter : Type 0 where
  pub writing : Writing
  pub lengths : List ℕ

abbrev pub written_after : Writing → List ℕ → WrittenAfter
written_after w lengths = record { writing = w; lengths = lengths }

abbrev pub written : Limits → Input → ℕ → List ℕ → WrittenAfter
written l i count lengths =
    written_after
    (record { input = written_input l i count lengths; came = written_came l i count lengths })
    (written_lengths l i count lengths)

pub record Writable (l : Limits) (i : Input) (lengths : List ℕ) : Type 0 where
  pub range : InRange l i.window i.inbox
  pub slots : length_need l ≤ length lengths

-- ---- what was returned

abbrev pub message_told : Input → Input
message_told i = set_closed_message false i

abbrev pub close_asked : Input → Input
close_asked i = set_close_requested false i
