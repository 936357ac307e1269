-- The input as the judge hears it: InputClosed once, no Credit after it, and the units left of what was credited; every call keeps this,
-- and an input that is answered Applied is paid for.
use Rattle.std.specs.Prelude.{◌≡◌, refl, Bool, true, false, cond, not, ◌&&◌, ◌||◌, ℕ, ◌-◌, ◌≤◌, List, Result, Ok, Err}
use Rattle.std.proofs.lemmas.Bool.{true≢false, false≢true, or_left, or_right, or_parts}
use Rattle.std.proofs.Math.Bool.{or-false}
use Rattle.std.proofs.Common.{sym, ap, ◌∙◌, arith}
use Rattle.exec.specs.declared.Limits.{Limits}
use Rattle.exec.specs.declared.Receipt.{Receipt}
use Rattle.exec.specs.declared.Refusal.{Refusal}
use Rattle.exec.specs.Limits.{cost, off_chunk}
use Rattle.inbox.specs.Inbox.{new_inbox}
use Rattle.input.specs.declared.Input.{Input}
use Rattle.input.specs.Setters.{set_inbox, set_input_closed, set_closed_message}
use Rattle.input.specs.Input.{close_input, is_used_up, close_when_taken, peer_ends, end_input, pop_in, written_input, message_told, off_window, receive_answer, receive_input, is_receipt, is_applied, is_paid, is_kept, passed}
use Rattle.account.proofs.Flags.{either}

-- shut: InputClosed was heard; left: the units left; size: those of the window; and of the input whether it is closed, InputClosed is to be
-- told, and the units open
pub record Hears (shut : Bool) (left size : ℕ) (closed message : Bool) (units : ℕ) : Type 0 where
  pub told : message ≡ true → closed ≡ true
  pub unheard : (not closed || message) ≡ true → shut ≡ false
  pub same : closed ≡ false → left ≡ units
  pub most : left ≤ size

module _ (shut : Bool) (left size : ℕ) where
  abbrev pub HearsIn : Input → Type 0
  HearsIn i = Hears shut left size i.closed i.closed_message i.window.open

  pub closes : (i : Input) (detached : Bool) → HearsIn i → HearsIn (close_input i detached)
  closes i detached h = by i.closed refl
    where
      by : (c : Bool) → i.closed ≡ c → HearsIn (cond c i (set_inbox new_inbox (set_input_closed true (set_closed_message (not i.peer_ended && not detached) i))))
      by true e = h
      by false e = record { told = λ m. refl; unheard = λ m. h.unheard (rw e refl); same = λ c. absurd (true≢false c); most = h.most }

  -- InputClosed is told no more
  pub tells : (i : Input) → HearsIn i → HearsIn (message_told i)
  tells i h = record {
    told = λ m. absurd (false≢true m);
    unheard = λ m. h.unheard (or_left (not i.closed) i.closed_message (sym (or-false (not i.closed)) ∙ m));
    same = h.same;
    most = h.most;
  }

  less_open : (used closed message : Bool) → (not (used || closed) || message) ≡ true → (not closed || message) ≡ true
  less_open true closed message e = or_right (not closed) message e
  less_open false closed message e = e

  takes : (i : Input) → HearsIn i → HearsIn (close_when_taken i)
  takes i h = record {
    told = λ m. or_right (is_used_up i) i.closed (h.told m);
    unheard = λ m. h.unheard (less_open (is_used_up i) i.closed i.closed_message m);
    same = λ c. h.same (or_parts (is_used_up i) i.closed c).1;
    most = h.most;
  }

  pub ends : (b : Bool) (i : Input) → HearsIn i → HearsIn (cond b (end_input i) i)
  unfolding end_input
  ends b i h = either HearsIn b (end_input i) i (either HearsIn i.peer_ended i _ h (takes (peer_ends i) h)) h

  pub writes : (l : Limits) (n : ℕ) (lengths : List ℕ) (i : Input) → HearsIn i → HearsIn (written_input l i n lengths)
  unfolding written_input
  writes l n lengths i h = either HearsIn i.closed i _ h (takes (pop_in l n lengths i) h)

-- ---- bytes from the peer

abbrev answer_by : (ended off unpaid closed : Bool) → Result Receipt Refusal
answer_by ended off unpaid closed =
    cond ended (Err Refusal.Ended) (cond off (Err Refusal.Chunk) (cond unpaid (Err Refusal.Window) (cond closed (Ok Receipt.Late) (Ok Receipt.Applied))))

-- what is charged is kept while the input is open, and not once it is closed
kept_is : (l : Limits) (i : Input) (n : ℕ) → is_kept l i n ≡ (not i.closed && is_paid l i n)
unfolding receive_answer
kept_is l i n = by i.peer_ended (off_chunk l n) (off_window l i n) i.closed
  where
    by : (ended off unpaid closed : Bool) → is_applied (answer_by ended off unpaid closed) ≡ (not closed && is_receipt (answer_by ended off unpaid closed))
    by true off unpaid true = refl
    by true off unpaid false = refl
    by false true unpaid true = refl
    by false true unpaid false = refl
    by false false true true = refl
    by false false true false = refl
    by false false false true = refl
    by false false false false = refl

-- a message of n bytes that leaves so many units open, by whether it was applied: it is paid for and charged, or nothing changed
pub record Brought (shut : Bool) (left size : ℕ) (l : Limits) (n : ℕ) (i : Input) (units : ℕ) (applied : Bool) : Type 0 where
  pub paid : applied ≡ true → off_window l i n ≡ false
  pub opens : applied ≡ true → i.closed ≡ false
  pub charged : applied ≡ true → Hears shut (left - cost l.input.unit n) size i.closed i.closed_message units
  pub kept : applied ≡ false → Hears shut left size i.closed i.closed_message units

module _ (shut : Bool) (left size : ℕ) (l : Limits) (n : ℕ) (i : Input) (h : HearsIn shut left size i) where
  opened : (c : Bool) → (not c && true) ≡ true → c ≡ false
  opened true e = absurd (false≢true e)
  opened false e = refl

  shut_by : (c : Bool) → false ≡ (not c && true) → c ≡ true
  shut_by true e = refl
  shut_by false e = absurd (false≢true e)

  -- nothing is claimed of the units of a closed input
  late : (units : ℕ) → i.closed ≡ true → Brought shut left size l n i units false
  late units c = record {
    paid = λ a. absurd (false≢true a);
    opens = λ a. absurd (false≢true a);
    charged = λ a. absurd (false≢true a);
    kept = λ a. record { told = h.told; unheard = h.unheard; same = λ z. absurd (true≢false (sym c ∙ z)); most = h.most };
  }

  by_answer : (x : Result Receipt Refusal) → receive_answer l i n ≡ x → is_applied x ≡ (not i.closed && is_receipt x)
      → Brought shut left size l n i (cond (is_receipt x) (i.window.open - cost l.input.unit n) i.window.open) (is_applied x)
  by_answer (Err y) e k = record { paid = λ a. absurd (false≢true a); opens = λ a. absurd (false≢true a); charged = λ a. absurd (false≢true a); kept = λ a. h }
  by_answer (Ok Receipt.Applied) e k =
      let c : i.closed ≡ false = opened i.closed (sym k) in
      record {
        paid = λ a. (passed l i n (ap is_receipt e)).window;
        opens = λ a. c;
        charged = λ a. record { told = h.told; unheard = h.unheard; same = λ z. ap (λ (m : ℕ). m - cost l.input.unit n) (h.same c); most = (let m = h.most in omega arith) };
        kept = λ a. absurd (true≢false a);
      }
  by_answer (Ok Receipt.Stale) e k = late _ (shut_by i.closed k)
  by_answer (Ok Receipt.Late) e k = late _ (shut_by i.closed k)

  pub receives : Brought shut left size l n i (receive_input l i n).window.open (is_applied (receive_answer l i n))
  unfolding receive_input
  receives = by_answer (receive_answer l i n) refl (kept_is l i n)
