-- A text written into a lent area from an index on, and texts written one behind the other.
use Rattle.std.specs.Prelude.{◌≡◌, refl, List, ◌++◌, ℕ, ◌+◌, ◌≤◌, length, take, drop}
use Rattle.std.proofs.Common.{sym, ap, ◌∙◌, append_assoc, arith, length-append}
use Rattle.ring.specs.Runs.{copied, copied_length}
use Rattle.ring.specs.Lent.{copied_join, lent_front}
use borrow.Rule.Slice.PartMut.{put_mid}

-- `out` became `then` by the text, which has at most `most` bytes and stands from index `at` to before index `to`, all of it
-- within `out`. (`size` follows: it stands here for omega to read.)
pub record Wrote (most : ℕ) (out then : List ℕ) (at to : ℕ) (text : List ℕ) : Type 0 where
  pub holds : then ≡ copied out at text 0 (length text)
  pub ends : to ≡ at + length text
  pub short : length text ≤ most
  pub room : to ≤ length out
  pub size : length then ≡ length out

-- what one copy wrote
pub wrote : {most : ℕ} {out then : List ℕ} {at to : ℕ} (text : List ℕ) → then ≡ copied out at text 0 (length text)
    → to ≡ at + length text → length text ≤ most → at + length text ≤ length out → Wrote most out then at to text
wrote {out} {at} text h e s r = record {
  holds = h;
  ends = e;
  short = s;
  room = omega arith;
  size = ap length h ∙ copied_length out at text 0 (length text) r (omega arith);
}

-- what a part that was lent from index `at` on came back with
pub wrote_lent : {most : ℕ} (out part : List ℕ) (at k n : ℕ) (text : List ℕ) → part ≡ text ++ drop (length text) (take k (drop at out))
    → n ≡ length text → at + k ≡ length out → length text ≤ most → length text ≤ k → Wrote most out (put_mid at k out part) at (at + n) text
wrote_lent out part at k n text e l whole short room =
    wrote text
    (ap (put_mid at k out) e ∙ lent_front out at k text (length text) refl room (omega arith))
    (ap (λ (m : ℕ). at + m) l)
    short
    (omega arith)

-- TWO TEXTS, ONE BEHIND THE OTHER, ARE ONE
pub joined : {a b : ℕ} {out mid then : List ℕ} {at m to : ℕ} {s t : List ℕ} → Wrote a out mid at m s → Wrote b mid then m to t
    → Wrote (a + b) out then at to (s ++ t)
joined {out} {at} {m} {s} {t} p q =
    let l = length-append s t in
    record {
      holds =
          q.holds
          ∙ ap (λ (x : List ℕ). copied x m t 0 (length t)) p.holds
          ∙ ap (λ (x : ℕ). copied (copied out at s 0 (length s)) x t 0 (length t)) p.ends
          ∙ copied_join out at s t (length s) (length t) refl refl (omega arith)
          ∙ ap (copied out at (s ++ t) 0) (sym l);
      ends = omega arith;
      short = omega arith;
      room = omega arith;
      size = q.size ∙ p.size;
    }

-- the same text with a larger bound, and under another name
pub within : {a b : ℕ} {out then : List ℕ} {at to : ℕ} {text : List ℕ} → Wrote a out then at to text → a ≤ b
    → Wrote b out then at to text
within w h = record { holds = w.holds; ends = w.ends; short = omega arith; room = w.room; size = w.size }

pub same_text : {most : ℕ} {out then : List ℕ} {at to : ℕ} {s t : List ℕ} → s ≡ t → Wrote most out then at to s → Wrote most out then at to t
same_text e w = rw e at w

-- where the second text was written at once and is told in its parts
pub joined_two : {a b : ℕ} {out mid then : List ℕ} {at m to : ℕ} {s : List ℕ} (p q : List ℕ) → Wrote a out mid at m s
    → Wrote b mid then m to (p ++ q) → Wrote (a + b) out then at to (s ++ p ++ q)
joined_two {s} p q v w = same_text (sym (append_assoc s p q)) (joined v w)

pub joined_four : {a b : ℕ} {out mid then : List ℕ} {at m to : ℕ} {s : List ℕ} (p q r u : List ℕ) → Wrote a out mid at m s
    → Wrote b mid then m to (p ++ q ++ r ++ u) → Wrote (a + b) out then at to (s ++ p ++ q ++ r ++ u)
joined_four {s} p q r u v w =
    let e : s ++ (p ++ q ++ r ++ u) ≡ s ++ p ++ q ++ r ++ u = simp append_assoc in
    same_text e (joined v w)
