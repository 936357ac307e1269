-- One stream: what each change of an output does to its account. Nothing here knows of calls.
use mathlib.Core.Bool.{Bool, true, false, not, ◌&&◌, ◌||◌, or-true, or_assoc}
use mathlib.Core.Path.{◌≡◌, refl, sym, ap, ◌∙◌}
use mathlib.Core.List.{List, [], ◌∷◌, ◌++◌, append_assoc, append-nil}
use Prim.Native.Nat.{ℕ, ◌+◌, ◌-◌, ◌≤◌, ◌<◌, min}
use native.Mathlib.Omega.{arith}
use lib.Dec.{ltb}
use borrow.Author.Tests.{le-ltb, lt-ltb}
use lib.ListN.{length, take, length-append}
use Rattle.ring.specs.Ring.{wrap, ring_write}
use Rattle.ring.specs.RingLaws.{wrap_lt, read_none, write_read, write_length}
use Rattle.output.specs.declared.Output.{Output}
use Rattle.output.specs.Output.{grace_ended, given_up, abandoned, closed_out, failed_out, lost_out, sent_out, takes, keeps, intake, keeps_fit}
use Rattle.account.specs.Account.{Tally, marked, taken_by, sent_by, cut}
use Rattle.account.proofs.Rings.{some?, ring, ring_some, ring_split}
use lib.Seq.{take-length}
use Rattle.std.proofs.lemmas.Bool.{or_parts}
use Rattle.account.proofs.Flags.{or_swap}

-- taken is sent, then queued, then lost; once bytes are lost nothing is queued any more
pub record Kept (q : List ℕ) (closed discarding truncated : Bool) (t : Tally) : Type 0 where
  pub rest : List ℕ
  pub whole : t.taken ≡ (t.sent ++ q) ++ rest
  pub lost : some? rest ≡ true → (some? q ≡ false) × ((closed || discarding) ≡ true)
  pub idle : discarding ≡ true → some? q ≡ false
  pub flag : truncated ≡ (some? rest || t.mark)

-- a ring in range
pub record Fits (n start count : ℕ) : Type 0 where
  pub inside : start < n
  pub within : count ≤ n

-- an output whose ring stands in the store from `b` on
abbrev pub Good : List ℕ → ℕ → ℕ → Output → Tally → Type 0
Good st b n o t = Kept (ring st b n o.start o.queued) o.closed o.discarding o.truncated t × Fits n o.start o.queued × (b + n ≤ length st)

pub some_append : (a b : List ℕ) → some? (a ++ b) ≡ (some? a || some? b)
some_append [] b = refl
some_append (x ∷ a) b = refl

pub not_some : (a : List ℕ) → some? a ≡ false → a ≡ []
not_some [] e = refl
not_some (x ∷ a) e = let z : true ≡ false = e in cc

pub blocked_by : (c d : Bool) → (c || (d || not c)) ≡ true
blocked_by true d = refl
blocked_by false d = or-true d

-- the queue is dropped: it is lost
drop_whole : (taken sent q rest : List ℕ) → taken ≡ (sent ++ q) ++ rest → taken ≡ (sent ++ []) ++ (q ++ rest)
drop_whole taken sent q rest e = rw (e, append-nil sent) (append_assoc sent q rest)

end_grace_kept : (q : List ℕ) (c d tr : Bool) (t : Tally) → Kept q c d tr t → Kept [] c (d || not c) (some? q || tr) t
end_grace_kept q c d tr t g = record {
  rest = q ++ g.rest;
  whole = drop_whole t.taken t.sent q g.rest g.whole;
  lost = λ e. (refl, blocked_by c d);
  idle = λ e. refl;
  flag = rw (some_append, g.flag) (sym (or_assoc (some? q) (some? g.rest) t.mark));
}

given_up_kept : (q : List ℕ) (c d tr : Bool) (t : Tally) → Kept q c d tr t → Kept [] true d (not c || (some? q || tr)) (marked (not c) t)
given_up_kept q c d tr t g = record {
  rest = q ++ g.rest;
  whole = drop_whole t.taken t.sent q g.rest g.whole;
  lost = λ e. (refl, refl);
  idle = λ e. refl;
  flag = rw (some_append, g.flag)
      (ap (λ (b : Bool). not c || b) (sym (or_assoc (some? q) (some? g.rest) t.mark))
      ∙ or_swap (not c) (some? q || some? g.rest) t.mark);
}

module _ (st : List ℕ) (b n : ℕ) where
  pub end_grace_lem : (o : Output) (t : Tally) → Good st b n o t → Good st b n (grace_ended o) t
  end_grace_lem o t g = (
    rw (read_none b n 0 st) (rw (ring_some st b n o.start o.queued g.2 g.1.inside g.1.within) at (end_grace_kept (ring st b n o.start o.queued) o.closed o.discarding o.truncated t g.0)),
    record { inside = (let l = g.1.inside in omega arith); within = omega arith },
    g.2,
  )

  pub given_up_lem : (o : Output) (t : Tally) → Good st b n o t → Good st b n (given_up o) (marked (not o.closed) t)
  given_up_lem o t g = (
    rw (read_none b n 0 st) (rw (ring_some st b n o.start o.queued g.2 g.1.inside g.1.within) at (given_up_kept (ring st b n o.start o.queued) o.closed o.discarding o.truncated t g.0)),
    record { inside = (let l = g.1.inside in omega arith); within = omega arith },
    g.2,
  )

pub wider : (c h d : Bool) → (c || d) ≡ true → ((c || not h) || d) ≡ true
wider true h d e = refl
wider false true d e = e
wider false false d e = refl

pub abandoned_by : (st : List ℕ) (b n : ℕ) (o : Output) (t : Tally) → Good st b n o t → Good st b n (abandoned o) (marked (not (o.closed || o.hung_up)) t)
abandoned_by st b n o t (g, fit, area) = (
  record {
    rest = g.rest;
    whole = g.whole;
    lost = λ e. ((g.lost e).0, wider o.closed o.hung_up o.discarding (g.lost e).1);
    idle = g.idle;
    flag = rw g.flag (or_swap (not (o.closed || o.hung_up)) (some? g.rest) t.mark);
  },
  fit,
  area,
)

pub closed_by : (st : List ℕ) (b n : ℕ) (o : Output) (t : Tally) → Good st b n o t → Good st b n (closed_out o) t
closed_by st b n o t (g, fit, area) = (record { rest = g.rest; whole = g.whole; lost = λ e. ((g.lost e).0, refl); idle = g.idle; flag = g.flag }, fit, area)

pub failed_by : (st : List ℕ) (b n : ℕ) (o : Output) (t : Tally) → Good st b n o t → Good st b n (failed_out o) (marked true t)
failed_by st b n o t (g, fit, area) = (record { rest = g.rest; whole = g.whole; lost = λ e. ((g.lost e).0, refl); idle = g.idle; flag = sym (or-true (some? g.rest)) }, fit, area)

pub discarded_by : (st : List ℕ) (b n : ℕ) (m : Bool) (o : Output) (t : Tally) → Good st b n o t → Good st b n (lost_out m o) (marked m t)
discarded_by st b n m o t (g, fit, area) = (record { rest = g.rest; whole = g.whole; lost = g.lost; idle = g.idle; flag = rw g.flag (or_swap m (some? g.rest) t.mark) }, fit, area)

pub some_length : (b : List ℕ) → some? b ≡ ltb 0 (length b)
some_length [] = refl
some_length (x ∷ b) = sym (lt-ltb 0 (length (x ∷ b)) (omega arith))

none_behind : (p q : List ℕ) → some? (p ++ q) ≡ false → some? q ≡ false
none_behind p q e = (or_parts (some? p) (some? q) (sym (some_append p q) ∙ e)).1

sent_kept : (p q : List ℕ) (c d tr : Bool) (t : Tally) → Kept (p ++ q) c d tr t → Kept q c d tr (sent_by p t)
sent_kept p q c d tr t g = record {
  rest = g.rest;
  whole = g.whole ∙ ap (λ (x : List ℕ). x ++ g.rest) (sym (append_assoc t.sent p q));
  lost = λ e. (none_behind p q (g.lost e).0, (g.lost e).1);
  idle = λ e. none_behind p q (g.idle e);
  flag = g.flag;
}

pub sent_by_lem : (st : List ℕ) (b n m : ℕ) (o : Output) (t : Tally) → m ≤ o.queued → Good st b n o t → Good st b n (sent_out n m o) (sent_by (ring st b n o.start m) t)
sent_by_lem st b n m o t l (g, fit, area) =
    let lt : o.start < n = fit.inside in let le : o.queued ≤ n = fit.within in (
      sent_kept (ring st b n o.start m) (ring st b n (wrap n (o.start + m)) (o.queued - m)) o.closed o.discarding o.truncated t
          (rw (ring_split st b n o.start o.queued m area lt le l) at g),
      record { inside = wrap_lt n (o.start + m) (omega arith); within = omega arith },
      area,
    )

no_rest : (c d : Bool) (rest : List ℕ) → (c || d) ≡ false → (some? rest ≡ true → (c || d) ≡ true) → rest ≡ []
no_rest c d [] e f = refl
no_rest c d (x ∷ rest) e f = let z : true ≡ false = sym (f refl) ∙ e in cc

open_still : (c s : Bool) → (c || s) ≡ s → s ≡ false → c ≡ false
open_still true s e f = e ∙ f
open_still false s e f = refl

-- shut = closed or given up; a closed output takes nothing
taken_kept : (shut : Bool) (room : ℕ) (b q : List ℕ) (c d tr : Bool) (t : Tally) → (c || shut) ≡ shut → Kept q c d tr t
    → Kept (q ++ take (keeps shut d room (length b)) b) c d ((not shut && d && some? b) || tr) (taken_by (take (takes shut d room (length b)) b) t)
taken_kept true room b q c d tr t s g = record { rest = g.rest; whole = rw (append-nil, append-nil) g.whole; lost = rw append-nil g.lost; idle = rw append-nil g.idle; flag = g.flag }
taken_kept false room b q c true tr t s g = record {
  rest = g.rest ++ b;
  whole = rw (take-length, g.whole, append-nil) (append_assoc (t.sent ++ q) g.rest b);
  lost = λ e. rw append-nil (g.idle refl, or-true c);
  idle = rw append-nil g.idle;
  flag = rw (some_append, g.flag) (or_swap (some? b) (some? g.rest) t.mark ∙ sym (or_assoc (some? g.rest) (some? b) t.mark));
}
taken_kept false room b q c false tr t s g =
    let oc : c ≡ false = open_still c false s refl in
    let nb : (c || false) ≡ false = rw oc refl in
    let nr : g.rest ≡ [] = no_rest c false g.rest nb (λ e. (g.lost e).1) in
    record {
      rest = [];
      whole = rw (g.whole, nr, append-nil, append-nil) (append_assoc t.sent q (take (min (length b) room) b));
      lost = λ e. let z : false ≡ true = e in (cc, cc);
      idle = λ e. let z : false ≡ true = e in cc;
      flag = g.flag ∙ rw nr refl;
    }

pub keeps_less : (s d : Bool) (room n : ℕ) → keeps s d room n ≤ n
keeps_less true d room n = omega arith
keeps_less false true room n = omega arith
keeps_less false false room n = omega arith

pub taken_by_lem : (st : List ℕ) (b n : ℕ) (shut : Bool) (bytes : List ℕ) (o : Output) (t : Tally) → (o.closed || shut) ≡ shut → Good st b n o t
    → Good (ring_write b n o.start o.queued bytes (keeps shut o.discarding (n - o.queued) (length bytes)) st) b n
    (intake shut o.discarding (n - o.queued) (length bytes) o)
    (taken_by (take (takes shut o.discarding (n - o.queued) (length bytes)) bytes) t)
taken_by_lem st b n shut bytes o t s (g, fit, area) =
    let k : ℕ = keeps shut o.discarding (n - o.queued) (length bytes) in
    let has : k ≤ length bytes = keeps_less shut o.discarding (n - o.queued) (length bytes) in
    let kr : k ≤ n - o.queued = keeps_fit shut o.discarding (n - o.queued) (length bytes) in
    let lt : o.start < n = fit.inside in let le : o.queued ≤ n = fit.within in
    let w : ring (ring_write b n o.start o.queued bytes k st) b n o.start (o.queued + k) ≡ ring st b n o.start o.queued ++ take k bytes
    = write_read b n o.start o.queued bytes k st area (omega arith) has (omega arith) in
    let wl = write_length b n o.start o.queued bytes k st area (omega arith) has (omega arith) in (
      rw (w, ← some_length bytes) (taken_kept shut (n - o.queued) bytes (ring st b n o.start o.queued) o.closed o.discarding o.truncated t s g),
      record { inside = lt; within = omega arith },
      omega arith,
    )

-- a store that keeps the ring keeps the rest
pub moved : (st st' : List ℕ) (b n : ℕ) (o : Output) (t : Tally) → ring st' b n o.start o.queued ≡ ring st b n o.start o.queued → length st' ≡ length st → Good st b n o t → Good st' b n o t
moved st st' b n o t e l (g, fit, area) = (rw e g, fit, omega arith)

-- at the end of a stream, truncated is what the account says
shorter : (sent rest : List ℕ) → ltb (length sent) (length (sent ++ rest)) ≡ some? rest
shorter sent [] = rw append-nil (le-ltb (length sent) (length sent) (omega arith))
shorter sent (x ∷ rest) = lt-ltb (length sent) (length (sent ++ (x ∷ rest))) (simp length-append (omega arith))

pub cut_is : (st : List ℕ) (b n : ℕ) (o : Output) (t : Tally) → Good st b n o t → ltb 0 o.queued ≡ false → o.truncated ≡ cut t
unfolding cut
cut_is st b n o t (g, fit, area) e = rw (g.flag, g.whole, not_some (ring st b n o.start o.queued) (ring_some st b n o.start o.queued area fit.inside fit.within ∙ e), append-nil, shorter) refl
