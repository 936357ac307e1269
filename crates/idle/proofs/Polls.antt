-- A host that misses no deadline is answered as one that ticks at every instant.
use Rattle.std.specs.Prelude.{Option, Some, None}
use mathlib.Core.Bool.{Bool, true, false, cond, true≢false}
use mathlib.Core.Path.{◌≡◌, refl, sym, ◌∙◌, ap, subst, subst⁻¹}
use mathlib.Core.List.{List, [], ◌∷◌}
use Prim.Native.Nat.{ℕ, zero, suc, ◌+◌, ◌≤◌}
use native.Mathlib.Omega.{arith}
use lib.Dec.{leb}
use borrow.Author.Tests.{ltb-true, ltb-false, lt-ltb, leb-true, leb-false, le-leb}
use Rattle.calls.specs.Call as Call
use Rattle.calls.specs.Call.{Conf, Answer}
use Rattle.account.specs.Step.{State, next, opened}
use Rattle.account.specs.Records.{Entry, EntryDone, call, next_entry, answer_entry, after_entries}
use Rattle.idle.specs.IdleClaim.{Woven, made, idle, woven, amid, reported, is_before}
use Rattle.idle.specs.PollClaim.{Beat, ticking, polled, after_ticks, is_by, Punctual, AllPunctual, instants, at_every_instant, if_due, dues, dues_of, at_deadlines, when_due, Polls}
use Rattle.idle.proofs.Calm.{calm_s}
use Rattle.idle.proofs.Idle.{alike_left, alike_answer, alike_reported, idle_still, reported_later}

-- ---- before a deadline, and at it

-- what is before it is by it one instant later
next_by : (t : ℕ) (d : Option ℕ) → is_before t d ≡ true → is_by (suc t) d ≡ true
next_by t None h = refl
next_by t (Some d) h = le-leb (suc t) d (omega (arith, ltb-true t d h))

by_before : (t : ℕ) (d : Option ℕ) → is_by (suc t) d ≡ true → is_before t d ≡ true
by_before t None h = refl
by_before t (Some d) h = lt-ltb t d (omega (arith, leb-true (suc t) d h))

by_less : (u t : ℕ) (d : Option ℕ) → u ≤ t → is_by t d ≡ true → is_by u d ≡ true
by_less u t None l h = refl
by_less u t (Some d) l h = le-leb u d (omega (arith, leb-true t d h))

from_zero : (d : Option ℕ) → is_by 0 d ≡ true
from_zero None = refl
from_zero (Some d) = le-leb 0 d (omega arith)

earlier : (u t : ℕ) (d : Option ℕ) → u ≤ t → is_before t d ≡ true → is_before u d ≡ true
earlier u t None l h = refl
earlier u t (Some d) l h = lt-ltb u d (omega (arith, ltb-true t d h))

-- by it and not before it: at it
at_it : (t : ℕ) (d : Option ℕ) → is_by t d ≡ true → is_before t d ≡ false → d ≡ Some t
at_it t None h k = absurd (true≢false k)
at_it t (Some d) h k = ap Some (omega (arith, leb-true t d h, ltb-false t d k))

abbrev at_of : Option ℕ → ℕ
at_of None = 0
at_of (Some d) = d

-- ---- up to an entry: s is the host's, t that of the one that ticks at every instant

module _ (clock : ℕ) where
  -- the clock has not reached the deadline: every tick up to it is idle
  unreached : (ts : List ℕ) (s t : State) → calm_s s ≡ calm_s t → is_before clock (reported t) ≡ true → Punctual clock s ts → calm_s (after_ticks s ts) ≡ calm_s t
  unreached [] s t h b p = h
  unreached (n ∷ ts) s t h b p =
      let i = idle_still n s (earlier n clock (reported s) p.0 (subst⁻¹ (λ (d : (Option ℕ)). is_before clock d ≡ true) (alike_reported s t h) b)) in
      unreached ts (next s (Call.tick n)) t (i ∙ h) b p.2

  -- it has: of the ticks up to it the first that is not idle is at the deadline
  caught : (u : ℕ) (t end : State) → reported t ≡ Some u → u ≤ clock
      → ((ts : List ℕ) (s : State) → calm_s s ≡ calm_s (next t (Call.tick u)) → Punctual clock s ts → calm_s (after_ticks s ts) ≡ calm_s end)
      → (ts : List ℕ) (s : State) → calm_s s ≡ calm_s t → Punctual clock s ts → calm_s (after_ticks s ts) ≡ calm_s end
  unfolding next_entry
  caught u t end d l on [] s h p =
      absurd (let e = subst (λ (x : (Option ℕ)). is_before clock x ≡ true) (alike_reported s t h ∙ d) p in omega (arith, ltb-true clock u e))
  caught u t end d l on (n ∷ ts) s h p =
      by (is_before n (reported s)) refl (λ e. caught u t end d l on ts (next s (Call.tick n)) (idle_still n s e ∙ h) p.2)
    where
      by : (b : Bool) → is_before n (reported s) ≡ b → (is_before n (reported s) ≡ true → calm_s (after_ticks (next s (Call.tick n)) ts) ≡ calm_s end) → calm_s (after_ticks (next s (Call.tick n)) ts) ≡ calm_s end
      by true e skip = skip e
      by false e skip =
          let k : Some n ≡ Some u = sym (at_it n (reported s) p.1 e) ∙ alike_reported s t h ∙ d in
          let m : n ≡ u = ap at_of k in
          on ts (next s (Call.tick n)) (alike_left s t h (call (Call.tick n)) ∙ ap (λ (x : ℕ). calm_s (next t (Call.tick x))) m) p.2

  polled_alike : (n u : ℕ) (ts : List ℕ) (s t : State) → calm_s s ≡ calm_s t → is_by u (reported t) ≡ true → u + n ≡ suc clock → Punctual clock s ts
      → calm_s (after_ticks s ts) ≡ calm_s (after_ticks t (instants u n))
  polled_alike zero u ts s t h b e p =
      let z : u ≡ suc clock = omega (arith, e) in
      unreached ts s t h (by_before clock (reported t) (subst (λ (x : ℕ). is_by x (reported t) ≡ true) z b)) p
  polled_alike (suc n) u ts s t h b e p =
      by (is_before u (reported t)) refl
      (λ vs v g q. polled_alike n (suc u) vs v (next t (Call.tick u)) g (next_by u (reported (next t (Call.tick u))) (reported_later u t)) (omega (arith, e)) q)
    where
      end : State
      end = after_ticks (next t (Call.tick u)) (instants (suc u) n)

      by : (x : Bool) → is_before u (reported t) ≡ x → ((vs : List ℕ) (v : State) → calm_s v ≡ calm_s (next t (Call.tick u)) → Punctual clock v vs → calm_s (after_ticks v vs) ≡ calm_s end)
          → calm_s (after_ticks s ts) ≡ calm_s end
      by true k on = on ts s (h ∙ sym (idle_still u t k)) p
      by false k on = caught u t end (at_it u (reported t) b k) (omega (arith, e)) on ts s h p

  -- ticking at every instant up to it misses none
  every_punctual : (n u : ℕ) (s : State) → is_by u (reported s) ≡ true → u + n ≡ suc clock → Punctual clock s (instants u n)
  every_punctual zero u s b e =
      let z : u ≡ suc clock = omega (arith, e) in by_before clock (reported s) (subst (λ (x : ℕ). is_by x (reported s) ≡ true) z b)
  every_punctual (suc n) u s b e = (
    omega (arith, e),
    b,
    every_punctual n (suc u) (next s (Call.tick u)) (next_by u (reported (next s (Call.tick u))) (reported_later u s)) (omega (arith, e)),
  )

  -- nor does ticking at the deadlines that it has reached
  due_at : (s : State) (d : ℕ) (ts : List ℕ) (b : Bool) → leb d clock ≡ b → reported s ≡ Some d → Punctual clock (next s (Call.tick d)) ts → Punctual clock s (cond b (d ∷ ts) [])
  due_at s d ts true k r p = (leb-true d clock k, ap (is_by d) r ∙ le-leb d d (omega arith), p)
  due_at s d ts false k r p = ap (is_before clock) r ∙ lt-ltb clock d (leb-false d clock k)

  if_due_lem : (s : State) (ts : ℕ → List ℕ) (x : (Option ℕ)) → reported s ≡ x → ((d : ℕ) → x ≡ Some d → Punctual clock (next s (Call.tick d)) (ts d)) → Punctual clock s (if_due x clock (λ (d : ℕ). d ∷ ts d))
  if_due_lem s ts None r on = ap (is_before clock) r
  if_due_lem s ts (Some d) r on = due_at s d (ts d) (leb d clock) refl r (on d refl)

  dues_punctual : (n u : ℕ) (s : State) → is_by u (reported s) ≡ true → suc clock ≤ u + n → Punctual clock s (dues n clock s)
  dues_punctual zero u s b e = by_before clock (reported s) (by_less (suc clock) u (reported s) (omega (arith, e)) b)
  dues_punctual (suc n) u s b e =
      if_due_lem s (λ (d : ℕ). dues n clock (next s (Call.tick d))) (reported s) refl
      (λ d r.
      dues_punctual n (suc d) (next s (Call.tick d)) (next_by d (reported (next s (Call.tick d))) (reported_later d s))
      (omega (arith, e, leb-true u d (subst (λ (x : (Option ℕ)). is_by u x ≡ true) r b))))

-- ---- a list

ticking_amid : (ts : List ℕ) (ws : List Woven) (s : State) → amid s (ticking ts ws) ≡ amid (after_ticks s ts) ws
unfolding next_entry
ticking_amid [] ws s = refl
ticking_amid (t ∷ ts) ws s = ticking_amid ts ws (next s (Call.tick t))

ticking_after : (ts : List ℕ) (ws : List Woven) (s : State) → after_entries s (woven (ticking ts ws)) ≡ after_entries (after_ticks s ts) (woven ws)
unfolding next_entry
ticking_after [] ws s = refl
ticking_after (t ∷ ts) ws s = ticking_after ts ws (next s (Call.tick t))

-- one tick more than its clock shows instants before now
abbrev up_to : ℕ → List ℕ
up_to clock = instants 0 (suc clock)

polls_list : (bs : List Beat) (s t : State) → calm_s s ≡ calm_s t → AllPunctual s bs
    → (amid s (polled bs) ≡ amid t (polled (at_every_instant bs))) × (calm_s (after_entries s (woven (polled bs))) ≡ calm_s (after_entries t (woven (polled (at_every_instant bs)))))
polls_list [] s t h p = (refl, h)
polls_list (b ∷ bs) s t h p =
    let e : Entry = b.entry in
    let v : State = after_ticks s b.ticks in let w : State = after_ticks t (up_to b.clock) in
    let k : calm_s v ≡ calm_s w = polled_alike b.clock (suc b.clock) 0 b.ticks s t h (from_zero (reported t)) (omega arith) p.0 in
    let l = polls_list bs (next_entry v e) (next_entry w e) (alike_left v w k e) p.1 in (
      ticking_amid b.ticks (made e ∷ polled bs) s
          ∙ ap (λ (x : Answer). record { entry = e; answer = x } ∷ amid (next_entry v e) (polled bs)) (alike_answer v w k e)
          ∙ ap (λ (ds : List EntryDone). record { entry = e; answer = answer_entry w e } ∷ ds) l.0
          ∙ sym (ticking_amid (up_to b.clock) (made e ∷ polled (at_every_instant bs)) t),
      ap calm_s (ticking_after b.ticks (made e ∷ polled bs) s) ∙ l.1 ∙ ap calm_s (sym (ticking_after (up_to b.clock) (made e ∷ polled (at_every_instant bs)) t)),
    )

every_list : (bs : List Beat) (s : State) → AllPunctual s (at_every_instant bs)
every_list [] s = tt
every_list (b ∷ bs) s =
    (every_punctual b.clock (suc b.clock) 0 s (from_zero (reported s)) (omega arith), every_list bs (next_entry (after_ticks s (up_to b.clock)) b.entry))

dues_list : (bs : List Beat) (s : State) → AllPunctual s (at_deadlines s bs)
dues_list [] s = tt
dues_list (b ∷ bs) s =
    (dues_punctual b.clock (suc b.clock) 0 s (from_zero (reported s)) (omega arith), dues_list bs (next_entry (after_ticks s (dues_of s b)) b.entry))

-- who ticks at every instant ticks at the same ones, whatever the ticks were before
every_same : (bs : List Beat) (s : State) → at_every_instant (at_deadlines s bs) ≡ at_every_instant bs
every_same [] s = refl
every_same (b ∷ bs) s =
    ap (λ (cs : List Beat). record { ticks = up_to b.clock; clock = b.clock; entry = b.entry } ∷ cs) (every_same bs (next_entry (after_ticks s (dues_of s b)) b.entry))

-- ---- picks: s is the run that spares, t the one that ticks on every pick

spared : (ws : List Woven) (s t : State) → calm_s s ≡ calm_s t → amid s (when_due s ws) ≡ amid t ws
unfolding next_entry
spared [] s t h = refl
spared (made e ∷ ws) s t h =
    ap (λ (x : Answer). record { entry = e; answer = x } ∷ amid (next_entry s e) (when_due (next_entry s e) ws)) (alike_answer s t h e)
    ∙ ap (λ (ds : List EntryDone). record { entry = e; answer = answer_entry t e } ∷ ds) (spared ws (next_entry s e) (next_entry t e) (alike_left s t h e))
spared (idle n ∷ ws) s t h =
    by (is_before n (reported s)) refl (λ k. spared ws s (next t (Call.tick n)) k) (spared ws (next s (Call.tick n)) (next t (Call.tick n)) (alike_left s t h (call (Call.tick n))))
  where
    by : (b : Bool) → is_before n (reported s) ≡ b → (calm_s s ≡ calm_s (next t (Call.tick n)) → amid s (when_due s ws) ≡ amid (next t (Call.tick n)) ws)
        → amid (next s (Call.tick n)) (when_due (next s (Call.tick n)) ws) ≡ amid (next t (Call.tick n)) ws
        → amid s (cond b (when_due s ws) (idle n ∷ when_due (next s (Call.tick n)) ws)) ≡ amid (next t (Call.tick n)) ws
    by true e skip tick = skip (h ∙ sym (idle_still n t (subst (λ (d : (Option ℕ)). is_before n d ≡ true) (alike_reported s t h) e)))
    by false e skip tick = tick

-- ---- from open

module _ (conf : Conf) (now : ℕ) (bytes lengths : List ℕ) where
  abbrev begins : State
  begins = opened conf now bytes lengths

  -- HOW OFTEN TO TICK
  pub polls : Polls conf now bytes lengths
  polls = record {
    answers = λ bs p. (polls_list bs begins begins refl p).0;
    stores = λ bs p.
        let k = (polls_list bs begins begins refl p).1 in (ap (λ (x : State). x.bytes) k, ap (λ (x : State). x.lengths) k);
    every = λ bs. every_list bs begins;
    only = λ bs. dues_list bs begins;
    both = λ bs.
        (polls_list (at_deadlines begins bs) begins begins refl (dues_list bs begins)).0 ∙ ap (λ (cs : List Beat). amid begins (polled cs)) (every_same bs begins);
    picks = λ ws. spared ws begins begins refl;
    later = λ es t. reported_later t (after_entries begins es);
  }
