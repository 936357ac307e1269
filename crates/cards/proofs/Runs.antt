-- A card that opens a runner: its lines follow the runner, so that demand 3 and the turn, of the list of their calls, hold of them.
use Rattle.std.specs.Prelude.{Option, Some, None}
use mathlib.Core.Bool.{true, false, ◌||◌}
use mathlib.Core.Path.{◌≡◌, refl, sym, ap, ◌∙◌, subst}
use mathlib.Core.List.{List, [], ◌∷◌, ◌++◌}
use mathlib.Core.Logic.{◌⊎◌, inl, inr}
use Prim.Native.Nat.{ℕ}
use native.Mathlib.Omega.{arith}
use lib.Dec.{eqb}
use Rattle.exec.specs.declared.Stream.{Stream}
use Rattle.calls.specs.Call as Call
use Rattle.calls.specs.Call.{Call, Answer, Done}
use Rattle.account.specs.Claim.{Demand3, Opens, is_message, is_terminal, is_stop}
use Rattle.account.specs.Records.{call, run_entries, among}
use Rattle.account.specs.Refused.{of_calls}
use Rattle.account.specs.Step.{State, next, answer, after}
use Rattle.account.specs.TurnClaim as TurnClaim
use Rattle.account.specs.TurnClaim.{taken_in, sent_in}
use Rattle.account.proofs.Demand.{demand3}
use Rattle.account.proofs.Refused.{refusals}
use Rattle.account.proofs.Turn.{turn}
use Rattle.syntax.specs.Lines.{zeros}
use Rattle.opening.specs.Open.{Opening}
use Rattle.grammar.specs.Calls.{made_of}
use Rattle.grammar.specs.Feed.{First, Running, Over, Answered, answer_of, prints}
use Rattle.textlines.specs.Lines.{lines_in}
use Rattle.grammar.specs.ByLine.{Line, lines_from}
use Rattle.grammar.proofs.ByLine.{by_line}
use Rattle.grammar.proofs.Opened.{opened_so, first_line, first_either}
use Rattle.grammar.proofs.Refused.{refused_lines}
use Rattle.cards.specs.Runs.{calls_of, dones_of, entries_of, just_opened, of_lines, of_cards, Demand, Untruncated, Turn, StartsOk, CardRuns, Numbers}
use Rattle.cards.proofs.Lines.{Follow, follow, called, leaves, dones, calls_append, parts, no_call, its_call, Said, bad, made, said, terminal_call, last_silent, entered, entered_append, entries_run, entry_answer, has_entered}

-- ---- numbers

-- 10, 11, 12 and 46 left out
but_stops : (n : ℕ) → among n of_calls ≡ true → (((eqb n 10 || eqb n 11) || eqb n 12) || eqb n 46) ≡ false → among n of_lines ≡ true
but_stops n h k = grind (arith, h, k)

-- 10, 11 and 46 put in
with_stops : (n : ℕ) → among n of_lines ≡ true → among n of_cards ≡ true
with_stops n h = grind (arith, h)

of_first : (n : ℕ) → among n (10 ∷ 11 ∷ 30 ∷ 46 ∷ []) ≡ true → among n of_cards ≡ true
of_first n h = grind (arith, h)

-- ---- of lines from a runner that open answered ok

module _ (o : Opening) (op : Opens o.conf o.now (zeros 65536) (zeros 1024)) where
  abbrev d3 : Demand3 o.conf o.now (zeros 65536) (zeros 1024)
  d3 = demand3 o.conf o.now (zeros 65536) (zeros 1024) op

  abbrev t3 : TurnClaim.Turn o.conf o.now (zeros 65536) (zeros 1024)
  t3 = turn o.conf o.now (zeros 65536) (zeros 1024) op

  abbrev s : State
  s = just_opened o

  -- the state before a line
  abbrev at : List Line → State
  at ls = after s (calls_of ls)

  silent_after : (xs ys zs : List Line) (l m : Line) → Follow s (xs ++ (l ∷ (ys ++ (m ∷ zs)))) → is_terminal l.answer ≡ true → is_message m.answer ≡ false
  silent_after xs ys zs l m f h =
      let p = (parts s xs (l ∷ (ys ++ (m ∷ zs))) f).1 in
      let q = terminal_call (at xs) l p.0 h in
      let g = (parts (next (at xs) q.0) ys (m ∷ zs) (rw q.1 at p.1)).1 in
      by q.0 (sym (ap is_terminal q.2) ∙ h) (said (after (next (at xs) q.0) (calls_of ys)) m g.0)
    where
      by : (b : Call) → is_terminal (answer (at xs) b) ≡ true → Said (after (next (at xs) b) (calls_of ys)) m → is_message m.answer ≡ false
      by b h (bad e a) = ap is_message a
      by b h (made c e a) = ap is_message a ∙ last_silent (next (at xs) b) (calls_of ys) c (d3.once (calls_of xs) b (calls_of ys ++ (c ∷ [])) h)

  refused_by : (xs ys : List Line) (l : Line) (n : ℕ) → Follow s (xs ++ (l ∷ ys)) → l.answer ≡ Call.Refused n → among n of_lines ≡ true
  refused_by xs ys l n f h = by (said (at xs) l (parts s xs (l ∷ ys) f).1.0)
    where
      by : Said (at xs) l → among n of_lines ≡ true
      by (bad e a) = let k : 30 ≡ n = (let z : Call.Refused 30 ≡ Call.Refused n = sym a ∙ h in cc) in subst (λ (k : ℕ). among k of_lines ≡ true) k refl
      by (made c e a) =
          let k : answer (at xs) c ≡ Call.Refused n = sym a ∙ h in
          but_stops n (refusals.call_number (at xs) c n k) (sym (ap is_stop k) ∙ d3.ranged (calls_of xs) c)

  pub of_demand : (ls : List Line) → Follow s ls → Demand o ls
  of_demand ls f = record {
    joined = λ x. rw (dones s ls f) (d3.joined (calls_of ls) x);
    once = λ xs ys zs l m e. silent_after xs ys zs l m (rw e at f);
    marks = λ xs ys l u e h x. (let p = parts s xs (l ∷ ys) (rw e at f) in
        let q = terminal_call (at xs) l p.1.0 (ap is_terminal h) in rw (dones s xs p.0) (d3.marks (calls_of xs) q.0 u (sym q.2 ∙ h) x));
    first = λ xs ys l t k c e m h. (let p = parts s xs (l ∷ ys) (rw e at f) in rw (dones s xs p.0) (d3.first (calls_of xs) t k c (sym (its_call (at xs) l (Call.cancel t k c) p.1.0 m) ∙ h)));
    late = λ xs ys zs l m t n k c e lc la mc below past five. (let p = parts s xs (l ∷ (ys ++ (m ∷ zs))) (rw e at f) in
        let calls = ap calls_of e ∙ calls_append xs (l ∷ (ys ++ (m ∷ zs))) ∙ ap (λ (rest : List Call). calls_of xs ++ (made_of l.call ++ rest)) (calls_append ys (m ∷ zs)) in
        let all : calls_of ls ≡ calls_of xs ++ (Call.cancel t k c ∷ (calls_of ys ++ (Call.tick n ∷ calls_of zs))) = calls ∙ rw (lc, mc) refl in
        rw (dones s ls f, all) (d3.late (calls_of xs) (calls_of ys) (calls_of zs) t n k c (sym (its_call (at xs) l (Call.cancel t k c) p.1.0 lc) ∙ la) below past five));
    numbers = λ xs ys l n e. refused_by xs ys l n (rw e at f);
  }

  -- the entries of lines, and the answer to the call of the next
  told : (ls : List Line) → Follow s ls → run_entries s (entered (calls_of ls)) ≡ entries_of (dones_of ls)
  told ls f = entries_run s (calls_of ls) ∙ ap entries_of (sym (dones s ls f))

  -- a line that is answered by Terminal, as an entry
  record Ends (xs : List Line) (l : Line) : Type 0 where
    pub c : Call
    pub is : l.call ≡ Some c
    pub before : run_entries s (entered (calls_of xs)) ≡ entries_of (dones_of xs)
    pub says : TurnClaim.answer_after o.conf o.now (zeros 65536) (zeros 1024) (entered (calls_of xs)) (call c) ≡ l.answer

  ends : (xs ys : List Line) (l : Line) → Follow s (xs ++ (l ∷ ys)) → is_terminal l.answer ≡ true → Ends xs l
  ends xs ys l f h =
      let p = parts s xs (l ∷ ys) f in
      let q = terminal_call (at xs) l p.1.0 h in
      record { c = q.0; is = q.1; before = told xs p.0; says = entry_answer s (calls_of xs) q.0 ∙ sym q.2 }

  whole : (ls xs : List Line) (x : Stream) → Follow s ls → (u : Untruncated x ls xs) → Ends xs u.line
  whole ls xs x f u = ends xs u.behind u.line (rw u.stands at f) (ap is_terminal u.says)

  pub of_turn : (ls : List Line) → Follow s ls → Turn o ls
  of_turn ls f = record {
    rows = λ x xs u. (let z = whole ls xs x f u in rw (← z.before) (t3.rows (entered (calls_of xs)) (call z.c) u.outcome x (z.says ∙ u.says) u.reports));
    own = λ x xs i u. (let z = whole ls xs x f u in rw (← z.before) (t3.own (entered (calls_of xs)) (call z.c) u.outcome x i (z.says ∙ u.says) u.reports));
    undropped = λ x xs n i u p d. (let z = whole ls xs x f u in
        t3.undropped (entered (calls_of xs)) (call z.c) u.outcome x n i (z.says ∙ u.says) u.reports p (has_entered _ (calls_of xs) d));
    unfailed = λ x xs i u d. (let z = whole ls xs x f u in t3.unfailed (entered (calls_of xs)) (call z.c) u.outcome x i (z.says ∙ u.says) u.reports (has_entered _ (calls_of xs) d));
    final = λ x xs ys l e h. (let z = ends xs ys l (rw e at f) h in
        let calls = ap calls_of e ∙ calls_append xs (l ∷ ys) ∙ ap (λ (k : Option Call). calls_of xs ++ (made_of k ++ calls_of ys)) z.is in
        let all : entered (calls_of ls) ≡ entered (calls_of xs) ++ (call z.c ∷ entered (calls_of ys)) = ap entered calls ∙ entered_append (calls_of xs) (z.c ∷ calls_of ys) in
        rw (← told ls f, ← z.before, all) (t3.final (entered (calls_of xs)) (call z.c) (entered (calls_of ys)) x (ap is_terminal z.says ∙ h)));
  }

-- ---- cards

-- EACH CARD THAT OPENS A RUNNER MAKES ONE OF DEMAND 3'S LISTS AND PRINTS ITS ANSWERS
pub card_runs : (card : List ℕ) → StartsOk (lines_in card) → CardRuns card (prints card)
card_runs card = by (lines_in card) refl
  where
    by : (ls : List (List ℕ)) → lines_in card ≡ ls → StartsOk ls → CardRuns card (prints card)
    by [] e h = absurd h
    by (line ∷ later) e h =
        let x = opened_so line h in
        let first = first_line line x in
        let s = just_opened x.given in
        let rest = lines_from (Running s) later in
        let f : Follow s rest = follow s later in
        record {
          line = line;
          later = later;
          split = e;
          opening = x.given;
          reads = x.reads;
          opens = x.opens;
          rest = rest;
          lines = rw (e, first) refl;
          text = (by_line card).printed ∙ rw (e, first) refl;
          called = called s later;
          answers = dones s rest f;
          leaves = (by_line card).stage ∙ rw (e, first) (leaves s later);
          uncalled = λ xs ys l k. no_call _ l (parts s xs (l ∷ ys) (rw k at f)).1.0;
          demand = λ ls ms k. of_demand x.given x.opens ls (parts s ls ms (rw k at f)).0;
          turn = λ ls ms k. of_turn x.given x.opens ls (parts s ls ms (rw k at f)).0;
        }

-- the lines behind a first one that opened no runner
over_lines : (ls : List (List ℕ)) (xs ys : List Line) (l : Line) → lines_from Over ls ≡ xs ++ (l ∷ ys) → l.answer ≡ Call.Refused 30
over_lines [] [] ys l e = cc
over_lines [] (a ∷ xs) ys l e = cc
over_lines (x ∷ ls) [] ys l e =
    let h : record { call = None; answer = (answer_of Over x).answer } ∷ lines_from (answer_of Over x).stage ls ≡ l ∷ ys = e in
    let k : record { call = None; answer = (answer_of Over x).answer } ≡ l = cc in sym (ap (λ (m : Line). m.answer) k) ∙ ap (λ (a : Answered). a.answer) (refused_lines.over x)
over_lines (x ∷ ls) (a ∷ xs) ys l e =
    let h : record { call = None; answer = (answer_of Over x).answer } ∷ lines_from (answer_of Over x).stage ls ≡ a ∷ (xs ++ (l ∷ ys)) = e in
    let k : lines_from (answer_of Over x).stage ls ≡ xs ++ (l ∷ ys) = cc in over_lines ls xs ys l (rw (refused_lines.over x) at k)

-- WHAT THE LINES OF ANY CARD ARE REFUSED BY
pub numbers : (card : List ℕ) → Numbers card
numbers card xs ys l n e h = by (lines_in card) xs e
  where
    first : (line : List ℕ) (later : List (List ℕ)) → l ≡ record { call = None; answer = (answer_of First line).answer } → among n of_cards ≡ true
    first line later k = of_first n (refused_lines.unopened line n (sym (ap (λ (m : Line). m.answer) k) ∙ h)).1

    behind : (line : List ℕ) (later : List (List ℕ)) (zs : List Line) → lines_from (answer_of First line).stage later ≡ zs ++ (l ∷ ys)
        → among n of_cards ≡ true
    behind line later zs k = choose (first_either line)
      where
        choose : ((answer_of First line).answer ≡ Call.Ok) ⊎ ((m : ℕ) × ((answer_of First line).answer ≡ Call.Refused m)) → among n of_cards ≡ true
        choose (inl o) =
            let x = opened_so line o in
            let f = follow (just_opened x.given) later in
            let q : lines_from (Running (just_opened x.given)) later ≡ zs ++ (l ∷ ys) = rw (first_line line x) at k in
            with_stops n (refused_by x.given x.opens zs ys l n (rw q at f) h)
        choose (inr r) =
            let q : lines_from Over later ≡ zs ++ (l ∷ ys) = rw (refused_lines.unopened line r.0 r.1).0 at k in
            let z : 30 ≡ n = (let w : Call.Refused 30 ≡ Call.Refused n = sym (over_lines later zs ys l q) ∙ h in cc) in
            subst (λ (m : ℕ). among m of_cards ≡ true) z refl

    by : (ls : List (List ℕ)) (zs : List Line) → lines_from First ls ≡ zs ++ (l ∷ ys) → among n of_cards ≡ true
    by [] [] k = cc
    by [] (a ∷ zs) k = cc
    by (line ∷ later) [] k = first line later (let q : record { call = None; answer = (answer_of First line).answer } ∷ lines_from (answer_of First line).stage later ≡ l ∷ ys = k in cc)
    by (line ∷ later) (a ∷ zs) k = behind line later zs (let q : record { call = None; answer = (answer_of First line).answer } ∷ lines_from (answer_of First line).stage later ≡ a ∷ (zs ++ (l ∷ ys)) = k in cc)
