-- Over lists: what a write comes to of the frames that calls and answers tell, and all writes together; and the claim put together.
use Rattle.std.specs.Prelude.{◌≡◌, refl, Bool, true, false, List, [], ◌∷◌, ℕ, ◌+◌, ◌-◌, ◌≤◌, min}
use Rattle.std.proofs.Common.{sym, ap, ◌∙◌, arith}
use mathlib.Core.Path.{subst⁻¹}
use Rattle.std.proofs.lemmas.Bool.Decides.{nat_tests}
use Rattle.exec.specs.declared.Limits.{Limits}
use Rattle.exec.specs.declared.Unit as Units
use Rattle.exec.specs.declared.Unit.TheVariants.{Bytes, Frames}
use Rattle.ring.specs.Frames.{came_of, sum}
use Rattle.ring.specs.RingLaws.{read_none}
use Rattle.inbox.specs.PopLaws.{popped}
use Rattle.input.specs.declared.Input.{Input}
use Rattle.input.specs.Input.{written_came}
use Rattle.runner.specs.Range.{fresh}
use Rattle.calls.specs.Call.{Conf, Call, Answer, Came, Done, input_written}
use Rattle.account.specs.Claim.{Opens}
use Rattle.account.specs.Step as Step
use Rattle.account.specs.Step.{State}
use Rattle.account.specs.Records.{Entry, after_entries, run_entries, calls_of, dones_of}
use Rattle.account.proofs.Plain.{next, answer, begun, after_all, run}
use Rattle.account.proofs.InputRange.{All, more, HeldIn}
use Rattle.account.proofs.Range.{RangedS, range_next, opened_range, list_range}
use Rattle.account.proofs.Finish.{framed, framed_conf, conf_list}
use Rattle.account.proofs.Late.{opened_conf}
use Rattle.account.proofs.Demand.{same_after, same_run, lent_open}
use Rattle.account.proofs.Records.{same_dones, good_open, good_at, to_calls}
use Rattle.budget.specs.BudgetClaim.{told_of, write_of, came, frames, writes, left_by, left, Budget}
use Rattle.budget.proofs.Writes.{written, told}
use Rattle.budget.proofs.Goes.{Emptied, frames_in, goes, written_exactly}

-- ---- all writes together

write_is : (a : Answer) → write_of a ≡ min (told_of a) 1
write_is a = grind (arith, nat_tests)

-- where all come to a frame, a write does
some_write : (ds : List Done) → min (came ds) 1 ≤ writes ds
some_write [] = omega arith
some_write (d ∷ ds) = omega (arith, write_is d.answer, some_write ds)

come : (cs : List Call) (s : State) → came (run s cs) ≤ s.runner.input.inbox.frames + (frames (run s cs) + (writes (run s cs) - 1))
come [] s = omega arith
come (c ∷ cs) s =
    let g = goes c s in
    omega (arith, g.most, g.left, write_is (answer s c), some_write (run (next s c) cs), come cs (next s c))

-- ---- a closed input

emptied : (cs : List Call) (s : State) → Emptied s.runner.input → Emptied (after_all s cs).runner.input
emptied [] s h = h
emptied (c ∷ cs) s h = emptied cs (next s c) ((goes c s).emptied h)

-- ---- the frames that wait

record Leaves (l : Limits) (i : Input) (lengths' : List ℕ) (i' : Input) (gs : List ℕ) : Type 0 where
  was : i'.closed ≡ false → i.closed ≡ false
  wait : i'.closed ≡ false → l.input.unit ≡ Frames → frames_in l lengths' i' ≡ gs

leaves : (l : Limits) (cs : List Call) (s : State) → s.runner.limits ≡ l → RangedS s
    → Leaves l s.runner.input (after_all s cs).lengths (after_all s cs).runner.input (left (frames_in l s.lengths s.runner.input) (run s cs))
leaves l [] s e h = record { was = λ z. z; wait = λ z u. refl }
leaves l (c ∷ cs) s e h =
    let g = goes c s in
    let one : (next s c).runner.input.closed ≡ false → l.input.unit ≡ Frames
    → frames_in l (next s c).lengths (next s c).runner.input ≡ left_by c (answer s c) (frames_in l s.lengths s.runner.input) = rw (sym e) (g.wait h.2.0) in
    let rest = leaves l cs (next s c) (ap (λ (x : Conf). x.limits) (framed_conf (framed c s)) ∙ e) (range_next c s h) in record {
      was = λ z. g.was (rest.was z);
      wait = λ z u. rest.wait z u ∙ ap (λ (fs : List ℕ). left fs (run (next s c) cs)) (one (rest.was z) u);
    }

-- no more come to than bytes are written, as each has one
of_list : (most : ℕ) (fs : List ℕ) (n : ℕ) → All most fs → came_of fs n ≤ n
unfolding came_of
of_list most [] n a = omega arith
of_list most (f ∷ fs) n (more some h a) = grind (arith, nat_tests, some, of_list most fs (n - f) a)

few : (l : Limits) (i : Input) (n : ℕ) (lengths : List ℕ) → HeldIn l.input.unit l lengths i → written_came l i n lengths ≤ n
few l i n lengths h = by l.input.unit i.closed refl refl h
  where
    by : (u : Units.Unit) (c : Bool) → l.input.unit ≡ u → i.closed ≡ c → HeldIn u l lengths i → written_came l i n lengths ≤ n
    by Bytes c e d h' = omega (arith, (written l i n lengths).write.bytes e)
    by Frames true e d h' = omega (arith, (written l i n lengths).write.closed d)
    by Frames false e d h' =
        let fs = frames_in l lengths i in
        omega (arith, written_exactly l lengths i n h e d, of_list l.chunk fs (min n (sum fs)) h'.2)

-- ---- from open

module _ (conf : Conf) (now : ℕ) (bytes lengths : List ℕ) (op : Opens conf now bytes lengths) where
  abbrev o : State
  o = Step.opened conf now bytes lengths

  abbrev plain : State
  plain = begun conf now bytes lengths

  ranged : RangedS plain
  ranged = opened_range conf now bytes lengths (lent_open conf now bytes lengths op)

  abbrev calls : List Entry → List Call
  calls es = calls_of conf (run_entries o es)

  -- a list with records, or RFC 9113's frames, is the list of its calls
  after_is : (es : List Entry) → after_entries o es ≡ after_all plain (calls es)
  after_is es = to_calls conf now bytes lengths op es ∙ same_after conf now bytes lengths op (calls es)

  dones_are : (es : List Entry) → dones_of conf (run_entries o es) ≡ run plain (calls es)
  dones_are es = same_dones conf es o (good_open conf now bytes lengths op) ∙ same_run conf now bytes lengths op (calls es)

  emptied_at : (es : List Entry) → Emptied (after_entries o es).runner.input
  unfolding fresh
  emptied_at es = rw (after_is es) (emptied (calls es) plain (λ e. refl))

  all_at : (es : List Entry) → let ds = dones_of conf (run_entries o es) in came ds ≤ frames ds + (writes ds - 1)
  unfolding fresh
  all_at es =
      let none : plain.runner.input.inbox.frames ≡ 0 = refl in
      rw (dones_are es) (omega (arith, none, come (calls es) plain))

  few_at : (es : List Entry) (n m : ℕ) → Step.answer (after_entries o es) (input_written n) ≡ Came m → m ≤ n
  few_at es n m e =
      let s = after_entries o es in
      omega (arith, told s n m e, few s.runner.limits s.runner.input n s.lengths (good_at conf now bytes lengths op es).fine.sound.ranged.2.0)

  exactly : (cs : List Call) (n : ℕ) → let s = after_all plain cs in let fs = left [] (run plain cs) in
      conf.limits.input.unit ≡ Frames → s.runner.input.closed ≡ false → written_came s.runner.limits s.runner.input n s.lengths ≡ came_of fs (min n (sum fs))
  unfolding fresh
  exactly cs n u z =
      let s = after_all plain cs in
      let same : s.runner.limits ≡ conf.limits = ap (λ (x : Conf). x.limits) (conf_list cs plain ∙ opened_conf conf now bytes lengths) in
      let wait : frames_in conf.limits s.lengths s.runner.input ≡ left [] (run plain cs) = (leaves conf.limits cs plain refl ranged).wait z u
      ∙ ap (λ (fs : List ℕ). left fs (run plain cs)) (read_none 0 conf.limits.input.size 0 lengths) in
      written_exactly s.runner.limits s.lengths s.runner.input n (list_range cs plain ranged).2.0 (ap (λ (x : Limits). x.input.unit) same ∙ u) z
      ∙ ap (λ (fs : List ℕ). came_of fs (min n (sum fs))) (ap (λ (x : Limits). frames_in x s.lengths s.runner.input) same ∙ wait)

  exact_at : (es : List Entry) (n m : ℕ) → let s = after_entries o es in let fs = left [] (dones_of conf (run_entries o es)) in
      conf.limits.input.unit ≡ Frames → s.runner.input.closed ≡ false → Step.answer s (input_written n) ≡ Came m → m ≡ came_of fs (min n (sum fs))
  exact_at es n m u z e =
      let gs : List ℕ = left [] (run plain (calls es)) in
      sym (told (after_entries o es) n m e)
      ∙ subst⁻¹ (λ (s : State). s.runner.input.closed ≡ false → written_came s.runner.limits s.runner.input n s.lengths ≡ came_of gs (min n (sum gs)))
      (after_is es) (exactly (calls es) n u) z
      ∙ ap (λ (ds : List Done). came_of (left [] ds) (min n (sum (left [] ds)))) (sym (dones_are es))

  pub budget : Budget conf now bytes lengths
  budget = record {
    exact = exact_at;
    emptied = emptied_at;
    nothing = λ es count c. (let s = after_entries o es in (popped s.runner.limits s.runner.input.inbox count s.lengths).none (omega (arith, emptied_at es c)));
    few = few_at;
    all = all_at;
  }
