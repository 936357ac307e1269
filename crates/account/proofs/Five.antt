-- The fourth part: Terminal by message 3 + the number of streams after the late tick.
use Rattle.output.specs.Outputs.{notes}
use Rattle.output.specs.Output.{over as over_output, ended_out}
use Rattle.std.specs.Prelude.{Option, Result, Some, None, Ok, Err}
use Rattle.exec.specs.declared.Admission.TheVariants.{Own, Stale}
use Rattle.exec.specs.declared.Admission.{Admission}
use Rattle.exec.specs.declared.Receipt.{Receipt}
use Rattle.exec.specs.declared.Refusal.{Refusal}
use mathlib.Core.Bool.{Bool, true, false, cond, not, ◌&&◌, ◌||◌, true≢false, or-true}
use mathlib.Core.Path.{◌≡◌, refl, sym, ap, ◌∙◌, subst⁻¹}
use mathlib.Core.List.{List, [], ◌∷◌}
use Prim.Native.Nat.{ℕ, suc, ◌+◌, ◌≤◌, ◌<◌, ◌^◌, min}
use native.Mathlib.Omega.{arith}
use native.Mathlib.Nat.{le_refl}
use lib.Dec.{ltb}
use lib.ListN.{length}
use borrow.Author.Tests.{le-leb, ltb-true, ltb-false}
use Rattle.exec.specs.declared.Cause.{Cause}
use Rattle.exec.specs.declared.Key.{Key}
use Rattle.exec.specs.declared.Stream.{Stream}
use Rattle.exec.specs.declared.Stream.TheVariants.{Stdout, Stderr, Notes}
use Rattle.exec.specs.declared.Unit as Units
use Rattle.exec.specs.declared.Unit.TheVariants.{Bytes, Frames}
use Rattle.choice.specs.declared.Choice.{Choice}
use Rattle.input.specs.declared.Input.{Input}
use Rattle.runner.specs.declared.runner.Runner.{Runner}
use Rattle.choice.specs.Order.{if_else, order}
use Rattle.exec.specs.Time.{after, then, earliest, due, after_at}
use Rattle.exec.specs.Key.{admits}
use Rattle.exec.specs.Limits.{pool_of, has_notes, streams}
use Rattle.exec.specs.Stream.{stream_at, following}
use Rattle.credit.specs.Sender.{sendable}
use Rattle.input.specs.Input.{close_input}
use Rattle.runner.specs.State.{out_of, credit_at}
use Rattle.runner.specs.Life as Life
use Rattle.runner.specs.Life.{is_cleaned_up, end_grace, give_up, begin_termination, pass_grace, terminate, ticked, is_ready, cancel_answer}
use Rattle.runner.specs.Message.{sendable_of, choose, effect}
use Rattle.calls.specs.Call as Call
use Rattle.calls.specs.Call.{Call}
use Rattle.account.specs.Step.{State, received_as}
use Rattle.account.proofs.Plain.{said, next, answer, after_all, run}
use Rattle.account.proofs.Stages.{grace_if, terminate_if, give_up_if, stage1, stage2, stage3, stage4, tick_if, tick_is, cancel_if, late, cancel_next}
use Rattle.account.specs.Claim.{is_terminal, any_terminal, messages, counts_message}
use Rattle.account.proofs.Lives.{tick_fin, ticked_frame, cancel_frame, Frame}
use Rattle.account.proofs.Finish.{ends_by}
use Rattle.account.proofs.Timing.{low_next, low_timeout, low_grace, low_settle, low_abandon}
use Rattle.std.proofs.lemmas.Bool.{or_parts}
use Rattle.account.proofs.Phase.{Either, left, right, Dry, AllKnown, Phase, left_over, cleaned_known, known_given, dry_given, dry_grace, bit}

-- ---- the two phases

-- a time at or before the sum
abbrev pub Soon : ℕ → Option ℕ → Type 0
Soon sum None = ⊥
Soon sum (Some g) = g ≤ sum

abbrev pub Gone : Option ℕ → Type 0
Gone d = ⊥

soon_if : (sum x y : ℕ) (t : Bool) → ltb y x ≡ t → x ≤ sum → Soon sum (cond t (Some y) (Some x))
soon_if sum x y true e h = let z = ltb-true y x e in omega arith
soon_if sum x y false e h = h

pub soon_lower : (sum : ℕ) (d e : Option ℕ) → Soon sum d → Soon sum (earliest d e)
soon_lower sum None e h = absurd h
soon_lower sum (Some x) None h = h
soon_lower sum (Some x) (Some y) h = soon_if sum x y (ltb y x) refl h

pub gone_lower : (d e : Option ℕ) → Gone d → Gone (earliest d e)
gone_lower d e h = absurd h

soon_due : (sum now : ℕ) (d : Option ℕ) → sum ≤ now → Soon sum d → due d now ≡ true
soon_due sum now None l h = absurd h
soon_due sum now (Some g) l h = le-leb g now (omega arith)

abbrev pub Before : ℕ → Runner → Type 0
Before sum s = Phase (Soon sum) s

abbrev pub After : Runner → Type 0
After s = Phase Gone s

-- ---- the late tick

dry_if : (b : Bool) (s : Runner) → Dry s → Dry (grace_if b s)
unfolding end_grace
dry_if false s d = d
dry_if true s d = dry_grace s

dry_now : (s : Runner) → Dry (grace_if true s)
unfolding end_grace
dry_now s = dry_grace s

dry_stage : (sum now : ℕ) (s : Runner) → sum ≤ now → Either (Soon sum s.clocks.grace_until) (Dry s) → Dry (stage2 now s)
dry_stage sum now s l (left p) = subst⁻¹ (λ (b : Bool). Dry (grace_if b s)) (soon_due sum now s.clocks.grace_until l p) (dry_now s)
dry_stage sum now s l (right d) = dry_if (due s.clocks.grace_until now) s d

dry_give_up : (b c : Bool) (s : Runner) → Dry s → Dry (give_up_if b c s)
unfolding give_up
dry_give_up false c s d = d
dry_give_up true true s d = d
dry_give_up true false s d = dry_given s

known_give_up : (b c : Bool) (s : Runner) → AllKnown s → AllKnown (give_up_if b c s)
unfolding give_up
known_give_up false c s d = d
known_give_up true true s d = d
known_give_up true false s d = known_given s

known_now : (c : Bool) (s : Runner) → is_cleaned_up s ≡ c → AllKnown (give_up_if true c s)
unfolding give_up
known_now true s e = cleaned_known s e
known_now false s e = known_given s

known_stage : (sum now : ℕ) (s : Runner) → sum ≤ now → Either (Soon sum s.clocks.give_up_at) (AllKnown s) → AllKnown (stage4 now s)
known_stage sum now s l (left p) = subst⁻¹ (λ (b : Bool). AllKnown (give_up_if b (is_cleaned_up s) s)) (soon_due sum now s.clocks.give_up_at l p) (known_now (is_cleaned_up s) s refl)
known_stage sum now s l (right d) = known_give_up (due s.clocks.give_up_at now) (is_cleaned_up s) s d

kept_give_up : (b c : Bool) (s : Runner) → (s.input.closed ≡ true) × (s.clocks.terminated ≡ true) → ((give_up_if b c s).input.closed ≡ true) × ((give_up_if b c s).clocks.terminated ≡ true)
unfolding give_up
kept_give_up false c s h = h
kept_give_up true true s h = h
kept_give_up true false s h = h

tick_late : (sum now : ℕ) (f : Bool) (s : Runner) → f ≡ false → sum ≤ now → Before sum s → After (tick_if f now s)
tick_late sum now true s f l h = absurd (true≢false f)
tick_late sum now false s f l h =
    let s1 : Runner = stage1 now s in let s2 : Runner = stage2 now s1 in let s3 : Runner = stage3 now s2 in let s4 : Runner = stage4 now s3 in
    let h1 : Before sum s1 = (low_timeout (Soon sum) (soon_lower sum) (due s.clocks.timeout_at now) now s h).hold in
    let h2 : Before sum s2 = (low_grace (Soon sum) (soon_lower sum) (due s1.clocks.grace_until now) s1 h1).hold in
    let d2 : Dry s2 = dry_stage sum now s1 l h1.2 in
    let h3 : Before sum s3 = (low_settle (Soon sum) (soon_lower sum) now s2 h2).hold in
    let k4 = kept_give_up (due s3.clocks.give_up_at now) (is_cleaned_up s3) s3 (h3.0, h3.1) in
    let h4 : After s4 = (k4.0, k4.1, right (dry_give_up (due s3.clocks.give_up_at now) (is_cleaned_up s3) s3 d2), right (known_stage sum now s3 l h3.3)) in
    (low_abandon Gone gone_lower (due s4.clocks.abandon_at now) s4 h4).hold

-- ---- the Applied cancel

closed_if : (b d : Bool) (i : Input) → i.closed ≡ b → (close_input i d).closed ≡ true
closed_if true d i e = rw e refl
closed_if false d i e = rw e refl

soon_after : (sum now g st : ℕ) → now + g + st < 2 ^ 64 → now + g + st ≤ sum → Soon sum (after now g) × Soon sum (then (after now g) st)
soon_after sum now g st l m =
    let e : after now g ≡ Some (now + g) = after_at now g (omega arith) in
    let f : then (after now g) st ≡ Some (now + g + st) = ap (λ (d : (Option ℕ)). then d st) e ∙ after_at (now + g) st (omega arith) in
    (subst⁻¹ (Soon sum) e (omega arith), subst⁻¹ (Soon sum) f m)

pub before_terminate : (sum now : ℕ) (c : Cause) (s : Runner) → s.clocks.terminated ≡ false → now + s.timers.grace + s.timers.settlement < 2 ^ 64
    → now + s.timers.grace + s.timers.settlement ≤ sum → Before sum (terminate s now c)
unfolding terminate pass_grace begin_termination
before_terminate sum now c s e l m =
    let w = soon_after sum now s.timers.grace s.timers.settlement l m in
    subst⁻¹ (λ (b : Bool). Before sum (terminate_if b now c s)) e
    (low_grace (Soon sum) (soon_lower sum) (due (after now s.timers.grace) now) (begin_termination s now c)
    (closed_if s.input.closed s.flags.detached s.input refl, refl, left w.0, left w.1)).hold

-- what a cancel answers, by its lateness
abbrev lateness : Bool → Result Receipt Refusal
lateness b = cond b (Ok Receipt.Late) (Ok Receipt.Applied)

applied_if : (b : Bool) → received_as (lateness b) ≡ Call.Applied → b ≡ false
applied_if true e = cc
applied_if false e = refl

-- an Applied cancel is itself the first of the three events: nothing had begun, not even in its own tick
pub record Applying (k : Result Admission Refusal) (now : ℕ) (s : Runner) : Type 0 where
  pub own : k ≡ Ok Own
  pub live : s.flags.finished ≡ false
  pub first : (ticked s now).clocks.terminated ≡ false

pub applying : (k : Result Admission Refusal) (now : ℕ) (c : Cause) (s : Runner) → received_as (cancel_answer k s now) ≡ Call.Applied → Applying k now s
unfolding cancel_answer
applying (Ok Own) now c s e =
    let n : late (ticked s now) ≡ false = applied_if (late (ticked s now)) e in
    record {
      own = refl;
      live = sym (ap (λ (x : Frame). x.finished) (ticked_frame now s)) ∙ (or_parts (ticked s now).flags.finished (ticked s now).clocks.terminated n).0;
      first = (or_parts (ticked s now).flags.finished (ticked s now).clocks.terminated n).1;
    }
applying (Ok Stale) now c s e = cc
applying (Err z) now c s e = cc

before_own : (sum now : ℕ) (c : Cause) (s : Runner) → late (ticked s now) ≡ false → Before sum (terminate (ticked s now) now c) → Before sum (cancel_next (Ok Own) now c s)
unfolding Life.cancel_next
before_own sum now c s n p = subst⁻¹ (λ (b : Bool). Before sum (cancel_if b now c (ticked s now))) n p

before_cancel : (sum now : ℕ) (c : Cause) (k : Result Admission Refusal) (s : Runner) → received_as (cancel_answer k s now) ≡ Call.Applied → now + s.timers.grace + s.timers.settlement < 2 ^ 64
    → now + s.timers.grace + s.timers.settlement ≤ sum → Before sum (cancel_next k now c s)
before_cancel sum now c k s e l m =
    let a = applying k now c s e in
    let t : Runner = ticked s now in
    let cf : t.timers ≡ s.timers = ap (λ (x : Frame). x.conf.timers) (ticked_frame now s) in
    let n : late t ≡ false = rw (tick_fin now s a.live, a.first) refl in
    let p : Before sum (terminate t now c) = before_terminate sum now c t a.first (rw cf l) (rw cf m) in
    subst⁻¹ (λ (k : (Result Admission Refusal)). Before sum (cancel_next k now c s)) a.own (before_own sum now c s n p)

-- ---- after the tick each message is nearer to Terminal

no_send : (s : Runner) (n : ℕ) (x : Stream) → Dry s → sendable_of s n x ≡ 0
unfolding sendable_of
no_send s n x d = go s.limits.output.unit (min (min (out_of x s).queued s.limits.chunk) n) none
  where
    none : min (min (out_of x s).queued s.limits.chunk) n ≡ 0
    none = let z = ltb-false 0 (out_of x s).queued (d x).none in omega arith

    go : (u : Units.Unit) (w : ℕ) → w ≡ 0 → sendable u (credit_at (pool_of s.limits x) s.credits).available w ≡ 0
    go Bytes w e = rw e (omega arith)
    go Frames w e = rw e (pick (ltb 0 (credit_at (pool_of s.limits x) s.credits).available))
      where
        pick : (b : Bool) → ◌≡◌ {A = ℕ} (cond b 0 0) 0
        pick true = refl
        pick false = refl

-- what is chosen, in terms of the six flags
abbrev late_order : (det st cm e0 e1 e2 : Bool) → Stream → Bool → Choice
late_order det st cm e0 e1 e2 x cr =
    order false det false cr st cm false (true && not e0) (true && not e1) (true && not e2)
    (true && true && (((true && (e0 || det)) && (true && (e1 || det))) && (true && (e2 || det))) && true) x 0 0 0

choose_late : (s : Runner) (n : ℕ) (d : Dry s) (k : AllKnown s) → s.flags.finished ≡ false → s.input.closed ≡ true
    → choose s n ≡ late_order s.flags.detached s.flags.started_message s.input.closed_message (out_of Stdout s).ended (out_of Stderr s).ended (out_of Notes s).ended (stream_at s.turn)
    s.flags.credited
unfolding choose is_ready
choose_late s n d k f i =
    let x = stream_at s.turn in
    rw (
      no_send s n x d,
      no_send s n (following x) d,
      no_send s n (following (following x)) d,
      f,
      i,
      k.launch,
      k.exit,
      k.closed Stdout,
      k.closed Stderr,
      k.closed Notes,
      k.settled,
      (d Stdout).none,
      (d Stderr).none,
      (d Notes).none,
    ) refl

pub data Progress (s : Runner) (n : ℕ) : Type 0 where
  terminal : choose s n ≡ Choice.Terminal → Progress s n
  nearer : suc (left_over (effect (choose s n) s)) ≤ left_over s → Progress s n

near : (s : Runner) (n : ℕ) (m : Choice) → choose s n ≡ m → suc (left_over (effect m s)) ≤ left_over s → Progress s n
near s n m e l = nearer (subst⁻¹ (λ (m : Choice). suc (left_over (effect m s)) ≤ left_over s) e l)

near_started : (s : Runner) → s.flags.started_message ≡ true → suc (left_over (effect Choice.Started s)) ≤ left_over s
unfolding effect
near_started s e = rw e (omega arith)

near_closed : (s : Runner) → s.input.closed_message ≡ true → suc (left_over (effect Choice.InputClosed s)) ≤ left_over s
unfolding effect
near_closed s e = rw e (omega arith)

near_end : (x : Stream) (s : Runner) → (out_of x s).ended ≡ false → suc (left_over (effect (Choice.End x) s)) ≤ left_over s
unfolding effect
near_end Stdout s e = rw e (omega arith)
near_end Stderr s e = rw e (omega arith)
near_end Notes s e = rw (e, by (has_notes s.limits)) (omega arith)
  where
    by : (b : Bool) → bit (not (cond b (ended_out (out_of Notes s)) over_output).ended) ≡ 0
    by true = refl
    by false = refl

progress_by : (s : Runner) (n : ℕ) (det st cm e0 e1 e2 : Bool) → s.flags.started_message ≡ st → s.input.closed_message ≡ cm → (out_of Stdout s).ended ≡ e0
    → (out_of Stderr s).ended ≡ e1 → (out_of Notes s).ended ≡ e2 → choose s n ≡ late_order det st cm e0 e1 e2 (stream_at s.turn) s.flags.credited → Progress s n
unfolding order if_else
progress_by s n true st cm e0 e1 e2 p2 p3 p4 p5 p6 e = terminal (e ∙ all e0 e1 e2)
  where
    -- detached, the ends are not told
    all : (e0 e1 e2 : Bool) → late_order true st cm e0 e1 e2 (stream_at s.turn) s.flags.credited ≡ Choice.Terminal
    all true true true = refl
    all true true false = refl
    all true false true = refl
    all true false false = refl
    all false true true = refl
    all false true false = refl
    all false false true = refl
    all false false false = refl
progress_by s n false true cm e0 e1 e2 p2 p3 p4 p5 p6 e = near s n Choice.Started e (near_started s p2)
progress_by s n false false true e0 e1 e2 p2 p3 p4 p5 p6 e = near s n Choice.InputClosed e (near_closed s p3)
progress_by s n false false false false e1 e2 p2 p3 p4 p5 p6 e = near s n (Choice.End Stdout) e (near_end Stdout s p4)
progress_by s n false false false true false e2 p2 p3 p4 p5 p6 e = near s n (Choice.End Stderr) e (near_end Stderr s p5)
progress_by s n false false false true true false p2 p3 p4 p5 p6 e = near s n (Choice.End Notes) e (near_end Notes s p6)
progress_by s n false false false true true true p2 p3 p4 p5 p6 e = terminal e

progress_of : (s : Runner) (n : ℕ) → s.flags.finished ≡ false → s.input.closed ≡ true → Either ⊥ (Dry s) → Either ⊥ (AllKnown s) → Progress s n
progress_of s n f i (left p) k = absurd p
progress_of s n f i (right d) (left p) = absurd p
progress_of s n f i (right d) (right k) =
    progress_by s n s.flags.detached s.flags.started_message s.input.closed_message (out_of Stdout s).ended (out_of Stderr s).ended (out_of Notes s).ended
    refl refl refl refl refl (choose_late s n d k f i)

pub progress : (s : Runner) (n : ℕ) → After s → s.flags.finished ≡ false → Progress s n
progress s n h f = progress_of s n f h.0 h.2 h.3

-- ---- the count

said_it : (s : State) (b : List ℕ) → choose s.runner (length b) ≡ Choice.Terminal → is_terminal (answer s (Call.next_message b)) ≡ true
unfolding answer said
said_it s b e = rw e refl

no_gone : (d : Option ℕ) → Gone d → ⊥
no_gone d g = g

-- one more call
data Step (s : State) (c : Call) (m : ℕ) : Type 0 where
  came : is_terminal (answer s c) ≡ true → Step s c m
  goes : After (next s c).runner → (next s c).runner.flags.finished ≡ false → suc (left_over (next s c).runner) ≤ m → Step s c m

counted : (c : Call) (m : ℕ) → Either (counts_message c m ≡ m) ((b : List ℕ) × (c ≡ Call.next_message b))
counted (Call.next_message b) m = right (b, refl)
counted _ m = left refl

step_other : (c : Call) (s : State) (m : ℕ) → counts_message c m ≡ m → After s.runner → s.runner.flags.finished ≡ false → suc (left_over s.runner) ≤ counts_message c m → (next s c).runner.flags.finished ≡ false → Step s c m
step_other c s m q h f l e =
    let g = low_next Gone gone_lower c s h in let x = g.less no_gone in goes g.hold e (omega arith)

step_message : (b : List ℕ) (s : State) (m : ℕ) → After s.runner → s.runner.flags.finished ≡ false → suc (left_over s.runner) ≤ suc m → (next s (Call.next_message b)).runner.flags.finished ≡ false → Step s (Call.next_message b) m
unfolding next
step_message b s m h f l e = go (progress s.runner (length b) h f)
  where
    go : Progress s.runner (length b) → Step s (Call.next_message b) m
    go (terminal p) = came (said_it s b p)
    go (nearer x) = goes (low_next Gone gone_lower (Call.next_message b) s h).hold e (omega arith)

step_by : (c : Call) (s : State) (m : ℕ) → Either (counts_message c m ≡ m) ((b : List ℕ) × (c ≡ Call.next_message b)) → After s.runner → s.runner.flags.finished ≡ false → suc (left_over s.runner) ≤ counts_message c m
    → (next s c).runner.flags.finished ≡ false → Step s c m
step_by c s m (left q) h f l e = step_other c s m q h f l e
step_by c s m (right p) h f l e =
    subst⁻¹ (λ (c : Call). suc (left_over s.runner) ≤ counts_message c m → (next s c).runner.flags.finished ≡ false → Step s c m) p.1 (step_message p.0 s m h f) l e

step : (c : Call) (s : State) (m : ℕ) → After s.runner → s.runner.flags.finished ≡ false → suc (left_over s.runner) ≤ counts_message c m → Step s c m
step c s m h f l = go (next s c).runner.flags.finished refl
  where
    go : (b : Bool) → (next s c).runner.flags.finished ≡ b → Step s c m
    go true e = came (ends_by c s f e)
    go false e = step_by c s m (counted c m) h f l e

count_by : (c : Call) (es : List Call) (s : State) → Step s c (messages es)
    → (After (next s c).runner → (next s c).runner.flags.finished ≡ false → suc (left_over (next s c).runner) ≤ messages es → any_terminal (run (next s c) es) ≡ true)
    → any_terminal (run s (c ∷ es)) ≡ true
count_by c es s (came e) r = rw e refl
count_by c es s (goes h f l) r = rw (r h f l) (or-true (is_terminal (answer s c)))

pub count : (es : List Call) (s : State) → After s.runner → s.runner.flags.finished ≡ false → suc (left_over s.runner) ≤ messages es → any_terminal (run s es) ≡ true
count [] s h f l = absurd (omega arith)
count (c ∷ es) s h f l = count_by c es s (step c s (messages es) h f l) (λ h' f' l'. count es (next s c) h' f' l')

-- ---- the whole list

pub before_list : (sum : ℕ) (cs : List Call) (s : State) → Before sum s.runner → Before sum (after_all s cs).runner
before_list sum [] s h = h
before_list sum (c ∷ cs) s h = before_list sum cs (next s c) (low_next (Soon sum) (soon_lower sum) c s h).hold

pub bits : (s : Runner) → left_over s ≤ 2 + streams s.limits
bits s =
    let a = small s.flags.started_message in let b = small s.input.closed_message in
    let c = small (not (out_of Stdout s).ended) in let d = small (not (out_of Stderr s).ended) in let e = third_end (has_notes s.limits) in omega arith
  where
    small : (b : Bool) → bit b ≤ 1
    small true = omega arith
    small false = omega arith

    -- the third has an end to tell where it is open
    third_end : (b : Bool) → bit (not (cond b (notes s.outputs) over_output).ended) ≤ cond b 1 0
    third_end true = small (not (notes s.outputs).ended)
    third_end false = omega arith

-- from the late tick on
pub late_ticked : (sum n : ℕ) (s : Runner) → s.flags.finished ≡ false → sum ≤ n → Before sum s → After (ticked s n)
late_ticked sum n s f l h = subst⁻¹ (λ (t : Runner). After t) (tick_is s n) (tick_late sum n s.flags.finished s f l h)

pub cancelled : (t : ℕ) (k : Key) (c : Cause) (s : State) → answer s (Call.cancel t k c) ≡ Call.Applied → t + s.runner.timers.grace + s.runner.timers.settlement < 2 ^ 64
    → Before (t + s.runner.timers.grace + s.runner.timers.settlement) (next s (Call.cancel t k c)).runner × ((next s (Call.cancel t k c)).runner.flags.finished ≡ false)
unfolding next answer
cancelled t k c s e l =
    let r : Runner = s.runner in (
      before_cancel (t + r.timers.grace + r.timers.settlement) t c (admits r.key k) r e l (le_refl _),
      ap (λ (x : Frame). x.finished) (cancel_frame (admits r.key k) t c r) ∙ (applying (admits r.key k) t c r e).live,
    )

pub first : (t : ℕ) (k : Key) (c : Cause) (s : State) → answer s (Call.cancel t k c) ≡ Call.Applied → (s.runner.flags.finished ≡ false) × ((ticked s.runner t).clocks.terminated ≡ false)
unfolding answer
first t k c s e = let a = applying (admits s.runner.key k) t c s.runner e in (a.live, a.first)
