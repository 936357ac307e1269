-- The units of the input's window are never made up and never vanish.
use Rattle.account.proofs.Flags.{either}
use Rattle.exec.specs.declared.Stream.{Stream}
use Rattle.std.specs.Prelude.{Option, Result, Some, Ok, Err}
use Rattle.exec.specs.declared.Admission.TheVariants.{Own}
use Rattle.exec.specs.declared.Admission.{Admission}
use Rattle.runner.specs.declared.answer.Request.{Request}
use Rattle.exec.specs.declared.Receipt.{Receipt}
use mathlib.Core.Bool.{Bool, true, false, cond, not, ◌&&◌, ◌||◌, and-true, not-and_self}
use mathlib.Core.Path.{◌≡◌, sym, refl, ap, ◌∙◌, subst, subst⁻¹}
use mathlib.Core.List.{List, [], ◌∷◌}
use Prim.Native.Nat.{ℕ, ◌+◌, ◌-◌, ◌≤◌, min}
use native.Mathlib.Omega.{arith}
use lib.ListN.{length}
use Rattle.exec.specs.declared.Cause.TheVariants.{Dropped, Reset, Disconnected}
use Rattle.exec.specs.declared.Limits.{Limits}
use Rattle.exec.specs.declared.Unit as Kinds
use Rattle.exec.specs.declared.Unit.TheVariants.{Bytes, Frames}
use Rattle.exec.specs.Key.{admits}
use Rattle.exec.specs.Limits.{cost, has}
use Rattle.ring.specs.FrameLaws.{pop_most}
use Rattle.inbox.specs.declared.Inbox.{Inbox}
use Rattle.inbox.specs.Inbox.{new_inbox, inbox_held, pushed, freed_by, frames_popped, pop_inbox, pop_freed}
use Rattle.exec.specs.declared.Refusal.{Refusal}
use Rattle.input.specs.declared.Input.{Input}
use Rattle.input.specs.Input.{receive_answer, is_receipt, answered, receive_input, end_input, written_input}
use Rattle.choice.specs.declared.Choice.{Choice}
use Rattle.runner.specs.declared.runner.Runner.{Runner}
use Rattle.runner.specs.Life.{close_runner_input, ticked, cancel_next, launched_next, exited_next, settled_next, detach_next}
use Rattle.runner.specs.Message.{choose, effect, output_sent, output_paid, wish, wish_effect}
use Rattle.runner.specs.Range.{fresh}
use Rattle.runner.specs.Streams.{output_next, discarded_next, closed_next, failed_next, hung_up_next, credit_next, input_answer, input_next, end_next, written_next}
use Rattle.calls.specs.Call.{Conf, Call, Answer}
use Rattle.account.specs.Claim.{Opens, is_terminal}
use Rattle.account.specs.Step as Step
use Rattle.account.specs.Step.{State, received_as}
use Rattle.account.specs.Records.{run_entries, calls_of}
use Rattle.account.specs.Units.{units_in, is_late, late_cost, cleared, lost_by, lost, Units}
use Rattle.account.proofs.Plain.{next, answer, begun, open_keeps}
use Rattle.account.proofs.Finish.{framed, framed_conf, fin_stays, ends, ends_by, ends_fin}
use Rattle.account.proofs.Demand.{Fine, fine_next, next_same, answer_same, fine_open, open_same, lent_open}
use Rattle.account.proofs.Records.{to_calls}
use Rattle.account.proofs.InputMoves.{Moves, same, shut, Keeps, close, ticks, launches, exits, detaches, cancels}
use Rattle.account.proofs.InputRange.{HeldIn, paid}

-- ---- what a move loses

none_held : (u : Kinds.Unit) → inbox_held u new_inbox ≡ 0
none_held Bytes = refl
none_held Frames = refl

moved_units : (l : Limits) (i i' : Input) → Moves i i'
    → units_in l i' + cond (not i.closed && i'.closed) (inbox_held l.input.unit i.inbox) 0 ≡ units_in l i
moved_units l i i' (same a b c) = rw (a, b, c, not-and_self i.closed) (omega arith)
moved_units l i i' (shut a b c d) = rw (a, b, c, d, none_held l.input.unit) (omega arith)

-- ---- bytes from the peer

pushed_held : (u : Kinds.Unit) (n : ℕ) (b : Inbox) → inbox_held u (pushed u n b) ≡ inbox_held u b + cost u n
unfolding cost
pushed_held Bytes n b = refl
pushed_held Frames n b = refl

-- charged, and dropped where the answer is Late: the charge is lost
module _ (l : Limits) (i : Input) (n : ℕ) where
  abbrev Kept : Result Receipt Refusal → Type 0
  Kept x = receive_answer l i n ≡ x → units_in l (receive_input l i n) + cond (is_late (received_as x)) (cost l.input.unit n) 0 ≡ units_in l i

  refused : (x : Refusal) → Kept (Err x)
  unfolding receive_input
  refused x e = rw e (omega arith)

  receive_by : units_in l (receive_input l i n) + cond (is_late (received_as (receive_answer l i n))) (cost l.input.unit n) 0 ≡ units_in l i
  unfolding receive_input
  receive_by =
      answered l i n Kept (refused Refusal.Ended) (refused Refusal.Chunk) (refused Refusal.Window)
      (λ p e. rw e (omega (arith, (paid l i n (ap is_receipt e)).enough)))
      (λ p e. rw (e, pushed_held l.input.unit n i.inbox) (omega (arith, (paid l i n (ap is_receipt e)).enough)))
      refl

received_units : (a : Result Admission Refusal) (r : Runner) (n : ℕ) (f : Bool) → r.flags.finished ≡ f
    → units_in r.limits (input_next a r n).input + late_cost f r.limits n (received_as (input_answer a r n)) ≡ units_in r.limits r.input
unfolding input_next input_answer
received_units (Ok Own) r n true e = rw e (omega arith)
received_units (Ok Own) r n false e =
    rw (e, and-true (is_late (received_as (receive_answer r.limits r.input n)))) (receive_by r.limits r.input n)
received_units _ r n f e = omega arith

-- ---- bytes to the workload

popped_by : (u : Kinds.Unit) (l : Limits) (lengths : List ℕ) (i : Input) (n : ℕ) → n ≤ i.inbox.length → HeldIn u l lengths i
    → freed_by u l.input.size n i.inbox lengths + inbox_held u (record { start = 0; length = i.inbox.length - n; first = 0; frames = frames_popped u (freed_by u l.input.size n i.inbox lengths) i.inbox.frames })
    ≡ inbox_held u i.inbox
popped_by Bytes l lengths i n m h = omega arith
popped_by Frames l lengths i n m h =
    omega (arith, pop_most i.inbox.frames l.input.size i.inbox.first n lengths h.4 (omega (arith, h.3)) (omega (arith, h.0)))

held_of : (u : Kinds.Unit) (b b' : Inbox) → b.length ≡ b'.length → b.frames ≡ b'.frames → inbox_held u b ≡ inbox_held u b'
held_of Bytes b b' e f = e
held_of Frames b b' e f = f

written_by : (l : Limits) (lengths : List ℕ) (i : Input) (count : ℕ) (c : Bool) → i.closed ≡ c → HeldIn l.input.unit l lengths i
    → units_in l (written_input l i count lengths) ≡ units_in l i
unfolding written_input
written_by l lengths i count true e h = rw e refl
written_by l lengths i count false e h =
    let p = popped_by l.input.unit l lengths i (min count i.inbox.length) (omega arith) h in
    let q = held_of l.input.unit (pop_inbox l i.inbox count lengths)
    (record { start = 0; length = i.inbox.length - min count i.inbox.length; first = 0; frames = frames_popped l.input.unit (pop_freed l i.inbox count lengths) i.inbox.frames }) refl refl in
    rw e (omega (arith, p, q))

ended_by : (l : Limits) (i : Input) (b : Bool) → i.peer_ended ≡ b → units_in l (end_input i) ≡ units_in l i
unfolding end_input
ended_by l i true e = rw e refl
ended_by l i false e = rw e refl

end_units : (a : Result Admission Refusal) (r : Runner) (f : Bool) → r.flags.finished ≡ f → units_in r.limits (end_next a r).input ≡ units_in r.limits r.input
unfolding end_next
end_units (Ok Own) r true e = rw e refl
end_units (Ok Own) r false e = rw e (ended_by r.limits r.input r.input.peer_ended refl)
end_units _ r f e = refl

-- ---- messages and requests

said_units : (c : Choice) (r : Runner) → units_in r.limits (effect c r).input ≡ units_in r.limits r.input
unfolding effect output_sent output_paid
said_units Choice.Credit r = omega arith
said_units _ r = refl

asked_units : (w : Option Request) (r : Runner) → units_in r.limits (wish_effect w r).input ≡ units_in r.limits r.input
unfolding wish_effect
asked_units (Some (Request.Terminate c)) r = refl
asked_units _ r = refl

-- ---- a call, and a list of calls

abbrev units_of : State → ℕ
units_of s = units_in s.runner.limits s.runner.input

moved : (r r' : Runner) → Keeps r r' → units_in r.limits r'.input + cleared r r' ≡ units_in r.limits r.input
moved r r' m = moved_units r.limits r.input r'.input m

-- a call that names a stream leaves the input
named_units : (s t : State) (x : Stream) → t.runner.input ≡ s.runner.input → units_in s.runner.limits (cond (has s.runner.limits x) t s).runner.input + 0 ≡ units_of s
named_units s t x e = open_keeps (λ (u : State). units_in s.runner.limits u.runner.input + 0 ≡ units_of s) s t x (rw e (omega arith)) (omega arith)

units_step : (c : Call) (s : State) (over : Bool) → s.runner.flags.finished ≡ over → Fine s → units_in s.runner.limits (next s c).runner.input + lost_by over s c ≡ units_of s
unfolding lost_by next answer credit_next output_next discarded_next closed_next failed_next hung_up_next settled_next written_next
units_step (Call.input k b) s over e h =
    rw (answer_same s (Call.input k b) h) (received_units (admits s.runner.key k) s.runner (length b) over e)
units_step (Call.end_input k) s over e h = omega (arith, end_units (admits s.runner.key k) s.runner s.runner.flags.finished refl)
units_step (Call.cancel now k c) s over e h = rw (next_same s (Call.cancel now k c) h) (moved s.runner (cancel_next (admits s.runner.key k) s.runner now c) (cancels (admits s.runner.key k) s.runner now c))
units_step (Call.launched x) s over e h = rw (next_same s (Call.launched x) h) (moved s.runner (launched_next s.runner x) (launches s.runner x))
units_step (Call.input_written n) s over e h =
    omega (arith, written_by s.runner.limits s.lengths s.runner.input n s.runner.input.closed refl h.sound.ranged.2.0)
units_step Call.input_closed s over e h = rw (next_same s Call.input_closed h) (moved s.runner (close_runner_input s.runner) (close s.runner))
units_step (Call.exited now x) s over e h = rw (next_same s (Call.exited now x) h) (moved s.runner (exited_next s.runner now x) (exits s.runner now x))
units_step (Call.dropped now) s over e h = rw (next_same s (Call.dropped now) h) (moved s.runner (detach_next s.runner now Dropped) (detaches s.runner now Dropped))
units_step (Call.reset now) s over e h = rw (next_same s (Call.reset now) h) (moved s.runner (detach_next s.runner now Reset) (detaches s.runner now Reset))
units_step (Call.disconnect now) s over e h = rw (next_same s (Call.disconnect now) h) (moved s.runner (detach_next s.runner now Disconnected) (detaches s.runner now Disconnected))
units_step (Call.tick now) s over e h = rw (next_same s (Call.tick now) h) (moved s.runner (ticked s.runner now) (ticks s.runner now))
units_step Call.next_request s over e h = omega (arith, asked_units (wish s.runner) s.runner)
units_step (Call.next_message buffer) s over e h = omega (arith, said_units (choose s.runner (length buffer)) s.runner)
units_step (Call.output x b) s over e h = named_units s _ x refl
units_step (Call.discarded x n) s over e h = named_units s _ x refl
units_step (Call.output_closed x) s over e h = named_units s _ x refl
units_step (Call.output_failed x) s over e h = named_units s _ x refl
units_step (Call.output_hung_up x) s over e h = named_units s _ x refl
units_step _ s over e h = omega arith

add_up : (a b c m u : ℕ) → a + c ≡ m → m + b ≡ u → a + (b + c) ≡ u
add_up a b c m u e f = omega arith

-- Terminal has come exactly when the runner is finished
pub over_next : (c : Call) (s : State) (over : Bool) → s.runner.flags.finished ≡ over → (next s c).runner.flags.finished ≡ (over || is_terminal (answer s c))
over_next c s true f = fin_stays c s f
over_next c s false f = told (is_terminal (answer s c)) (next s c).runner.flags.finished refl refl
  where
    told : (t g : Bool) → is_terminal (answer s c) ≡ t → (next s c).runner.flags.finished ≡ g → g ≡ t
    told true g e n = sym n ∙ ends_fin s c (ends c s e)
    told false true e n = sym (ends_by c s f n) ∙ e
    told false false e n = refl

units_list : (cs : List Call) (s : State) (over : Bool) → s.runner.flags.finished ≡ over → Fine s
    → units_in s.runner.limits (Step.after s cs).runner.input + lost over s cs ≡ units_of s
units_list [] s over e h = omega arith
units_list (c ∷ cs) s over e h =
    let s' = next s c in
    let then' : Bool = over || is_terminal (answer s c) in
    let l : s'.runner.limits ≡ s.runner.limits = ap (λ (x : Conf). x.limits) (framed_conf (framed c s)) in
    let o : s'.runner.flags.finished ≡ then' = over_next c s over e in
    let rest : units_in s.runner.limits (Step.after s' cs).runner.input + lost then' s' cs ≡ units_in s.runner.limits s'.runner.input =
    subst (λ (x : Limits). units_in x (Step.after s' cs).runner.input + lost then' s' cs ≡ units_in x s'.runner.input) l (units_list cs s' then' o (fine_next c s h)) in
    subst⁻¹ (λ (x : State). units_in s.runner.limits (Step.after x cs).runner.input + (lost_by over s c + lost (over || is_terminal (Step.answer s c)) x cs) ≡ units_of s) (next_same s c h)
    (subst⁻¹ (λ (a : Answer). units_in s.runner.limits (Step.after s' cs).runner.input + (lost_by over s c + lost (over || is_terminal a) s' cs) ≡ units_of s) (answer_same s c h)
    (add_up _ (lost_by over s c) (lost then' s' cs) (units_in s.runner.limits s'.runner.input) (units_of s) rest (units_step c s over e h)))

none_yet : (u : Kinds.Unit) (size : ℕ) → 0 + size + inbox_held u new_inbox ≡ size
none_yet Bytes size = omega arith
none_yet Frames size = omega arith

module _ (conf : Conf) (now : ℕ) (bytes lengths : List ℕ) (op : Opens conf now bytes lengths) where
  abbrev o : State
  o = Step.opened conf now bytes lengths

  units_calls : (cs : List Call) → units_in conf.limits (Step.after o cs).runner.input + lost false o cs ≡ conf.limits.input.size
  unfolding fresh
  units_calls cs =
      rw (open_same conf now bytes lengths op)
      (units_list cs (begun conf now bytes lengths) false refl (fine_open conf now bytes lengths (lent_open conf now bytes lengths op))
      ∙ none_yet conf.limits.input.unit conf.limits.input.size)

  pub units : Units conf now bytes lengths
  units es = rw (to_calls conf now bytes lengths op es) (units_calls (calls_of conf (run_entries o es)))
