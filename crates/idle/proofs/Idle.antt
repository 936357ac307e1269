-- Idle ticks make no difference, over every list.
use Rattle.std.specs.Prelude.{Option, Result, Some, None, Ok, Err}
use Rattle.exec.specs.declared.Refusal.{Refusal}
use mathlib.Core.Bool.{true, false}
use mathlib.Core.Path.{◌≡◌, refl, sym, ◌∙◌, ap, subst}
use mathlib.Core.List.{List, [], ◌∷◌}
use Prim.Native.Nat.{ℕ, ◌≤◌, ◌<◌}
use native.Mathlib.Omega.{arith}
use borrow.Author.Tests.{ltb-true, lt-ltb, lt-leb, leb-false}
use Rattle.exec.specs.Time.{due}
use Rattle.runner.specs.declared.runner.Runner.{Runner}
use Rattle.runner.specs.Calls as Calls
use Rattle.runner.specs.Calls.{noting, unless}
use Rattle.runner.specs.Life.{ticked, deadline_of}
use Rattle.runner.specs.Range.{in_range, stop, bytes_do}
use Rattle.calls.specs.Call as Call
use Rattle.calls.specs.Call.{Conf, Answer}
use Rattle.account.specs.Step.{State, on_runner, next, answer, opened, fires}
use Rattle.account.specs.Records.{Entry, EntryDone, call, next_entry, answer_entry, after_entries, run_entries}
use Rattle.idle.specs.IdleClaim.{Woven, made, idle, alone, woven, amid, deadline_in, reported, is_before, AllIdle, AllSpared, message_buffer, record_buffer, frame_buffer, IdleTicks}
use Rattle.idle.proofs.Calm.{calm_s}
use Rattle.idle.proofs.Calls.{message_sees}
use Rattle.idle.proofs.Records.{record_sees, frames_see, entry_sees}
use Rattle.idle.proofs.Ticks.{tick_idle, tick_later}

-- ---- states that are alike

module _ (s t : State) (h : calm_s s ≡ calm_s t) where
  pub alike_left : (e : Entry) → calm_s (next_entry s e) ≡ calm_s (next_entry t e)
  alike_left e = sym (entry_sees e s).left ∙ ap (λ (x : State). calm_s (next_entry x e)) h ∙ (entry_sees e t).left

  pub alike_answer : (e : Entry) → answer_entry s e ≡ answer_entry t e
  alike_answer e = sym (entry_sees e s).answered ∙ ap (λ (x : State). answer_entry x e) h ∙ (entry_sees e t).answered

  pub alike_reported : reported s ≡ reported t
  unfolding answer_entry
  alike_reported = ap deadline_in (alike_answer (call Call.deadline))

  alike_message : (buffer : List ℕ) → message_buffer s buffer ≡ message_buffer t buffer
  unfolding Calls.next_message stop in_range
  alike_message buffer = sym (shows s) ∙ ap (λ (x : State). message_buffer x buffer) h ∙ shows t
    where
      shows : (x : State) → message_buffer (calm_s x) buffer ≡ message_buffer x buffer
      shows x = (message_sees (stop x.runner (bytes_do x.runner.limits x.bytes)) x.runner x.bytes buffer).buffer

  alike_record : (channel : ℕ) (buffer : List ℕ) → record_buffer s channel buffer ≡ record_buffer t channel buffer
  alike_record channel buffer =
      sym (record_sees s.bytes buffer s.runner channel).buffer ∙ ap (λ (x : State). record_buffer x channel buffer) h ∙ (record_sees t.bytes buffer t.runner channel).buffer

  alike_frame : (stream : ℕ) (buffer : List ℕ) → frame_buffer s stream buffer ≡ frame_buffer t stream buffer
  alike_frame stream buffer =
      sym (frames_see s.bytes buffer s.runner stream).buffer ∙ ap (λ (x : State). frame_buffer x stream buffer) h ∙ (frames_see t.bytes buffer t.runner stream).buffer

-- ---- a tick

before_waits : (d : Option ℕ) (t : ℕ) → is_before t d ≡ true → due d t ≡ false
before_waits None t h = refl
before_waits (Some d) t h = lt-leb d t (ltb-true t d h)

waits_before : (d : Option ℕ) (t : ℕ) → due d t ≡ false → is_before t d ≡ true
waits_before None t h = refl
waits_before (Some d) t h = lt-ltb t d (leb-false d t h)

pub idle_still : (t : ℕ) (s : State) → is_before t (reported s) ≡ true → calm_s (next s (Call.tick t)) ≡ calm_s s
unfolding next answer Calls.tick Calls.deadline
idle_still t s h = by (stop s.runner true) h
  where
    by : (p : Result (Unit {0}) Refusal) → is_before t (deadline_in (fires (unless p (deadline_of s.runner)))) ≡ true → calm_s (on_runner (noting p (ticked s.runner t) s.runner).runner s) ≡ calm_s s
    by (Ok tt) h = ap (λ (z : Runner). on_runner z s) (tick_idle t s.runner (before_waits (deadline_of s.runner) t h))
    by (Err x) h = refl

pub reported_later : (t : ℕ) (s : State) → is_before t (reported (next s (Call.tick t))) ≡ true
unfolding next answer Calls.tick Calls.deadline
reported_later t s = by (stop s.runner true) refl
  where
    answered : (q : Result (Unit {0}) Refusal) (d : Option ℕ) → due d t ≡ false → is_before t (deadline_in (fires (unless q d))) ≡ true
    answered (Ok tt) d h = waits_before d t h
    answered (Err x) d h = refl

    by : (p : Result (Unit {0}) Refusal) → stop s.runner true ≡ p
        → (let r = (noting p (ticked s.runner t) s.runner).runner in is_before t (deadline_in (fires (unless (stop r true) (deadline_of r)))) ≡ true)
    by (Ok tt) e = answered (stop (ticked s.runner t) true) (deadline_of (ticked s.runner t)) (tick_later t s.runner)
    by (Err x) e = rw e refl

told_otherwise : (t d : ℕ) (s : State) → d ≤ t → reported (next s (Call.tick t)) ≡ Some d → ⊥
told_otherwise t d s l e =
    let b = subst (λ (x : (Option ℕ)). is_before t x ≡ true) e (reported_later t s) in let k : t < d = ltb-true t d b in omega arith

-- ---- a list: s in the first run, t in the second

pub idle_answers : (ws : List Woven) (s t : State) → calm_s s ≡ calm_s t → AllIdle t ws → amid t ws ≡ run_entries s (alone ws)
unfolding next_entry
idle_answers [] s t h a = refl
idle_answers (made e ∷ ws) s t h a =
    ap (λ (x : Answer). record { entry = e; answer = x } ∷ amid (next_entry t e) ws) (sym (alike_answer s t h e))
    ∙ ap (λ (ds : List EntryDone). record { entry = e; answer = answer_entry s e } ∷ ds) (idle_answers ws (next_entry s e) (next_entry t e) (alike_left s t h e) a)
idle_answers (idle n ∷ ws) s t h a = idle_answers ws s (next t (Call.tick n)) (h ∙ sym (idle_still n t a.0)) a.1

idle_left : (ws : List Woven) (s t : State) → calm_s s ≡ calm_s t → AllIdle t ws → calm_s (after_entries t (woven ws)) ≡ calm_s (after_entries s (alone ws))
unfolding next_entry
idle_left [] s t h a = sym h
idle_left (made e ∷ ws) s t h a = idle_left ws (next_entry s e) (next_entry t e) (alike_left s t h e) a
idle_left (idle n ∷ ws) s t h a = idle_left ws s (next t (Call.tick n)) (h ∙ sym (idle_still n t a.0)) a.1

-- and whose deadline is asked
spared_idle : (ws : List Woven) (s t : State) → calm_s s ≡ calm_s t → AllSpared s ws → AllIdle t ws
spared_idle [] s t h a = tt
spared_idle (made e ∷ ws) s t h a = spared_idle ws (next_entry s e) (next_entry t e) (alike_left s t h e) a
spared_idle (idle n ∷ ws) s t h a =
    let b = subst (λ (d : (Option ℕ)). is_before n d ≡ true) (alike_reported s t h) a.0 in
    (b, spared_idle ws s (next t (Call.tick n)) (h ∙ sym (idle_still n t b)) a.1)

idle_spared : (ws : List Woven) (s t : State) → calm_s s ≡ calm_s t → AllIdle t ws → AllSpared s ws
idle_spared [] s t h a = tt
idle_spared (made e ∷ ws) s t h a = idle_spared ws (next_entry s e) (next_entry t e) (alike_left s t h e) a
idle_spared (idle n ∷ ws) s t h a = (
  subst (λ (d : (Option ℕ)). is_before n d ≡ true) (sym (alike_reported s t h)) a.0,
  idle_spared ws s (next t (Call.tick n)) (h ∙ sym (idle_still n t a.0)) a.1,
)

-- ---- from open

module _ (conf : Conf) (now : ℕ) (bytes lengths : List ℕ) where
  abbrev begins : State
  begins = opened conf now bytes lengths

  alike_ends : (ws : List Woven) → AllIdle begins ws → calm_s (after_entries begins (woven ws)) ≡ calm_s (after_entries begins (alone ws))
  alike_ends ws a = idle_left ws begins begins refl a

  -- IDLE TICKS
  pub idle_ticks : IdleTicks conf now bytes lengths
  idle_ticks = record {
    answers = λ ws a. idle_answers ws begins begins refl a;
    stores = λ ws a. (ap (λ (x : State). x.bytes) (alike_ends ws a), ap (λ (x : State). x.lengths) (alike_ends ws a));
    buffers = λ ws channel stream buffer a.
        let t = after_entries begins (alone ws) in let h = alike_ends ws a in
        (alike_message _ t h buffer, alike_record _ t h channel buffer, alike_frame _ t h stream buffer);
    whose = λ ws. (spared_idle ws begins begins refl, idle_spared ws begins begins refl);
    sharp = λ es d t r l e. told_otherwise t d (after_entries begins es) l e;
  }
