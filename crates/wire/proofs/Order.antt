-- The order that the messages of every list keep: an End once, and nothing of its stream after it; nothing after Terminal.
use Rattle.std.proofs.Math.Bool.{or-false}
use Rattle.std.proofs.lemmas.Bool.{or_right}
use mathlib.Core.Bool.{Bool, true, false, cond, not, ◌||◌, true≢false, false≢true}
use mathlib.Core.Path.{◌≡◌, refl, sym, ap, ◌∙◌, subst⁻¹}
use mathlib.Core.List.{List, [], ◌∷◌, ◌++◌}
use Prim.Native.Nat.{ℕ}
use Rattle.exec.specs.declared.Stream.{Stream}
use Rattle.exec.specs.Each.{one}
use Rattle.runner.specs.declared.runner.Runner.{Runner}
use Rattle.runner.specs.Range.{fresh}
use Rattle.runner.specs.State.{out_of}
use Rattle.calls.specs.Call.{Conf, Call, Answer, Message}
use Rattle.account.specs.Step as Step
use Rattle.account.specs.Step.{State}
use Rattle.account.specs.Claim.{Opens, is_terminal, terminal_message}
use Rattle.account.specs.Records.{Entry, next_entry, answer_entry, after_entries, made}
use Rattle.account.proofs.Plain.{next, answer}
use Rattle.account.proofs.Demand.{Fine, fine_next, next_same, answer_same, open_same}
use Rattle.account.proofs.Finish as Finish
use Rattle.account.proofs.Finish.{fin_stays, no_more, ends_fin}
use Rattle.account.proofs.EachRecord.{Does}
use Rattle.account.proofs.Records.{Good, does, good_entry, good_open, good_at}
use Rattle.account.proofs.Sides.{out_open, one_per}
use Rattle.exec.specs.Limits.{has, has_notes}
use Rattle.output.specs.declared.Output.{Output}
use Rattle.output.specs.Output.{new_output, over}
use Rattle.wire.specs.Messages.{said_in, said_from, is_end, is_of, any, no_ends, Ordered}
use Rattle.wire.proofs.Ends as Ends
use Rattle.wire.proofs.Ends.{Muted, ends, at, ends_all, Tells, Speech, speech, unsaid, call_tells, ends_so, any_append, tells_on}

-- ---- Terminal is the last message

-- it comes only where nothing is behind it
abbrev pub Final : List Message → Type 0
Final [] = Unit
Final (m ∷ ms) = (terminal_message m ≡ true → ms ≡ []) × Final ms

-- from one runner to another, with these messages told between
pub record Finishes (r t : Runner) (ms : List Message) : Type 0 where
  pub over : r.flags.finished ≡ true → (ms ≡ []) × (t.flags.finished ≡ true)
  pub ended : any terminal_message ms ≡ true → t.flags.finished ≡ true
  pub final : Final ms

said_terminal : (a : Answer) → any terminal_message (said_in a) ≡ true → is_terminal a ≡ true
said_terminal a h = by a (speech a) h
  where
    by : (a : Answer) → Speech a → any terminal_message (said_in a) ≡ true → is_terminal a ≡ true
    by a (Ends.none e n) h = absurd (false≢true (sym (ap (any terminal_message) e) ∙ h))
    by a (Ends.some m) h = sym (or-false (terminal_message m)) ∙ h

one_final : (a : Answer) → Final (said_in a)
one_final a = by a (speech a)
  where
    by : (a : Answer) → Speech a → Final (said_in a)
    by a (Ends.none e n) = subst⁻¹ Final e tt
    by a (Ends.some m) = (λ e. refl, tt)

call_finishes : (c : Call) (s : State) → Finishes s.runner (next s c).runner (said_in (answer s c))
call_finishes c s = record {
  over = λ f. (unsaid (answer s c) (no_more c s f), fin_stays c s f);
  ended = λ e. ends_fin s c (Finish.ends c s (said_terminal (answer s c) e));
  final = one_final (answer s c);
}

final_append : (ms ns : List Message) → Final ms → (any terminal_message ms ≡ true → ns ≡ []) → Final ns → Final (ms ++ ns)
final_append [] ns p q h = h
final_append (m ∷ ms) ns p q h = (by (terminal_message m) refl, final_append ms ns p.1 (λ e. q (or_right (terminal_message m) (any terminal_message ms) e)) h)
  where
    by : (b : Bool) → terminal_message m ≡ b → terminal_message m ≡ true → ms ++ ns ≡ []
    by true e d = rw (p.0 e, q (ap (λ (a : Bool). a || any terminal_message ms) e)) refl
    by false e d = absurd (true≢false (sym d ∙ e))

finishes_on : {r s t : Runner} {ms ns : List Message} → Finishes r s ms → Finishes s t ns → Finishes r t (ms ++ ns)
finishes_on {r} {s} {t} {ms} {ns} a b = record {
  over = λ f. (let p = a.over f in let q = b.over p.1 in (rw (p.0, q.0) refl, q.1));
  ended = λ e. by (any terminal_message ms) refl (sym (any_append terminal_message ms ns) ∙ e);
  final = final_append ms ns a.final (λ e. (b.over (a.ended e)).0) b.final;
}
  where
    by : (x : Bool) → any terminal_message ms ≡ x → (any terminal_message ms || any terminal_message ns) ≡ true → t.flags.finished ≡ true
    by true e h = (b.over (a.ended e)).1
    by false e h = b.ended (sym (ap (λ (x : Bool). x || any terminal_message ns) e) ∙ h)

-- ---- an entry

entry_by : (e : Entry) (m : List Call) (s after : State) (a : Answer) → Fine s → Muted s.runner → Does e m s after a
    → Tells s.runner after.runner (said_in a) × Finishes s.runner after.runner (said_in a)
unfolding Does
entry_by e [] s after a f h d = rw (d.kept, d.answered) (
  record { told = refl; once = tt; muted = h; silent = λ x t. refl },
  record { over = λ g. (refl, g); ended = λ t. absurd (false≢true t); final = tt },
)
entry_by e (c ∷ []) s after a f h d = rw (d.0, next_same s c f, d.1, answer_same s c f) (call_tells c s h, call_finishes c s)
entry_by e (c ∷ b ∷ m) s after a f h d =
    let n : said_in (answer s c) ≡ [] = ap said_in (sym (d.0 ∙ answer_same s c f)) ∙ unsaid a d.1 in
    let t : Tells s.runner (next s c).runner [] = rw n at (call_tells c s h) in
    let g : Finishes s.runner (next s c).runner [] = rw n at (call_finishes c s) in
    let p = entry_by e (b ∷ m) (next s c) after a (fine_next c s f) t.muted (rw (next_same s c f) at d.2) in (tells_on t p.0, finishes_on g p.1)

module _ (conf : Conf) where
  pub entry_tells : (e : Entry) (s : State) → Good conf s → Muted s.runner
      → Tells s.runner (next_entry s e).runner (said_in (answer_entry s e)) × Finishes s.runner (next_entry s e).runner (said_in (answer_entry s e))
  entry_tells e s g h = entry_by e (made conf e (answer_entry s e)) s (next_entry s e) (answer_entry s e) g.fine h (does conf e s g)

  -- ---- a list

  pub list_tells : (es : List Entry) (s : State) → Good conf s → Muted s.runner
      → Tells s.runner (after_entries s es).runner (said_from s es) × Finishes s.runner (after_entries s es).runner (said_from s es)
  list_tells [] s g h = (
    record { told = refl; once = tt; muted = h; silent = λ x t. refl },
    record { over = λ f. (refl, f); ended = λ t. absurd (false≢true t); final = tt },
  )
  list_tells (e ∷ es) s g h =
      let k = entry_tells e s g h in
      let l = list_tells es (next_entry s e) (good_entry conf e s g) k.0.muted in (tells_on k.0 l.0, finishes_on k.1 l.1)

-- ---- from open

-- the End of the third stream counts as told where that is not open
pub third_ended : (b : Bool) → (cond b new_output over).ended ≡ not b
third_ended true = refl
third_ended false = refl

module _ (conf : Conf) (now : ℕ) (bytes lengths : List ℕ) (op : Opens conf now bytes lengths) where
  abbrev pub opened : State
  opened = Step.opened conf now bytes lengths

  pub fresh_ends : ends opened.runner ≡ no_ends conf.limits
  unfolding fresh
  fresh_ends = ap (λ (s : State). ends s.runner) (open_same conf now bytes lengths op) ∙ rw (third_ended (has_notes conf.limits)) refl

  pub fresh_muted : Muted opened.runner
  unfolding fresh
  fresh_muted = subst⁻¹ (λ (s : State). Muted s.runner) (open_same conf now bytes lengths op)
      (λ x. out_open (λ (o : Output). o.ended ≡ true → (o.closed ≡ true) × (o.queued ≡ 0)) (has_notes conf.limits) (λ e. absurd (false≢true e)) (λ e. (refl, refl)) x)

  pub from_open : (es : List Entry) → Tells opened.runner (after_entries opened es).runner (said_from opened es) × Finishes opened.runner (after_entries opened es).runner (said_from opened es)
  from_open es = list_tells conf es opened (good_open conf now bytes lengths op) fresh_muted

  behind : (es ds : List Entry) → Tells (after_entries opened es).runner (after_entries (after_entries opened es) ds).runner (said_from (after_entries opened es) ds) × Finishes (after_entries opened es).runner (after_entries (after_entries opened es) ds).runner (said_from (after_entries opened es) ds)
  behind es ds = list_tells conf ds (after_entries opened es) (good_at conf now bytes lengths op es) (from_open es).0.muted

  pub ended_at : (es : List Entry) (x : Stream) → (out_of x (after_entries opened es).runner).ended ≡ (not (has conf.limits x) || any (is_end x) (said_from opened es))
  ended_at es x =
      let ms : List Message = said_from opened es in
      sym (at x (after_entries opened es).runner) ∙ ap (one x) ((from_open es).0.told ∙ ap (ends_all ms) fresh_ends) ∙ ends_so ms (no_ends conf.limits) x
      ∙ ap (λ (b : Bool). b || any (is_end x) ms) (one_per (λ (y : Stream). not (has conf.limits y)) x)

  -- once the End of a stream was told, or where it is not open, no message is of it
  pub silent_at : (es ds : List Entry) (x : Stream) → (not (has conf.limits x) || any (is_end x) (said_from opened es)) ≡ true
      → any (is_of x) (said_from (after_entries opened es) ds) ≡ false
  silent_at es ds x e = (behind es ds).0.silent x (ended_at es x ∙ e)

  -- THE ORDER
  pub ordered : Ordered conf now bytes lengths
  ordered = record {
    ended = λ es ds x e. silent_at es ds x (or_right (not (has conf.limits x)) _ e);
    over = λ es ds e. ((behind es ds).1.over ((from_open es).1.ended e)).0;
  }
