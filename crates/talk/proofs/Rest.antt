-- Judge and runner in step, but for Started and the ends: the limits, Terminal, the input, and the accounts with what is left of each. Every
-- call of which the judge is told nothing keeps it.
use Rattle.std.specs.Prelude.{◌≡◌, false, List, ℕ, Option, Some, None}
use Rattle.std.proofs.lemmas.Bool.{true≢false}
use Rattle.std.proofs.Common.{sym, ◌∙◌}
use Rattle.exec.specs.declared.Cause.{Cause}
use Rattle.exec.specs.Key.{admits}
use Rattle.exec.specs.Row.{at}
use Rattle.credit.specs.declared.sender.Credit.{Credit}
use Rattle.input.specs.declared.Input.{Input}
use Rattle.runner.specs.declared.answer.Request.{Request}
use Rattle.runner.specs.declared.runner.Runner.{Runner}
use Rattle.runner.specs.Life.{close_runner_input, settled_next}
use Rattle.runner.specs.Message.{wish, handed, wish_effect}
use Rattle.runner.specs.State.{credit_at}
use Rattle.runner.specs.Streams.{is_taken, output_next, discarded_next, closed_next, failed_next, hung_up_next, end_next, written_next}
use Rattle.calls.specs.Call.{Call}
use Rattle.account.specs.Step.{State}
use Rattle.account.proofs.Plain.{next, open_keeps}
use Rattle.account.proofs.Timers.{Kept, tick_keeps, cancel_keeps, detach_keeps, exited_keeps, launched_keeps}
use Rattle.judge.specs.declared.Judge.{Judge}
use Rattle.talk.proofs.Input.{HearsIn, closes, tells, ends, writes}
use Rattle.talk.proofs.Told.{is_told}

-- an account, and what the judge has left of it
abbrev pub Even : (size : ℕ) → ℕ → Credit → Type 0
Even size left c = (left ≡ c.available) × (c.window ≡ size)

abbrev pub AllEven : (size : ℕ) → List ℕ → List Credit → Type 0
AllEven size left cs = (i : ℕ) → Even size (at i 0 left) (credit_at i cs)

abbrev pub HearsOf : Judge → ℕ → Input → Type 0
HearsOf j size i = HearsIn j.input_closed j.input_left size i

-- limits, Terminal, input, accounts
abbrev pub Rest : Judge → Runner → Type 0
Rest j r = (j.limits ≡ r.limits) × (j.terminal ≡ r.flags.finished) × HearsOf j r.limits.input.size r.input × AllEven r.limits.output.size j.left r.credits

module _ (j : Judge) where
  timed : Kept (λ r. Rest j r)
  unfolding close_runner_input
  timed = record {
    moves = λ r c l f e h. (h.0, h.1 ∙ sym e, h.2, h.3);
    closes = λ r h. (h.0, h.1, closes j.input_closed j.input_left r.limits.input.size r.input r.flags.detached h.2, h.3);
    tells = λ r h. (h.0, h.1, tells j.input_closed j.input_left r.limits.input.size r.input h.2, h.3);
    grace = λ r h. h;
    gives = λ r h. h;
    abandons = λ r h. h;
  }

  hands : (q : Request) (r : Runner) → Rest j r → Rest j (handed q r)
  hands (Request.Terminate c) r h = h
  hands _ r h = h

  wishes : (w : Option Request) (r : Runner) → Rest j r → Rest j (wish_effect w r)
  unfolding wish_effect
  wishes None r h = h
  wishes (Some q) r h = hands q r h

  pub rest_on : (c : Call) (s : State) → is_told c ≡ false → Rest j s.runner → Rest j (next s c).runner
  unfolding next end_next output_next discarded_next closed_next failed_next hung_up_next written_next settled_next
  rest_on (Call.credit k p u) s e h = absurd (true≢false e)
  rest_on (Call.input k b) s e h = absurd (true≢false e)
  rest_on (Call.next_message b) s e h = absurd (true≢false e)
  rest_on (Call.end_input k) s e h =
      let r : Runner = s.runner in (h.0, h.1, ends j.input_closed j.input_left r.limits.input.size (is_taken (admits r.key k) r) r.input h.2, h.3)
  rest_on (Call.input_written n) s e h =
      let r : Runner = s.runner in (h.0, h.1, writes j.input_closed j.input_left r.limits.input.size r.limits n s.lengths r.input h.2, h.3)
  rest_on Call.input_closed s e h = timed.closes s.runner h
  rest_on (Call.cancel now k c) s e h = cancel_keeps _ timed (admits s.runner.key k) now c s.runner h
  rest_on (Call.launched x) s e h = launched_keeps _ timed x s.runner h
  rest_on (Call.exited now x) s e h = exited_keeps _ timed now x s.runner h
  rest_on (Call.dropped now) s e h = detach_keeps _ timed now Cause.Dropped s.runner h
  rest_on (Call.reset now) s e h = detach_keeps _ timed now Cause.Reset s.runner h
  rest_on (Call.disconnect now) s e h = detach_keeps _ timed now Cause.Disconnected s.runner h
  rest_on (Call.tick now) s e h = tick_keeps _ timed now s.runner h
  rest_on Call.next_request s e h = wishes (wish s.runner) s.runner h
  rest_on (Call.output x b) s e h = open_keeps (λ (u : State). Rest j u.runner) s _ x h h
  rest_on (Call.discarded x n) s e h = open_keeps (λ (u : State). Rest j u.runner) s _ x h h
  rest_on (Call.output_closed x) s e h = open_keeps (λ (u : State). Rest j u.runner) s _ x h h
  rest_on (Call.output_failed x) s e h = open_keeps (λ (u : State). Rest j u.runner) s _ x h h
  rest_on (Call.output_hung_up x) s e h = open_keeps (λ (u : State). Rest j u.runner) s _ x h h
  rest_on _ s e h = h
