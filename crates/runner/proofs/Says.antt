-- What next_message says, and what it leaves, by whether it meets a refusal.
use Rattle.std.proofs.Common.{◌≡◌, refl, ap, Bool, true, false, ℕ, ◌≤◌, List, length}
use Rattle.std.proofs.lemmas.Bool.{false≢true}
use Rattle.std.specs.Prelude.{Option, Result}
use Rattle.runner.specs.declared.answer.Message.{Message}
use Rattle.exec.specs.declared.Refusal.{Refusal}
use Rattle.inbox.specs.Need.{byte_need}
use Rattle.choice.specs.declared.Choice.{Choice}
use Rattle.runner.specs.declared.runner.Runner.{Runner}
use Rattle.runner.specs.Calls.{message_by, next_message}
use Rattle.runner.specs.Message.{choose, choice_of, answer_of, effect, buffer_after, message_after, SayAfter, say_after, say}
use Rattle.runner.specs.MessageLaws.{is_said, Sayable}
use Rattle.runner.specs.Range.{bytes_do, stop}
use Rattle.runner.specs.RangeLaws.{InRange, stop_if}

module _ (r : Runner) (store buffer : List ℕ) (good : Bool) (c : Choice) (hc : c ≡ choice_of good r (length buffer)) where
  pub sayable : (good ≡ true → InRange r × (byte_need r.limits ≤ length store)) → Sayable c r store buffer
  sayable h = rw hc (by good h)
    where
      by : (good : Bool) → (good ≡ true → InRange r × (byte_need r.limits ≤ length store)) → is_said (choice_of good r (length buffer)) ≡ true
          → InRange r × (byte_need r.limits ≤ length store) × (choice_of good r (length buffer) ≡ choose r (length buffer))
      by true h s = let p = h refl in (p.0, p.1, refl)
      by false h s = absurd (false≢true s)

  pub message_is : (r' : Runner) (s : Result (Option Message) Refusal) (buffer' : List ℕ) → stop r (bytes_do r.limits store) ≡ stop_if good r → s ≡ answer_of good c r
      → say_after r' buffer' ≡ say c r store buffer → message_after (record { runner = r'; answer = s }) buffer' ≡ next_message r store buffer
  unfolding next_message say effect buffer_after stop_if
  message_is r' s buffer' g hs e =
      rw (ap (λ (a : SayAfter). a.runner) e, ap (λ (a : SayAfter). a.buffer) e, hs, hc, g) (by good)
    where
      by : (good : Bool)
          → message_after (record { runner = effect (choice_of good r (length buffer)) r; answer = answer_of good (choice_of good r (length buffer)) r })
          (buffer_after (choice_of good r (length buffer)) r store buffer)
          ≡ message_by (stop_if good r) r store buffer
      by true = refl
      by false = refl
