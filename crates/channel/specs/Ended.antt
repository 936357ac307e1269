-- How a session ends on a channel: what the record of a Terminal tells, and a Terminal that is left with the runner.
use Rattle.std.specs.Prelude.{List, ℕ, ◌-◌, length, take, drop, Option, Result, Some, None, Ok, Err}
use Rattle.std.proofs.Math.Bool.{true, false}
use Rattle.std.proofs.Math.Path.{◌≡◌}
use Rattle.exec.specs.declared.Refusal.{Refusal}
use Rattle.exec.specs.declared.Outcome.{Outcome}
use Rattle.exec.specs.declared.Refusal.TheVariants.{UntoldStatus}
use Rattle.exec.specs.Refusal.{number}
use Rattle.runner.specs.declared.answer.Message.{Message}
use Rattle.runner.specs.declared.runner.Runner.{Runner}
use Rattle.runner.specs.Calls as Calls
use Rattle.runner.specs.Life.{outcome_of}
use Rattle.codec.specs.declared.Record.TheVariants.{Close}
use Rattle.codec.specs.Codec.{read}
use Rattle.exits.specs.Exit.{is_untold, ending}
use Rattle.exits.specs.RoundTrip.{Tells}
use Rattle.carrier.specs.Carrier.{write_after, unwritten}
use Rattle.channel.specs.Calls.{write_record}

-- ---- a Terminal that is left

-- the number of an answer that is a refusal
abbrev pub number_of : (Result (Option (Message × ℕ)) Refusal) → ℕ
number_of (Ok None) = 0
number_of (Ok (Some (m, n))) = 0
number_of (Err x) = number x

-- nothing changed, and next_message says it into a buffer of any length
pub record Still (r : Runner) (channel : ℕ) (store b : List ℕ) : Type 0 where
  pub kept : write_record r channel store b ≡ write_after (unwritten UntoldStatus r) b
  pub said : (part : List ℕ) → (Calls.next_message r store part).saying.answer ≡ (Ok (Some (Message.Terminal (outcome_of r))))
  pub untold : is_untold (outcome_of r).status ≡ true

-- ---- a Terminal that is told

-- the bytes from the buffer's start tell its status, and the last 5 of them are CLOSE
pub record Ending (channel : ℕ) (o : Outcome) (n : ℕ) (b : List ℕ) : Type 0 where
  pub told : is_untold o.status ≡ false
  pub size : n ≡ length (ending channel o.status)
  pub tells : Tells channel o.status (take (n - 5) b)
  pub closes : read channel (take 5 (drop (n - 5) b)) ≡ Ok Close

-- the outcome that an answer has, if it is a Terminal, and its length
abbrev pub EndsAs : (channel : ℕ) (b : List ℕ) → (Result (Option (Message × ℕ)) Refusal) → Type 0
EndsAs channel b (Ok None) = Unit
EndsAs channel b (Ok (Some (Message.Credit units, n))) = Unit
EndsAs channel b (Ok (Some (Message.Started, n))) = Unit
EndsAs channel b (Ok (Some (Message.Output x k, n))) = Unit
EndsAs channel b (Ok (Some (Message.End x, n))) = Unit
EndsAs channel b (Ok (Some (Message.InputClosed, n))) = Unit
EndsAs channel b (Ok (Some (Message.Terminal o, n))) = Ending channel o n b
EndsAs channel b (Err x) = Unit
