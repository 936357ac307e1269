-- A message names only a stream that is open, and so does a request.
use Rattle.std.specs.Prelude.{ℕ, Bool, true, false, ◌≡◌, refl, List, length, Option, Result, Some, None, Ok, Err}
use Rattle.std.proofs.lemmas.Bool.{true≢false}
use Rattle.exec.specs.declared.Cause.{Cause}
use Rattle.exec.specs.declared.Refusal.{Refusal}
use Rattle.exec.specs.declared.Stream.{Stream}
use Rattle.exec.specs.declared.Stream.TheVariants.{Stdout, Stderr, Notes}
use Rattle.exec.specs.Limits.{has, has_notes}
use Rattle.exec.specs.Outcome.{is_truncated}
use Rattle.choice.specs.declared.Choice.{Choice}
use Rattle.runner.specs.declared.answer.Message.{Message}
use Rattle.runner.specs.declared.answer.Request.{Request}
use Rattle.runner.specs.declared.runner.Runner.{Runner}
use Rattle.runner.specs.Calls as Calls
use Rattle.runner.specs.Calls.{asked_for, message_by, request_by}
use Rattle.runner.specs.Life.{outcome_of}
use Rattle.runner.specs.Message.{choose, said_for, wish_for, wish}
use Rattle.runner.specs.MessageLaws.{NamesOpen, names_open}
use Rattle.runner.specs.Range.{bytes_do, stop}
use Rattle.runner.specs.State.{out_of}

-- ---- a message names only a stream that is open

-- of an outcome: nothing was lost of a stream that is not open
uncut : (r : Runner) (x : Stream) → has r.limits x ≡ false → is_truncated (outcome_of r) x ≡ false
unfolding outcome_of
uncut r Stdout h = absurd (true≢false h)
uncut r Stderr h = absurd (true≢false h)
uncut r Notes h = rw h refl

-- so of what next_message answers
abbrev pub Said : Runner → Result (Option Message) Refusal → Type 0
Said r (Ok (Some (Message.End x))) = has r.limits x ≡ true
Said r (Ok (Some (Message.Output x n))) = has r.limits x ≡ true
Said r (Ok (Some (Message.Terminal o))) = (x : Stream) → has r.limits x ≡ false → is_truncated o x ≡ false
Said r _ = Unit

said_for_lem : (r : Runner) (c : Choice) → NamesOpen r c → Said r (said_for c r)
unfolding said_for
said_for_lem r (Choice.End x) h = h
said_for_lem r (Choice.Output x n) h = h
said_for_lem r Choice.Terminal h = uncut r
said_for_lem r _ h = tt

pub said : (r : Runner) (store buffer : List ℕ) → Said r (Calls.next_message r store buffer).saying.answer
unfolding Calls.next_message
said r store buffer = by (stop r (bytes_do r.limits store))
  where
    by : (met : Result (Unit {0}) Refusal) → Said r (message_by met r store buffer).saying.answer
    by (Ok tt) = said_for_lem r (choose r (length buffer)) (names_open r (length buffer) (choose r (length buffer)) refl)
    by (Err z) = tt

-- ---- a request to discard is of a stream that is open

abbrev pub Wished : Runner → Option Request → Type 0
Wished r (Some (Request.Discard x)) = has r.limits x ≡ true
Wished r _ = Unit

pub wished : (r : Runner) → Wished r (wish r)
unfolding wish wish_for
wished r =
    by r.life.terminate_request (out_of Stdout r).discard_requested (out_of Stderr r).discard_requested (out_of Notes r).discard_requested
    r.input.close_requested r.flags.settle_request (notes (has_notes r.limits) refl)
  where
    notes : (b : Bool) → has_notes r.limits ≡ b → (out_of Notes r).discard_requested ≡ true → b ≡ true
    notes true h e = refl
    notes false h e = rw h at e

    by : (t : Option Cause) (d0 d1 d2 close settle : Bool) → (d2 ≡ true → has_notes r.limits ≡ true) → Wished r (wish_for t d0 d1 d2 close settle)
    by (Some cause) d0 d1 d2 close settle h = tt
    by None true d1 d2 close settle h = refl
    by None false true d2 close settle h = refl
    by None false false true close settle h = h refl
    by None false false false true settle h = tt
    by None false false false false true h = tt
    by None false false false false false h = tt

abbrev pub Asked : Runner → Result (Option Request) Refusal → Type 0
Asked r (Ok q) = Wished r q
Asked r (Err z) = Unit

pub asked : (r : Runner) → Asked r (Calls.next_request r).answer
unfolding Calls.next_request
asked r = by (stop r true)
  where
    of : (q : Option Request) → Wished r q → Asked r (asked_for q)
    of None w = tt
    of (Some q) w = w

    by : (met : Result (Unit {0}) Refusal) → Asked r (request_by met r).answer
    by (Ok tt) = of (wish r) (wished r)
    by (Err z) = tt
