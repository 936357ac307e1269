-- Laws of the record calls' code, over plain variables: there is too much to compute at the calls' own places.
use Rattle.std.proofs.Common.{Bool, true, false, cond, ◌≡◌, sym, ap, ◌∙◌, List, ℕ, ◌+◌, ◌^◌, ◌≤◌, ◌<◌, arith, length}
use Rattle.std.specs.Prelude.{Option, Result, Some, None, Ok, Err}
use Rattle.exec.specs.declared.Limits.{Limits}
use Rattle.exec.specs.declared.Refusal.{Refusal}
use Rattle.exec.specs.declared.Refusal.TheVariants.{UntoldStatus}
use Rattle.exec.specs.declared.Stream.{Stream}
use Rattle.exec.specs.declared.Stream.TheVariants.{Stdout, Stderr, Notes}
use Rattle.runner.specs.declared.answer.After.{After}
use Rattle.runner.specs.declared.answer.Message.{Message}
use Rattle.runner.specs.declared.runner.Runner.{Runner}
use Rattle.runner.specs.Message.{MessageAfter, message_after}
use Rattle.output.specs.declared.Output.{Output}
use Rattle.runner.specs.State.{outputs_of}
use Rattle.codec.specs.declared.Record.TheVariants.{Eof}
use Rattle.codec.specs.Codec.{size}
use Rattle.channel.specs.declared.calls.Sending.{Sending}
use Rattle.carrier.specs.Carrier.{write_after, unwritten, room, asked, told, sent}
use Rattle.carrier.specs.SaidLaws.{Within, SaidWithin, said_within}
use Rattle.channel.specs.Calls.{output_record, last_end, sent_as, laying, is_left, carriage}
use Rattle.channel.specs.CallLaws.{Narrow, Roomy, RoomyFor, Sayable, left_kept}

-- a message's record fits where its payload does
pub roomy_sent : (last : Stream → Bool) (m : Message) (room : ℕ) → RoomyFor m room → Roomy (sent_as last m) room
unfolding RoomyFor Roomy sent_as
roomy_sent last (Message.Credit units) room h = omega arith
roomy_sent last Message.Started room h = tt
roomy_sent last (Message.Output x n) room h = output x
  where
    output : (y : Stream) → 13 + size (output_record y n) ≤ room
    output Stdout = h
    output Stderr = h
    output Notes = h
roomy_sent last (Message.End x) room h = end (last x)
  where
    end : (b : Bool) → Roomy (cond b (Sending.Record Eof) Sending.Nothing) room
    end true = h
    end false = tt
roomy_sent last Message.InputClosed room h = tt
roomy_sent last (Message.Terminal outcome) room h = h

-- what is said of limits fits the record, unless it is left
fits : (l : Limits) (n : ℕ) → l.chunk < 2 ^ 32 → room l ≤ n → (said : Result (Option Message) Refusal) → SaidWithin l said → is_left said ≡ false → Sayable said n
unfolding Sayable Narrow RoomyFor SaidWithin Within is_left
fits l n narrow roomy (Ok None) h e = tt
fits l n narrow roomy (Ok (Some (Message.Credit units))) h e = (tt, omega arith)
fits l n narrow roomy (Ok (Some Message.Started)) h e = (tt, tt)
fits l n narrow roomy (Ok (Some (Message.Output x k))) h e = (omega (arith, h.1), omega (arith, h.1))
fits l n narrow roomy (Ok (Some (Message.End x))) h e = (tt, omega arith)
fits l n narrow roomy (Ok (Some Message.InputClosed)) h e = (tt, tt)
fits l n narrow roomy (Ok (Some (Message.Terminal outcome))) h e = (tt, (omega arith, e))
fits l n narrow roomy (Err x) h e = tt

-- what was asked for, as the code has it
module _ (r : Runner) (channel : ℕ) (store b : List ℕ) (x : After (Option Message)) (after : List ℕ) (said : message_after x after ≡ asked 13 r store b) where
  left_as : (left : Bool) → is_left x.answer ≡ left → is_left (asked 13 r store b).saying.answer ≡ left
  left_as left e = sym (ap (λ (y : MessageAfter). is_left y.saying.answer) said) ∙ e

  pub told_fits : r.limits.chunk < 2 ^ 32 → room r.limits ≤ length b → length after ≡ length b → is_left x.answer ≡ false → Sayable x.answer (length after)
  told_fits narrow roomy kept e =
      rw (kept, ap (λ (y : MessageAfter). y.saying.answer) said)
      (fits r.limits (length b) narrow roomy (asked 13 r store b).saying.answer (said_within 13 r store b) (left_as false e))

  -- a message that is left, and one that is told
  pub sent_left : is_left x.answer ≡ true → write_after (unwritten UntoldStatus r) after ≡ sent (carriage r channel store b) r store b
  unfolding sent
  sent_left e =
      rw (left_as true e) (ap (write_after (unwritten UntoldStatus r)) (ap (λ (y : MessageAfter). y.buffer) said ∙ left_kept r store b (left_as true e)))

  pub sent_told : (os : List Output) (w : After (Option (Message × ℕ))) (c : List ℕ) → os ≡ outputs_of r → is_left x.answer ≡ false
      → write_after w c ≡ told (laying channel (last_end os)) (message_after x after) → write_after w c ≡ sent (carriage r channel store b) r store b
  unfolding sent
  sent_told os w c h e t = rw (left_as false e) (rw (h, said) at t)
