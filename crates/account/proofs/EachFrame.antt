-- A frame that is read does what the calls do that it makes: DATA that ends its stream two, which answer alike.
use Rattle.std.specs.Prelude.{Result, Ok, Err, not}
use Rattle.exec.specs.declared.Receipt.{Receipt}
use mathlib.Core.Bool.{Bool, true, false, cond, ◌&&◌}
use mathlib.Core.Path.{◌≡◌, refl, sym, ap, ◌∙◌}
use mathlib.Core.List.{List, [], ◌∷◌}
use Prim.Native.Nat.{ℕ}
use lib.Dec.{eqb}
use lib.ListN.{length, drop}
use Rattle.exec.specs.declared.Key.{Key}
use Rattle.exec.specs.declared.Pool.TheVariants as Pool
use Rattle.exec.specs.declared.Refusal.{Refusal}
use Rattle.exec.specs.declared.Refusal.TheVariants.{NotFramed}
use Rattle.exec.specs.declared.Stream.TheVariants.{Stdout, Stderr, Notes}
use Rattle.exec.specs.declared.Unit.TheVariants.{Bytes}
use Rattle.exec.specs.Refusal.{number}
use Rattle.runner.specs.Calls as Calls
use Rattle.runner.specs.Calls.{stores_do}
use Rattle.runner.specs.Range.{stop}
use Rattle.runner.specs.Streams.{InputAfter}
use Rattle.carrier.specs.Carrier.{ReadAfter, heard_as, heard, accepted}
use Rattle.framing.specs.declared.Frame.{Frame}
use Rattle.framing.specs.Framing.{read}
use Rattle.framing.proofs.Refused.{read_refused}
use Rattle.frames.specs.Calls as Frames
use Rattle.frames.specs.Calls.{is_framed, parsed_read, data_made, then_end, is_ok}
use Rattle.frames.specs.CallLaws.{framed_plain, plain_bytes}
use Rattle.frames.proofs.Alike.{alike}
use Rattle.calls.specs.Call.{Call, is_refused}
use Rattle.account.specs.Step as Step
use Rattle.account.specs.Step.{State, received_as}
use Rattle.account.specs.Claim.{is_message}
use Rattle.account.specs.Records.{Entry, read_frame, leaves, read_as, data_calls, frame_calls, of_frames_read}
use Rattle.account.proofs.Lives.{conf_of}
use Rattle.account.proofs.EachRecord.{Does, Among, heard_as_lem, noted_as_lem}

-- a receipt is no refusal and no message
unrefused : (x : Receipt) → is_refused (read_as (heard_as (Ok x))) ≡ false
unrefused Receipt.Applied = refl
unrefused Receipt.Stale = refl
unrefused Receipt.Late = refl

quiet : (x : Result Receipt Refusal) → is_message (read_as (heard_as x)) ≡ false
quiet (Ok Receipt.Applied) = refl
quiet (Ok Receipt.Stale) = refl
quiet (Ok Receipt.Late) = refl
quiet (Err x) = refl

module _ (s : State) (now stream : ℕ) (b : List ℕ) (g : stop s.runner (stores_do s.runner s.bytes s.lengths) ≡ Ok tt) where
  abbrev pub e : Entry
  e = read_frame now stream b

  module _ (plain : s.runner.limits.input.unit ≡ Bytes) (bytes : List ℕ) where
    k : Key
    k = s.runner.key

    i : InputAfter
    i = Calls.input s.runner k bytes s.bytes s.lengths

    abbrev end : Result Receipt Refusal
    end = (Calls.end_input i.hearing.runner k).answer

    -- the bytes, and what is made behind them
    then_does : (ends : Bool) (x : Result Receipt Refusal) → i.hearing.answer ≡ x
        → Does e (Call.input k bytes ∷ cond (ends && not (is_refused (read_as (then_end ends k i).reading.answer))) (Call.end_input k ∷ []) []) s
        (leaves (then_end ends k i)) (read_as (then_end ends k i).reading.answer)
    unfolding Does then_end Step.next Step.answer k i
    then_does false x h = (refl, heard_as_lem i.hearing.answer)
    then_does true (Err x) h = rw h (refl, sym (ap received_as h))
    then_does true (Ok x) h =
        let same : end ≡ Ok x = alike s.runner bytes s.bytes s.lengths x plain g h in
        let taken : is_refused (read_as (heard_as end)) ≡ false = ap (λ (y : Result Receipt Refusal). is_refused (read_as (heard_as y))) same ∙ unrefused x in
        rw (h, taken) (heard_as_lem end ∙ ap received_as (same ∙ sym h), quiet end, (refl, heard_as_lem end))

    data_does : (ends : Bool) → let t = data_made ends bytes s.runner s.bytes s.lengths in
        Does e (data_calls k ends bytes (read_as t.reading.answer)) s (leaves t) (read_as t.reading.answer)
    unfolding data_made Does Step.next Step.answer k i
    data_does ends = by (ends && eqb (length bytes) 0)
      where
        made : (alone : Bool) → ReadAfter
        made alone = cond alone (record { reading = heard (Calls.end_input s.runner s.runner.key); bytes = s.bytes; lengths = s.lengths }) (then_end ends s.runner.key i)

        by : (alone : Bool) → Does e (cond alone (Call.end_input s.runner.key ∷ [])
            (Call.input s.runner.key bytes ∷ cond (ends && not (is_refused (read_as (made alone).reading.answer))) (Call.end_input s.runner.key ∷ []) [])) s
            (leaves (made alone)) (read_as (made alone).reading.answer)
        by true = (refl, heard_as_lem (Calls.end_input s.runner s.runner.key).answer)
        by false = then_does ends i.hearing.answer refl

  abbrev pub after : Result Frame Refusal → ReadAfter
  after p = parsed_read p s.runner now b s.bytes s.lengths

  parsed_does : s.runner.limits.input.unit ≡ Bytes → (p : Result Frame Refusal) → ((x : Refusal) → p ≡ Err x → Among of_frames_read x)
      → Does e (frame_calls (conf_of s.runner) now b p (read_as (after p).reading.answer)) s (leaves (after p)) (read_as (after p).reading.answer)
  unfolding Does frame_calls parsed_read Frames.made Step.next Step.answer k
  parsed_does plain (Ok (Frame.Update Stdout units)) h = (refl, heard_as_lem (Calls.credit s.runner s.runner.key Pool.Stdout units).answer)
  parsed_does plain (Ok (Frame.Update Stderr units)) h = (refl, heard_as_lem (Calls.credit s.runner s.runner.key Pool.Stderr units).answer)
  parsed_does plain (Ok (Frame.Update Notes units)) h = (refl, heard_as_lem (Calls.credit s.runner s.runner.key Pool.Notes units).answer)
  parsed_does plain (Ok (Frame.Data Stdout n ends)) h = data_does plain (drop 9 b) ends
  parsed_does plain (Ok (Frame.Data Stderr n ends)) h = record { kept = refl; refusal = 43; answered = refl; own = refl }
  parsed_does plain (Ok (Frame.Data Notes n ends)) h = record { kept = refl; refusal = 43; answered = refl; own = refl }
  parsed_does plain (Ok (Frame.Reset x)) h = (refl, noted_as_lem (Calls.reset s.runner now).answer)
  parsed_does plain (Err x) h = record { kept = refl; refusal = number x; answered = refl; own = h x refl }

  -- by whether the runner is framed
  pub frame_by : (framed : Bool) → is_framed s.runner.limits stream ≡ framed → let p = accepted (cond framed (Ok tt) (Err NotFramed)) (read stream b) in
      Does e (cond framed (frame_calls (conf_of s.runner) now b (read stream b) (read_as (after p).reading.answer)) []) s (leaves (after p)) (read_as (after p).reading.answer)
  unfolding Does accepted parsed_read
  frame_by true f = parsed_does (plain_bytes s.runner.limits (framed_plain s.runner.limits stream f)) (read stream b) (read_refused (Among of_frames_read) refl refl stream b)
  frame_by false f = record { kept = refl; refusal = 42; answered = refl; own = refl }
