-- The bytes that are handed on are the first n of `work`.
use Rattle.std.proofs.Common.{◌∙◌, List, ℕ, take, ap, sym}
use Rattle.account.specs.Step.{received_as}
use Rattle.runner.specs.Calls as Runs
use Rattle.runner.specs.Streams.{InputAfter}
use Rattle.std.proofs.lemmas.List.{take_min}
use Rattle.making.proofs.Kept.{input_moved, input_kept}
use Rattle.making.proofs.input.Goals as goal

pub returns : goal.returns
returns c =
    let a = c.args in
    let t = ap (λ (k : ℕ). take k a.work.now) c.min-k.ensures ∙ take_min a.n a.work.now in
    let e = c.input-hearing.ensures ∙ ap (λ (b : List ℕ). Runs.input a.runner.now a.key b a.store.now a.lengths.now) t in (
      ap (λ (x : InputAfter). input_moved a.runner.now x.hearing.runner) e ∙ sym (input_kept a.runner.now a.key _ a.store.now a.lengths.now),
      ap (λ (x : InputAfter). x.bytes) e,
      ap (λ (x : InputAfter). x.lengths) e,
      λ w. c.into.ensures w ∙ ap (λ (x : InputAfter). received_as x.hearing.answer) e,
    )
