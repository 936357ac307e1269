-- The bytes that are handed on are the first n of `work`.
use Rattle.std.proofs.Common.{◌∙◌, List, ℕ, take, ap, sym}
use Rattle.account.specs.Step.{took}
use Rattle.runner.specs.Calls as Runs
use Rattle.runner.specs.Streams.{OutputAfter}
use Rattle.std.proofs.lemmas.List.{take_min}
use Rattle.making.proofs.Kept.{output_moved, output_kept}
use Rattle.making.proofs.output.Goals as goal

pub returns : goal.returns
returns c =
    let a = c.args in
    let t = ap (λ (k : ℕ). take k a.work.now) c.min-k.ensures ∙ take_min a.n a.work.now in
    let e = c.output-taking.ensures ∙ ap (λ (b : List ℕ). Runs.output a.runner.now a.stream b a.store.now) t in (
      ap (λ (x : OutputAfter). output_moved a.runner.now x.taking.runner) e ∙ sym (output_kept a.runner.now a.stream _ a.store.now),
      ap (λ (x : OutputAfter). x.bytes) e,
      λ w. c.taken.ensures w ∙ ap (λ (x : OutputAfter). took x.taking.answer) e,
    )
