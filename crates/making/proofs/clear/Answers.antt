-- n zeros, and the rest.
use Rattle.std.proofs.Common.{◌∙◌, ap, arith, length, length-take, take, drop, List, ℕ, ◌++◌, ◌≡◌}
use Rattle.syntax.specs.Zeros.{zeros_are}
use Rattle.making.proofs.clear.Goals as goal

pub returns : goal.returns
returns c =
    let n = c.args.n in
    let w = c.args.work.now in
    let m : length (take n w) ≡ n = omega (arith, length-take n w) in
    ap (λ (x : List ℕ). x ++ drop n w) (c.fill.ensures.after (λ y e. e) ∙ rw m (zeros_are n))
