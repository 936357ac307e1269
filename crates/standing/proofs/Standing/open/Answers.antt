-- Whether a runner opens is decided by how long the stores are.
use Rattle.standing.specs.Standing.{stores_in}
use Rattle.standing.proofs.Lines.{opened_first}
use Rattle.standing.proofs.Standing.open.Goals as goal

pub returns-clause-answer : goal.returns-clause-answer
returns-clause-answer c w =
    let a = c.args in
    let sized = a.areas.now.sized in
    opened_first a.opening a.self.now (stores_in a.areas.now) _ c.opened_by.result _ c.noted-noting.result w c.noted-noting.ensures sized.0 sized.1 (c.opened_by.ensures.answer w)
