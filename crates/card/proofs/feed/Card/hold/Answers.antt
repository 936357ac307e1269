-- No more is held than tells that a line is too long.
use Rattle.card.proofs.Held.{holds}
use Rattle.card.proofs.feed.Card.hold.Goals as goal

pub returns : goal.returns
returns c =
    let a = c.args in rw c.copy_in.ensures (holds a.self.now a.line.now a.bytes.now _ c.requires.0 c.requires.1 c.min-n.ensures)
