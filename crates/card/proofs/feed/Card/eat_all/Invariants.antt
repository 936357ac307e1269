-- So much is eaten (`So`).
use Rattle.std.proofs.Common.{◌≡◌, cond, ◌+◌, ◌-◌, length}
use Rattle.standing.specs.Standing.{Kept}
use Rattle.card.specs.Holding.{lent_with}
use Rattle.card.proofs.Turns.{So}
use Rattle.card.proofs.feed.Card.eat_all.Given as goal

abbrev pub invariant-loop-t : goal.invariant-loop-t
invariant-loop-t l =
    (length l.line ≡ 65536)
    × So l.piece l.initial.t.card (lent_with l.initial.line l.initial.areas l.initial.out) l.t (lent_with l.line l.areas l.out)
    × Kept l.initial.areas l.areas

abbrev pub decreases-loop-t : goal.decreases-loop-t
decreases-loop-t l = cond l.t.more (length l.piece + 1 - l.t.used) 0
