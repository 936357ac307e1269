-- Nothing is eaten at first; a turn eats more.
use Rattle.std.proofs.Common.{◌≡◌, ◌∙◌, rules, length}
use Rattle.card.proofs.Turns.{so_first, so_next}
use Rattle.card.proofs.feed.Card.eat_all.Goals as goal

pub loop-t-init : goal.loop-t-init
loop-t-init c = (c.requires.0, so_first _ _ _ c.requires.1 c.requires.0, search rules)

pub loop-t-preserved : goal.loop-t-preserved
loop-t-preserved c =
    let l = c.loop-t in
    let g = c.go_on in
    let line : length g.new.line ≡ length l.line = search rules in
    (line ∙ l.invariant.0, so_next _ _ _ l.t _ _ _ l.invariant.1 c.loop-t-test.true g.ensures.answer, search rules)
