-- To the end of a line, or to where the piece ends.
use Rattle.std.proofs.Common.{◌≡◌, ◌∙◌, ap, refl, rules, arith, length, length-drop}
use Rattle.card.specs.Feeding.{line_length}
use Rattle.card.specs.Holding.{lent_with}
use Rattle.card.proofs.Turns.{rest_is, go_passed, go_held}
use Rattle.card.proofs.feed.Turn.go_on.Goals as goal

pub returns-then-n-rest-clause-answer : goal.returns-then-n-rest-clause-answer
returns-then-n-rest-clause-answer c =
    let a = c.args in
    let r = c.requires in
    let kept = c.hold in
    let size : length kept.new.line ≡ 65536 = (search rules) ∙ r.0 in
    let all = rest_is a.piece.now a.self.now.used in
    let h = rw all at kept.ensures in
    go_passed a.piece.now a.self.now (lent_with a.line.now a.areas.now a.out.now) kept.new.self kept.new.line c.line_length-n.result r.1 r.0 (c.line_length-n.ensures.0 ∙ ap line_length all) r.3 r.2 h size c.pass_line.new.self _ (omega (arith, c.if-n-rest.true, length-drop a.self.now.used a.piece.now)) refl c.pass_line.ensures.answer

pub returns-else-n-rest-clause-answer : goal.returns-else-n-rest-clause-answer
returns-else-n-rest-clause-answer c =
    let a = c.args in
    let r = c.requires in
    let kept = c.hold in
    let size : length kept.new.line ≡ 65536 = (search rules) ∙ r.0 in
    let all = rest_is a.piece.now a.self.now.used in
    let h = rw all at kept.ensures in
    go_held a.piece.now a.self.now (lent_with a.line.now a.areas.now a.out.now) kept.new.self kept.new.line c.line_length-n.result r.1 r.0 (c.line_length-n.ensures.0 ∙ ap line_length all) r.3 r.2 h size (omega (arith, c.line_length-n.ensures.1, c.if-n-rest.false, length-drop a.self.now.used a.piece.now))
