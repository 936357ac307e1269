-- What is said of the list that ended, and behind it what is said of the list that stands.
use Rattle.std.proofs.Common.{ap, ◌∙◌}
use Rattle.printing.specs.Adding.{both, told_as}
use Rattle.listening.specs.Log.{heard, heard_text, line_ends}
use Rattle.listening.proofs.listener.Listener.end_line.Goals as goal

pub returns-clause-said : goal.returns-clause-said
unfolding line_ends
returns-clause-said c =
    let e = c.heard-heard.ensures ∙ ap (heard c.args.self.now.stage) c.read.ensures in
    told_as (ap heard_text e) (both c.put_said.ensures c.put_said-2.ensures)
