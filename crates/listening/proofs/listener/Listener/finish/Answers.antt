-- What the last line says, and behind it what is said of the list that stands.
use Rattle.std.proofs.Common.{◌++◌, ap, ◌∙◌}
use Rattle.printing.specs.Adding.{both, told_as}
use Rattle.listening.specs.Log.{last, said_text, ended, ends}
use Rattle.listening.specs.Listens.{listening_of}
use Rattle.listening.proofs.listener.Listener.finish.Goals as goal

pub returns : goal.returns
unfolding ends
returns c =
    let e = c.last.ensures ∙ ap (λ s. last s.stage) c.end_held.ensures.heard in
    told_as (ap (λ v. (ended (listening_of c.args.self.now)).printed ++ said_text v) e) (both c.end_held.ensures.said c.put_said.ensures)
