-- The table of the code is that of the definition, call by call.
use Rattle.std.proofs.Common.{ap, ◌∙◌}
use Rattle.syntax.specs.Meaning.{call_is}
use Rattle.octets.specs.Text.{bytes}
use Rattle.reading.specs.Meaning.{line_is}
use Rattle.reading.specs.Naming.{find_map}
use Rattle.reading.proofs.lines.plain.Goals as goal

pub returns : goal.returns
unfolding bytes
returns c = λ w. ap (λ r. line_is r w) c.named.ensures ∙ find_map (λ x. call_is x w) _ _
