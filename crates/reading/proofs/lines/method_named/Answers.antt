-- The table of the code is that of the definition, method by method.
use Rattle.std.proofs.Common.{ap, ◌∙◌}
use Rattle.octets.specs.Text.{bytes}
use Rattle.reading.specs.Methods.{method_is, method_of}
use Rattle.reading.specs.Naming.{find_map}
use Rattle.reading.proofs.lines.method_named.Goals as goal

pub returns : goal.returns
unfolding bytes
returns c = ap method_is c.named.ensures ∙ find_map method_of _ _
