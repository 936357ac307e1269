-- Each piece stands behind the one before it.
use Rattle.std.proofs.Common.{arith}
use Rattle.syntax.specs.Words.{bytes}
use Rattle.syntax.specs.Answers.{line_text}
use Rattle.printing.specs.Adding.{both, at_most}
use Rattle.answering.proofs.put_line.Goals as goal

pub returns : goal.returns
unfolding bytes line_text
returns c = at_most (both (both (both c.put.ensures c.put_byte.ensures) c.put_answer.ensures) c.put_byte-2.ensures) (omega arith)
