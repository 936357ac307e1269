-- The table's rule, at any byte.
use Rattle.std.proofs.Common.{arith}
use Rattle.hexadecimal.specs.Hexadecimal.{digits}
use Rattle.hexadecimal.specs.Digits.{digits_rule}
use Rattle.hexadecimal.proofs.value.Goals as goal

pub returns : goal.returns
unfolding digits
returns c = digits_rule c.args.c (omega arith)
