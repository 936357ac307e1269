-- What is left of the text, behind the number read so far, is what the whole is.
use Rattle.std.proofs.Common.{◌≡◌, ◌≤◌, drop}
use Rattle.decimal.specs.Decimal.{number_from, number}
use Rattle.decimal.proofs.read.Given as goal

abbrev pub invariant-loop-c : goal.invariant-loop-c
invariant-loop-c l = (l.v ≤ l.most) × (number l.most l.text ≡ number_from l.most l.v (drop l.c-index l.text))
