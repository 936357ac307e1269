-- The bytes of j pairs are written.
use Rattle.std.proofs.Common.{◌≡◌}
use Rattle.ring.specs.Runs.{copied}
use Rattle.hexadecimal.specs.Hexadecimal.{pairs}
use Rattle.hexadecimal.proofs.put_pairs.Given as goal

abbrev pub invariant-loop-j : goal.invariant-loop-j
invariant-loop-j l = l.out ≡ copied l.initial.out 0 (pairs l.text) 0 l.j
