-- The digits of j bytes are written.
use Rattle.std.proofs.Common.{◌*◌, ◌≡◌}
use Rattle.ring.specs.Runs.{copied}
use Rattle.hexadecimal.specs.Hexadecimal.{hex_of}
use Rattle.hexadecimal.proofs.write.Given as goal

abbrev pub invariant-loop-j : goal.invariant-loop-j
invariant-loop-j l = l.out ≡ copied l.initial.out 0 (hex_of l.bytes) 0 (2 * l.j)
