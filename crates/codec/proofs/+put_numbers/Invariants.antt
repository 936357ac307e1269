-- The numbers that are left.
use Rattle.std.proofs.Common.{length}
use Rattle.codec.proofs.+put_numbers.Given as goal

abbrev pub decreases-put_numbers : goal.decreases-put_numbers
decreases-put_numbers l = length l.numbers.now
