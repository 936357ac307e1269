-- The places that are left.
use Rattle.std.proofs.Common.{length}
use Rattle.decimal.proofs.+put_last_digits.Given as goal

abbrev pub decreases-put_last_digits : goal.decreases-put_last_digits
decreases-put_last_digits l = length l.out.now
