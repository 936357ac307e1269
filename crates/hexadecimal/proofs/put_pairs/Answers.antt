-- The value of a digit is below 16.
use Rattle.std.proofs.Common.{◌/◌, ◌<◌, arith, length}
use Rattle.hexadecimal.specs.Digits.{pair_high, pair_low}
use Rattle.hexadecimal.proofs.put_pairs.Goals as goal

pub overflow_mul-out : goal.overflow_mul-out
overflow_mul-out c =
    let h = c.requires.0 in
    let p = c.as_chunks.ensures.front in
    let j : c.loop-j.j < length c.args.text.now / 2 = omega arith in
    omega (arith, pair_high _ _ _ h p j, pair_low _ _ _ h p j)

pub overflow_add-out : goal.overflow_add-out
overflow_add-out c =
    let h = c.requires.0 in
    let p = c.as_chunks.ensures.front in
    let j : c.loop-j.j < length c.args.text.now / 2 = omega arith in
    omega (arith, pair_high _ _ _ h p j, pair_low _ _ _ h p j)
