-- An i32 has at most a minus and ten digits.
use Rattle.std.proofs.Common.{refl, arith}
use Rattle.std.specs.Int.{w32}
use Rattle.std.proofs.lemmas.Int.{to_z-of_z}
use Rattle.printing.specs.Written.{wrote_lent}
use Rattle.printing.specs.Lengths.{signed_most}
use Rattle.printing.proofs.I32Field.put.Goals as goal

pub returns : goal.returns
returns c =
    let f = rw (to_z-of_z w32 c.args.self c.ranges.self) at c.write_signed.ensures in
    let most = signed_most c.args.self c.ranges.self in
    record { wrote = wrote_lent _ _ _ _ _ _ f.out_after f.value (omega arith) (omega (arith, most)) (omega (arith, most)); same = refl }
