-- A u64 has at most 20 digits.
use Rattle.std.proofs.Common.{refl, arith}
use Rattle.decimal.specs.DecimalLaws.{count_most}
use Rattle.printing.specs.Written.{wrote_lent}
use Rattle.printing.proofs.U64Field.put.Goals as goal

pub returns : goal.returns
returns c =
    let most = count_most 19 c.args.self (omega arith) in
    record { wrote = wrote_lent _ _ _ _ _ _ c.write.ensures.out_after c.write.ensures.value (omega arith) most (omega (arith, most)); same = refl }
