-- Word, how many bytes, and two digits a byte.
use Rattle.std.proofs.Common.{refl, arith}
use Rattle.hexadecimal.specs.HexadecimalLaws.{hex_length}
use Rattle.syntax.specs.Words.{bytes}
use Rattle.printing.specs.Written.{wrote_lent}
use Rattle.printing.specs.Adding.{both, marked, at_most}
use Rattle.printing.proofs.Text.with_bytes.Goals as goal

pub returns : goal.returns
unfolding bytes
returns c =
    let counted = both (marked c.put.ensures c.put_after.ensures) c.put_byte.ensures in
    let l = hex_length c.args.bytes.now in
    let digits = wrote_lent {most = 131072} _ _ _ _ _ _ c.write.ensures.out_after c.write.ensures.value (omega arith) (omega (arith, l)) (omega (arith, l)) in
    at_most (both counted (record { wrote = digits; same = refl })) (omega arith)
