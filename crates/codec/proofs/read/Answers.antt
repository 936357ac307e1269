-- A number that is not there is refused as the definition does it.
use Rattle.std.proofs.Common.{rules, ◌∙◌, sym}
use Rattle.codec.specs.Codec.{read, checked}
use Rattle.codec.specs.CodecLaws.{spelled_err}
use Rattle.codec.proofs.read.Goals as goal

pub returns-in_err-kinded : goal.returns-in_err-kinded
unfolding read checked
returns-in_err-kinded c =
    let was = c.in_err-kinded.was in
    let e = spelled_err c.args.channel _ c.args.bytes.now c.in_err-kinded.field-0.0 (sym c.kinded.ensures ∙ was) in
    search (rules, e)
