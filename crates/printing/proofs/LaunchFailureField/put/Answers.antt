-- The stage, and behind it a mark and the error.
use Rattle.std.proofs.Common.{◌∷◌, rules}
use Rattle.decimal.specs.Decimal.{signed_of}
use Rattle.printing.proofs.Parts.{handed_on}
use Rattle.syntax.specs.Words.{bytes}
use Rattle.printing.specs.Adding.{marked}
use Rattle.printing.proofs.LaunchFailureField.put.Goals as goal

pub returns : goal.returns
unfolding bytes
returns c =
    let error = handed_on (λ z. 47 ∷ signed_of z) c.args.self.error (search rules) c.put_after.ensures in
    marked c.put.ensures error
