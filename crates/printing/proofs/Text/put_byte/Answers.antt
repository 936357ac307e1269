-- A store is a copy of one byte.
use Rattle.std.proofs.Common.{[], ◌∷◌, refl, arith}
use Rattle.ring.specs.Runs.{copied_one}
use Rattle.printing.specs.Written.{wrote}
use Rattle.printing.proofs.Text.put_byte.Goals as goal

pub returns : goal.returns
returns c = record {
  wrote = wrote (c.args.b ∷ []) (copied_one _ _ _ (omega arith)) refl (omega arith) (omega arith);
  same = refl;
}
