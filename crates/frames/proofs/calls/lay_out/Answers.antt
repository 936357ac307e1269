-- One frame, where it fits.
use Rattle.std.proofs.Common.{refl, arith, ◌∙◌, le-leb}
use Rattle.exec.specs.declared.Stream.TheVariants.{Stdout}
use Rattle.framing.specs.declared.Frame.TheVariants.{Update, Data}
use Rattle.std.specs.Prelude.{true, false}
use Rattle.frames.specs.Calls.{sent_as}
use Rattle.frames.specs.CallLaws.{Layable, lay_one}
use Rattle.frames.proofs.calls.lay_out.Goals as goal

pub returns-in-Credit : goal.returns-in-Credit
unfolding sent_as Layable
returns-in-Credit c =
    let h = rw c.in-Credit.is at c.requires.1 in
    rw c.in-Credit.is (c.lay.ensures ∙ lay_one c.args.s (Update Stdout c.in-Credit.units) c.args.buffer.now c.requires.0 refl (le-leb _ _ h.0) (omega (arith, h.1)))

pub returns-in-Output : goal.returns-in-Output
unfolding sent_as Layable
returns-in-Output c =
    let h = rw c.in-Output.is at c.requires.1 in
    rw c.in-Output.is (c.lay-in-Output.ensures ∙ lay_one c.args.s (Data c.in-Output.x c.in-Output.n false) c.args.buffer.now c.requires.0 h.0 (le-leb _ _ h.1) (omega (arith, h.2)))

pub returns-in-End : goal.returns-in-End
unfolding sent_as Layable
returns-in-End c =
    let h = rw c.in-End.is at c.requires.1 in
    rw c.in-End.is (c.lay-in-End.ensures ∙ lay_one c.args.s (Data c.in-End.x 0 true) c.args.buffer.now c.requires.0 h.0 refl (omega (arith, h.1)))
