-- As the status is.
use Rattle.std.proofs.Common.{rules, sym, ap, ◌∙◌}
use Rattle.std.specs.Int.{w32}
use Rattle.std.specs.Option.{option_copied}
use Rattle.std.proofs.lemmas.Int.{to_z-of_z}
use Rattle.exits.specs.SignalLaws.{name_most}
use Rattle.exits.proofs.Told.{code_put, code_untold, name_put, name_untold}
use Rattle.exits.proofs.put_request.Goals as goal

pub returns-in_default : goal.returns-in_default
returns-in_default c =
    let z = c.in-Exited.code in
    let same = to_z-of_z w32 z (search rules) in
    code_untold _ _ _ z c.in-Exited.is (search rules) (rw same at c.in_default.ensures)

pub returns-in-Ok : goal.returns-in-Ok
returns-in-Ok c =
    let z = c.in-Exited.code in
    let same = to_z-of_z w32 z (search rules) in
    code_put _ _ _ z _ _ c.in-Exited.is (search rules) (rw same at c.in-Ok.ensures) c.put_code.ensures

pub returns-in_err-name-in-Signaled : goal.returns-in_err-name-in-Signaled
returns-in_err-name-in-Signaled c =
    let z = c.in-Signaled.number in
    let same = to_z-of_z w32 z (search rules) in
    let named = rw same at c.name_of.ensures in
    name_untold _ _ _ z _ c.in-Signaled.is (sym named ∙ ap option_copied c.in_err-name-in-Signaled.was) c.from_residual.ensures

pub put_signal-requires : goal.put_signal-requires
put_signal-requires c =
    let z = c.in-Signaled.number in
    let same = to_z-of_z w32 z (search rules) in
    let named = rw same at c.name_of.ensures in
    (name_most z _ (sym named ∙ ap option_copied c.in_ok-name-in-Signaled.was), c.requires)

pub returns-in_ok-name-in-Signaled : goal.returns-in_ok-name-in-Signaled
returns-in_ok-name-in-Signaled c =
    let z = c.in-Signaled.number in
    let same = to_z-of_z w32 z (search rules) in
    let named = rw same at c.name_of.ensures in
    name_put _ _ _ z _ _ c.in-Signaled.is (sym named ∙ ap option_copied c.in_ok-name-in-Signaled.was) c.put_signal.ensures
