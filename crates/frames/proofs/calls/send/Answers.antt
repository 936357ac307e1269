-- What was asked for, told.
use Rattle.carrier.specs.CarrierLaws.{told_as}
use Rattle.frames.specs.Calls.{carriage}
use Rattle.frames.specs.CallLaws.{said_fits}
use Rattle.frames.proofs.calls.send.Goals as goal

pub tell-requires : goal.tell-requires
tell-requires c =
    let a = c.args in
    said_fits a.runner a.s a.store.now a.buffer.now _ _ c.ask-saying.ensures c.requires.0 c.requires.1 c.ask-saying.auto.buffer

pub returns : goal.returns
returns c =
    let a = c.args in
    told_as (carriage a.runner a.s).laying _ _ _ _ _ c.ask-saying.ensures c.tell.ensures.0 c.tell.ensures.1
