-- The request that was put, beside the bytes.
use Rattle.std.proofs.Common.{◌∙◌}
use Rattle.exits.proofs.Told.{request_same, request_none}
use Rattle.exits.proofs.is_request.Goals as goal

pub returns-in_default : goal.returns-in_default
returns-in_default c = request_none c.args.channel c.args.status _ _ c.args.bytes.now c.in_default.ensures

pub returns : goal.returns
returns c = c.eq.ensures ∙ request_same c.args.channel c.args.status _ _ c.in-Some.n c.args.bytes.now c.in-Some.ensures
