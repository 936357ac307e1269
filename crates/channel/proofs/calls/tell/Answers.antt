-- A message's record fits where its payload does.
use Rattle.channel.specs.CallLaws.{Sayable}
use Rattle.channel.proofs.Steps.{roomy_sent}
use Rattle.channel.proofs.calls.tell.Goals as goal

pub lay_out-requires : goal.lay_out-requires
unfolding Sayable
lay_out-requires c = rw c.sent_as-out.ensures (roomy_sent _ _ _ (rw (c.in_ok-message.was, c.in-Some.is) at c.requires).1)
