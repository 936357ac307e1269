-- No more units are freed than are held, so that what is to be granted stays within the window.
use Rattle.std.proofs.Common.{arith}
use Rattle.inbox.specs.RangeLaws.{freed_fits}
use Rattle.inbox.specs.Inbox.{pop}
use Rattle.input.proofs.Input.written.Goals as goal

pub free-self-requires : goal.free-self-requires
unfolding pop
free-self-requires c = grind (arith, freed_fits _ _ _ c.requires.range c.args.count c.args.lengths.now c.requires.slots)
