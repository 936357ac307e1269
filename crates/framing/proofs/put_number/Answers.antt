-- The head's nine bytes, and the number's four behind them.
use Rattle.std.proofs.Common.{rules, drop-drop}
use Rattle.framing.proofs.put_number.Goals as goal

pub returns : goal.returns
returns c = rw (c.copy_from_slice.ensures.after, c.head.ensures, c.copy_from_slice-2.ensures.after, c.split_at_mut-first.ensures.back) (search (rules, drop-drop 4 9 c.args.buffer.now))
