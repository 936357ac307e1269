-- Each call as it is promised, whatever the stores that it is not lent are.
use Rattle.making.proofs.make.Goals as goal

pub returns-in-Credit : goal.returns-in-Credit
returns-in-Credit c = rw c.in-Credit.is (c.credit.ensures _ _ _)

pub returns-in-InputWritten : goal.returns-in-InputWritten
returns-in-InputWritten c = rw c.in-InputWritten.is (c.input_written.ensures _ _)

pub returns-in-At : goal.returns-in-At
returns-in-At c = rw c.in-At.is (c.timed.ensures _ _ _)
