-- Once a runner is open, a line is answered as the call that it says, or by 30 where it says none.
use Rattle.std.specs.Prelude.{Option, Some, None}
use mathlib.Core.Bool.{Bool, true, false, cond}
use mathlib.Core.Path.{◌≡◌, refl}
use Rattle.calls.specs.Call.{Call}
use Rattle.syntax.specs.Lines.{line_call}
use Rattle.grammar.specs.Feed.{Running, Answered, is_short, answer_of, answered, later, too_long}
use Rattle.grammar.specs.ByLine.{next_by, answer_by, LaterLine}

pub later_line : LaterLine
unfolding answer_of answered too_long later
later_line s line = by (is_short line) (line_call line)
  where
    by : (b : Bool) (c : Option Call) → cond {A = Answered} b (later c s) (too_long (Running s)) ≡ record { stage = Running (next_by s (cond b c None)); answer = answer_by s (cond b c None) }
    by true None = refl
    by true (Some c) = refl
    by false c = refl
