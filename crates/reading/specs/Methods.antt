-- What a method of one argument makes of it.
use Rattle.std.specs.Prelude.{List, ℕ, Option, option_map}
use Rattle.calls.specs.Call.{Call}
use Rattle.syntax.specs.Lines.{u64, read_allowance_of, output_closed_of, output_failed_of, output_hung_up_of, input_written_of, settled_of, message_of}
use Rattle.syntax.specs.Meaning.{timed_is}
use Rattle.reading.specs.declared.lines.Method.{Method}

abbrev pub method_of : Method → (a : List ℕ) → Option Call
method_of Method.ReadAllowance a = read_allowance_of a
method_of Method.OutputClosed a = output_closed_of a
method_of Method.OutputFailed a = output_failed_of a
method_of Method.OutputHungUp a = output_hung_up_of a
method_of Method.InputWritten a = input_written_of a
method_of Method.Settled a = settled_of a
method_of (Method.At x) a = option_map (λ now. timed_is now x) (u64 a)
method_of Method.Message a = message_of a

abbrev pub method_is : Option Method → Option (List ℕ → Option Call)
method_is r = option_map method_of r
