-- What the values of the code stand for.
use Rattle.std.specs.Prelude.{Option, Some, None}
use Rattle.opening.specs.Open.{Opening}
use Rattle.opening.specs.declared.Opening as Read

abbrev pub opening_is : Option Read.Opening → Option Opening
opening_is None = None
opening_is (Some x) = Some (record { conf = record { key = x.key; limits = x.limits; timers = x.timers; smallest = x.smallest }; now = x.now })
