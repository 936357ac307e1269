-- An output stream with one field set: antt has no record update.
use Rattle.std.specs.Prelude.{ℕ, Bool}
use Rattle.output.specs.declared.Output.{Output}

abbrev pub set_start : ℕ → Output → Output
set_start x o = record { start = x; queued = o.queued; closed = o.closed; hung_up = o.hung_up; ended = o.ended; discarding = o.discarding; discard_requested = o.discard_requested; truncated = o.truncated }

abbrev pub set_queued : ℕ → Output → Output
set_queued x o = record { start = o.start; queued = x; closed = o.closed; hung_up = o.hung_up; ended = o.ended; discarding = o.discarding; discard_requested = o.discard_requested; truncated = o.truncated }

abbrev pub set_closed : Bool → Output → Output
set_closed x o = record { start = o.start; queued = o.queued; closed = x; hung_up = o.hung_up; ended = o.ended; discarding = o.discarding; discard_requested = o.discard_requested; truncated = o.truncated }

abbrev pub set_hung_up : Bool → Output → Output
set_hung_up x o = record { start = o.start; queued = o.queued; closed = o.closed; hung_up = x; ended = o.ended; discarding = o.discarding; discard_requested = o.discard_requested; truncated = o.truncated }

abbrev pub set_ended : Bool → Output → Output
set_ended x o = record { start = o.start; queued = o.queued; closed = o.closed; hung_up = o.hung_up; ended = x; discarding = o.discarding; discard_requested = o.discard_requested; truncated = o.truncated }

abbrev pub set_discarding : Bool → Output → Output
set_discarding x o = record { start = o.start; queued = o.queued; closed = o.closed; hung_up = o.hung_up; ended = o.ended; discarding = x; discard_requested = o.discard_requested; truncated = o.truncated }

abbrev pub set_discard_requested : Bool → Output → Output
set_discard_requested x o = record { start = o.start; queued = o.queued; closed = o.closed; hung_up = o.hung_up; ended = o.ended; discarding = o.discarding; discard_requested = x; truncated = o.truncated }

abbrev pub set_truncated : Bool → Output → Output
set_truncated x o = record { start = o.start; queued = o.queued; closed = o.closed; hung_up = o.hung_up; ended = o.ended; discarding = o.discarding; discard_requested = o.discard_requested; truncated = x }
