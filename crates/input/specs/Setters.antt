-- An input with one field set: antt has no record update.
use Rattle.std.specs.Prelude.{Bool}
use Rattle.inbox.specs.declared.Inbox.{Inbox}
use Rattle.inbox.specs.declared.receiver.Granted.{Granted}
use Rattle.input.specs.declared.Input.{Input}

abbrev pub set_inbox : Inbox → Input → Input
set_inbox x i = record { inbox = x; window = i.window; peer_ended = i.peer_ended; closed = i.closed; close_requested = i.close_requested; closed_message = i.closed_message }

abbrev pub set_window : Granted → Input → Input
set_window x i = record { inbox = i.inbox; window = x; peer_ended = i.peer_ended; closed = i.closed; close_requested = i.close_requested; closed_message = i.closed_message }

abbrev pub set_peer_ended : Bool → Input → Input
set_peer_ended x i = record { inbox = i.inbox; window = i.window; peer_ended = x; closed = i.closed; close_requested = i.close_requested; closed_message = i.closed_message }

abbrev pub set_input_closed : Bool → Input → Input
set_input_closed x i = record { inbox = i.inbox; window = i.window; peer_ended = i.peer_ended; closed = x; close_requested = i.close_requested; closed_message = i.closed_message }

abbrev pub set_close_requested : Bool → Input → Input
set_close_requested x i = record { inbox = i.inbox; window = i.window; peer_ended = i.peer_ended; closed = i.closed; close_requested = x; closed_message = i.closed_message }

abbrev pub set_closed_message : Bool → Input → Input
set_closed_message x i = record { inbox = i.inbox; window = i.window; peer_ended = i.peer_ended; closed = i.closed; close_requested = i.close_requested; closed_message = x }
