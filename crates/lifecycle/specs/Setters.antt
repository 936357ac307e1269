-- A part with one field set: antt has no record update.
use Rattle.std.specs.Prelude.{Option, ℕ}
use Rattle.lifecycle.specs.declared.clocks.Clocks.{Clocks}
use Rattle.lifecycle.specs.declared.life.Launch.{Launch}
use Rattle.lifecycle.specs.declared.life.Exit.{Exit}
use Rattle.lifecycle.specs.declared.life.Settling.{Settling}
use Rattle.lifecycle.specs.declared.life.Life.{Life}

abbrev pub set_timeout_at : Option ℕ → Clocks → Clocks
set_timeout_at x c = record { timeout_at = x; grace_until = c.grace_until; give_up_at = c.give_up_at; abandon_at = c.abandon_at; terminated = c.terminated }

abbrev pub set_grace_until : Option ℕ → Clocks → Clocks
set_grace_until x c = record { timeout_at = c.timeout_at; grace_until = x; give_up_at = c.give_up_at; abandon_at = c.abandon_at; terminated = c.terminated }

abbrev pub set_give_up_at : Option ℕ → Clocks → Clocks
set_give_up_at x c = record { timeout_at = c.timeout_at; grace_until = c.grace_until; give_up_at = x; abandon_at = c.abandon_at; terminated = c.terminated }

abbrev pub set_abandon_at : Option ℕ → Clocks → Clocks
set_abandon_at x c = record { timeout_at = c.timeout_at; grace_until = c.grace_until; give_up_at = c.give_up_at; abandon_at = x; terminated = c.terminated }

abbrev pub set_launch : Launch → Life → Life
set_launch x l = record { launch = x; exit = l.exit; cause = l.cause; terminate_request = l.terminate_request; settling = l.settling }

abbrev pub set_exit : Exit → Life → Life
set_exit x l = record { launch = l.launch; exit = x; cause = l.cause; terminate_request = l.terminate_request; settling = l.settling }

abbrev pub set_settling : Settling → Life → Life
set_settling x l = record { launch = l.launch; exit = l.exit; cause = l.cause; terminate_request = l.terminate_request; settling = x }
