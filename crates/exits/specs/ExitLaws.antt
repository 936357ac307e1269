-- Laws of the requests for those who write them: where an ending is written, and how long it is.
use Rattle.std.specs.Prelude.{[], ◌≡◌, ℕ, ◌+◌, ◌≤◌, length, false, List, Option}
use Rattle.std.proofs.Common.{sym, length-append, le-leb}
use Rattle.exec.specs.declared.Status.{Status}
use Rattle.codec.specs.declared.Record.TheVariants.{Close}
use Rattle.codec.specs.Codec.{bytes_of, header}
use Rattle.exits.specs.Exit.{request_of, ending, is_untold, closed, close}

-- an ending has 5 bytes more than its request
pub ending_length : (channel : ℕ) (status : Option Status) → length (request_of channel status) + 5 ≡ length (ending channel status)
unfolding ending bytes_of header
ending_length channel status = sym (length-append (request_of channel status) (bytes_of channel Close []))

-- a status that is told is written where there is room
pub close_roomy : (channel : ℕ) (status : Option Status) (b : List ℕ) → 43 ≤ length b → is_untold status ≡ false
    → close channel status b ≡ closed channel status b
unfolding close
close_roomy channel status b room told = simp (le-leb 43 (length b) room, told)
