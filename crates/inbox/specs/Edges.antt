-- The largest need of the byte store, and 02's smallest grant at its numbers, computed from the definitions; 01's twelve edges stand
-- together in the crate channel.
use Rattle.std.specs.Prelude.{ℕ, ◌≡◌, refl, true, false, ◌-◌, ◌^◌, Ok, Err}
use Rattle.exec.specs.declared.Limits.{Limits}
use Rattle.exec.specs.Limits.{bytes_window, frames_window, bytes_with, has_notes, limits_for}
use Rattle.exec.specs.declared.Refusal.{Refusal}
use Rattle.inbox.specs.declared.receiver.Granted.{Granted}
use Rattle.inbox.specs.Need.{byte_need}
use Rattle.inbox.specs.Receiver.{new_granted, charge, freed, take_grant, grant_fits}

abbrev frames_of : Limits
frames_of = limits_for (2 ^ 32 - 1) (frames_window (2 ^ 32 - 1)) (bytes_window 8) false

-- the largest need is the largest number of 64 bits
largest : byte_need frames_of ≡ 2 ^ 64 - 1
unfolding bytes_with has_notes
largest = refl

-- ---- 02, A9: "take_grant gives nothing until returnable is at least g, then all of it"

-- 3 units are open, so many returnable, and 4 the smallest grant
abbrev granted : ℕ → Granted
granted n = record { «open» = 3; returnable = n; smallest = 4 }

taken : (take_grant (granted 3) ≡ record { granted = granted 3; units = 0 })
    × (take_grant (granted 4) ≡ record { granted = record { «open» = 7; returnable = 0; smallest = 4 }; units = 4 })
    × (take_grant (granted 5) ≡ record { granted = record { «open» = 8; returnable = 0; smallest = 4 }; units = 5 })
    × (take_grant (granted 0) ≡ record { granted = granted 0; units = 0 })
taken = (refl, refl, refl, refl)

-- with 1 every unit is granted, and none where there is none
each_unit : (take_grant (record { «open» = 3; returnable = 1; smallest = 1 }) ≡ record { granted = record { «open» = 4; returnable = 0; smallest = 1 }; units = 1 })
    × (take_grant (record { «open» = 3; returnable = 0; smallest = 1 }) ≡ record { granted = record { «open» = 3; returnable = 0; smallest = 1 }; units = 0 })
each_unit = (refl, refl)

-- nothing else asks it or moves it: at first the whole window is returnable, however large the smallest grant
untouched : (new_granted 8 4 ≡ record { «open» = 0; returnable = 8; smallest = 4 })
    × (charge (granted 5) 3 ≡ Ok (record { «open» = 0; returnable = 5; smallest = 4 }))
    × (charge (granted 5) 4 ≡ Err Refusal.Window)
    × (freed (granted 3) 2 ≡ granted 5)
untouched = (refl, refl, refl, refl)

-- "a g of 0 or above the input size"
fits : (grant_fits 0 8 ≡ false) × (grant_fits 1 8 ≡ true) × (grant_fits 8 8 ≡ true) × (grant_fits 9 8 ≡ false)
    × (grant_fits 1 1 ≡ true) × (grant_fits 2 1 ≡ false) × (grant_fits 1 0 ≡ false) × (grant_fits (2 ^ 32 - 1) (2 ^ 32 - 2) ≡ false)
fits = (refl, refl, refl, refl, refl, refl, refl, refl)
