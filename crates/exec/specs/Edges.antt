-- Small examples of keys and times, computed from the definitions; 01's twelve edges stand together in the crate channel.
use Rattle.std.specs.Prelude.{◌≡◌, refl, true, false, ◌-◌, ◌^◌, Some, Ok}
use Rattle.exec.specs.declared.Admission.TheVariants.{Own}
use Rattle.exec.specs.Key.{new_key, admits}
use Rattle.exec.specs.Time.{due}

-- its own key
own : admits (new_key 7 2) (new_key 7 2) ≡ Ok Own
unfolding admits
own = refl

-- due at its time exactly
reached : due (Some (2 ^ 64 - 1)) (2 ^ 64 - 1) ≡ true
reached = refl

before : due (Some (2 ^ 64 - 1)) (2 ^ 64 - 2) ≡ false
before = refl
