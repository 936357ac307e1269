-- Keys: other id, or higher generation: refused by 1; same id, lower generation: stale.
use Rattle.std.specs.Prelude.{ℕ, cond, ltb, eqb, Result, Ok, Err}
use Rattle.exec.specs.declared.Admission.TheVariants.{Own, Stale}
use Rattle.exec.specs.declared.Admission.{Admission}
use Rattle.exec.specs.declared.Refusal.{Refusal}
use Rattle.exec.specs.declared.Key.{Key}

abbrev pub new_key : ℕ → ℕ → Key
new_key id generation = record { id = id; generation = generation }

unfoldable pub admits : Key → Key → Result Admission Refusal
admits own message =
    cond (eqb message.id own.id)
    (cond (ltb message.generation own.generation) (Ok Stale)
    (cond (eqb message.generation own.generation) (Ok Own) (Err Refusal.Key)))
    (Err Refusal.Key)
