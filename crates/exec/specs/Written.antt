-- What a writer into a lent buffer leaves: its answer, how many bytes it wrote or why none, and the buffer.
use Rattle.std.specs.Prelude.{List, ℕ, Result}
use Rattle.exec.specs.declared.Refusal.{Refusal}

pub record WrittenAfter : Type 0 where
  pub answer : Result ℕ Refusal
  pub buffer : List ℕ

abbrev pub written_after : Result ℕ Refusal → List ℕ → WrittenAfter
written_after answer buffer = record { answer = answer; buffer = buffer }
