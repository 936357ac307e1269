-- Something of each stream, in the order of Stream::ALL.
use Rattle.std.specs.Prelude.{Bool}
use Rattle.exec.specs.declared.Stream.{Stream}
use Rattle.exec.specs.declared.Stream.TheVariants.{Stdout, Stderr, Notes}
use Rattle.exec.specs.Stream.{pick, every_stream}

pub record Each (A : Type 0) : Type 0 where
  pub stdout : A
  pub stderr : A
  pub notes : A

-- that of one stream
abbrev pub one : {A : Type 0} → Stream → Each A → A
one x e = pick x e.stdout e.stderr e.notes

-- what a stream gives, of each
abbrev pub per : {A : Type 0} → (Stream → A) → Each A
per f = record { stdout = f Stdout; stderr = f Stderr; notes = f Notes }

-- that of one stream changed
abbrev pub on_one : {A : Type 0} → Stream → (A → A) → Each A → Each A
on_one Stdout f e = record { stdout = f e.stdout; stderr = e.stderr; notes = e.notes }
on_one Stderr f e = record { stdout = e.stdout; stderr = f e.stderr; notes = e.notes }
on_one Notes f e = record { stdout = e.stdout; stderr = e.stderr; notes = f e.notes }

abbrev pub alike : {A : Type 0} → A → Each A
alike a = per (λ (x : Stream). a)

-- that of each stream changed
abbrev pub each : {A B : Type 0} → (A → B) → Each A → Each B
each f e = per (λ (x : Stream). f (one x e))

-- two of each stream put together
abbrev pub both : {A B C : Type 0} → (A → B → C) → Each A → Each B → Each C
both f e d = per (λ (x : Stream). f (one x e) (one x d))

abbrev pub every : Each Bool → Bool
every e = every_stream (λ (x : Stream). one x e)
