-- What a listener of the code stands for, and the laws of its line and of what it prints.
use Rattle.std.specs.Prelude.{false, ◌≡◌, refl, List, [], ◌∷◌, ◌++◌, ℕ, ◌+◌, ◌≤◌, ◌<◌, eqb, length, take, set}
use Rattle.std.proofs.Common.{arith}
use Rattle.std.proofs.lemmas.List.{take_more_set}
use Rattle.std.proofs.Math.Seq.{length-take-le}
use Rattle.ring.specs.Runs.{copied_zero}
use Rattle.printing.specs.declared.Text.{Text}
use Rattle.printing.specs.Written.{wrote}
use Rattle.printing.specs.Adding.{HasRoom, Adds}
use Rattle.listening.specs.Log.{Listening, eat, ended}
use Rattle.listening.specs.declared.listener.Listener.{Listener}

abbrev pub listening_of : Listener → Listening
listening_of x = record { stage = x.stage; held = take x.held x.line; long = x.long }

pub held_most : (k : ℕ) (line : List ℕ) → k ≤ length line → length (take k line) ≡ k
held_most k line h = length-take-le k line h

pub held_one : (k b : ℕ) (line : List ℕ) → k < length line → take (k + 1) (set line k b) ≡ take k line ++ (b ∷ [])
held_one k b line h = take_more_set line k b h

-- nothing is added
pub adds_none : (most : ℕ) (t : Text) → HasRoom most t → Adds most t t []
adds_none most t h = record { wrote = wrote [] (copied_zero t.area.now t.end [] 0) (omega arith) (omega arith) (omega arith); same = refl }

-- where nothing ends, nothing is printed
pub eat_held : (s : Listening) (b : ℕ) → eqb b 10 ≡ false → (eat s b).printed ≡ []
unfolding eat
eat_held s b h = rw h refl

pub ended_none : (s : Listening) → length s.held ≡ 0 → (ended s).printed ≡ []
unfolding ended
ended_none s h = rw h refl
