-- Lines that all say calls are answered as the list of these calls.
use Rattle.std.specs.Prelude.{Option, Some}
use mathlib.Core.Path.{◌≡◌, refl, ap}
use mathlib.Core.List.{List, [], ◌∷◌, map}
use Prim.Native.Nat.{ℕ}
use Rattle.calls.specs.Call.{Call, Answer}
use Rattle.account.specs.Step as Step
use Rattle.account.specs.Step.{State}
use Rattle.account.proofs.Session.{answers_of}
use Rattle.grammar.specs.Feed.{Running}
use Rattle.grammar.specs.ByLine.{call_said, answers_from}
use Rattle.grammar.proofs.Later.{later_line}

-- the calls that they say
abbrev pub calls_in : List (List ℕ) → List (Option Call)
calls_in ls = map call_said ls

pub as_calls : (ls : List (List ℕ)) (cs : List Call) (s : State) → calls_in ls ≡ map Some cs → answers_from (Running s) ls ≡ answers_of (Step.run s cs)
as_calls [] [] s e = refl
as_calls [] (c ∷ cs) s e = cc
as_calls (l ∷ ls) [] s e = cc
as_calls (l ∷ ls) (c ∷ cs) s e =
    let h : call_said l ≡ Some c = cc in
    let t : calls_in ls ≡ map Some cs = cc in rw (later_line s l, h) (ap (λ (rest : List Answer). Step.answer s c ∷ rest) (as_calls ls cs (Step.next s c) t))
