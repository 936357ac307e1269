-- What the code prints is what the card prints, and that is the answers of one of demand 3's lists.
use mathlib.Core.Path.{◌≡◌, refl, sym, ap, ◌∙◌, subst}
use mathlib.Core.List.{List, [], ◌∷◌, ◌++◌, append-nil}
use Prim.Native.Nat.{ℕ}
use Rattle.grammar.specs.Feed.{Session, start, line_ends, eat, feeds, pieces, ends, prints}
use Rattle.cards.specs.Host.{eaten_by}
use Rattle.cards.specs.Runs.{CardRuns}
use Rattle.cards.specs.Program.{Programs}
use Rattle.cards.proofs.Host.{hosted}
use Rattle.cards.proofs.Runs.{card_runs}

-- behind a last 0a the end of the input prints nothing
nothing_held : (s : Session) → ends (feeds s (10 ∷ [])).session ≡ []
unfolding feeds eat line_ends ends
nothing_held s = refl

printed_whole : (text : List ℕ) → prints (text ++ (10 ∷ [])) ≡ (feeds start (text ++ (10 ∷ []))).printed
unfolding prints
printed_whole text =
    let e = ap ends (pieces start text (10 ∷ [])).0 ∙ nothing_held (feeds start text).session in
    ap (λ (t : List ℕ). (feeds start (text ++ (10 ∷ []))).printed ++ t) e ∙ append-nil _

-- BYTES IN, BYTES OUT
pub program : Programs
program x ms h =
    let bytes = eaten_by ms in
    record {
      so_far = λ text e ok. subst (CardRuns bytes) (rw e (printed_whole text) ∙ sym (hosted x ms h).so_far) (card_runs bytes ok);
      whole = λ out r after room f ok. rw ((hosted x ms h).whole out r after room f) (card_runs bytes ok);
    }
