-- The line area: where the bytes of a line are put until it ends.
use Rattle.std.specs.Prelude.{Bool, true, false, cond, ◌≡◌, refl, List, [], ◌∷◌, ◌++◌, ℕ, zero, suc, ◌+◌, ◌-◌, ◌≤◌, ◌<◌, min, eqb, ltb, length, take, set}
use Rattle.std.proofs.Common.{sym, ap, ◌∙◌, arith, length-append, length-take, length-set, ltb-true, ltb-false}
use Rattle.std.proofs.Math.Seq.{set_out}
use Rattle.ring.specs.Runs.{copied, copied_zero, copied_one}
use Rattle.ring.specs.Lent.{copied_join}
use Rattle.search.specs.Search.{index_of}
use Rattle.grammar.specs.Feed.{Session, hold, eat, feeds}
use Rattle.card.specs.Feeding.{line_length, holding}

-- the line area after bytes that a session eats: a byte that ends no line is put behind those that are held, within the area
unfoldable pub laid : Session → (line : List ℕ) → (bytes : List ℕ) → List ℕ
laid s line [] = line
laid s line (b ∷ rest) = laid (eat s b).session (cond (eqb b 10) line (set line (length s.held) b)) rest

-- bytes put into an area from an index on
abbrev pub put : List ℕ → (at : ℕ) → (bytes : List ℕ) → List ℕ
put line at bytes = copied line at bytes 0 (length bytes)

-- bytes one after the other
pub laid_pieces : (s : Session) (line a b : List ℕ) → laid s line (a ++ b) ≡ laid (feeds s a).session (laid s line a) b
unfolding laid feeds
laid_pieces s line [] b = refl
laid_pieces s line (x ∷ a) b = laid_pieces (eat s x).session (cond (eqb x 10) line (set line (length s.held) x)) a b

-- an end of a line is put nowhere
pub laid_end : (s : Session) (line : List ℕ) → laid s line (10 ∷ []) ≡ line
unfolding laid
laid_end s line = refl

laid_other : (s : Session) (line : List ℕ) (b : ℕ) (run : List ℕ) → eqb b 10 ≡ false
    → laid s line (b ∷ run) ≡ laid (holding s (hold b s.held)) (set line (length s.held) b) run
unfolding laid eat
laid_other s line b run q = rw q refl

-- one byte, and those behind it
put_more : (line : List ℕ) (at b : ℕ) (q : List ℕ) → at + 1 + length q ≤ length line → put (set line at b) (at + 1) q ≡ put line at (b ∷ q)
put_more line at b q h =
    ap (λ (x : List ℕ). copied x (at + 1) q 0 (length q)) (copied_one line at b (omega arith))
    ∙ copied_join line at (b ∷ []) q 1 (length q) refl refl h
    ∙ ap (copied line at (b ∷ q) 0) (omega arith)

put_none : (line : List ℕ) (at n : ℕ) → line ≡ put line at (take n [])
put_none line at zero = copied_zero line at [] 0
put_none line at (suc n) = copied_zero line at [] 0

-- the bytes of a line are put at once, as many as there is room for
abbrev pub Lays : List ℕ → Type 0
Lays run = (s : Session) (line : List ℕ) → length s.held ≤ 65536 → length line ≡ 65536
    → laid s line run ≡ put line (length s.held) (take (65536 - length s.held) run)

lays_none : Lays []
unfolding laid
lays_none s line h l = put_none line (length s.held) (65536 - length s.held)

lays_more : (b : ℕ) (run : List ℕ) → eqb b 10 ≡ false → Lays run → Lays (b ∷ run)
lays_more b run q f s line h l = laid_other s line b run q ∙ by (ltb (length s.held) 65536) refl
  where
    by : (e : Bool) → ltb (length s.held) 65536 ≡ e
        → laid (holding s (cond e (s.held ++ (b ∷ [])) s.held)) (set line (length s.held) b) run ≡ put line (length s.held) (take (65536 - length s.held) (b ∷ run))
    by true e =
        let n = length s.held in
        let less : n < 65536 = ltb-true n 65536 e in
        let more : length (s.held ++ (b ∷ [])) ≡ n + 1 = length-append s.held (b ∷ []) in
        let rest = take (65536 - (n + 1)) run in
        let size : length rest ≡ min (65536 - (n + 1)) (length run) = length-take (65536 - (n + 1)) run in
        let one : 65536 - n ≡ suc (65536 - (n + 1)) = omega arith in
        let head : take (65536 - n) (b ∷ run) ≡ b ∷ rest = rw one refl in
        f (holding s (s.held ++ (b ∷ []))) (set line n b) (omega arith) (length-set line n b ∙ l)
        ∙ ap (λ (k : ℕ). put (set line n b) k (take (65536 - k) run)) more
        ∙ put_more line n b rest (omega arith)
        ∙ sym (ap (λ (x : List ℕ). put line n x) head)
    by false e =
        let n = length s.held in
        let full : 65536 ≤ n = ltb-false n 65536 e in
        let none : 65536 - n ≡ 0 = omega arith in
        ap (λ (x : List ℕ). laid s x run) (set_out line n b (omega arith))
        ∙ f s line h l
        ∙ ap (λ (k : ℕ). put line n (take k run)) none
        ∙ sym (ap (λ (k : ℕ). put line n (take k (b ∷ run))) none)

-- TO THE END OF THE LINE
pub line_lays : (bs : List ℕ) → Lays (take (line_length bs) bs)
unfolding index_of
line_lays [] = lays_none
line_lays (b ∷ bs) = by (eqb b 10) refl (line_lays bs)
  where
    by : (e : Bool) → eqb b 10 ≡ e → Lays (take (line_length bs) bs) → Lays (take (cond e 0 (suc (line_length bs))) (b ∷ bs))
    by true q f = lays_none
    by false q f = lays_more b (take (line_length bs) bs) q f
