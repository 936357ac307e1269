-- What the code has eaten of a piece, and how a session goes on from one line to the next.
use Rattle.std.specs.Prelude.{Bool, true, false, cond, ◌&&◌, ◌≡◌, refl, List, [], ◌∷◌, ◌++◌, ℕ, suc, ◌+◌, ◌-◌, ◌≤◌, ◌<◌, eqb, ltb, leb, length, take, drop}
use Rattle.std.proofs.Common.{sym, ap, ◌∙◌, append_assoc, append-nil, arith, add-one, length-append, take_all, take-add, ltb-true, ltb-false, eqb-true}
use Rattle.std.proofs.Math.Seq.{drop-length}
use Rattle.std.proofs.lemmas.List.{take-append-le}
use Rattle.search.specs.Search.{index_of}
use Rattle.grammar.specs.Feed.{Session, Step, hold, line_ends, eat, feeds}

-- a line is answered where 131,200 bytes of the output area are free, which is more than any answer has, and where its number is a u64
abbrev pub goes_on : Session → (room : ℕ) → Bool
goes_on s room = leb 131200 room && ltb s.lines 18446744073709551615

-- a session that holds these bytes of a line
abbrev pub holding : Session → List ℕ → Session
holding s l = record { stage = s.stage; lines = s.lines; held = l }

-- how many bytes are eaten: all of them, or those before an end of a line that is not answered yet
unfoldable pub eaten : Session → (room : ℕ) → List ℕ → ℕ
eaten s room [] = 0
eaten s room (b ∷ rest) =
    cond (eqb b 10)
    (cond (goes_on s room) (suc (eaten (line_ends s).session (room - length (line_ends s).printed) rest)) 0)
    (suc (eaten (holding s (hold b s.held)) room rest))

-- ---- a line, and its end

-- the bytes before the first end of a line
abbrev pub line_length : List ℕ → ℕ
line_length = index_of 10

-- more bytes of a line are held
unfoldable pub hold_all : Session → List ℕ → Session
hold_all s bs = holding s (take 65536 (s.held ++ bs))

hold_most : (b : ℕ) (l : List ℕ) → length l ≤ 65536 → length (hold b l) ≤ 65536
hold_most b l h = by (ltb (length l) 65536) refl
  where
    by : (e : Bool) → ltb (length l) 65536 ≡ e → length (cond e (l ++ (b ∷ [])) l) ≤ 65536
    by true q = let m : length l < 65536 = ltb-true (length l) 65536 q in simp length-append (omega arith)
    by false q = h

hold_run : (b : ℕ) (l run : List ℕ) → take 65536 (hold b l ++ run) ≡ take 65536 (l ++ b ∷ run)
hold_run b l run = by (ltb (length l) 65536) refl
  where
    by : (e : Bool) → ltb (length l) 65536 ≡ e → take 65536 (cond e (l ++ (b ∷ [])) l ++ run) ≡ take 65536 (l ++ b ∷ run)
    by true q = ap (take 65536) (append_assoc l (b ∷ []) run)
    by false q =
        let m : 65536 ≤ length l = ltb-false (length l) 65536 q in
        take-append-le 65536 l run m ∙ sym (take-append-le 65536 l (b ∷ run) m)

held_on : (s : Session) (b : ℕ) (run : List ℕ) → hold_all (holding s (hold b s.held)) run ≡ hold_all s (b ∷ run)
unfolding hold_all
held_on s b run = ap (holding s) (hold_run b s.held run)

held_none : (s : Session) → length s.held ≤ 65536 → hold_all s [] ≡ s
unfolding hold_all
held_none s h = ap (holding s) (ap (take 65536) (append-nil s.held) ∙ take_all 65536 s.held h)

eat_other : (s : Session) (b : ℕ) → eqb b 10 ≡ false → eat s b ≡ record { session = holding s (hold b s.held); printed = [] }
unfolding eat
eat_other s b q = rw q refl

eaten_other : (s : Session) (room b : ℕ) (rest : List ℕ) → eqb b 10 ≡ false → eaten s room (b ∷ rest) ≡ suc (eaten (holding s (hold b s.held)) room rest)
unfolding eaten
eaten_other s room b rest q = rw q refl

abbrev pub Held : Session → List ℕ → Type 0
Held s run = ((feeds s run).session ≡ hold_all s run) × ((feeds s run).printed ≡ [])

fed_none : (s : Session) → length s.held ≤ 65536 → Held s []
unfolding feeds
fed_none s h = (sym (held_none s h), refl)

fed_on : (s : Session) (b : ℕ) (run : List ℕ) → eqb b 10 ≡ false → Held (holding s (hold b s.held)) run → Held s (b ∷ run)
unfolding feeds
fed_on s b run q f = (
  ap (λ (t : Step). (feeds t.session run).session) (eat_other s b q) ∙ f.0 ∙ held_on s b run,
  ap (λ (t : Step). t.printed ++ (feeds t.session run).printed) (eat_other s b q) ∙ f.1,
)

-- A: TO THE END OF THE LINE, BYTES ARE HELD
pub line_feeds : (s : Session) (bs : List ℕ) → length s.held ≤ 65536 → Held s (take (line_length bs) bs)
unfolding index_of
line_feeds s [] h = fed_none s h
line_feeds s (b ∷ bs) h = by (eqb b 10) refl (line_feeds (holding s (hold b s.held)) bs (hold_most b s.held h))
  where
    by : (e : Bool) → eqb b 10 ≡ e → Held (holding s (hold b s.held)) (take (line_length bs) bs) → Held s (take (cond e 0 (suc (line_length bs))) (b ∷ bs))
    by true q f = fed_none s h
    by false q f = fed_on s b (take (line_length bs) bs) q f

eaten_none : (s : Session) (room : ℕ) (bs : List ℕ) → length s.held ≤ 65536 → eaten s room bs ≡ 0 + eaten (hold_all s []) room bs
eaten_none s room bs h = ap (λ (x : Session). eaten x room bs) (sym (held_none s h)) ∙ omega arith

-- B: AND ALL OF THEM ARE EATEN
pub line_eaten : (s : Session) (room : ℕ) (bs : List ℕ) → length s.held ≤ 65536
    → eaten s room bs ≡ line_length bs + eaten (hold_all s (take (line_length bs) bs)) room (drop (line_length bs) bs)
unfolding index_of
line_eaten s room [] h = eaten_none s room [] h
line_eaten s room (b ∷ bs) h = by (eqb b 10) refl (line_eaten (holding s (hold b s.held)) room bs (hold_most b s.held h))
  where
    by : (e : Bool) → eqb b 10 ≡ e
        → eaten (holding s (hold b s.held)) room bs ≡ line_length bs + eaten (hold_all (holding s (hold b s.held)) (take (line_length bs) bs)) room (drop (line_length bs) bs)
        → eaten s room (b ∷ bs)
        ≡ cond e 0 (suc (line_length bs)) + eaten (hold_all s (take (cond e 0 (suc (line_length bs))) (b ∷ bs))) room (drop (cond e 0 (suc (line_length bs))) (b ∷ bs))
    by true q f = eaten_none s room (b ∷ bs) h
    by false q f =
        eaten_other s room b bs q
        ∙ ap suc (f ∙ ap (λ (x : Session). line_length bs + eaten x room (drop (line_length bs) bs)) (held_on s b (take (line_length bs) bs)))
        ∙ omega arith

-- the line's end
end_of : (bs : List ℕ) → line_length bs < length bs → drop (line_length bs) bs ≡ 10 ∷ drop (suc (line_length bs)) bs
unfolding index_of
end_of [] h = absurd (omega arith)
end_of (b ∷ bs) h = by (eqb b 10) refl (end_of bs) h
  where
    by : (e : Bool) → eqb b 10 ≡ e → (line_length bs < length bs → drop (line_length bs) bs ≡ 10 ∷ drop (suc (line_length bs)) bs)
        → cond e 0 (suc (line_length bs)) < suc (length bs)
        → drop (cond e 0 (suc (line_length bs))) (b ∷ bs) ≡ 10 ∷ drop (suc (cond e 0 (suc (line_length bs)))) (b ∷ bs)
    by true q f h = ap (λ (x : ℕ). x ∷ bs) (eqb-true b 10 q)
    by false q f h = f (omega arith)

pub line_end : (bs : List ℕ) → line_length bs < length bs → drop (line_length bs) bs ≡ 10 ∷ drop (line_length bs + 1) bs
line_end bs h = rw add-one (end_of bs h)

-- the bytes to the end of a line, and its end
pub to_line_end : (bs : List ℕ) → line_length bs < length bs → take (line_length bs + 1) bs ≡ take (line_length bs) bs ++ (10 ∷ [])
to_line_end bs h = take-add (line_length bs) 1 bs ∙ ap (λ (x : List ℕ). take (line_length bs) bs ++ take 1 x) (line_end bs h)

pub feeds_end : (s : Session) → ((feeds s (10 ∷ [])).session ≡ (line_ends s).session) × ((feeds s (10 ∷ [])).printed ≡ (line_ends s).printed)
unfolding feeds eat
feeds_end s = (refl, append-nil (line_ends s).printed)

-- the end of a line is eaten, or not yet
eaten_end : (s : Session) (room : ℕ) (run rest : List ℕ) → goes_on s room ≡ true
    → eaten (hold_all s run) room (10 ∷ rest) ≡ suc (eaten (line_ends (hold_all s run)).session (room - length (line_ends (hold_all s run)).printed) rest)
unfolding eaten hold_all
eaten_end s room run rest g = rw g refl

eaten_stop : (s : Session) (room : ℕ) (run rest : List ℕ) → goes_on s room ≡ false → eaten (hold_all s run) room (10 ∷ rest) ≡ 0
unfolding eaten hold_all
eaten_stop s room run rest g = rw g refl

eaten_all : (s : Session) (room : ℕ) → eaten s room [] ≡ 0
unfolding eaten
eaten_all s room = refl

-- C: a piece without an end of a line is eaten whole
pub all_held : (s : Session) (room : ℕ) (bs : List ℕ) → length s.held ≤ 65536 → line_length bs ≡ length bs → eaten s room bs ≡ line_length bs
all_held s room bs h e =
    let held = hold_all s (take (line_length bs) bs) in
    let d : drop (line_length bs) bs ≡ [] = rw e (drop-length bs) in
    let n : eaten held room (drop (line_length bs) bs) ≡ 0 = ap (eaten held room) d ∙ eaten_all held room in
    line_eaten s room bs h ∙ omega arith

-- D: a line that is answered, and what is behind it
pub line_answered : (s : Session) (room : ℕ) (bs : List ℕ) → length s.held ≤ 65536 → line_length bs < length bs → goes_on s room ≡ true
    → eaten s room bs
    ≡ line_length bs + 1 + eaten (line_ends (hold_all s (take (line_length bs) bs))).session (room - length (line_ends (hold_all s (take (line_length bs) bs))).printed) (drop (line_length bs + 1) bs)
line_answered s room bs h l g =
    let run = take (line_length bs) bs in
    let n = ap (eaten (hold_all s run) room) (line_end bs l) ∙ eaten_end s room run (drop (line_length bs + 1) bs) g in
    line_eaten s room bs h ∙ ap (λ (x : ℕ). line_length bs + x) n ∙ omega arith

-- E: a line that is not answered yet
pub line_stopped : (s : Session) (room : ℕ) (bs : List ℕ) → length s.held ≤ 65536 → line_length bs < length bs → goes_on s room ≡ false → eaten s room bs ≡ line_length bs
line_stopped s room bs h l g =
    let run = take (line_length bs) bs in
    let n = ap (eaten (hold_all s run) room) (line_end bs l) ∙ eaten_stop s room run (drop (line_length bs + 1) bs) g in
    line_eaten s room bs h ∙ ap (λ (x : ℕ). line_length bs + x) n ∙ omega arith
