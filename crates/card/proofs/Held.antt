-- A line that is held, and its end.
use mathlib.Core.Path.{◌≡◌, refl, sym, ap, ◌∙◌}
use mathlib.Core.List.{List, [], ◌++◌}
use Prim.Native.Nat.{ℕ, ◌+◌, ◌-◌, ◌≤◌, min}
use native.Mathlib.Omega.{arith}
use lib.ListN.{length, take, drop}
use lib.Seq.{take_at, take-append-add, length-take-le, length_paste_head}
use Rattle.std.proofs.lemmas.List.{take_min}
use Rattle.ring.specs.Runs.{copied}
use Rattle.ring.specs.Lent.{copied_all}
use Rattle.standing.specs.declared.Standing.{Standing}
use Rattle.answering.specs.declared.Answer.{Answer}
use Rattle.card.specs.declared.feed.Card.{Card}
use Rattle.syntax.specs.Answers.{line_text}
use Rattle.grammar.specs.Feed as Feed
use Rattle.grammar.specs.Feed.{line_ends}
use Rattle.answering.specs.Answering.{answer_is}
use Rattle.printing.specs.Written.{Wrote, same_text}
use Rattle.card.specs.Holding.{Lent, Holds, EndsLine}
use Rattle.standing.specs.Standing.{place_of, Told, answer_at}
use Rattle.card.specs.Laying.{put}
use Rattle.standing.specs.Standing.{placed_is}

-- as many bytes as there is room for are copied behind those that are held
pub holds : (c : Card) (line bytes : List ℕ) (n : ℕ) → c.held ≤ 65536 → length line ≡ 65536 → n ≡ min (65536 - c.held) (length bytes)
    → Holds bytes c line (record { standing = c.standing; lines = c.lines; held = c.held + n }) (copied line c.held bytes 0 n)
unfolding copied
holds c line bytes n h l e =
    let held = c.held in
    let a = take held line in
    let la : length a ≡ held = length-take-le held line (omega arith) in
    let head : length (a ++ take n bytes) ≡ held + n = length_paste_head line held bytes n (omega arith) (omega arith) in
    let all : 65536 ≡ length a + (65536 - held) = omega arith in
    let size : length (take n bytes) ≡ n = length-take-le n bytes (omega arith) in
    let rest : take (65536 - held) bytes ≡ take n bytes = sym (ap (λ (k : ℕ). take k bytes) e ∙ take_min (65536 - held) bytes) in
    record {
      standing = refl;
      lines = refl;
      held = take_at (a ++ take n bytes) (drop (held + n) line) (held + n) head ∙ sym (ap (λ (k : ℕ). take k (a ++ bytes)) all ∙ take-append-add a bytes (65536 - held) ∙ ap (λ (x : List ℕ). a ++ x) rest);
      most = omega arith;
      area = sym (ap (λ (x : List ℕ). put line held x) rest ∙ ap (copied line held (take n bytes) 0) size ∙ copied_all line held (take n bytes) n size);
    }

-- the line that is held is answered
pub ends_line : (c : Card) (before : Lent) (s : Standing) (a : Answer) (after : Lent) (work : List ℕ) (at to : ℕ)
    → Told (answer_at (take (c.held - 0) before.line) (place_of c.standing before.stores)) (place_of c.standing before.stores) s a after.stores work
    → Wrote 131200 before.out after.out at to (line_text (c.lines + 1) (answer_is a work))
    → EndsLine at c before (record { standing = s; lines = c.lines + 1; held = 0 }) to after
unfolding line_ends
ends_line c before s a after work at to h w =
    let z : c.held - 0 ≡ c.held = omega arith in
    let k = rw z at h in
    let stage = placed_is (place_of s after.stores) _ _ k.0 in
    record {
      stands = record {
        session = ap (λ (s : Feed.Stage). record { stage = s; lines = c.lines + 1; held = [] }) stage;
        place = k.0;
        held = refl;
        most = omega arith;
      };
      printed = same_text (ap (line_text (c.lines + 1)) k.1) w;
    }
