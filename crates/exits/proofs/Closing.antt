-- CLOSE behind what was put, over plain variables.
use Rattle.std.specs.Prelude.{Some, None, Result, Ok, Err, true, not}
use Rattle.exec.specs.declared.Status.{Status}
use Rattle.exec.specs.declared.Refusal.{Refusal}
use mathlib.Core.List.{List, [], ◌++◌, append_assoc, append-nil}
use mathlib.Core.Path.{◌≡◌, refl, sym, ap, ◌∙◌}
use Prim.Native.Nat.{ℕ, ◌+◌, ◌-◌, ◌≤◌}
use native.Mathlib.Omega.{arith}
use lib.ListN.{length, take, drop, length-append, length-take, length-drop}
use lib.Seq.{take_at, drop_at, take_all, drop-drop, drop-length}
use borrow.Author.Tests.{le-leb}
use Rattle.codec.specs.declared.Record.TheVariants.{Close}
use Rattle.exec.specs.Written.{WrittenAfter, written_after}
use Rattle.codec.specs.Codec.{header, bytes_of, write}
use Rattle.exec.specs.declared.Refusal.TheVariants.{UntoldStatus}
use Rattle.exits.specs.Exit.{request, is_told, told, is_untold, ending, closed, close}
use Rattle.exits.specs.ExitLaws.{ending_length, close_roomy}
use Rattle.exits.proofs.Ended.{request_bound}
use Rattle.exits.proofs.Told.{Puts, put_told, put_untold}

close_written : (channel : ℕ) (t : List ℕ) → 5 ≤ length t
    → write channel Close [] t ≡ written_after (Ok 5) (bytes_of channel Close [] ++ drop 5 t)
unfolding write
close_written channel t h = simp (le-leb 5 (length t) h)

-- a status that is missing, and one that is not told
pub close_missing : (channel : ℕ) (d : List ℕ) → 43 ≤ length d → write channel Close [] d ≡ close channel None d
unfolding closed ending bytes_of header is_untold
close_missing channel d room = close_written channel d (omega arith) ∙ sym (close_roomy channel None d room refl)

pub close_untold : (channel : ℕ) (status : Status) (d b : List ℕ) → 43 ≤ length d → Puts (told channel status) None d b
    → written_after (Err UntoldStatus) b ≡ close channel (Some status) d
unfolding close is_untold
close_untold channel status d b room h =
    let p = put_untold channel status d b h in
    simp (p.0, p.1, le-leb 43 (length d) room)

-- one that is told, in the n bytes of b before the w bytes of CLOSE, which leave p
module _ (channel : ℕ) (status : Status) (d b : List ℕ) (n : ℕ) (w : Result ℕ Refusal) (p : List ℕ) (room : 43 ≤ length d)
    (h : Puts (told channel status) (Some n) d b) (e : written_after w p ≡ write channel Close [] (take (length b - n) (drop n b))) where
  abbrev q : List ℕ
  q = request channel status

  is : (is_told status ≡ true) × (n ≡ length q) × (b ≡ q ++ drop (length q) d)
  is = put_told channel status d b n h

  size : length b ≡ length q + length (drop (length q) d)
  size = simp (is.2, length-append) refl

  pub put_most : n ≤ 38
  put_most = omega (arith, is.1, request_bound channel status)

  -- CLOSE has the room that it asks for
  pub close_five : w ≡ Ok 5
  close_five =
      let long : 5 ≤ length (take (length b - n) (drop n b)) =
      simp (length-take, length-drop) (omega (arith, size, length-drop (length q) d, is.1, put_most)) in
      ap (λ (x : WrittenAfter). x.answer) (e ∙ close_written channel _ long)

  pub close_laid : written_after (Ok (n + 5)) (take n b ++ (p ++ drop (length b - n) (drop n b))) ≡ close channel (Some status) d
  unfolding closed ending is_untold
  close_laid =
      let c : List ℕ = bytes_of channel Close [] in
      let t : List ℕ = drop (length q) d in
      let front : take n b ≡ q = ap (take n) is.2 ∙ take_at q t n (sym is.1) in
      let rest : drop n b ≡ t = ap (drop n) is.2 ∙ drop_at q t n (sym is.1) in
      let left : length b - n ≡ length t = omega (arith, size, is.1) in
      let part : take (length b - n) (drop n b) ≡ t = rw (left, rest) (take_all (length t) t (omega arith)) in
      let none : drop (length b - n) (drop n b) ≡ [] = rw (left, rest) (drop-length t) in
      let long : 5 ≤ length t = simp length-drop (omega (arith, is.1, put_most)) in
      let done : p ≡ c ++ drop 5 t = ap (λ (x : WrittenAfter). x.buffer) (e ∙ ap (write channel Close []) part ∙ close_written channel t long) in
      let whole : n + 5 ≡ length (ending channel (Some status)) = ap (λ (k : ℕ). k + 5) is.1 ∙ ending_length channel (Some status) in
      let all : take n b ++ (p ++ drop (length b - n) (drop n b)) ≡ ending channel (Some status) ++ drop (length (ending channel (Some status))) d =
      rw (front, none, done)
      (ap (λ (x : List ℕ). q ++ x) (append-nil (c ++ drop 5 t))
      ∙ sym (append_assoc q c (drop 5 t))
      ∙ ap (λ (x : List ℕ). (q ++ c) ++ x) (drop-drop 5 (length q) d ∙ ap (λ (k : ℕ). drop k d) (ending_length channel (Some status)))) in
      rw (whole, all) (sym (close_roomy channel (Some status) d room (ap not is.0)))
