-- What a status tells, over plain variables: its request was put, and what bytes are no request.
use Rattle.std.specs.Prelude.{◌≡◌, refl, Bool, true, false, cond, ◌&&◌, List, ◌++◌, ℕ, nat_eq, ◌+◌, ◌-◌, ◌^◌, ◌<◌, ℤ, pos, negsuc, length, take, drop, Option, Some, None}
use Rattle.std.specs.Cmp.Lexicographic.{pointwise}
use Rattle.std.specs.Option.{option_map}
use Rattle.std.specs.Int.{FitsUnsignedBits, w32}
use Rattle.std.proofs.Math.IntN.{nat_abs}
use Rattle.std.proofs.Common.{sym, ap, ◌∙◌, subst, SFits, arith, length-append, lt-ltb, ne_eqb, take_at}
use Rattle.exec.specs.declared.Status.{Status}
use Rattle.exec.specs.declared.Status.TheVariants.{Exited, Signaled}
use Rattle.octets.specs.Bytes.{be32}
use Rattle.octets.specs.Text.{bytes, same}
use Rattle.exits.specs.Signals.{name_of, number_of}
use Rattle.exits.specs.Exit.{head, named, request, is_told, told, put, name_in, guess}
use Rattle.exits.proofs.Found.{compared}

is_code : (z : ℤ) (n : ℕ) → FitsUnsignedBits 32 z → n ≡ nat_abs z → z ≡ pos n
is_code (pos m) n f e = ap pos (sym e)
is_code (negsuc m) n f e = absurd f

-- what is left of a buffer and answered where a request is put, if there is one
abbrev pub Puts : Option (List ℕ) → Option ℕ → (before after : List ℕ) → Type 0
Puts o answer before after = (answer ≡ option_map length o) × (after ≡ put o before)

module _ (channel : ℕ) (status : Status) (d : List ℕ) where
  -- a code, and what an i32 holds that is none
  pub code_put : (z : ℤ) (n : ℕ) (b : List ℕ) → status ≡ Exited z → SFits w32 z → FitsUnsignedBits 32 z × (n ≡ nat_abs z)
      → b ≡ (head channel (bytes "exit-status") ++ be32 n) ++ drop 25 d → Puts (told channel status) (Some 25) d b
  unfolding told is_told request bytes
  code_put z n b e s f h =
      let p = is_code z n f.0 f.1 in
      let l : SFits w32 (pos n) = subst (SFits w32) p s in
      let low : n < 2 ^ 31 = l.sfits in
      rw (e, p, lt-ltb n (2 ^ 31) low) (refl, h)

  pub code_untold : (z : ℤ) → status ≡ Exited z → SFits w32 z → (FitsUnsignedBits 32 z → ⊥) → Puts (told channel status) None d d
  unfolding told is_told
  code_untold (pos n) e s f =
      let low : n < 2 ^ 31 = s.sfits in
      absurd (f (omega arith))
  code_untold (negsuc n) e s f = rw e (refl, refl)

  -- a signal with a name, and one without
  pub name_put : (z : ℤ) (name b : List ℕ) → status ≡ Signaled z → name_of z ≡ Some name → b ≡ named channel name ++ drop (34 + length name) d
      → Puts (told channel status) (Some (34 + length name)) d b
  unfolding told is_told request bytes
  name_put z name b e f h =
      let l : 34 + length name ≡ length (named channel name) = simp length-append (omega arith) in
      rw (e, f) (ap Some l, h ∙ ap (λ (n : ℕ). named channel name ++ drop n d) l)

  pub name_untold : (z : ℤ) (answer : Option ℕ) → status ≡ Signaled z → name_of z ≡ None → answer ≡ None → Puts (told channel status) answer d d
  unfolding told is_told
  name_untold z answer e f h = rw (e, f) (h, refl)

-- what was put, and what was not, by the test
picked : (t : Bool) (q : List ℕ) (n : ℕ) (d b : List ℕ) → Puts (cond t (Some q) None) (Some n) d b
    → (t ≡ true) × (n ≡ length q) × (b ≡ q ++ drop (length q) d)
picked true q n d b h = (refl, cc, h.1)
picked false q n d b h = let z : ◌≡◌ {A = ℕ} 0 1 = cc in absurd (omega arith)

passed : (t : Bool) (q d b : List ℕ) → Puts (cond t (Some q) None) None d b → (t ≡ false) × (b ≡ d)
passed true q d b h = let z : ◌≡◌ {A = ℕ} 0 1 = cc in absurd (omega arith)
passed false q d b h = (refl, h.1)

module _ (channel : ℕ) (status : Status) (d b : List ℕ) where
  pub put_told : (n : ℕ) → Puts (told channel status) (Some n) d b
      → (is_told status ≡ true) × (n ≡ length (request channel status)) × (b ≡ request channel status ++ drop (length (request channel status)) d)
  unfolding told
  put_told n h = picked (is_told status) (request channel status) n d b h

  pub put_untold : Puts (told channel status) None d b → (is_told status ≡ false) × (b ≡ d)
  unfolding told
  put_untold h = passed (is_told status) (request channel status) d b h

  -- and compared with other bytes
  pub request_same : (n : ℕ) (s : List ℕ) → Puts (told channel status) (Some n) d b
      → pointwise nat_eq (take n b) s ≡ (is_told status && same (request channel status) s)
  request_same n s h =
      let p = put_told n h in
      let front : take n b ≡ request channel status = ap (take n) p.2 ∙ take_at (request channel status) _ n (sym p.1) in
      rw (front, p.0) (compared (request channel status) s)

  pub request_none : (s : List ℕ) → Puts (told channel status) None d b → false ≡ (is_told status && same (request channel status) s)
  request_none s h = rw (put_untold h).0 refl

short : (s : List ℕ) → length s < 34 → option_map Signaled (number_of (name_in s)) ≡ None
unfolding number_of same bytes
short s h = let none : length s - 34 ≡ 0 = omega arith in rw none refl

pub short_none : (s : List ℕ) → (length s ≡ 25 → ⊥) → length s < 34 → guess s ≡ None
unfolding guess
short_none s n h = rw (ne_eqb (length s) 25 n) (short s h)
