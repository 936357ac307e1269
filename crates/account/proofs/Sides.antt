-- The streams side by side: what one of them has after a change of each, or of one.
use mathlib.Core.Bool.{Bool, true, false, cond, not, ◌||◌, true≢false}
use mathlib.Core.Path.{◌≡◌, refl, sym, ap, ◌∙◌}
use mathlib.Core.List.{List, [], ◌∷◌}
use mathlib.Core.Logic.{◌⊎◌, inl, inr}
use Prim.Native.Nat.{ℕ, ◌+◌, ◌≤◌}
use native.Mathlib.Omega.{arith}
use Rattle.exec.specs.declared.Limits.{Limits}
use Rattle.exec.specs.declared.Stream.{Stream}
use Rattle.exec.specs.declared.Stream.TheVariants.{Stdout, Stderr, Notes}
use Rattle.exec.specs.Each.{Each, one, on_one, per, both, every}
use Rattle.exec.specs.Limits.{has, has_notes}
use Rattle.exec.specs.Stream.{is_notes, same_stream, every_stream, any_stream}
use Rattle.inbox.specs.Need.{rings_of}
use Rattle.output.specs.declared.Output.{Output}
use Rattle.output.specs.Output.{new_output, over}
use Rattle.output.specs.Outputs.{each_output, notes, output_in, put_output, seen}
use Rattle.runner.specs.State.{base}
use Rattle.std.proofs.lemmas.Bool.{or_parts}

pub same_self : (x : Stream) → same_stream x x ≡ true
same_self Stdout = refl
same_self Stderr = refl
same_self Notes = refl

-- ---- each changed

pub one_both : {A B C : Type 0} (f : A → B → C) (e : Each A) (d : Each B) (x : Stream) → one x (both f e d) ≡ f (one x e) (one x d)
one_both f e d Stdout = refl
one_both f e d Stderr = refl
one_both f e d Notes = refl

pub one_per : {A : Type 0} (f : Stream → A) (x : Stream) → one x (per f) ≡ f x
one_per f Stdout = refl
one_per f Stderr = refl
one_per f Notes = refl

-- alike in each, alike in all
pub per_same : {A : Type 0} (f g : Stream → A) → ((x : Stream) → f x ≡ g x) → per f ≡ per g
per_same f g h = rw (h Stdout, h Stderr, h Notes) refl

pub every_same : (p q : Stream → Bool) → ((x : Stream) → p x ≡ q x) → every_stream p ≡ every_stream q
every_same p q h = rw (h Stdout, h Stderr, h Notes) refl

-- where one has it and another has not, the two are apart
pub apart : (y x : Stream) (e : Each Bool) → one y e ≡ false → one x e ≡ true → same_stream y x ≡ false
apart y x e f t = by (same_stream y x) refl
  where
    is_same : (y x : Stream) → same_stream y x ≡ true → one y e ≡ one x e
    is_same Stdout Stdout h = refl
    is_same Stderr Stderr h = refl
    is_same Notes Notes h = refl
    is_same Stdout Stderr h = absurd (true≢false (sym h))
    is_same Stdout Notes h = absurd (true≢false (sym h))
    is_same Stderr Stdout h = absurd (true≢false (sym h))
    is_same Stderr Notes h = absurd (true≢false (sym h))
    is_same Notes Stdout h = absurd (true≢false (sym h))
    is_same Notes Stderr h = absurd (true≢false (sym h))

    by : (b : Bool) → same_stream y x ≡ b → b ≡ false
    by true h = absurd (true≢false (sym t ∙ sym (is_same y x h) ∙ f))
    by false h = refl

-- every other has it, and so all have it once this one does
pub last_of : (x : Stream) (e : Each Bool) → every_stream (λ (y : Stream). same_stream x y || one y e) ≡ every (on_one x (λ (b : Bool). true) e)
last_of Stdout e = refl
last_of Stderr e = refl
last_of Notes e = refl

-- what holds of each holds of all
pub of_every : (p : Stream → Bool) → ((x : Stream) → p x ≡ true) → every_stream p ≡ true
of_every p h = rw (h Stdout, h Stderr, h Notes) refl

-- and what holds of none
pub of_none : (p : Stream → Bool) → ((x : Stream) → p x ≡ false) → any_stream p ≡ false
of_none p h = rw (h Stdout, h Stderr, h Notes) refl

pub none_of : (p : Stream → Bool) → any_stream p ≡ false → (x : Stream) → p x ≡ false
none_of p h x = by (or_parts (p Stdout || p Stderr) (p Notes) h) x
  where
    by : ((p Stdout || p Stderr) ≡ false) × (p Notes ≡ false) → (x : Stream) → p x ≡ false
    by k Stdout = (or_parts (p Stdout) (p Stderr) k.0).0
    by k Stderr = (or_parts (p Stdout) (p Stderr) k.0).1
    by k Notes = k.1

-- ---- one changed: a claim on each stream holds if it holds of that one, and held of the others

-- two that are kept of it
pub on_two : {A B : Type 0} (P : Stream → A → B → Type 0) (y : Stream) (f : A → A) (g : B → B) (d : Each A) (e : Each B)
    → P y (f (one y d)) (g (one y e)) → ((x : Stream) → same_stream y x ≡ false → P x (one x d) (one x e)) → (x : Stream) → P x (one x (on_one y f d)) (one x (on_one y g e))
on_two P Stdout f g d e p h Stdout = p
on_two P Stderr f g d e p h Stderr = p
on_two P Notes f g d e p h Notes = p
on_two P Stdout f g d e p h Stderr = h Stderr refl
on_two P Stdout f g d e p h Notes = h Notes refl
on_two P Stderr f g d e p h Stdout = h Stdout refl
on_two P Stderr f g d e p h Notes = h Notes refl
on_two P Notes f g d e p h Stdout = h Stdout refl
on_two P Notes f g d e p h Stderr = h Stderr refl

-- one that is kept of it
pub on_each : {A : Type 0} (P : Stream → A → Type 0) (y : Stream) (g : A → A) (e : Each A)
    → P y (g (one y e)) → ((x : Stream) → same_stream y x ≡ false → P x (one x e)) → (x : Stream) → P x (one x (on_one y g e))
on_each {A} P y g e p h = on_two (λ (x : Stream) (a b : A). P x a) y g g e e p h

-- one changed, and what one of them has then
pub one_on : {A : Type 0} (y : Stream) (a : A) (e : Each A) (x : Stream) → one x (on_one y (λ (b : A). a) e) ≡ cond (same_stream y x) a (one x e)
one_on {A} y a e x =
    on_two (λ (x : Stream) (b c : A). c ≡ cond (same_stream y x) a b) y (λ (b : A). b) (λ (b : A). a) e e (rw (same_self y) refl) (λ z n. rw n refl) x
    ∙ ap (λ (b : A). cond (same_stream y x) a b) (kept x)
  where
    kept : (x : Stream) → one x (on_one y (λ (b : A). b) e) ≡ one x e
    kept x = ap (one x) (unchanged y)
      where
        unchanged : (y : Stream) → on_one y (λ (b : A). b) e ≡ e
        unchanged Stdout = refl
        unchanged Stderr = refl
        unchanged Notes = refl

-- one put back as it was
pub on_same : {A : Type 0} (x : Stream) (e : Each A) → on_one x (λ (a : A). one x e) e ≡ e
on_same Stdout e = refl
on_same Stderr e = refl
on_same Notes e = refl

-- ---- the outputs as they are read: one of a stream that is not open is over, and stays so

-- of a runner just opened
pub out_open : (P : Output → Type 0) (b : Bool) → P new_output → P over → (x : Stream) → P (output_in x (seen b (new_output ∷ new_output ∷ new_output ∷ [])))
out_open P b p q Stdout = p
out_open P b p q Stderr = p
out_open P true p q Notes = p
out_open P false p q Notes = q

-- one that is not open
pub is_over : (l : Limits) (os : List Output) (x : Stream) → has l x ≡ false → output_in x (seen (has_notes l) os) ≡ over
is_over l os Stdout h = absurd (true≢false h)
is_over l os Stderr h = absurd (true≢false h)
is_over l os Notes h = rw h refl

module _ (b : Bool) (os : List Output) where
  abbrev read : Stream → Output
  read x = output_in x (seen b os)

  pub out_each : (f : Output → Output) → f over ≡ over → (x : Stream) → output_in x (seen b (each_output b f os)) ≡ f (read x)
  out_each f h Stdout = refl
  out_each f h Stderr = refl
  out_each f h Notes = by b
    where
      by : (b : Bool) → cond b (cond b (f (notes os)) (notes os)) over ≡ f (cond b (notes os) over)
      by true = refl
      by false = sym h

  -- a change that changes none of those that are open
  pub each_kept : (f : Output → Output) → ((x : Stream) → f (read x) ≡ read x) → each_output b f os ≡ output_in Stdout os ∷ output_in Stderr os ∷ output_in Notes os ∷ []
  each_kept f h = row (h Stdout) (h Stderr) (by b (h Notes))
    where
      row : {m n o p q r : Output} → m ≡ n → o ≡ p → q ≡ r → ◌≡◌ {A = List Output} (m ∷ o ∷ q ∷ []) (n ∷ p ∷ r ∷ [])
      row h k l = rw (h, k, l) refl

      by : (b : Bool) → f (cond b (notes os) over) ≡ cond b (notes os) over → cond b (f (notes os)) (notes os) ≡ notes os
      by true h = h
      by false h = refl

  -- one put back: the third is read where it is open
  pub third : (P : Output → Type 0) (o : Output) → P o → P (read Notes) → P (output_in Notes (seen b (put_output Notes o os)))
  third P o p q = by b q
    where
      by : (b : Bool) → P (cond b (notes os) over) → P (cond b o over)
      by true q = p
      by false q = q

  pub third_or : (P : Output → Type 0) (o : Output) → P o → P over → P (output_in Notes (seen b (put_output Notes o os)))
  third_or P o p q = by b
    where
      by : (b : Bool) → P (cond b o over)
      by true = p
      by false = q

  -- its output and one that is kept of it, where the stream is open
  pub on_one_lem : {A : Type 0} (P : Stream → Output → A → Type 0) (l : Limits) → b ≡ has_notes l → (y : Stream) (o : Output) (g : A → A) (e : Each A) → has l y ≡ true
      → P y o (g (one y e)) → ((x : Stream) → same_stream y x ≡ false → P x (read x) (one x e)) → (x : Stream) → P x (output_in x (seen b (put_output y o os))) (one x (on_one y g e))
  on_one_lem P l eb Stdout o g e k p h Stdout = p
  on_one_lem P l eb Stdout o g e k p h Stderr = h Stderr refl
  on_one_lem P l eb Stdout o g e k p h Notes = h Notes refl
  on_one_lem P l eb Stderr o g e k p h Stdout = h Stdout refl
  on_one_lem P l eb Stderr o g e k p h Stderr = p
  on_one_lem P l eb Stderr o g e k p h Notes = h Notes refl
  on_one_lem P l eb Notes o g e k p h Stdout = h Stdout refl
  on_one_lem P l eb Notes o g e k p h Stderr = h Stderr refl
  on_one_lem P l eb Notes o g e k p h Notes = rw (eb ∙ k) p

  -- its output: of one that is not open the claim held
  pub on_out : (P : Stream → Output → Type 0) (y : Stream) (o : Output) → P y o → ((x : Stream) → P x (read x)) → (x : Stream) → P x (output_in x (seen b (put_output y o os)))
  on_out P Stdout o p h Stdout = p
  on_out P Stdout o p h Stderr = h Stderr
  on_out P Stdout o p h Notes = h Notes
  on_out P Stderr o p h Stdout = h Stdout
  on_out P Stderr o p h Stderr = p
  on_out P Stderr o p h Notes = h Notes
  on_out P Notes o p h Stdout = h Stdout
  on_out P Notes o p h Stderr = h Stderr
  on_out P Notes o p h Notes = third (P Notes) o p (h Notes)

  -- what is asked of each output, where one is put back: of one that is not open it is as of one that is over
  pub per_put : {A : Type 0} (g : Output → A) (x : Stream) (o : Output) → ((not (is_notes x) || b) ≡ false → g o ≡ g over)
      → per (λ (y : Stream). g (output_in y (seen b (put_output x o os)))) ≡ on_one x (λ (a : A). g o) (per (λ (y : Stream). g (read y)))
  per_put {A} g Stdout o k = refl
  per_put {A} g Stderr o k = refl
  per_put {A} g Notes o k = ap (λ (a : A). record { stdout = g (read Stdout); stderr = g (read Stderr); notes = a }) (by b k)
    where
      by : (b : Bool) → (b ≡ false → g o ≡ g over) → g (cond b o over) ≡ g o
      by true k = refl
      by false k = sym (k refl)

-- ---- the rings

-- where the ring of a stream stands; one that is not open has no bytes, so it may stand anywhere
abbrev pub place : Limits → Stream → ℕ
place l x = cond (has l x) (base x l.chunk) 0

-- they stand before the inbox, and apart from each other
pub base_behind : (l : Limits) (x : Stream) → place l x + l.chunk ≤ rings_of l
base_behind l Stdout = omega arith
base_behind l Stderr = omega arith
base_behind l Notes = by (has_notes l)
  where
    by : (b : Bool) → cond b (base Notes l.chunk) 0 + l.chunk ≤ l.chunk + l.chunk + cond b l.chunk 0
    by true = omega arith
    by false = omega arith

pub placed : (l : Limits) (x : Stream) → has l x ≡ true → place l x ≡ base x l.chunk
placed l x h = rw h refl

pub bases_apart : (y x : Stream) (c : ℕ) → same_stream y x ≡ false → (base x c + c ≤ base y c) ⊎ (base y c + c ≤ base x c)
bases_apart Stdout Stdout c e = absurd (true≢false e)
bases_apart Stdout Stderr c e = inr (omega arith)
bases_apart Stdout Notes c e = inr (omega arith)
bases_apart Stderr Stdout c e = inl (omega arith)
bases_apart Stderr Stderr c e = absurd (true≢false e)
bases_apart Stderr Notes c e = inr (omega arith)
bases_apart Notes Stdout c e = inl (omega arith)
bases_apart Notes Stderr c e = inl (omega arith)
bases_apart Notes Notes c e = absurd (true≢false e)
