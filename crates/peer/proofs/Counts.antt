-- What is told over frames, counted: the bytes and units that messages carry, each stream's end with its End, its reset with Terminal.
use mathlib.Core.Bool.{Bool, true, false, cond, not, ◌&&◌, ◌||◌, true≢false}
use mathlib.Core.Path.{◌≡◌, refl, sym, ap, ◌∙◌, subst⁻¹}
use mathlib.Core.List.{List, [], ◌∷◌, ◌++◌, append-nil}
use Prim.Native.Nat.{ℕ, ◌+◌}
use native.Mathlib.Omega.{arith}
use Rattle.exec.specs.declared.Outcome.{Outcome}
use Rattle.exec.specs.declared.Stream.{Stream}
use Rattle.exec.specs.declared.Stream.TheVariants.{Stdout, Stderr, Notes}
use Rattle.exec.specs.Each.{Each, one}
use Rattle.exec.specs.Stream.{same_stream}
use Rattle.calls.specs.Call as Call
use Rattle.calls.specs.Call.{Message}
use Rattle.account.specs.Claim.{terminal_message}
use Rattle.account.specs.TurnClaim.{carried_by}
use Rattle.account.proofs.Sides.{apart, one_on}
use Rattle.std.proofs.lemmas.Bool.{or_parts}
use Rattle.wire.specs.Messages.{credit_in, is_end, is_of, any, ends_by}
use Rattle.wire.specs.Heard.{joined, count, once, told_by}
use Rattle.wire.proofs.Ends.{ends_all, OnceAt, Once, ends_so}
use Rattle.wire.proofs.Follows.{count_append}
use Rattle.wire.proofs.Order.{Final}
use Rattle.peer.specs.Framed.{Heard, Reset, bytes_in, units_in, is_ended, is_reset, is_on, is_unread, reset_in, speaks}

-- ---- a message

-- of the resets of a Terminal holds what holds of none, and of one more
resets_by : (P : List Heard → Type 0) → P [] → ((x : Stream) (hs : List Heard) → P hs → P (Reset x ∷ hs)) → (o : Outcome) (e : Each Bool) → P (speaks e (Call.Terminal o))
resets_by P none more o e = by e.stdout Stdout (by e.stderr Stderr (by e.notes Notes none))
  where
    by : (b : Bool) (x : Stream) {hs : List Heard} → P hs → P (cond b [] (Reset x ∷ []) ++ hs)
    by true x p = p
    by false x p = more x _ p

pub bytes_told : (x : Stream) (e : Each Bool) (m : Message) → joined (bytes_in x) (speaks e m) ≡ carried_by x m
bytes_told x e (Call.Output y b) = append-nil _
bytes_told x e (Call.Terminal o) = resets_by (λ (hs : List Heard). joined (bytes_in x) hs ≡ []) refl (λ y hs h. h) o e
bytes_told x e _ = refl

pub units_told : (e : Each Bool) (m : Message) → joined units_in (speaks e m) ≡ credit_in m
units_told e (Call.Terminal o) = resets_by (λ (hs : List Heard). joined units_in hs ≡ []) refl (λ y hs h. h) o e
units_told e _ = refl

pub unread_none : (e : Each Bool) (m : Message) → count is_unread (speaks e m) ≡ 0
unread_none e (Call.Terminal o) = resets_by (λ (hs : List Heard). count is_unread hs ≡ 0) refl (λ y hs h. h) o e
unread_none e _ = refl

-- ---- how many

module _ (x : Stream) where
  ended_told : (e : Each Bool) (m : Message) → count (is_ended x) (speaks e m) ≡ once (is_end x m)
  ended_told e (Call.Terminal o) = resets_by (λ (hs : List Heard). count (is_ended x) hs ≡ 0) refl (λ y hs h. h) o e
  ended_told e _ = refl

  -- an End of a stream whose End was not told makes one more
  one_more : (a b : Bool) → (b ≡ true → a ≡ false) → once a + once b ≡ once (cond a true b)
  one_more true true h = absurd (true≢false (h refl))
  one_more true false h = refl
  one_more false b h = omega arith

  end_told : (e : Each Bool) (m : Message) → OnceAt e m → once (is_end x m) + once (one x e) ≡ once (one x (ends_by m e))
  end_told e (Call.End y) f = one_more (same_stream y x) (one x e) (λ t. apart y x e f t) ∙ ap once (sym (one_on y true e x))
  end_told e _ f = omega arith

  -- each End is one end of its stream
  pub ends_told : (ms : List Message) (e : Each Bool) → Once e ms → count (is_ended x) (told_by speaks e ms) + once (one x e) ≡ once (one x (ends_all ms e))
  ends_told [] e f = omega arith
  ends_told (m ∷ ms) e f =
      let a = count_append (is_ended x) (speaks e m) (told_by speaks (ends_by m e) ms) in
      let b = ended_told e m in
      let c = end_told e m f.0 in
      let d = ends_told ms (ends_by m e) f.1 in
      omega arith

  -- of a stream's own frames there is one where it is reset
  single : (p : Heard → Bool) → ((y : Stream) → p (Reset y) ≡ same_stream y x) → (y : Stream) (b : Bool) → count p (cond b [] (Reset y ∷ [])) ≡ cond (same_stream y x) (once (not b)) 0
  single p h y true = by (same_stream y x)
    where
      by : (b : Bool) → ◌≡◌ {A = ℕ} 0 (cond b 0 0)
      by true = refl
      by false = refl
  single p h y false = rw (h y) refl

  -- Terminal, which is the last, is one reset of a stream whose End was not told
  resets_are : (p : Heard → Bool) → ((y : Stream) → p (Reset y) ≡ same_stream y x) → (o : Outcome) (e : Each Bool) → count p (speaks e (Call.Terminal o)) ≡ once (not (one x e))
  resets_are p h o e =
      let a = count_append p (reset_in e Stdout) (reset_in e Stderr ++ (reset_in e Notes ++ [])) in
      let b = count_append p (reset_in e Stderr) (reset_in e Notes ++ []) in
      let c = count_append p (reset_in e Notes) [] in
      let k = single p h Stdout e.stdout in let l = single p h Stderr e.stderr in let m = single p h Notes e.notes in
      omega (arith, a, b, c, k, l, m, own x)
    where
      own : (x : Stream) → cond (same_stream Stdout x) (once (not e.stdout)) 0 + (cond (same_stream Stderr x) (once (not e.stderr)) 0 + cond (same_stream Notes x) (once (not e.notes)) 0)
          ≡ once (not (one x e))
      own Stdout = omega arith
      own Stderr = omega arith
      own Notes = omega arith

  pub resets_told : (ms : List Message) (e : Each Bool) → Final ms
      → count (is_reset x) (told_by speaks e ms) ≡ once (any terminal_message ms && not (one x (ends_all ms e)))
  resets_told [] e f = refl
  resets_told (m ∷ ms) e f = by m f.0 (resets_told ms (ends_by m e) f.1)
    where
      by : (m : Message) → (terminal_message m ≡ true → ms ≡ [])
          → count (is_reset x) (told_by speaks (ends_by m e) ms) ≡ once (any terminal_message ms && not (one x (ends_all ms (ends_by m e))))
          → count (is_reset x) (speaks e m ++ told_by speaks (ends_by m e) ms) ≡ once ((terminal_message m || any terminal_message ms) && not (one x (ends_all ms (ends_by m e))))
      by (Call.Terminal o) f h =
          subst⁻¹ (λ (ns : List Message). count (is_reset x) (speaks e (Call.Terminal o) ++ told_by speaks e ns) ≡ once (not (one x (ends_all ns e)))) (f refl)
          (ap (count (is_reset x)) (append-nil (speaks e (Call.Terminal o))) ∙ resets_are (is_reset x) (λ y. refl) o e)
      by _ f h = h

  -- of a stream whose End was told no frame is any more
  no_reset : (o : Outcome) (e : Each Bool) → one x e ≡ true → count (is_on x) (speaks e (Call.Terminal o)) ≡ 0
  no_reset o e t = resets_are (is_on x) (λ y. refl) o e ∙ rw t refl

  none_of : (e : Each Bool) (m : Message) → one x e ≡ true → is_of x m ≡ false → count (is_on x) (speaks e m) ≡ 0
  none_of e (Call.Output y b) t f = rw f refl
  none_of e (Call.End y) t f = rw f refl
  none_of e (Call.Terminal o) t f = no_reset o e t
  none_of e _ t f = refl

  pub none_on : (ms : List Message) (e : Each Bool) → one x e ≡ true → any (is_of x) ms ≡ false → count (is_on x) (told_by speaks e ms) ≡ 0
  none_on [] e t f = refl
  none_on (m ∷ ms) e t f =
      let p = or_parts (is_of x m) (any (is_of x) ms) f in
      let stays : one x (ends_by m e) ≡ true = ends_so (m ∷ []) e x ∙ rw t refl in
      count_append (is_on x) (speaks e m) (told_by speaks (ends_by m e) ms) ∙ (let a = none_of e m t p.0 in let b = none_on ms (ends_by m e) stays p.1 in omega arith)
