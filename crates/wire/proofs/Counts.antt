-- What is told over a channel, counted: the bytes and units that messages carry, EOF with the last End, CLOSE with Terminal.
use Rattle.std.specs.Prelude.{Option, Some, None}
use Rattle.exec.specs.declared.Status.{Status}
use mathlib.Core.Bool.{Bool, true, false, cond, ◌||◌}
use mathlib.Core.Path.{◌≡◌, refl, sym, ap, ◌∙◌}
use mathlib.Core.List.{List, [], ◌∷◌, ◌++◌, append-nil}
use Prim.Native.Nat.{◌+◌}
use native.Mathlib.Omega.{arith}
use Rattle.exec.specs.declared.Stream.{Stream}
use Rattle.exec.specs.Each.{Each, one, every}
use Rattle.exec.specs.Stream.{every_stream_lem}
use Rattle.calls.specs.Call as Call
use Rattle.calls.specs.Call.{Message}
use Rattle.account.specs.Claim.{terminal_message}
use Rattle.account.specs.TurnClaim.{carried_by}
use Rattle.account.proofs.Flags.{either}
use Rattle.wire.specs.Messages.{credit_in, any, ends_by}
use Rattle.wire.specs.Heard.{joined, count, once, told_by}
use Rattle.wire.specs.Channel.{Heard, Eof, Exit, Close, bytes_in, units_in, is_eof, is_close, is_unread, exit_of, speaks}
use Rattle.wire.proofs.Follows.{count_append}
use Rattle.wire.proofs.Ends.{ends_all, OnceAt, Once}
use Rattle.wire.proofs.Order.{Final}

-- ---- a message

-- what holds of no status and of any holds of what is to be heard of it
exit_by : (P : List Heard → Type 0) → P [] → ((s : Status) → P (Exit s ∷ [])) → (x : Option Status) → P (exit_of x)
exit_by P none some None = none
exit_by P none some (Some s) = some s

pub bytes_told : (x : Stream) (e : Each Bool) (m : Message) → joined (bytes_in x) (speaks e m) ≡ carried_by x m
bytes_told x e (Call.Output y b) = append-nil _
bytes_told x e (Call.End y) = either (λ (hs : List Heard). joined (bytes_in x) hs ≡ []) (every (ends_by (Call.End y) e)) (Eof ∷ []) [] refl refl
bytes_told x e (Call.Terminal o) = exit_by (λ hs. joined (bytes_in x) (hs ++ (Close ∷ [])) ≡ []) refl (λ s. refl) o.status
bytes_told x e _ = refl

pub units_told : (e : Each Bool) (m : Message) → joined units_in (speaks e m) ≡ credit_in m
units_told e (Call.End y) = either (λ (hs : List Heard). joined units_in hs ≡ []) (every (ends_by (Call.End y) e)) (Eof ∷ []) [] refl refl
units_told e (Call.Terminal o) = exit_by (λ hs. joined units_in (hs ++ (Close ∷ [])) ≡ []) refl (λ s. refl) o.status
units_told e _ = refl

-- ---- how many

pub unread_none : (e : Each Bool) (m : Message) → count is_unread (speaks e m) ≡ 0
unread_none e (Call.End y) = either (λ (hs : List Heard). count is_unread hs ≡ 0) (every (ends_by (Call.End y) e)) (Eof ∷ []) [] refl refl
unread_none e (Call.Terminal o) = exit_by (λ hs. count is_unread (hs ++ (Close ∷ [])) ≡ 0) refl (λ s. refl) o.status
unread_none e _ = refl

-- Terminal, which is the last, is one CLOSE
pub closes_told : (e : Each Bool) (ms : List Message) → Final ms → count is_close (told_by speaks e ms) ≡ once (any terminal_message ms)
closes_told e [] f = refl
closes_told e (m ∷ ms) f =
    count_append is_close (speaks e m) (told_by speaks (ends_by m e) ms) ∙ (let y = by m in let z = closes_told (ends_by m e) ms f.1 in let w = all (terminal_message m) f.0 in omega arith)
  where
    by : (m : Message) → count is_close (speaks e m) ≡ once (terminal_message m)
    by (Call.End y) = either (λ (hs : List Heard). count is_close hs ≡ 0) (every (ends_by (Call.End y) e)) (Eof ∷ []) [] refl refl
    by (Call.Terminal o) = exit_by (λ hs. count is_close (hs ++ (Close ∷ [])) ≡ 1) refl (λ s. refl) o.status
    by _ = refl

    all : (b : Bool) → (b ≡ true → ms ≡ []) → once b + once (any terminal_message ms) ≡ once (b || any terminal_message ms)
    all true g = ap (λ (ns : List Message). 1 + once (any terminal_message ns)) (g refl)
    all false g = omega arith

not_every : (x : Stream) (e : Each Bool) → one x e ≡ false → every e ≡ false
not_every x e f = by (every e) refl
  where
    by : (b : Bool) → every e ≡ b → b ≡ false
    by true h = sym (every_stream_lem (λ (y : Stream). one y e) h x) ∙ f
    by false h = refl

-- the End with which every stream has ended is one EOF
pub eofs_told : (ms : List Message) (e : Each Bool) → Once e ms → count is_eof (told_by speaks e ms) + once (every e) ≡ once (every (ends_all ms e))
eofs_told [] e f = omega arith
eofs_told (m ∷ ms) e f = by m f.0 (eofs_told ms (ends_by m e) f.1)
  where
    one_eof : (b : Bool) → count is_eof (cond b (Eof ∷ []) []) ≡ once b
    one_eof true = refl
    one_eof false = refl

    by : (m : Message) → OnceAt e m → count is_eof (told_by speaks (ends_by m e) ms) + once (every (ends_by m e)) ≡ once (every (ends_all ms (ends_by m e)))
        → count is_eof (speaks e m ++ told_by speaks (ends_by m e) ms) + once (every e) ≡ once (every (ends_all ms (ends_by m e)))
    by (Call.End y) f h =
        let a = count_append is_eof (speaks e (Call.End y)) (told_by speaks (ends_by (Call.End y) e) ms) in
        let b = one_eof (every (ends_by (Call.End y) e)) in
        let c : once (every e) ≡ 0 = ap once (not_every y e f) in
        omega arith
    by (Call.Terminal o) f h =
        let a = count_append is_eof (exit_of o.status ++ (Close ∷ [])) (told_by speaks e ms) in
        let b = exit_by (λ hs. count is_eof (hs ++ (Close ∷ [])) ≡ 0) refl (λ s. refl) o.status in
        omega arith
    by _ f h = h
