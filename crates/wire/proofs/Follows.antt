-- Over whatever wire: where each entry is heard as its messages are told, so is a list; and what the peer has of it is what the
-- messages give.
use Rattle.std.specs.Prelude.{Option, Result, Some, None, Ok, Err}
use mathlib.Core.Bool.{Bool, true, false, cond, ◌||◌, true≢false, not}
use mathlib.Core.Path.{◌≡◌, refl, sym, ap, ◌∙◌, subst, subst⁻¹}
use mathlib.Core.List.{List, [], ◌∷◌, ◌++◌, append-nil, append_assoc}
use Prim.Native.Nat.{ℕ, suc, ◌+◌}
use native.Mathlib.Omega.{arith}
use Rattle.exec.specs.Limits as Limits
use Rattle.exec.specs.declared.Outcome.{Outcome}
use Rattle.exec.specs.declared.Receipt.{Receipt}
use Rattle.exec.specs.declared.Refusal.{Refusal}
use Rattle.exec.specs.declared.Stream.{Stream}
use Rattle.exec.specs.Each.{Each, one}
use Rattle.exec.specs.Outcome.{is_truncated}
use Rattle.runner.specs.declared.answer.Message.{Message as Messages}
use Rattle.calls.specs.Call as Call
use Rattle.calls.specs.Call.{Conf, Call, Answer, Message}
use Rattle.account.specs.Step as Step
use Rattle.account.specs.Step.{State}
use Rattle.account.specs.Claim.{Opens, IsPrefix, messages, is_message}
use Rattle.account.specs.Records.{Entry, EntryDone, next_entry, read_as, wrote_as, answer_entry, after_entries, run_entries, made, SilentIn}
use Rattle.account.specs.TurnClaim.{carried_by, carried, taken_in, sent_in}
use Rattle.std.proofs.lemmas.Bool.{or_parts}
use Rattle.account.proofs.Plain.{answer}
use Rattle.account.proofs.Demand.{Fine, answer_same}
use Rattle.account.proofs.Finish as Finish
use Rattle.account.proofs.Finish.{Kind, kind}
use Rattle.account.proofs.EachRecord.{Unmade, Does}
use Rattle.account.proofs.Records.{Good, does, good_entry, good_open, whole}
use Rattle.account.proofs.Sides.{one_per}
use Rattle.account.proofs.Tells.{quiet_carries}
use Rattle.account.proofs.Told.{taken_told, sent_told}
use Rattle.account.proofs.Turn.{turn}
use Rattle.wire.specs.Messages.{said_in, said_by, said_from, said, is_end, is_of, any, ends_by, no_ends}
use Rattle.wire.specs.Heard.{AllOf, joined, count, once, written, wire, told_by}
use Rattle.wire.proofs.Ends.{Muted, ends, ends_all, Once, Speech, none, some, speech, unsaid, ends_so}
use Rattle.wire.proofs.Order.{entry_tells, from_open, fresh_ends, fresh_muted}

-- ---- lists

pub joined_append : {A B : Type 0} (f : A → List B) (l k : List A) → joined f (l ++ k) ≡ joined f l ++ joined f k
joined_append f [] k = refl
joined_append {B = B} f (x ∷ l) k = ap (λ (r : List B). f x ++ r) (joined_append f l k) ∙ sym (append_assoc (f x) (joined f l) (joined f k))

pub all_front : (P : Entry → Type 0) (xs ys : List Entry) → AllOf P (xs ++ ys) → AllOf P xs
all_front P [] ys l = tt
all_front P (x ∷ xs) ys l = (l.0, all_front P xs ys l.1)

pub count_append : {A : Type 0} (p : A → Bool) (l k : List A) → count p (l ++ k) ≡ count p l + count p k
count_append p [] k = omega arith
count_append p (x ∷ l) k = by (p x) (count p (l ++ k)) (count p l) (count_append p l k)
  where
    by : (b : Bool) (n m : ℕ) → n ≡ m + count p k → cond b (suc n) n ≡ cond b (suc m) m + count p k
    by true n m h = omega arith
    by false n m h = h

pub once_true : (b : Bool) → once b ≡ 1 → b ≡ true
once_true true e = refl
once_true false e = absurd (omega arith)

-- ---- what is heard of a list

-- something is heard so, whatever stands behind it
abbrev pub Hears : {A H : Type 0} → (List A → List H) → List A → List H → Type 0
Hears {A} hear l hs = (rest : List A) → hear (l ++ rest) ≡ hs ++ hear rest

pub hears_append : {A H : Type 0} (hear : List A → List H) (l k : List A) (hs gs : List H) → Hears hear l hs → Hears hear k gs → Hears hear (l ++ k) (hs ++ gs)
hears_append {A} {H} hear l k hs gs p q rest =
    ap hear (append_assoc l k rest) ∙ p (k ++ rest) ∙ ap (λ (t : List H). hs ++ t) (q rest) ∙ sym (append_assoc hs gs (hear rest))

-- and so where nothing does
pub hears_all : {A H : Type 0} (hear : List A → List H) (l : List A) (hs : List H) → hear [] ≡ [] → Hears hear l hs → hear l ≡ hs
hears_all {H = H} hear l hs e h = ap hear (sym (append-nil l)) ∙ h [] ∙ ap (λ (t : List H). hs ++ t) e ∙ append-nil hs

module _ {H : Type 0} (speaks : Each Bool → Message → List H) where
  pub told_append : (e : Each Bool) (ms ns : List Message) → told_by speaks e (ms ++ ns) ≡ told_by speaks e ms ++ told_by speaks (ends_all ms e) ns
  told_append e [] ns = refl
  told_append e (m ∷ ms) ns =
      ap (λ (hs : List H). speaks e m ++ hs) (told_append (ends_by m e) ms ns)
      ∙ sym (append_assoc (speaks e m) (told_by speaks (ends_by m e) ms) (told_by speaks (ends_all ms (ends_by m e)) ns))

  -- what each heard gives is what each message gives
  pub joined_told : {A : Type 0} (f : H → List A) (g : Message → List A) → ((e : Each Bool) (m : Message) → joined f (speaks e m) ≡ g m)
      → (e : Each Bool) (ms : List Message) → joined f (told_by speaks e ms) ≡ joined g ms
  joined_told f g h e [] = refl
  joined_told {A} f g h e (m ∷ ms) =
      joined_append f (speaks e m) (told_by speaks (ends_by m e) ms)
      ∙ ap (λ (l : List A). l ++ joined f (told_by speaks (ends_by m e) ms)) (h e m)
      ∙ ap (λ (l : List A). g m ++ l) (joined_told f g h (ends_by m e) ms)

  -- where none of a message is so, none is
  pub none_told : (p : H → Bool) → ((e : Each Bool) (m : Message) → count p (speaks e m) ≡ 0) → (e : Each Bool) (ms : List Message) → count p (told_by speaks e ms) ≡ 0
  none_told p h e [] = refl
  none_told p h e (m ∷ ms) = count_append p (speaks e m) (told_by speaks (ends_by m e) ms) ∙ omega (arith, h e m, none_told p h (ends_by m e) ms)

  -- where nothing is said nothing is to be heard
  pub unheard : {A : Type 0} (hear : List A → List H) (e : Each Bool) (ms : List Message) → ms ≡ [] → Hears hear [] (told_by speaks e ms)
  unheard hear e ms n = subst⁻¹ (λ (ns : List Message). Hears hear [] (told_by speaks e ns)) n (λ rest. refl)

  -- an entry of these is heard as its messages are told
  abbrev pub Steps : {A : Type 0} → Conf → (on_wire : State → Entry → List A) (hear : List A → List H) (Of : Entry → Type 0) → Type 0
  Steps conf on_wire hear Of = (e : Entry) (s : State) → Good conf s → Muted s.runner → Of e → Hears hear (on_wire s e) (told_by speaks (ends s.runner) (said_in (answer_entry s e)))

  -- SO IS A LIST
  pub list_heard : {A : Type 0} (conf : Conf) (on_wire : State → Entry → List A) (hear : List A → List H) (Of : Entry → Type 0) → Steps conf on_wire hear Of
      → (es : List Entry) (s : State) → Good conf s → Muted s.runner → AllOf Of es → Hears hear (wire on_wire s es) (told_by speaks (ends s.runner) (said_from s es))
  list_heard conf on_wire hear Of step [] s g v l = λ rest. refl
  list_heard conf on_wire hear Of step (e ∷ es) s g v l =
      let k = (entry_tells conf e s g v).0 in
      let ms : List Message = said_in (answer_entry s e) in
      let behind = list_heard conf on_wire hear Of step es (next_entry s e) (good_entry conf e s g) k.muted l.1 in
      subst⁻¹ (Hears hear (on_wire s e ++ wire on_wire (next_entry s e) es))
      (told_append (ends s.runner) ms (said_from (next_entry s e) es) ∙ ap (λ (x : Each Bool). told_by speaks (ends s.runner) ms ++ told_by speaks x (said_from (next_entry s e) es)) (sym k.told))
      (hears_append hear (on_wire s e) (wire on_wire (next_entry s e) es) _ _ (step e s g v l.0) behind)

-- ---- what was sent is what the messages carry

carried_said : (x : Stream) (a : Answer) → carried x a ≡ joined (carried_by x) (said_in a)
carried_said x a = by a (speech a)
  where
    by : (a : Answer) → Speech a → carried x a ≡ joined (carried_by x) (said_in a)
    by a (none e n) = quiet_carries a x n ∙ sym (ap (joined (carried_by x)) e)
    by a (some m) = sym (append-nil (carried_by x m))

pub sent_said : (x : Stream) (ds : List EntryDone) → sent_in x ds ≡ joined (carried_by x) (said_by ds)
sent_said x [] = refl
sent_said x (d ∷ ds) =
    ap (λ (b : List ℕ). b ++ sent_in x ds) (carried_said x d.answer) ∙ ap (λ (b : List ℕ). joined (carried_by x) (said_in d.answer) ++ b) (sent_said x ds)
    ∙ sym (joined_append (carried_by x) (said_in d.answer) (said_by ds))

-- of a stream of which no message is, none carries bytes
pub none_carried : (x : Stream) (ms : List Message) → any (is_of x) ms ≡ false → joined (carried_by x) ms ≡ []
none_carried x [] e = refl
none_carried x (m ∷ ms) e =
    ap (λ (b : List ℕ). b ++ joined (carried_by x) ms) (by m (or_parts (is_of x m) (any (is_of x) ms) e).0) ∙ none_carried x ms (or_parts (is_of x m) (any (is_of x) ms) e).1
  where
    by : (m : Message) → is_of x m ≡ false → carried_by x m ≡ []
    by (Call.Output y b) e = rw e refl
    by _ e = refl

pub said_append : (xs ys : List Entry) (s : State) → said_from s (xs ++ ys) ≡ said_from s xs ++ said_from (after_entries s xs) ys
said_append [] ys s = refl
said_append (x ∷ xs) ys s =
    ap (λ (ms : List Message). said_in (answer_entry s x) ++ ms) (said_append xs ys (next_entry s x))
    ∙ sym (append_assoc (said_in (answer_entry s x)) (said_from (next_entry s x) xs) (said_from (after_entries (next_entry s x) xs) ys))

-- ---- what says nothing, and where nothing is said nothing stands on the wire

-- a call that takes no message
pub call_unsaid : (c : Call) (s : State) → Fine s → messages (c ∷ []) ≡ 0 → said_in (Step.answer s c) ≡ []
call_unsaid c s f e = unsaid (Step.answer s c) (ap is_message (answer_same s c f) ∙ by c (kind c s) e)
  where
    by : (c : Call) → Kind s c → messages (c ∷ []) ≡ 0 → is_message (answer s c) ≡ false
    by c (Finish.quiet q) e = q
    by c (Finish.speaks b) e = absurd (omega arith)

-- what is read
pub read_unsaid : (a : Result (Option Receipt) Refusal) → said_in (read_as a) ≡ []
read_unsaid (Ok (Some Receipt.Applied)) = refl
read_unsaid _ = refl

-- what makes no call
pub unmade_unsaid : (conf : Conf) (e : Entry) (s : State) → Good conf s → made conf e (answer_entry s e) ≡ [] → said_in (answer_entry s e) ≡ []
unfolding Does
unmade_unsaid conf e s g n = let d : Unmade e s (next_entry s e) (answer_entry s e) = rw n at (does conf e s g) in ap said_in d.answered

-- a write
pub unsent : {A : Type 0} (left_by : Messages → (n : ℕ) → (buffer : List ℕ) → List A) (w : Result (Option (Messages × ℕ)) Refusal) (b : List ℕ)
    → is_message (wrote_as w b) ≡ false → written left_by w b ≡ []
unsent left_by (Ok None) b e = refl
unsent left_by (Err x) b e = refl
unsent left_by (Ok (Some (Messages.Credit n, k))) b e = absurd (true≢false e)
unsent left_by _ b e = absurd (true≢false e)

-- so of a list
pub silent_wire : {A : Type 0} (on_wire : State → Entry → List A) → ((e : Entry) (s : State) → is_message (answer_entry s e) ≡ false → on_wire s e ≡ [])
    → (es : List Entry) (s : State) → SilentIn (run_entries s es) → wire on_wire s es ≡ []
silent_wire on_wire unwired [] s h = refl
silent_wire on_wire unwired (e ∷ es) s h = rw (unwired e s h.0) (silent_wire on_wire unwired es (next_entry s e) h.1)

-- ---- what a peer has that heard what was told, of the entries of a carrier

module _ (conf : Conf) (now : ℕ) (bytes lengths : List ℕ) (op : Opens conf now bytes lengths) where
  abbrev pub begins : State
  begins = Step.opened conf now bytes lengths

  -- the streams whose End was told, and those that are not open
  pub told_ends : (es : List Entry) (x : Stream)
      → one x (ends_all (said conf now bytes lengths es) (no_ends conf.limits)) ≡ (not (Limits.has conf.limits x) || any (is_end x) (said conf now bytes lengths es))
  told_ends es x =
      ends_so (said conf now bytes lengths es) (no_ends conf.limits) x ∙ ap (λ (b : Bool). b || any (is_end x) (said conf now bytes lengths es)) (one_per (λ (y : Stream). not (Limits.has conf.limits y)) x)

  pub told_once : (es : List Entry) → Once (no_ends conf.limits) (said conf now bytes lengths es)
  told_once es = subst (λ (e : Each Bool). Once e (said conf now bytes lengths es)) (fresh_ends conf now bytes lengths op) (from_open conf now bytes lengths op es).0.once

  module _ {H : Type 0} (speaks : Each Bool → Message → List H) where
    -- it heard what was told, where each entry is heard as its messages are told
    pub follows_so : {A : Type 0} (on_wire : State → Entry → List A) (hear : List A → List H) (Of : Entry → Type 0) → hear [] ≡ [] → Steps speaks conf on_wire hear Of
        → (es : List Entry) → AllOf Of es → hear (wire on_wire begins es) ≡ told_by speaks (no_ends conf.limits) (said conf now bytes lengths es)
    follows_so on_wire hear Of n step es l =
        hears_all hear (wire on_wire begins es) _ n
        (list_heard speaks conf on_wire hear Of step es begins (good_open conf now bytes lengths op) (fresh_muted conf now bytes lengths op) l)
        ∙ ap (λ (e : Each Bool). told_by speaks e (said conf now bytes lengths es)) (fresh_ends conf now bytes lengths op)

    module _ (bytes_in : Stream → H → List ℕ) (carries : (x : Stream) (e : Each Bool) (m : Message) → joined (bytes_in x) (speaks e m) ≡ carried_by x m)
        (es : List Entry) (heard : List H) (follows : heard ≡ told_by speaks (no_ends conf.limits) (said conf now bytes lengths es)) (x : Stream) where
      -- of each stream what the messages carry
      pub has : joined (bytes_in x) heard ≡ joined (carried_by x) (said conf now bytes lengths es)
      has = ap (joined (bytes_in x)) follows ∙ joined_told speaks (bytes_in x) (carried_by x) (carries x) (no_ends conf.limits) (said conf now bytes lengths es)

      -- which is what was sent of it
      pub has_sent : joined (bytes_in x) heard ≡ sent_in x (run_entries begins es)
      has_sent = has ∙ sym (sent_said x (run_entries begins es))

      -- the first of what was taken
      pub has_front : IsPrefix (joined (bytes_in x) heard) (taken_in x (run_entries begins es))
      has_front =
          let p = (whole conf now bytes lengths op).joined es x in
          (p.0, sym (taken_told conf now bytes lengths op es x) ∙ p.1 ∙ ap (λ (b : List ℕ). b ++ p.0) (sent_told conf now bytes lengths op es x ∙ sym has_sent))

      -- and all of it, where Terminal reports the stream untruncated
      pub has_whole : (e : Entry) (o : Outcome) → answer_entry (after_entries begins es) e ≡ Call.Says (Call.Terminal o) → is_truncated o x ≡ false
          → joined (bytes_in x) heard ≡ taken_in x (run_entries begins es)
      has_whole e o a u = has_sent ∙ (turn conf now bytes lengths op).rows es e o x a u
