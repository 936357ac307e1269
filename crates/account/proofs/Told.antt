-- What the account has of a stream as taken and sent is what the list of what was done tells: of the bytes offered those that
-- were answered taken, and the bytes that the answers carry, joined.
use mathlib.Core.Path.{◌≡◌, refl, sym, ap, ◌∙◌, subst⁻¹}
use mathlib.Core.List.{List, [], ◌∷◌, ◌++◌, append-nil, append_assoc}
use Prim.Native.Nat.{ℕ}
use lib.ListN.{length, take}
use Rattle.exec.specs.declared.Stream.{Stream}
use Rattle.runner.specs.Message.{choose}
use Rattle.calls.specs.Call.{Conf, Call, Answer, Done, count}
use Rattle.account.specs.Step as Step
use Rattle.account.specs.Step.{State}
use Rattle.account.specs.Account.{Account, Tally, none as untold, add, account, start, tally_of}
use Rattle.account.specs.Claim.{Opens}
use Rattle.account.specs.Records.{Entry, EntryDone, call, next_entry, answer_entry, made, alike, dones_of, run_entries, entry_account}
use Rattle.account.specs.TurnClaim.{offered, offered_in, carried, taken_in, sent_in}
use Rattle.account.proofs.Plain.{answer, of_open}
use Rattle.account.proofs.Sides.{one_per}
use Rattle.account.proofs.Finish.{Kind, quiet, speaks, kind}
use Rattle.account.proofs.Demand.{Fine, answer_same}
use Rattle.account.proofs.EachRecord.{Does, Outputless, AllOutputless, record_outputless}
use Rattle.account.proofs.Records.{Good, does, good_next, good_entry, good_open}
use Rattle.account.proofs.Tells.{Tells, Offers, silent, gives, offers, quiet_kept, quiet_told, output_told, said_told, unkept_told}

-- ---- a call

plain_told : (c : Call) (s : State) (z : Account) → Tells z c (answer s c)
unfolding answer
plain_told c s z = go c (offers c) (kind c s)
  where
    go : (c : Call) → Offers c → Kind s c → Tells z c (answer s c)
    go c (gives y b) k = of_open (Tells z (Call.output y b)) s y _ (output_told y b _ z) (unkept_told y b 2 z)
    go c (silent o) (quiet q) = quiet_told c (answer s c) z o q
    go c (silent o) (speaks b) = said_told (choose s.runner (length b)) b s.runner s.bytes z

call_told : (c : Call) (s : State) (z : Account) → Fine s → Tells z c (Step.answer s c)
call_told c s z f = subst⁻¹ (Tells z c) (answer_same s c f) (plain_told c s z)

-- ---- an entry: a record makes no output

-- the last of the calls that an entry makes offers what the entry does, and those before it nothing
abbrev Offering : Entry → List Call → Type 0
Offering e [] = Unit
Offering e (c ∷ []) = (x : Stream) → offered_in x e ≡ offered x c
Offering e (c ∷ d ∷ m) = ((x : Stream) → offered x c ≡ []) × Offering e (d ∷ m)

mute : (c : Call) → Outputless c → (x : Stream) → offered x c ≡ []
mute (Call.output y b) h x = absurd h
mute _ h x = refl

mute_offering : (e : Entry) (m : List Call) → ((x : Stream) → offered_in x e ≡ []) → AllOutputless m → Offering e m
mute_offering e [] h q = tt
mute_offering e (c ∷ []) h q = λ x. h x ∙ sym (mute c q.0 x)
mute_offering e (c ∷ d ∷ m) h q = (mute c q.0, mute_offering e (d ∷ m) h q.1)

offering : (conf : Conf) (e : Entry) (a : Answer) → Offering e (made conf e a)
unfolding made
offering conf (call c) a = λ x. refl
offering conf e a = mute_offering e (made conf e a) (λ x. refl) (record_outputless conf e a tt)

-- ---- a list: what is behind the entry is told of the account after it

-- the account a has of a stream what z has, and then these
abbrev Adds : Stream → (z a : Account) → (taken sent : List ℕ) → Type 0
Adds x z a taken sent = ((tally_of x a).taken ≡ (tally_of x z).taken ++ taken) × ((tally_of x a).sent ≡ (tally_of x z).sent ++ sent)

-- from the account z, over a list of what was done
abbrev ToldIn : Conf → Account → List EntryDone → Type 0
ToldIn conf z ds = (x : Stream) → Adds x z (account z (dones_of conf ds)) (taken_in x ds) (sent_in x ds)

-- t is u and then l, and u is v and then k
joined : (t u v k l : List ℕ) → t ≡ u ++ l → u ≡ v ++ k → t ≡ v ++ (k ++ l)
joined t u v k l e d = e ∙ ap (λ (q : List ℕ). q ++ l) d ∙ append_assoc v k l

behind : (conf : Conf) (e : Entry) (m : List Call) (s after : State) (r : Answer) (ds : List Done) (taken sent : List ℕ) (z : Account) (x : Stream)
    → Does e m s after r → Offering e m → Good conf s → ((a : Account) → Adds x a (account a ds) taken sent)
    → Adds x z (account z (alike r m ++ ds)) (take (count r) (offered_in x e) ++ taken) (carried x r ++ sent)
unfolding Does
behind conf e [] s after r ds taken sent z x d o g h = rw d.answered (h z)
behind conf e (c ∷ []) s after r ds taken sent z x d o g h =
    let p = h (add z c r) in
    let q = subst⁻¹ (Tells z c) d.1 (call_told c s z g.fine) x in
    rw (o x) (joined _ _ _ _ taken p.0 q.0, joined _ _ _ _ sent p.1 q.1)
behind conf e (c ∷ b ∷ m) s after r ds taken sent z x d o g h =
    let p = behind conf e (b ∷ m) (Step.next s c) after r ds taken sent (add z c r) x d.2 o.1 (good_next conf c s g) h in
    let q = quiet_kept c r z o.0 d.1 x in
    (p.0 ∙ ap (λ (t : List ℕ). t ++ (take (count r) (offered_in x e) ++ taken)) q.0, p.1 ∙ ap (λ (t : List ℕ). t ++ (carried x r ++ sent)) q.1)

list_told : (conf : Conf) (es : List Entry) (s : State) (z : Account) → Good conf s → ToldIn conf z (run_entries s es)
list_told conf [] s z g = λ x. (sym (append-nil _), sym (append-nil _))
list_told conf (e ∷ es) s z g = λ x.
    behind conf e (made conf e (answer_entry s e)) s (next_entry s e) (answer_entry s e) (dones_of conf (run_entries (next_entry s e) es)) _ _ z x (does conf e s g) (offering conf e (answer_entry s e)) g
    (λ a. list_told conf es (next_entry s e) a (good_entry conf e s g) x)

-- the account of a stream after a list from open
abbrev pub tallied : Conf → ℕ → (bytes lengths : List ℕ) → List Entry → Stream → Tally
tallied conf now bytes lengths es x = tally_of x (entry_account conf now bytes lengths es)

module _ (conf : Conf) (now : ℕ) (bytes lengths : List ℕ) (op : Opens conf now bytes lengths) where
  from_open : (es : List Entry) → ToldIn conf (start conf now) (run_entries (Step.opened conf now bytes lengths) es)
  from_open es = list_told conf es (Step.opened conf now bytes lengths) (start conf now) (good_open conf now bytes lengths op)

  pub taken_told : (es : List Entry) (x : Stream) → (tallied conf now bytes lengths es x).taken ≡ taken_in x (run_entries (Step.opened conf now bytes lengths) es)
  unfolding start
  taken_told es x =
      (from_open es x).0
      ∙ ap (λ (t : Tally). t.taken ++ taken_in x (run_entries (Step.opened conf now bytes lengths) es)) (one_per (λ (y : Stream). untold) x)

  pub sent_told : (es : List Entry) (x : Stream) → (tallied conf now bytes lengths es x).sent ≡ sent_in x (run_entries (Step.opened conf now bytes lengths) es)
  unfolding start
  sent_told es x =
      (from_open es x).1
      ∙ ap (λ (t : Tally). t.sent ++ sent_in x (run_entries (Step.opened conf now bytes lengths) es)) (one_per (λ (y : Stream). untold) x)
