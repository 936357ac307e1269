-- How often a host has to tick: at each deadline that is reported, with that deadline as its time, though its clock may show more by then.
-- It is then answered as one that ticks at every instant. And of instants at which it looks, it may spare those before the deadline.
use Rattle.std.specs.Prelude.{Bool, true, cond, ◌≡◌, List, [], ◌∷◌, ℕ, zero, suc, ◌≤◌, leb, Option, Some, None}
use Rattle.calls.specs.Call as Call
use Rattle.calls.specs.Call.{Conf}
use Rattle.account.specs.Step.{State, next, opened}
use Rattle.account.specs.Records.{Entry, next_entry, after_entries}
use Rattle.idle.specs.IdleClaim.{Woven, made, idle, woven, amid, reported, is_before}

-- ---- a host

-- what it does up to its next entry: it ticks at some instants, and makes the entry when its clock shows the time
pub record Beat : Type 0 where
  pub ticks : List ℕ
  pub clock : ℕ
  pub entry : Entry

abbrev pub ticking : List ℕ → List Woven → List Woven
ticking [] ws = ws
ticking (t ∷ ts) ws = idle t ∷ ticking ts ws

-- its list, with its ticks put in
abbrev pub polled : List Beat → List Woven
polled [] = []
polled (b ∷ bs) = ticking b.ticks (made b.entry ∷ polled bs)

abbrev pub after_ticks : State → List ℕ → State
after_ticks s [] = s
after_ticks s (t ∷ ts) = after_ticks (next s (Call.tick t)) ts

-- ---- one that misses no deadline

-- not later than a deadline, if one was reported
abbrev pub is_by : ℕ → Option ℕ → Bool
is_by t None = true
is_by t (Some d) = leb t d

-- no tick is later than the clock shows, nor than the deadline reported just then; and in the end the clock has reached none
abbrev pub Punctual : (clock : ℕ) → State → List ℕ → Type 0
Punctual clock s [] = is_before clock (reported s) ≡ true
Punctual clock s (t ∷ ts) = (t ≤ clock) × (is_by t (reported s) ≡ true) × Punctual clock (next s (Call.tick t)) ts

abbrev pub AllPunctual : State → List Beat → Type 0
AllPunctual s [] = Unit
AllPunctual s (b ∷ bs) = Punctual b.clock s b.ticks × AllPunctual (next_entry (after_ticks s b.ticks) b.entry) bs

-- ---- one that ticks at every instant up to what its clock shows; from 0, as the clock may fall

abbrev pub instants : (first count : ℕ) → List ℕ
instants first zero = []
instants first (suc n) = first ∷ instants (suc first) n

-- the same entries by the same clock
abbrev pub at_every_instant : List Beat → List Beat
at_every_instant [] = []
at_every_instant (b ∷ bs) = record { ticks = instants 0 (suc b.clock); clock = b.clock; entry = b.entry } ∷ at_every_instant bs

-- ---- and one that ticks at the reported deadlines alone

abbrev pub if_due : Option ℕ → (clock : ℕ) → (ℕ → List ℕ) → List ℕ
if_due None clock ticks = []
if_due (Some d) clock ticks = cond (leb d clock) (ticks d) []

-- at each that the clock has reached, with the deadline's own time; each is later than the last
abbrev pub dues : (most clock : ℕ) → State → List ℕ
dues zero clock s = []
dues (suc n) clock s = if_due (reported s) clock (λ (d : ℕ). d ∷ dues n clock (next s (Call.tick d)))

abbrev pub dues_of : State → Beat → List ℕ
dues_of s b = dues (suc b.clock) b.clock s

abbrev pub at_deadlines : State → List Beat → List Beat
at_deadlines s [] = []
at_deadlines s (b ∷ bs) =
    record { ticks = dues_of s b; clock = b.clock; entry = b.entry } ∷ at_deadlines (next_entry (after_ticks s (dues_of s b)) b.entry) bs

-- ---- picks: the instants at which a host looks at its clock, among its entries

-- one that ticks on a pick only when the deadline says so, and spares the others
abbrev pub when_due : State → List Woven → List Woven
when_due s [] = []
when_due s (made e ∷ ws) = made e ∷ when_due (next_entry s e) ws
when_due s (idle t ∷ ws) = cond (is_before t (reported s)) (when_due s ws) (idle t ∷ when_due (next s (Call.tick t)) ws)

-- ---- the claim

-- HOW OFTEN TO TICK, for every open, a refused one too, stores of any content, and every list of calls, records and frames
pub record Polls (conf : Conf) (now : ℕ) (bytes lengths : List ℕ) : Type 0 where
  -- a host that misses no deadline is answered as one that ticks at every instant
  pub answers : (bs : List Beat) → AllPunctual (opened conf now bytes lengths) bs
      → amid (opened conf now bytes lengths) (polled bs) ≡ amid (opened conf now bytes lengths) (polled (at_every_instant bs))
  -- and both stores end alike
  pub stores : (bs : List Beat) → AllPunctual (opened conf now bytes lengths) bs
      → ((after_entries (opened conf now bytes lengths) (woven (polled bs))).bytes ≡ (after_entries (opened conf now bytes lengths) (woven (polled (at_every_instant bs)))).bytes)
      × ((after_entries (opened conf now bytes lengths) (woven (polled bs))).lengths ≡ (after_entries (opened conf now bytes lengths) (woven (polled (at_every_instant bs)))).lengths)
  -- who ticks at every instant misses none, nor does who ticks at the reported deadlines alone
  pub every : (bs : List Beat) → AllPunctual (opened conf now bytes lengths) (at_every_instant bs)
  pub only : (bs : List Beat) → AllPunctual (opened conf now bytes lengths) (at_deadlines (opened conf now bytes lengths) bs)
  -- so that these two are answered alike, whatever the entries and the clock
  pub both : (bs : List Beat)
      → amid (opened conf now bytes lengths) (polled (at_deadlines (opened conf now bytes lengths) bs)) ≡ amid (opened conf now bytes lengths) (polled (at_every_instant bs))
  -- nor does it make a difference to tick on every pick, or on those alone whose time the deadline has come to, or passed
  pub picks : (ws : List Woven) → amid (opened conf now bytes lengths) (when_due (opened conf now bytes lengths) ws) ≡ amid (opened conf now bytes lengths) ws
  -- and one tick is enough: a deadline that is reported after it is later
  pub later : (es : List Entry) (t : ℕ) → is_before t (reported (next (after_entries (opened conf now bytes lengths) es) (Call.tick t))) ≡ true
