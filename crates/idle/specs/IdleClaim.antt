-- Idle ticks make no difference. 'From one open, two runs make the same calls, the second with ticks put in, each before the deadline
-- reported just then, or at any time if none was reported. Every other call answers alike in both, for every such list.'
use Rattle.std.specs.Prelude.{Bool, true, ◌≡◌, List, [], ◌∷◌, ℕ, ◌≤◌, ltb, Option, Some, None}
use Rattle.runner.specs.Calls as Calls
use Rattle.channel.specs.Calls as Channel
use Rattle.frames.specs.Calls as Frames
use Rattle.calls.specs.Call as Call
use Rattle.calls.specs.Call.{Conf, Answer}
use Rattle.account.specs.Step.{State, next, answer, opened}
use Rattle.account.specs.Records.{Entry, EntryDone, call, next_entry, after_entries, run_entries}

-- ---- two runs

-- what the second run makes: an entry of the first, a call, a record or a frame, or a tick put in
pub data Woven : Type 0 where
  made : Entry → Woven
  idle : (now : ℕ) → Woven

-- the list of the first run, and of the second
abbrev pub alone : List Woven → List Entry
alone [] = []
alone (made e ∷ ws) = e ∷ alone ws
alone (idle t ∷ ws) = alone ws

abbrev pub woven : List Woven → List Entry
woven [] = []
woven (made e ∷ ws) = e ∷ woven ws
woven (idle t ∷ ws) = call (Call.tick t) ∷ woven ws

-- what was done, but for the ticks put in
abbrev pub others : List Woven → List EntryDone → List EntryDone
others [] ds = []
others (w ∷ ws) [] = []
others (made e ∷ ws) (d ∷ ds) = d ∷ others ws ds
others (idle t ∷ ws) (d ∷ ds) = others ws ds

-- every other entry of the second run, with its answer
abbrev pub amid : State → List Woven → List EntryDone
amid s ws = others ws (run_entries s (woven ws))

-- ---- the deadline reported just then

abbrev pub deadline_in : Answer → Option ℕ
deadline_in Call.Ok = None
deadline_in Call.Applied = None
deadline_in Call.Stale = None
deadline_in Call.Late = None
deadline_in (Call.Refused n) = None
deadline_in (Call.Taken n) = None
deadline_in (Call.Came n) = None
deadline_in (Call.Pending b) = None
deadline_in (Call.Value n) = None
deadline_in (Call.Time d) = d
deadline_in (Call.Truth b) = None
deadline_in (Call.Asks r) = None
deadline_in (Call.Says m) = None
deadline_in (Call.IsKey k) = None
deadline_in (Call.AreLimits l) = None
deadline_in Call.Nothing = None

-- what the call deadline answers; a refused one reports none
abbrev pub reported : State → Option ℕ
reported s = deadline_in (answer s Call.deadline)

-- before it, or at any time if none was reported
abbrev pub is_before : ℕ → Option ℕ → Bool
is_before t None = true
is_before t (Some d) = ltb t d

-- each tick put in is before the deadline that a run reports just then; what such a tick leaves in that run is said
abbrev pub AllBefore : (ticks : State → ℕ → State) → State → List Woven → Type 0
AllBefore ticks s [] = Unit
AllBefore ticks s (made e ∷ ws) = AllBefore ticks (next_entry s e) ws
AllBefore ticks s (idle t ∷ ws) = (is_before t (reported s) ≡ true) × AllBefore ticks (ticks s t) ws

-- by the second run, which makes it
abbrev pub AllIdle : State → List Woven → Type 0
AllIdle s ws = AllBefore (λ (x : State) (t : ℕ). next x (Call.tick t)) s ws

-- by the first, which does not
abbrev pub AllSpared : State → List Woven → Type 0
AllSpared s ws = AllBefore (λ (x : State) (t : ℕ). x) s ws

-- ---- the claim

-- the buffer that next_message, a record written, and a frame written, would leave
abbrev pub message_buffer : State → List ℕ → List ℕ
message_buffer s buffer = (Calls.next_message s.runner s.bytes buffer).buffer

abbrev pub record_buffer : State → ℕ → List ℕ → List ℕ
record_buffer s channel buffer = (Channel.write_record s.runner channel s.bytes buffer).buffer

abbrev pub frame_buffer : State → ℕ → List ℕ → List ℕ
frame_buffer s stream buffer = (Frames.write_frame s.runner stream s.bytes buffer).buffer

-- IDLE TICKS, for every open, a refused one too, stores of any content, and every list of calls, records and frames with ticks put in
pub record IdleTicks (conf : Conf) (now : ℕ) (bytes lengths : List ℕ) : Type 0 where
  -- every other call, record or frame answers alike in both runs, payloads included
  pub answers : (ws : List Woven) → AllIdle (opened conf now bytes lengths) ws
      → amid (opened conf now bytes lengths) ws ≡ run_entries (opened conf now bytes lengths) (alone ws)
  -- both stores end alike
  pub stores : (ws : List Woven) → AllIdle (opened conf now bytes lengths) ws
      → ((after_entries (opened conf now bytes lengths) (woven ws)).bytes ≡ (after_entries (opened conf now bytes lengths) (alone ws)).bytes)
      × ((after_entries (opened conf now bytes lengths) (woven ws)).lengths ≡ (after_entries (opened conf now bytes lengths) (alone ws)).lengths)
  -- and so does a buffer that is lent next, every byte of it
  pub buffers : (ws : List Woven) (channel stream : ℕ) (buffer : List ℕ) → AllIdle (opened conf now bytes lengths) ws
      → (message_buffer (after_entries (opened conf now bytes lengths) (woven ws)) buffer ≡ message_buffer (after_entries (opened conf now bytes lengths) (alone ws)) buffer)
      × (record_buffer (after_entries (opened conf now bytes lengths) (woven ws)) channel buffer ≡ record_buffer (after_entries (opened conf now bytes lengths) (alone ws)) channel buffer)
      × (frame_buffer (after_entries (opened conf now bytes lengths) (woven ws)) stream buffer ≡ frame_buffer (after_entries (opened conf now bytes lengths) (alone ws)) stream buffer)
  -- it makes no difference which run is asked for its deadline
  pub whose : (ws : List Woven)
      → (AllSpared (opened conf now bytes lengths) ws → AllIdle (opened conf now bytes lengths) ws)
      × (AllIdle (opened conf now bytes lengths) ws → AllSpared (opened conf now bytes lengths) ws)
  -- and no other tick is idle: after one at the deadline or later, another is reported
  pub sharp : (es : List Entry) (d t : ℕ) → reported (after_entries (opened conf now bytes lengths) es) ≡ Some d → d ≤ t
      → reported (next (after_entries (opened conf now bytes lengths) es) (Call.tick t)) ≡ Some d → ⊥
