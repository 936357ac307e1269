-- What a write of the workload's input costs: how many frames its pop comes to with bytes still to take, as its answer tells: in one
-- call, whatever the state, and over every list of calls, records and RFC 9113's frames.
use Rattle.std.specs.Prelude.{true, false, cond, ◌≡◌, List, [], ◌∷◌, ◌++◌, ℕ, ◌+◌, ◌-◌, ◌≤◌, min, eqb, length}
use Rattle.exec.specs.declared.Limits.{Limits}
use Rattle.exec.specs.declared.Unit.TheVariants.{Bytes, Frames}
use Rattle.ring.specs.Frames.{came_of, rest_of, sum}
use Rattle.inbox.specs.Inbox.{pop_came}
use Rattle.input.specs.declared.Input.{Input}
use Rattle.calls.specs.Call.{Conf, Done, Call, input, input_written, Answer, Came}
use Rattle.account.specs.Step.{State, next, answer, opened}
use Rattle.account.specs.InputClaim.{is_applied}
use Rattle.account.specs.Records.{Entry, after_entries, run_entries, dones_of}

-- what holds of a write of n bytes that is answered by m, and leaves the input i'
pub record Write (l : Limits) (i i' : Input) (n m : ℕ) : Type 0 where
  -- 0 for a count of 0, a byte window, or a closed input
  pub none : n ≡ 0 → m ≡ 0
  pub bytes : l.input.unit ≡ Bytes → m ≡ 0
  pub closed : i.closed ≡ true → m ≡ 0
  -- never above the units that it frees plus 1; in frames these are the frames that are gone, and it is never below them
  pub freed : (f : ℕ) × (i'.window.returnable ≡ i.window.returnable + f) × (m ≤ f + 1)
      × (l.input.unit ≡ Frames → (i'.inbox.frames + f ≡ i.inbox.frames) × (f ≤ m))
  -- nor above the frames that wait
  pub frames : m ≤ i.inbox.frames

-- ONE CALL, of any state and store of lengths, foreign ones too
abbrev pub Writes : Type 0
Writes =
    (s : State) (n m : ℕ) → answer s (input_written n) ≡ Came m
    → Write s.runner.limits s.runner.input (next s (input_written n)).runner.input n m

-- ---- over a list, by its calls and their answers

-- the frames that a call is told to have come to
abbrev pub told_of : Answer → ℕ
told_of (Came n) = n
told_of _ = 0

-- one for a message of input that is applied
abbrev pub frame_of : Call → Answer → ℕ
frame_of (input k b) a = cond (is_applied a) 1 0
frame_of _ a = 0

-- one for a write that came to a frame
abbrev pub write_of : Answer → ℕ
write_of a = cond (eqb (told_of a) 0) 0 1

abbrev pub came : List Done → ℕ
came [] = 0
came (d ∷ ds) = told_of d.answer + came ds

abbrev pub frames : List Done → ℕ
frames [] = 0
frames (d ∷ ds) = frame_of d.call d.answer + frames ds

abbrev pub writes : List Done → ℕ
writes [] = 0
writes (d ∷ ds) = write_of d.answer + writes ds

-- the frames that wait, by the bytes left of each, as calls and answers tell them while the input is open: a message of input that is
-- applied brings one, and a write takes from the first on, at most what waits
abbrev pub left_by : Call → Answer → List ℕ → List ℕ
left_by (input k b) a fs = cond (is_applied a) (fs ++ (length b ∷ [])) fs
left_by (input_written n) a fs = rest_of fs (min n (sum fs))
left_by _ a fs = fs

abbrev pub left : List ℕ → List Done → List ℕ
left fs [] = fs
left fs (d ∷ ds) = left (left_by d.call d.answer fs) ds

-- THE BUDGET, for a runner that open answered ok, stores of any content, and every list of calls, records and
-- RFC 9113's frames, which an input in frames refuses (42)
pub record Budget (conf : Conf) (now : ℕ) (bytes lengths : List ℕ) : Type 0 where
  -- EXACTLY: of an open input in frames, the number is `came_of` the frames that wait, for the bytes taken, n or all that wait: how many
  -- of them have fewer bytes than these before them (`came_before` and `came_all` of the ring)
  pub exact : (es : List Entry) (n m : ℕ) → let s = after_entries (opened conf now bytes lengths) es in
      let fs = left [] (dones_of conf (run_entries (opened conf now bytes lengths) es)) in
      conf.limits.input.unit ≡ Frames → s.runner.input.closed ≡ false → answer s (input_written n) ≡ Came m → m ≡ came_of fs (min n (sum fs))
  -- a closed input holds no byte, so that a pop of it would come to no frame, whatever its count
  pub emptied : (es : List Entry) → let r = (after_entries (opened conf now bytes lengths) es).runner in
      r.input.closed ≡ true → r.input.inbox.length ≡ 0
  pub nothing : (es : List Entry) (count : ℕ) → let s = after_entries (opened conf now bytes lengths) es in
      s.runner.input.closed ≡ true → pop_came s.runner.limits s.runner.input.inbox count s.lengths ≡ 0
  -- a write of n bytes comes to n frames at most: each that waits has a byte
  pub few : (es : List Entry) (n m : ℕ) → answer (after_entries (opened conf now bytes lengths) es) (input_written n) ≡ Came m → m ≤ n
  -- all writes together come to no more frames than were applied, and one more for each write that came to one, but the first
  pub all : (es : List Entry) → let ds = dones_of conf (run_entries (opened conf now bytes lengths) es) in
      came ds ≤ frames ds + (writes ds - 1)
