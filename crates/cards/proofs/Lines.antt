-- Lines behind the first one: each is answered as its call is, or by 30 where it makes none.
use Rattle.std.specs.Prelude.{Option, Some, None}
use mathlib.Core.Bool.{true, false, true≢false}
use mathlib.Core.Path.{◌≡◌, refl, sym, ap, ◌∙◌}
use mathlib.Core.List.{List, [], ◌∷◌, ◌++◌, append_assoc, map}
use mathlib.Core.Logic.{inl, inr}
use Prim.Native.Nat.{ℕ}
use Rattle.calls.specs.Call as Call
use Rattle.calls.specs.Call.{Call, Answer, Done}
use Rattle.account.specs.Claim.{is_message, is_terminal, Silent}
use Rattle.account.specs.Records.{Entry, EntryDone, call, alike, next_entry, answer_entry, after_entries, run_entries}
use Rattle.account.specs.TurnClaim.{Has}
use Rattle.account.specs.Step.{State, next, answer, after, run}
use Rattle.grammar.specs.Feed.{Running}
use Rattle.grammar.specs.Calls.{made_of}
use Rattle.grammar.specs.ByLine.{Line, call_said, next_by, answer_by, lines_from, stage_after}
use Rattle.grammar.proofs.Later.{later_line}
use Rattle.cards.specs.Runs.{calls_of, dones_of, entries_of}

-- a line is answered as its call is, or by 30 where it makes none
abbrev pub Follows : State → Line → Type 0
Follows s l = l.answer ≡ answer_by s l.call

abbrev pub Follow : State → List Line → Type 0
Follow s [] = Unit
Follow s (l ∷ ls) = Follows s l × Follow (next_by s l.call) ls

after_made : (o : Option Call) (s : State) (cs : List Call) → after s (made_of o ++ cs) ≡ after (next_by s o) cs
after_made None s cs = refl
after_made (Some c) s cs = refl

-- from a stage with a runner on
pub follow : (s : State) (ls : List (List ℕ)) → Follow s (lines_from (Running s) ls)
follow s [] = tt
follow s (l ∷ ls) = let h = later_line s l in rw h (refl, follow (next_by s (call_said l)) ls)

pub leaves : (s : State) (ls : List (List ℕ)) → stage_after (Running s) ls ≡ Running (after s (calls_of (lines_from (Running s) ls)))
leaves s [] = refl
leaves s (l ∷ ls) =
    rw (later_line s l) (leaves (next_by s (call_said l)) ls ∙ ap Running (sym (after_made (call_said l) s (calls_of (lines_from (Running (next_by s (call_said l))) ls)))))

-- their calls are those that they say
pub called : (s : State) (ls : List (List ℕ)) → map (λ (l : Line). l.call) (lines_from (Running s) ls) ≡ map call_said ls
called s [] = refl
called s (l ∷ ls) = rw (later_line s l) (ap (λ (rest : List (Option Call)). call_said l ∷ rest) (called (next_by s (call_said l)) ls))

-- their answers are those of the list of their calls
pub dones : (s : State) (ls : List Line) → Follow s ls → dones_of ls ≡ run s (calls_of ls)
dones s [] f = refl
dones s (l ∷ ls) f = by l.call l.answer f.0 (dones (next_by s l.call) ls f.1)
  where
    by : (o : Option Call) (a : Answer) → a ≡ answer_by s o → dones_of ls ≡ run (next_by s o) (calls_of ls) → alike a (made_of o) ++ dones_of ls ≡ run s (made_of o ++ calls_of ls)
    by None a e h = h
    by (Some c) a e h = rw (e, h) refl

-- lines one after the other
pub calls_append : (xs ys : List Line) → calls_of (xs ++ ys) ≡ calls_of xs ++ calls_of ys
calls_append [] ys = refl
calls_append (l ∷ xs) ys = ap (λ (cs : List Call). made_of l.call ++ cs) (calls_append xs ys) ∙ sym (append_assoc (made_of l.call) (calls_of xs) (calls_of ys))

pub parts : (s : State) (xs ys : List Line) → Follow s (xs ++ ys) → Follow s xs × Follow (after s (calls_of xs)) ys
parts s [] ys f = (tt, f)
parts s (l ∷ xs) ys f = let p = parts (next_by s l.call) xs ys f.1 in ((f.0, p.0), rw (after_made l.call s (calls_of xs)) p.1)

-- one that is no call, and one that is
pub no_call : (s : State) (l : Line) → Follows s l → l.call ≡ None → l.answer ≡ Call.Refused 30
no_call s l f e = rw e at f

pub its_call : (s : State) (l : Line) (c : Call) → Follows s l → l.call ≡ Some c → l.answer ≡ answer s c
its_call s l c f e = rw e at f

pub data Said (s : State) (l : Line) : Type 0 where
  bad : l.call ≡ None → l.answer ≡ Call.Refused 30 → Said s l
  made : (c : Call) → l.call ≡ Some c → l.answer ≡ answer s c → Said s l

pub said : (s : State) (l : Line) → Follows s l → Said s l
said s l f = by l.call refl
  where
    by : (o : Option Call) → l.call ≡ o → Said s l
    by None e = bad e (no_call s l f e)
    by (Some c) e = made c e (its_call s l c f e)

-- Terminal answers a call
pub terminal_call : (s : State) (l : Line) → Follows s l → is_terminal l.answer ≡ true → (c : Call) × (l.call ≡ Some c) × (l.answer ≡ answer s c)
terminal_call s l f h = by (said s l f)
  where
    by : Said s l → (c : Call) × (l.call ≡ Some c) × (l.answer ≡ answer s c)
    by (made c e a) = (c, e, a)
    by (bad e a) = absurd (true≢false (sym h ∙ ap is_terminal a))

-- the last of a silent list is no message
pub last_silent : (s : State) (cs : List Call) (c : Call) → Silent (run s (cs ++ (c ∷ []))) → is_message (answer (after s cs) c) ≡ false
last_silent s [] c q = q.0
last_silent s (b ∷ cs) c q = last_silent (next s b) cs c q.1

-- ---- as entries

abbrev pub entered : List Call → List Entry
entered [] = []
entered (c ∷ cs) = call c ∷ entered cs

pub entered_append : (xs ys : List Call) → entered (xs ++ ys) ≡ entered xs ++ entered ys
entered_append [] ys = refl
entered_append (c ∷ xs) ys = ap (λ (es : List Entry). call c ∷ es) (entered_append xs ys)

pub entries_run : (s : State) (cs : List Call) → run_entries s (entered cs) ≡ entries_of (run s cs)
unfolding next_entry answer_entry
entries_run s [] = refl
entries_run s (c ∷ cs) = ap (λ (ds : List EntryDone). record { entry = call c; answer = answer s c } ∷ ds) (entries_run (next s c) cs)

pub entry_answer : (s : State) (cs : List Call) (c : Call) → answer_entry (after_entries s (entered cs)) (call c) ≡ answer (after s cs) c
unfolding next_entry answer_entry
entry_answer s [] c = refl
entry_answer s (b ∷ cs) c = entry_answer (next s b) cs c

pub has_entered : (c : Call) (cs : List Call) → Has c cs → Has (call c) (entered cs)
has_entered c [] h = h
has_entered c (b ∷ cs) (inl e) = inl (ap call e)
has_entered c (b ∷ cs) (inr h) = inr (has_entered c cs h)
