-- Demand 3 whole: an entry does what the calls that it makes do, so a list with records has the account of its calls.
use Rattle.std.specs.Prelude.{Result, Ok, Err, not}
use mathlib.Core.Bool.{Bool, true, false, cond, ◌&&◌, ◌||◌, false≢true}
use mathlib.Core.Path.{◌≡◌, refl, sym, ap, ◌∙◌, subst, subst⁻¹}
use mathlib.Core.List.{List, [], ◌∷◌, ◌++◌, append_assoc}
use Prim.Native.Nat.{ℕ}
use native.Mathlib.Omega.{arith}
use lib.Dec.{leb, eqb}
use lib.ListN.{length, take, drop}
use borrow.Author.Tests.{eqb-true}
use Rattle.exec.specs.declared.Cause.{Cause}
use Rattle.exec.specs.declared.Key.{Key}
use Rattle.exec.specs.declared.Outcome.{Outcome}
use Rattle.exec.specs.declared.Refusal.{Refusal}
use Rattle.exec.specs.declared.Refusal.TheVariants.{NotAChannel, NotFramed}
use Rattle.exec.specs.declared.Stream.{Stream}
use Rattle.exec.specs.declared.Stream.TheVariants.{Stdout, Stderr, Notes}
use Rattle.exec.specs.Outcome.{is_truncated}
use Rattle.runner.specs.Calls as Calls
use Rattle.runner.specs.Calls.{stores_do}
use Rattle.runner.specs.Life.{outcome_of}
use Rattle.runner.specs.Message.{said_for}
use Rattle.runner.specs.Range.{stop, bytes_do, fresh}
use Rattle.runner.specs.Message.{choose}
use Rattle.runner.specs.State.{out_of, outputs_of}
use Rattle.carrier.specs.Carrier.{room, asked}
use Rattle.carrier.specs.CarrierLaws.{admitted_so}
use Rattle.carrier.specs.Writes.{writes, write_left}
use Rattle.channel.specs.Calls as Channel
use Rattle.channel.specs.Calls.{is_channel, is_left, last_end, carriage}
use Rattle.channel.proofs.Ended.{choice_left, pays}
use Rattle.frames.specs.Calls as Frames
use Rattle.frames.specs.Calls.{is_framed}
use Rattle.frames.proofs.Laid as Laid
use Rattle.framing.specs.declared.Frame.{Frame}
use Rattle.framing.specs.Framing as Framing
use Rattle.exits.specs.Exit.{is_untold}
use Rattle.calls.specs.Call as Call
use Rattle.calls.specs.Call.{Conf, Call, Answer, Done, is_refused}
use Rattle.account.specs.Step as Step
use Rattle.account.specs.Step.{State, replied, received_as, says}
use Rattle.account.specs.Account as Accounts
use Rattle.account.specs.Account.{Account, account, tally_of, cut, tick_a}
use Rattle.account.specs.Claim.{Demand3, Opens, IsPrefix, Silent, is_message, is_terminal, any_terminal, is_stop, account_of}
use Rattle.account.specs.Records.{Entry, call, read_record, write_record, read_frame, write_frame, answers, next_entry, answer_entry, after_entries, run_entries, roomy, is_untaken, frame_calls, made, calls_of, alike, dones_of, entry_account, any_terminal_in, SilentIn, among, of_reads, of_writes, of_frames_read, of_frames_written, of_entry, Whole}
use Rattle.account.specs.LateClaim.{LateAny}
use Rattle.account.proofs.Plain as Plain
use Rattle.runner.specs.TerminalLaws.{still}
use Rattle.account.proofs.Finish.{framed, framed_conf, quiet_terminal, ends, ends_answer}
use Rattle.account.proofs.Lives.{conf_of}
use Rattle.account.proofs.Demand.{Fine, goes, fine_next, next_same, answer_same, fine_open, open_same, late_call, demand3, lent_open}
use Rattle.account.proofs.EachRecord.{Unmade, Does, read_by}
use Rattle.account.proofs.EachFrame.{frame_by}
use Rattle.account.proofs.EachWrite.{written_does, untaken_left}

-- ---- an entry does what its calls do, of a runner in range with its stores

abbrev pub EntryDoes : Conf → Entry → State → Type 0
EntryDoes conf e s = Does e (made conf e (answer_entry s e)) s (next_entry s e) (answer_entry s e)

pub read_does : (s : State) (now channel : ℕ) (b : List ℕ) → stop s.runner (stores_do s.runner s.bytes s.lengths) ≡ Ok tt
    → EntryDoes (conf_of s.runner) (read_record now channel b) s
unfolding made next_entry answer_entry Channel.read_record
read_does s now channel b g =
    rw (admitted_so s.runner (stores_do s.runner s.bytes s.lengths) (is_channel s.runner.limits) NotAChannel g) (read_by (is_channel s.runner.limits) s now channel b)

pub frame_does : (s : State) (now stream : ℕ) (b : List ℕ) → stop s.runner (stores_do s.runner s.bytes s.lengths) ≡ Ok tt
    → EntryDoes (conf_of s.runner) (read_frame now stream b) s
unfolding made next_entry answer_entry Frames.read_frame
frame_does s now stream b g =
    rw (admitted_so s.runner (stores_do s.runner s.bytes s.lengths) (is_framed s.runner.limits stream) NotFramed g) (frame_by s now stream b g (is_framed s.runner.limits stream) refl)

pub write_does : (s : State) (channel : ℕ) (buffer : List ℕ) → stop s.runner (bytes_do s.runner.limits s.bytes) ≡ Ok tt
    → EntryDoes (conf_of s.runner) (write_record channel buffer) s
unfolding made next_entry answer_entry Channel.write_record
write_does s channel buffer g =
    let k = carriage s.runner channel s.bytes buffer in
    written_does s (write_record channel buffer) k buffer (pays channel (last_end (outputs_of s.runner))) g (omega arith) refl refl (λ u. refl) _ _ (writes k s.runner s.bytes buffer g)

pub framed_does : (s : State) (stream : ℕ) (buffer : List ℕ) → stop s.runner (bytes_do s.runner.limits s.bytes) ≡ Ok tt
    → EntryDoes (conf_of s.runner) (write_frame stream buffer) s
unfolding made next_entry answer_entry Frames.write_frame
framed_does s stream buffer g =
    let k = Frames.carriage s.runner stream in
    written_does s (write_frame stream buffer) k buffer (Laid.pays stream (out_of Stdout s.runner).ended (out_of Stderr s.runner).ended) g (omega arith) refl refl (λ u. absurd (false≢true u)) _ _
    (writes k s.runner s.bytes buffer g)

-- ---- an entry, at a state that came from open

pub record Good (conf : Conf) (s : State) : Type 0 where
  pub fine : Fine s
  pub same : conf_of s.runner ≡ conf

does_so : (e : Entry) (s : State) → Fine s → EntryDoes (conf_of s.runner) e s
unfolding Does made next_entry answer_entry Plain.enough
does_so (call c) s f = (refl, refl)
does_so (read_record now channel b) s f = read_does s now channel b (goes s (Call.input s.runner.key b) f)
does_so (write_record channel buffer) s f = write_does s channel buffer (goes s (Call.next_message buffer) f)
does_so (read_frame now stream b) s f = frame_does s now stream b (goes s (Call.input s.runner.key b) f)
does_so (write_frame stream buffer) s f = framed_does s stream buffer (goes s (Call.next_message buffer) f)

pub does : (conf : Conf) (e : Entry) (s : State) → Good conf s → EntryDoes conf e s
does conf e s h = subst (λ (k : Conf). EntryDoes k e s) h.same (does_so e s h.fine)

pub good_next : (conf : Conf) (c : Call) (s : State) → Good conf s → Good conf (Step.next s c)
good_next conf c s h =
    rw (next_same s c h.fine) (record { fine = fine_next c s h.fine; same = framed_conf (framed c s) ∙ h.same })

good_by : (conf : Conf) (x : Entry) (m : List Call) (s after : State) (a : Answer) → Does x m s after a → Good conf s → Good conf after
unfolding Does
good_by conf x [] s after a d h = subst⁻¹ (Good conf) d.kept h
good_by conf x (c ∷ []) s after a d h = subst⁻¹ (Good conf) d.0 (good_next conf c s h)
good_by conf x (c ∷ b ∷ m) s after a d h = good_by conf x (b ∷ m) (Step.next s c) after a d.2 (good_next conf c s h)

pub good_entry : (conf : Conf) (e : Entry) (s : State) → Good conf s → Good conf (next_entry s e)
good_entry conf e s h = good_by conf e (made conf e (answer_entry s e)) s (next_entry s e) (answer_entry s e) (does conf e s h) h

pub good_list : (conf : Conf) (es : List Entry) (s : State) → Good conf s → Good conf (after_entries s es)
good_list conf [] s h = h
good_list conf (e ∷ es) s h = good_list conf es (next_entry s e) (good_entry conf e s h)

-- a Terminal that a write left is still the next message
left_untold : (s : State) (channel : ℕ) (buffer : List ℕ) → Fine s → is_untaken (answer_entry s (write_record channel buffer)) ≡ true → (part : List ℕ)
    → (o : Outcome) × (Step.answer s (Call.next_message part) ≡ Call.Says (Call.Terminal o)) × (is_untold o.status ≡ true)
unfolding answer_entry Channel.write_record asked Calls.next_message Plain.enough
left_untold s channel buffer f e part =
    let g : stop s.runner (bytes_do s.runner.limits s.bytes) ≡ (Ok tt) = goes s (Call.next_message buffer) f in
    let k = carriage s.runner channel s.bytes buffer in
    let u = untaken_left s (write_record channel buffer) k buffer (pays channel (last_end (outputs_of s.runner))) g _ _ (writes k s.runner s.bytes buffer g) refl e in
    let p = choice_left (choose s.runner (length (take s.runner.limits.chunk (drop 13 buffer)))) s.runner (rw g at u) in (
      outcome_of s.runner,
      answer_same s (Call.next_message part) f ∙ ends_answer s (Call.next_message part) (record { buffer = part; call = refl; chosen = still s.runner _ (length part) p.0 }),
      p.1,
    )

-- and a frame that is written is never left
never_left : (s : State) (stream : ℕ) (buffer : List ℕ) → Fine s → is_untaken (answer_entry s (write_frame stream buffer)) ≡ true → ⊥
unfolding answer_entry Frames.write_frame Plain.enough
never_left s stream buffer f e =
    let g : stop s.runner (bytes_do s.runner.limits s.bytes) ≡ (Ok tt) = goes s (Call.next_message buffer) f in
    let k = Frames.carriage s.runner stream in
    false≢true (untaken_left s (write_frame stream buffer) k buffer (Laid.pays stream (out_of Stdout s.runner).ended (out_of Stderr s.runner).ended) g _ _ (writes k s.runner s.bytes buffer g) refl e)

-- and one that no request tells is left by every write with room
says_outcome : (o p : Outcome) → Call.Says (Call.Terminal o) ≡ Call.Says (Call.Terminal p) → o ≡ p
says_outcome o p e = cc

untold_left : (s : State) → Fine s → (part : List ℕ) (o : Outcome) → Step.answer s (Call.next_message part) ≡ Call.Says (Call.Terminal o) → is_untold o.status ≡ true
    → (channel : ℕ) (buffer : List ℕ) → (is_channel s.runner.limits && leb (room s.runner.limits) (length buffer)) ≡ true
    → answer_entry s (write_record channel buffer) ≡ Call.Refused 40
unfolding answer_entry Channel.write_record asked Calls.next_message said_for is_left Plain.enough
untold_left s f part o e u channel buffer m =
    let g : stop s.runner (bytes_do s.runner.limits s.bytes) ≡ (Ok tt) = goes s (Call.next_message part) f in
    let a = sym (answer_same s (Call.next_message part) f) ∙ e in
    let t = ends (Call.next_message part) s (ap is_terminal a) in
    let same : outcome_of s.runner ≡ o = says_outcome _ _ (sym (ends_answer s (Call.next_message part) t) ∙ a) in
    let next = length (take s.runner.limits.chunk (drop 13 buffer)) in
    let l : is_left (asked 13 s.runner s.bytes buffer).saying.answer ≡ true = rw (g, still s.runner _ next t.chosen, same) u in
    let k = carriage s.runner channel s.bytes buffer in
    ap answers (write_left k s.runner s.bytes buffer _ _ (writes k s.runner s.bytes buffer g) m l)

-- a frame that makes one call where it is not refused makes it however it is answered
data_so : (alone ends refused : Bool) (i e c : Call) → cond alone (e ∷ []) (i ∷ cond (ends && true) (e ∷ []) []) ≡ c ∷ [] → cond alone (e ∷ []) (i ∷ cond (ends && not refused) (e ∷ []) []) ≡ c ∷ []
data_so true ends refused i e c k = k
data_so false false refused i e c k = k
data_so false true refused i e c k = let z : ◌≡◌ {A = ℕ} 2 1 = ap length k in absurd (omega arith)

frame_so : (conf : Conf) (now : ℕ) (b : List ℕ) (p : Result Frame Refusal) (a : Answer) (c : Call) → frame_calls conf now b p Call.Ok ≡ c ∷ [] → frame_calls conf now b p a ≡ c ∷ []
unfolding frame_calls
frame_so conf now b (Ok (Frame.Data Stdout n ends)) a c k = data_so (ends && eqb (length (drop 9 b)) 0) ends (is_refused a) (Call.input conf.key (drop 9 b)) (Call.end_input conf.key) c k
frame_so conf now b (Ok (Frame.Data Stderr n ends)) a c k = k
frame_so conf now b (Ok (Frame.Data Notes n ends)) a c k = k
frame_so conf now b (Ok (Frame.Update Stdout units)) a c k = k
frame_so conf now b (Ok (Frame.Update Stderr units)) a c k = k
frame_so conf now b (Ok (Frame.Update Notes units)) a c k = k
frame_so conf now b (Ok (Frame.Reset x)) a c k = k
frame_so conf now b (Err x) a c k = k

framed_so : (framed : Bool) (conf : Conf) (now : ℕ) (b : List ℕ) (p : Result Frame Refusal) (a : Answer) (c : Call)
    → cond framed (frame_calls conf now b p Call.Ok) [] ≡ c ∷ [] → cond framed (frame_calls conf now b p a) [] ≡ c ∷ []
framed_so true conf now b p a c k = frame_so conf now b p a c k
framed_so false conf now b p a c k = k

-- so where no Terminal is next, an entry makes what it makes where it is not refused by 40
pub made_so : (conf : Conf) (e : Entry) (c : Call) (s : State) → Good conf s → made conf e Call.Ok ≡ c ∷ [] → is_terminal (Step.answer s c) ≡ false
    → made conf e (answer_entry s e) ≡ c ∷ []
unfolding made
made_so conf e c s g k h = by e k
  where
    -- a write, by whether its message was left
    at : (carries u : Bool) (part : List ℕ) → (u ≡ true → (o : Outcome) × (Step.answer s (Call.next_message part) ≡ Call.Says (Call.Terminal o)) × (is_untold o.status ≡ true))
        → cond carries (Call.next_message part ∷ []) [] ≡ c ∷ [] → cond carries (cond u [] (Call.next_message part ∷ [])) [] ≡ c ∷ []
    at false u part l k = k
    at true false part l k = k
    at true true part l k =
        let q : Call.next_message part ≡ c = cc in
        absurd (false≢true (sym h ∙ ap (λ (x : Call). is_terminal (Step.answer s x)) (sym q) ∙ ap is_terminal (l refl).1))

    by : (x : Entry) → made conf x Call.Ok ≡ c ∷ [] → made conf x (answer_entry s x) ≡ c ∷ []
    by (write_record channel buffer) k =
        at (is_channel conf.limits && roomy conf buffer) (is_untaken (answer_entry s (write_record channel buffer))) _ (λ u. left_untold s channel buffer g.fine u _) k
    by (write_frame stream buffer) k =
        at (is_framed conf.limits stream && roomy conf buffer) (is_untaken (answer_entry s (write_frame stream buffer))) _ (λ u. absurd (never_left s stream buffer g.fine u)) k
    by (read_frame now stream b) k = framed_so (is_framed conf.limits stream) conf now b (Framing.read stream b) (answer_entry s (read_frame now stream b)) c k
    by _ k = k

-- ---- a list of entries is the list of its calls

after_by : (x : Entry) (m : List Call) (s after : State) (a : Answer) (cs : List Call) → Does x m s after a → Step.after after cs ≡ Step.after s (m ++ cs)
unfolding Does
after_by x [] s after a cs d = ap (λ (t : State). Step.after t cs) d.kept
after_by x (c ∷ []) s after a cs d = ap (λ (t : State). Step.after t cs) d.0
after_by x (c ∷ b ∷ m) s after a cs d = after_by x (b ∷ m) (Step.next s c) after a cs d.2

run_by : (x : Entry) (m : List Call) (s after : State) (a : Answer) (cs : List Call) → Does x m s after a
    → alike a m ++ Step.run after cs ≡ Step.run s (m ++ cs)
unfolding Does
run_by x [] s after a cs d = ap (λ (t : State). Step.run t cs) d.kept
run_by x (c ∷ []) s after a cs d = rw (d.0, d.1) refl
run_by x (c ∷ b ∷ m) s after a cs d = rw (run_by x (b ∷ m) (Step.next s c) after a cs d.2, d.0) refl

any_by : (x : Entry) (m : List Call) (s after : State) (a : Answer) (cs : List Call) → Does x m s after a
    → (is_terminal a || any_terminal (Step.run after cs)) ≡ any_terminal (Step.run s (m ++ cs))
unfolding Does
any_by x [] s after a cs d = rw (d.answered, d.kept) refl
any_by x (c ∷ []) s after a cs d = rw (d.0, d.1) refl
any_by x (c ∷ b ∷ m) s after a cs d =
    any_by x (b ∷ m) (Step.next s c) after a cs d.2
    ∙ ap (λ (r : Bool). r || any_terminal (Step.run (Step.next s c) (b ∷ (m ++ cs)))) (sym (quiet_terminal a d.1) ∙ ap is_terminal d.0)

silent_by : (x : Entry) (m : List Call) (s after : State) (a : Answer) (cs : List Call) → Does x m s after a → Silent (Step.run s (m ++ cs))
    → (is_message a ≡ false) × Silent (Step.run after cs)
unfolding Does
silent_by x [] s after a cs d h = (rw d.answered refl, rw d.kept h)
silent_by x (c ∷ []) s after a cs d h = (rw d.1 h.0, rw d.0 h.1)
silent_by x (c ∷ b ∷ m) s after a cs d h = silent_by x (b ∷ m) (Step.next s c) after a cs d.2 h.1

module _ (conf : Conf) where
  same_after : (es : List Entry) (s : State) → Good conf s → after_entries s es ≡ Step.after s (calls_of conf (run_entries s es))
  same_after [] s h = refl
  same_after (e ∷ es) s h =
      same_after es (next_entry s e) (good_entry conf e s h)
      ∙ after_by e (made conf e (answer_entry s e)) s (next_entry s e) (answer_entry s e) (calls_of conf (run_entries (next_entry s e) es)) (does conf e s h)

  pub same_dones : (es : List Entry) (s : State) → Good conf s → dones_of conf (run_entries s es) ≡ Step.run s (calls_of conf (run_entries s es))
  same_dones [] s h = refl
  same_dones (e ∷ es) s h =
      ap (λ (ds : List Done). alike (answer_entry s e) (made conf e (answer_entry s e)) ++ ds) (same_dones es (next_entry s e) (good_entry conf e s h))
      ∙ run_by e (made conf e (answer_entry s e)) s (next_entry s e) (answer_entry s e) (calls_of conf (run_entries (next_entry s e) es)) (does conf e s h)

  pub same_any : (es : List Entry) (s : State) → Good conf s → any_terminal_in (run_entries s es) ≡ any_terminal (Step.run s (calls_of conf (run_entries s es)))
  same_any [] s h = refl
  same_any (e ∷ es) s h =
      ap (λ (b : Bool). is_terminal (answer_entry s e) || b) (same_any es (next_entry s e) (good_entry conf e s h))
      ∙ any_by e (made conf e (answer_entry s e)) s (next_entry s e) (answer_entry s e) (calls_of conf (run_entries (next_entry s e) es)) (does conf e s h)

  same_silent : (es : List Entry) (s : State) → Good conf s → Silent (Step.run s (calls_of conf (run_entries s es))) → SilentIn (run_entries s es)
  same_silent [] s h q = tt
  same_silent (e ∷ es) s h q =
      let p = silent_by e (made conf e (answer_entry s e)) s (next_entry s e) (answer_entry s e) (calls_of conf (run_entries (next_entry s e) es)) (does conf e s h) q in
      (p.0, same_silent es (next_entry s e) (good_entry conf e s h) p.1)

  -- a list behind another runs from where that one left
  pub calls_append : (xs ys : List Entry) (s : State)
      → calls_of conf (run_entries s (xs ++ ys)) ≡ calls_of conf (run_entries s xs) ++ calls_of conf (run_entries (after_entries s xs) ys)
  calls_append [] ys s = refl
  calls_append (e ∷ xs) ys s =
      ap (λ (cs : List Call). made conf e (answer_entry s e) ++ cs) (calls_append xs ys (next_entry s e))
      ∙ sym (append_assoc (made conf e (answer_entry s e)) (calls_of conf (run_entries (next_entry s e) xs)) _)

-- an answer that is a message is that of one call
pub message_made : (x : Entry) (m : List Call) (s after : State) (a : Answer) → Does x m s after a → is_message a ≡ true
    → (c : Call) × (after ≡ Step.next s c) × (a ≡ Step.answer s c) × (m ≡ c ∷ [])
unfolding Does
message_made x [] s after a d h = absurd (false≢true (sym (ap is_message d.answered) ∙ h))
message_made x (c ∷ []) s after a d h = (c, d.0, d.1, refl)
message_made x (c ∷ b ∷ m) s after a d h = absurd (false≢true (sym d.1 ∙ h))

-- and Terminal is one
terminal_message : (a : Answer) → is_terminal a ≡ true → is_message a ≡ true
terminal_message (Call.Says m) h = refl
terminal_message _ h = absurd (false≢true h)

unmade_as : (x : Entry) (m : List Call) (s after : State) (a : Answer) → m ≡ [] → Does x m s after a
    → (after ≡ s) × ((n : ℕ) × (a ≡ Call.Refused n) × (among n (of_entry x) ≡ true))
unfolding Does
unmade_as x m s after a e d = let u : Unmade x s after a = rw e at d in (u.kept, (u.refusal, u.answered, u.own))

-- the records' own refusals are none of 10, 11, 12 and 46
abbrev IsCalm : ℕ → Type 0
IsCalm n = is_stop (Call.Refused n) ≡ false

abbrev AllCalm : List ℕ → Type 0
AllCalm [] = Unit
AllCalm (x ∷ xs) = IsCalm x × AllCalm xs

calm_at : (b : Bool) (n x : ℕ) (rest : Bool) → eqb n x ≡ b → IsCalm x → (rest ≡ true → IsCalm n) → (b || rest) ≡ true → IsCalm n
calm_at true n x rest q h behind e = ap (λ (m : ℕ). is_stop (Call.Refused m)) (eqb-true n x q) ∙ h
calm_at false n x rest q h behind e = behind e

calm_in : (n : ℕ) (xs : List ℕ) → AllCalm xs → among n xs ≡ true → IsCalm n
calm_in n [] h e = absurd (false≢true e)
calm_in n (x ∷ xs) h e = calm_at (eqb n x) n x (among n xs) refl h.0 (calm_in n xs h.1) e

own_calm : (e : Entry) (n : ℕ) → among n (of_entry e) ≡ true → IsCalm n
own_calm (call c) n h = calm_in n [] tt h
own_calm (read_record now channel b) n h = calm_in n of_reads (refl, (refl, (refl, (refl, (refl, (refl, tt)))))) h
own_calm (write_record channel buffer) n h = calm_in n of_writes (refl, (refl, (refl, tt))) h
own_calm (read_frame now stream b) n h = calm_in n of_frames_read (refl, (refl, (refl, tt))) h
own_calm (write_frame stream buffer) n h = calm_in n of_frames_written (refl, (refl, tt)) h

ranged_by : (x : Entry) (m : List Call) (s after : State) (a : Answer) → Does x m s after a → ((c : Call) → is_stop (Step.answer s c) ≡ false) → is_stop a ≡ false
unfolding Does
ranged_by x [] s after a d h = ap is_stop d.answered ∙ own_calm x d.refusal d.own
ranged_by x (c ∷ []) s after a d h = ap is_stop d.1 ∙ h c
ranged_by x (c ∷ b ∷ m) s after a d h = ap is_stop d.0 ∙ h c

-- ---- the demand

module _ (conf : Conf) (now : ℕ) (bytes lengths : List ℕ) (op : Opens conf now bytes lengths) where
  pub good_open : Good conf (Step.opened conf now bytes lengths)
  unfolding fresh
  good_open =
      subst⁻¹ (Good conf) (open_same conf now bytes lengths op)
      (record { fine = fine_open conf now bytes lengths (lent_open conf now bytes lengths op); same = refl })

  pub good_at : (es : List Entry) → Good conf (after_entries (Step.opened conf now bytes lengths) es)
  good_at es = good_list conf es (Step.opened conf now bytes lengths) good_open

  -- the calls of a list from open
  abbrev pub calls : List Entry → List Call
  calls es = calls_of conf (run_entries (Step.opened conf now bytes lengths) es)

  pub to_calls : (es : List Entry) → after_entries (Step.opened conf now bytes lengths) es ≡ Step.after (Step.opened conf now bytes lengths) (calls es)
  to_calls es = same_after conf es (Step.opened conf now bytes lengths) good_open

  -- THE LIST WITH RECORDS HAS THE ACCOUNT OF THE LIST OF ITS CALLS
  pub same_account : (es : List Entry) → entry_account conf now bytes lengths es ≡ account_of conf now bytes lengths (calls es)
  same_account es = ap (λ (ds : List Done). account (Accounts.start conf now) ds) (same_dones conf es (Step.opened conf now bytes lengths) good_open)

  d3 : Demand3 conf now bytes lengths
  d3 = demand3 conf now bytes lengths op

  -- what Terminal's entry did, as a call after the calls
  pub at_terminal : (es : List Entry) (e : Entry) → is_terminal (answer_entry (after_entries (Step.opened conf now bytes lengths) es) e) ≡ true
      → (c : Call) × (next_entry (after_entries (Step.opened conf now bytes lengths) es) e ≡ Step.next (Step.after (Step.opened conf now bytes lengths) (calls es)) c)
      × (answer_entry (after_entries (Step.opened conf now bytes lengths) es) e ≡ Step.answer (Step.after (Step.opened conf now bytes lengths) (calls es)) c)
      × (made conf e (answer_entry (after_entries (Step.opened conf now bytes lengths) es) e) ≡ c ∷ [])
  at_terminal es e h =
      let s : State = after_entries (Step.opened conf now bytes lengths) es in
      let q = message_made e (made conf e (answer_entry s e)) s (next_entry s e) (answer_entry s e) (does conf e s (good_at es)) (terminal_message (answer_entry s e) h) in
      (q.0, q.1 ∙ ap (λ (t : State). Step.next t q.0) (to_calls es), q.2 ∙ ap (λ (t : State). Step.answer t q.0) (to_calls es), q.3)

  cancel_at : (es : List Entry) (t : ℕ) (k : Key) (c : Cause) → answer_entry (after_entries (Step.opened conf now bytes lengths) es) (call (Call.cancel t k c)) ≡ Call.Applied
      → Step.answer (Step.after (Step.opened conf now bytes lengths) (calls es)) (Call.cancel t k c) ≡ Call.Applied
  unfolding answer_entry
  cancel_at es t k c e = ap (λ (s : State). Step.answer s (Call.cancel t k c)) (sym (to_calls es)) ∙ e

  -- the calls of a list, with those of two of its entries told
  pub late_calls : (cs ds es : List Entry) (a e : Entry) (s : State)
      → let u = next_entry (after_entries s cs) a in
      calls_of conf (run_entries s (cs ++ (a ∷ (ds ++ (e ∷ es)))))
      ≡ calls_of conf (run_entries s cs) ++ (made conf a (answer_entry (after_entries s cs) a)
      ++ (calls_of conf (run_entries u ds) ++ (made conf e (answer_entry (after_entries u ds) e) ++ calls_of conf (run_entries (next_entry (after_entries u ds) e) es))))
  late_calls cs ds es a e s =
      calls_append conf cs (a ∷ (ds ++ (e ∷ es))) s
      ∙ ap (λ (xs : List Call). calls_of conf (run_entries s cs) ++ (made conf a (answer_entry (after_entries s cs) a) ++ xs))
      (calls_append conf ds (e ∷ es) (next_entry (after_entries s cs) a))

  pub late_any : LateAny conf now bytes lengths
  unfolding made
  late_any cs ds es t n k c e ticks h below past m i five =
      let o : State = Step.opened conf now bytes lengths in
      let s : State = next_entry (after_entries o cs) (call (Call.cancel t k c)) in
      let rest : List Call = calls_of conf (run_entries (next_entry (after_entries s ds) e) es) in
      same_any conf (cs ++ (call (Call.cancel t k c) ∷ (ds ++ (e ∷ es)))) o good_open
      ∙ ap (λ (xs : List Call). any_terminal (Step.run o xs)) (late_calls cs ds es (call (Call.cancel t k c)) e o)
      ∙ ap (λ (x : List Call). any_terminal (Step.run o (calls cs ++ (Call.cancel t k c ∷ (calls_of conf (run_entries s ds) ++ (x ++ rest)))))) m
      ∙ late_call conf now bytes lengths op (calls cs) (calls_of conf (run_entries s ds)) rest t n k c ticks (cancel_at cs t k c h) below past i five

  pub whole : Whole conf now bytes lengths
  unfolding made
  whole = record {
    joined = λ es x. subst⁻¹ (λ (a : Account). IsPrefix (tally_of x a).sent (tally_of x a).taken) (same_account es) (d3.joined (calls es) x);
    once = λ es e ds h. (let q = at_terminal es e h in
        let cs = calls_of conf (run_entries (next_entry (after_entries (Step.opened conf now bytes lengths) es) e) ds) in
        same_silent conf ds _ (good_entry conf e _ (good_at es))
        (subst⁻¹ (λ (s : State). Silent (Step.run s cs)) q.1 (d3.once (calls es) q.0 cs (sym (ap is_terminal q.2) ∙ h))));
    marks = λ es e out h. (let q = at_terminal es e (ap is_terminal h) in
        subst⁻¹ (λ (a : Account). (x : Stream) → is_truncated out x ≡ cut (tally_of x a)) (same_account es)
        (d3.marks (calls es) q.0 out (sym q.2 ∙ h)));
    first = λ es t k c h. subst⁻¹ (λ (a : Account). (tick_a t a).rep.begun ≡ false) (same_account es) (d3.first (calls es) t k c (cancel_at es t k c h));
    late = λ cs ds es t n k c h below past five. late_any cs ds es t n k c (call (Call.tick n)) (Call.tick n) h below past refl refl five;
    ranged = λ es e. ranged_by e (made conf e _) _ _ _ (does conf e _ (good_at es)) (λ c. ap (λ (s : State). is_stop (Step.answer s c)) (to_calls es) ∙ d3.ranged (calls es) c);
    refused = λ es e h. unmade_as e (made conf e _) _ _ _ h (does conf e _ (good_at es));
    untold = λ es channel buffer e. left_untold _ channel buffer (good_at es).fine (ap is_untaken e);
    left = λ es part o e u channel buffer m. untold_left _ (good_at es).fine part o e u channel buffer
        (ap (λ (k : Conf). is_channel k.limits && roomy k buffer) (good_at es).same ∙ m);
  }
