-- What a peer can know from the frames of RFC 9113.
use mathlib.Core.Bool.{Bool, true, false, not, ◌&&◌, false≢true}
use mathlib.Core.Path.{◌≡◌, refl, sym, ap, ◌∙◌, subst⁻¹}
use mathlib.Core.List.{List, [], ◌++◌}
use Prim.Native.Nat.{ℕ, ◌+◌, ◌≤◌}
use native.Mathlib.Omega.{arith}
use lib.ListN.{length, take, drop}
use borrow.Author.Tests.{le-leb, not-true}
use Rattle.exec.specs.declared.Limits.{Limits}
use Rattle.exec.specs.declared.Stream.{Stream}
use Rattle.exec.specs.declared.Stream.TheVariants.{Stdout, Stderr}
use Rattle.exec.specs.Each.{one}
use Rattle.ring.specs.Flags.{and_l}
use Rattle.runner.specs.State.{out_of}
use Rattle.carrier.specs.Carrier.{is_bytes, room}
use Rattle.carrier.specs.Writes.{writes}
use Rattle.channel.specs.Calls as Channel
use Rattle.channel.specs.Calls.{is_channel}
use Rattle.frames.specs.Calls as Frames
use Rattle.frames.specs.Calls.{is_framed, carriage, write_frame}
use Rattle.frames.specs.CallLaws.{framed_plain}
use Rattle.frames.proofs.Laid.{pays}
use Rattle.calls.specs.Call as Call
use Rattle.calls.specs.Call.{Conf, Message}
use Rattle.account.specs.Step as Step
use Rattle.account.specs.Step.{State}
use Rattle.account.specs.Claim.{Opens, is_message, terminal_message}
use Rattle.account.specs.Records as Records
use Rattle.account.specs.Records.{Entry, call, read_record, write_record, read_frame, wrote_as, answer_entry, after_entries, is_untaken, roomy, made}
use Rattle.account.proofs.EachRecord.{Does}
use Rattle.account.proofs.EachWrite.{untaken_left}
use Rattle.account.proofs.Records.{Good, does, good_at, whole}
use Rattle.wire.specs.Messages.{said_in, said_from, said, credit_in, is_end, any, no_ends}
use Rattle.wire.specs.Heard.{AllOf, joined, count, once, told_by}
use Rattle.wire.proofs.Ends.{ends, ends_all}
use Rattle.wire.proofs.Order.{from_open, ordered}
use Rattle.wire.proofs.Follows.{count_append, all_front, once_true, Hears, unheard, Steps, told_append, joined_told, none_told, said_append, call_unsaid, read_unsaid, unmade_unsaid, unsent, silent_wire, told_ends, told_once, follows_so, has_sent, has_front, has_whole}
use Rattle.peer.specs.Framed.{front, on_wire, cut_by, bytes_in, units_in, is_ended, is_reset, is_on, is_unread, heard, speaks}
use Rattle.exec.specs.Limits.{has as has_stream, has_notes}
use Rattle.peer.specs.Claim.{Lone, heard_of, Peer}
use Rattle.peer.proofs.Read.{good, frame_told}
use Rattle.peer.proofs.Counts.{bytes_told, units_told, unread_none, ends_told, resets_told, none_on}

-- ---- an entry

-- a framed runner is none for records
unchanneled : (l : Limits) (s : ℕ) → is_framed l s ≡ true → is_channel l ≡ false
unchanneled l s h =
    let q = and_l (not l.shared && is_bytes l.input.unit && is_bytes l.output.unit) (not (has_notes l)) (framed_plain l s h) in
    let p = and_l (not l.shared && is_bytes l.input.unit) (is_bytes l.output.unit) q in
    let t : l.shared ≡ false = not-true l.shared (and_l (not l.shared) (is_bytes l.input.unit) p) in
    rw t refl

module _ (conf : Conf) (s : ℕ) (framed : is_framed conf.limits s ≡ true) where
  framed_here : (st : State) → Good conf st → is_framed st.runner.limits s ≡ true
  framed_here st g = ap (λ (k : Conf). is_framed k.limits s) g.same ∙ framed

  steps : Steps speaks conf on_wire (heard s) (Lone s)
  unfolding on_wire answer_entry made
  steps (call c) st g v l = unheard speaks (heard s) (ends st.runner) _ (call_unsaid c st g.fine l)
  steps (read_record now channel b) st g v l = unheard speaks (heard s) (ends st.runner) _ (read_unsaid (Channel.read_record st.runner now channel b st.bytes st.lengths).reading.answer)
  steps (write_record channel buffer) st g v l =
      unheard speaks (heard s) (ends st.runner) _ (unmade_unsaid conf (write_record channel buffer) st g (rw (unchanneled conf.limits s framed) refl))
  steps (read_frame now other b) st g v l = unheard speaks (heard s) (ends st.runner) _ (read_unsaid (Frames.read_frame st.runner now other b st.bytes st.lengths).reading.answer)
  steps (Records.write_frame other buffer) st g v l =
      subst⁻¹ (λ (n : ℕ). Hears (heard s) (on_wire st (Records.write_frame n buffer)) (told_by speaks (ends st.runner) (said_in (answer_entry st (Records.write_frame n buffer))))) l
      (frame_told st g.fine s (framed_here st g) buffer)

-- ---- where nothing is said, nothing stands on the wire

unwired : (e : Entry) (st : State) → is_message (answer_entry st e) ≡ false → on_wire st e ≡ []
unfolding answer_entry on_wire
unwired (Records.write_frame s buffer) st h =
    unsent front (Frames.write_frame st.runner s st.bytes buffer).writing.answer (Frames.write_frame st.runner s st.bytes buffer).buffer h
unwired _ st h = refl

-- ---- the claim

module _ (conf : Conf) (now : ℕ) (bytes lengths : List ℕ) (s : ℕ) (op : Opens conf now bytes lengths) (framed : is_framed conf.limits s ≡ true) where
  follows : (es : List Entry) → AllOf (Lone s) es → heard_of conf now bytes lengths s es ≡ told_by speaks (no_ends conf.limits) (said conf now bytes lengths es)
  unfolding cut_by
  follows es l = follows_so conf now bytes lengths op speaks on_wire (heard s) (Lone s) refl (steps conf s framed) es l

  -- no frame is left by 40
  taken_all : (st : State) (buffer : List ℕ) → Good conf st → is_untaken (answer_entry st (Records.write_frame s buffer)) ≡ false
  unfolding answer_entry write_frame
  taken_all st buffer g = by (is_untaken (answer_entry st (Records.write_frame s buffer))) refl
    where
      by : (b : Bool) → is_untaken (answer_entry st (Records.write_frame s buffer)) ≡ b → b ≡ false
      by false e = refl
      by true e =
          let k = carriage st.runner s in
          let h = good st g.fine s (framed_here conf s framed st g) buffer in
          absurd (false≢true (untaken_left st (Records.write_frame s buffer) k buffer (pays s (out_of Stdout st.runner).ended (out_of Stderr st.runner).ended) h _ _ (writes k st.runner st.bytes buffer h) refl e))

  asks_at : (es : List Entry) (buffer : List ℕ) → conf.limits.chunk + 13 ≤ length buffer → 43 ≤ length buffer
      → answer_entry (after_entries (Step.opened conf now bytes lengths) es) (Records.write_frame s buffer)
      ≡ Step.answer (after_entries (Step.opened conf now bytes lengths) es) (Call.next_message (take conf.limits.chunk (drop 9 buffer)))
  unfolding Does made
  asks_at es buffer h k =
      let st : State = after_entries (Step.opened conf now bytes lengths) es in
      let g : Good conf st = good_at conf now bytes lengths op es in
      let r : roomy conf buffer ≡ true = le-leb (room conf.limits) (length buffer) (omega arith) in
      (rw (framed, r, taken_all st buffer g) at (does conf (Records.write_frame s buffer) st g)).1

  -- of a stream that is open: it is told of by its End alone
  told_open : (es : List Entry) (x : Stream) → has_stream conf.limits x ≡ true
      → one x (ends_all (said conf now bytes lengths es) (no_ends conf.limits)) ≡ any (is_end x) (said conf now bytes lengths es)
  told_open es x o = told_ends conf now bytes lengths op es x ∙ rw o refl

  ends_at : (es : List Entry) (x : Stream) → has_stream conf.limits x ≡ true → AllOf (Lone s) es
      → count (is_ended x) (heard_of conf now bytes lengths s es) ≡ once (any (is_end x) (said conf now bytes lengths es))
  ends_at es x o l =
      let ms : List Message = said conf now bytes lengths es in
      let none : one x (no_ends conf.limits) ≡ false = told_open [] x o in
      let z = ends_told x ms (no_ends conf.limits) (told_once conf now bytes lengths op es) in
      ap (count (is_ended x)) (follows es l) ∙ omega (arith, z, ap once none) ∙ ap once (told_open es x o)

  seen_by : (b : Bool) → 1 ≤ once b → b ≡ true
  seen_by true h = refl
  seen_by false h = absurd (omega arith)

  resets_at : (es : List Entry) (x : Stream) → has_stream conf.limits x ≡ true → AllOf (Lone s) es
      → count (is_reset x) (heard_of conf now bytes lengths s es)
      ≡ once (any terminal_message (said conf now bytes lengths es) && not (any (is_end x) (said conf now bytes lengths es)))
  resets_at es x o l =
      let ms : List Message = said conf now bytes lengths es in
      ap (count (is_reset x)) (follows es l)
      ∙ resets_told x ms (no_ends conf.limits) (from_open conf now bytes lengths op es).1.final
      ∙ ap (λ (b : Bool). once (any terminal_message ms && not b)) (told_open es x o)

  over_at : (es : List Entry) (x : Stream) → has_stream conf.limits x ≡ true → AllOf (Lone s) es → any terminal_message (said conf now bytes lengths es) ≡ true
      → count (is_ended x) (heard_of conf now bytes lengths s es) + count (is_reset x) (heard_of conf now bytes lengths s es) ≡ 1
  over_at es x o l t = let a = ends_at es x o l in let b = resets_at es x o l in let c = by (any (is_end x) (said conf now bytes lengths es)) t in omega arith
    where
      by : (b : Bool) → any terminal_message (said conf now bytes lengths es) ≡ true → once b + once (any terminal_message (said conf now bytes lengths es) && not b) ≡ 1
      by true t = rw t refl
      by false t = rw t refl

  mute_at : (es ds : List Entry) (x : Stream) → has_stream conf.limits x ≡ true → AllOf (Lone s) (es ++ ds) → count (is_ended x) (heard_of conf now bytes lengths s es) ≡ 1
      → count (is_on x) (heard_of conf now bytes lengths s (es ++ ds)) ≡ count (is_on x) (heard_of conf now bytes lengths s es)
  mute_at es ds x o l n =
      let k : AllOf (Lone s) es = all_front (Lone s) es ds l in
      let st : State = Step.opened conf now bytes lengths in
      let ms : List Message = said conf now bytes lengths es in
      let ns : List Message = said_from (after_entries st es) ds in
      let e : any (is_end x) ms ≡ true = once_true _ (sym (ends_at es x o k) ∙ n) in
      let z = none_on x ns (ends_all ms (no_ends conf.limits)) (told_open es x o ∙ e) ((ordered conf now bytes lengths op).ended es ds x e) in
      ap (count (is_on x)) (follows (es ++ ds) l ∙ ap (told_by speaks (no_ends conf.limits)) (said_append es ds st) ∙ told_append speaks (no_ends conf.limits) ms ns)
      ∙ count_append (is_on x) (told_by speaks (no_ends conf.limits) ms) (told_by speaks (ends_all ms (no_ends conf.limits)) ns)
      ∙ omega (arith, z)
      ∙ ap (count (is_on x)) (sym (follows es k))

  -- WHAT THE PEER KNOWS
  pub known : Peer conf now bytes lengths s
  known = record {
    follows = follows;
    asks = asks_at;
    unread = λ es l. ap (count is_unread) (follows es l) ∙ none_told speaks is_unread unread_none (no_ends conf.limits) (said conf now bytes lengths es);
    sent = λ es x l. has_sent conf now bytes lengths op speaks bytes_in bytes_told es _ (follows es l) x;
    front = λ es x l. has_front conf now bytes lengths op speaks bytes_in bytes_told es _ (follows es l) x;
    windows = λ es l. ap (joined units_in) (follows es l) ∙ joined_told speaks units_in credit_in units_told (no_ends conf.limits) (said conf now bytes lengths es);
    ends = ends_at;
    seen = λ es x o l n. seen_by (any (is_end x) (said conf now bytes lengths es)) (omega (arith, n, ends_at es x o l));
    mute = mute_at;
    resets = resets_at;
    unbroken = λ es x o l t. resets_at es x o l ∙ rw t refl;
    over = over_at;
    last = λ es e ds t. silent_wire on_wire unwired ds _ ((whole conf now bytes lengths op).once es e ds t);
    whole = λ es e o x l a u. has_whole conf now bytes lengths op speaks bytes_in bytes_told es _ (follows es l) x e o a u;
  }
