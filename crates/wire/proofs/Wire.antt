-- What a peer can know from the bytes of a channel.
use mathlib.Core.Bool.{true, false, not, ◌&&◌, ◌||◌}
use mathlib.Core.Path.{◌≡◌, refl, sym, ap, ◌∙◌, subst⁻¹}
use mathlib.Core.List.{List, [], ◌∷◌, ◌++◌, append-nil}
use Prim.Native.Nat.{ℕ, ◌+◌, ◌≤◌}
use native.Mathlib.Omega.{arith}
use lib.ListN.{length, take, drop}
use borrow.Author.Tests.{le-leb}
use Rattle.exec.specs.declared.Limits.{Limits}
use Rattle.exec.specs.declared.Outcome.{Outcome}
use Rattle.exec.specs.declared.Stream.{Stream}
use Rattle.exec.specs.Each.{one}
use Rattle.exec.specs.Limits.{has as has_stream}
use Rattle.exec.specs.Stream.{every_stream, every_stream_lem}
use Rattle.ring.specs.Flags.{and_l}
use Rattle.carrier.specs.Carrier.{is_bytes, room}
use Rattle.channel.specs.Calls as Channel
use Rattle.channel.specs.Calls.{is_channel}
use Rattle.frames.specs.Calls as Frames
use Rattle.frames.specs.Calls.{is_framed}
use Rattle.calls.specs.Call as Call
use Rattle.calls.specs.Call.{Conf, Call, Answer, Message}
use Rattle.account.specs.Step as Step
use Rattle.account.specs.Step.{State}
use Rattle.account.specs.Claim.{Opens, is_message}
use Rattle.account.specs.Records.{Entry, call, read_record, write_record, read_frame, write_frame, answer_entry, after_entries, is_untaken, roomy, made}
use Rattle.account.specs.TurnClaim.{carried_by}
use Rattle.account.proofs.EachRecord.{Does}
use Rattle.account.proofs.Records.{Good, does, good_at, whole}
use Rattle.account.proofs.Sides.{every_same}
use Rattle.wire.specs.Messages.{said_in, said_from, said, credit_in, is_end, any, no_ends}
use Rattle.wire.specs.Heard.{AllOf, joined, count, once, told_by}
use Rattle.wire.specs.Channel.{packets, on_wire, Heard, Close, bytes_in, units_in, is_eof, is_close, is_unread, hear, heard, exit_of, speaks}
use Rattle.wire.specs.Claim.{OfChannel, Lone, heard_of, Wire}
use Rattle.wire.proofs.Ends.{ends, ends_all}
use Rattle.wire.proofs.Order.{from_open, silent_at}
use Rattle.wire.proofs.Read.{record_told}
use Rattle.std.proofs.lemmas.List.{map-append}
use Rattle.wire.proofs.Follows.{joined_append, all_front, once_true, Hears, unheard, Steps, joined_told, none_told, none_carried, said_append, call_unsaid, read_unsaid, unmade_unsaid, unsent, silent_wire, told_ends, told_once, follows_so, has, has_sent, has_front, has_whole}
use Rattle.wire.proofs.Counts.{bytes_told, units_told, unread_none, closes_told, eofs_told}

-- ---- an entry

-- a channel's runner is none for frames
unframed : (l : Limits) (s : ℕ) → is_channel l ≡ true → is_framed l s ≡ false
unframed l s h =
    let t : l.shared ≡ true = and_l l.shared (is_bytes l.input.unit) (and_l (l.shared && is_bytes l.input.unit) (is_bytes l.output.unit) h) in
    rw t refl

module _ (conf : Conf) (channel : ℕ) (o : OfChannel conf channel) where
  steps : Steps speaks conf on_wire (heard channel) (Lone channel)
  unfolding on_wire answer_entry made
  steps (call c) s g v l = unheard speaks (heard channel) (ends s.runner) _ (call_unsaid c s g.fine l)
  steps (read_record now other b) s g v l = unheard speaks (heard channel) (ends s.runner) _ (read_unsaid (Channel.read_record s.runner now other b s.bytes s.lengths).reading.answer)
  steps (write_record other buffer) s g v l =
      subst⁻¹ (λ (n : ℕ). Hears (heard channel) (on_wire s (write_record n buffer)) (told_by speaks (ends s.runner) (said_in (answer_entry s (write_record n buffer))))) l (λ rest.
      map-append (hear channel) (on_wire s (write_record channel buffer)) rest
      ∙ ap (λ (hs : List Heard). hs ++ heard channel rest) (record_told s g.fine v channel (subst⁻¹ (λ (k : Conf). OfChannel k channel) g.same o) buffer))
  steps (read_frame now stream b) s g v l = unheard speaks (heard channel) (ends s.runner) _ (read_unsaid (Frames.read_frame s.runner now stream b s.bytes s.lengths).reading.answer)
  steps (write_frame stream buffer) s g v l =
      unheard speaks (heard channel) (ends s.runner) _ (unmade_unsaid conf (write_frame stream buffer) s g (rw (unframed conf.limits stream o.limits) refl))

-- ---- where nothing is said, nothing stands on the wire

unwired : (e : Entry) (s : State) → is_message (answer_entry s e) ≡ false → on_wire s e ≡ []
unfolding answer_entry on_wire
unwired (write_record channel buffer) s h =
    unsent packets (Channel.write_record s.runner channel s.bytes buffer).writing.answer (Channel.write_record s.runner channel s.bytes buffer).buffer h
unwired _ s h = refl

-- ---- the claim

module _ (conf : Conf) (now : ℕ) (bytes lengths : List ℕ) (channel : ℕ) (op : Opens conf now bytes lengths) (o : OfChannel conf channel) where
  follows : (es : List Entry) → AllOf (Lone channel) es → heard_of conf now bytes lengths channel es ≡ told_by speaks (no_ends conf.limits) (said conf now bytes lengths es)
  follows es l = follows_so conf now bytes lengths op speaks on_wire (heard channel) (Lone channel) refl (steps conf channel o) es l

  has_at : (es : List Entry) (x : Stream) → AllOf (Lone channel) es
      → joined (bytes_in x) (heard_of conf now bytes lengths channel es) ≡ joined (carried_by x) (said conf now bytes lengths es)
  has_at es x l = has conf now bytes lengths op speaks bytes_in bytes_told es _ (follows es l) x

  eofs_at : (es : List Entry) → AllOf (Lone channel) es
      → count is_eof (heard_of conf now bytes lengths channel es) ≡ once (every_stream (λ (x : Stream). not (has_stream conf.limits x) || any (is_end x) (said conf now bytes lengths es)))
  eofs_at es l =
      let ms : List Message = said conf now bytes lengths es in
      ap (count is_eof) (follows es l) ∙ (let z = eofs_told ms (no_ends conf.limits) (told_once conf now bytes lengths op es) in omega arith)
      ∙ ap once (every_same (λ (x : Stream). one x (ends_all ms (no_ends conf.limits))) (λ (x : Stream). not (has_stream conf.limits x) || any (is_end x) ms) (told_ends conf now bytes lengths op es))

  mute_at : (es ds : List Entry) (x : Stream) → AllOf (Lone channel) (es ++ ds) → count is_eof (heard_of conf now bytes lengths channel es) ≡ 1
      → joined (bytes_in x) (heard_of conf now bytes lengths channel (es ++ ds)) ≡ joined (bytes_in x) (heard_of conf now bytes lengths channel es)
  mute_at es ds x l n =
      let k : AllOf (Lone channel) es = all_front (Lone channel) es ds l in
      let s : State = Step.opened conf now bytes lengths in
      let ms : List Message = said conf now bytes lengths es in
      let ns : List Message = said_from (after_entries s es) ds in
      let e = every_stream_lem (λ (y : Stream). not (has_stream conf.limits y) || any (is_end y) ms) (once_true _ (sym (eofs_at es k) ∙ n)) x in
      has_at (es ++ ds) x l
      ∙ ap (joined (carried_by x)) (said_append es ds s)
      ∙ joined_append (carried_by x) ms ns
      ∙ ap (λ (b : List ℕ). joined (carried_by x) ms ++ b) (none_carried x ns (silent_at conf now bytes lengths op es ds x e))
      ∙ append-nil (joined (carried_by x) ms)
      ∙ sym (has_at es x k)

  exits_at : (es : List Entry) (buffer : List ℕ) (t : Outcome) → answer_entry (after_entries (Step.opened conf now bytes lengths) es) (write_record channel buffer) ≡ Call.Says (Call.Terminal t)
      → heard channel (on_wire (after_entries (Step.opened conf now bytes lengths) es) (write_record channel buffer)) ≡ exit_of t.status ++ (Close ∷ [])
  exits_at es buffer t e =
      let s : State = after_entries (Step.opened conf now bytes lengths) es in
      let g : Good conf s = good_at conf now bytes lengths op es in
      record_told s g.fine (from_open conf now bytes lengths op es).0.muted channel (subst⁻¹ (λ (k : Conf). OfChannel k channel) g.same o) buffer
      ∙ ap (λ (a : Answer). told_by speaks (ends s.runner) (said_in a)) e
      ∙ append-nil (exit_of t.status ++ (Close ∷ []))

  asks_at : (es : List Entry) (buffer : List ℕ) → conf.limits.chunk + 13 ≤ length buffer → 43 ≤ length buffer
      → is_untaken (answer_entry (after_entries (Step.opened conf now bytes lengths) es) (write_record channel buffer)) ≡ false
      → answer_entry (after_entries (Step.opened conf now bytes lengths) es) (write_record channel buffer) ≡ Step.answer (after_entries (Step.opened conf now bytes lengths) es) (Call.next_message (take conf.limits.chunk (drop 13 buffer)))
  unfolding Does made
  asks_at es buffer h k u =
      let r : roomy conf buffer ≡ true = le-leb (room conf.limits) (length buffer) (omega arith) in
      (rw (o.limits, r, u) at (does conf (write_record channel buffer) (after_entries (Step.opened conf now bytes lengths) es) (good_at conf now bytes lengths op es))).1

  -- WHAT THE PEER KNOWS
  pub wired : Wire conf now bytes lengths channel
  wired = record {
    follows = follows;
    asks = asks_at;
    unread = λ es l. ap (count is_unread) (follows es l) ∙ none_told speaks is_unread unread_none (no_ends conf.limits) (said conf now bytes lengths es);
    sent = λ es x l. has_sent conf now bytes lengths op speaks bytes_in bytes_told es _ (follows es l) x;
    front = λ es x l. has_front conf now bytes lengths op speaks bytes_in bytes_told es _ (follows es l) x;
    windows = λ es l. ap (joined units_in) (follows es l) ∙ joined_told speaks units_in credit_in units_told (no_ends conf.limits) (said conf now bytes lengths es);
    eofs = eofs_at;
    mute = mute_at;
    closes = λ es l. ap (count is_close) (follows es l) ∙ closes_told (no_ends conf.limits) (said conf now bytes lengths es) (from_open conf now bytes lengths op es).1.final;
    exits = exits_at;
    last = λ es e ds t. silent_wire on_wire unwired ds _ ((whole conf now bytes lengths op).once es e ds t);
    whole = λ es e t x l a u. has_whole conf now bytes lengths op speaks bytes_in bytes_told es _ (follows es l) x e t a u;
  }
