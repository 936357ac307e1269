-- A record that is written, at the peer: it is heard as what is to be heard of the message that was told.
use Rattle.runner.specs.State.{outputs_of}
use Rattle.std.specs.Prelude.{Option, Some, None, Ok}
use mathlib.Core.Bool.{Bool, true, false, cond, false≢true}
use mathlib.Core.Path.{◌≡◌, refl, sym, ap, ◌∙◌, subst⁻¹}
use mathlib.Core.List.{List, [], ◌∷◌, ◌++◌, append-nil}
use Prim.Native.Nat.{ℕ, ◌+◌, ◌-◌, ◌^◌, ◌≤◌, ◌<◌}
use native.Mathlib.Omega.{arith}
use lib.Dec.{eqb}
use lib.IntN.{negsuc}
use lib.ListN.{length, take, drop, get_or, length-append}
use lib.Seq.{take_at}
use borrow.Author.Tests.{leb-true, eq-eqb, ne_eqb, eqb-true}
use Rattle.exec.specs.declared.Limits.{Limits}
use Rattle.exec.specs.declared.Status.{Status}
use Rattle.exec.specs.declared.Status.TheVariants.{Exited}
use Rattle.exec.specs.declared.Stream.{Stream}
use Rattle.exec.specs.declared.Stream.TheVariants.{Stdout, Stderr, Notes}
use Rattle.exec.specs.declared.Unit as Units
use Rattle.exec.specs.declared.Unit.TheVariants as Unit
use Rattle.exec.specs.Each.{Each, on_one, every}
use Rattle.octets.specs.Bytes.{number_at}
use Rattle.inbox.specs.Need.{byte_need}
use Rattle.choice.specs.declared.Choice.{Choice}
use Rattle.input.specs.declared.Input.{Input}
use Rattle.runner.specs.declared.runner.Runner.{Runner}
use Rattle.runner.specs.Calls as Calls
use Rattle.runner.specs.Life.{outcome_of}
use Rattle.runner.specs.Message.{choose, payload, said_for, buffer_after}
use Rattle.runner.specs.MessageLaws.{Sendable, is_sendable, payload_length}
use Rattle.runner.specs.Range.{stop, bytes_do}
use Rattle.runner.specs.RangeLaws as RangeLaws
use Rattle.runner.specs.RangeLaws.{is_good_lem}
use Rattle.codec.specs.declared.Record.{Record}
use Rattle.codec.specs.Codec as Codec
use Rattle.codec.specs.Codec.{start, size, Fits, laid_record}
use Rattle.codec.specs.CodecLaws.{Holds, start_least}
use Rattle.codec.proofs.RoundTrip.{read_is}
use Rattle.codec.specs.RoundTrip.{payload_back, laid_front}
use Rattle.codec.proofs.RoundTrip.{laid_reads}
use Rattle.exits.specs.Exit as Exits
use Rattle.exits.specs.Exit.{request, is_told, is_untold, ending}
use Rattle.exits.specs.RoundTrip.{Tells, forth}
use Rattle.exits.proofs.Ended.{ended_reads}
use Rattle.carrier.specs.Carrier.{WriteAfter, part_back, asked, wrote, wrote_buffer, told, Carriage}
use Rattle.carrier.specs.CarrierLaws.{part_in, part_reaches}
use Rattle.carrier.specs.Writes.{Writes, taken, tells, writes}
use Rattle.channel.specs.Calls.{write_record, sent_as, sent_buffer, last_end, laying, is_left, carriage}
use Rattle.channel.proofs.Ended.{pays}
use Rattle.calls.specs.Call as Call
use Rattle.calls.specs.Call.{Answer}
use Rattle.account.specs.Step.{State}
use Rattle.account.specs.Records as Records
use Rattle.account.specs.Records.{answers, answer_entry}
use Rattle.account.proofs.Plain as Plain
use Rattle.account.proofs.Plain.{said}
use Rattle.account.proofs.Demand.{Fine, goes, answer_same}
use Rattle.account.proofs.Lives.{conf_of}
use Rattle.account.proofs.Sides.{last_of}
use Rattle.account.proofs.InputRange.{HeldIn}
use Rattle.account.proofs.EachRecord.{Does}
use Rattle.account.proofs.EachWrite.{told_does}
use Rattle.wire.specs.Messages.{said_in}
use Rattle.wire.specs.Heard.{written, told_by}
use Rattle.wire.specs.Channel.{packet, packets, on_wire, Heard, Window, Bytes, Eof, Exit, Close, hear, heard, exit_of, speaks}
use Rattle.wire.specs.Claim.{OfChannel}
use Rattle.std.proofs.lemmas.List.{map-append}
use Rattle.wire.proofs.Ends.{Muted, ends}

-- ---- one record

some_packet : (b : List ℕ) → 0 < length b → packet b ≡ b ∷ []
some_packet b h = rw (ne_eqb (length b) 0 (λ (e : length b ≡ 0). omega (arith, h, e))) refl

-- what it is heard as
abbrev as_heard : Record → (bytes : List ℕ) → Heard
as_heard (Record.Adjust units) b = Window units
as_heard (Record.Data n) b = Bytes Stdout (drop 9 b)
as_heard (Record.Extended n) b = Bytes Stderr (drop 13 b)
as_heard (Record.Notes n) b = Bytes Notes (drop 13 b)
as_heard Record.Eof b = Eof
as_heard Record.Close b = Close

module _ (channel : ℕ) where
  mine : {rec : Record} (b : List ℕ) → Holds channel b rec → eqb (number_at b 1) channel ≡ true
  mine b h = eq-eqb (number_at b 1) channel h.mine

  by_kind : (rec : Record) (b : List ℕ) → Codec.read channel b ≡ Ok rec → Holds channel b rec → hear channel b ≡ as_heard rec b
  by_kind (Record.Adjust units) b e h = rw (h.kind.0, e, h.kind.0, mine b h, h.kind.1) refl
  by_kind (Record.Data n) b e h = rw (h.kind.0, e, h.kind.0, mine b h, eq-eqb (number_at b 5) (length b - 9) (omega (arith, h.whole, h.kind.1))) refl
  by_kind (Record.Extended n) b e h =
      rw (h.kind.0, e, h.kind.0, mine b h, h.typed, eq-eqb (number_at b 9) (length b - 13) (omega (arith, h.whole, h.kind.1))) refl
  by_kind (Record.Notes n) b e h =
      rw (h.kind.0, e, h.kind.0, mine b h, eqb-true (number_at b 5) 4261412864 h.typed, eq-eqb (number_at b 9) (length b - 13) (omega (arith, h.whole, h.kind.1))) refl
  by_kind _ b e h = rw (h.kind, e, h.kind, mine b h) refl

  record_heard : (rec : Record) (b : List ℕ) → Codec.read channel b ≡ Ok rec → heard channel (packet b) ≡ as_heard rec b ∷ []
  record_heard rec b e =
      let h : Holds channel b rec = read_is channel b rec e in
      ap (heard channel) (some_packet b (omega (arith, h.whole, start_least rec))) ∙ ap (λ (x : Heard). x ∷ []) (by_kind rec b e h)

  -- a request begins with 98
  first_98 : (x : Status) → is_told x ≡ true → (get_or (request channel x) 0 0 ≡ 98) × (0 < length (request channel x))
  unfolding request is_told
  first_98 (Exited (negsuc n)) t = absurd (false≢true t)
  first_98 _ t = (refl, omega arith)

  request_heard : (x : Status) (b : List ℕ) → Exits.read channel b ≡ Ok x → heard channel (packet b) ≡ Exit x ∷ []
  request_heard x b e =
      let q = forth channel b x e in
      let f = first_98 x q.1 in
      ap (heard channel) (some_packet b (subst⁻¹ (λ (s : List ℕ). 0 < length s) (sym q.0) f.1))
      ∙ rw (ap (λ (s : List ℕ). get_or s 0 0) (sym q.0) ∙ f.0, e) refl

  -- what stands before CLOSE, and CLOSE
  exit_heard : (x : Option Status) (b : List ℕ) → Tells channel x b → heard channel (packet b) ≡ exit_of x
  exit_heard None b e = rw e refl
  exit_heard (Some s) b e = request_heard s b e

  module _ (known : channel < 2 ^ 32) where
    ending_heard : (x : Option Status) (rest : List ℕ) → is_untold x ≡ false
        → heard channel (packet (take (length (ending channel x) - 5) (ending channel x ++ rest)) ++ packet (take 5 (drop (length (ending channel x) - 5) (ending channel x ++ rest))))
        ≡ (exit_of x ++ (Close ∷ [])) ++ []
    ending_heard x rest u =
        let q = ended_reads channel x rest known u in
        map-append (hear channel) (packet (take (length (ending channel x) - 5) (ending channel x ++ rest))) _
        ∙ ap (λ (hs : List Heard). hs ++ heard channel (packet (take 5 (drop (length (ending channel x) - 5) (ending channel x ++ rest))))) (exit_heard x _ q.0)
        ∙ ap (λ (hs : List Heard). exit_of x ++ hs) (record_heard Record.Close _ q.1)
        ∙ sym (append-nil (exit_of x ++ (Close ∷ [])))

    laid_heard : (rec : Record) (b : List ℕ) → 13 + size rec ≤ length b → Fits rec
        → heard channel (packet (take (start rec + size rec) (laid_record channel rec b))) ≡ as_heard rec (take (start rec + size rec) (laid_record channel rec b)) ∷ []
    laid_heard rec b space fits = record_heard rec _ (laid_reads channel rec b space known fits)

    -- the payload is the one that was put into the part
    payload_heard : (rec : Record) (k : ℕ) (buffer pay part : List ℕ) → 13 ≤ length buffer → length pay ≡ size rec
        → drop (start rec) (take (start rec + size rec) (laid_record channel rec (part_back 13 k buffer (pay ++ drop (size rec) part)))) ≡ pay
    payload_heard rec k buffer pay part h l =
        let m : size rec ≤ length (pay ++ drop (size rec) part) = simp length-append (omega (arith, l)) in
        let b : List ℕ = part_back 13 k buffer (pay ++ drop (size rec) part) in
        ap (drop (start rec)) (laid_front channel rec b (part_reaches 13 k buffer (pay ++ drop (size rec) part) (size rec) h m))
        ∙ payload_back channel rec (take (size rec) (drop 13 b))
        ∙ part_in 13 k buffer (pay ++ drop (size rec) part) (size rec) h m
        ∙ take_at pay (drop (size rec) part) (size rec) l

    output_heard : (rec : Record) (k : ℕ) (buffer pay part : List ℕ) → 13 ≤ length buffer → length pay ≡ size rec → Fits rec
        → (f : List ℕ → Heard) → ((b : List ℕ) → as_heard rec b ≡ f (drop (start rec) b))
        → heard channel (packet (take (start rec + size rec) (laid_record channel rec (part_back 13 k buffer (pay ++ drop (size rec) part))))) ≡ f pay ∷ []
    output_heard rec k buffer pay part h l fits f g =
        let p : List ℕ = pay ++ drop (size rec) part in
        laid_heard rec (part_back 13 k buffer p) (part_reaches 13 k buffer p (size rec) h (simp length-append (omega (arith, l)))) fits
        ∙ ap (λ (x : Heard). x ∷ []) (g _ ∙ ap f (payload_heard rec k buffer pay part h l))

    -- A MESSAGE THAT IS WRITTEN IS WHAT THE PEER HEARS
    choice_heard : (m : Choice) (r : Runner) (store part buffer : List ℕ) (k : ℕ) (ended : Stream → Bool) (e : Each Bool) → 13 ≤ length buffer → r.input.window.returnable < 2 ^ 32
        → ((x : Stream) (n : ℕ) → Choice.Output x n ≡ m → (length (payload r x n store) ≡ n) × (n < 2 ^ 32))
        → ((x : Stream) → Choice.End x ≡ m → ended x ≡ every (on_one x (λ (b : Bool). true) e))
        → is_left (said_for m r) ≡ false
        → heard channel (written packets (wrote (laying channel ended) (said_for m r)) (wrote_buffer (laying channel ended) (said_for m r) (part_back 13 k buffer (buffer_after m r store part))))
        ≡ told_by speaks e (said_in (said m r store))
    unfolding said_for buffer_after wrote wrote_buffer sent_as sent_buffer is_left said
    choice_heard Choice.Credit r store part buffer k ended e h small l last u =
        laid_heard (Record.Adjust r.input.window.returnable) (part_back 13 k buffer part) (part_reaches 13 k buffer part 0 h (omega arith)) small
    choice_heard (Choice.End x) r store part buffer k ended e h small l last u = by (ended x) refl
      where
        by : (b : Bool) → ended x ≡ b
            → heard channel (written packets (wrote (laying channel ended) (said_for (Choice.End x) r)) (wrote_buffer (laying channel ended) (said_for (Choice.End x) r) (part_back 13 k buffer part)))
            ≡ told_by speaks e (said_in (said (Choice.End x) r store))
        by false q = rw q (ap (λ (b : Bool). cond b (Eof ∷ []) [] ++ []) (sym q ∙ last x refl))
        by true q =
            rw q (laid_heard Record.Eof (part_back 13 k buffer part) (part_reaches 13 k buffer part 0 h (omega arith)) (omega arith)
            ∙ ap (λ (b : Bool). cond b (Eof ∷ []) [] ++ []) (sym q ∙ last x refl))
    choice_heard (Choice.Output Stdout n) r store part buffer k ended e h small l last u =
        output_heard (Record.Data n) k buffer (payload r Stdout n store) part h (l Stdout n refl).0 (l Stdout n refl).1 (Bytes Stdout) (λ b. refl)
    choice_heard (Choice.Output Stderr n) r store part buffer k ended e h small l last u =
        output_heard (Record.Extended n) k buffer (payload r Stderr n store) part h (l Stderr n refl).0 (l Stderr n refl).1 (Bytes Stderr) (λ b. refl)
    choice_heard (Choice.Output Notes n) r store part buffer k ended e h small l last u =
        output_heard (Record.Notes n) k buffer (payload r Notes n store) part h (l Notes n refl).0 (l Notes n refl).1 (Bytes Notes) (λ b. refl)
    choice_heard Choice.Terminal r store part buffer k ended e h small l last u = ending_heard (outcome_of r).status _ u
    choice_heard _ r store part buffer k ended e h small l last u = refl

-- ---- at a state that came from open

returnable_most : (u : Units.Unit) (l : Limits) (lengths : List ℕ) (i : Input) → HeldIn u l lengths i → i.window.returnable ≤ l.input.size
returnable_most Unit.Bytes l lengths i h = let z = h.0 in omega arith
returnable_most Unit.Frames l lengths i h = let z = h.0 in omega arith

module _ (s : State) (f : Fine s) (v : Muted s.runner) (channel : ℕ) (o : OfChannel (conf_of s.runner) channel) (buffer : List ℕ) where
  good : stop s.runner (bytes_do s.runner.limits s.bytes) ≡ Ok tt
  unfolding Plain.enough
  good = goes s (Call.next_message []) f

  abbrev part : List ℕ
  part = take s.runner.limits.chunk (drop 13 buffer)

  small : s.runner.input.window.returnable < 2 ^ 32
  small =
      let z = returnable_most s.runner.limits.input.unit s.runner.limits s.lengths s.runner.input f.sound.ranged.2.0 in
      let k = o.input in omega arith

  -- what an Output carries fits a chunk
  fitting : (x : Stream) (n : ℕ) → Choice.Output x n ≡ choose s.runner (length part) → (length (payload s.runner x n s.bytes) ≡ n) × (n < 2 ^ 32)
  fitting x n e =
      let g : RangeLaws.Good s.runner (bytes_do s.runner.limits s.bytes) = is_good_lem s.runner (bytes_do s.runner.limits s.bytes) good in
      let b : Sendable s.runner x n s.bytes part = is_sendable s.runner x n s.bytes part g.range (leb-true (byte_need s.runner.limits) (length s.bytes) g.stores_do) e in
      let most = b.queued in let within = b.queue.most in let k = o.chunk in
      (payload_length s.runner s.bytes part x n good e, omega arith)

  k : Carriage
  k = carriage s.runner channel s.bytes buffer

  spoken : 13 ≤ length buffer → answers (tells k s.runner s.bytes buffer) ≡ said (choose s.runner (length part)) s.runner s.bytes
  unfolding Does Plain.answer k
  spoken h = (told_does s (Records.write_record channel buffer) k buffer (pays channel (last_end (outputs_of s.runner))) good h).1 ∙ answer_same s (Call.next_message part) f

  written_heard : (met : Bool) (w : WriteAfter) → Writes k s.runner s.bytes buffer met w
      → heard channel (written packets w.writing.answer w.buffer) ≡ told_by speaks (ends s.runner) (said_in (answers w))
  unfolding told asked Calls.next_message k
  written_heard met w (taken u h) =
      rw good (choice_heard channel o.number (choose s.runner (length part)) s.runner s.bytes part buffer s.runner.limits.chunk (last_end (outputs_of s.runner)) (ends s.runner) (omega (arith, h)) small fitting
      (λ x c. last_of x (ends s.runner)) (rw good at u))
      ∙ ap (λ (a : Answer). told_by speaks (ends s.runner) (said_in a)) (sym (spoken (omega (arith, h))))
  written_heard met w _ = refl

  -- A RECORD THAT IS WRITTEN IS HEARD AS ITS MESSAGE
  pub record_told : heard channel (on_wire s (Records.write_record channel buffer)) ≡ told_by speaks (ends s.runner) (said_in (answer_entry s (Records.write_record channel buffer)))
  unfolding on_wire answer_entry write_record k
  record_told = written_heard _ _ (writes k s.runner s.bytes buffer good)
