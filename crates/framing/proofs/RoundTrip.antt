-- What is written reads back as the frame, and what is read is written back byte for byte, but for what a reader ignores.
use Rattle.std.specs.Prelude.{◌≡◌, refl, Bool, true, false, cond, List, [], ◌∷◌, ◌++◌, ℕ, zero, suc, ◌+◌, ◌-◌, ◌/◌, ◌%◌, ◌^◌, ◌≤◌, ◌<◌, eqb, leb, length, take, drop, get_or, Option, Some, None, Result, Ok, Err}
use Rattle.std.proofs.Common.{arith, sym, ap, ◌∙◌, subst, eq-eqb, ne_eqb, eqb-true, leb-true, le-leb, length-append, length-drop, drop-cons, drop_at, take_at, mod-eq_of_lt, mod-lt}
use Rattle.std.proofs.lemmas.Nat.{mod-mul-add}
use Rattle.std.proofs.lemmas.Bool.{false≢true}
use Rattle.ring.specs.Flags.{and_r}
use Rattle.exec.specs.declared.Refusal.{Refusal}
use Rattle.exec.specs.declared.Refusal.TheVariants.{BufferShort, BadFrame}
use Rattle.exec.specs.declared.Stream.{Stream}
use Rattle.exec.specs.declared.Stream.TheVariants.{Stdout, Stderr, Notes}
use Rattle.exec.specs.Written.{WrittenAfter, written_after}
use Rattle.octets.specs.Bytes.{be24, be24_at, be32, number_at}
use Rattle.octets.specs.BytesLaws.{number_written, peel, be24_written, be24_fits, peel24}
use Rattle.framing.specs.declared.Frame.{Frame}
use Rattle.framing.specs.declared.Frame.TheVariants.{Update, Data, Reset}
use Rattle.framing.specs.Framing.{is_stream, is_framed, id_of, head, named, flags_of, header, start, size, fits, bytes_of, is_whole, number31_at, stream_of, is_set, data_in, of_four, kinded, on_stream, read, is_writable, unwritable, put_frame, write, lay}
use Rattle.framing.specs.FramingLaws.{header_length, writable_framed, writable_stream, writable_fits}
use Rattle.framing.specs.RoundTrip.{with_bit, Bytes, Plain}

-- ---- a frame is read from any bytes that say it, whatever stands where RFC 9113 has it ignored

stream_most : (s : ℕ) → is_stream s ≡ true → s ≤ 2147483645
stream_most s h = leb-true s 2147483645 (and_r (leb 1 s) (leb s 2147483645) h)

id_fits : (s : ℕ) (x : Stream) → is_stream s ≡ true → id_of s x < 2 ^ 31
id_fits s Stdout h = omega (arith, stream_most s h)
id_fits s Stderr h = omega (arith, stream_most s h)
id_fits s Notes h = omega arith

without_bit : (bit : Bool) (n : ℕ) → n < 2 ^ 31 → (with_bit bit n < 2 ^ 32) × (with_bit bit n % 2147483648 ≡ n)
without_bit true n h = (omega arith, mod-mul-add 1 2147483648 n h)
without_bit false n h = (omega arith, mod-eq_of_lt h)

number31_written : (p t : List ℕ) (bit : Bool) (n : ℕ) → n < 2 ^ 31 → number31_at (p ++ (be32 (with_bit bit n) ++ t)) (length p) ≡ n
unfolding number31_at
number31_written p t bit n h =
    ap (λ (v : ℕ). v % 2147483648) (number_written p t (with_bit bit n) (without_bit bit n h).0) ∙ (without_bit bit n h).1

stream_of_id : (s : ℕ) (x : Stream) → is_framed x ≡ true → is_stream s ≡ true → stream_of s (id_of s x) ≡ Some x
unfolding stream_of
stream_of_id s Stdout f h = rw (h, eq-eqb s s refl) refl
stream_of_id s Stderr f h = rw (h, ne_eqb (s + 2) s (λ e. omega arith), eq-eqb (s + 2) (s + 2) refl) refl
stream_of_id s Notes f h = absurd (false≢true f)

-- for any flags, and any reserved bit before the stream
module _ (s : ℕ) (x : Stream) (bit : Bool) (flags : ℕ) (framed : is_framed x ≡ true) (stream : is_stream s ≡ true) where
  headed : (n kind : ℕ) (t : List ℕ) → n < 2 ^ 24 → length t ≡ n
      → read s (head n kind flags (with_bit bit (id_of s x)) ++ t) ≡ kinded (head n kind flags (with_bit bit (id_of s x)) ++ t) x
  unfolding read is_whole on_stream
  headed n kind t hn hl =
      let id = with_bit bit (id_of s x) in
      let b = head n kind flags id ++ t in
      let told : be24_at b 0 ≡ n = be24_written [] (kind ∷ flags ∷ (be32 id ++ t)) n hn in
      let whole : length b ≡ 9 + be24_at b 0 = omega (arith, told, hl) in
      let mine : number31_at b 5 ≡ id_of s x = number31_written (be24 n ++ (kind ∷ flags ∷ [])) t bit (id_of s x) (id_fits s x stream) in
      rw (eq-eqb (length b) (9 + be24_at b 0) whole, mine, stream_of_id s x framed stream) refl

  -- WINDOW_UPDATE: the bit before the units is ignored too
  pub update_read : (bit₂ : Bool) (units : ℕ) → units < 2 ^ 31
      → read s (head 4 8 flags (with_bit bit (id_of s x)) ++ be32 (with_bit bit₂ units)) ≡ Ok (Update x units)
  unfolding kinded of_four be24_at
  update_read bit₂ units h =
      headed 4 8 (be32 (with_bit bit₂ units)) (omega arith) refl
      ∙ ap (λ (n : ℕ). Ok (Update x n)) (number31_written (head 4 8 flags (with_bit bit (id_of s x))) [] bit₂ units h)

  -- RST_STREAM: the code is
  pub reset_read : (code : ℕ) → read s (head 4 3 flags (with_bit bit (id_of s x)) ++ be32 code) ≡ Ok (Reset x)
  unfolding kinded of_four be24_at
  reset_read code = headed 4 3 (be32 code) (omega arith) refl

  -- DATA: its flags END_STREAM and PADDED are not
  pub data_read : (payload : List ℕ) → length payload < 2 ^ 24 → is_set 8 flags ≡ false
      → read s (head (length payload) 0 flags (with_bit bit (id_of s x)) ++ payload) ≡ Ok (Data x (length payload) (is_set 1 flags))
  unfolding kinded data_in
  data_read payload h unpadded =
      headed (length payload) 0 payload h refl
      ∙ rw unpadded (ap (λ (n : ℕ). Ok (Data x n (is_set 1 flags))) (be24_written [] (0 ∷ flags ∷ (be32 (with_bit bit (id_of s x)) ++ payload)) (length payload) h))

-- ---- WRITTEN, THEN READ

nothing : (payload : List ℕ) → length payload ≡ 0 → payload ≡ []
nothing [] e = refl
nothing (b ∷ bs) e = absurd (omega arith)

flags_back : (ends : Bool) → (is_set 8 (flags_of ends) ≡ false) × (is_set 1 (flags_of ends) ≡ ends)
flags_back true = (refl, refl)
flags_back false = (refl, refl)

pub back : (s : ℕ) (f : Frame) (payload : List ℕ) → is_writable s f ≡ true → length payload ≡ size f → read s (bytes_of s f payload) ≡ Ok f
unfolding bytes_of header
back s (Update x units) payload w e =
    let fit : units < 2 ^ 31 = omega (arith, leb-true units 2147483647 (writable_fits s (Update x units) w)) in
    rw (nothing payload e) (update_read s x false 0 (writable_framed s (Update x units) w) (writable_stream s (Update x units) w) false units fit)
back s (Data x n ends) payload w e =
    let fit : n < 2 ^ 24 = omega (arith, leb-true n 16777215 (writable_fits s (Data x n ends) w)) in
    let flags = flags_back ends in
    rw (sym e) (data_read s x false (flags_of ends) (writable_framed s (Data x n ends) w) (writable_stream s (Data x n ends) w) payload (omega (arith, e)) flags.0)
    ∙ ap (λ (b : Bool). Ok (Data x n b)) flags.1
back s (Reset x) payload w e = rw (nothing payload e) (reset_read s x false 0 (writable_framed s (Reset x) w) (writable_stream s (Reset x) w) 8)

pub payload_back : (s : ℕ) (f : Frame) (payload : List ℕ) → drop (start f) (bytes_of s f payload) ≡ payload
unfolding bytes_of
payload_back s f payload = drop_at (header s f) payload (start f) (header_length s f)

pub long : (s : ℕ) (f : Frame) (payload : List ℕ) → length payload ≡ size f → length (bytes_of s f payload) ≡ start f + size f
unfolding bytes_of
long s f payload e = simp length-append (omega (arith, header_length s f))

-- what stands behind a frame leaves it as it is, and is left by it: two frames, one behind the other, are read one by one
pub first : (s : ℕ) (f : Frame) (payload rest : List ℕ) → is_writable s f ≡ true → length payload ≡ size f
    → (read s (take (start f + size f) (bytes_of s f payload ++ rest)) ≡ Ok f) × (drop (start f + size f) (bytes_of s f payload ++ rest) ≡ rest)
first s f payload rest w e =
    let l = long s f payload e in
    (ap (read s) (take_at (bytes_of s f payload) rest (start f + size f) l) ∙ back s f payload w e, drop_at (bytes_of s f payload) rest (start f + size f) l)

-- ---- what `write` and `lay` wrote

never : {X : Type 0} {P : Type 0} (x : Refusal) (y : X) → ◌≡◌ {A = Result X Refusal} (Err x) (Ok y) → P
never x y h = let z : ◌≡◌ {A = ℕ} 0 1 = cc in absurd (omega arith)

-- what was so where n bytes were written
record Wrote (s : ℕ) (f : Frame) (payload b : List ℕ) (n : ℕ) (w : WrittenAfter) : Type 0 where
  told : n ≡ start f + size f
  sized : length payload ≡ size f
  writable : is_writable s f ≡ true
  front : take n w.buffer ≡ bytes_of s f payload

module _ (s : ℕ) (f : Frame) (payload b : List ℕ) (n : ℕ) where
  abbrev left : (room sized writable : Bool) → WrittenAfter
  left t u v =
      cond t
      (cond u
      (cond v (written_after (Ok (start f + size f)) (bytes_of s f payload ++ drop (start f + size f) b)) (written_after (Err (unwritable f)) b))
      (written_after (Err BadFrame) b))
      (written_after (Err BufferShort) b)

  by : (t u v : Bool) → eqb (length payload) (size f) ≡ u → is_writable s f ≡ v → (left t u v).answer ≡ Ok n → Wrote s f payload b n (left t u v)
  by true true true e w h =
      let sized : length payload ≡ size f = eqb-true _ _ e in
      let told : n ≡ start f + size f = cc in
      record {
        told = told;
        sized = sized;
        writable = w;
        front = rw told (take_at (bytes_of s f payload) (drop (start f + size f) b) (start f + size f) (long s f payload sized));
      }
  by true true false e w h = never (unwritable f) n h
  by true false v e w h = never BadFrame n h
  by false u v e w h = never BufferShort n h

  wrote : (write s f payload b).answer ≡ Ok n → Wrote s f payload b n (write s f payload b)
  unfolding write put_frame
  wrote = by (leb (start f + size f) (length b)) (eqb (length payload) (size f)) (is_writable s f) refl refl

module _ (s : ℕ) (f : Frame) (payload b : List ℕ) (n : ℕ) (h : (write s f payload b).answer ≡ Ok n) where
  -- the bytes written read back, and the last of them are the payload
  pub write_reads : read s (take n (write s f payload b).buffer) ≡ Ok f
  write_reads = let w = wrote s f payload b n h in ap (read s) w.front ∙ back s f payload w.writable w.sized

  pub write_payload : drop (n - size f) (take n (write s f payload b).buffer) ≡ payload
  write_payload =
      let w = wrote s f payload b n h in
      let at : n - size f ≡ start f = omega (arith, w.told) in
      rw (at, w.front) (payload_back s f payload)

-- so too of a payload that stood in the buffer
pub lay_reads : (s : ℕ) (f : Frame) (b : List ℕ) (n : ℕ) → (lay s f b).answer ≡ Ok n → read s (take n (lay s f b).buffer) ≡ Ok f
lay_reads s f b n h = write_reads s f (take (size f) (drop 9 b)) b n h

pub lay_payload : (s : ℕ) (f : Frame) (b : List ℕ) (n : ℕ) → (lay s f b).answer ≡ Ok n
    → drop (n - size f) (take n (lay s f b).buffer) ≡ take (size f) (drop 9 b)
lay_payload s f b n h = write_payload s f (take (size f) (drop 9 b)) b n h

-- ---- READ, THEN WRITTEN

-- what the bytes of a frame say
abbrev IsFrame : (s : ℕ) → List ℕ → Frame → Type 0
IsFrame s b (Update x units) = (get_or b 3 0 ≡ 8) × (be24_at b 0 ≡ 4) × (number31_at b 5 ≡ id_of s x) × (number31_at b 9 ≡ units)
IsFrame s b (Data x n ends) = (get_or b 3 0 ≡ 0) × (be24_at b 0 ≡ n) × (number31_at b 5 ≡ id_of s x) × (is_set 1 (get_or b 4 0) ≡ ends)
IsFrame s b (Reset x) = (get_or b 3 0 ≡ 3) × (be24_at b 0 ≡ 4) × (number31_at b 5 ≡ id_of s x)

pub record Says (s : ℕ) (b : List ℕ) (f : Frame) : Type 0 where
  pub whole : length b ≡ 9 + be24_at b 0
  pub frame : IsFrame s b f
  pub framed : is_framed (named f) ≡ true

-- a choice that came out as a frame that was read: by the test, or by its failing
pick : (P : Type 0) (b : Bool) (x y : Result Frame Refusal) (f : Frame) → (b ≡ true → x ≡ Ok f → P) → (b ≡ false → y ≡ Ok f → P) → cond b x y ≡ Ok f → P
pick P true x y f g h e = g refl e
pick P false x y f g h e = h refl e

found : (s : ℕ) (b : List ℕ) (g f : Frame) → Says s b g → ◌≡◌ {A = Result Frame Refusal} (Ok g) (Ok f) → Says s b f
found s b g f h e = let same : g ≡ f = cc in subst (λ (x : Frame). Says s b x) same h

kinded_is : (s : ℕ) (b : List ℕ) (x : Stream) (f : Frame) → length b ≡ 9 + be24_at b 0 → number31_at b 5 ≡ id_of s x → is_framed x ≡ true → kinded b x ≡ Ok f
    → Says s b f
unfolding kinded data_in of_four
kinded_is s b x f whole id framed =
    let P = Says s b f in
    let kind = get_or b 3 0 in
    let says : (g : Frame) → IsFrame s b g → is_framed (named g) ≡ true → ◌≡◌ {A = Result Frame Refusal} (Ok g) (Ok f) → P = λ g i h. found s b g f (record { whole = whole; frame = i; framed = h }) in
    pick P (eqb kind 0) _ _ f
    (λ k. pick P (is_set 8 (get_or b 4 0)) _ _ f (λ _. never _ f)
    (λ _. says (Data x (be24_at b 0) (is_set 1 (get_or b 4 0))) (eqb-true kind 0 k, refl, id, refl) framed))
    (λ _. pick P (eqb kind 3) _ _ f
    (λ k. pick P (eqb (be24_at b 0) 4) _ _ f (λ l. says (Reset x) (eqb-true kind 3 k, eqb-true _ 4 l, id) framed) (λ _. never _ f))
    (λ _. pick P (eqb kind 8) _ _ f
    (λ k. pick P (eqb (be24_at b 0) 4) _ _ f (λ l. says (Update x (number31_at b 9)) (eqb-true kind 8 k, eqb-true _ 4 l, id, refl) framed) (λ _. never _ f))
    (λ _. never _ f)))

-- a number read is that of a stream that frames have
stream_is : (s id : ℕ) (x : Stream) → stream_of s id ≡ Some x → (id ≡ id_of s x) × (is_framed x ≡ true)
unfolding stream_of
stream_is s id x = by (is_stream s) (eqb id s) (eqb id (s + 2)) x refl refl
  where
    by : (v t u : Bool) (x : Stream) → eqb id s ≡ t → eqb id (s + 2) ≡ u → cond v (cond t (Some Stdout) (cond u (Some Stderr) None)) None ≡ Some x
        → (id ≡ id_of s x) × (is_framed x ≡ true)
    by true true u x e g h = let same : Stdout ≡ x = cc in subst (λ (y : Stream). (id ≡ id_of s y) × (is_framed y ≡ true)) same (eqb-true id s e, refl)
    by true false true x e g h = let same : Stderr ≡ x = cc in subst (λ (y : Stream). (id ≡ id_of s y) × (is_framed y ≡ true)) same (eqb-true id (s + 2) g, refl)
    by true false false x e g h = let z : ◌≡◌ {A = ℕ} 0 1 = cc in absurd (omega arith)
    by false t u x e g h = let z : ◌≡◌ {A = ℕ} 0 1 = cc in absurd (omega arith)

pub read_is : (s : ℕ) (b : List ℕ) (f : Frame) → read s b ≡ Ok f → Says s b f
unfolding read is_whole on_stream
read_is s b f = pick (Says s b f) (eqb (length b) (9 + be24_at b 0)) _ _ f (λ l. by (stream_of s (number31_at b 5)) refl (eqb-true _ _ l)) (λ _. never _ f)
  where
    by : (o : Option Stream) → stream_of s (number31_at b 5) ≡ o → length b ≡ 9 + be24_at b 0 → on_stream b o ≡ Ok f → Says s b f
    by (Some x) e l h = let on = stream_is s (number31_at b 5) x e in kinded_is s b x f l on.0 on.1 h
    by None e l h = never _ f h

number31_is : (b : List ℕ) (at n : ℕ) → number_at b at < 2 ^ 31 → number31_at b at ≡ n → number_at b at ≡ n
unfolding number31_at
number31_is b at n h e = sym (mod-eq_of_lt h) ∙ e

-- the first nine bytes, of a whole frame whose stream has no bit before it
front_is : (s : ℕ) (b : List ℕ) (n kind flags id : ℕ) → Bytes b → length b ≡ 9 + be24_at b 0 → be24_at b 0 ≡ n → get_or b 3 0 ≡ kind
    → get_or b 4 0 ≡ flags → number_at b 5 ≡ id → head n kind flags id ++ drop 9 b ≡ b
front_is s b n kind flags id bytes whole hn hk hf hi =
    let three : drop 3 b ≡ get_or b 3 0 ∷ drop 4 b = drop-cons b 3 0 (omega arith) in
    let four : drop 4 b ≡ get_or b 4 0 ∷ drop 5 b = drop-cons b 4 0 (omega arith) in
    let five = peel b bytes 5 id (omega arith) hi in
    sym (peel24 b bytes 0 n (omega arith) hn ∙ ap (λ (t : List ℕ). be24 n ++ t) (cc (three, four, five, hk, hf)))

-- BYTE FOR BYTE, where the bytes are plain; and what was read meets what `back` asks
module _ (s : ℕ) (b : List ℕ) where
  again : (f : Frame) → Plain b f → Says s b f → bytes_of s f (drop (start f) b) ≡ b
  unfolding bytes_of header
  again (Update x units) p r =
      ap (λ (t : List ℕ). head 4 8 0 (id_of s x) ++ t) (sym (peel b p.bytes 9 units (omega (arith, r.whole, r.frame.1)) (number31_is b 9 units p.rest.1 r.frame.3)))
      ∙ front_is s b 4 8 0 (id_of s x) p.bytes r.whole r.frame.1 r.frame.0 p.rest.0 (number31_is b 5 (id_of s x) p.stream r.frame.2)
  again (Data x n ends) p r = front_is s b n 0 (flags_of ends) (id_of s x) p.bytes r.whole r.frame.1 r.frame.0 p.rest (number31_is b 5 (id_of s x) p.stream r.frame.2)
  again (Reset x) p r =
      ap (λ (t : List ℕ). head 4 3 0 (id_of s x) ++ t) (sym (peel b p.bytes 9 8 (omega (arith, r.whole, r.frame.1)) p.rest.1))
      ∙ front_is s b 4 3 0 (id_of s x) p.bytes r.whole r.frame.1 r.frame.0 p.rest.0 (number31_is b 5 (id_of s x) p.stream r.frame.2)

  sized : (f : Frame) → Says s b f → length (drop (start f) b) ≡ size f
  sized (Update x units) r = simp length-drop (omega (arith, r.whole, r.frame.1))
  sized (Data x n ends) r = simp length-drop (omega (arith, r.whole, r.frame.1))
  sized (Reset x) r = simp length-drop (omega (arith, r.whole, r.frame.1))

  fit : (f : Frame) → Bytes b → Says s b f → fits f ≡ true
  unfolding number31_at
  fit (Update x units) bytes r =
      let below : number_at b 9 % 2147483648 < 2147483648 = mod-lt (number_at b 9) (omega arith) in le-leb units 2147483647 (omega (arith, r.frame.3))
  fit (Data x n ends) bytes r = le-leb n 16777215 (omega (arith, r.frame.1, be24_fits b bytes 0))
  fit (Reset x) bytes r = refl

  pub forth : (f : Frame) → Plain b f → read s b ≡ Ok f → bytes_of s f (drop (start f) b) ≡ b
  forth f p e = again f p (read_is s b f e)

  pub forth_size : (f : Frame) → read s b ≡ Ok f → length (drop (start f) b) ≡ size f
  forth_size f e = sized f (read_is s b f e)

  pub forth_writable : (f : Frame) → Bytes b → is_stream s ≡ true → read s b ≡ Ok f → is_writable s f ≡ true
  unfolding is_writable
  forth_writable f bytes h e = let r = read_is s b f e in rw (r.framed, h) (fit f bytes r)

-- ---- what is written is plain, so `forth` is not said of nothing

low : (v : ℕ) → v % 256 < 256
low v = mod-lt v (omega arith)

four_bytes : (v : ℕ) (t : List ℕ) → Bytes t → Bytes (be32 v ++ t)
four_bytes v t h zero = low (v / 16777216)
four_bytes v t h (suc zero) = low (v / 65536)
four_bytes v t h (suc (suc zero)) = low (v / 256)
four_bytes v t h (suc (suc (suc zero))) = low v
four_bytes v t h (suc (suc (suc (suc i)))) = h i

head_bytes : (n kind flags id : ℕ) (t : List ℕ) → kind < 256 → flags < 256 → Bytes t → Bytes (head n kind flags id ++ t)
head_bytes n kind flags id t hk hf h zero = low (n / 65536)
head_bytes n kind flags id t hk hf h (suc zero) = low (n / 256)
head_bytes n kind flags id t hk hf h (suc (suc zero)) = low n
head_bytes n kind flags id t hk hf h (suc (suc (suc zero))) = hk
head_bytes n kind flags id t hk hf h (suc (suc (suc (suc zero)))) = hf
head_bytes n kind flags id t hk hf h (suc (suc (suc (suc (suc i))))) = four_bytes id t h i

flags_small : (ends : Bool) → flags_of ends < 256
flags_small true = omega arith
flags_small false = omega arith

pub plain : (s : ℕ) (f : Frame) (payload : List ℕ) → is_writable s f ≡ true → Bytes payload → Plain (bytes_of s f payload) f
unfolding bytes_of header
plain s (Update x units) payload w h =
    let fit : units < 2 ^ 31 = omega (arith, leb-true units 2147483647 (writable_fits s (Update x units) w)) in
    let id = id_fits s x (writable_stream s (Update x units) w) in
    record {
      bytes = head_bytes 4 8 0 (id_of s x) (be32 units ++ payload) (omega arith) (omega arith) (four_bytes units payload h);
      stream = rw (number_written (be24 4 ++ (8 ∷ 0 ∷ [])) (be32 units ++ payload) (id_of s x) (omega arith)) id;
      rest = (refl, rw (number_written (head 4 8 0 (id_of s x)) payload units (omega arith)) fit);
    }
plain s (Data x n ends) payload w h =
    let id = id_fits s x (writable_stream s (Data x n ends) w) in
    record {
      bytes = head_bytes n 0 (flags_of ends) (id_of s x) payload (omega arith) (flags_small ends) h;
      stream = rw (number_written (be24 n ++ (0 ∷ flags_of ends ∷ [])) payload (id_of s x) (omega arith)) id;
      rest = refl;
    }
plain s (Reset x) payload w h =
    let id = id_fits s x (writable_stream s (Reset x) w) in
    record {
      bytes = head_bytes 4 3 0 (id_of s x) (be32 8 ++ payload) (omega arith) (omega arith) (four_bytes 8 payload h);
      stream = rw (number_written (be24 4 ++ (3 ∷ 0 ∷ [])) (be32 8 ++ payload) (id_of s x) (omega arith)) id;
      rest = (refl, number_written (head 4 3 0 (id_of s x)) payload 8 (omega arith));
    }
