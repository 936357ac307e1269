-- Writer and reader undo each other; and what is to be read of an ending (`proofs/Ended`: it is).
use Rattle.std.specs.Prelude.{◌&&◌, Bool, true, false, cond, List, [], ◌∷◌, ◌++◌, ◌≡◌, refl, ℕ, ◌+◌, ◌-◌, ◌^◌, ◌<◌, eqb, ltb, ℤ, pos, negsuc, length, take, get_or, Option, Result, Some, None, is_some, Ok, Err}
use Rattle.std.specs.Option.{option_map, unwrap_or}
use Rattle.std.proofs.lemmas.Bool.{false≢true}
use Rattle.std.proofs.Math.Bool.{or-true}
use Rattle.std.proofs.Common.{ap, ◌∙◌, subst, arith, length-append, take_at, eq-eqb, ne_eqb, ltb-true}
use Rattle.exec.specs.declared.Refusal.{Refusal}
use Rattle.exec.specs.declared.Refusal.TheVariants.{BadRequest}
use Rattle.exec.specs.declared.Status.{Status}
use Rattle.exec.specs.declared.Status.TheVariants.{Exited, Signaled}
use Rattle.ring.specs.Flags.{and_r}
use Rattle.octets.specs.Bytes.{be32, number_at}
use Rattle.octets.specs.BytesLaws.{number_written}
use Rattle.octets.specs.Text.{bytes, same, same_refl, same_is}
use Rattle.exits.specs.Signals.{name_of, number_of}
use Rattle.exits.specs.SignalLaws.{name_number, number_name}
use Rattle.exits.specs.Exit.{string, head, named, request, is_told, name_in, code_in, guess, matching, is_mine, read}

-- ---- read, then written

never : {P : Type 0} (x : Refusal) (y : Status) → ◌≡◌ {A = Result Status Refusal} (Err x) (Ok y) → P
never x y h = let z : ◌≡◌ {A = ℕ} 0 1 = cc in absurd (omega arith)

nothing : {P : Type 0} (y : Status) → ◌≡◌ {A = Option Status} None (Some y) → P
nothing y h = let z : ◌≡◌ {A = ℕ} 0 1 = cc in absurd (omega arith)

pick : {A : Type 0} (P : Type 0) (b : Bool) (x y z : A) → (b ≡ true → x ≡ z → P) → (b ≡ false → y ≡ z → P) → cond b x y ≡ z → P
pick P true x y z f g h = f refl h
pick P false x y z f g h = g refl h

-- what is guessed is told
code_told : (code : ℕ) (status : Status) → code_in code ≡ Some status → is_told status ≡ true
unfolding is_told
code_told code status =
    pick (is_told status ≡ true) (ltb code (2 ^ 31)) (Some (Exited (pos code))) None (Some status)
    (λ t h. (let e : Exited (pos code) ≡ status = cc in subst (λ (x : Status). is_told x ≡ true) e t))
    (λ _. nothing status)

name_told : (name : List ℕ) (status : Status) (o : Option ℤ) → number_of name ≡ o → option_map Signaled o ≡ Some status → is_told status ≡ true
unfolding is_told
name_told name status None e h = nothing status h
name_told name status (Some n) e h =
    let s : Signaled n ≡ status = cc in
    subst (λ (x : Status). is_told x ≡ true) s (ap is_some (number_name name n e))

pub guess_told : (s : List ℕ) (status : Status) → guess s ≡ Some status → is_told status ≡ true
unfolding guess
guess_told s status =
    pick (is_told status ≡ true) (eqb (length s) 25) _ _ (Some status) (λ _. code_told (number_at s 21) status)
    (λ _. name_told (name_in s) status (number_of (name_in s)) refl)

matched : (channel : ℕ) (s : List ℕ) (status : Status) (o : Option Status) → guess s ≡ o → matching channel s o ≡ Ok status
    → (request channel status ≡ s) × (is_told status ≡ true)
unfolding matching
matched channel s status None g h = never _ status h
matched channel s status (Some x) g h =
    let P = λ (y : Status). (request channel y ≡ s) × (is_told y ≡ true) in
    pick (P status) (is_told x && same (request channel x) s) (Ok x) (Err BadRequest) (Ok status)
    (λ t k. (let e : x ≡ status = cc in subst P e (same_is (request channel x) s (and_r (is_told x) (same (request channel x) s) t), guess_told s x g)))
    (λ _. never BadRequest status) h

-- WHAT IS READ AS A STATUS IS ITS REQUEST, and no other bytes are
pub forth : (channel : ℕ) (s : List ℕ) (status : Status) → read channel s ≡ Ok status → (request channel status ≡ s) × (is_told status ≡ true)
unfolding read
forth channel s status =
    let P = (request channel status ≡ s) × (is_told status ≡ true) in
    pick P (eqb (length s) 0) _ _ (Ok status) (λ _. never _ status)
    (λ _. pick P (eqb (get_or s 0 0) 98) _ _ (Ok status)
    (λ _. pick P (is_mine channel s) _ _ (Ok status) (λ _. matched channel s status (guess s) refl) (λ _. never _ status))
    (λ _. never _ status))

-- ---- written, then read

-- what is guessed of the request of a code: the code, where a status holds it
coded_in : (channel code : ℕ) → code < 2 ^ 32 → guess (request channel (Exited (pos code))) ≡ code_in code
unfolding guess request bytes
coded_in channel code h = ap code_in (number_written (head channel (bytes "exit-status")) [] code h)

coded : (channel code : ℕ) → ltb code (2 ^ 31) ≡ true → guess (request channel (Exited (pos code))) ≡ Some (Exited (pos code))
coded channel code t = let h = ltb-true code (2 ^ 31) t in coded_in channel code (omega arith) ∙ rw t refl

-- the name stands between byte 25 and the last 9
name_back : (channel : ℕ) (name : List ℕ) → name_in (named channel name) ≡ name
unfolding bytes
name_back channel name =
    let k : length (named channel name) - 34 ≡ length name = simp length-append (omega arith) in
    ap (λ (n : ℕ). take n (name ++ (0 ∷ string [] ++ string []))) k ∙ take_at name (0 ∷ string [] ++ string []) (length name) refl

longer : (channel : ℕ) (name : List ℕ) → eqb (length (named channel name)) 25 ≡ false
unfolding bytes
longer channel name =
    let l : length (named channel name) ≡ 34 + length name = simp length-append (omega arith) in
    ne_eqb (length (named channel name)) 25 (λ (e : length (named channel name) ≡ 25). omega (arith, l, e))

signalled : (channel : ℕ) (n : ℤ) (o : Option (List ℕ)) → name_of n ≡ o → is_some o ≡ true
    → guess (named channel (unwrap_or o [])) ≡ Some (Signaled n)
unfolding guess
signalled channel n None e t = absurd (false≢true t)
signalled channel n (Some name) e t =
    rw (longer channel name) (ap (option_map Signaled) (ap number_of (name_back channel name) ∙ name_number n name e))

guessed : (channel : ℕ) (status : Status) → is_told status ≡ true → guess (request channel status) ≡ Some status
unfolding is_told request
guessed channel (Exited (pos code)) t = coded channel code t
guessed channel (Exited (negsuc n)) t = absurd (false≢true t)
guessed channel (Signaled n) t = signalled channel n (name_of n) refl t

-- what every request of a status that is told begins with
named_front : (channel : ℕ) (o : Option (List ℕ)) → is_some o ≡ true
    → (rest : List ℕ) × (named channel (unwrap_or o []) ≡ 98 ∷ (be32 channel ++ rest))
named_front channel None t = absurd (false≢true t)
named_front channel (Some name) t = (_, refl)

front : (channel : ℕ) (status : Status) → is_told status ≡ true → (rest : List ℕ) × (request channel status ≡ 98 ∷ (be32 channel ++ rest))
unfolding is_told request
front channel (Exited (pos code)) t = (_, refl)
front channel (Exited (negsuc n)) t = absurd (false≢true t)
front channel (Signaled n) t = named_front channel (name_of n) t

-- THE REQUEST OF A STATUS THAT IS TOLD IS READ AS IT
pub back : (channel : ℕ) (status : Status) → channel < 2 ^ 32 → is_told status ≡ true → read channel (request channel status) ≡ Ok status
unfolding read matching
back channel status h t =
    let f = front channel status t in
    let l : length (request channel status) ≡ length (98 ∷ (be32 channel ++ f.0)) = ap length f.1 in
    let some : eqb (length (request channel status)) 0 ≡ false = ne_eqb (length (request channel status)) 0 (omega (arith, l)) in
    let kind : eqb (get_or (request channel status) 0 0) 98 ≡ true = rw f.1 refl in
    let mine : eqb (number_at (request channel status) 1) channel ≡ true = rw f.1 (eq-eqb (number_at (98 ∷ (be32 channel ++ f.0)) 1) channel (number_written (98 ∷ []) f.0 channel h)) in
    rw (some, kind, mine, or-true, guessed channel status t, t, same_refl (request channel status)) refl

-- ---- an ending, cut where its last 5 bytes begin

-- what stands before CLOSE tells the status, and nothing where it is missing
abbrev pub Tells : (channel : ℕ) → Option Status → List ℕ → Type 0
Tells channel None s = s ≡ []
Tells channel (Some status) s = read channel s ≡ Ok status
