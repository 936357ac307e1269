-- An ending is at most 43 bytes, and is read as what was written: the request, then CLOSE.
use Rattle.std.specs.Prelude.{false, List, [], ◌++◌, ◌≡◌, refl, ℕ, ◌-◌, ◌^◌, ◌<◌, length, take, drop, ◌≤◌, ℤ, pos, negsuc, Option, Some, None, Ok}
use Rattle.std.proofs.lemmas.Bool.{not-false}
use Rattle.std.proofs.Common.{append_assoc, arith, take_at, drop_at, length-append}
use Rattle.std.proofs.Math.Path.{subst⁻¹}
use Rattle.std.specs.Option.{unwrap_or}
use Rattle.codec.specs.declared.Record.TheVariants.{Close}
use Rattle.codec.specs.Codec as Codec
use Rattle.codec.specs.Codec.{bytes_of, header}
use Rattle.codec.proofs.RoundTrip as Records
use Rattle.exits.specs.ExitLaws.{ending_length}
use Rattle.exits.specs.Exit.{is_told, is_untold, request_of, ending, named, request}
use Rattle.exits.specs.RoundTrip.{Tells, back}
use Rattle.exec.specs.declared.Status.{Status}
use Rattle.exec.specs.declared.Status.TheVariants.{Exited, Signaled}
use Rattle.octets.specs.Text.{bytes}
use Rattle.exits.specs.Signals.{name_of}
use Rattle.exits.specs.SignalLaws.{name_most}

-- a request has at most 38 bytes, an ending 43
named_bound : (channel : ℕ) (n : ℤ) (o : Option (List ℕ)) → name_of n ≡ o → length (named channel (unwrap_or o [])) ≤ 38
unfolding bytes
named_bound channel n None e = omega arith
named_bound channel n (Some name) e = simp length-append (omega (arith, name_most n name e))

pub request_bound : (channel : ℕ) (status : Status) → length (request channel status) ≤ 38
unfolding request bytes
request_bound channel (Exited (pos code)) = omega arith
request_bound channel (Exited (negsuc n)) = omega arith
request_bound channel (Signaled n) = named_bound channel n (name_of n) refl

pub ending_bound : (channel : ℕ) (status : Option Status) → length (ending channel status) ≤ 43
ending_bound channel None = omega (arith, ending_length channel None)
ending_bound channel (Some status) = omega (arith, ending_length channel (Some status), request_bound channel status)

tells : (channel : ℕ) (status : Option Status) → channel < 2 ^ 32 → is_untold status ≡ false → Tells channel status (request_of channel status)
unfolding is_untold
tells channel None h t = refl
tells channel (Some status) h t = back channel status h (not-false (is_told status) t)

close_reads : (channel : ℕ) → channel < 2 ^ 32 → Codec.read channel (bytes_of channel Close []) ≡ Ok Close
close_reads channel h = Records.back channel Close [] h (omega arith) refl

five : (channel : ℕ) (rest : List ℕ) → take 5 (bytes_of channel Close [] ++ rest) ≡ bytes_of channel Close []
unfolding bytes_of header
five channel rest = refl

joined : (channel : ℕ) (status : Option Status) (rest : List ℕ) → ending channel status ++ rest ≡ request_of channel status ++ (bytes_of channel Close [] ++ rest)
unfolding ending
joined channel status rest = append_assoc (request_of channel status) (bytes_of channel Close []) rest

-- AN ENDING IS READ AS WHAT WAS WRITTEN, whatever stands behind it in the buffer
pub ended_reads : (channel : ℕ) (status : Option Status) (rest : List ℕ) → channel < 2 ^ 32 → is_untold status ≡ false
    → Tells channel status (take (length (ending channel status) - 5) (ending channel status ++ rest))
    × (Codec.read channel (take 5 (drop (length (ending channel status) - 5) (ending channel status ++ rest))) ≡ Ok Close)
ended_reads channel status rest h t =
    let q : List ℕ = request_of channel status in
    let c : List ℕ = bytes_of channel Close [] in
    let cut : length (ending channel status) - 5 ≡ length q = omega (arith, ending_length channel status) in
    let all : ending channel status ++ rest ≡ q ++ (c ++ rest) = joined channel status rest in (
      subst⁻¹ (Tells channel status) (rw (cut, all) (take_at q (c ++ rest) (length q) refl)) (tells channel status h t),
      rw (cut, all, drop_at q (c ++ rest) (length q) refl, five channel rest) (close_reads channel h),
    )
