-- Where the payload stands that was written or laid. (`proofs/RoundTrip`: what is written reads back as the record, and what the reader
-- accepts is written back byte for byte.)
use Rattle.std.specs.Prelude.{◌≡◌, List, ◌++◌, ℕ, ◌+◌, ◌≤◌, length, drop}
use Rattle.std.proofs.Common.{arith, length-append, length-drop, length-take-le, drop_at}
use Rattle.std.proofs.Math.ListN.{take}
use Rattle.std.proofs.Math.Seq.{take_at}
use Rattle.codec.specs.declared.Record.{Record}
use Rattle.codec.specs.Codec.{header, start, size, bytes_of, laid_record}
use Rattle.codec.specs.CodecLaws.{header_length}

pub payload_back : (channel : ℕ) (rec : Record) (payload : List ℕ) → drop (start rec) (bytes_of channel rec payload) ≡ payload
unfolding bytes_of
payload_back channel rec payload = drop_at (header channel rec) payload (start rec) (header_length channel rec)

-- ---- a record that was laid

module _ (channel : ℕ) (rec : Record) (b : List ℕ) (room : 13 + size rec ≤ length b) where
  pub payload_length : length (take (size rec) (drop 13 b)) ≡ size rec
  payload_length = length-take-le (size rec) (drop 13 b) (simp length-drop (omega arith))

  -- its bytes stand at the buffer's start
  pub laid_front : take (start rec + size rec) (laid_record channel rec b) ≡ bytes_of channel rec (take (size rec) (drop 13 b))
  unfolding laid_record bytes_of
  laid_front =
      take_at (header channel rec ++ take (size rec) (drop 13 b)) (drop (start rec + size rec) b) (start rec + size rec)
      (simp (length-append, header_length channel rec, payload_length))
