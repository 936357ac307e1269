-- What a message has passed whose length and cost were taken.
use Rattle.std.specs.Prelude.{◌≡◌, ℕ, ◌≤◌, ◌<◌, false, Ok}
use Rattle.std.proofs.Common.{arith}
use Rattle.std.proofs.lemmas.Bool.Decides.{nat_tests}
use Rattle.exec.specs.declared.Limits.{Limits}
use Rattle.exec.specs.Limits.{off_chunk, check_chunk}
use Rattle.inbox.specs.declared.receiver.Granted.{Granted}
use Rattle.inbox.specs.Receiver.{charge}

pub chunk_some : (l : Limits) (n : ℕ) → off_chunk l n ≡ false → 0 < n
chunk_some l n h = grind (arith, nat_tests)

pub chunk_fits : (l : Limits) (n : ℕ) → off_chunk l n ≡ false → n ≤ l.chunk
chunk_fits l n h = grind (arith, nat_tests)

-- its length is the message's, and no longer than a chunk
pub checked : (l : Limits) (n m : ℕ) → check_chunk l n ≡ Ok m → (m ≡ n) × (n ≤ l.chunk)
unfolding check_chunk
checked l n m h = (grind (arith, nat_tests), grind (arith, nat_tests))

-- its cost is open
pub charged : (g p : Granted) (cost : ℕ) → charge g cost ≡ Ok p → cost ≤ g.open
charged g p cost h = grind (arith, nat_tests)
