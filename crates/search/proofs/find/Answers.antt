-- A place that was found, and none.
use Rattle.std.proofs.Common.{ℕ, Option, Some, None, List, length, arith}
use Rattle.memchr.specs.Find.{IsFirstByte, is_byte}
use Rattle.search.specs.Search.{Finds}
use Rattle.search.specs.SearchLaws.{index_is}
use Rattle.search.proofs.find.Goals as goal

pub returns : goal.returns
returns c = first c.args.byte c.args.text.now c.memchr.result c.memchr.ensures
  where
    first : (byte : ℕ) (s : List ℕ) (r : Option ℕ) → IsFirstByte (is_byte byte) s r → Finds byte s r
    first byte s None h = index_is byte s (length s) (omega arith) (λ l. absurd (omega arith)) (λ k l. h k (omega arith) l)
    first byte s (Some at) h = (index_is byte s at (omega (arith, h.0.high)) (λ l. h.1) (λ k l. h.0.before k (omega arith) l), h.0.high)
