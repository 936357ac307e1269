-- The bytes are whole where their length is the one told.
use Rattle.std.specs.Prelude.{◌≡◌, ◌+◌, length}
use Rattle.std.proofs.Common.{arith, refl, ◌∙◌, sym, eq-eqb, ne_eqb}
use Rattle.framing.specs.Framing.{read, on_stream}
use Rattle.framing.specs.FramingLaws.{whole_none, whole_is, length_is}
use Rattle.framing.proofs.read.Goals as goal

pub returns-in_default : goal.returns-in_default
unfolding read
returns-in_default c = rw (whole_none _ (sym c.number24_at.ensures ∙ c.in_default.is)) refl

pub returns-then-bytes-n : goal.returns-then-bytes-n
unfolding read
returns-then-bytes-n c =
    let other : length c.args.bytes.now ≡ 9 + c.in-Some.n → ⊥ = λ e. omega (arith, e, c.if-bytes-n.true) in
    rw (whole_is _ _ (sym c.number24_at.ensures ∙ c.in-Some.is), ne_eqb _ _ other) refl

pub kinded-requires : goal.kinded-requires
kinded-requires c = (length_is _ _ (sym c.number24_at.ensures ∙ c.in-Some.is), c.if-bytes-n.false)

pub returns : goal.returns
unfolding read on_stream
returns c =
    rw (whole_is _ _ (sym c.number24_at.ensures ∙ c.in-Some.is), eq-eqb _ _ c.if-bytes-n.false, sym c.number31.ensures, sym c.stream_of.ensures, c.in-Some-stream_of.is) c.kinded.ensures
