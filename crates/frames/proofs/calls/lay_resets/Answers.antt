-- Stdout's reset in the first 13 bytes, and stderr's behind it.
use Rattle.std.proofs.Common.{◌≡◌, refl, ℕ, arith}
use Rattle.exec.specs.declared.Stream.TheVariants.{Stdout, Stderr}
use Rattle.frames.specs.CallLaws.{first_taken, two_laid}
use Rattle.frames.proofs.calls.lay_resets.Goals as goal

pub returns-in_err-lay : goal.returns-in_err-lay
returns-in_err-lay c =
    let a = c.args in
    let was = c.in_err-lay.was in
    let taken = first_taken a.s Stdout a.buffer.now _ _ c.requires.0 refl (omega (arith, c.requires.1)) (rw c.split_at_mut-first.ensures.front at c.lay.ensures) in
    let z : ◌≡◌ {A = ℕ} 0 1 = cc in
    absurd (omega arith)

pub returns : goal.returns
returns c =
    let a = c.args in
    rw c.if-stdout.false
    (two_laid a.s Stdout a.buffer.now _ _ c.requires.0 refl (omega (arith, c.requires.1)) (rw c.split_at_mut-first.ensures.front at c.lay.ensures)
    Stderr a.stderr _ _ c.in_ok-n.n (rw c.split_at_mut-first.ensures.back at c.lay_reset-2.ensures) c.in_ok-n.was)
