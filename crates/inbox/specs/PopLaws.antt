-- How many frames a pop comes to with bytes still to take: of every inbox and every store of lengths, foreign ones too.
use Rattle.std.specs.Prelude.{◌≡◌, refl, List, ℕ, ◌+◌, ◌≤◌, min}
use Rattle.std.proofs.Common.{ap, arith}
use Rattle.exec.specs.declared.Limits.{Limits}
use Rattle.exec.specs.declared.Unit as Units
use Rattle.exec.specs.declared.Unit.TheVariants.{Bytes, Frames}
use Rattle.ring.specs.Frames.{Popped}
use Rattle.ring.specs.FrameLaws.{pop_used, came_within}
use Rattle.inbox.specs.declared.Inbox.{Inbox}
use Rattle.inbox.specs.Inbox.{freed_by, came_by, frames_popped}

-- of n bytes, by the unit, how the frames come to stand to those freed and those that wait (which they are: `pop_came` of the ring)
pub record Turns (u : Units.Unit) (size n : ℕ) (b : Inbox) (lengths : List ℕ) : Type 0 where
  pub none : n ≡ 0 → came_by u size n b lengths ≡ 0
  pub bytes : u ≡ Bytes → came_by u size n b lengths ≡ 0
  pub frames : came_by u size n b lengths ≤ b.frames
  pub most : came_by u size n b lengths ≤ freed_by u size n b lengths + 1
  pub least : u ≡ Frames → freed_by u size n b lengths ≤ came_by u size n b lengths
  -- each that they free is gone, and no other
  pub gone : u ≡ Frames → frames_popped u (freed_by u size n b lengths) b.frames + freed_by u size n b lengths ≡ b.frames
  -- and so of the frames that are left
  pub left : came_by u size n b lengths + frames_popped u (freed_by u size n b lengths) b.frames ≤ b.frames + min (came_by u size n b lengths) 1

pub turns : (u : Units.Unit) (size n : ℕ) (b : Inbox) (lengths : List ℕ) → Turns u size n b lengths
turns Bytes size n b lengths = record { none = λ e. refl; bytes = λ e. refl; frames = omega arith; most = omega arith; least = λ e. cc; gone = λ e. cc; left = omega arith }
turns Frames size n b lengths =
    let h = came_within b.frames size b.first n 0 lengths in record {
      none = λ e. ap (λ (q : Popped). q.came) (pop_used b.frames size b.first n 0 lengths e);
      bytes = λ e. cc;
      frames = omega (arith, h.2);
      most = h.1;
      least = λ e. h.0;
      gone = λ e. omega (arith, h);
      left = omega (arith, h);
    }

-- and so a pop of `count`
pub popped : (l : Limits) (b : Inbox) (count : ℕ) (lengths : List ℕ) → Turns l.input.unit l.input.size (min count b.length) b lengths
popped l b count lengths = turns l.input.unit l.input.size (min count b.length) b lengths
