-- Judge and runner in step, and what the judge is told of a call: it accepts it, and is in step with the runner that the call leaves.
use Rattle.std.specs.Prelude.{◌≡◌, false, ◌||◌, List, [], ◌∷◌, Ok}
use Rattle.std.proofs.Common.{sym, ap, ◌∙◌}
use Rattle.exec.specs.Each.{one}
use Rattle.runner.specs.declared.runner.Runner.{Runner}
use Rattle.calls.specs.Call.{Call, Message}
use Rattle.account.specs.Step.{State}
use Rattle.account.proofs.Plain.{next, answer}
use Rattle.wire.specs.Messages.{said_in}
use Rattle.wire.proofs.Ends as Ends
use Rattle.wire.proofs.Ends.{Muted, Tells, call_tells, unsaid}
use Rattle.judge.specs.declared.Item.{Item}
use Rattle.judge.specs.declared.Judge.{Judge}
use Rattle.judge.specs.Judge.{judged, noted}
use Rattle.talk.specs.TalkClaim.{items_by}
use Rattle.talk.proofs.Begins.{BeginsIn, begins_on}
use Rattle.talk.proofs.Judged.{Ended}
use Rattle.talk.proofs.Rest.{Rest, rest_on}
use Rattle.talk.proofs.Told.{is_told, speaks, none_said, none_told}

pub record Talk (r : Runner) (j : Judge) : Type 0 where
  pub rest : Rest j r
  pub begins : BeginsIn (j.started || j.spoken) r
  pub ended : Ended j (Ends.ends r)
  pub muted : Muted r

-- a judge told these items accepts each, and is then in step with t
abbrev pub Goes : List Item → Runner → Judge → Type 0
Goes [] t j = Talk t j
Goes (x ∷ xs) t j = (judged j x ≡ Ok tt) × Goes xs t (noted j x)

-- a call that tells no message tells no End
pub ended_on : (c : Call) (s : State) (j : Judge) → said_in (answer s c) ≡ [] → Talk s.runner j → Ended j (Ends.ends (next s c).runner) × Muted (next s c).runner
ended_on c s j e h =
    let t = call_tells c s h.muted in
    (λ x. h.ended x ∙ sym (ap (one x) (t.told ∙ ap (λ (ms : List Message). Ends.ends_all ms (Ends.ends s.runner)) e)), t.muted)

-- of other calls than credit, input and next_message it is told nothing
pub untold_goes : (c : Call) (s : State) (j : Judge) → is_told c ≡ false → speaks c ≡ false → Talk s.runner j → Goes (items_by c (answer s c)) (next s c).runner j
untold_goes c s j e m h =
    let p = ended_on c s j (none_said c s m) h in
    rw (none_told c s e m) (record { rest = rest_on j c s e h.rest; begins = begins_on (j.started || j.spoken) c s m h.begins; ended = p.0; muted = p.1 })
