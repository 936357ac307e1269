-- Which ends were told: each once, and no message of a stream comes after its End.
use mathlib.Core.Bool.{Bool, true, false, cond, not, ◌||◌, or_assoc, true≢false}
use mathlib.Core.Path.{◌≡◌, refl, sym, ap, ◌∙◌, subst, subst⁻¹}
use mathlib.Core.List.{List, [], ◌∷◌, ◌++◌}
use Prim.Native.Nat.{ℕ, min}
use native.Mathlib.Omega.{arith}
use lib.Dec.{ltb}
use lib.ListN.{length}
use borrow.Author.Tests.{ltb-false, not-true}
use Rattle.exec.specs.declared.Stream.{Stream}
use Rattle.exec.specs.Each.{Each, one, on_one, per}
use Rattle.exec.specs.Limits.{has_notes, pool_of}
use Rattle.exec.specs.Stream.{same_stream}
use Rattle.choice.specs.declared.Choice.{Choice}
use Rattle.output.specs.declared.Output.{Output}
use Rattle.output.specs.Output.{is_done, ended_out, sent_out}
use Rattle.runner.specs.declared.runner.Runner.{Runner}
use Rattle.runner.specs.Message.{sendable_of, choose, output_paid, output_sent, effect}
use Rattle.runner.specs.MessageLaws.{Shows, shows, Chosen, least}
use Rattle.runner.specs.State.{out_of, credit_at}
use Rattle.calls.specs.Call as Call
use Rattle.calls.specs.Call.{Call, Answer, Message}
use Rattle.account.specs.Step.{State}
use Rattle.account.specs.Claim.{is_message}
use Rattle.account.proofs.Plain.{said, next, answer}
use Rattle.account.proofs.Finish.{Kind, quiet, speaks, kind}
use Rattle.std.proofs.lemmas.Bool.{or_left}
use Rattle.ring.specs.Flags.{and_l, and_r}
use Rattle.std.proofs.Math.Bool.{or-false}
use Rattle.account.proofs.Phase.{intake_none}
use Rattle.account.proofs.Sides.{one_per, per_same, apart, is_over, on_out, per_put, one_on, on_same}
use Rattle.wire.specs.Messages.{said_in, is_end, is_of, any, ends_by}
use Rattle.account.proofs.Outs.{All, Stands, quiet_keeps}

-- ---- a stream whose End was told is closed, with nothing queued

abbrev Mute : Stream → Output → Type 0
Mute x o = o.ended ≡ true → (o.closed ≡ true) × (o.queued ≡ 0)

abbrev pub Muted : Runner → Type 0
Muted r = All Mute r

-- the streams whose End a runner has told
abbrev pub ends : Runner → Each Bool
ends r = per (λ (x : Stream). (out_of x r).ended)

-- a call that says no message tells no End
still : (e : Each Bool) → Stands (λ (x : Stream) (o : Output). (o.ended ≡ one x e) × Mute x o)
still e = record {
  grace = λ x o p. (p.0, λ t. ((p.1 t).0, refl));
  gives = λ x o p. (p.0, λ t. (refl, refl));
  abandons = λ x o p. (p.0, λ t. (or_left o.closed (not o.hung_up) (p.1 t).0, (p.1 t).1));
  asked = λ x o p. p;
  closes = λ x o p. (p.0, λ t. (refl, (p.1 t).1));
  fails = λ x o p. (p.0, λ t. (refl, (p.1 t).1));
  hangs = λ x o p. p;
  loses = λ x b o p. p;
  takes = λ x g d k n o p. (p.0, λ t. ((p.1 t).0, (let z = (p.1 t).1 in let y = intake_none o.closed g d k n (or_left o.closed d (p.1 t).0) in omega arith)));
}

-- ---- what is chosen

-- a stream's End while it is done and its End not told, its bytes while its End is not told
Fresh : Runner → Choice → Type 0
Fresh r (Choice.End x) = ((out_of x r).ended ≡ false) × (is_done (out_of x r) ≡ true)
Fresh r (Choice.Output x n) = (out_of x r).ended ≡ false
Fresh r _ = Unit

sends : (n : ℕ) (x : Stream) (k : ℕ) (r : Runner) → Muted r → Chosen r n x k → (out_of x r).ended ≡ false
unfolding sendable_of
sends n x k r m c = by (out_of x r).ended refl
  where
    by : (b : Bool) → (out_of x r).ended ≡ b → b ≡ false
    by false e = refl
    by true e =
        let q = (m x e).1 in
        let l = least r.limits.output.unit (credit_at (pool_of r.limits x) r.credits).available (min (min (out_of x r).queued r.limits.chunk) n) in
        absurd (omega (arith, c.bytes, c.some_bytes, l))

fresh : (n : ℕ) (r : Runner) → Muted r → Fresh r (choose r n)
unfolding Fresh
fresh n r m = by (choose r n) (shows n r)
  where
    by : (c : Choice) → Shows r n c → Fresh r c
    by (Choice.End x) s =
        let o : Output = out_of x r in
        (not-true o.ended (and_r (is_done o) (not o.ended) s.2), and_l (is_done o) (not o.ended) s.2)
    by (Choice.Output x k) s = sends n x k r m s.2
    by _ s = tt

-- an End is chosen of a stream whose End is not told
pub end_untold : (n : ℕ) (r : Runner) (x : Stream) → Muted r → Choice.End x ≡ choose r n → (out_of x r).ended ≡ false
unfolding Fresh
end_untold n r x m e = (subst⁻¹ (Fresh r) e (fresh n r m)).0

-- ---- what messages tell of the ends

abbrev pub ends_all : List Message → Each Bool → Each Bool
ends_all [] e = e
ends_all (m ∷ ms) e = ends_all ms (ends_by m e)

-- an End is told of a stream whose End was not
abbrev pub OnceAt : Each Bool → Message → Type 0
OnceAt e (Call.End x) = one x e ≡ false
OnceAt e _ = Unit

abbrev pub Once : Each Bool → List Message → Type 0
Once e [] = Unit
Once e (m ∷ ms) = OnceAt e m × Once (ends_by m e) ms

-- from one runner to another, with these messages told between
pub record Tells (r t : Runner) (ms : List Message) : Type 0 where
  pub told : ends t ≡ ends_all ms (ends r)
  pub once : Once (ends r) ms
  pub muted : Muted t
  pub silent : (x : Stream) → (out_of x r).ended ≡ true → any (is_of x) ms ≡ false

mute_ended : (x : Stream) (o : Output) → is_done o ≡ true → Mute x (ended_out o)
mute_ended x o d e =
    let z = ltb-false 0 o.queued (not-true (ltb 0 o.queued) (and_r o.closed (not (ltb 0 o.queued)) d)) in
    (and_l o.closed (not (ltb 0 o.queued)) d, omega arith)

abbrev pub at : (x : Stream) (r : Runner) → one x (ends r) ≡ (out_of x r).ended
at x r = one_per (λ (y : Stream). (out_of y r).ended) x

-- a message of a stream whose End is not told is none of one whose End is
other : (y x : Stream) (r : Runner) → (out_of y r).ended ≡ false → (out_of x r).ended ≡ true → (same_stream y x || false) ≡ false
other y x r f t = rw (apart y x (ends r) (at y r ∙ f) (at x r ∙ t)) refl

effect_tells : (m : Choice) (r : Runner) (store : List ℕ) → Fresh r m → Muted r → Tells r (effect m r) (said_in (said m r store))
unfolding Fresh said effect output_sent output_paid
effect_tells Choice.None r store f h = record { told = refl; once = tt; muted = h; silent = λ x e. refl }
effect_tells (Choice.End y) r store f h = record {
  told = per_put (has_notes r.limits) r.outputs (λ (o : Output). o.ended) y (ended_out (out_of y r)) (λ e. refl);
  once = (at y r ∙ f.0, tt);
  muted = on_out (has_notes r.limits) r.outputs Mute y (ended_out (out_of y r)) (mute_ended y (out_of y r) f.1) h;
  silent = λ x e. other y x r f.0 e;
}
effect_tells (Choice.Output y n) r store f h = record {
  told = per_put (has_notes r.limits) r.outputs (λ (o : Output). o.ended) y (sent_out r.limits.chunk n (out_of y r))
      (λ e. ap (λ (o : Output). o.ended) (is_over r.limits r.outputs y e))
      ∙ ap (λ (b : Bool). on_one y (λ (a : Bool). b) (ends r)) (sym (at y r)) ∙ on_same y (ends r);
  once = (tt, tt);
  muted = on_out (has_notes r.limits) r.outputs Mute y (sent_out r.limits.chunk n (out_of y r)) (λ e. ((h y e).0, (let z = (h y e).1 in omega arith))) h;
  silent = λ x e. other y x r f e;
}
effect_tells _ r store f h = record { told = refl; once = (tt, tt); muted = h; silent = λ x e. refl }

-- an answer says nothing, or one message
pub data Speech : Answer → Type 0 where
  none : {a : Answer} → said_in a ≡ [] → is_message a ≡ false → Speech a
  some : (m : Message) → Speech (Call.Says m)

pub speech : (a : Answer) → Speech a
speech (Call.Says m) = some m
speech _ = none refl refl

pub unsaid : (a : Answer) → is_message a ≡ false → said_in a ≡ []
unsaid a q = by a (speech a) q
  where
    by : (a : Answer) → Speech a → is_message a ≡ false → said_in a ≡ []
    by a (none e n) q = e
    by a (some m) q = absurd (true≢false q)

quiet_tells : (c : Call) (s : State) → is_message (answer s c) ≡ false → Muted s.runner → Tells s.runner (next s c).runner (said_in (answer s c))
quiet_tells c s q h =
    let e : Each Bool = ends s.runner in
    let k = quiet_keeps _ (still e) c s q (λ x. (sym (at x s.runner), h x)) in
    rw (unsaid (answer s c) q) (record {
      told = per_same (λ (x : Stream). (out_of x (next s c).runner).ended) (λ (x : Stream). (out_of x s.runner).ended) (λ x. (k x).0 ∙ at x s.runner);
      once = tt;
      muted = λ x. (k x).1;
      silent = λ x t. refl;
    })

pub call_tells : (c : Call) (s : State) → Muted s.runner → Tells s.runner (next s c).runner (said_in (answer s c))
unfolding next answer
call_tells c s h = go c (kind c s)
  where
    go : (c : Call) → Kind s c → Tells s.runner (next s c).runner (said_in (answer s c))
    go c (quiet q) = quiet_tells c s q h
    go c (speaks b) = effect_tells (choose s.runner (length b)) s.runner s.bytes (fresh (length b) s.runner h) h

-- ---- one behind the other

-- a stream's End was told before, or is among them
pub ends_so : (ms : List Message) (e : Each Bool) (x : Stream) → one x (ends_all ms e) ≡ (one x e || any (is_end x) ms)
ends_so [] e x = sym (or-false (one x e))
ends_so (m ∷ ms) e x = ends_so ms (ends_by m e) x ∙ by m
  where
    told : (a b c : Bool) → (cond a true b || c) ≡ (b || (a || c))
    told true true c = refl
    told true false c = refl
    told false b c = refl

    by : (m : Message) → (one x (ends_by m e) || any (is_end x) ms) ≡ (one x e || (is_end x m || any (is_end x) ms))
    by (Call.End y) = ap (λ (b : Bool). b || any (is_end x) ms) (one_on y true e x) ∙ told (same_stream y x) (one x e) (any (is_end x) ms)
    by _ = refl

pub ends_append : (ms ns : List Message) (e : Each Bool) → ends_all (ms ++ ns) e ≡ ends_all ns (ends_all ms e)
ends_append [] ns e = refl
ends_append (m ∷ ms) ns e = ends_append ms ns (ends_by m e)

pub any_append : (p : Message → Bool) (ms ns : List Message) → any p (ms ++ ns) ≡ (any p ms || any p ns)
any_append p [] ns = refl
any_append p (m ∷ ms) ns = ap (λ (b : Bool). p m || b) (any_append p ms ns) ∙ sym (or_assoc (p m) (any p ms) (any p ns))

once_append : (ms ns : List Message) (e : Each Bool) → Once e ms → Once (ends_all ms e) ns → Once e (ms ++ ns)
once_append [] ns e p q = q
once_append (m ∷ ms) ns e p q = (p.0, once_append ms ns (ends_by m e) p.1 q)

pub tells_on : {r s t : Runner} {ms ns : List Message} → Tells r s ms → Tells s t ns → Tells r t (ms ++ ns)
tells_on {r} {s} {t} {ms} {ns} a b = record {
  told = b.told ∙ ap (ends_all ns) a.told ∙ sym (ends_append ms ns (ends r));
  once = once_append ms ns (ends r) a.once (subst (λ (e : Each Bool). Once e ns) a.told b.once);
  muted = b.muted;
  silent = λ x e. any_append (is_of x) ms ns ∙ rw (a.silent x e) (b.silent x (stays x e));
}
  where
    stays : (x : Stream) → (out_of x r).ended ≡ true → (out_of x s).ended ≡ true
    stays x e = sym (at x s) ∙ ap (one x) a.told ∙ ends_so ms (ends r) x ∙ or_left (one x (ends r)) (any (is_end x) ms) (at x r ∙ e)
