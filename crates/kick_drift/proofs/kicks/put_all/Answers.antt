use Rattle.std.proofs.Common.{◌≡◌, length, get_or, ap, sym, refl, ◌∙◌, arith}
use Rattle.fixed_point.specs.Vectors.{origin}
use Rattle.nbody_model.specs.Bodies.{BodyData}
use Rattle.nbody_model.specs.Steps.{axis_out, kicked_by}
use Rattle.particle_set.specs.Motions.{with_motion}
use Rattle.particle_set.proofs.MotionLemmas.{length-with_motion_at}
use Rattle.kick_drift.specs.Parts.{ids_at, change_of, kicked_motion}
use Rattle.kick_drift.proofs.Chosen.{blank, more, still_there, none, places, change_is}
use Rattle.kick_drift.proofs.kicks.put_all.Goals as goal

pub loop-k-init : goal.loop-k-init
loop-k-init c =
    let old = c.args.set.now in
    let M = λ (b : BodyData). kicked_motion c.args.h b.motion (change_of (ids_at old c.args.whole.now) c.args.f.now (ids_at old c.args.fast.now) c.args.g.now b) in
    (refl, sym (none old (λ b. with_motion b (M b))))

pub put-requires-clause-within : goal.put-requires-clause-within
put-requires-clause-within c = omega (arith, c.requires.whole.within c.loop-k.k c.loop-k-test.true, c.loop-k.invariant.0)

pub put-requires-clause-in_range : goal.put-requires-clause-in_range
put-requires-clause-in_range c =
    let old = c.args.set.now in
    let i = get_or c.args.whole.now c.loop-k.k 0 in
    let M = λ (b : BodyData). kicked_motion c.args.h b.motion (change_of (ids_at old c.args.whole.now) c.args.f.now (ids_at old c.args.fast.now) c.args.g.now b) in
    λ b.
    let there : get_or c.loop-k.set i b ≡ get_or old i b = still_there M old c.loop-k.set c.args.whole.now c.loop-k.k b c.ids_ascend.ensures (places old c.args.whole.now c.requires.whole) c.loop-k-test.true c.loop-k.invariant.1 in
    ap (λ (x : BodyData). axis_out (kicked_by c.args.h x.motion.mom c.change_at-change.result)) there
    ∙ ap (λ v. axis_out (kicked_by c.args.h (get_or old i b).motion.mom v)) c.change_at-change.ensures
    ∙ c.requires.in_range c.loop-k.k c.loop-k-test.true b origin

pub loop-k-preserved : goal.loop-k-preserved
loop-k-preserved c =
    let old = c.args.set.now in
    let set = c.loop-k.set in
    let k = c.loop-k.k in
    let i = get_or c.args.whole.now k 0 in
    let M = λ (b : BodyData). kicked_motion c.args.h b.motion (change_of (ids_at old c.args.whole.now) c.args.f.now (ids_at old c.args.fast.now) c.args.g.now b) in
    let ps = places old c.args.whole.now c.requires.whole in
    let there : get_or set i blank ≡ get_or old i blank = still_there M old set c.args.whole.now k blank c.ids_ascend.ensures ps c.loop-k-test.true c.loop-k.invariant.1 in
    let change : c.change_at-change.result ≡ change_of (ids_at old c.args.whole.now) c.args.f.now (ids_at old c.args.fast.now) c.args.g.now (get_or old i blank) =
    c.change_at-change.ensures ∙ sym (change_is old c.args.whole.now c.args.f.now c.args.fast.now c.args.g.now k blank origin c.ids_ascend.ensures c.requires.whole c.requires.fast c.requires.equal c.loop-k-test.true) in
    let motion : kicked_motion c.args.h (get_or set i blank).motion c.change_at-change.result ≡ M (get_or old i blank) =
    ap (λ (x : BodyData). kicked_motion c.args.h x.motion c.change_at-change.result) there ∙ ap (kicked_motion c.args.h (get_or old i blank).motion) change in
    let long : length c.put.new.set ≡ length set = ap length (c.put.ensures blank) ∙ length-with_motion_at set i (kicked_motion c.args.h (get_or set i blank).motion c.change_at-change.result) in (
      long ∙ c.loop-k.invariant.0,
      more M old set c.put.new.set c.args.whole.now k blank (kicked_motion c.args.h (get_or set i blank).motion c.change_at-change.result) c.ids_ascend.ensures ps c.loop-k-test.true c.loop-k.invariant.1 (c.put.ensures blank) motion,
    )
