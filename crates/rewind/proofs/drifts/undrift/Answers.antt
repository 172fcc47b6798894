use Rattle.std.proofs.Common.{◌≡◌, ◌∙◌, arith, sym, length, ap, get_or, refl}
use Rattle.nbody_model.specs.Bodies.{BodyData}
use Rattle.rewind_laws.specs.Back.{undrifted}
use Rattle.particle_set.proofs.MotionLemmas.{length-with_motion_at}
use Rattle.kick_drift.proofs.Chosen.{more, still_there, all, none, got}
use Rattle.rewind.proofs.drifts.undrift.Goals as goal

pub get-requires : goal.get-requires
get-requires c = omega (arith, c.requires.places.within c.loop-member.member-index c.loop-member-test.true, c.loop-member.invariant.0)

pub loop-member-init : goal.loop-member-init
loop-member-init c = (refl, λ s e. sym (none c.args.set.now (undrifted s c.args.ticks)))

pub loop-member-preserved : goal.loop-member-preserved
loop-member-preserved c =
    let old = c.args.set.now in
    let set = c.loop-member.set in
    let ps = c.args.members.now in
    let k = c.loop-member.member-index in
    let b : BodyData = c.get.result.now in
    let read : get_or set (get_or ps k 0) b ≡ b = got set (get_or ps k 0) b b c.get.ensures in
    let long : length c.set_motion.new.self ≡ length set = ap length c.set_motion.ensures ∙ length-with_motion_at set (get_or ps k 0) c.motion_before-motion.result in (
      long ∙ c.loop-member.invariant.0,
      λ s e.
          let so_far = c.loop-member.invariant.1 s e in
          let there : b ≡ get_or old (get_or ps k 0) b = sym read ∙ still_there (λ b. (undrifted s c.args.ticks b).motion) old set ps k b c.ids_ascend.ensures c.requires.places c.loop-member-test.true so_far in
          more (λ b. (undrifted s c.args.ticks b).motion) old set c.set_motion.new.self ps k b c.motion_before-motion.result c.ids_ascend.ensures c.requires.places c.loop-member-test.true so_far c.set_motion.ensures
          (c.motion_before-motion.ensures s e ∙ ap (λ (x : BodyData). (undrifted s c.args.ticks x).motion) there),
    )

pub returns : goal.returns
returns c = λ s e. c.loop-member.invariant.1 s e ∙ all c.args.set.now c.args.members.now (undrifted s c.args.ticks) c.loop-member.member-index c.loop-member-test.false
