use Rattle.std.proofs.Common.{◌<◌, length, ap, refl, subst, sym, ◌∙◌}
use Rattle.nbody_model.specs.Bodies.{IsValid}
use Rattle.particle_set.specs.Motions.{with_motion_at}
use Rattle.particle_set.specs.Lent.{IsMotionAt}
use Rattle.particle_set.proofs.MotionLemmas.{IsValid-with_motion_at, set-moved_at}
use Rattle.particle_set.proofs.body_set.BodySet.lend_one.Goals as goal

pub invariant_of-self-lent : goal.invariant_of-self-lent
invariant_of-self-lent c =
    let old = c.self.inside.held.list.items in
    let within : c.args.i < length old = subst (λ bs. c.args.i < length bs) (sym c.self.view_is) c.requires in
    λ m. subst IsValid (sym (set-moved_at old c.args.i m within)) (IsValid-with_motion_at old c.args.i m c.self.invariant)

pub returns : goal.returns
returns c =
    let old = c.self.inside.held.list.items in
    let within : c.args.i < length old = subst (λ bs. c.args.i < length bs) (sym c.self.view_is) c.requires in (
      (refl, λ m. set-moved_at old c.args.i m within ∙ ap (λ bs. with_motion_at bs c.args.i m) c.self.view_is),
      record { writes = tt; value = subst (λ bs. IsMotionAt bs c.args.i c.motion.result.now) c.self.view_is c.motion.ensures.value },
    )
