use Rattle.std.proofs.Common.{◌≡◌, ◌++◌, ◌∷◌, [], refl, subst, sym, ◌∙◌}
use Rattle.nbody_model.specs.declared.field.Field.{Field}
use Rattle.nbody_model.specs.Bodies.{IsValid, only}
use Rattle.nbody_model.specs.Evolve.{Asked, Going, tell}
use Rattle.kick_drift.specs.Parts.{ids_at}
use Rattle.model_laws.proofs.Kept.{only_bodies}
use Rattle.step_engine.specs.Taken.{TookForces}
use Rattle.step_engine.specs.Told.{AreForcesAmong}
use Rattle.step_engine.specs.Stands.{now}
use Rattle.step_engine.proofs.Joins.{all_there}
use Rattle.step_engine.proofs.Leaves.{leads_same, broken, telling, force_tells}
use Rattle.step_engine.proofs.asks.ask.Goals as goal

pub force-requires : goal.force-requires
force-requires g c = subst IsValid (sym (c.deref.ensures.value ∙ c.in-Ok.ensures)) (only_bodies (ids_at c.args.set.now c.args.part.now) c.args.set.now c.requires.bodies).valid

pub returns-in-Ok-forced-clause-makes : goal.returns-in-Ok-forced-clause-makes
returns-in-Ok-forced-clause-makes g c = λ w n tick.
    let B = c.args.set.now in
    let P = ids_at B c.args.part.now in
    let f = c.in-Ok-force.field in
    let a = now B (g.F.Forces.gravity c.args.forces.now) (g.F.Forces.fixed c.args.forces.now) (g.F.Forces.state c.args.forces.now) (g.O.KickOut.faults c.args.out.now) (g.O.KickOut.yes c.args.out.now) (g.O.KickOut.took c.args.out.now) w in
    let z = now B (g.F.Forces.gravity c.force.new.self) (g.F.Forces.fixed c.force.new.self) (g.F.Forces.state c.force.new.self) (g.O.KickOut.faults c.forced.new.self) (g.O.KickOut.yes c.forced.new.self) (g.O.KickOut.took c.forced.new.self) w in
    let bodies : c.deref.result.now ≡ only B P = c.deref.ensures.value ∙ c.in-Ok.ensures in
    let found : AreForcesAmong (g.F.Forces.gravity c.args.forces.now) (only B P) f =
    subst (λ C. AreForcesAmong (g.F.Forces.gravity c.args.forces.now) C f) bodies (record { forces = c.in-Ok-force.ensures.forces; interactions = c.in-Ok-force.ensures.interactions }) in
    telling g.F.Forces.passes Field n tick (λ p. Asked (only p.bodies P)) (TookForces f) f a z
    (leads_same a z c.requires.bodies c.in-Ok-force.ensures.same_gravity c.in-Ok-force.ensures.same_fixed refl refl refl c.in-Ok-forced.ensures.same_yes refl)
    refl refl refl (λ p. refl)
    (force_tells g.F.Forces.passes P f a z found
    (subst (λ C. g.F.Forces.passes (g.F.Forces.gravity c.args.forces.now) (g.F.Forces.fixed c.args.forces.now) C (g.F.Forces.state c.args.forces.now) f.events (g.F.Forces.state c.force.new.self)) bodies c.in-Ok-force.ensures.passes))
    tt c.in-Ok-forced.ensures.ok (c.in-Ok-forced.ensures.cause.kept refl)

pub returns-in-Err-forced-clause-makes : goal.returns-in-Err-forced-clause-makes
returns-in-Err-forced-clause-makes g c = λ w n tick.
    let B = c.args.set.now in
    let P = ids_at B c.args.part.now in
    let f = c.in-Ok-force.field in
    let a = now B (g.F.Forces.gravity c.args.forces.now) (g.F.Forces.fixed c.args.forces.now) (g.F.Forces.state c.args.forces.now) (g.O.KickOut.faults c.args.out.now) (g.O.KickOut.yes c.args.out.now) (g.O.KickOut.took c.args.out.now) w in
    let z = now B (g.F.Forces.gravity c.force.new.self) (g.F.Forces.fixed c.force.new.self) (g.F.Forces.state c.force.new.self) (g.O.KickOut.faults c.forced.new.self) (g.O.KickOut.yes c.forced.new.self) (g.O.KickOut.took c.forced.new.self) w in
    let bodies : c.deref.result.now ≡ only B P = c.deref.ensures.value ∙ c.in-Ok.ensures in
    let found : AreForcesAmong (g.F.Forces.gravity c.args.forces.now) (only B P) f =
    subst (λ C. AreForcesAmong (g.F.Forces.gravity c.args.forces.now) C f) bodies (record { forces = c.in-Ok-force.ensures.forces; interactions = c.in-Ok-force.ensures.interactions }) in
    rw c.halt_for.ensures
    (broken g.F.Forces.passes Field n 0 tick tick (λ stop p. Going (tell (Asked (only p.bodies P)) p)) (λ p. Asked (only p.bodies P)) (TookForces f) c.in-Err-forced.e a z
    (leads_same a z c.requires.bodies c.in-Ok-force.ensures.same_gravity c.in-Ok-force.ensures.same_fixed refl refl refl c.in-Err-forced.ensures.same_yes refl)
    (λ p b. all_there (p.trail ++ Asked (only p.bodies P) ∷ []))
    (force_tells g.F.Forces.passes P f a z found
    (subst (λ C. g.F.Forces.passes (g.F.Forces.gravity c.args.forces.now) (g.F.Forces.fixed c.args.forces.now) C (g.F.Forces.state c.args.forces.now) f.events (g.F.Forces.state c.force.new.self)) bodies c.in-Ok-force.ensures.passes))
    tt c.in-Err-forced.ensures.err c.in-Err-forced.ensures.cause)
