use Rattle.std.proofs.Common.{ℕ, Option, None, refl, arith, option_copied}
use Rattle.nbody_model.specs.Session.{SessionData, session}
use Rattle.run_session.specs.Own.{own_files}
use Rattle.run_session.specs.RunEnds.{plan_of}
use Rattle.run_session.specs.Stages.{Basis, basis}
use Rattle.run_session.proofs.Ending.{AreKept, not_opened, nothing_made}
use Rattle.run_session.specs.Worlds.{world_by}
use Rattle.run_session.proofs.session.session_of.Goals as goal

pub returns-in_default-clause-leaves : goal.returns-in_default-clause-leaves
returns-in_default-clause-leaves g c =
    let gr = g.F.Forces.gravity c.args.forces.now in
    let passes = g.F.Forces.passes gr (g.F.Forces.fixed c.args.forces.now) in
    let p = c.args.inputs.now.params.now in
    let σ = c.args.state in
    let plan = plan_of gr (option_copied c.args.inputs.now.expansion) p c.args.inputs.now.outputs.now in
    let sessions : Option ℕ → SessionData = λ s. session plan c.args.resumed s σ in
    let A = world_by g.S.Store g.Q.Stopper c.args.store.now c.args.stop.now (g.F.Forces.state c.args.forces.now) in
    let C : Basis = basis gr (option_copied c.args.inputs.now.expansion) p (own_files p c.args.resumed σ) c.args.inputs.now.outputs.now (g.S.Store.tells c.args.store.now) A in
    let kept : AreKept σ sessions = λ s. (c.sessions_conserve.ensures plan c.args.resumed s σ c.requires.bodies).told in (
      not_opened C passes c.args.resumed σ sessions refl kept A A refl refl refl None
          (record { blamed = tt; files = λ told. nothing_made (own_files p c.args.resumed σ) (g.S.Store.file c.args.store.now); closed = refl; state = refl; yes = refl; left = refl }),
      omega arith,
    )
