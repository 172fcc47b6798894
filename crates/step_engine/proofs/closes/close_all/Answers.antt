use Rattle.std.proofs.Common.{◌≡◌, ◌+◌, ◌-◌, ◌^◌, ℕ, ap, sym, ◌∙◌, subst, option_copied}
use Rattle.nbody_model.specs.Tables.{Rules}
use Rattle.nbody_model.specs.Factors.{kick_factor}
use Rattle.nbody_model.specs.Evolve.{kick, close}
use Rattle.nbody_model.specs.Bodies.{only}
use Rattle.kick_drift.specs.Parts.{ids_at}
use Rattle.step_engine.specs.Told.{AreForcesAmong}
use Rattle.step_engine.specs.Stands.{now}
use Rattle.step_engine.proofs.Joins.{same}
use Rattle.step_engine.proofs.Keeps.{same_places}
use Rattle.step_engine.proofs.Closing.{forces_still, close_all_is, retimed}
use Rattle.step_engine.proofs.closes.close_all.Goals as goal

pub returns-clause-forces : goal.returns-clause-forces
returns-clause-forces g c =
    let gr = g.F.Forces.gravity c.args.forces.now in
    let B = c.args.set.now in
    let S = c.kick_part.new.set in
    let named : ids_at S c.args.split.now.part.now ≡ ids_at B c.args.split.now.part.now = same_places B S c.args.split.now.part.now (c.kick_part.ensures.makes 0).conserved in
    forces_still gr (ids_at S c.args.split.now.part.now) c.args.quick.now B S c.kick_part.ensures.places
    (subst (λ P. AreForcesAmong gr (only B P) c.args.quick.now) (c.requires.fast.all c.requires.all ∙ sym named) c.requires.quick)

pub returns-clause-makes : goal.returns-clause-makes
returns-clause-makes g c = λ n.
    let gr = g.F.Forces.gravity c.args.forces.now in
    let e = option_copied c.args.course.now.expansion in
    let r : Rules = record { gravity = gr; expansion = e } in
    let bin = c.args.split.now.bin in
    let tick = c.args.split.now.tick in
    let P = ids_at c.args.set.now c.args.split.now.part.now in
    let F = ids_at c.args.set.now c.args.split.now.fast.now in
    let a = now c.args.set.now gr (g.F.Forces.fixed c.args.forces.now) (g.F.Forces.state c.args.forces.now) (g.O.KickOut.faults c.args.out.now) (g.O.KickOut.yes c.args.out.now) (g.O.KickOut.took c.args.out.now) c.args.work.now in
    let z = now c.kick_part.new.set gr (g.F.Forces.fixed c.args.forces.now) (g.F.Forces.state c.args.forces.now) (g.O.KickOut.faults c.kick_part.new.out) (g.O.KickOut.yes c.kick_part.new.out) (g.O.KickOut.took c.kick_part.new.out) c.kick_part.new.work in
    let h : ℕ = kick_factor e (tick + 2 ^ (bin - 1)) (tick + 2 ^ bin) in
    same g.F.Forces.passes n 1 (tick + 2 ^ bin) (tick + 2 ^ bin) (λ stop p. close r bin P F tick p) (λ stop p. kick r bin P F (tick + 2 ^ bin) h p) c.kick_part.result a z
    (λ stop p b. close_all_is r bin P F tick p (c.requires.fast.all c.requires.all))
    (retimed g.F.Forces.passes n r bin P F (tick + c.power.result) (tick + 2 ^ bin) c.last_factor-h.result h c.kick_part.result a z (ap (λ x. tick + x) c.power.ensures) c.last_factor-h.ensures.value (c.kick_part.ensures.makes n))
