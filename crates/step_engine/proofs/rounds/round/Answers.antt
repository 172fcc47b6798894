use Rattle.std.proofs.Common.{◌-◌, ◌^◌, option_copied}
use Rattle.nbody_model.specs.declared.field.Field.{Field}
use Rattle.step_engine.specs.Stands.{now}
use Rattle.step_engine.specs.Stages.{rules}
use Rattle.step_engine.proofs.Leaves.{leads_any}
use Rattle.step_engine.proofs.Resuming.{round_wants}
use Rattle.step_engine.proofs.rounds.round.Goals as goal

pub returns-in-Err-clause-makes : goal.returns-in-Err-clause-makes
returns-in-Err-clause-makes g c = λ from f.
    let gr = g.F.Forces.gravity c.args.forces.now in
    let e = option_copied c.args.course.now.expansion in
    let r = rules gr e in
    let bin = c.args.bin in
    let s = c.args.course.now.setup.now in
    let top = s.top_bin in
    let u = c.args.pause.now.tick in
    let ds = c.args.pause.now.depth.now in
    let B = c.args.set.now in
    let a = now c.args.set.now (g.F.Forces.gravity c.args.forces.now) (g.F.Forces.fixed c.args.forces.now) (g.F.Forces.state c.args.forces.now) (g.O.KickOut.faults c.args.out.now) (g.O.KickOut.yes c.args.out.now) (g.O.KickOut.took c.args.out.now) c.args.work.now in
    round_wants g.F.Forces.passes {T = Field} r top u ds bin from a (leads_any (2 ^ bin - 1) a c.requires.ready.bodies)

pub returns-in-Err-deep_places-clause-makes : goal.returns-in-Err-deep_places-clause-makes
returns-in-Err-deep_places-clause-makes g c = λ from f.
    let gr = g.F.Forces.gravity c.args.forces.now in
    let e = option_copied c.args.course.now.expansion in
    let r = rules gr e in
    let bin = c.args.bin in
    let s = c.args.course.now.setup.now in
    let top = s.top_bin in
    let u = c.args.pause.now.tick in
    let ds = c.args.pause.now.depth.now in
    let B = c.args.set.now in
    let a = now c.args.set.now (g.F.Forces.gravity c.args.forces.now) (g.F.Forces.fixed c.args.forces.now) (g.F.Forces.state c.args.forces.now) (g.O.KickOut.faults c.args.out.now) (g.O.KickOut.yes c.args.out.now) (g.O.KickOut.took c.args.out.now) c.args.work.now in
    round_wants g.F.Forces.passes {T = Field} r top u ds bin from a (leads_any (2 ^ bin - 1) a c.requires.ready.bodies)
