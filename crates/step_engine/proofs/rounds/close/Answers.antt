use Rattle.std.proofs.Common.{◌+◌, ◌^◌, option_copied}
use Rattle.nbody_model.specs.declared.field.Field.{Field}
use Rattle.step_engine.specs.Stands.{now}
use Rattle.step_engine.specs.Stages.{rules}
use Rattle.nbody_model.specs.Evolve.{close}
use Rattle.kick_drift.specs.Parts.{ids_at}
use Rattle.step_engine.proofs.Joins.{valued, halt_as}
use Rattle.step_engine.proofs.rounds.close.Goals as goal

pub returns-in-Ok-clause-makes : goal.returns-in-Ok-clause-makes
returns-in-Ok-clause-makes g c = λ n.
    let gr = g.F.Forces.gravity c.args.forces.now in
    let e = option_copied c.args.course.now.expansion in
    let r = rules gr e in
    let bin = c.args.split.now.bin in
    let a = now c.args.set.now (g.F.Forces.gravity c.args.forces.now) (g.F.Forces.fixed c.args.forces.now) (g.F.Forces.state c.args.forces.now) (g.O.KickOut.faults c.args.out.now) (g.O.KickOut.yes c.args.out.now) (g.O.KickOut.took c.args.out.now) c.args.work.now in
    let z = now c.close_all.new.set (g.F.Forces.gravity c.args.forces.now) (g.F.Forces.fixed c.args.forces.now) (g.F.Forces.state c.args.forces.now) (g.O.KickOut.faults c.close_all.new.out) (g.O.KickOut.yes c.close_all.new.out) (g.O.KickOut.took c.close_all.new.out) c.close_all.new.work in
    let end = c.args.split.now.tick + 2 ^ bin in
    valued g.F.Forces.passes {T = Unit {0}} {U = Field} n 1 end end (λ stop p. close r bin (ids_at c.args.set.now c.args.split.now.part.now) (ids_at c.args.set.now c.args.split.now.fast.now) c.args.split.now.tick p) tt c.args.quick a z (c.in-Ok.ensures.makes n)

pub returns-in-Err-clause-makes : goal.returns-in-Err-clause-makes
returns-in-Err-clause-makes g c = λ n.
    let gr = g.F.Forces.gravity c.args.forces.now in
    let e = option_copied c.args.course.now.expansion in
    let r = rules gr e in
    let bin = c.args.split.now.bin in
    let a = now c.args.set.now (g.F.Forces.gravity c.args.forces.now) (g.F.Forces.fixed c.args.forces.now) (g.F.Forces.state c.args.forces.now) (g.O.KickOut.faults c.args.out.now) (g.O.KickOut.yes c.args.out.now) (g.O.KickOut.took c.args.out.now) c.args.work.now in
    let z = now c.close_all.new.set (g.F.Forces.gravity c.args.forces.now) (g.F.Forces.fixed c.args.forces.now) (g.F.Forces.state c.args.forces.now) (g.O.KickOut.faults c.close_all.new.out) (g.O.KickOut.yes c.close_all.new.out) (g.O.KickOut.took c.close_all.new.out) c.close_all.new.work in
    let end = c.args.split.now.tick + 2 ^ bin in
    halt_as g.F.Forces.passes {T = Unit {0}} {U = Field} n 1 end end (λ stop p. close r bin (ids_at c.args.set.now c.args.split.now.part.now) (ids_at c.args.set.now c.args.split.now.fast.now) c.args.split.now.tick p) c.in-Err.e a z (c.in-Err.ensures.makes n)
