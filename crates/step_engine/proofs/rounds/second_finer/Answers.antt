use Rattle.std.proofs.Common.{◌≡◌, ◌≢◌, ◌≤◌, ◌+◌, ◌-◌, sym, subst, arith, option_copied}
use Rattle.nbody_model.specs.declared.field.Field.{Field}
use Rattle.step_engine.specs.Stands.{now}
use Rattle.step_engine.specs.Stages.{rules}
use Rattle.nbody_model.specs.States.{low_zeros}
use Rattle.kick_drift.specs.Parts.{ids_at}
use Rattle.step_engine.specs.Stands.{IsTimely}
use Rattle.step_engine.proofs.Ticks.{timely_finer}
use Rattle.step_engine.proofs.Resuming.{finer_own, finer_rests, finer_later}
use Rattle.step_engine.proofs.rounds.second_finer.Goals as goal

pub evolve-requires-clause-timely : goal.evolve-requires-clause-timely
evolve-requires-clause-timely g c =
    let gr = g.F.Forces.gravity c.args.forces.now in
    let e = option_copied c.args.course.now.expansion in
    let r = rules gr e in
    let bin = c.args.left.now.bin in
    let s = c.args.course.now.setup.now in
    let top = s.top_bin in
    let u = c.args.left.now.pause.now.tick in
    let ds = c.args.left.now.pause.now.depth.now in
    let B = c.args.set.now in
    let two : 2 ≤ bin = omega (arith, c.requires.low, c.requires.inside.not_finest, c.requires.above) in
    subst (λ m. IsTimely e (bin - 1) m c.args.work.now.count.kicks) (sym c.middle_of-middle.ensures) (timely_finer e s bin u c.args.work.now.count.kicks c.requires.timely two c.requires.within c.requires.room)

pub evolve-requires-2-clause-timely : goal.evolve-requires-2-clause-timely
evolve-requires-2-clause-timely g c =
    let gr = g.F.Forces.gravity c.args.forces.now in
    let e = option_copied c.args.course.now.expansion in
    let r = rules gr e in
    let bin = c.args.left.now.bin in
    let s = c.args.course.now.setup.now in
    let top = s.top_bin in
    let u = c.args.left.now.pause.now.tick in
    let ds = c.args.left.now.pause.now.depth.now in
    let B = c.args.set.now in
    let two : 2 ≤ bin = omega (arith, c.requires.low, c.requires.inside.not_finest, c.requires.above) in
    subst (λ m. IsTimely e (bin - 1) m c.args.work.now.count.kicks) (sym c.middle_of-middle.ensures) (timely_finer e s bin u c.args.work.now.count.kicks c.requires.timely two c.requires.within c.requires.room)

pub returns-then-bin-zeros-clause-makes : goal.returns-then-bin-zeros-clause-makes
returns-then-bin-zeros-clause-makes g c = λ from f.
    let gr = g.F.Forces.gravity c.args.forces.now in
    let e = option_copied c.args.course.now.expansion in
    let r = rules gr e in
    let bin = c.args.left.now.bin in
    let s = c.args.course.now.setup.now in
    let top = s.top_bin in
    let u = c.args.left.now.pause.now.tick in
    let ds = c.args.left.now.pause.now.depth.now in
    let B = c.args.set.now in
    let some : 1 ≤ bin = omega (arith, c.requires.above) in
    let a = now c.args.set.now (g.F.Forces.gravity c.args.forces.now) (g.F.Forces.fixed c.args.forces.now) (g.F.Forces.state c.args.forces.now) (g.O.KickOut.faults c.args.out.now) (g.O.KickOut.yes c.args.out.now) (g.O.KickOut.took c.args.out.now) c.args.work.now in
    let z = now c.evolve.new.set (g.F.Forces.gravity c.evolve.new.forces) (g.F.Forces.fixed c.evolve.new.forces) (g.F.Forces.state c.evolve.new.forces) (g.O.KickOut.faults c.evolve.new.out) (g.O.KickOut.yes c.evolve.new.out) (g.O.KickOut.took c.evolve.new.out) c.evolve.new.work in
    let own : bin ≡ low_zeros u + 1 = omega (arith, c.if-bin-zeros.true, c.zeros.ensures.value) in
    finer_own g.F.Forces.passes {T = Field} r bin (ids_at B c.args.left.now.fast.now) u c.middle_of-middle.result from c.evolve.result a z some own c.middle_of-middle.ensures c.requires.reached f c.evolve.ensures.makes

pub returns-in-Err-clause-makes : goal.returns-in-Err-clause-makes
returns-in-Err-clause-makes g c = λ from f.
    let gr = g.F.Forces.gravity c.args.forces.now in
    let e = option_copied c.args.course.now.expansion in
    let r = rules gr e in
    let bin = c.args.left.now.bin in
    let s = c.args.course.now.setup.now in
    let top = s.top_bin in
    let u = c.args.left.now.pause.now.tick in
    let ds = c.args.left.now.pause.now.depth.now in
    let B = c.args.set.now in
    let some : 1 ≤ bin = omega (arith, c.requires.above) in
    let few : bin ≤ 64 = omega (arith, c.requires.within, c.requires.timely.short) in
    let a = now c.args.set.now (g.F.Forces.gravity c.args.forces.now) (g.F.Forces.fixed c.args.forces.now) (g.F.Forces.state c.args.forces.now) (g.O.KickOut.faults c.args.out.now) (g.O.KickOut.yes c.args.out.now) (g.O.KickOut.took c.args.out.now) c.args.work.now in
    let z = now B (g.F.Forces.gravity c.args.forces.now) (g.F.Forces.fixed c.args.forces.now) (g.F.Forces.state c.args.forces.now) (g.O.KickOut.faults c.rest.new.out) (g.O.KickOut.yes c.rest.new.out) (g.O.KickOut.took c.rest.new.out) c.args.work.now in
    let other : bin ≢ low_zeros u + 1 = λ h. omega (arith, c.if-bin-zeros.false, c.zeros.ensures.value, h) in
    finer_rests g.F.Forces.passes {T = Unit {0}} {U = Field} r bin (ids_at B c.args.left.now.fast.now) u c.middle_of-middle.result from c.in-Err.e a z some few other c.middle_of-middle.ensures c.requires.reached f
    (c.in-Err.ensures.makes B gr (g.F.Forces.fixed c.args.forces.now) (g.F.Forces.state c.args.forces.now) c.args.work.now (bin - 1) c.requires.ready.bodies c.requires.ready.depth)

pub returns-clause-makes : goal.returns-clause-makes
returns-clause-makes g c = λ from f.
    let gr = g.F.Forces.gravity c.args.forces.now in
    let e = option_copied c.args.course.now.expansion in
    let r = rules gr e in
    let bin = c.args.left.now.bin in
    let s = c.args.course.now.setup.now in
    let top = s.top_bin in
    let u = c.args.left.now.pause.now.tick in
    let ds = c.args.left.now.pause.now.depth.now in
    let B = c.args.set.now in
    let some : 1 ≤ bin = omega (arith, c.requires.above) in
    let few : bin ≤ 64 = omega (arith, c.requires.within, c.requires.timely.short) in
    let a = now c.args.set.now (g.F.Forces.gravity c.args.forces.now) (g.F.Forces.fixed c.args.forces.now) (g.F.Forces.state c.args.forces.now) (g.O.KickOut.faults c.args.out.now) (g.O.KickOut.yes c.args.out.now) (g.O.KickOut.took c.args.out.now) c.args.work.now in
    let b = now B (g.F.Forces.gravity c.args.forces.now) (g.F.Forces.fixed c.args.forces.now) (g.F.Forces.state c.args.forces.now) (g.O.KickOut.faults c.rest.new.out) (g.O.KickOut.yes c.rest.new.out) (g.O.KickOut.took c.rest.new.out) c.args.work.now in
    let z = now c.evolve-2.new.set (g.F.Forces.gravity c.evolve-2.new.forces) (g.F.Forces.fixed c.evolve-2.new.forces) (g.F.Forces.state c.evolve-2.new.forces) (g.O.KickOut.faults c.evolve-2.new.out) (g.O.KickOut.yes c.evolve-2.new.out) (g.O.KickOut.took c.evolve-2.new.out) c.evolve-2.new.work in
    let other : bin ≢ low_zeros u + 1 = λ h. omega (arith, c.if-bin-zeros.false, c.zeros.ensures.value, h) in
    finer_later g.F.Forces.passes {T = Unit {0}} {U = Field} r bin (ids_at B c.args.left.now.fast.now) u c.middle_of-middle.result from tt c.evolve-2.result a b z some few other c.middle_of-middle.ensures c.requires.reached f
    (c.in-Ok.ensures.makes B gr (g.F.Forces.fixed c.args.forces.now) (g.F.Forces.state c.args.forces.now) c.args.work.now (bin - 1) c.requires.ready.bodies c.requires.ready.depth) c.evolve-2.ensures.makes
