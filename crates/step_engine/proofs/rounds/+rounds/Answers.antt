use Rattle.std.proofs.Common.{◌<◌, ◌+◌, ◌-◌, ◌^◌, ◌∙◌, arith, option_copied}
use Rattle.nbody_model.specs.declared.field.Field.{Field}
use Rattle.step_engine.specs.Stands.{now}
use Rattle.step_engine.specs.Stages.{rules}
use Rattle.nbody_model.specs.States.{low_zeros}
use Rattle.step_engine.specs.Resumed.{rounds_end, rounds_left}
use Rattle.step_engine.proofs.Ticks.{width_most}
use Rattle.step_engine.proofs.Closing.{ready_made}
use Rattle.step_engine.proofs.Resuming.{rounds_first, rounds_halt, rounds_on}
use Rattle.step_engine.proofs.rounds.+rounds.Goals as goal

pub returns-then-bin-zeros-clause-makes : goal.returns-then-bin-zeros-clause-makes
returns-then-bin-zeros-clause-makes g t' c =
    let gr = g.F.Forces.gravity c.args.forces.now in
    let e = option_copied c.args.course.now.expansion in
    let r = rules gr e in
    let bin = c.args.bin in
    let s = c.args.course.now.setup.now in
    let top = s.top_bin in
    let u = c.args.pause.now.tick in
    let ds = c.args.pause.now.depth.now in
    let B = c.args.set.now in
    let a = now c.args.set.now (g.F.Forces.gravity c.args.forces.now) (g.F.Forces.fixed c.args.forces.now) (g.F.Forces.state c.args.forces.now) (g.O.KickOut.faults c.args.out.now) (g.O.KickOut.yes c.args.out.now) (g.O.KickOut.took c.args.out.now) c.args.work.now in
    let z = now B (g.F.Forces.gravity c.first_forces.new.forces) (g.F.Forces.fixed c.first_forces.new.forces) (g.F.Forces.state c.first_forces.new.forces) (g.O.KickOut.faults c.first_forces.new.out) (g.O.KickOut.yes c.first_forces.new.out) (g.O.KickOut.took c.first_forces.new.out) c.args.work.now in
    rounds_first g.F.Forces.passes {T = Field} r top u ds bin c.first_forces.result a z (c.if-bin-zeros.true ∙ c.zeros.ensures.value) (c.first_forces.ensures.makes c.args.work.now top u)

pub returns-in-Err-clause-makes : goal.returns-in-Err-clause-makes
returns-in-Err-clause-makes g t' c =
    let gr = g.F.Forces.gravity c.args.forces.now in
    let e = option_copied c.args.course.now.expansion in
    let r = rules gr e in
    let bin = c.args.bin in
    let s = c.args.course.now.setup.now in
    let top = s.top_bin in
    let u = c.args.pause.now.tick in
    let ds = c.args.pause.now.depth.now in
    let B = c.args.set.now in
    let a = now c.args.set.now (g.F.Forces.gravity c.args.forces.now) (g.F.Forces.fixed c.args.forces.now) (g.F.Forces.state c.args.forces.now) (g.O.KickOut.faults c.args.out.now) (g.O.KickOut.yes c.args.out.now) (g.O.KickOut.took c.args.out.now) c.args.work.now in
    let m = now c.rounds.new.set (g.F.Forces.gravity c.rounds.new.forces) (g.F.Forces.fixed c.rounds.new.forces) (g.F.Forces.state c.rounds.new.forces) (g.O.KickOut.faults c.rounds.new.out) (g.O.KickOut.yes c.rounds.new.out) (g.O.KickOut.took c.rounds.new.out) c.rounds.new.work in
    let above : low_zeros u < bin = omega (arith, c.if-bin-zeros.false, c.zeros.ensures.value, c.requires.above) in
    rounds_halt g.F.Forces.passes {T = Field} r top u ds bin c.in-Err.e a m above c.in-Err.ensures.makes

pub round-requires-clause-ready : goal.round-requires-clause-ready
round-requires-clause-ready g t' c =
    let gr = g.F.Forces.gravity c.args.forces.now in
    let e = option_copied c.args.course.now.expansion in
    let r = rules gr e in
    let bin = c.args.bin in
    let s = c.args.course.now.setup.now in
    let top = s.top_bin in
    let u = c.args.pause.now.tick in
    let ds = c.args.pause.now.depth.now in
    let B = c.args.set.now in
    let a = now c.args.set.now (g.F.Forces.gravity c.args.forces.now) (g.F.Forces.fixed c.args.forces.now) (g.F.Forces.state c.args.forces.now) (g.O.KickOut.faults c.args.out.now) (g.O.KickOut.yes c.args.out.now) (g.O.KickOut.took c.args.out.now) c.args.work.now in
    let m = now c.rounds.new.set (g.F.Forces.gravity c.rounds.new.forces) (g.F.Forces.fixed c.rounds.new.forces) (g.F.Forces.state c.rounds.new.forces) (g.O.KickOut.faults c.rounds.new.out) (g.O.KickOut.yes c.rounds.new.out) (g.O.KickOut.took c.rounds.new.out) c.rounds.new.work in
    ready_made g.F.Forces.passes top (2 ^ (bin - 1 + 1)) u (rounds_end u (bin - 1)) (rounds_left r top u B ds (bin - 1)) c.in-Ok.quick s c.args.course.now.total a m c.in-Ok.ensures.makes c.requires.ready

pub round-requires-clause-room : goal.round-requires-clause-room
round-requires-clause-room g t' c =
    let bin = c.args.bin in
    omega (arith, c.in-Ok.ensures.makes.few, c.requires.none, width_most (bin - 1 + 1) (omega (arith, c.requires.within, c.requires.timely.short)))

pub returns-clause-makes : goal.returns-clause-makes
returns-clause-makes g t' c =
    let gr = g.F.Forces.gravity c.args.forces.now in
    let e = option_copied c.args.course.now.expansion in
    let r = rules gr e in
    let bin = c.args.bin in
    let s = c.args.course.now.setup.now in
    let top = s.top_bin in
    let u = c.args.pause.now.tick in
    let ds = c.args.pause.now.depth.now in
    let B = c.args.set.now in
    let a = now c.args.set.now (g.F.Forces.gravity c.args.forces.now) (g.F.Forces.fixed c.args.forces.now) (g.F.Forces.state c.args.forces.now) (g.O.KickOut.faults c.args.out.now) (g.O.KickOut.yes c.args.out.now) (g.O.KickOut.took c.args.out.now) c.args.work.now in
    let m = now c.rounds.new.set (g.F.Forces.gravity c.rounds.new.forces) (g.F.Forces.fixed c.rounds.new.forces) (g.F.Forces.state c.rounds.new.forces) (g.O.KickOut.faults c.rounds.new.out) (g.O.KickOut.yes c.rounds.new.out) (g.O.KickOut.took c.rounds.new.out) c.rounds.new.work in
    let z = now c.round.new.set (g.F.Forces.gravity c.round.new.forces) (g.F.Forces.fixed c.round.new.forces) (g.F.Forces.state c.round.new.forces) (g.O.KickOut.faults c.round.new.out) (g.O.KickOut.yes c.round.new.out) (g.O.KickOut.took c.round.new.out) c.round.new.work in
    let above : low_zeros u < bin = omega (arith, c.if-bin-zeros.false, c.zeros.ensures.value, c.requires.above) in
    rounds_on g.F.Forces.passes {T = Field} {U = Field} e top u ds bin c.in-Ok.quick c.round.result a m z above c.in-Ok.ensures.makes c.round.ensures.makes
