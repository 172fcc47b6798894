use Rattle.std.proofs.Common.{◌≤◌, ◌+◌, ◌-◌, ap, sym, ◌∙◌, subst, arith, option_copied}
use Rattle.nbody_model.specs.declared.field.Field.{Field}
use Rattle.step_engine.specs.Stands.{now}
use Rattle.step_engine.specs.Stages.{rules}
use Rattle.nbody_model.specs.Setups.{SetupData}
use Rattle.kick_drift.specs.Parts.{ids_at}
use Rattle.step_engine.specs.Resumed.{DeepensEach, middle_of}
use Rattle.step_engine.proofs.Keeps.{same_length}
use Rattle.step_engine.proofs.Ticks.{from_start}
use Rattle.step_engine.proofs.Outer.{room_by}
use Rattle.step_engine.proofs.Resuming.{finer_goes, finer_halts}
use Rattle.step_engine.proofs.rounds.finer.Goals as goal

pub deepen_each-requires-clause-room : goal.deepen_each-requires-clause-room
deepen_each-requires-clause-room g c =
    let gr = g.F.Forces.gravity c.args.forces.now in
    let e = option_copied c.args.course.now.expansion in
    let r = rules gr e in
    let bin = c.args.left.now.bin in
    let s = c.args.course.now.setup.now in
    let top = s.top_bin in
    let u = c.args.left.now.pause.now.tick in
    let ds = c.args.left.now.pause.now.depth.now in
    let B = c.args.set.now in
    let a = now c.args.set.now (g.F.Forces.gravity c.args.forces.now) (g.F.Forces.fixed c.args.forces.now) (g.F.Forces.state c.args.forces.now) (g.O.KickOut.faults c.args.out.now) (g.O.KickOut.yes c.args.out.now) (g.O.KickOut.took c.args.out.now) c.args.work.now in
    let b = now c.second_finer.new.set (g.F.Forces.gravity c.second_finer.new.forces) (g.F.Forces.fixed c.second_finer.new.forces) (g.F.Forces.state c.second_finer.new.forces) (g.O.KickOut.faults c.second_finer.new.out) (g.O.KickOut.yes c.second_finer.new.out) (g.O.KickOut.took c.second_finer.new.out) c.second_finer.new.work in
    let one = c.in-Err.ensures.makes 0 (from_start u bin) in
    room_by (bin - 1) Field c.in-Err.halt ds a b (omega (arith, c.requires.timely.short, c.requires.within)) (c.requires.inside.each ∙ sym (same_length B c.second_finer.new.set one.conserved)) one.cause

pub returns-in-Ok-clause-makes : goal.returns-in-Ok-clause-makes
returns-in-Ok-clause-makes g c = λ from f.
    let gr = g.F.Forces.gravity c.args.forces.now in
    let e = option_copied c.args.course.now.expansion in
    let r = rules gr e in
    let bin = c.args.left.now.bin in
    let s = c.args.course.now.setup.now in
    let top = s.top_bin in
    let u = c.args.left.now.pause.now.tick in
    let ds = c.args.left.now.pause.now.depth.now in
    let B = c.args.set.now in
    let a = now c.args.set.now (g.F.Forces.gravity c.args.forces.now) (g.F.Forces.fixed c.args.forces.now) (g.F.Forces.state c.args.forces.now) (g.O.KickOut.faults c.args.out.now) (g.O.KickOut.yes c.args.out.now) (g.O.KickOut.took c.args.out.now) c.args.work.now in
    let b = now c.second_finer.new.set (g.F.Forces.gravity c.second_finer.new.forces) (g.F.Forces.fixed c.second_finer.new.forces) (g.F.Forces.state c.second_finer.new.forces) (g.O.KickOut.faults c.second_finer.new.out) (g.O.KickOut.yes c.second_finer.new.out) (g.O.KickOut.took c.second_finer.new.out) c.second_finer.new.work in
    let reached : u ≤ middle_of bin u = omega (arith, c.if-pause-middle_of.true, c.middle_of.ensures) in
    finer_goes g.F.Forces.passes {T = Field} r top u ds bin (ids_at B c.args.left.now.fast.now) from c.in-Ok.quick a b reached (c.in-Ok.ensures.makes from f)

pub returns-in-Err-clause-makes : goal.returns-in-Err-clause-makes
returns-in-Err-clause-makes g c = λ from f.
    let gr = g.F.Forces.gravity c.args.forces.now in
    let e = option_copied c.args.course.now.expansion in
    let r = rules gr e in
    let bin = c.args.left.now.bin in
    let s = c.args.course.now.setup.now in
    let top = s.top_bin in
    let u = c.args.left.now.pause.now.tick in
    let ds = c.args.left.now.pause.now.depth.now in
    let B = c.args.set.now in
    let some : 1 ≤ bin = omega (arith, c.requires.above) in
    let a = now c.args.set.now (g.F.Forces.gravity c.args.forces.now) (g.F.Forces.fixed c.args.forces.now) (g.F.Forces.state c.args.forces.now) (g.O.KickOut.faults c.args.out.now) (g.O.KickOut.yes c.args.out.now) (g.O.KickOut.took c.args.out.now) c.args.work.now in
    let b = now c.second_finer.new.set (g.F.Forces.gravity c.second_finer.new.forces) (g.F.Forces.fixed c.second_finer.new.forces) (g.F.Forces.state c.second_finer.new.forces) (g.O.KickOut.faults c.second_finer.new.out) (g.O.KickOut.yes c.second_finer.new.out) (g.O.KickOut.took c.second_finer.new.out) c.second_finer.new.work in
    let reached : u ≤ middle_of bin u = omega (arith, c.if-pause-middle_of.true, c.middle_of.ensures) in
    let tops = ap (λ (s : SetupData). s.top_bin) c.setup.view_is in
    let deeper : DeepensEach c.in-Err.halt (top + 1 - bin) ds c.second_finer.new.work.depth.items c.deepen_each.new.depth.items =
    subst (λ n. DeepensEach c.in-Err.halt (n + 1 - bin) ds c.second_finer.new.work.depth.items c.deepen_each.new.depth.items) tops c.deepen_each.ensures.deeper in
    rw c.deepen_each.ensures.same
    (finer_halts g.F.Forces.passes {T = Field} r top u ds bin (ids_at B c.args.left.now.fast.now) from c.in-Err.halt a b c.deepen_each.new.depth.items some c.requires.within reached c.requires.inside.each deeper (c.in-Err.ensures.makes from f))
