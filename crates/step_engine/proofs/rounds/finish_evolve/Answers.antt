use Rattle.std.proofs.Common.{◌≤◌, ◌+◌, ◌-◌, ◌^◌, refl, sym, subst, arith, option_copied}
use Rattle.nbody_model.specs.declared.field.Field.{Field}
use Rattle.step_engine.specs.Stands.{now}
use Rattle.step_engine.specs.Stages.{rules}
use Rattle.nbody_model.specs.Bodies.{only}
use Rattle.nbody_model.specs.Tables.{Gravity}
use Rattle.kick_drift.specs.Parts.{AreAscending, ids_at}
use Rattle.step_engine.specs.Told.{AreForcesAmong}
use Rattle.step_engine.specs.Stands.{AreOf, IsTimely}
use Rattle.step_engine.specs.Resumed.{end_of_bin, whole_places, quick_parts, finer_left}
use Rattle.step_engine.proofs.Keeps.{ascending_on, of_on}
use Rattle.step_engine.proofs.Ticks.{from_start, timely_whole, width_most}
use Rattle.step_engine.proofs.Layers.{deep_ascending, quick_of}
use Rattle.step_engine.proofs.Closing.{ready_made}
use Rattle.step_engine.proofs.Whole.{forces_of_all}
use Rattle.step_engine.proofs.Resuming.{round_halts, round_made}
use Rattle.step_engine.proofs.rounds.finish_evolve.Goals as goal

pub finer-requires-clause-places : goal.finer-requires-clause-places
finer-requires-clause-places g c =
    let s = c.args.course.now.setup.now in
    let top = s.top_bin in
    let u = c.args.left.now.pause.now.tick in
    let ds = c.args.left.now.pause.now.depth.now in
    let B = c.args.set.now in
    let bin = c.args.left.now.bin in
    subst (AreAscending B) (sym c.requires.fast) (deep_ascending B (top - bin + 1) ds c.requires.inside.each)

pub returns-in-Err-clause-makes : goal.returns-in-Err-clause-makes
returns-in-Err-clause-makes g c = λ from f.
    let gr = g.F.Forces.gravity c.args.forces.now in
    let e = option_copied c.args.course.now.expansion in
    let r = rules gr e in
    let bin = c.args.left.now.bin in
    let s = c.args.course.now.setup.now in
    let top = s.top_bin in
    let u = c.args.left.now.pause.now.tick in
    let ds = c.args.left.now.pause.now.depth.now in
    let B = c.args.set.now in
    let a = now c.args.set.now (g.F.Forces.gravity c.args.forces.now) (g.F.Forces.fixed c.args.forces.now) (g.F.Forces.state c.args.forces.now) (g.O.KickOut.faults c.args.out.now) (g.O.KickOut.yes c.args.out.now) (g.O.KickOut.took c.args.out.now) c.args.work.now in
    let m = now c.finer.new.set (g.F.Forces.gravity c.finer.new.forces) (g.F.Forces.fixed c.finer.new.forces) (g.F.Forces.state c.finer.new.forces) (g.O.KickOut.faults c.finer.new.out) (g.O.KickOut.yes c.finer.new.out) (g.O.KickOut.took c.finer.new.out) c.finer.new.work in
    round_halts g.F.Forces.passes {T = Field} {U = Field} r top u ds c.args.part.now c.args.left.now.fast.now bin from c.in-Err.e a m c.requires.part c.requires.fast (c.in-Err.ensures.makes from f)

pub close-requires-clause-ready : goal.close-requires-clause-ready
close-requires-clause-ready g c =
    let gr = g.F.Forces.gravity c.args.forces.now in
    let e = option_copied c.args.course.now.expansion in
    let r = rules gr e in
    let bin = c.args.left.now.bin in
    let s = c.args.course.now.setup.now in
    let top = s.top_bin in
    let u = c.args.left.now.pause.now.tick in
    let ds = c.args.left.now.pause.now.depth.now in
    let B = c.args.set.now in
    let a = now c.args.set.now (g.F.Forces.gravity c.args.forces.now) (g.F.Forces.fixed c.args.forces.now) (g.F.Forces.state c.args.forces.now) (g.O.KickOut.faults c.args.out.now) (g.O.KickOut.yes c.args.out.now) (g.O.KickOut.took c.args.out.now) c.args.work.now in
    let m = now c.finer.new.set (g.F.Forces.gravity c.finer.new.forces) (g.F.Forces.fixed c.finer.new.forces) (g.F.Forces.state c.finer.new.forces) (g.O.KickOut.faults c.finer.new.out) (g.O.KickOut.yes c.finer.new.out) (g.O.KickOut.took c.finer.new.out) c.finer.new.work in
    let one = c.in-Ok.ensures.makes 0 (from_start u bin) in
    ready_made g.F.Forces.passes top (2 ^ bin - 2) 0 (end_of_bin bin u) (finer_left r u bin (ids_at B c.args.left.now.fast.now) (quick_parts B top ds bin)) c.in-Ok.quick s c.args.course.now.total a m one c.requires.ready

pub close-requires-clause-part : goal.close-requires-clause-part
close-requires-clause-part g c =
    let s = c.args.course.now.setup.now in
    let top = s.top_bin in
    let u = c.args.left.now.pause.now.tick in
    let ds = c.args.left.now.pause.now.depth.now in
    let B = c.args.set.now in
    let bin = c.args.left.now.bin in
    let S = c.finer.new.set in
    let one = c.in-Ok.ensures.makes 0 (from_start u bin) in
    let whole : AreAscending B c.args.part.now = subst (AreAscending B) (sym c.requires.part) (deep_ascending B (top - bin) ds c.requires.inside.each) in
    let of : AreOf B c.args.part.now c.args.left.now.fast.now = subst (λ ps. AreOf B ps c.args.left.now.fast.now) (sym c.requires.part) (subst (AreOf B (whole_places top ds bin)) (sym c.requires.fast) (quick_of B top ds bin c.requires.inside.each)) in
    ascending_on B S c.args.part.now one.conserved whole

pub close-requires-clause-fast : goal.close-requires-clause-fast
close-requires-clause-fast g c =
    let s = c.args.course.now.setup.now in
    let top = s.top_bin in
    let u = c.args.left.now.pause.now.tick in
    let ds = c.args.left.now.pause.now.depth.now in
    let B = c.args.set.now in
    let bin = c.args.left.now.bin in
    let S = c.finer.new.set in
    let one = c.in-Ok.ensures.makes 0 (from_start u bin) in
    let whole : AreAscending B c.args.part.now = subst (AreAscending B) (sym c.requires.part) (deep_ascending B (top - bin) ds c.requires.inside.each) in
    let of : AreOf B c.args.part.now c.args.left.now.fast.now = subst (λ ps. AreOf B ps c.args.left.now.fast.now) (sym c.requires.part) (subst (AreOf B (whole_places top ds bin)) (sym c.requires.fast) (quick_of B top ds bin c.requires.inside.each)) in
    of_on B S c.args.part.now c.args.left.now.fast.now one.conserved of

pub close-requires-clause-quick : goal.close-requires-clause-quick
close-requires-clause-quick g c =
    let s = c.args.course.now.setup.now in
    let top = s.top_bin in
    let u = c.args.left.now.pause.now.tick in
    let ds = c.args.left.now.pause.now.depth.now in
    let B = c.args.set.now in
    let bin = c.args.left.now.bin in
    let S = c.finer.new.set in
    let one = c.in-Ok.ensures.makes 0 (from_start u bin) in
    subst (λ (x : Gravity). AreForcesAmong x (only S (ids_at S c.args.left.now.fast.now)) c.in-Ok.quick) (sym one.gravity) c.in-Ok.ensures.forces

pub close-requires-clause-timely : goal.close-requires-clause-timely
close-requires-clause-timely g c =
    let gr = g.F.Forces.gravity c.args.forces.now in
    let e = option_copied c.args.course.now.expansion in
    let r = rules gr e in
    let bin = c.args.left.now.bin in
    let s = c.args.course.now.setup.now in
    let top = s.top_bin in
    let u = c.args.left.now.pause.now.tick in
    let ds = c.args.left.now.pause.now.depth.now in
    let B = c.args.set.now in
    let some : 1 ≤ bin = omega (arith, c.requires.above) in
    subst (λ t. IsTimely e bin t 0) (sym c.began-start.ensures.value) (timely_whole e s bin u c.requires.timely some c.requires.within)

pub close-requires-clause-room : goal.close-requires-clause-room
close-requires-clause-room g c =
    let s = c.args.course.now.setup.now in
    let top = s.top_bin in
    let u = c.args.left.now.pause.now.tick in
    let ds = c.args.left.now.pause.now.depth.now in
    let B = c.args.set.now in
    let bin = c.args.left.now.bin in
    let one = c.in-Ok.ensures.makes 0 (from_start u bin) in
    omega (arith, one.few, c.requires.room, width_most bin (omega (arith, c.requires.within, c.requires.timely.short)))

pub returns-clause-forces : goal.returns-clause-forces
returns-clause-forces g c =
    let s = c.args.course.now.setup.now in
    let top = s.top_bin in
    let u = c.args.left.now.pause.now.tick in
    let ds = c.args.left.now.pause.now.depth.now in
    let B = c.args.set.now in
    let bin = c.args.left.now.bin in
    let gr = g.F.Forces.gravity c.args.forces.now in
    let one = c.in-Ok.ensures.makes 0 (from_start u bin) in
    let Z = only c.close.new.set (ids_at c.close.new.set c.args.part.now) in
    forces_of_all c.close.result (g.F.Forces.gravity c.finer.new.forces) gr Z Z one.gravity refl c.close.ensures.forces

pub returns-clause-makes : goal.returns-clause-makes
returns-clause-makes g c = λ from f.
    let gr = g.F.Forces.gravity c.args.forces.now in
    let e = option_copied c.args.course.now.expansion in
    let r = rules gr e in
    let bin = c.args.left.now.bin in
    let s = c.args.course.now.setup.now in
    let top = s.top_bin in
    let u = c.args.left.now.pause.now.tick in
    let ds = c.args.left.now.pause.now.depth.now in
    let B = c.args.set.now in
    let some : 1 ≤ bin = omega (arith, c.requires.above) in
    let a = now c.args.set.now (g.F.Forces.gravity c.args.forces.now) (g.F.Forces.fixed c.args.forces.now) (g.F.Forces.state c.args.forces.now) (g.O.KickOut.faults c.args.out.now) (g.O.KickOut.yes c.args.out.now) (g.O.KickOut.took c.args.out.now) c.args.work.now in
    let m = now c.finer.new.set (g.F.Forces.gravity c.finer.new.forces) (g.F.Forces.fixed c.finer.new.forces) (g.F.Forces.state c.finer.new.forces) (g.O.KickOut.faults c.finer.new.out) (g.O.KickOut.yes c.finer.new.out) (g.O.KickOut.took c.finer.new.out) c.finer.new.work in
    let z = now c.close.new.set (g.F.Forces.gravity c.close.new.forces) (g.F.Forces.fixed c.close.new.forces) (g.F.Forces.state c.close.new.forces) (g.O.KickOut.faults c.close.new.out) (g.O.KickOut.yes c.close.new.out) (g.O.KickOut.took c.close.new.out) c.close.new.work in
    round_made g.F.Forces.passes {T = Field} {U = Field} e top u ds c.args.part.now c.args.left.now.fast.now bin from c.began-start.result c.in-Ok.quick c.close.result a m z some c.requires.part c.requires.fast c.began-start.ensures.value f (c.in-Ok.ensures.makes from f) (c.close.ensures.makes top)
