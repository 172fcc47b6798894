use Rattle.std.proofs.Common.{not, sym, subst, Option}
use Rattle.nbody_model.specs.declared.field.Field.{Field}
use Rattle.nbody_model.specs.Fields.{FieldData}
use Rattle.nbody_model.specs.Evolve.{Going, ask_if}
use Rattle.kick_drift.specs.Parts.{ids_at}
use Rattle.step_engine.specs.BaseSteps.{is_known}
use Rattle.step_engine.specs.Stands.{now}
use Rattle.step_engine.specs.Ends.{Makes}
use Rattle.step_engine.proofs.base.first_forces.Goals as goal

pub returns-in-None-clause-makes : goal.returns-in-None-clause-makes
returns-in-None-clause-makes g c = λ w n tick.
    let B = c.args.set.now in
    let a = now B (g.F.Forces.gravity c.args.forces.now) (g.F.Forces.fixed c.args.forces.now) (g.F.Forces.state c.args.forces.now) (g.O.KickOut.faults c.args.out.now) (g.O.KickOut.yes c.args.out.now) (g.O.KickOut.took c.args.out.now) w in
    let z = now B (g.F.Forces.gravity c.ask.new.forces) (g.F.Forces.fixed c.ask.new.forces) (g.F.Forces.state c.ask.new.forces) (g.O.KickOut.faults c.ask.new.out) (g.O.KickOut.yes c.ask.new.out) (g.O.KickOut.took c.ask.new.out) w in
    subst (λ (k : Option FieldData). Makes {T = Field} g.F.Forces.passes n 0 tick tick (λ stop p. Going (ask_if (not (is_known k)) (ids_at B c.args.part.now) p)) c.ask.result a z) (sym c.in-None.is) (c.ask.ensures.makes w n tick)
