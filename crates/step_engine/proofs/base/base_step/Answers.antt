use Rattle.std.proofs.Common.{◌≡◌, ◌+◌, ◌^◌, ℕ, not, List, [], Option, Result, Ok, Err, refl, ap, sym, subst, arith, ◌≤◌, option_copied}
use Rattle.std.specs.List.{AllByRecursion}
use Rattle.nbody_model.specs.declared.field.Field.{Field}
use Rattle.nbody_model.specs.Bodies.{BodyData}
use Rattle.nbody_model.specs.Setups.{SetupData}
use Rattle.nbody_model.specs.Tables.{Gravity, Rules}
use Rattle.nbody_model.specs.Fields.{FieldData}
use Rattle.nbody_model.specs.Evolve.{ask_if, evolve}
use Rattle.model_laws.specs.Laws.{AreBodies}
use Rattle.model_laws.specs.Conserved.{start_of}
use Rattle.model_laws.specs.Nests.{ids_of}
use Rattle.step_engine.specs.declared.halt.Halt.TheVariants as halts
use Rattle.step_engine.specs.declared.step_end.StepCount.{StepCount}
use Rattle.step_engine.specs.declared.step_end.StepEnd.{StepEnd}
use Rattle.step_engine.specs.declared.step_end.StepEnd.TheVariants as ends
use Rattle.step_engine.specs.Halts.{end_of}
use Rattle.nbody_model.specs.Passes.{Passes}
use Rattle.step_engine.specs.Stands.{Now, now}
use Rattle.step_engine.specs.Stages.{rules}
use Rattle.step_engine.specs.BaseSteps.{Seen, StepEnds, is_known, whole_step}
use Rattle.step_engine.proofs.Leaves.{leads_any}
use Rattle.step_engine.proofs.Stepping.{most_of}
use Rattle.step_engine.proofs.Whole.{asked_step, whole_wants}
use Rattle.step_engine.proofs.Ending.{ends_ok, ends_halt, corrects_little, seen}
use Rattle.step_engine.proofs.base.base_step.Goals as goal

-- the same end, of the step of the definition
whole_ends : (g : Gravity) (passes : Passes) (A Z : Seen) (r : Rules) (k l : Option FieldData) (B : List BodyData) (t top : ℕ) (answer : Result StepCount StepEnd) → top ≡ r.gravity.setup.top_bin → k ≡ l →
    StepEnds g passes A Z (λ stop. evolve r stop top (ids_of B) t (ask_if (not (is_known k)) (ids_of B) (start_of B))) t (t + 2 ^ top) answer → StepEnds g passes A Z (whole_step r (is_known l) B t) t (t + 2 ^ top) answer
whole_ends g passes A Z r k l B t top answer e f s =
    subst (λ x. StepEnds g passes A Z (whole_step r (is_known x) B t) t (t + 2 ^ top) answer) f
    (subst (λ b. StepEnds g passes A Z (λ stop. evolve r stop b (ids_of B) t (ask_if (not (is_known k)) (ids_of B) (start_of B))) t (t + 2 ^ top) answer) e s)

pub returns-in-Err-clause-ends : goal.returns-in-Err-clause-ends
returns-in-Err-clause-ends g c =
    let gr = g.F.Forces.gravity c.args.forces.now in
    let e = option_copied c.args.expansion in
    let top = c.args.setup.now.top_bin in
    let t = c.args.tick in
    let B = c.args.set.now in
    let bodies : AreBodies B = subst AreBodies c.bodies.ensures.value c.keep_limits.ensures.bodies in
    let a : Now = record { bodies = B; gravity = gr; fixed = g.F.Forces.fixed c.args.forces.now; state = g.F.Forces.state c.args.forces.now; faults = g.O.KickOut.faults c.args.out.now; yes = g.O.KickOut.yes c.args.out.now; took = g.O.KickOut.took c.args.out.now; depth = []; kicks = 0; interactions = 0 } in
    whole_ends gr (g.F.Forces.passes gr (g.F.Forces.fixed c.args.forces.now)) (seen a) (seen a) (rules gr e) c.take-before.result c.args.known.now B t top (Err ends.Memory) (sym (ap (λ (s : SetupData). s.top_bin) c.requires.forces.setup)) c.take-before.ensures.value
    (ends_halt g.F.Forces.passes {T = Field} top (most_of top) t (t + 2 ^ top) (asked_step g.F.Forces.passes (rules gr e) top (ids_of B) t (not (is_known c.take-before.result))) halts.Memory a a refl refl (whole_wants g.F.Forces.passes {T = Field} (rules gr e) top (ids_of B) t (not (is_known c.take-before.result)) a a (leads_any (most_of top) a bodies) refl refl))

pub step_whole-requires-clause-ready : goal.step_whole-requires-clause-ready
step_whole-requires-clause-ready g c =
    let gr = g.F.Forces.gravity c.args.forces.now in
    let e = option_copied c.args.expansion in
    let top = c.args.setup.now.top_bin in
    let t = c.args.tick in
    let B = c.args.set.now in
    let bodies : AreBodies B = subst AreBodies c.bodies.ensures.value c.keep_limits.ensures.bodies in
    record { setup = c.requires.forces.setup; table = corrects_little gr.table c.requires.forces.table; bodies = bodies; kinds = subst (AllByRecursion (λ b. b.kind ≤ 5)) c.bodies.ensures.value c.keep_limits.ensures.kinds; total = c.total_of.ensures; depth = c.in-Ok.ensures.depth; counted = omega (arith, c.in-Ok.ensures.interactions) }

pub returns-in-Ok-step_whole-clause-ends : goal.returns-in-Ok-step_whole-clause-ends
returns-in-Ok-step_whole-clause-ends g c =
    let gr = g.F.Forces.gravity c.args.forces.now in
    let e = option_copied c.args.expansion in
    let top = c.args.setup.now.top_bin in
    let t = c.args.tick in
    let B = c.args.set.now in
    let a = now c.args.set.now (g.F.Forces.gravity c.args.forces.now) (g.F.Forces.fixed c.args.forces.now) (g.F.Forces.state c.args.forces.now) (g.O.KickOut.faults c.args.out.now) (g.O.KickOut.yes c.args.out.now) (g.O.KickOut.took c.args.out.now) c.in-Ok.work in
    let z = now c.step_whole.new.set (g.F.Forces.gravity c.step_whole.new.forces) (g.F.Forces.fixed c.step_whole.new.forces) (g.F.Forces.state c.step_whole.new.forces) (g.O.KickOut.faults c.step_whole.new.out) (g.O.KickOut.yes c.step_whole.new.out) (g.O.KickOut.took c.step_whole.new.out) c.step_whole.new.work in
    whole_ends gr (g.F.Forces.passes gr (g.F.Forces.fixed c.args.forces.now)) (seen a) (seen z) (rules gr e) c.take-before.result c.args.known.now B t top (Ok c.step_whole.new.work.count) (sym (ap (λ (s : SetupData). s.top_bin) c.requires.forces.setup)) c.take-before.ensures.value
    (ends_ok g.F.Forces.passes top (most_of top) t (t + 2 ^ top) (asked_step g.F.Forces.passes (rules gr e) top (ids_of B) t (not (is_known c.take-before.result))) c.in-Ok-step_whole.field a z c.in-Ok.ensures.kicks c.in-Ok.ensures.interactions c.in-Ok-step_whole.ensures.makes)

pub returns-in-Err-step_whole-clause-ends : goal.returns-in-Err-step_whole-clause-ends
returns-in-Err-step_whole-clause-ends g c =
    let gr = g.F.Forces.gravity c.args.forces.now in
    let e = option_copied c.args.expansion in
    let top = c.args.setup.now.top_bin in
    let t = c.args.tick in
    let B = c.args.set.now in
    let a = now c.args.set.now (g.F.Forces.gravity c.args.forces.now) (g.F.Forces.fixed c.args.forces.now) (g.F.Forces.state c.args.forces.now) (g.O.KickOut.faults c.args.out.now) (g.O.KickOut.yes c.args.out.now) (g.O.KickOut.took c.args.out.now) c.in-Ok.work in
    let z = now c.step_whole.new.set (g.F.Forces.gravity c.step_whole.new.forces) (g.F.Forces.fixed c.step_whole.new.forces) (g.F.Forces.state c.step_whole.new.forces) (g.O.KickOut.faults c.step_whole.new.out) (g.O.KickOut.yes c.step_whole.new.out) (g.O.KickOut.took c.step_whole.new.out) c.step_whole.new.work in
    rw c.end_of.ensures
    (
    whole_ends gr (g.F.Forces.passes gr (g.F.Forces.fixed c.args.forces.now)) (seen a) (seen z) (rules gr e) c.take-before.result c.args.known.now B t top (Err (end_of c.in-Err-step_whole.halt c.step_whole.new.work.depth.items c.step_whole.new.work.count)) (sym (ap (λ (s : SetupData). s.top_bin) c.requires.forces.setup)) c.take-before.ensures.value
    (ends_halt g.F.Forces.passes {T = Field} top (most_of top) t (t + 2 ^ top) (asked_step g.F.Forces.passes (rules gr e) top (ids_of B) t (not (is_known c.take-before.result))) c.in-Err-step_whole.halt a z c.in-Ok.ensures.kicks c.in-Ok.ensures.interactions c.in-Err-step_whole.ensures.makes))
