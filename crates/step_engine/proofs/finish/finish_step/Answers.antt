use Rattle.std.proofs.Common.{◌≡◌, ◌≤◌, ◌<◌, ◌+◌, ◌-◌, ◌^◌, ℕ, List, [], length, Result, Ok, Err, refl, ap, sym, ◌∙◌, subst, arith, option_copied}
use Rattle.std.specs.List.{AllByRecursion}
use Rattle.nbody_model.specs.declared.field.Field.{Field}
use Rattle.nbody_model.specs.Bodies.{BodyData, only}
use Rattle.nbody_model.specs.Setups.{SetupData}
use Rattle.nbody_model.specs.Tables.{Gravity, Rules}
use Rattle.nbody_model.specs.States.{StateData, low_zeros}
use Rattle.nbody_model.specs.Continue.{continue}
use Rattle.model_laws.specs.Laws.{AreBodies}
use Rattle.model_laws.specs.Conserved.{start_of}
use Rattle.model_laws.specs.Nests.{ids_of}
use Rattle.kick_drift.specs.Parts.{ids_at}
use Rattle.step_engine.specs.declared.halt.Halt.TheVariants as halts
use Rattle.step_engine.specs.declared.step_end.StepCount.{StepCount}
use Rattle.step_engine.specs.declared.step_end.StepEnd.{StepEnd}
use Rattle.step_engine.specs.declared.step_end.StepEnd.TheVariants as ends
use Rattle.step_engine.specs.Halts.{end_of}
use Rattle.step_engine.specs.Told.{AreForcesAmong}
use Rattle.nbody_model.specs.Passes.{Passes}
use Rattle.step_engine.specs.Stands.{Now, now}
use Rattle.step_engine.specs.Stages.{rules}
use Rattle.step_engine.specs.BaseSteps.{Seen, StepEnds}
use Rattle.step_engine.specs.Resumed.{deep_from, end_of_bin, rounds_end, rounds_left, whole_places}
use Rattle.step_engine.proofs.Keeps.{same_length}
use Rattle.step_engine.proofs.Leaves.{leads_any}
use Rattle.step_engine.proofs.Layers.{all_deep, deep_ascending}
use Rattle.step_engine.proofs.Ticks.{end_is}
use Rattle.step_engine.proofs.Whole.{only_all}
use Rattle.step_engine.proofs.Ending.{ends_ok, ends_halt, corrects_little, seen}
use Rattle.step_engine.proofs.Resuming.{continue_is, rounds_want}
use Rattle.step_engine.proofs.finish.finish_step.Goals as goal

-- the same end, of the definition's step
finish_ends : (g : Gravity) (passes : Passes) (A Z : Seen) (r : Rules) (σ : StateData) (top u k : ℕ) (B : List BodyData) (ds : List ℕ) (answer : Result StepCount StepEnd) →
    r.gravity.setup.top_bin ≡ top → k ≡ top → σ.bodies ≡ B → σ.depths ≡ ds → σ.tick ≡ u → length ds ≡ length B → low_zeros u < top →
    StepEnds g passes A Z (λ stop. rounds_left r top u B ds k stop (start_of B)) u (rounds_end u k) answer → StepEnds g passes A Z (λ stop. continue r stop σ (start_of σ.bodies)) u (end_of_bin top u) answer
finish_ends g passes A Z r σ top u k B ds answer t f b d at e above s =
    subst (λ X. StepEnds g passes A Z X u (end_of_bin top u) answer) (λ i stop. sym (continue_is r stop σ top u B ds t at b d e) i)
    (subst (λ v. StepEnds g passes A Z (λ stop. rounds_left r top u B ds top stop (start_of B)) u v answer) (end_is u top above)
    (subst (λ n. StepEnds g passes A Z (λ stop. rounds_left r top u B ds n stop (start_of B)) u (rounds_end u n) answer) f s))

pub returns-in-Err-clause-ends : goal.returns-in-Err-clause-ends
returns-in-Err-clause-ends g c = λ σ b d t.
    let gr = g.F.Forces.gravity c.args.forces.now in
    let e = option_copied c.args.expansion in
    let s = c.args.setup.now in
    let top = s.top_bin in
    let u = c.args.tick in
    let ds = c.args.depth.now in
    let B = c.args.set.now in
    let tops = ap (λ (s : SetupData). s.top_bin) c.requires.forces.setup in
    let bodies : AreBodies B = subst AreBodies c.bodies.ensures.value c.keep_limits.ensures.bodies in
    let a : Now = record { bodies = B; gravity = gr; fixed = g.F.Forces.fixed c.args.forces.now; state = g.F.Forces.state c.args.forces.now; faults = g.O.KickOut.faults c.args.out.now; yes = g.O.KickOut.yes c.args.out.now; took = g.O.KickOut.took c.args.out.now; depth = []; kicks = 0; interactions = 0 } in
    finish_ends gr (g.F.Forces.passes gr (g.F.Forces.fixed c.args.forces.now)) (seen a) (seen a) (rules gr e) σ top u top B ds (Err ends.Memory) tops refl b d t c.requires.rest.each c.requires.rest.not_whole
    (ends_halt g.F.Forces.passes {T = Field} top 0 u (rounds_end u top) (rounds_left (rules gr e) top u B ds top) halts.Memory a a refl refl (rounds_want g.F.Forces.passes {T = Field} (rules gr e) top u ds top 0 a (leads_any 0 a bodies)))

pub rounds-requires-clause-ready : goal.rounds-requires-clause-ready
rounds-requires-clause-ready g c =
    let gr = g.F.Forces.gravity c.args.forces.now in
    let e = option_copied c.args.expansion in
    let s = c.args.setup.now in
    let top = s.top_bin in
    let u = c.args.tick in
    let ds = c.args.depth.now in
    let B = c.args.set.now in
    let tops = ap (λ (s : SetupData). s.top_bin) c.requires.forces.setup in
    let bodies : AreBodies B = subst AreBodies c.bodies.ensures.value c.keep_limits.ensures.bodies in
    record { setup = c.requires.forces.setup; table = corrects_little gr.table c.requires.forces.table; bodies = bodies; kinds = subst (AllByRecursion (λ b. b.kind ≤ 5)) c.bodies.ensures.value c.keep_limits.ensures.kinds; total = c.total_of.ensures; depth = c.in-Ok.ensures.depth; counted = omega (arith, c.in-Ok.ensures.interactions) }

pub returns-in-Ok-rounds-clause-ends : goal.returns-in-Ok-rounds-clause-ends
returns-in-Ok-rounds-clause-ends g c = λ σ b d t.
    let gr = g.F.Forces.gravity c.args.forces.now in
    let e = option_copied c.args.expansion in
    let s = c.args.setup.now in
    let top = s.top_bin in
    let u = c.args.tick in
    let ds = c.args.depth.now in
    let B = c.args.set.now in
    let tops = ap (λ (s : SetupData). s.top_bin) c.requires.forces.setup in
    let k = c.setup.inside.top_bin in
    let same = ap (λ (s : SetupData). s.top_bin) c.setup.view_is in
    let a = now c.args.set.now (g.F.Forces.gravity c.args.forces.now) (g.F.Forces.fixed c.args.forces.now) (g.F.Forces.state c.args.forces.now) (g.O.KickOut.faults c.args.out.now) (g.O.KickOut.yes c.args.out.now) (g.O.KickOut.took c.args.out.now) c.in-Ok.work in
    let z = now c.rounds.new.set (g.F.Forces.gravity c.rounds.new.forces) (g.F.Forces.fixed c.rounds.new.forces) (g.F.Forces.state c.rounds.new.forces) (g.O.KickOut.faults c.rounds.new.out) (g.O.KickOut.yes c.rounds.new.out) (g.O.KickOut.took c.rounds.new.out) c.rounds.new.work in
    finish_ends gr (g.F.Forces.passes gr (g.F.Forces.fixed c.args.forces.now)) (seen a) (seen z) (rules gr e) σ top u k B ds (Ok c.rounds.new.work.count) tops same b d t c.requires.rest.each c.requires.rest.not_whole
    (ends_ok g.F.Forces.passes top (2 ^ (k + 1)) u (rounds_end u k) (rounds_left (rules gr e) top u B ds k) c.in-Ok-rounds.field a z c.in-Ok.ensures.kicks c.in-Ok.ensures.interactions c.in-Ok-rounds.ensures.makes)

pub returns-in-Err-rounds-clause-ends : goal.returns-in-Err-rounds-clause-ends
returns-in-Err-rounds-clause-ends g c = λ σ b d t.
    let gr = g.F.Forces.gravity c.args.forces.now in
    let e = option_copied c.args.expansion in
    let s = c.args.setup.now in
    let top = s.top_bin in
    let u = c.args.tick in
    let ds = c.args.depth.now in
    let B = c.args.set.now in
    let tops = ap (λ (s : SetupData). s.top_bin) c.requires.forces.setup in
    let k = c.setup.inside.top_bin in
    let same = ap (λ (s : SetupData). s.top_bin) c.setup.view_is in
    let a = now c.args.set.now (g.F.Forces.gravity c.args.forces.now) (g.F.Forces.fixed c.args.forces.now) (g.F.Forces.state c.args.forces.now) (g.O.KickOut.faults c.args.out.now) (g.O.KickOut.yes c.args.out.now) (g.O.KickOut.took c.args.out.now) c.in-Ok.work in
    let z = now c.rounds.new.set (g.F.Forces.gravity c.rounds.new.forces) (g.F.Forces.fixed c.rounds.new.forces) (g.F.Forces.state c.rounds.new.forces) (g.O.KickOut.faults c.rounds.new.out) (g.O.KickOut.yes c.rounds.new.out) (g.O.KickOut.took c.rounds.new.out) c.rounds.new.work in
    rw c.end_of.ensures
    (
    finish_ends gr (g.F.Forces.passes gr (g.F.Forces.fixed c.args.forces.now)) (seen a) (seen z) (rules gr e) σ top u k B ds (Err (end_of c.in-Err-rounds.halt c.rounds.new.work.depth.items c.rounds.new.work.count)) tops same b d t c.requires.rest.each c.requires.rest.not_whole
    (ends_halt g.F.Forces.passes {T = Field} top (2 ^ (k + 1)) u (rounds_end u k) (rounds_left (rules gr e) top u B ds k) c.in-Err-rounds.halt a z c.in-Ok.ensures.kicks c.in-Ok.ensures.interactions c.in-Err-rounds.ensures.makes))

pub returns-in-Ok-rounds-clause-known : goal.returns-in-Ok-rounds-clause-known
returns-in-Ok-rounds-clause-known g c =
    let gr = g.F.Forces.gravity c.args.forces.now in
    let e = option_copied c.args.expansion in
    let s = c.args.setup.now in
    let top = s.top_bin in
    let u = c.args.tick in
    let ds = c.args.depth.now in
    let B = c.args.set.now in
    let tops = ap (λ (s : SetupData). s.top_bin) c.requires.forces.setup in
    let k = c.setup.inside.top_bin in
    let same = ap (λ (s : SetupData). s.top_bin) c.setup.view_is in
    let S = c.rounds.new.set in
    let kept = c.in-Ok-rounds.ensures.makes.conserved in
    let each : length ds ≡ length S = c.requires.rest.each ∙ sym (same_length B S kept) in
    let none : top - k ≡ 0 = omega (arith, same) in
    let all : ids_at S (whole_places top ds k) ≡ ids_of S = ap (λ n. ids_at S (deep_from n 0 ds)) none ∙ all_deep S ds each in
    let everyone : only S (ids_at S (whole_places top ds k)) ≡ S = only_all S (whole_places top ds k) kept.bodies.valid.ascending (deep_ascending S (top - k) ds each) all in
    subst (λ C. AreForcesAmong gr C c.in-Ok-rounds.field) everyone c.in-Ok-rounds.ensures.forces
