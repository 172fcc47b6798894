use Rattle.std.proofs.Common.{◌≡◌, ℕ, true, false, not, List, [], ◌∷◌, length, refl, ap, sym, ◌∙◌, subst, Ok}
use Rattle.std.proofs.lemmas.Bool.{false≢true}
use Rattle.nbody_model.specs.Bodies.{BodyData, only}
use Rattle.nbody_model.specs.Tables.{Gravity}
use Rattle.nbody_model.specs.Fields.{FieldData}
use Rattle.nbody_model.specs.Covers.{opening_of, interactions}
use Rattle.nbody_model.specs.Force.{forces}
use Rattle.nbody_model.specs.Evolve.{Asked, Going, tell, ask_if, is_empty}
use Rattle.kick_drift.specs.Parts.{ids_at}
use Rattle.step_engine.specs.Told.{AreForcesAmong}
use Rattle.step_engine.specs.Stands.{now}
use Rattle.step_engine.specs.Stages.{asks_fast}
use Rattle.step_engine.proofs.Joins.{same}
use Rattle.step_engine.proofs.Leaves.{conserved_same}
use Rattle.step_engine.proofs.Stepping.{staying, empty_ids}
use Rattle.step_engine.proofs.recursion.ask_fast.Goals as goal

nobody : (B : List BodyData) → only B [] ≡ []
nobody [] = refl
nobody (b ∷ B) = nobody B

no_forces_of : (g : Gravity) → forces g [] ≡ []
unfolding forces
no_forces_of g = refl

nothing_acts : (g : Gravity) → length (interactions (opening_of g.setup [])) ≡ 0
unfolding interactions
nothing_acts g = refl

none_among : (g : Gravity) (B : List BodyData) (ps : List ℕ) (f : FieldData) → is_empty ps ≡ true → f.forces ≡ [] → f.interactions ≡ 0 → AreForcesAmong g (only B (ids_at B ps)) f
none_among g B [] f e a b = subst (λ C. AreForcesAmong g C f) (sym (nobody B)) (record { forces = a ∙ sym (no_forces_of g); interactions = b ∙ sym (nothing_acts g) })
none_among g B (p ∷ ps) f e a b = absurd (false≢true e)

pub returns-then-is_empty-clause-forces : goal.returns-then-is_empty-clause-forces
returns-then-is_empty-clause-forces g c =
    none_among (g.F.Forces.gravity c.args.forces.now) c.args.set.now c.args.fast.now c.no_forces.result (sym c.is_empty.ensures ∙ c.if-is_empty.true) c.no_forces.ensures.forces c.no_forces.ensures.interactions

pub returns-clause-makes : goal.returns-clause-makes
returns-clause-makes g c = λ w n tick.
    let B = c.args.set.now in
    let F = ids_at B c.args.fast.now in
    let a = now B (g.F.Forces.gravity c.args.forces.now) (g.F.Forces.fixed c.args.forces.now) (g.F.Forces.state c.args.forces.now) (g.O.KickOut.faults c.args.out.now) (g.O.KickOut.yes c.args.out.now) (g.O.KickOut.took c.args.out.now) w in
    let z = now B (g.F.Forces.gravity c.ask.new.forces) (g.F.Forces.fixed c.ask.new.forces) (g.F.Forces.state c.ask.new.forces) (g.O.KickOut.faults c.ask.new.out) (g.O.KickOut.yes c.ask.new.out) (g.O.KickOut.took c.ask.new.out) w in
    let some : is_empty F ≡ false = empty_ids B c.args.fast.now ∙ sym c.is_empty.ensures ∙ c.if-is_empty.false in
    same g.F.Forces.passes n 0 tick tick (asks_fast F) (λ stop p. Going (tell (Asked (only p.bodies F)) p)) c.ask.result a z (λ stop p b. ap (λ t. Going (ask_if (not t) F p)) some) (c.ask.ensures.makes w n tick)

pub returns-then-is_empty-clause-makes : goal.returns-then-is_empty-clause-makes
returns-then-is_empty-clause-makes g c = λ w n tick.
    let B = c.args.set.now in
    let F = ids_at B c.args.fast.now in
    let a = now B (g.F.Forces.gravity c.args.forces.now) (g.F.Forces.fixed c.args.forces.now) (g.F.Forces.state c.args.forces.now) (g.O.KickOut.faults c.args.out.now) (g.O.KickOut.yes c.args.out.now) (g.O.KickOut.took c.args.out.now) w in
    let none : is_empty F ≡ true = empty_ids B c.args.fast.now ∙ sym c.is_empty.ensures ∙ c.if-is_empty.true in
    same g.F.Forces.passes n 0 tick tick (asks_fast F) (λ stop p. Going p) (Ok c.no_forces.result) a a (λ stop p b. ap (λ t. Going (ask_if (not t) F p)) none) (staying g.F.Forces.passes n 0 tick tick c.no_forces.result a (conserved_same B c.requires.bodies))
