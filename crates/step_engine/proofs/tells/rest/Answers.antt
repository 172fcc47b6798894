use Rattle.std.proofs.Common.{◌∷◌, [], refl, subst}
use Rattle.store_io.specs.Stops.{YesRose}
use Rattle.step_engine.specs.Taken.{TookRest, Adds}
use Rattle.step_engine.specs.Stands.{now}
use Rattle.step_engine.proofs.Leaves.{leads_same, rest_passed, rest_taken}
use Rattle.step_engine.proofs.tells.rest.Goals as goal

pub returns-then-rested-clause-makes : goal.returns-then-rested-clause-makes
returns-then-rested-clause-makes g c = λ B gr fixed state w n b d.
    let a = now B gr fixed state (g.O.KickOut.faults c.args.out.now) (g.O.KickOut.yes c.args.out.now) (g.O.KickOut.took c.args.out.now) w in
    rest_taken g.F.Forces.passes (Unit {0}) n c.args.tick a (g.O.KickOut.faults c.rested.new.self) (g.O.KickOut.yes c.rested.new.self) (g.O.KickOut.took c.rested.new.self) c.requires b d
    (subst (λ t. Adds (g.O.KickOut.took c.args.out.now) (g.O.KickOut.took c.rested.new.self) (TookRest c.args.tick t ∷ [])) c.if-rested.true c.rested.ensures.adds) c.rested.ensures.same_faults
    (subst (λ t. YesRose t (g.O.KickOut.yes c.args.out.now) (g.O.KickOut.yes c.rested.new.self)) c.if-rested.true c.rested.ensures.yes)

pub returns-clause-makes : goal.returns-clause-makes
returns-clause-makes g c = λ B gr fixed state w n b d.
    let a = now B gr fixed state (g.O.KickOut.faults c.args.out.now) (g.O.KickOut.yes c.args.out.now) (g.O.KickOut.took c.args.out.now) w in
    let z = now B gr fixed state (g.O.KickOut.faults c.rested.new.self) (g.O.KickOut.yes c.rested.new.self) (g.O.KickOut.took c.rested.new.self) w in
    rest_passed g.F.Forces.passes (Unit {0}) n c.args.tick tt a z c.requires
    (leads_same a z b refl refl refl refl refl (subst (λ t. YesRose t (g.O.KickOut.yes c.args.out.now) (g.O.KickOut.yes c.rested.new.self)) c.if-rested.false c.rested.ensures.yes) refl) refl refl refl refl
    (subst (λ t. Adds (g.O.KickOut.took c.args.out.now) (g.O.KickOut.took c.rested.new.self) (TookRest c.args.tick t ∷ [])) c.if-rested.false c.rested.ensures.adds) c.rested.ensures.same_faults
