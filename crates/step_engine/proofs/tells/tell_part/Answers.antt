use Rattle.std.proofs.Common.{◌≡◌, ◌++◌, ◌∷◌, [], refl, subst, ◌∙◌}
use Rattle.nbody_model.specs.Evolve.{Binned, Going, tell}
use Rattle.kick_drift.specs.Parts.{ids_at}
use Rattle.step_engine.specs.Taken.{TookPart, Adds, AddsPart}
use Rattle.step_engine.specs.Stands.{now}
use Rattle.step_engine.proofs.Joins.{all_there}
use Rattle.step_engine.proofs.Leaves.{leads_same, broken, telling, quiet_tells}
use Rattle.step_engine.proofs.tells.tell_part.Goals as goal

pub returns-in-Ok-binned-clause-makes : goal.returns-in-Ok-binned-clause-makes
returns-in-Ok-binned-clause-makes g c = λ gr fixed state w n tick.
    let B = c.args.set.now in
    let F = ids_at B c.args.fast.now in
    let a = now B gr fixed state (g.O.KickOut.faults c.args.out.now) (g.O.KickOut.yes c.args.out.now) (g.O.KickOut.took c.args.out.now) w in
    let z = now B gr fixed state (g.O.KickOut.faults c.binned.new.self) (g.O.KickOut.yes c.binned.new.self) (g.O.KickOut.took c.binned.new.self) w in
    let part : c.deref.result.now ≡ F = c.deref.ensures.value ∙ c.in-Ok.ensures in
    telling g.F.Forces.passes (Unit {0}) n tick (λ p. Binned F) (TookPart F) tt a z (leads_same a z c.requires.bodies refl refl refl refl refl c.in-Ok-binned.ensures.same_yes refl) refl refl refl (λ p. refl)
    (quiet_tells g.F.Forces.passes (Binned F) (TookPart F) a z refl refl refl refl) tt (subst (λ xs. Adds (g.O.KickOut.took c.args.out.now) (g.O.KickOut.took c.binned.new.self) (TookPart xs ∷ [])) part c.in-Ok-binned.ensures.ok) (c.in-Ok-binned.ensures.cause.kept refl)

pub returns-in-Err-binned-clause-makes : goal.returns-in-Err-binned-clause-makes
returns-in-Err-binned-clause-makes g c = λ gr fixed state w n tick.
    let B = c.args.set.now in
    let F = ids_at B c.args.fast.now in
    let a = now B gr fixed state (g.O.KickOut.faults c.args.out.now) (g.O.KickOut.yes c.args.out.now) (g.O.KickOut.took c.args.out.now) w in
    let z = now B gr fixed state (g.O.KickOut.faults c.binned.new.self) (g.O.KickOut.yes c.binned.new.self) (g.O.KickOut.took c.binned.new.self) w in
    let part : c.deref.result.now ≡ F = c.deref.ensures.value ∙ c.in-Ok.ensures in
    rw c.halt_for.ensures
    (broken g.F.Forces.passes (Unit {0}) n 0 tick tick (λ stop p. Going (tell (Binned F) p)) (λ p. Binned F) (TookPart F) c.in-Err-binned.e a z (leads_same a z c.requires.bodies refl refl refl refl refl c.in-Err-binned.ensures.same_yes refl)
    (λ p b. all_there (p.trail ++ Binned F ∷ []))
    (quiet_tells g.F.Forces.passes (Binned F) (TookPart F) a z refl refl refl refl) tt (subst (λ xs. AddsPart (g.O.KickOut.took c.args.out.now) (g.O.KickOut.took c.binned.new.self) (TookPart xs)) part c.in-Err-binned.ensures.err) c.in-Err-binned.ensures.cause)
