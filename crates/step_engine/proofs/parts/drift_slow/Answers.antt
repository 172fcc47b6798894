use Rattle.std.proofs.Common.{ap, sym, ◌∙◌, subst}
use Rattle.nbody_model.specs.Setups.{SetupData}
use Rattle.nbody_model.specs.Steps.{drift}
use Rattle.kick_drift.specs.Parts.{ids_at, ArePlaces}
use Rattle.step_engine.proofs.FastParts.{without_at, slow_places_are}
use Rattle.step_engine.proofs.parts.drift_slow.Goals as goal

pub drift-requires-clause-places : goal.drift-requires-clause-places
drift-requires-clause-places c =
    subst (ArePlaces c.args.set.now) (sym (c.deref.ensures.value ∙ c.in_ok-slow.ensures)) (slow_places_are c.args.set.now c.args.fast.now c.args.part.now c.requires.part)

pub returns-clause-ok : goal.returns-clause-ok
returns-clause-ok c =
    let B = c.args.set.now in
    c.drift.ensures c.args.setup.now (ap (λ (s : SetupData). s.velocity_shift) (sym c.setup.view_is)) ∙
    ap (λ Q. drift c.args.setup.now Q c.args.ticks B) (ap (ids_at B) (c.deref.ensures.value ∙ c.in_ok-slow.ensures) ∙ without_at B c.args.fast.now c.args.part.now c.ids_ascend.ensures c.requires.fast c.requires.part)
