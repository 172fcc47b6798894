use Rattle.std.proofs.Common.{ap, sym, ◌∙◌, subst}
use Rattle.nbody_model.specs.Setups.{SetupData}
use Rattle.kick_drift.specs.Parts.{ids_at, ArePlaces}
use Rattle.rewind_laws.specs.Back.{undrift}
use Rattle.step_engine.proofs.FastParts.{without_at, slow_places_are}
use Rattle.rewind.proofs.parts.undrift_slow.Goals as goal

pub undrift-requires-clause-places : goal.undrift-requires-clause-places
undrift-requires-clause-places c =
    subst (ArePlaces c.args.set.now) (sym (c.deref.ensures.value ∙ c.in_ok-slow.ensures)) (slow_places_are c.args.set.now c.args.fast.now c.args.part.now c.requires.part)

pub returns : goal.returns
returns c =
    let B = c.args.set.now in
    c.undrift.ensures c.args.setup.now (ap (λ (s : SetupData). s.velocity_shift) (sym c.setup.view_is)) ∙
    ap (λ Q. undrift c.args.setup.now Q c.args.ticks B) (ap (ids_at B) (c.deref.ensures.value ∙ c.in_ok-slow.ensures) ∙ without_at B c.args.fast.now c.args.part.now c.ids_ascend.ensures c.requires.fast c.requires.part)
