use Rattle.std.proofs.Common.{sym, ◌∙◌, subst, rules}
use Rattle.nbody_model.specs.Bodies.{IsValid}
use Rattle.kick_drift.specs.Parts.{ids_at}
use Rattle.model_laws.specs.Laws.{AreBodies}
use Rattle.model_laws.proofs.Kept.{only_bodies}
use Rattle.rewind.proofs.asks.ask.Goals as goal

pub force-requires : goal.force-requires
force-requires g c =
    let bodies : AreBodies c.args.set.now = search rules in
    subst IsValid (sym (c.deref.ensures.value ∙ c.in-Ok.ensures)) (only_bodies (ids_at c.args.set.now c.args.part.now) c.args.set.now bodies).valid
