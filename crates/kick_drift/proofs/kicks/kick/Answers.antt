use Rattle.std.proofs.Common.{ap, ◌∙◌}
use Rattle.nbody_model.specs.Bodies.{total}
use Rattle.model_laws.proofs.Kept.{kick_total}
use Rattle.kick_drift.specs.Parts.{change_of, ids_at}
use Rattle.kick_drift.proofs.kicks.kick.Goals as goal

pub returns-clause-total : goal.returns-clause-total
returns-clause-total c = λ cancels.
    let B = c.args.set.now in
    let P = ids_at B c.args.whole.now in
    ap total c.put_all.ensures ∙ kick_total c.args.h P (change_of P c.args.f.now (ids_at B c.args.fast.now) c.args.g.now) B cancels
