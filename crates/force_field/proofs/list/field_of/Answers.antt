use Rattle.std.proofs.Common.{ap, sym, ◌∙◌}
use Rattle.fixed_point.specs.declared.V3.{V3}
use Rattle.fixed_point.specs.Vectors.{sum_of}
use Rattle.model_laws.proofs.Firsts.{interactions_by_bodies}
use Rattle.model_laws.proofs.Cancel.{forces_cancel}
use Rattle.force_field.proofs.list.field_of.Goals as goal

pub returns-clause-interactions : goal.returns-clause-interactions
returns-clause-interactions c = c.in_ok-forces.ensures.interactions ∙ sym (interactions_by_bodies c.args.setup.now c.args.bodies.now c.keep_limits.ensures.bodies)

pub returns-clause-cancel : goal.returns-clause-cancel
returns-clause-cancel c = ap (sum_of (λ (v : V3). v)) c.in_ok-forces.ensures.forces ∙ forces_cancel _ c.args.bodies.now c.keep_limits.ensures.bodies
