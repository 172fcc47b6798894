use Rattle.std.proofs.Common.{◌∙◌, []}
use Rattle.nbody_model.specs.declared.field.EventKind.TheVariants.{Build}
use Rattle.rank_laws.specs.Contents.{OfTable}
use Rattle.rank_exchange.specs.Messages.{MessageData}
use Rattle.rank_field.proofs.Coming.{all_come}
use Rattle.rank_field.proofs.Held.{as_enabled, ranks_held}
use Rattle.rank_field.proofs.machine.Machine.enabled.Goals as goal

nothing : MessageData
nothing = record { kind = Build; «from» = 0; to = 0; contents = OfTable [] }

pub returns-clause-enabled : goal.returns-clause-enabled
returns-clause-enabled c = λ w z h. as_enabled w z c.count_acting.result c.coming.result
    (c.count_acting.ensures.count w z (ranks_held w z c.args.self.now h c.deref.result.now c.deref.ensures.value))
    (c.coming.ensures.many ∙ all_come w z h.run c.args.self.now.mail h.mail nothing)
