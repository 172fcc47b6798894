use Rattle.std.proofs.Common.{arith}
use Rattle.force_field.proofs.Flat.{part_of_all}
use Rattle.force_field.proofs.nodes.around.Goals as goal

pub returns-clause-nodes : goal.returns-clause-nodes
returns-clause-nodes c = λ s B b h. part_of_all s B b c.args.i _ _ c.args.nodes.now (omega arith) (omega arith) c.requires h
