use Rattle.std.proofs.Common.{◌∙◌}
use Rattle.rank_exchange.proofs.OwnMembers.{keyed_own}
use Rattle.rank_exchange.proofs.members.members_of.Goals as goal

pub push_members-requires-clause-keyed : goal.push_members-requires-clause-keyed
push_members-requires-clause-keyed c = keyed_own c.requires.0 c.args.bodies.now c.deref.result.now c.requires.1 (c.deref.ensures.value ∙ c.in_ok-keys.ensures)
