use Rattle.rank_laws.proofs.Fairness.{rules_fair}
use Rattle.rank_laws.proofs.forces.rules_are_fair.Goals as goal

pub returns : goal.returns
returns c = rules_fair
