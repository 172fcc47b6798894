use Rattle.rank_worked.proofs.Traces.{nodes_are}
use Rattle.rank_worked.proofs.nodes_are_counted.Goals as goal

pub returns : goal.returns
returns c = nodes_are
