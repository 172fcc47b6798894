use Rattle.rank_worked.proofs.Traces.{needs_are}
use Rattle.rank_worked.proofs.cells_are_needed.Goals as goal

pub returns : goal.returns
returns c = needs_are
