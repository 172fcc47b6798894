use Rattle.rank_worked.proofs.Traces.{bounds_are}
use Rattle.rank_worked.proofs.bounds_are_told.Goals as goal

pub returns : goal.returns
returns c = bounds_are
