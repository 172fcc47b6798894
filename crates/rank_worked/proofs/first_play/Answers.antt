use Rattle.rank_worked.proofs.Traces.{first_plays}
use Rattle.rank_worked.proofs.first_play.Goals as goal

pub returns : goal.returns
returns c = first_plays
