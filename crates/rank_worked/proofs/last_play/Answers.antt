use Rattle.rank_worked.proofs.Traces.{last_plays}
use Rattle.rank_worked.proofs.last_play.Goals as goal

pub returns : goal.returns
returns c = last_plays
