use Rattle.rank_laws.proofs.Plays.{shows_nothing}
use Rattle.rank_laws.proofs.runs.nothing_shows.Goals as goal

pub returns : goal.returns
returns c = shows_nothing
