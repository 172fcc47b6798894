use Rattle.rank_laws.proofs.Plays.{plays_one}
use Rattle.rank_laws.proofs.Computed.{plays_computed}
use Rattle.rank_laws.proofs.runs.plays_are_one.Goals as goal

pub returns : goal.returns
returns c = record { one = plays_one; computed = plays_computed }
