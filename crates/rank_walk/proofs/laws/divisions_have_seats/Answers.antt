use Rattle.rank_walk.proofs.Divided.{have_seats}
use Rattle.rank_walk.proofs.laws.divisions_have_seats.Goals as goal

pub returns : goal.returns
returns c = have_seats
