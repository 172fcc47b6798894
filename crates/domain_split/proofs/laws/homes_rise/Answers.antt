use Rattle.domain_split.proofs.Ranked.{rise}
use Rattle.domain_split.proofs.laws.homes_rise.Goals as goal

pub returns : goal.returns
returns c = rise
