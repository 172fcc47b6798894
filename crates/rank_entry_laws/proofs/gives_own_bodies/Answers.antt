use Rattle.rank_entry_laws.proofs.Given.{gives_own}
use Rattle.rank_entry_laws.proofs.gives_own_bodies.Goals as goal

pub returns : goal.returns
returns c = gives_own
