use Rattle.rank_entry_laws.proofs.Read.{homes_know}
use Rattle.rank_entry_laws.proofs.homes_know_cells.Goals as goal

pub returns : goal.returns
returns c = homes_know
