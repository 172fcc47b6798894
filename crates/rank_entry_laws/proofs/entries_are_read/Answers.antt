use Rattle.rank_entry_laws.proofs.Read.{entries_read}
use Rattle.rank_entry_laws.proofs.entries_are_read.Goals as goal

pub returns : goal.returns
returns c = entries_read
