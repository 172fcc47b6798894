use Rattle.restart_chain_laws.proofs.Laws.{are_read}
use Rattle.restart_chain_laws.proofs.chain_files_are_read.Goals as goal

pub returns : goal.returns
returns c = are_read
