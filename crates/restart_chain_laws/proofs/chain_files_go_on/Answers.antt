use Rattle.restart_chain_laws.proofs.Laws.{go_on}
use Rattle.restart_chain_laws.proofs.chain_files_go_on.Goals as goal

pub returns : goal.returns
returns c = go_on
