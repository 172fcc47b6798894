use Rattle.chain_laws.proofs.Written.{restart_files_are_of_states}
use Rattle.chain_laws.proofs.restart_files_are_of_states.Goals as goal

pub returns : goal.returns
returns c = restart_files_are_of_states
