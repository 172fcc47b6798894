use Rattle.chain_laws.proofs.Differ.{restart_numbers_are_low, restart_numbers_differ}
use Rattle.chain_laws.proofs.restart_numbers_differ.Goals as goal

pub returns : goal.returns
returns c = record { differ = restart_numbers_differ; low = restart_numbers_are_low }
