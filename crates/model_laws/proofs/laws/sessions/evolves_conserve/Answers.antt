use Rattle.model_laws.proofs.Conserved.{evolves_conserve}
use Rattle.model_laws.proofs.laws.sessions.evolves_conserve.Goals as goal

pub returns : goal.returns
returns c = evolves_conserve
