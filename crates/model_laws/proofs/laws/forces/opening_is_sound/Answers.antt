use Rattle.model_laws.proofs.Fair.{opening_sound}
use Rattle.model_laws.proofs.laws.forces.opening_is_sound.Goals as goal

pub returns : goal.returns
returns c = opening_sound
