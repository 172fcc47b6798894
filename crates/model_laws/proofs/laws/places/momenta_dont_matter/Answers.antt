use Rattle.model_laws.proofs.Still.{momenta_dont_matter}
use Rattle.model_laws.proofs.laws.places.momenta_dont_matter.Goals as goal

pub returns : goal.returns
returns c = momenta_dont_matter
