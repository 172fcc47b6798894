use Rattle.model_laws.proofs.Corrections.{corrects_little}
use Rattle.model_laws.proofs.laws.forces.tables_correct_little.Goals as goal

pub returns : goal.returns
returns c = corrects_little
