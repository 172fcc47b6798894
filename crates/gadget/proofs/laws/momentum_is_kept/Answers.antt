use Rattle.gadget.proofs.Kicks.{momentum_kept}
use Rattle.gadget.proofs.laws.momentum_is_kept.Goals as goal

pub returns : goal.returns
returns c = momentum_kept
