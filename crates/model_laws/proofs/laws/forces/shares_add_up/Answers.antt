use Rattle.std.proofs.Common.{arith}
use Rattle.model_laws.proofs.Shares.{shares_add_up, ascending-from}
use Rattle.model_laws.proofs.laws.forces.shares_add_up.Goals as goal

pub returns : goal.returns
returns c = λ ms up some N. shares_add_up ms N (omega arith) (ascending-from ms up)
