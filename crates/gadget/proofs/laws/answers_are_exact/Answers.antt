use Rattle.gadget.proofs.OneCall.{answers_exact}
use Rattle.gadget.proofs.laws.answers_are_exact.Goals as goal

pub returns : goal.returns
returns c = answers_exact
