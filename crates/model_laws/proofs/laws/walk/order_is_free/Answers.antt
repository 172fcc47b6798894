use Rattle.model_laws.proofs.Reached.{order_free}
use Rattle.model_laws.proofs.laws.walk.order_is_free.Goals as goal

pub returns : goal.returns
returns c = order_free
