use Rattle.std.proofs.Common.{subst}
use Rattle.rank_exchange.specs.Ranks.{KeepsWalk}
use Rattle.rank_exchange.proofs.walk.begun.Goals as goal

pub returns-in_ok-walker-in-None : goal.returns-in_ok-walker-in-None
returns-in_ok-walker-in-None c = λ z s v k. c.in_ok-walker-in-None.ensures z v s (subst (KeepsWalk z s) c.in-None.is k)
