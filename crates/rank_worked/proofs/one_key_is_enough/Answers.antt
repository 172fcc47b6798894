use Rattle.rank_worked.proofs.Traces.{one_key_is}
use Rattle.rank_worked.proofs.one_key_is_enough.Goals as goal

pub returns : goal.returns
returns c = one_key_is
