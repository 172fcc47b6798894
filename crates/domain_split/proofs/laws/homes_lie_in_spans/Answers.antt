use Rattle.domain_split.proofs.Ranked.{lie_in_spans}
use Rattle.domain_split.proofs.laws.homes_lie_in_spans.Goals as goal

pub returns : goal.returns
returns c = lie_in_spans
