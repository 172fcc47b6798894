use Rattle.std.proofs.Common.{ap, ◌∙◌, sym}
use Rattle.rank_exchange.specs.Keyed.{sum_at}
use Rattle.rank_exchange.proofs.forces.force_of.Goals as goal

pub returns : goal.returns
returns c = λ m b g e. c.sum_at.ensures ∙ ap (λ k. sum_at k c.args.sums.now) (sym e) ∙ g b
