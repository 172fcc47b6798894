use Rattle.time_bins.proofs.Products.{shifted_test}
use Rattle.time_bins.proofs.rule.within.Goals as goal

pub returns : goal.returns
returns c = shifted_test c.args.n c.args.most c.args.bin c.from.result c.from.ensures
