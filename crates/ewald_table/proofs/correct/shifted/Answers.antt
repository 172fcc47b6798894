use Rattle.ewald_table.proofs.Quotients.{below_zero, from_zero}
use Rattle.ewald_table.proofs.correct.shifted.Goals as goal

pub returns-then-mean-lt0-clause-value : goal.returns-then-mean-lt0-clause-value
returns-then-mean-lt0-clause-value c = (below_zero c.args.mean c.unsigned_abs.result c.args.shift c.ranges.mean c.unsigned_abs.ensures.value c.requires.small c.if-mean-lt0.true).value

pub returns-then-mean-lt0-clause-small : goal.returns-then-mean-lt0-clause-small
returns-then-mean-lt0-clause-small c = (below_zero c.args.mean c.unsigned_abs.result c.args.shift c.ranges.mean c.unsigned_abs.ensures.value c.requires.small c.if-mean-lt0.true).small

pub returns-else-mean-lt0-clause-value : goal.returns-else-mean-lt0-clause-value
returns-else-mean-lt0-clause-value c = (from_zero c.args.mean c.unsigned_abs.result c.args.shift c.ranges.mean c.unsigned_abs.ensures.value c.requires.small c.if-mean-lt0.false).value

pub returns-else-mean-lt0-clause-small : goal.returns-else-mean-lt0-clause-small
returns-else-mean-lt0-clause-small c = (from_zero c.args.mean c.unsigned_abs.result c.args.shift c.ranges.mean c.unsigned_abs.ensures.value c.requires.small c.if-mean-lt0.false).small
