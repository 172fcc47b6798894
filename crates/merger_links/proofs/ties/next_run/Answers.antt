use Rattle.std.proofs.Common.{arith}
use Rattle.merger_links.proofs.Often.{run_new}
use Rattle.merger_links.proofs.ties.next_run.Goals as goal

pub returns-clause-value : goal.returns-clause-value
returns-clause-value c = run_new c.args.sorted.now c.args.i c.requires.up (omega (arith, c.if-i-eq0.false)) c.requires.at c.if-sorted-i.false
