use Rattle.groups.proofs.Classes.{written_none, written_at}
use Rattle.groups.proofs.heads.write_head.Goals as goal

pub loop-e-init : goal.loop-e-init
loop-e-init c = written_none c.args.p c.args.heads.now

pub loop-e-preserved : goal.loop-e-preserved
loop-e-preserved c = written_at c.args.p c.args.list.now c.loop-e.e c.args.heads.now c.loop-e.heads c.loop-e-test.true c.requires c.loop-e.invariant
