use Rattle.groups.proofs.Steps.{taken_none, taken_more}
use Rattle.groups.proofs.search.take_all.Goals as goal

pub loop-e-init : goal.loop-e-init
loop-e-init c = taken_none c.args.seen.now c.args.list.now.items

pub loop-e-preserved : goal.loop-e-preserved
loop-e-preserved c = taken_more c.args.out.now c.loop-e.e _ c.args.seen.now c.loop-e.seen c.take_one.new.seen c.args.list.now.items c.loop-e.list.items c.take_one.new.list.items c.loop-e-test.true c.loop-e.invariant c.in_ok-take_one.ensures.ok
