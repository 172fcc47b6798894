use Rattle.rank_walk.proofs.Sends.{picked_next}
use Rattle.rank_walk.proofs.sending.picked.Goals as goal

pub loop-i-preserved : goal.loop-i-preserved
loop-i-preserved c = picked_next c.args.slots.now c.args.touched.now c.args.home c.loop-i.i c.loop-i.out.items c.pick.new.out.items c.loop-i.invariant c.in_ok-pick.ensures
