use Rattle.std.proofs.Common.{rules}
use Rattle.rank_walk.proofs.Unasked.{asking_next, asking_none}
use Rattle.rank_walk.proofs.asking.unasked.Goals as goal

pub loop-i-init : goal.loop-i-init
loop-i-init c = asking_none c.args.slots.now c.args.asked.now.items c.new-out.result.items c.requires.long (search rules)

pub loop-i-preserved : goal.loop-i-preserved
loop-i-preserved c = asking_next c.args.slots.now c.args.asked.now.items c.args.list.now c.loop-i.i _ c.loop-i.asked.items c.ask_at.new.asked.items c.ask_at-in-loop-i.new.asked.items c.loop-i.out.items c.ask_at.new.out.items c.ask_at-in-loop-i.new.out.items
    c.requires.distinct c.requires.within c.loop-i-test.true c.loop-i.invariant c.in_ok-ask_at.ensures.asked c.in_ok-ask_at.ensures.out c.in_ok-ask_at-2.ensures.asked c.in_ok-ask_at-2.ensures.out
