use Rattle.std.specs.BTreeMap.{get}
use Rattle.std.specs.Ordering.{nat_cmp}
use Rattle.rank_walk.proofs.Unasked.{noted_next}
use Rattle.rank_walk.proofs.ranked.note.Goals as goal

pub loop-i-preserved : goal.loop-i-preserved
loop-i-preserved c = λ o. noted_next c.args.ranked.now c.loop-i.i _ o (get nat_cmp c.args.places.now o) (get nat_cmp c.loop-i.places o) (get nat_cmp c.insert.new.self o) c.loop-i-test.true (c.loop-i.invariant o) (c.in_ok-insert.ensures.updates.0 o)
