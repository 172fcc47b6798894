use Rattle.std.proofs.Common.{refl, arith}
use Rattle.rank_field.proofs.Gathered.{counts_all, counts_fit, counts_more}
use Rattle.rank_field.proofs.gathering.counted.Goals as goal

pub loop-rank-init : goal.loop-rank-init
loop-rank-init c = λ w z h. refl

pub overflow_add-count : goal.overflow_add-count
overflow_add-count c =
    let w = c.requires.0 in
    let z = c.requires.1.0 in
    let h = c.requires.1.1 in
    omega (arith, counts_fit w z _ h _ c.deref-rank-items.ensures.value _ _ _ _ c.loop-rank-test.true c.rank-item.is c.counted-count.ensures (c.loop-rank.invariant w z h))

pub loop-rank-preserved : goal.loop-rank-preserved
loop-rank-preserved c = λ w z h. counts_more w z _ h _ c.deref-rank-items.ensures.value _ _ _ _ c.loop-rank-test.true c.rank-item.is c.counted-count.ensures (c.loop-rank.invariant w z h)

pub returns : goal.returns
returns c = λ w z h. counts_all w z _ h _ c.deref-rank-items.ensures.value _ _ (omega arith) (c.loop-rank.invariant w z h)
