use Rattle.std.proofs.Common.{◌≡◌, ◌+◌, ◌*◌, ◌≤◌, length, take, get_or, arith}
use Rattle.std.proofs.lemmas.List.Sums.{fold_more}
use Rattle.fixed_point.specs.declared.V3.{V3}
use Rattle.fixed_point.specs.Vectors.{plus, origin}
use Rattle.fixed_point.proofs.VectorLemmas.{IsAtMost-plus, FitsEach-from_bound}
use Rattle.nbody_model.specs.Bodies.{total, BodyData}
use Rattle.particle_set.proofs.body_set.BodySet.total_momentum.Goals as goal

pub plus-sum-requires : goal.plus-sum-requires
plus-sum-requires c =
    let few : length c.deref-body-items.result.now ≤ 1048576 = omega arith in
    let bound = IsAtMost-plus (c.loop-body.body-index * 4611686018427387904) 4611686018427387904 c.loop-body.sum c.momentum_of.result c.loop-body.invariant.1 c.momentum_of.ensures.small in
    FitsEach-from_bound _ _ (omega arith) bound

pub loop-body-preserved : goal.loop-body-preserved
loop-body-preserved c =
    let bodies = c.deref-body-items.result.now in
    let i = c.loop-body.body-index in
    let more : total (take (i + 1) bodies) ≡ plus (total (take i bodies)) (get_or bodies i c.body-item.result).motion.mom
    = fold_more (λ (sum : V3) (b : BodyData). plus sum b.motion.mom) origin bodies i c.body-item.result c.loop-body-test.true in
    let bound = IsAtMost-plus (i * 4611686018427387904) 4611686018427387904 c.loop-body.sum c.momentum_of.result c.loop-body.invariant.1 c.momentum_of.ensures.small in
    let same : (i + 1) * 4611686018427387904 ≡ i * 4611686018427387904 + 4611686018427387904 = omega arith in
    (cc, rw (same, c.plus-sum.ensures) bound)
