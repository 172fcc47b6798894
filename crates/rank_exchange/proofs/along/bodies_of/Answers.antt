use Rattle.std.proofs.Common.{◌%◌, ◌^◌, ◌∙◌, arith}
use Rattle.std.specs.Prelude.{slice_index_or}
use Rattle.octree_build.proofs.Placed.{mapped_more, all_mapped}
use Rattle.rank_exchange.proofs.along.bodies_of.Goals as goal

pub loop-i-preserved : goal.loop-i-preserved
loop-i-preserved c = λ d. c.in_ok-push.ensures.items ∙ mapped_more (λ n. slice_index_or c.args.bodies.now (n % 2 ^ 20) d) c.args.numbers.now c.loop-i.copies.items c.loop-i.i _ c.body_of.result c.loop-i-test.true (c.body_of.ensures d) (c.loop-i.invariant d)

pub returns : goal.returns
returns c = λ d. all_mapped (λ n. slice_index_or c.args.bodies.now (n % 2 ^ 20) d) c.args.numbers.now c.loop-i.copies.items c.loop-i.i (omega (arith, c.loop-i-test.false)) (c.loop-i.invariant d)
