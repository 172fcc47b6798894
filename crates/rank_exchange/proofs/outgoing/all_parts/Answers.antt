use Rattle.std.proofs.Common.{◌<◌, map, ap, ◌∙◌}
use Rattle.std.proofs.lemmas.List.{take_all}
use Rattle.octree_build.proofs.Edges.{at_each}
use Rattle.octree_build.proofs.Placed.{mapped_more}
use Rattle.rank_laws.specs.Machine.{Parts, message}
use Rattle.rank_laws.specs.Whole.{ranks_of}
use Rattle.rank_exchange.specs.Messages.{filled}
use Rattle.rank_exchange.proofs.outgoing.all_parts.Goals as goal

pub loop-rank-preserved : goal.loop-rank-preserved
loop-rank-preserved c = λ m h e a. c.in_ok-push.ensures.items
    ∙ mapped_more (λ q. filled m.whole (message Parts c.args.home q)) c.args.to.now c.loop-rank.sent.items c.loop-rank.rank-index 0 c.in_ok-parts.field-0 c.loop-rank-test.true
    (c.in_ok-parts.ensures m h e (at_each (λ q. q < ranks_of m.whole) 0 c.args.to.now c.loop-rank.rank-index c.loop-rank-test.true a)) (c.loop-rank.invariant m h e a)

pub returns : goal.returns
returns c = λ m h e a. c.loop-rank.invariant m h e a ∙ ap (map (λ q. filled m.whole (message Parts c.args.home q))) (take_all c.loop-rank.rank-index c.args.to.now c.loop-rank-test.false)
