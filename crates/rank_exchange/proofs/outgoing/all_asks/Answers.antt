use Rattle.std.proofs.Common.{map, ap, ◌∙◌, arith}
use Rattle.std.proofs.lemmas.List.{take_all}
use Rattle.octree_build.proofs.Placed.{mapped_more}
use Rattle.rank_laws.specs.Machine.{ask}
use Rattle.rank_laws.specs.Whole.{rules_of}
use Rattle.rank_exchange.specs.Messages.{filled}
use Rattle.rank_exchange.proofs.outgoing.all_asks.Goals as goal

pub loop-cell-preserved : goal.loop-cell-preserved
loop-cell-preserved c = λ w e. c.in_ok-push.ensures.items
    ∙ mapped_more (λ d. filled w (ask (rules_of w) c.args.rank d)) c.args.cells.now c.loop-cell.sent.items c.loop-cell.cell-index c.cell-item.result c.ask.result c.loop-cell-test.true
    (c.ask.ensures w e ∙ ap (λ d. filled w (ask (rules_of w) c.args.rank d)) c.cell-item.is) (c.loop-cell.invariant w e)

pub returns : goal.returns
returns c = λ w e. c.loop-cell.invariant w e ∙ ap (map (λ d. filled w (ask (rules_of w) c.args.rank d))) (take_all c.loop-cell.cell-index c.args.cells.now c.loop-cell-test.false)
