use Rattle.std.proofs.Common.{rules, ◌≡◌, true, sym, ◌∙◌}
use Rattle.dual_walk.proofs.Children.{node_moments}
use Rattle.dual_walk.proofs.Follows.{law_again, may_again, order_at, taken_at}
use Rattle.dual_walk.proofs.verdicts.judge.Goals as goal

pub force-requires-clause-law : goal.force-requires-clause-law
force-requires-clause-law g c = law_again g.w c.args.tree.now c.requires.1.1.1.0 c.args.x c.requires.1.1.1.1.1.1.0 g.A.Fn g.F.Fn c.args.law.now.accept c.args.law.now.force c.requires.1.1.1.1.0
    c.are_final.new.law.accept c.are_final.new.law.force c.are_final.ensures.same_accept c.are_final.ensures.same_force

pub force-requires-clause-order : goal.force-requires-clause-order
force-requires-clause-order g c = order_at g.w c.args.tree.now c.requires.1.1.1.0 c.args.x c.requires.1.1.1.1.1.1.0 c.node.result.now c.node-2.result.now
    (node_moments g.w c.args.tree.now c.requires.1.1.1.0 c.args.x.a c.node.result.now c.requires.1.1.1.1.1.1.0.first c.node.ensures)
    (node_moments g.w c.args.tree.now c.requires.1.1.1.0 c.args.x.b c.node-2.result.now c.requires.1.1.1.1.1.1.0.second c.node-2.ensures)

pub force-requires-clause-wholes : goal.force-requires-clause-wholes
force-requires-clause-wholes g c =
    let e : c.are_final.result ≡ true = search rules in
    may_again g.w c.args.tree.now c.requires.1.1.1.0 c.args.x c.requires.1.1.1.1.1.1.0 g.A.Fn g.F.Fn c.args.law.now.accept c.args.law.now.force c.requires.1.1.1.1.0
    c.are_final.new.law.accept c.node.result.now c.node-2.result.now c.are_final.ensures.same_accept
    (node_moments g.w c.args.tree.now c.requires.1.1.1.0 c.args.x.a c.node.result.now c.requires.1.1.1.1.1.1.0.first c.node.ensures)
    (node_moments g.w c.args.tree.now c.requires.1.1.1.0 c.args.x.b c.node-2.result.now c.requires.1.1.1.1.1.1.0.second c.node-2.ensures)
    (c.are_final.ensures.may e)

pub returns-clause-verdict : goal.returns-clause-verdict
returns-clause-verdict g c =
    let e : c.are_final.result ≡ true = search rules in
    let m : c.is_mine.result ≡ true = search rules in
    taken_at g.w c.args.tree.now c.requires.1.1.1.0 c.args.x c.requires.1.1.1.1.1.1.0 g.A.Fn g.F.Fn c.args.law.now.accept c.args.law.now.force c.requires.1.1.1.1.0
    c.are_final.new.law.force c.node.result.now c.node-2.result.now c.force.result c.are_final.ensures.same_force
    (node_moments g.w c.args.tree.now c.requires.1.1.1.0 c.args.x.a c.node.result.now c.requires.1.1.1.1.1.1.0.first c.node.ensures)
    (node_moments g.w c.args.tree.now c.requires.1.1.1.0 c.args.x.b c.node-2.result.now c.requires.1.1.1.1.1.1.0.second c.node-2.ensures)
    c.force.ensures.answer (sym c.are_final.ensures.answer ∙ e) (sym c.is_mine.ensures ∙ m)
