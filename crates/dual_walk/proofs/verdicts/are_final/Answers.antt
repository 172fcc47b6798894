use Rattle.std.proofs.Common.{sym, ◌∙◌}
use Rattle.dual_walk.proofs.Children.{node_moments}
use Rattle.dual_walk.proofs.Follows.{accept_at, apart_at, may_from, may_leaves}
use Rattle.dual_walk.proofs.verdicts.are_final.Goals as goal

pub returns-then-are_leaves-clause-may : goal.returns-then-are_leaves-clause-may
returns-then-are_leaves-clause-may g c _ = may_leaves g.w c.args.tree.now c.requires.1.1.0 c.args.x c.requires.1.1.1.1.0 g.A.Fn g.F.Fn c.args.law.now.accept c.args.law.now.force c.requires.1.1.1.0 (sym c.are_leaves.ensures ∙ c.if-are_leaves.true)

pub accept-requires-clause-apart : goal.accept-requires-clause-apart
accept-requires-clause-apart g c = apart_at g.w c.args.tree.now c.requires.1.1.0 c.args.x c.requires.1.1.1.1.0 c.node.result.now c.node-2.result.now
    (node_moments g.w c.args.tree.now c.requires.1.1.0 c.args.x.a c.node.result.now c.requires.1.1.1.1.0.first c.node.ensures)
    (node_moments g.w c.args.tree.now c.requires.1.1.0 c.args.x.b c.node-2.result.now c.requires.1.1.1.1.0.second c.node-2.ensures)

pub returns-clause-answer : goal.returns-clause-answer
returns-clause-answer g c = accept_at g.w c.args.tree.now c.requires.1.1.0 c.args.x c.requires.1.1.1.1.0 g.A.Fn g.F.Fn c.args.law.now.accept c.args.law.now.force c.requires.1.1.1.0 c.node.result.now c.node-2.result.now c.accept.result
    (node_moments g.w c.args.tree.now c.requires.1.1.0 c.args.x.a c.node.result.now c.requires.1.1.1.1.0.first c.node.ensures)
    (node_moments g.w c.args.tree.now c.requires.1.1.0 c.args.x.b c.node-2.result.now c.requires.1.1.1.1.0.second c.node-2.ensures)
    c.accept.ensures.answer (sym c.are_leaves.ensures ∙ c.if-are_leaves.false)

pub returns-clause-may : goal.returns-clause-may
returns-clause-may g c e = may_from g.w c.args.tree.now c.requires.1.1.0 c.args.x c.requires.1.1.1.1.0 g.A.Fn g.F.Fn c.args.law.now.accept c.args.law.now.force c.requires.1.1.1.0 c.node.result.now c.node-2.result.now c.accept.result
    (node_moments g.w c.args.tree.now c.requires.1.1.0 c.args.x.a c.node.result.now c.requires.1.1.1.1.0.first c.node.ensures)
    (node_moments g.w c.args.tree.now c.requires.1.1.0 c.args.x.b c.node-2.result.now c.requires.1.1.1.1.0.second c.node-2.ensures)
    c.accept.ensures.answer e
