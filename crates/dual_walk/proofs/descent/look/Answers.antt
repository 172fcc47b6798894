use Rattle.std.proofs.Common.{rules, arith}
use Rattle.dual_walk.specs.Steps.{IsInOrder}
use Rattle.dual_walk.proofs.Looked.{drops_looks, first_asked, in_order, opens_looks, still_open, takes_looks}
use Rattle.dual_walk.proofs.descent.look.Goals as goal

pub judge-requires : goal.judge-requires
judge-requires g c κs within =
    let o : IsInOrder c.args.tree.now.nodes c.turned-first.result = in_order g.w c.args.tree.now c.requires.1.1.1.0 c.args.x c.requires.1.1.1.1.1.1.1.1.1.1.0 c.requires.1.1.1.1.0.answers.turned c.if-x.false c.turned-first.result c.turned-first.ensures in
    search rules

pub open_apart-requires : goal.open_apart-requires
open_apart-requires g c = (c.requires.1.1.1.0, (c.requires.1.1.1.1.1.1.1.1.1.1.0, (c.if-x.false, (still_open g.w c.args.tree.now c.requires.1.1.1.0 c.args.x c.requires.1.1.1.1.1.1.1.1.1.1.0 c.requires.1.1.1.1.0.answers.turned c.if-x.false c.turned-first.result c.turned-first.ensures c.in-Opens.ensures.verdict, c.requires.1.1.1.1.1.1.1.1.1.1.1))))

pub add_pair-requires-clause-raised : goal.add_pair-requires-clause-raised
add_pair-requires-clause-raised g c = c.requires.1.1.1.1.1.1.1.1.1.0 c.turned-first.result.a (omega (arith, (in_order g.w c.args.tree.now c.requires.1.1.1.0 c.args.x c.requires.1.1.1.1.1.1.1.1.1.1.0 c.requires.1.1.1.1.0.answers.turned c.if-x.false c.turned-first.result c.turned-first.ensures).first, c.requires.1.1.1.1.1.1.1.1.0))

pub add_pair-requires-clause-lowered : goal.add_pair-requires-clause-lowered
add_pair-requires-clause-lowered g c = c.requires.1.1.1.1.1.1.1.1.1.0 c.turned-first.result.b (omega (arith, (in_order g.w c.args.tree.now c.requires.1.1.1.0 c.args.x c.requires.1.1.1.1.1.1.1.1.1.1.0 c.requires.1.1.1.1.0.answers.turned c.if-x.false c.turned-first.result c.turned-first.ensures).second, c.requires.1.1.1.1.1.1.1.1.0))

pub returns-in-Opens-clause-looks : goal.returns-in-Opens-clause-looks
returns-in-Opens-clause-looks g c = opens_looks g.w c.args.tree.now c.requires.1.1.1.0 c.args.x c.requires.1.1.1.1.1.1.1.1.1.1.0 c.requires.1.1.1.1.0.answers.turned c.if-x.false c.turned-first.result c.turned-first.ensures c.args.list.now.items c.open_apart.new.list.items c.args.places.now c.in-Opens.ensures.verdict c.open_apart.ensures.pushed

pub returns-in-Opens-clause-asked : goal.returns-in-Opens-clause-asked
returns-in-Opens-clause-asked g c = first_asked g.w c.args.tree.now c.requires.1.1.1.0 c.args.x c.requires.1.1.1.1.1.1.1.1.1.1.0 c.requires.1.1.1.1.0.answers.turned c.if-x.false c.turned-first.result c.turned-first.ensures c.args.law.now.asked_accept c.judge.new.law.asked_accept c.judge.ensures.asked

pub returns-in-Drops-clause-looks : goal.returns-in-Drops-clause-looks
returns-in-Drops-clause-looks g c = drops_looks g.w c.args.tree.now c.requires.1.1.1.0 c.args.x c.requires.1.1.1.1.1.1.1.1.1.1.0 c.requires.1.1.1.1.0.answers.turned c.if-x.false c.turned-first.result c.turned-first.ensures c.args.list.now.items c.args.places.now c.in-Drops.ensures.verdict

pub returns-in-Drops-clause-asked : goal.returns-in-Drops-clause-asked
returns-in-Drops-clause-asked g c = first_asked g.w c.args.tree.now c.requires.1.1.1.0 c.args.x c.requires.1.1.1.1.1.1.1.1.1.1.0 c.requires.1.1.1.1.0.answers.turned c.if-x.false c.turned-first.result c.turned-first.ensures c.args.law.now.asked_accept c.judge.new.law.asked_accept c.judge.ensures.asked

pub returns-in-Takes-clause-looks : goal.returns-in-Takes-clause-looks
returns-in-Takes-clause-looks g c = takes_looks g.w c.args.tree.now c.requires.1.1.1.0 c.args.x c.requires.1.1.1.1.1.1.1.1.1.1.0 c.requires.1.1.1.1.0.answers.turned c.if-x.false c.turned-first.result c.turned-first.ensures c.args.list.now.items c.args.places.now c.add_pair.new.places c.in-Takes.force c.in-Takes.ensures.verdict c.add_pair.ensures.moved

pub returns-in-Takes-clause-asked : goal.returns-in-Takes-clause-asked
returns-in-Takes-clause-asked g c = first_asked g.w c.args.tree.now c.requires.1.1.1.0 c.args.x c.requires.1.1.1.1.1.1.1.1.1.1.0 c.requires.1.1.1.1.0.answers.turned c.if-x.false c.turned-first.result c.turned-first.ensures c.args.law.now.asked_accept c.judge.new.law.asked_accept c.judge.ensures.asked
