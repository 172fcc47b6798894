use Rattle.std.proofs.lemmas.Result.{IfOk-weaker}
use Rattle.rank_walk.proofs.Replaced.{leaf_stays, may_open}
use Rattle.rank_walk.proofs.opening.down.Goals as goal

pub returns-then-is_leaf : goal.returns-then-is_leaf
returns-then-is_leaf g c = λ z s table. leaf_stays z c.args.heard.now c.args.i c.requires.within c.requires.known c.deref.result.now c.deref.ensures.value c.is_leaf.result c.is_leaf.ensures table c.if-is_leaf.true

pub open-requires-clause-open : goal.open-requires-clause-open
open-requires-clause-open g c = (c.requires.table.0, (c.requires.table.1.0, may_open c.requires.table.0 c.args.heard.now c.args.i c.requires.within c.requires.known c.deref.result.now c.deref.ensures.value c.is_leaf.result c.is_leaf.ensures c.requires.table.1.1 c.if-is_leaf.false))

pub returns : goal.returns
returns g c = IfOk-weaker c.open.result _ _ (λ r opens z s table. opens z s (may_open z c.args.heard.now c.args.i c.requires.within c.requires.known c.deref.result.now c.deref.ensures.value c.is_leaf.result c.is_leaf.ensures table c.if-is_leaf.false)) c.open.ensures
