use Rattle.octree_build.proofs.Asked.{members_are}
use Rattle.octree_build.proofs.tree.Tree.members.Goals as goal

pub returns-clause-exact : goal.returns-clause-exact
returns-clause-exact c = λ s B h d. members_are s B c.args.self.now h c.args.i d _ c.requires (c.range.ensures d)
