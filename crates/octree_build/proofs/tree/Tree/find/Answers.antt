use Rattle.std.proofs.Common.{length, ap, sym, arith}
use Rattle.std.proofs.lemmas.Bool.{eqb-true}
use Rattle.cell_space.specs.Cells.{CellData}
use Rattle.octree_build.specs.Trees.{NodeData, TreeData}
use Rattle.octree_build.proofs.Found.{no_nodes, goes_down, ends_here, arrives, some_node}
use Rattle.octree_build.proofs.tree.Tree.find.Goals as goal

pub returns-then-is_empty : goal.returns-then-is_empty
returns-then-is_empty c = λ s B h. no_nodes s B c.args.self.now h c.args.cell.now c.is_of_box.ensures (omega (arith, eqb-true _ 0 (sym c.if-is_empty.ensures), ap (λ (t : TreeData). length t.nodes) c.self.view_is))

pub child_towards-requires : goal.child_towards-requires
child_towards-requires c = (c.loop-level.invariant c.requires.setup c.requires.whole c.requires.tree c.is_of_box.ensures).within

pub returns-in-None : goal.returns-in-None
returns-in-None c = λ s B h.
    let i = c.is_of_box.ensures in
    let d : NodeData = some_node c.args.self.now.nodes c.loop-level.at (c.loop-level.invariant s B h i).within in
    ends_here s B c.args.self.now h c.args.cell.now i c.loop-level.at c.loop-level._level (c.loop-level.invariant s B h i) (omega (arith, c.loop-level-test.true, ap (λ (x : CellData). x.level) c.cell.view_is)) d (λ m u v. c.in-None.ensures d m d u v)

pub loop-level-preserved : goal.loop-level-preserved
loop-level-preserved c = λ s B h i.
    let d : NodeData = some_node c.args.self.now.nodes c.loop-level.at (c.loop-level.invariant s B h i).within in
    let a = c.in-Some.ensures d in
    goes_down s B c.args.self.now h c.args.cell.now i c.loop-level.at c.loop-level._level (c.loop-level.invariant s B h i) (omega (arith, c.loop-level-test.true, ap (λ (x : CellData). x.level) c.cell.view_is)) d c.in-Some.child a.from a.to (a.inside d)

pub returns : goal.returns
returns c = λ s B h. arrives s B c.args.self.now h c.args.cell.now c.is_of_box.ensures c.loop-level.at c.loop-level._level (omega (arith, c.loop-level.auto._level-end, c.loop-level-test.false, ap (λ (x : CellData). x.level) c.cell.view_is)) (c.loop-level.invariant s B h c.is_of_box.ensures)
