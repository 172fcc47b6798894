use Rattle.std.proofs.Common.{◌<◌, ◌^◌, List, All, sym, subst}
use Rattle.std.proofs.lemmas.List.Elements.{All-filter}
use Rattle.cell_space.specs.Cells.{contains}
use Rattle.nbody_model.specs.Bodies.{BodyData}
use Rattle.octree_build.specs.Trees.{NodeData, cell_of_node}
use Rattle.octree_build.proofs.Found.{some_node}
use Rattle.neighbour_find.proofs.walk.push_members.Goals as goal

pub push_found-requires : goal.push_found-requires
push_found-requires c =
    let d : NodeData = some_node c.args.tree.now.nodes c.args.i c.requires.place in
    subst (λ (bs : List BodyData). All (λ (b : BodyData). b.id < 2 ^ 32) bs) (sym (c.members.ensures.exact c.requires.tree.setup c.requires.tree.whole c.requires.tree.tree d))
    (All-filter (λ (b : BodyData). contains (cell_of_node c.args.tree.now.nodes c.args.i d) b.motion.pos) (λ (b : BodyData). b.id < 2 ^ 32) c.args.tree.now.bodies c.requires.ids)
