use Rattle.std.proofs.Common.{◌≡◌, ◌++◌, List, ℕ, [], length, ap, sym, subst, ◌∙◌}
use Rattle.std.specs.Prelude.{OnOk}
use Rattle.std.proofs.lemmas.List.{nil_from_length}
use Rattle.std.proofs.lemmas.List.Sorted.{length_permutation}
use Rattle.nbody_model.specs.Bodies.{BodyData}
use Rattle.nbody_model.specs.Nodes.{members, positions_of}
use Rattle.octree_build.specs.Trees.{NodeData, cell_of_node, is_tree_node}
use Rattle.octree_build.proofs.Found.{some_node}
use Rattle.neighbour_find.specs.Around.{found}
use Rattle.neighbour_find.proofs.Walks.{kept, members_root, no_root}
use Rattle.neighbour_find.proofs.finder.walk.Goals as goal

pub returns-in-Some : goal.returns-in-Some
returns-in-Some c =
    let S = c.args.tree.now.bodies in
    let a = c.args.around.now in
    let t = c.requires.tree in
    let root = c.in-Some.root in
    let place = c.in-Some.ensures t.setup t.whole t.tree in
    let d : NodeData = some_node c.args.tree.now.nodes root place.within in
    let whole : members S (cell_of_node c.args.tree.now.nodes root d) ≡ S = ap (members S) (place.there d ∙ c.root.ensures) ∙ members_root S (kept c.args.tree.now t).in_box in
    subst (λ (xs : List ℕ). OnOk c.visit.result (c.visit.new.out.items ≡ xs))
    (ap (λ (xs : List ℕ). xs ++ found a (members S (cell_of_node c.args.tree.now.nodes root d))) c.clear.ensures.items ∙ ap (found a) whole) (c.visit.ensures d)

pub returns-in-None : goal.returns-in-None
returns-in-None c =
    let t = c.requires.tree in
    let none : t.whole ≡ [] = no_root t.whole t.tree.over.bodies.in_box (ap (is_tree_node (positions_of t.whole)) (sym c.root.ensures) ∙ c.in-None.ensures t.setup t.whole t.tree) in
    let short : length c.args.tree.now.bodies ≡ 0 = length_permutation t.whole c.args.tree.now.bodies t.tree.over.along.permuted ∙ ap (λ (B : List BodyData). length B) none in
    c.clear.ensures.items ∙ sym (ap (found c.args.around.now) (nil_from_length c.args.tree.now.bodies short))
