-- Nodes: the cells with a member, and the leaves among them (GADGET's octree, told without a tree).
use Rattle.std.specs.Prelude.{Bool, true, List, [], ◌∷◌, map, filter}
use Rattle.std.specs.List.{list_all, list_any}
use Rattle.cell_space.specs.Cells.{Position, CellData, contains, same_place}
use Rattle.nbody_model.specs.Bodies.{BodyData}

-- the positions of bodies, in their order
abbrev pub positions_of : List BodyData → List Position
positions_of B = map (λ b. b.motion.pos) B

-- the members of a cell: the bodies in it
abbrev pub members : List BodyData → CellData → List BodyData
members B c = filter (λ b. contains c b.motion.pos) B

-- all positions are one
abbrev pub at_one_place : List Position → Bool
at_one_place [] = true
at_one_place (p ∷ ps) = list_all (same_place p) ps

-- one of the positions lies in the cell: it is a node of the bodies there
unfoldable pub is_node : List Position → CellData → Bool
is_node ps c = list_any (contains c) ps

-- all of the positions that lie in the cell are one: as a node it is a leaf
unfoldable pub is_leaf : List Position → CellData → Bool
is_leaf ps c = at_one_place (filter (contains c) ps)
