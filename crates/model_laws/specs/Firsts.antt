-- Totals of nodes and numbers of interactions, over bodies in the place of interactions: each interaction is taken at
-- the first members of its cells.
use Rattle.std.specs.Prelude.{◌≡◌, Bool, false, not, ◌&&◌, ◌==◌, IsTrue, List, [], ◌∷◌, length, sum_by, count_by, if◌then◌else◌}
use Rattle.std.specs.List.{AllByRecursion}
use Rattle.fixed_point.specs.declared.V3.{V3}
use Rattle.fixed_point.specs.Vectors.{origin, sum_of}
use Rattle.cell_space.specs.Cells.{CellData, contains, same_cell, same_place, before}
use Rattle.nbody_model.specs.Bodies.{BodyData}
use Rattle.nbody_model.specs.Setups.{SetupData}
use Rattle.nbody_model.specs.Tables.{Gravity}
use Rattle.nbody_model.specs.Nodes.{members}
use Rattle.nbody_model.specs.Covers.{Opening, opening_of, orient, cover, interactions}
use Rattle.nbody_model.specs.Force.{pair_force, force_on, node_total}
use Rattle.model_laws.specs.Laws.{AreBodies}

-- a list begins with a body
abbrev pub leads : List BodyData → BodyData → Bool
leads [] j = false
leads (m ∷ ms) j = m.id == j.id

-- a body is the first of the members of a cell
abbrev pub is_first : List BodyData → CellData → BodyData → Bool
is_first B c j = leads (members B c) j

-- what a body j stands for in the total of a cell c with a body b: the force on c of their cover, where c is b's cell of it
-- and j is the first in the other
unfoldable pub part_of_total : Gravity → List BodyData → BodyData → CellData → BodyData → V3
part_of_total g B b c j =
    let x = cover (opening_of g.setup B) b.motion.pos j.motion.pos in
    let f = force_on (pair_force g B) c (orient x) in
    if same_place b.motion.pos j.motion.pos then origin else (if same_cell x.0 c && is_first B x.1 j then f else origin)

-- the total of a cell with a body is what all bodies stand for in it
abbrev pub NodeTotalsByBodies : Type 0
NodeTotalsByBodies = (g : Gravity) (B : List BodyData) → AreBodies B →
    AllByRecursion (λ b. (c : CellData) → IsTrue (contains c b.motion.pos) → node_total g B c ≡ sum_of (part_of_total g B b c) B) B

-- two bodies stand for their cover: each is the first in its cell, and the cell of the first one isn't that of greater corner
unfoldable pub stands_for : Opening → List BodyData → BodyData → BodyData → Bool
stands_for o B i j =
    let x = cover o i.motion.pos j.motion.pos in
    not (same_place i.motion.pos j.motion.pos) && (is_first B x.0 i && (is_first B x.1 j && not (before x.1 x.0)))

-- the interactions are as many as the pairs of bodies that stand for one
abbrev pub InteractionsByBodies : Type 0
InteractionsByBodies = (s : SetupData) (B : List BodyData) → AreBodies B →
    length (interactions (opening_of s B)) ≡ sum_by (λ i. count_by (stands_for (opening_of s B) B i) B) B
