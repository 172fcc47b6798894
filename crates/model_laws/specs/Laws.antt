-- The laws of the definitions.
use Rattle.std.specs.Prelude.{◌≡◌, ◌≤◌, ◌<◌, ℕ, ◌+◌, ◌-◌, ◌*◌, ◌^◌, Bool, true, false, ◌&&◌, ◌||◌, if◌then◌else◌, IsTrue, pos, unsigned_abs, Option, Some, None, ⊤, List, length, map, filter, sum_by}
use Rattle.std.specs.List.{AllByRecursion, list_any, count_by}
use Rattle.std.specs.List.Sorted.{IsStrictlyIncreasing}
use Rattle.fixed_point.specs.declared.V3.{V3}
use Rattle.fixed_point.specs.Vectors.{origin, sum_of, IsAtMost}
use Rattle.cell_space.specs.Cells.{Position, CellData, InBox, AreDisjoint, contains, child, below, same_cell, same_place, before}
use Rattle.nbody_model.specs.Bodies.{BodyData, IsValid, has, only, total}
use Rattle.nbody_model.specs.Setups.{SetupData, IsSetup}
use Rattle.nbody_model.specs.Tables.{Gravity, TableData, IsTable, ExpansionData, IsExpansion, Reaches}
use Rattle.nbody_model.specs.Nodes.{members, positions_of, is_node, is_leaf}
use Rattle.nbody_model.specs.Moments.{Symmetric, MomentsData, mass_of, moments}
use Rattle.nbody_model.specs.OpeningRule.{side}
use Rattle.nbody_model.specs.Correction.{correction}
use Rattle.nbody_model.specs.Covers.{Opening, opening_of, orient, same_pair, chain, cover, final, interactions, visited}
use Rattle.nbody_model.specs.Walks.{found, visits, reached}
use Rattle.model_laws.specs.InOrder.{IsOrderOfChildren, found_in, visits_in, is_visit}
use Rattle.nbody_model.specs.Force.{share_of, pair_force, node_total, force_at, forces}
use Rattle.nbody_model.specs.Factors.{factor, kick_factor, drift_factor}
use Rattle.nbody_model.specs.Steps.{change, kicked_bodies, drift}

-- the test that ends a chain early doesn't look at the order of its cells
abbrev pub IsFair : Opening → Type 0
IsFair o = (a b : CellData) → o.accept a b ≡ o.accept b a

-- an opening whose test is fair, and whose positions lie in the box
pub record IsSound (o : Opening) : Type 0 where
  pub fair : IsFair o
  pub in_box : AllByRecursion InBox o.positions

-- the pairs of xs, each turned with the cell of smaller corner first, are those of ys, each as often: over both every
-- weight has one sum, and every force
pub record AreTurned (xs ys : List (CellData × CellData)) : Type 0 where
  pub counted : (weight : CellData × CellData → ℕ) → sum_by (λ x. weight (orient x)) xs ≡ sum_by weight ys
  pub added : (force : CellData × CellData → V3) → sum_of (λ x. force (orient x)) xs ≡ sum_of force ys

-- what a walk finds are the interactions, each once
abbrev pub WalkFindsInteractions : Type 0
WalkFindsInteractions = (o : Opening) → IsSound o → AreTurned (found o) (interactions o)

-- the pairs of different nodes that a walk looks at are the visited pairs, each once
abbrev pub WalkVisitsVisited : Type 0
WalkVisitsVisited = (o : Opening) → IsSound o → AreTurned (visits o) (visited o)

-- and so are those among the pairs that it reaches
abbrev pub WalkReachesVisited : Type 0
WalkReachesVisited = (o : Opening) → IsSound o → AreTurned (filter is_visit (reached o)) (visited o)

-- a walk in an order finds the interactions, each once, and looks at the visited pairs, each once
pub record WalksAll (o : Opening) (order : CellData → List CellData) : Type 0 where
  pub finds : AreTurned (found_in o order) (interactions o)
  pub looks_at : AreTurned (visits_in o order) (visited o)

-- in whatever order the children of each cell come
abbrev pub OrderIsFree : Type 0
OrderIsFree = (o : Opening) → IsSound o → (order : CellData → List CellData) → IsOrderOfChildren o order → WalksAll o order

-- a pair of nodes with nothing in common, not the one of greater corner first
pub record IsPairOfNodes (o : Opening) (x : CellData × CellData) : Type 0 where
  pub first : IsTrue (is_node o.positions x.0)
  pub second : IsTrue (is_node o.positions x.1)
  pub apart : AreDisjoint x.0 x.1
  pub turned : before x.1 x.0 ≡ false

-- interactions and visited pairs are such pairs, and none stands twice
pub record ArePairsOfNodes (o : Opening) : Type 0 where
  pub interactions_each : AllByRecursion (IsPairOfNodes o) (interactions o)
  pub interactions_once : (z : CellData × CellData) → count_by (λ x. same_pair x z) (interactions o) ≤ 1
  pub visited_each : AllByRecursion (IsPairOfNodes o) (visited o)
  pub visited_once : (z : CellData × CellData) → count_by (λ x. same_pair x z) (visited o) ≤ 1

abbrev pub PairsOfNodes : Type 0
PairsOfNodes = (o : Opening) → IsSound o → ArePairsOfNodes o

-- a body has a kind of at most 5 and a mass of at least 1, and lies in the box
pub record KeepsLimits (b : BodyData) : Type 0 where
  pub kind : b.kind ≤ 5
  pub heavy : 1 ≤ b.mass
  pub in_box : InBox b.motion.pos

-- bodies in an order and with numbers that the program's bodies have: ids that ascend, masses of at least 1, and
-- positions in the box
pub record AreBodies (B : List BodyData) : Type 0 where
  pub valid : IsValid B
  pub heavy : AllByRecursion (λ b. 1 ≤ b.mass) B
  pub in_box : AllByRecursion (λ b. InBox b.motion.pos) B

-- ---- forces

-- the shares that members get of a total add up to it, on each axis, where the ids ascend and there is mass
abbrev pub SharesAddUp : Type 0
SharesAddUp = (members : List BodyData) → IsStrictlyIncreasing (map (λ b. b.id) members) → 1 ≤ mass_of members → (total : V3) → sum_of (share_of members total) members ≡ total

-- the forces on all bodies add up to zero
abbrev pub ForcesCancel : Type 0
ForcesCancel = (g : Gravity) (B : List BodyData) → AreBodies B → sum_of (λ f. f) (forces g B) ≡ origin

-- over bodies in the box the opening rule is fair, so the laws of walks hold of it
abbrev pub OpeningIsSound : Type 0
OpeningIsSound = (s : SetupData) (B : List BodyData) → AllByRecursion (λ b. InBox b.motion.pos) B → IsSound (opening_of s B)

-- ---- kicks and drifts

-- a kick whose changes add up to zero keeps the momentum of all bodies together
abbrev pub KickKeepsTotal : Type 0
KickKeepsTotal = (h : ℕ) (P : List ℕ) (change : BodyData → V3) (B : List BodyData) → sum_of change (only B P) ≡ origin → total (kicked_bodies h P change B) ≡ total B

-- the changes of a kick of P, where F is a part of P, add up to zero
abbrev pub ChangesCancel : Type 0
ChangesCancel = (g : Gravity) (P F : List ℕ) (B : List BodyData) → AreBodies B → ((id : ℕ) → IsTrue (has F id) → IsTrue (has P id)) → sum_of (change g P F B) (only B P) ≡ origin

-- a drift keeps each momentum
abbrev pub DriftKeepsMomenta : Type 0
DriftKeepsMomenta = (s : SetupData) (P : List ℕ) (ticks : ℕ) (B : List BodyData) → map (λ b. b.motion.mom) (drift s P ticks B) ≡ map (λ b. b.motion.mom) B

-- ---- the factors of steps

-- where there is an expansion table, it keeps its limits and reaches a tick
abbrev pub Spans : Option ExpansionData → ℕ → Type 0
Spans None tick = ⊤
Spans (Some e) tick = IsExpansion e × Reaches e tick

-- both factors from one tick to another are what the sums rise by between them, and at most the ticks between
pub record AreBounded (table : Option ExpansionData) (from to : ℕ) : Type 0 where
  pub kick_adds : factor (λ e. e.kick) table from + kick_factor table from to ≡ factor (λ e. e.kick) table to
  pub kick_most : kick_factor table from to ≤ to - from
  pub drift_adds : factor (λ e. e.drift) table from + drift_factor table from to ≡ factor (λ e. e.drift) table to
  pub drift_most : drift_factor table from to ≤ to - from

-- both factors lie between 0 and the ticks between
abbrev pub FactorsAreBounded : Type 0
FactorsAreBounded = (table : Option ExpansionData) (from to : ℕ) → from ≤ to → Spans table to → AreBounded table from to

-- ---- cells, chains and covers

-- each body of a cell is in exactly one of its children, and no other body is: over the members of the children every
-- weight has the sum that it has over those of the cell
abbrev pub MembersPart : Type 0
MembersPart = (B : List BodyData) (c : CellData) → c.level < 32 → (weight : BodyData → ℕ) → sum_by (λ k. sum_by weight (members B (child c k))) (below 8) ≡ sum_by weight (members B c)

-- two different cells on a chain have nothing in common
abbrev pub ChainsAreDisjoint : Type 0
ChainsAreDisjoint = (o : Opening) (p q : Position) → InBox p → InBox q → AllByRecursion (λ x. AreDisjoint x.0 x.1) (chain o p q)

-- one of a pair of cells contains p, and the other one q
abbrev pub parts_two : Position → Position → CellData × CellData → Bool
parts_two p q x = (contains x.0 p && contains x.1 q) || (contains x.0 q && contains x.1 p)

-- exactly one interaction parts two bodies, and it is their cover
pub record HasOneCover (o : Opening) (p q : Position) : Type 0 where
  pub one : count_by (parts_two p q) (interactions o) ≡ 1
  pub there : IsTrue (list_any (same_pair (orient (cover o p q))) (interactions o))
  pub parted : IsTrue (parts_two p q (orient (cover o p q)))

-- two bodies at different positions have exactly one cover
abbrev pub EachTwoHaveOneCover : Type 0
EachTwoHaveOneCover = (o : Opening) → IsSound o → (p q : Position) → IsTrue (list_any (same_place p) o.positions) → IsTrue (list_any (same_place q) o.positions) → same_place p q ≡ false → HasOneCover o p q

-- a pair has a cell
abbrev pub has_cell : CellData → CellData × CellData → Bool
has_cell c x = same_cell c x.0 || same_cell c x.1

-- the other cell of a pair that has a cell
abbrev pub partner : CellData → CellData × CellData → CellData
partner c x = if same_cell c x.0 then x.1 else x.0

-- the partners of a cell in different interactions have nothing in common
abbrev pub PartnersAreDisjoint : Type 0
PartnersAreDisjoint = (o : Opening) → IsSound o → (c : CellData) (x y : CellData × CellData) →
    IsTrue (list_any (same_pair x) (interactions o)) → IsTrue (list_any (same_pair y) (interactions o)) → same_pair x y ≡ false →
    IsTrue (has_cell c x) → IsTrue (has_cell c y) → AreDisjoint (partner c x) (partner c y)

-- a cell has at most as many interactions as there are bodies
abbrev pub PartnersAreFew : Type 0
PartnersAreFew = (o : Opening) → IsSound o → (c : CellData) → count_by (has_cell c) (interactions o) ≤ length o.positions

-- ---- bounds, from one on the forces of pairs

-- each interaction's force is at most that much on each axis
abbrev pub PairsAreAtMost : Gravity → List BodyData → ℕ → Type 0
PairsAreAtMost g B most = AllByRecursion (λ x. IsAtMost most (pair_force g B x)) (interactions (opening_of g.setup B))

-- a node's total is at most as much for each body
abbrev pub NodeTotalsAreBounded : Type 0
NodeTotalsAreBounded = (g : Gravity) (B : List BodyData) → AreBodies B → (most : ℕ) → PairsAreAtMost g B most → (c : CellData) → IsAtMost (length B * most) (node_total g B c)

-- the force on a body is at most that much, and the mass of all bodies, for each of the 33 cells around it
abbrev pub ForcesAreBounded : Type 0
ForcesAreBounded = (g : Gravity) (B : List BodyData) → AreBodies B → (most : ℕ) → PairsAreAtMost g B most →
    AllByRecursion (λ b. IsAtMost (33 * (length B * most + mass_of B)) (force_at g B b)) B

-- ---- nodes

-- the centre of a node lies in it
abbrev pub CentresLieInside : Type 0
CentresLieInside = (s : SetupData) (B : List BodyData) → AreBodies B → (c : CellData) → IsTrue (is_node (positions_of B) c) → IsTrue (contains c ((moments s B c).centre))

-- moments are those of a point: the centre is the position of each member, and there are no second moments
pub record IsPoint (m : MomentsData) (members : List BodyData) : Type 0 where
  pub centred : AllByRecursion (λ b. b.motion.pos ≡ m.centre) members
  pub round : m.quad ≡ record { xx = pos 0; yy = pos 0; zz = pos 0; xy = pos 0; xz = pos 0; yz = pos 0 }

-- a leaf is a point
abbrev pub LeavesArePoints : Type 0
LeavesArePoints = (s : SetupData) (B : List BodyData) → AreBodies B → (c : CellData) → IsTrue (is_node (positions_of B) c) → IsTrue (is_leaf (positions_of B) c) → IsPoint (moments s B c) (members B c)

-- no component of a matrix is more than n in size
pub record IsWithinEach (n : ℕ) (q : Symmetric) : Type 0 where
  pub on_xx : unsigned_abs q.xx ≤ n
  pub on_yy : unsigned_abs q.yy ≤ n
  pub on_zz : unsigned_abs q.zz ≤ n
  pub on_xy : unsigned_abs q.xy ≤ n
  pub on_xz : unsigned_abs q.xz ≤ n
  pub on_yz : unsigned_abs q.yz ≤ n

-- the second moments of a node are at most its mass times the square of its side, which for a leaf is 0
abbrev pub SecondMomentsAreBounded : Type 0
SecondMomentsAreBounded = (s : SetupData) (B : List BodyData) → AreBodies B → (c : CellData) → IsTrue (is_node (positions_of B) c) → let m = moments s B c in IsWithinEach (m.mass * (side m * side m)) m.quad

-- each interaction is final
abbrev pub InteractionsAreFinal : Type 0
InteractionsAreFinal = (o : Opening) → IsSound o → AllByRecursion (λ x. final o x.0 x.1 ≡ true) (interactions o)

-- no correction out of a table, where there is one, is more than 2^31 on an axis, for a way of at most half the box
abbrev pub CorrectsLittle : Option TableData → Type 0
CorrectsLittle None = ⊤
CorrectsLittle (Some t) = (d : V3) → IsAtMost (2 ^ 31) d → IsAtMost (2 ^ 31) (correction t d)

-- the force of each interaction is below 2^87 on each axis
abbrev pub PairForcesAreBounded : Type 0
PairForcesAreBounded = (g : Gravity) (B : List BodyData) → IsSetup g.setup → AreBodies B → AllByRecursion (λ b. b.kind ≤ 5) B → CorrectsLittle g.table → PairsAreAtMost g B (2 ^ 86)

-- a table that keeps its limits corrects little
abbrev pub TablesCorrectLittle : Type 0
TablesCorrectLittle = (t : TableData) → IsTable t → CorrectsLittle (Some t)
