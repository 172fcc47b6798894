-- Whose sums they are, and what moments keep.
use Rattle.std.specs.Prelude.{◌≡◌, ◌≤◌, ◌*◌, ◌^◌, ℤ, pos, true, List, get_or}
use Rattle.std.specs.List.{AllByRecursion}
use Rattle.nbody_model.specs.Bodies.{BodyData}
use Rattle.cell_space.specs.Cells.{contains}
use Rattle.nbody_model.specs.Setups.{SetupData, AreSoftenings, IsSoftening}
use Rattle.nbody_model.specs.Moments.{MomentsData, Symmetric}
use Rattle.nbody_model.specs.OpeningRule.{side}
use Rattle.nbody_model.specs.Nodes.{members, positions_of, is_node}
use Rattle.model_laws.specs.Laws.{AreBodies, IsWithinEach}
use Rattle.node_moments.specs.Sums.{RawData, raw_of}

-- sums over the members of a node of these bodies, with softening lengths of this setup
pub record IsSumOf (s : SetupData) (B : List BodyData) (r : RawData) : Type 0 where
  pub bodies : AreBodies B
  pub kinds : AllByRecursion (λ b. b.kind ≤ 5) B
  pub softenings : AreSoftenings s.soft
  pub node : is_node (positions_of B) r.cell ≡ true
  pub is : r ≡ raw_of s.soft r.cell (members B r.cell)

-- sums over the members of some node
pub record IsOfNode (r : RawData) : Type 0 where
  pub setup : SetupData
  pub all : List BodyData
  pub sums : IsSumOf setup all r

-- moments that a node may have: a mass of 1 to 2^32, a softening length in its range, the centre in the cell, and second
-- moments of at most the mass times the square of the side, which for a leaf is 0
pub record IsMoments (m : MomentsData) : Type 0 where
  pub heavy : 1 ≤ m.mass
  pub light : m.mass ≤ 2 ^ 32
  pub softening : IsSoftening m.eps
  pub inside : contains m.cell m.centre ≡ true
  pub small : IsWithinEach (m.mass * (side m * side m)) m.quad

-- six numbers as a matrix
abbrev pub symmetric : List ℤ → Symmetric
symmetric q = record { xx = get_or q 0 (pos 0); yy = get_or q 1 (pos 0); zz = get_or q 2 (pos 0); xy = get_or q 3 (pos 0); xz = get_or q 4 (pos 0); yz = get_or q 5 (pos 0) }
