-- What the ranks' counts, sums, members and shares come to, by the contents of messages alone.
use Rattle.std.specs.Prelude.{◌≡◌, ◌≤◌, ℕ, ◌==◌, not, IsTrue, List, filter, length, map, sum_by}
use Rattle.std.specs.List.{flat_map, count_by}
use Rattle.std.specs.List.Sorted.{IsPermutation}
use Rattle.fixed_point.specs.declared.V3.{V3}
use Rattle.fixed_point.specs.Vectors.{sum_of}
use Rattle.cell_space.specs.Cells.{CellData, same_cell}
use Rattle.nbody_model.specs.Nodes.{members}
use Rattle.nbody_model.specs.Covers.{interactions}
use Rattle.nbody_model.specs.Walks.{reached}
use Rattle.nbody_model.specs.Force.{node_total, forces}
use Rattle.rank_laws.specs.Homes.{home, concerned}
use Rattle.rank_laws.specs.Trees.{all_from}
use Rattle.rank_laws.specs.Machine.{Pair, is_one, cells_of, need}
use Rattle.rank_laws.specs.Runs.{IsFair}
use Rattle.rank_laws.specs.Whole.{Whole, IsWhole, opening, depth_of, next_of, start_of, in_order, IsInOrder, rules_of, ranks, counted}
use Rattle.rank_laws.specs.Contents.{total_at, wanted, collected, member_of, gathered}

-- the rules of a whole are fair, so all that holds of every run holds of its runs
abbrev pub RulesAreFair : Type 0
RulesAreFair = (w : Whole) → IsWhole w → IsFair (rules_of w)

-- the cells of a list in order ascend by level and then by first key, and each stands there once
pub record IsOrdered (w : Whole) (cs : List CellData) : Type 0 where
  pub ascends : IsInOrder w.keys (in_order w.keys cs)
  pub same : (c : CellData) → is_one c (in_order w.keys cs) ≡ is_one c cs
  pub once : (c : CellData) → count_by (same_cell c) (in_order w.keys cs) ≤ 1

abbrev pub OrdersCells : Type 0
OrdersCells = (w : Whole) (cs : List CellData) → IsOrdered w cs

-- the pairs that a rank's walk reaches are the reached pairs with which it is concerned, in their order; so the cells that it
-- needs are those of other homes in these pairs
pub record ReachesItsOwn (w : Whole) (r : ℕ) : Type 0 where
  pub pairs : flat_map (all_from depth_of (next_of w r)) (start_of w r) ≡ filter (concerned w.keys r) (reached (opening w))
  pub needed : need (rules_of w) r ≡ in_order w.keys (filter (λ c. not (home w.keys c == r)) (flat_map cells_of (filter (concerned w.keys r) (reached (opening w)))))

abbrev pub WalksReachTheirOwn : Type 0
WalksReachTheirOwn = (w : Whole) → IsWhole w → (r : ℕ) → ReachesItsOwn w r

-- two lists of pairs over which each weight has one sum, and each force
pub record AddUpAlike (xs ys : List Pair) : Type 0 where
  pub counted : (weight : Pair → ℕ) → sum_by weight xs ≡ sum_by weight ys
  pub added : (force : Pair → V3) → sum_of force xs ≡ sum_of force ys

-- the ranks together count the interactions, each once
abbrev pub RanksCountInteractions : Type 0
RanksCountInteractions = (w : Whole) → IsWhole w → AddUpAlike (flat_map (counted w) (ranks w)) (interactions (opening w))

-- and as many
abbrev pub RanksCountAsMany : Type 0
RanksCountAsMany = (w : Whole) → IsWhole w → sum_by (λ r. length (counted w r)) (ranks w) ≡ length (interactions (opening w))

-- the home of a cell gets its total
abbrev pub HomesHaveTotals : Type 0
HomesHaveTotals = (w : Whole) → IsWhole w → (c : CellData) → total_at w (home w.keys c) c ≡ node_total w.gravity w.bodies c

-- the home of a cell that it wants collects its members
abbrev pub MembersAreCollected : Type 0
MembersAreCollected = (w : Whole) → IsWhole w → (c : CellData) → IsTrue (is_one c (wanted w (home w.keys c))) →
    IsPermutation (map member_of (members w.bodies c)) (collected w (home w.keys c) c)

-- what the owners gather are the forces
abbrev pub ForcesAreGathered : Type 0
ForcesAreGathered = (w : Whole) → IsWhole w → map (gathered w) w.bodies ≡ forces w.gravity w.bodies
