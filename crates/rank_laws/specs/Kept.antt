-- What ranks make of the messages that they keep, in every run.
use Rattle.std.specs.Prelude.{◌≡◌, ◌<◌, ℕ, ◌==◌, true, List, ◌∷◌, ◌++◌, length, map, filter, sum_by, IsTrue}
use Rattle.std.specs.List.{flat_map, list_any}
use Rattle.std.specs.List.Sorted.{IsPermutation}
use Rattle.fixed_point.specs.declared.V3.{V3}
use Rattle.fixed_point.specs.Vectors.{plus, sum_of}
use Rattle.cell_space.specs.Cells.{CellData}
use Rattle.nbody_model.specs.Bodies.{BodyData}
use Rattle.nbody_model.specs.Nodes.{members}
use Rattle.nbody_model.specs.Covers.{interactions}
use Rattle.nbody_model.specs.Force.{node_total, forces}
use Rattle.force_sharing.specs.Sharing.{Member}
use Rattle.rank_laws.specs.Homes.{home}
use Rattle.rank_laws.specs.Protocol.{World, Move, state, enabled}
use Rattle.rank_laws.specs.Machine.{Kind, Sums, Members, Parts, Message, Rank, Rules, code_of, is_one, others, has_all, machine}
use Rattle.rank_laws.specs.Runs.{IsFair, Runs}
use Rattle.rank_laws.specs.Whole.{Whole, IsWhole, opening, rules_of, ranks, ranks_of, counted_in}
use Rattle.rank_laws.specs.Contents.{sum_at, sums_sent, touched, wanted, member_of, members_in, members_sent, given_to, parts_sent, collected, share_at, part_for}

-- the senders of what a rank got of a kind
abbrev pub senders : Kind → Rank → List ℕ
senders k s = map (λ m. m.from) (filter (λ m. code_of m.kind == code_of k) s.got)

-- a rank that has a kind from all others has it from each once
abbrev pub KeepsEachOnce : Type 0
KeepsEachOnce = (rules : Rules) → IsFair rules → (events : List Move) (w : World Rank Message) → Runs rules events w →
    (r : ℕ) → r < rules.ranks → (k : Kind) → code_of k < 5 → has_all rules k r (state (machine rules) w r) ≡ true → IsPermutation (others rules r) (senders k (state (machine rules) w r))

-- in a finished machine each rank has the sums, the members and the parts of all others
pub record HasAllOf (rules : Rules) (r : ℕ) (s : Rank) : Type 0 where
  pub sums : has_all rules Sums r s ≡ true
  pub members : has_all rules Members r s ≡ true
  pub parts : has_all rules Parts r s ≡ true

abbrev pub FinishedHaveAll : Type 0
FinishedHaveAll = (rules : Rules) → IsFair rules → (events : List Move) (w : World Rank Message) → Runs rules events w → enabled (machine rules) w ≡ 0 → (r : ℕ) → r < rules.ranks → HasAllOf rules r (state (machine rules) w r)

-- what rank r adds up at a cell: what it would send to itself, and what it got
abbrev pub added_up : Whole → ℕ → Rank → CellData → V3
added_up w r s c = plus (sum_at c (sums_sent w r r)) (sum_of (λ q. sum_at c (sums_sent w q r)) (senders Sums s))

-- the members of a cell that it has: its own bodies, and those that it got
abbrev pub listed_up : Whole → ℕ → Rank → CellData → List Member
listed_up w r s c = members_in c (members_sent w r r) ++ flat_map (λ q. members_in c (members_sent w q r)) (senders Members s)

-- what it has for a body: the shares that it made itself, and those that it got
abbrev pub given_up : Whole → ℕ → Rank → BodyData → V3
given_up w r s b = plus (given_to b.id (parts_sent w r r)) (sum_of (λ h. given_to b.id (parts_sent w h r)) (senders Parts s))

-- the sum at a cell's home: a rank that has the sums of all others has the totals of its cells
abbrev pub AddsTotals : Type 0
AddsTotals = (w : Whole) → IsWhole w → (events : List Move) (z : World Rank Message) → Runs (rules_of w) events z → (r : ℕ) → r < ranks_of w →
    has_all (rules_of w) Sums r (state (machine (rules_of w)) z r) ≡ true → (c : CellData) → home w.keys c ≡ r → added_up w r (state (machine (rules_of w)) z r) c ≡ node_total w.gravity w.bodies c

-- and the cells among them, its own and those that it got, are those that it wants
abbrev pub HasCells : Type 0
HasCells = (w : Whole) → IsWhole w → (events : List Move) (z : World Rank Message) → Runs (rules_of w) events z → (r : ℕ) → r < ranks_of w →
    has_all (rules_of w) Sums r (state (machine (rules_of w)) z r) ≡ true → (c : CellData) → is_one c (flat_map (λ q. touched w q r) (r ∷ senders Sums (state (machine (rules_of w)) z r))) ≡ is_one c (wanted w r)

-- a rank that has the members of all others has the members of the cells that it wants
abbrev pub HasMembers : Type 0
HasMembers = (w : Whole) → IsWhole w → (events : List Move) (z : World Rank Message) → Runs (rules_of w) events z → (r : ℕ) → r < ranks_of w →
    has_all (rules_of w) Members r (state (machine (rules_of w)) z r) ≡ true → (c : CellData) → IsTrue (is_one c (wanted w r)) → IsPermutation (map member_of (members w.bodies c)) (listed_up w r (state (machine (rules_of w)) z r) c)

-- in a finished machine the ranks have counted as many pairs as there are interactions
abbrev pub HasCounts : Type 0
HasCounts = (w : Whole) → IsWhole w → (events : List Move) (z : World Rank Message) → Runs (rules_of w) events z → enabled (machine (rules_of w)) z ≡ 0 →
    sum_by (λ r. length (counted_in w r (state (machine (rules_of w)) z r).done)) (ranks w) ≡ length (interactions (opening w))

-- in a finished machine the owners of the bodies have their forces
abbrev pub HasForces : Type 0
HasForces = (w : Whole) → IsWhole w → (events : List Move) (z : World Rank Message) → Runs (rules_of w) events z → enabled (machine (rules_of w)) z ≡ 0 →
    map (λ b. given_up w (w.owner b.id) (state (machine (rules_of w)) z (w.owner b.id)) b) w.bodies ≡ forces w.gravity w.bodies

-- what bodies get at a home, by the ids that came to it: the shares in the cells for which their ids came
abbrev pub part_by : Whole → ℕ → BodyData → V3
part_by w h b = sum_of (λ c. share_at w h c b) (filter (λ c. list_any (λ m. m.0 == b.id) (collected w h c)) (wanted w h))

-- that is what they get by their positions
abbrev pub PartsAreById : Type 0
PartsAreById = (w : Whole) → IsWhole w → (h : ℕ) → map (part_by w h) w.bodies ≡ map (part_for w h) w.bodies
