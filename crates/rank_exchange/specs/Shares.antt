-- The totals of cells, shared among their members.
use Rattle.std.specs.Prelude.{◌≡◌, ◌<◌, ℕ, ◌+◌, ◌*◌, ◌%◌, ◌^◌, true, nat_lt, List, [], ◌∷◌, ◌++◌, length, map, slice_index_or, ℤ}
use Rattle.std.specs.List.{AllByRecursion, count_by}
use Rattle.std.specs.List.Sorted.{IsPermutation}
use Rattle.fixed_point.specs.declared.V3.{V3}
use Rattle.fixed_point.specs.Vectors.{IsBelow}
use Rattle.cell_space.specs.Cells.{CellData}
use Rattle.hilbert_keys.specs.Curve.{IsCell}
use Rattle.nbody_model.specs.Force.{share_of}
use Rattle.force_sharing.specs.Sharing.{Member, AreMembers, body_of, shares_of}
use Rattle.rank_laws.specs.Machine.{is_one}
use Rattle.rank_laws.specs.Contents.{Summed, Listed, sum_at, members_in}
use Rattle.octree_build.specs.Trees.{Rises}
use Rattle.rank_exchange.specs.declared.keyed.Keyed.{Keyed}
use Rattle.rank_exchange.specs.declared.shares.Kept.{Kept}
use Rattle.rank_exchange.specs.Sums.{cells_in, place_of, Climbs}

abbrev pub listed : List Kept → List Listed
listed ks = map (λ k. k.entry) ks

-- what was kept of the members of a cell
abbrev pub members_at : CellData → List Kept → List Member
members_at c ks = members_in c (listed ks)

-- ids of the program
abbrev pub HaveIds : List Kept → Type 0
HaveIds ks = AllByRecursion (λ k. k.entry.member.0 < 2 ^ 64) ks

-- the share of a member in the total of its cell
unfoldable pub share_in : List Summed → List Kept → Kept → V3
share_in ts ks k = share_of (map body_of (members_at k.entry.cell ks)) (sum_at k.entry.cell ts) (body_of k.entry.member)

-- the share with its key: the rank from which the member came, and the id below it
abbrev pub shared_in : List Summed → List Kept → Kept → Keyed
shared_in ts ks k = record { key = k.from * 2 ^ 64 + k.entry.member.0; sum = share_in ts ks k }

-- some members in an order of ids
pub record AreOrdered (ms : List Member) : Type 0 where
  pub order : List Member
  pub permuted : IsPermutation order ms
  pub members : AreMembers order

-- cells once each, ascending, with totals that fit, and members of these cells, for each cell some, with different ids
pub record MayShare (ts : List Summed) (ks : List Kept) : Type 0 where
  pub climbs : Climbs (cells_in ts)
  pub boxed : AllByRecursion IsCell (cells_in ts)
  pub small : AllByRecursion (λ t. IsBelow (2 ^ 112) t.sum) ts
  pub wanted : AllByRecursion (λ k. is_one k.entry.cell (cells_in ts) ≡ true) ks
  pub members : (c : CellData) → is_one c (cells_in ts) ≡ true → AreOrdered (members_at c ks)

-- ---- members as numbers: how many of the cells come before theirs, the id, and the place in the list

unfoldable pub index_of : List Summed → CellData → ℕ
index_of ts c = count_by (λ t. nat_lt (place_of t.cell) (place_of c)) ts

abbrev pub number_of : List Summed → ℕ → Kept → ℕ
number_of ts i k = index_of ts k.entry.cell * 2 ^ 96 + (k.entry.member.0 * 2 ^ 32 + i)

abbrev pub numbered : List Summed → ℕ → List Kept → List ℕ
numbered ts i [] = []
numbered ts i (k ∷ ks) = number_of ts i k ∷ numbered ts (i + 1) ks

-- a number is that of the member at its place
pub record IsNumberOf (ts : List Summed) (ks : List Kept) (n : ℕ) : Type 0 where
  pub within : n % 2 ^ 32 < length ks
  pub is : (d : Kept) → n ≡ number_of ts (n % 2 ^ 32) (slice_index_or ks (n % 2 ^ 32) d)

-- the numbers of all members, whose ids fit
pub record AreNumbers (ts : List Summed) (ks : List Kept) (ns : List ℕ) : Type 0 where
  pub are : ns ≡ numbered ts 0 ks
  pub ids : AllByRecursion (λ k. k.entry.member.0 < 2 ^ 64) ks

-- the same, ascending
pub record AreSorted (ts : List Summed) (ks : List Kept) (ns : List ℕ) : Type 0 where
  pub permuted : IsPermutation (numbered ts 0 ks) ns
  pub rises : Rises (λ n. n) ns
  pub ids : AllByRecursion (λ k. k.entry.member.0 < 2 ^ 64) ks
  pub each : AllByRecursion (IsNumberOf ts ks) ns

-- the member of a number, and its share with its key where the members of its cell are these
abbrev pub kept_at : List Kept → Kept → ℕ → Kept
kept_at ks d n = slice_index_or ks (n % 2 ^ 32) d

abbrev pub member_at : List Kept → Kept → ℕ → Member
member_at ks d n = (kept_at ks d n).entry.member

-- the share of the member of a number, where these are the members of its cell and this is the total
abbrev pub share_at : List Kept → Kept → V3 → List Member → ℕ → Keyed
share_at ks d N ms n = record { key = (kept_at ks d n).from * 2 ^ 64 + (member_at ks d n).0; sum = share_of (map body_of ms) N (body_of (member_at ks d n)) }

-- numbers lie within the list of members
abbrev pub AreWithin : ℕ → List ℕ → Type 0
AreWithin long ns = AllByRecursion (λ n. n % 2 ^ 32 < long) ns

abbrev pub places_in : List Summed → List ℕ
places_in ts = map (λ t. place_of t.cell) ts

-- the shares of some members on each axis
pub record AreAxes (N : V3) (ms : List Member) (x y z : List ℤ) : Type 0 where
  pub on_x : x ≡ shares_of ms N.x
  pub on_y : y ≡ shares_of ms N.y
  pub on_z : z ≡ shares_of ms N.z

-- the share of the member of a number
abbrev pub shared_at : List Summed → List Kept → Kept → ℕ → Keyed
shared_at ts ks d n = shared_in ts ks (kept_at ks d n)

-- the members of some numbers, their shares in a total, and these on each axis
abbrev pub members_by : List Kept → Kept → List ℕ → List Member
members_by ks d ns = map (member_at ks d) ns

abbrev pub shares_by : List Kept → Kept → V3 → List ℕ → List Keyed
shares_by ks d N ns = map (share_at ks d N (members_by ks d ns)) ns

abbrev pub AreAxesOf : List Kept → Kept → List ℕ → V3 → List ℤ → List ℤ → List ℤ → Type 0
AreAxesOf ks d ns N x y z = AreAxes N (members_by ks d ns) x y z

-- the shares of the members of some numbers are put behind a list, in whatever total these are theirs on each axis
abbrev pub Puts : List Kept → List ℕ → List ℤ → List ℤ → List ℤ → List Keyed → List Keyed → Type 0
Puts ks ns x y z old new = (d : Kept) (N : V3) → AreAxesOf ks d ns N x y z → new ≡ old ++ shares_by ks d N ns
