-- What a rank keeps of the cells that it has heard of, by their places, and pairs of places.
use Rattle.std.specs.Prelude.{◌≡◌, ◌≤◌, ◌<◌, ⊤, pos, ◌^◌, ℕ, ◌+◌, ◌-◌, ◌==◌, Bool, true, false, ◌&&◌, ◌||◌, List, [], ◌∷◌, ◌++◌, map, filter, reverse, slice_index_or, slice_set, Option, Some, None, if◌then◌else◌}
use Rattle.std.specs.List.{flat_map, range_with_len}
use Rattle.fixed_point.specs.declared.V3.{V3}
use Rattle.fixed_point.specs.Vectors.{plus, origin, negative}
use Rattle.cell_space.specs.Cells.{CellData, root_cell, same_cell, before}
use Rattle.nbody_model.specs.Moments.{MomentsData}
use Rattle.nbody_model.specs.Tables.{Gravity}
use Rattle.nbody_model.specs.PairForce.{pair}
use Rattle.pair_law.specs.Conditions.{is_final}
use Rattle.rank_laws.specs.Machine.{Pair}
use Rattle.rank_walk.specs.declared.places.Places.{Places}
use Rattle.rank_walk.specs.declared.verdict.Verdict.{Verdict}
use Rattle.rank_walk.specs.declared.verdict.Verdict.TheVariants as verdicts

-- the moments of the root where there are no bodies
abbrev pub empty_moments : MomentsData
empty_moments = record {
  cell = root_cell;
  leaf = true;
  mass = 0;
  centre = record { x = 0; y = 0; z = 0 };
  quad = record { xx = pos 0; yy = pos 0; zz = pos 0; xy = pos 0; xz = pos 0; yz = pos 0 };
  eps = 0;
}

-- the moments that are held of a cell: none are held of the root where there are no bodies
abbrev pub held : Option MomentsData → MomentsData
held None = empty_moments
held (Some m) = m

abbrev pub or_zero : Option ℕ → ℕ
or_zero None = 0
or_zero (Some n) = n

-- a cell; its moments, where it is known; which of its children have members, a bit each; the places of its children,
-- none before it is opened; whether the rank is in its span, and whether the rank is its home; its home; its number in the
-- order of cells
pub record SlotData : Type 0 where
  pub cell : CellData
  pub moments : Option MomentsData
  pub below : ℕ
  pub first : ℕ
  pub number : ℕ
  pub mine : Bool
  pub here : Bool
  pub home : ℕ
  pub order : ℕ

abbrev pub no_slot : SlotData
no_slot = record { cell = root_cell; moments = None; below = 0; first = 0; number = 0; mine = false; here = false; home = 0; order = 0 }

abbrev pub slot_at : List SlotData → ℕ → SlotData
slot_at ss i = slice_index_or ss i no_slot

abbrev pub cell_at_place : List SlotData → ℕ → CellData
cell_at_place ss i = (slot_at ss i).cell

abbrev pub cells_in : List SlotData → List CellData
cells_in ss = map (λ s. s.cell) ss

-- the cells of two places
abbrev pub cells : List SlotData → Places → Pair
cells ss x = (cell_at_place ss x.a, cell_at_place ss x.b)

-- the rank is in the span of one of the two
abbrev pub meets : List SlotData → Places → Bool
meets ss x = (slot_at ss x.a).mine || (slot_at ss x.b).mine

abbrev pub two : ℕ → ℕ → Places
two a b = record { a = a; b = b }

-- the places from one to another
abbrev pub from_to : ℕ → ℕ → List ℕ
from_to from to = range_with_len from (to - from)

-- a place with each of some places
abbrev pub row : ℕ → List ℕ → List Places
row a bs = flat_map (λ b. two a b ∷ []) bs

-- each of some places with each of some others
abbrev pub both : List ℕ → List ℕ → List Places
both ds es = flat_map (λ d. row d es) ds

-- the unordered pairs of some places, equal ones included
abbrev pub same : List ℕ → List Places
same [] = []
same (d ∷ ds) = two d d ∷ (row d ds ++ same ds)

-- pairs with which the rank is concerned, put on a stack, the last first
abbrev pub put_on : List SlotData → List Places → List Places → List Places
put_on ss stack xs = stack ++ reverse (filter (meets ss) xs)

-- ---- what is done with a pair

-- a pair of known cells of these moments, either at home or not
abbrev pub judge_known : Gravity → Bool → MomentsData → Bool → MomentsData → Bool → Verdict
judge_known g together a at_a b at_b =
    let forth = if at_a then verdicts.Counts false (pair g a b) else verdicts.Drops in
    let back = if at_b then verdicts.Counts true (pair g b a) else verdicts.Drops in
    if together then (if a.leaf then verdicts.Drops else verdicts.Opens) else (if is_final g.setup a b then (if before b.cell a.cell then back else forth) else verdicts.Opens)

abbrev pub judge_of : Gravity → Bool → Option MomentsData → Bool → Option MomentsData → Bool → Verdict
judge_of g together None at_a b at_b = verdicts.Waits
judge_of g together (Some a) at_a None at_b = verdicts.Waits
judge_of g together (Some a) at_a (Some b) at_b = judge_known g together a at_a b at_b

-- what is done with the pair at two places
unfoldable pub judge : Gravity → List SlotData → Places → Verdict
judge g ss x = judge_of g (x.a == x.b) (slot_at ss x.a).moments (slot_at ss x.a).here (slot_at ss x.b).moments (slot_at ss x.b).here

-- two nodes with members of which a force may be asked, in either order
abbrev pub AreFit : Gravity → Option MomentsData → Option MomentsData → Type 0
AreFit g (Some a) (Some b) = (a.mass + b.mass ≤ 2 ^ 32) × (is_final g.setup a b ≡ is_final g.setup b a) × (0 < a.mass) × (0 < b.mass)
AreFit g None b = ⊤
AreFit g (Some a) None = ⊤

-- whether the two act on each other as wholes doesn't hang on their order
abbrev pub AreFair : Gravity → MomentsData → MomentsData → Type 0
AreFair g a b = is_final g.setup a b ≡ is_final g.setup b a

-- ---- sums

abbrev pub if_at : CellData → CellData → V3 → V3
if_at c d v = if same_cell c d then v else origin

-- what stands at a cell: the sum of what stands at its places
abbrev pub value_at : List CellData → List V3 → CellData → V3
value_at [] vs c = origin
value_at (d ∷ ds) [] c = origin
value_at (d ∷ ds) (v ∷ vs) c = plus (if_at c d v) (value_at ds vs c)

abbrev pub sum_at_place : List V3 → ℕ → V3
sum_at_place vs i = slice_index_or vs i origin

-- one place rises by a force and another falls by it
abbrev pub moved : List V3 → ℕ → ℕ → V3 → List V3
moved vs i j f = slice_set (slice_set vs i (plus (sum_at_place vs i) f)) j (plus (sum_at_place vs j) (negative f))

-- the first of two places, or if turned the second; and the other one
abbrev pub upper : Bool → Places → ℕ
upper turned x = if turned then x.b else x.a

abbrev pub lower : Bool → Places → ℕ
lower turned x = if turned then x.a else x.b

-- ---- flags

-- a cell is flagged at one of its places
abbrev pub flag_at : List CellData → List Bool → CellData → Bool
flag_at [] fs c = false
flag_at (d ∷ ds) [] c = false
flag_at (d ∷ ds) (f ∷ fs) c = (same_cell c d && f) || flag_at ds fs c

-- two places are flagged
abbrev pub flagged : List Bool → ℕ → ℕ → List Bool
flagged fs i j = slice_set (slice_set fs i true) j true
