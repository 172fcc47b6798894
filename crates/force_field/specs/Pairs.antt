-- Two nodes that act on each other.
use Rattle.std.specs.Prelude.{◌≡◌, ℕ, ◌+◌, ◌^◌, ◌≤◌, ◌<◌, true, ◌==◌, List, get_or, count_by, if◌then◌else◌}
use Rattle.fixed_point.specs.Vectors.{origin, IsAtMost}
use Rattle.cell_space.specs.Cells.{cell_at}
use Rattle.nbody_model.specs.Bodies.{BodyData}
use Rattle.nbody_model.specs.Tables.{Gravity}
use Rattle.nbody_model.specs.Covers.{Opening, opening_of}
use Rattle.fixed_point.specs.declared.V3.{V3}
use Rattle.nbody_model.specs.Force.{node_total}
use Rattle.model_laws.specs.Firsts.{part_of_total, stands_for}
use Rattle.force_field.specs.declared.totals.Part.{Part}
use Rattle.nbody_model.specs.Setups.{SetupData}
use Rattle.nbody_model.specs.Moments.{MomentsData}
use Rattle.pair_law.specs.Conditions.{is_final}

-- two nodes act on each other as wholes, whichever comes first
pub record MayAct (s : SetupData) (a b : MomentsData) : Type 0 where
  pub light : a.mass + b.mass ≤ 2 ^ 32
  pub first : is_final s a b ≡ true
  pub second : is_final s b a ≡ true

-- what a body j stands for in the totals of the nodes around b: a force at one level, and whether it counts the interaction
pub record IsPart (g : Gravity) (B : List BodyData) (b j : BodyData) (p : Part) : Type 0 where
  pub shallow : p.level ≤ 32
  pub small : IsAtMost (2 ^ 87) p.force
  pub adds : (m : ℕ) → part_of_total g B b (cell_at m b.motion.pos) j ≡ (if m == p.level then p.force else origin)
  pub counted : p.counts ≡ stands_for (opening_of g.setup B) B b j

-- the totals of the 33 nodes around a body, the root first, none of them above 2^107
pub record AreTotals (g : Gravity) (B : List BodyData) (b : BodyData) (totals : List V3) : Type 0 where
  pub totals_are : (l : ℕ) → l < 33 → get_or totals l origin ≡ node_total g B (cell_at l b.motion.pos)
  pub small : (l : ℕ) → l < 33 → IsAtMost (2 ^ 107) (get_or totals l origin)

-- how many interactions a body counts
abbrev pub counted_by : Opening → List BodyData → BodyData → ℕ
counted_by o B b = count_by (stands_for o B b) B
