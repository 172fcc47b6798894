-- Bodies as data.
use Rattle.std.specs.Prelude.{ℕ, ℤ, pos, ◌^◌, ◌≤◌, List, [], ◌∷◌, length, map, sum_by, get_or, Bool, filter, ◌==◌}
use Rattle.std.specs.List.{list_any}
use Rattle.std.specs.List.Sorted.{IsStrictlyIncreasing}
use Rattle.fixed_point.specs.declared.V3.{V3}
use Rattle.fixed_point.specs.Fixed.{IsMomentum}
use Rattle.fixed_point.specs.Vectors.{sum_of}
use Rattle.cell_space.specs.Cells.{Position}

-- the components of a vector
abbrev pub components : V3 → List ℤ
components v = v.x ∷ v.y ∷ v.z ∷ []

-- three numbers, one per axis
abbrev pub vector : List ℤ → V3
vector xs = record { x = get_or xs 0 (pos 0); y = get_or xs 1 (pos 0); z = get_or xs 2 (pos 0) }

-- where a body is, and its momentum
pub record MotionData : Type 0 where
  pub pos : Position
  pub mom : V3

-- a body
pub record BodyData : Type 0 where
  pub id : ℕ
  pub kind : ℕ
  pub mass : ℕ
  pub motion : MotionData

-- each component of a momentum is in range
pub record IsInRange (p : V3) : Type 0 where
  pub on_x : IsMomentum p.x
  pub on_y : IsMomentum p.y
  pub on_z : IsMomentum p.z

-- a kind and a mass that a body may have
pub record IsBody (kind mass : ℕ) : Type 0 where
  pub kind_low : 1 ≤ kind
  pub kind_high : kind ≤ 5
  pub mass_low : 1 ≤ mass

-- the bodies of B whose ids are in P
abbrev pub has : List ℕ → ℕ → Bool
has P id = list_any (λ p. p == id) P

abbrev pub only : List BodyData → List ℕ → List BodyData
only B P = filter (λ b. has P b.id) B

-- the momentum of all bodies together
abbrev pub total : List BodyData → V3
total B = sum_of (λ b. b.motion.mom) B

-- bodies ascending in id, few enough and light enough together
pub record IsValid (B : List BodyData) : Type 0 where
  pub ascending : IsStrictlyIncreasing (map (λ b. b.id) B)
  pub few : length B ≤ 1048576
  pub light : sum_by (λ b. b.mass) B ≤ 2 ^ 32
