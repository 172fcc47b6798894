-- How bodies are put into the order of the curve: by one number each.
use Rattle.std.specs.Prelude.{◌≡◌, ◌<◌, ℕ, ◌+◌, ◌*◌, ◌/◌, ◌%◌, ◌^◌, List, [], ◌∷◌, length, slice_index_or}
use Rattle.std.specs.List.{AllByRecursion}
use Rattle.std.specs.List.Sorted.{IsPermutation}
use Rattle.nbody_model.specs.Bodies.{BodyData}
use Rattle.octree_build.specs.Trees.{key_at, Rises, IsAlong}
use Rattle.octree_build.specs.Slots.{AreKeyed}

-- the numbers of bodies: each one's key, and its place below it, from a place on
abbrev pub placed : ℕ → List BodyData → List ℕ
placed i [] = []
placed i (b ∷ B) = (key_at b * 2 ^ 20 + i) ∷ placed (i + 1) B

-- a number has the key of the body at its place
pub record IsNumberOf (B : List BodyData) (n : ℕ) : Type 0 where
  pub within : n % 2 ^ 20 < length B
  pub key : (d : BodyData) → n / 2 ^ 20 ≡ key_at (slice_index_or B (n % 2 ^ 20) d)

-- all numbers, the smallest first
pub record IsNumbered (B : List BodyData) (numbers : List ℕ) : Type 0 where
  pub permuted : IsPermutation (placed 0 B) numbers
  pub rises : Rises (λ n. n) numbers
  pub each : AllByRecursion (IsNumberOf B) numbers

-- the bodies of B in the order of the curve, and their keys
pub record AreAlong (B : List BodyData) (keys : List ℕ) (S : List BodyData) : Type 0 where
  pub along : IsAlong B S
  pub keyed : AreKeyed keys S
