-- Bodies with their places as ids, and their tree.
use Rattle.std.specs.Prelude.{ℕ, ◌+◌, List, [], ◌∷◌}
use Rattle.nbody_model.specs.Bodies.{BodyData, IsValid}
use Rattle.nbody_model.specs.Setups.{SetupData}
use Rattle.octree_build.specs.Trees.{IsTree, TreeData}

-- a body with another id
abbrev pub with_id : BodyData → ℕ → BodyData
with_id b id = record { id = id; kind = b.kind; mass = b.mass; motion = b.motion }

-- bodies that stand from a place on, each with its place as its id
abbrev pub numbered : ℕ → List BodyData → List BodyData
numbered place [] = []
numbered place (b ∷ B) = with_id b place ∷ numbered (place + 1) B

-- the tree of bodies whose ids are their places
pub record IsTreeOf (B : List BodyData) (t : TreeData) : Type 0 where
  pub setup : SetupData
  pub tree : IsTree setup (numbered 0 B) t

-- bodies that ascend in id and keep the limits, and the tree of them by their places
pub record IsFinder (B : List BodyData) (t : TreeData) : Type 0 where
  pub valid : IsValid B
  pub tree : IsTreeOf B t
