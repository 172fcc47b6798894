-- Which rank owns a body, and the bounds of ranks in an order in which they rise.
use Rattle.std.specs.Prelude.{◌≡◌, ◌≤◌, ◌<◌, ℕ, ◌*◌, ◌/◌, Bool, ◌==◌, ◌&&◌, ◌||◌, nat_lt, min, List, [], ◌∷◌, length, map, fold}
use Rattle.std.specs.List.{count_by}
use Rattle.nbody_model.specs.Bodies.{BodyData}
use Rattle.octree_build.specs.Trees.{key_at}

-- a body stands before another along the curve: by its key, and of one key by its id
abbrev pub stands_before : BodyData → BodyData → Bool
stands_before a b = nat_lt (key_at a) (key_at b) || (key_at a == key_at b && nat_lt a.id b.id)

-- how many of some bodies stand before a body
abbrev pub place_along : List BodyData → BodyData → ℕ
place_along bodies b = count_by (λ a. stands_before a b) bodies

-- the rank that owns a body: of n bodies, the one at place p along the curve belongs to rank p · ranks / n, rounded down
abbrev pub owner_of : ℕ → List BodyData → BodyData → ℕ
owner_of ranks bodies b = place_along bodies b * ranks / length bodies

-- the owners of all bodies, in the order of the list
unfoldable pub owners_of : ℕ → List BodyData → List ℕ
owners_of ranks bodies = map (owner_of ranks bodies) bodies

-- the least of some bounds from each place on
abbrev pub leasts : List ℕ → List ℕ
leasts [] = []
leasts (b ∷ bounds) = fold min b bounds ∷ leasts bounds

-- bounds of 1 to 256 ranks, with the least of them from each rank on
pub record AreBounds (bounds lows : List ℕ) : Type 0 where
  pub some : 0 < length bounds
  pub few : length bounds ≤ 256
  pub rising : lows ≡ leasts bounds
