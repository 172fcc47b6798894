-- Which bodies are near to each other.
use Rattle.std.specs.Prelude.{◌==◌, ℕ, ◌*◌, Bool, not, ◌&&◌, nat_le, List, [], length, get_or, filter}
use Rattle.std.specs.List.{range_with_len}
use Rattle.nbody_model.specs.Bodies.{BodyData, vector}
use Rattle.nbody_model.specs.OpeningRule.{way, square}

-- what stands behind the last body
abbrev pub nobody : BodyData
nobody = record { id = 0; kind = 0; mass = 0; motion = record { pos = record { x = 0; y = 0; z = 0 }; mom = vector [] } }

-- two bodies are linked: the wrapped way from one to the other is no longer than a reach
unfoldable pub linked : ℕ → BodyData → BodyData → Bool
linked reach a b = nat_le (square (way a.motion.pos b.motion.pos)) (reach * reach)

-- at two places stand two bodies that are linked
unfoldable pub is_link : ℕ → List BodyData → ℕ → ℕ → Bool
is_link reach B i j = not (i == j) && linked reach (get_or B i nobody) (get_or B j nobody)

-- the places of the other bodies that are linked to the body at a place, ascending
unfoldable pub near : ℕ → List BodyData → ℕ → List ℕ
near reach B i = filter (is_link reach B i) (range_with_len 0 (length B))
