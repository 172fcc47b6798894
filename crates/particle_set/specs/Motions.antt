-- Bodies of which one has another motion.
use Rattle.std.specs.Prelude.{ℕ, zero, suc, List, [], ◌∷◌}
use Rattle.nbody_model.specs.Bodies.{BodyData, MotionData}

-- a body with another motion
abbrev pub with_motion : BodyData → MotionData → BodyData
with_motion b m = record b { motion = m }

-- the bodies with another motion at a place, counted from 0
abbrev pub with_motion_at : List BodyData → ℕ → MotionData → List BodyData
with_motion_at [] i m = []
with_motion_at (b ∷ bs) zero m = with_motion b m ∷ bs
with_motion_at (b ∷ bs) (suc i) m = b ∷ with_motion_at bs i m
