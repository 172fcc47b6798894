-- A motion that is lent: what its lender is once the borrow is over.
use Rattle.std.specs.Prelude.{◌≡◌, ℕ, zero, suc, List, [], ◌∷◌, get_or}
use Rattle.std.specs.Borrow.{Lends, MutBor, Fml}
use Rattle.std.specs.Vec.{with_item}
use Rattle.nbody_model.specs.Bodies.{BodyData, MotionData}
use Rattle.nbody_model.specs.contracts.body.Motion.{the_row as motion_row}
use Rattle.particle_set.specs.Motions.{with_motion, with_motion_at}
use Rattle.particle_set.specs.declared.lent.Bodies.{Bodies}
use Rattle.particle_set.specs.contracts.lent.Bodies.{the_row as bodies_row}
use Rattle.particle_set.specs.contracts.body_set.BodySet.{the_row as set_row}

-- the body at a place with another motion, and any one where there is none
abbrev pub moved_at : List BodyData → ℕ → MotionData → BodyData
moved_at [] i m = record { id = 0; kind = 1; mass = 1; motion = m }
moved_at (b ∷ bs) zero m = with_motion b m
moved_at (b ∷ bs) (suc i) m = moved_at bs i m

-- the list ends with the last motion behind the result at a place
abbrev pub LendsHeld : MutBor Bodies → ℕ → MutBor MotionData → Fml
LendsHeld s i r = Lends bodies_row motion_row s r (λ m. record s.now { list = with_item s.now.list i (moved_at s.now.list.items i m) })

-- the set ends with the last motion behind the result at a place, and is otherwise as it was
abbrev pub LendsMotion : MutBor (List BodyData) → ℕ → MutBor MotionData → Fml
LendsMotion s i r = Lends set_row motion_row s r (with_motion_at s.now i)

-- a motion is that of the body at a place
abbrev pub IsMotionAt : List BodyData → ℕ → MotionData → Type 0
IsMotionAt bs i m = (other : BodyData) → m ≡ (get_or bs i other).motion
