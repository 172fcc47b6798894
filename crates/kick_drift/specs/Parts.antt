-- A part of a set's bodies by their places, and what a kick and a drift make of it.
use Rattle.std.specs.Prelude.{ℕ, ◌<◌, ◌==◌, ◌≡◌, ◌≢◌, List, [], ◌∷◌, length, map, slice_index, slice_index_or, Some, None, if◌then◌else◌}
use Rattle.std.specs.List.Sorted.{IsStrictlyIncreasing}
use Rattle.fixed_point.specs.declared.V3.{V3}
use Rattle.fixed_point.specs.Vectors.{origin, plus, negative, sum_of}
use Rattle.nbody_model.specs.Bodies.{BodyData, MotionData, has, only}
use Rattle.nbody_model.specs.Steps.{kicked_by, kicked_bodies, axis_out, first_out}
use Rattle.kick_drift.specs.declared.kicks.KickErr.{KickErr}
use Rattle.kick_drift.specs.declared.kicks.KickErr.TheVariants.{MomRange}

-- the ids of the bodies at some places, counted from 0
abbrev pub ids_at : List BodyData → List ℕ → List ℕ
ids_at B places = map (slice_index (map (λ b. b.id) B)) places

-- different places of bodies
pub record ArePlaces (B : List BodyData) (places : List ℕ) : Type 0 where
  pub within : (k : ℕ) → k < length places → slice_index places k < length B
  pub distinct : (j k : ℕ) → j < k → k < length places → slice_index places j ≢ slice_index places k

-- places of bodies, ascending
pub record AreAscending (B : List BodyData) (places : List ℕ) : Type 0 where
  pub within : (k : ℕ) → k < length places → slice_index places k < length B
  pub ascending : IsStrictlyIncreasing places

-- the force that goes with a number, of forces that go with numbers in their order; none where it isn't among them
abbrev pub force_for : List ℕ → List V3 → ℕ → V3
force_for [] fs n = origin
force_for (m ∷ ms) [] n = origin
force_for (m ∷ ms) (f ∷ fs) n = if m == n then f else force_for ms fs n

-- a force, less another one that goes with a number among those given, where it is among them
abbrev pub less_fast : List ℕ → List V3 → ℕ → V3 → V3
less_fast F g n slow = if has F n then plus slow (negative (force_for F g n)) else slow

-- what a kick changes in a body: its force among the bodies of the ids P, less its force among those of the ids F where it
-- is one of them
abbrev pub change_of : List ℕ → List V3 → List ℕ → List V3 → BodyData → V3
change_of P f F g b = less_fast F g b.id (force_for P f b.id)

-- the bodies after a kick by h of those at the places whole, by their forces f, less the forces g of those at the places fast
abbrev pub after_kick : ℕ → List ℕ → List V3 → List ℕ → List V3 → List BodyData → List BodyData
after_kick h whole f fast g B = kicked_bodies h (ids_at B whole) (change_of (ids_at B whole) f (ids_at B fast) g) B

-- the changes of a kick add up to zero
abbrev pub CancelOut : List ℕ → List V3 → List ℕ → List V3 → List BodyData → Type 0
CancelOut whole f fast g B = sum_of (change_of (ids_at B whole) f (ids_at B fast) g) (only B (ids_at B whole)) ≡ origin

-- a motion after a kick
abbrev pub kicked_motion : ℕ → MotionData → V3 → MotionData
kicked_motion h m change = record { pos = m.pos; mom = kicked_by h m.mom change }

-- what is refused at a body of this id that would have this momentum
abbrev pub IsRefusalOf : ℕ → V3 → KickErr → Type 0
IsRefusalOf own p (MomRange id axis) = (id ≡ own) × (axis_out p ≡ Some axis)

-- the refusal of a kick that would leave these bodies: the least id that would be out of range, and its least axis
abbrev pub IsRefusal : List BodyData → KickErr → Type 0
IsRefusal B (MomRange id axis) = first_out B ≡ Some (id, axis)

-- the momentum of the body at the k-th of the places stays in range
abbrev pub StaysInRange : ℕ → List ℕ → List V3 → List ℕ → List V3 → List BodyData → ℕ → Type 0
StaysInRange h whole f fast g B k =
    (b : BodyData) (v : V3) → axis_out (kicked_by h (slice_index_or B (slice_index whole k) b).motion.mom (less_fast fast g (slice_index whole k) (slice_index_or f k v))) ≡ None

-- the momenta of the bodies at all these places stay in range
abbrev pub StayInRange : ℕ → List ℕ → List V3 → List ℕ → List V3 → List BodyData → Type 0
StayInRange h whole f fast g B = (k : ℕ) → k < length whole → StaysInRange h whole f fast g B k
