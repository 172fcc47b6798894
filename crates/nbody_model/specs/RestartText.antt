-- The bytes of a restart file, in both versions (this project's own).
use Rattle.std.specs.Prelude.{ℕ, List, [], ◌∷◌, ◌++◌, length, codes, slice_index, if◌then◌else◌}
use Rattle.std.specs.List.{flat_map, zip}
use Rattle.fixed_point.specs.Bytes.{bytes32, bytes64, bytes128, signed_bytes64}
use Rattle.nbody_model.specs.Bodies.{BodyData}
use Rattle.nbody_model.specs.Setups.{SetupData}
use Rattle.nbody_model.specs.Evolve.{is_empty}
use Rattle.nbody_model.specs.States.{StateData}

-- the twelve numbers of a setup, in the order of the parameter table
abbrev pub setup_numbers : SetupData → List ℕ
setup_numbers s =
    s.time_max ∷ s.low_bin ∷ s.top_bin ∷ s.theta ∷ s.eta ∷ s.gravity ∷ s.velocity_shift ∷
    slice_index s.soft 1 ∷ slice_index s.soft 2 ∷ slice_index s.soft 3 ∷ slice_index s.soft 4 ∷ slice_index s.soft 5 ∷ []

-- a body in 52 bytes: id, kind, mass, position and momentum
abbrev pub body_bytes : BodyData → List ℕ
body_bytes b =
    let p = b.motion.pos in
    let m = b.motion.mom in
    bytes64 b.id ++ bytes32 b.kind ++ bytes32 b.mass ++
    bytes32 p.x ++ bytes32 p.y ++ bytes32 p.z ++
    signed_bytes64 m.x ++ signed_bytes64 m.y ++ signed_bytes64 m.z

-- what stands before the bodies, in 168 bytes
abbrev pub restart_head : ℕ → StateData → SetupData → List ℕ
restart_head version σ s =
    codes "I4RESTRT" ++ bytes32 version ++ bytes32 (length σ.bodies) ++
    bytes64 σ.steps ++ bytes64 σ.tick ++ bytes64 σ.next_snapshot ++ bytes64 σ.next_restart ++ bytes64 σ.kicks ++
    bytes128 σ.interactions ++ flat_map bytes64 (setup_numbers s)

-- version 1 at a synchronisation
abbrev pub whole_text : StateData → SetupData → List ℕ
whole_text σ s = restart_head 1 σ s ++ flat_map body_bytes σ.bodies ++ codes "I4RESEND"

-- version 2 at a resting point: each body is followed by its depth
abbrev pub rest_text : StateData → SetupData → List ℕ
rest_text σ s = restart_head 2 σ s ++ flat_map (λ x. body_bytes x.0 ++ bytes32 x.1) (zip σ.bodies σ.depths) ++ codes "I4RESEND"

-- the restart file of a state
unfoldable pub restart_text : StateData → SetupData → List ℕ
restart_text σ s = if is_empty σ.depths then whole_text σ s else rest_text σ s
