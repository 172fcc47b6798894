-- The part of some bodies that doesn't fit a bin.
use Rattle.std.specs.Prelude.{◌≡◌, ℕ, Bool, not, List, map, filter, zip, slice_index}
use Rattle.std.specs.List.{enumerate_from}
use Rattle.fixed_point.specs.declared.V3.{V3}
use Rattle.nbody_model.specs.Bodies.{BodyData}
use Rattle.nbody_model.specs.Setups.{SetupData}
use Rattle.nbody_model.specs.Tables.{Gravity}
use Rattle.nbody_model.specs.Force.{forces}
use Rattle.nbody_model.specs.Steps.{fits, fast}

-- a body doesn't fit a bin by the force on it
abbrev pub unfit : SetupData → ℕ → BodyData × V3 → Bool
unfit s bin p = not (fits s p.0 p.1 bin)

-- the places, counted from 0 and ascending, of the bodies that don't fit a bin by the forces on them, given in their order
abbrev pub unfit_places : SetupData → ℕ → List BodyData → List V3 → List ℕ
unfit_places s bin B fs = map (λ p. p.0) (filter (λ p. unfit s bin p.1) (enumerate_from 0 (zip B fs)))

-- the ids of the bodies at some places, counted from 0
abbrev pub ids_at : List BodyData → List ℕ → List ℕ
ids_at B places = map (slice_index (map (λ b. b.id) B)) places

-- where the forces are those among the bodies, the places are those of the fast ones
abbrev pub AreOfFast : SetupData → ℕ → List BodyData → List V3 → List ℕ → Type 0
AreOfFast s bin B fs places = (g : Gravity) → g.setup ≡ s → fs ≡ forces g B → ids_at B places ≡ fast g bin B
