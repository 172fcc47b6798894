-- Forces that are asked one after another.
use Rattle.std.specs.Prelude.{◌≡◌, ℕ, List, [], ◌∷◌}
use Rattle.nbody_model.specs.declared.field.Event.{Event}
use Rattle.nbody_model.specs.Bodies.{BodyData}

-- how the forces among some bodies may be found: from a state, by events, to a state
abbrev pub Passes : Type 1
Passes = List BodyData → List ℕ → List Event → List ℕ → Type 0

-- from a state the forces among these lists of bodies are found in order, by these lists of events, and leave a state
abbrev pub PassesAll : Passes → List (List BodyData) → List ℕ → List (List Event) → List ℕ → Type 0
PassesAll passes [] a [] z = a ≡ z
PassesAll passes [] a (es ∷ events) z = ⊥
PassesAll passes (B ∷ asked) a [] z = ⊥
PassesAll passes (B ∷ asked) a (es ∷ events) z = (m : List ℕ) × passes B a es m × PassesAll passes asked m events z
