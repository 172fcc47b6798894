-- The forces among some bodies, as an answer.
use Rattle.std.specs.Prelude.{ℕ, List}
use Rattle.fixed_point.specs.declared.V3.{V3}
use Rattle.nbody_model.specs.declared.field.Event.{Event}

-- the forces in the order of the bodies, the number of interactions, and the events in which they were found
pub record FieldData : Type 0 where
  pub forces : List V3
  pub interactions : ℕ
  pub events : List Event
