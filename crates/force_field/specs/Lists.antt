-- What a field of forces by the list of bodies stands for.
use Rattle.std.specs.Prelude.{◌≡◌, ℕ, List, []}
use Rattle.std.specs.Option.{option_copied}
use Rattle.nbody_model.specs.declared.field.Event.{Event}
use Rattle.nbody_model.specs.Bodies.{BodyData}
use Rattle.nbody_model.specs.Tables.{Gravity}
use Rattle.force_field.specs.declared.list.ListField.{ListField}

-- its setup, and its table if it has one
abbrev pub list_gravity : ListField → Gravity
list_gravity f = record { setup = f.setup; table = option_copied f.table }

-- it has no numbers of its own
abbrev pub no_numbers : ListField → List ℕ
no_numbers f = []

-- there are no events, and its state is and stays empty
abbrev pub quiet : Gravity → List ℕ → List BodyData → List ℕ → List Event → List ℕ → Type 0
quiet g fixed B before events after = (before ≡ []) × ((events ≡ []) × (after ≡ []))
