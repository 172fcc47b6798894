-- What forces are found from.
use Rattle.std.specs.Option.{option_copied}
use Rattle.nbody_model.specs.Tables.{Gravity}
use Rattle.force_field.specs.declared.covers.Grouped.{Grouped}

-- the setup and the table that they go by
abbrev pub gravity_of : Grouped → Gravity
gravity_of g = record { setup = g.setup.now; table = option_copied g.table }
