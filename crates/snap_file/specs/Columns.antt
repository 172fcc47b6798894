-- The columns of a snapshot.
use Rattle.std.specs.Prelude.{◌++◌, ℕ, ℤ, pos, List, get_or}
use Rattle.fixed_point.specs.Bytes.{signed_bytes64}
use Rattle.nbody_model.specs.Bodies.{BodyData}
use Rattle.nbody_model.specs.SnapshotText.{position_name, momentum_name, id_name, mass_name, position_text, momentum_text, id_text, mass_text}
use Rattle.snap_file.specs.declared.column.Column.{Column}
use Rattle.snap_file.specs.declared.column.Column.TheVariants.{Positions, Momenta, Ids, Masses}

-- a column's name, the bytes of an entry, and the entry of a body
abbrev pub name_of : Column → List ℕ
name_of Positions = position_name
name_of Momenta = momentum_name
name_of Ids = id_name
name_of Masses = mass_name

abbrev pub width_of : Column → ℕ
width_of Positions = 12
width_of Momenta = 24
width_of Ids = 8
width_of Masses = 4

abbrev pub entry_of : Column → BodyData → List ℕ
entry_of Positions b = position_text b
entry_of Momenta b = momentum_text b
entry_of Ids b = id_text b
entry_of Masses b = mass_text b
