-- The contents that the columns of a snapshot refer to.
use Rattle.snap_file.specs.Snapshots.{ColumnTexts}
use Rattle.snap_file.specs.declared.rows.Columns.{Columns}

abbrev pub texts_of : Columns → ColumnTexts
texts_of columns =
    record { positions = columns.positions.now; momenta = columns.momenta.now; ids = columns.ids.now; masses = columns.masses.now }
