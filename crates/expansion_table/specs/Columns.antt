-- The two columns of an expansion table.
use Rattle.std.specs.Prelude.{ℕ}
use Rattle.nbody_model.specs.Tables.{ExpansionEntry}
use Rattle.expansion_table.specs.declared.factors.Column.{Column}
use Rattle.expansion_table.specs.declared.factors.Column.TheVariants.{Kicks, Drifts}

-- the sum of a column in an entry
abbrev pub sum_in : Column → ExpansionEntry → ℕ
sum_in Kicks e = e.kick
sum_in Drifts e = e.drift
