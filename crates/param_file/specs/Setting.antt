-- The value of a row as the writer sees it.
use Rattle.param_file.specs.Settings.{Value, text, number}
use Rattle.param_file.specs.declared.writer.Setting.{Setting}
use Rattle.param_file.specs.declared.writer.Setting.TheVariants.{Name, Number}

abbrev pub meant_by : Setting → Value
meant_by (Name name) = text name.now
meant_by (Number n) = number n
