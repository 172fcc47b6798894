use Rattle.std.specs.Prelude.{ℕ}
use Rattle.store_io.specs.declared.stopper.FileStop.{FileStop}

-- how often it said yes
abbrev pub file_yes : {R : Type 0} → FileStop R → ℕ
file_yes stop = stop.yes
