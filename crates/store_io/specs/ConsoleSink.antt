use Rattle.std.specs.Prelude.{ℕ}
use Rattle.store_io.specs.declared.sink.ConsoleSink.{ConsoleSink}

-- how often a write to the console failed
abbrev pub console_faults : {R : Type 0} → ConsoleSink R → ℕ
console_faults sink = sink.faults
