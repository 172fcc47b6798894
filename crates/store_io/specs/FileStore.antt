use Rattle.std.specs.Prelude.{ℕ}
use Rattle.store_io.specs.declared.file_store.FileStore.{FileStore}

-- how often a call on the files failed
abbrev pub file_faults : {R : Type 0} → FileStore R → ℕ
file_faults store = store.faults
