-- The exit status of each answer.
use Rattle.std.specs.Prelude.{ℕ}
use Rattle.gadget.specs.declared.status.Status.{Status}
use Rattle.gadget.specs.declared.status.Status.TheVariants.{Done, Stopped, Usage, Memory, ReadFault, WriteFault, ConsoleFault, Absent, TooLong, Param, Outputs, Table, Snapshot, Restart, Differs, Expansion, Catalogue, MomRange, StepRange}

abbrev pub code_of : Status → ℕ
code_of Done = 0
code_of (Stopped steps tick) = 1
code_of Usage = 2
code_of Memory = 3
code_of (ReadFault name) = 4
code_of (WriteFault name) = 5
code_of ConsoleFault = 6
code_of (Absent name) = 7
code_of (TooLong name len) = 8
code_of (Param e) = 10
code_of (Outputs e) = 11
code_of (Table e) = 12
code_of (Snapshot e) = 13
code_of (Restart e) = 14
code_of (Differs name) = 15
code_of (Expansion e) = 16
code_of (Catalogue name kind) = 18
code_of (MomRange tick bin id axis) = 20
code_of (StepRange tick id) = 21
