-- What is printed: one line or a few, numbers in decimal, each line ended by LF.
use Rattle.std.specs.Prelude.{ℕ, ◌*◌, ◌^◌, ◌==◌, List, ◌++◌, length, sum_by, slice_index, codes, decimal, if◌then◌else◌}
use Rattle.std.specs.Fmt.{signed_decimal}
use Rattle.fixed_point.specs.declared.V3.{V3}
use Rattle.nbody_model.specs.Bodies.{BodyData, total, vector}
use Rattle.param_file.specs.Rows.{name_of}
use Rattle.param_file.specs.declared.errors.ParamErr.{ParamErr}
use Rattle.param_file.specs.declared.errors.ParamKind.{ParamKind}
use Rattle.param_file.specs.declared.errors.ParamKind.TheVariants.{Unknown, NoValue, Repeated, NotNumber, OutOfRange, Missing, Clash, Memory as ParamMemory}
use Rattle.output_schedule.specs.declared.errors.OutputErr.{OutputErr}
use Rattle.output_schedule.specs.declared.errors.OutputErr.TheVariants.{NotNumber as NoNumber, TooMany as TooManyTimes, Memory as ListMemory}
use Rattle.expansion_table.specs.declared.errors.ExpErr.{ExpErr}
use Rattle.expansion_table.specs.declared.errors.ExpErr.TheVariants.{Tag as ExpTag, Length as ExpLength, Spacing, Entry, Short, Memory as ExpMemory}
use Rattle.ewald_table.specs.declared.errors.TableErr.{TableErr}
use Rattle.ewald_table.specs.declared.errors.TableErr.TheVariants.{Tag, GridRange, Length, PlaneNotZero, Memory as TableMemory}
use Rattle.snapshot_blocks.specs.declared.block.BlockKind.{BlockKind}
use Rattle.snapshot_blocks.specs.declared.block.BlockKind.TheVariants.{Truncated, NameFrame, FrameDiffers, SkipDiffers, Memory as BlockMemory}
use Rattle.particle_set.specs.declared.row.SetErr.{SetErr}
use Rattle.particle_set.specs.declared.row.SetErr.TheVariants.{TooMany, Repeated as RepeatedId, ZeroMass, MassTotal, MomRange as MomentumOut, Memory as SetMemory}
use Rattle.snap_file.specs.declared.head.Head.{Head}
use Rattle.snap_file.specs.declared.errors.SnapErr.{SnapErr}
use Rattle.snap_file.specs.declared.errors.SnapErr.TheVariants.{Block, RepeatedBlock, MissingBlock, HeadLength, HeadTag, Gas, BlockLength, Bodies, Memory as SnapMemory}
use Rattle.restart_files.specs.declared.errors.RestartErr.{RestartErr}
use Rattle.restart_files.specs.declared.errors.RestartErr.TheVariants.{Tag as RestartTag, Length as RestartLength, Version, Field, EndMark, Bodies as RestartBodies, Memory as RestartMemory}
use Rattle.group_file.specs.declared.errors.GroupErr.{GroupErr}
use Rattle.group_file.specs.declared.errors.GroupErr.TheVariants.{Tag as GroupTag, Truncated as GroupCut, Field as GroupField, Rest, Repeated as TwoGroups, Memory as GroupMemory}
use Rattle.run_session.specs.declared.ended.Ended.{Ended}
use Rattle.gadget.specs.declared.status.Status.{Status}
use Rattle.gadget.specs.declared.status.Status.TheVariants.{Done, Stopped, Usage, Memory, ReadFault, WriteFault, ConsoleFault, Absent, TooLong, Param, Outputs, Table, Expansion, Snapshot, Restart, Differs, Catalogue, MomRange, StepRange}

-- a number after a space
abbrev pub spaced : ℕ → List ℕ
spaced n = codes " " ++ decimal n

-- some words and a number
abbrev pub counted : List ℕ → ℕ → List ℕ
counted words n = words ++ spaced n

-- three numbers, each after a space
abbrev pub vector_text : V3 → List ℕ
vector_text v = codes " " ++ signed_decimal v.x ++ codes " " ++ signed_decimal v.y ++ codes " " ++ signed_decimal v.z

-- ---- what is wrong

abbrev pub kind_text : ParamKind → List ℕ
kind_text Unknown = codes "unknown"
kind_text NoValue = codes "no value"
kind_text Repeated = codes "repeated"
kind_text NotNumber = codes "not a number"
kind_text OutOfRange = codes "out of range"
kind_text (Missing row) = codes "missing " ++ name_of row
kind_text Clash = codes "clash"
kind_text ParamMemory = codes ""

abbrev pub IsNotMissing : ParamKind → Type 0
IsNotMissing (Missing row) = ⊥
IsNotMissing kind = Unit {0}

abbrev pub param_text : ParamErr → List ℕ
param_text e = codes "parameter line" ++ spaced e.line ++ codes " " ++ kind_text e.kind

abbrev pub list_text : OutputErr → List ℕ
list_text (NoNumber line) = codes "outputs line" ++ spaced line ++ codes " not a number"
list_text (TooManyTimes count) = codes "outputs too many" ++ spaced count
list_text ListMemory = codes ""

abbrev pub table_text : TableErr → List ℕ
table_text Tag = codes "tag"
table_text (GridRange g) = codes "grid" ++ spaced g
table_text (Length want got) = codes "length" ++ spaced want ++ spaced got
table_text (PlaneNotZero index) = codes "plane" ++ spaced index
table_text TableMemory = codes ""

abbrev pub expansion_text : ExpErr → List ℕ
expansion_text ExpTag = codes "tag"
expansion_text (ExpLength want got) = codes "length" ++ spaced want ++ spaced got
expansion_text (Spacing s) = codes "spacing" ++ spaced s
expansion_text (Entry index) = codes "entry" ++ spaced index
expansion_text (Short want got) = codes "short" ++ spaced want ++ spaced got
expansion_text ExpMemory = codes ""

abbrev pub block_text : ℕ → BlockKind → List ℕ
block_text at Truncated = codes "truncated at" ++ spaced at
block_text at NameFrame = codes "name frame at" ++ spaced at
block_text at (FrameDiffers first last) = codes "frames differ at" ++ spaced at ++ spaced first ++ spaced last
block_text at SkipDiffers = codes "skip differs at" ++ spaced at
block_text at BlockMemory = codes ""

abbrev pub set_text : SetErr → List ℕ
set_text (TooMany n) = codes "too many" ++ spaced n
set_text (RepeatedId id) = codes "repeated id" ++ spaced id
set_text (ZeroMass id) = codes "zero mass id" ++ spaced id
set_text (MassTotal sum) = codes "mass total" ++ spaced sum
set_text (MomentumOut id) = codes "momentum range id" ++ spaced id
set_text SetMemory = codes ""

abbrev pub snapshot_fault_text : SnapErr → List ℕ
snapshot_fault_text (Block e) = block_text e.at e.kind
snapshot_fault_text (RepeatedBlock name) = codes "repeated block" ++ codes " " ++ name
snapshot_fault_text (MissingBlock name) = codes "missing block" ++ codes " " ++ name
snapshot_fault_text (HeadLength got) = codes "head length" ++ spaced got
snapshot_fault_text HeadTag = codes "head tag"
snapshot_fault_text (Gas count) = codes "gas" ++ spaced count
snapshot_fault_text (BlockLength name want got) = codes "block length" ++ codes " " ++ name ++ spaced want ++ spaced got
snapshot_fault_text (Bodies e) = set_text e
snapshot_fault_text SnapMemory = codes ""

abbrev pub restart_fault_text : RestartErr → List ℕ
restart_fault_text RestartTag = codes "tag"
restart_fault_text (RestartLength want got) = codes "length" ++ spaced want ++ spaced got
restart_fault_text (Version v) = codes "version" ++ spaced v
restart_fault_text (Field at) = codes "field at" ++ spaced at
restart_fault_text EndMark = codes "end mark"
restart_fault_text (RestartBodies e) = set_text e
restart_fault_text RestartMemory = codes ""

abbrev pub group_fault_text : GroupErr → List ℕ
group_fault_text GroupTag = codes "tag"
group_fault_text (GroupCut at) = codes "truncated at" ++ spaced at
group_fault_text (GroupField at) = codes "field at" ++ spaced at
group_fault_text (Rest at) = codes "rest at" ++ spaced at
group_fault_text (TwoGroups id) = codes "repeated id" ++ spaced id
group_fault_text GroupMemory = codes ""

-- ---- the line of a status

abbrev pub usage_text : List ℕ
usage_text = codes "usage: gadget run PARAM RANKS | resume PARAM RESTART RANKS | check PARAM | show SNAP | make COUNT SEED NAME | groups SNAP LINK MIN NAME | links FIRST SECOND NAME"

-- what is done, or was stopped, is told by a line of its own
abbrev pub status_words : Status → List ℕ
status_words Done = codes ""
status_words (Stopped steps tick) = codes ""
status_words Usage = usage_text
status_words Memory = codes "no memory"
status_words (ReadFault name) = codes "read fault " ++ name
status_words (WriteFault name) = codes "write fault " ++ name
status_words ConsoleFault = codes ""
status_words (Absent name) = codes "absent " ++ name
status_words (TooLong name len) = codes "too long " ++ name ++ spaced len
status_words (Param e) = param_text e
status_words (Outputs e) = list_text e
status_words (Table e) = codes "table " ++ table_text e
status_words (Expansion e) = codes "expansion " ++ expansion_text e
status_words (Snapshot e) = codes "snapshot " ++ snapshot_fault_text e
status_words (Restart e) = codes "restart " ++ restart_fault_text e
status_words (Differs name) = codes "differs " ++ name_of name
status_words (Catalogue name kind) = codes "catalogue " ++ name ++ codes " " ++ group_fault_text kind
status_words (MomRange tick bin id axis) = counted (codes "momentum range tick") tick ++ counted (codes " bin") bin ++ counted (codes " id") id ++ counted (codes " axis") axis
status_words (StepRange tick id) = counted (codes "step range tick") tick ++ counted (codes " id") id

abbrev pub status_text : Status → List ℕ
status_text status = status_words status ++ codes "\n"

-- ---- the lines of commands that did their work

-- how many bodies there are, their mass and their momentum
abbrev pub totals_text : List BodyData → List ℕ
totals_text B = codes "bodies" ++ spaced (length B) ++ codes " mass" ++ spaced (sum_by (λ b. b.mass) B) ++ codes " momentum" ++ vector_text (total B) ++ codes "\n"

abbrev pub check_text : List BodyData → List ℕ
check_text B = codes "ok " ++ totals_text B

-- how many bodies of a kind a head counts
abbrev pub type_text : Head → ℕ → List ℕ
type_text head kind = codes "type" ++ spaced kind ++ codes " bodies" ++ spaced (slice_index head.counts kind) ++ codes "\n"

-- of each kind
abbrev pub types_text : Head → List ℕ
types_text head = type_text head 1 ++ type_text head 2 ++ type_text head 3 ++ type_text head 4 ++ type_text head 5

abbrev pub show_text : Head → List BodyData → List ℕ
show_text head B =
    codes "tick" ++ spaced head.tick ++ codes " number" ++ spaced head.number ++ codes " " ++ totals_text B ++
    type_text head 1 ++ type_text head 2 ++ type_text head 3 ++ type_text head 4 ++ type_text head 5

-- how many bodies were made, in a snapshot of this name
abbrev pub made_text : ℕ → List ℕ → List ℕ
made_text count name = codes "made" ++ spaced count ++ codes " bodies in " ++ name ++ codes ".ics\n"

-- how many groups were written, and how many members they have
abbrev pub grouped_text : ℕ → ℕ → List ℕ
grouped_text groups members = counted (codes "groups") groups ++ counted (codes " members") members ++ codes "\n"

-- how many groups have a descendant
abbrev pub linked_text : ℕ → List ℕ
linked_text count = counted (codes "links") count ++ codes "\n"

abbrev pub done_text : Ended → List ℕ
done_text run =
    counted (codes "done tick") run.tick ++ counted (codes " steps") run.steps ++ counted (codes " snapshots") run.snapshots ++
    counted (codes " kicks") run.kicks ++ counted (codes " interactions") run.interactions ++ codes " momentum" ++ vector_text (vector run.momentum) ++ codes "\n"

-- how many base steps were made; and the tick, where it is no end of a base step
abbrev pub stop_words : ℕ → Ended → List ℕ
stop_words top run =
    if run.tick == run.steps * 2 ^ top then counted (codes "stopped steps") run.steps
    else counted (codes "stopped steps") run.steps ++ counted (codes " tick") run.tick

abbrev pub stop_text : ℕ → Ended → List ℕ
stop_text top run = stop_words top run ++ codes "\n"
