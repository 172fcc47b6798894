-- How a command went: its status, and the lines that it prints.
use Rattle.std.specs.Prelude.{ℕ, List}
use Rattle.run_session.specs.declared.ended.Ended.{Ended}
use Rattle.run_session.specs.declared.ended.End.{End}
use Rattle.run_session.specs.declared.ended.End.TheVariants as ends
use Rattle.gadget.specs.declared.status.Status.{Status}
use Rattle.gadget.specs.declared.status.Status.TheVariants.{Done, Stopped, Memory, WriteFault, MomRange, StepRange}
use Rattle.gadget.specs.declared.outcome.Outcome.{Outcome}
use Rattle.gadget.specs.declared.outcome.Outcome.TheVariants.{Ran, Checked, Shown, Made, Grouped, Linked, Refused}
use Rattle.gadget.specs.Texts.{check_text, show_text, made_text, grouped_text, linked_text, done_text, stop_text, status_text}

-- ---- of a run that ended, however it did

abbrev pub status_at : Ended → End → Status
status_at run ends.Done = Done
status_at run ends.Stopped = Stopped run.steps run.tick
status_at run (ends.WriteFault name) = WriteFault name
status_at run (ends.MomRange tick bin id axis) = MomRange tick bin id axis
status_at run (ends.StepRange tick id) = StepRange tick id
status_at run ends.Memory = Memory

-- a run that was done or stopped has a line of its own, by its top bin
abbrev pub text_at : ℕ → Ended → Status → List ℕ
text_at top run Done = done_text run
text_at top run (Stopped steps tick) = stop_text top run
text_at top run status = status_text status

-- ---- of every command

abbrev pub status_of : Outcome → Status
status_of (Ran run setup) = status_at run run.end
status_of (Checked B) = Done
status_of (Shown head B) = Done
status_of (Made count name) = Done
status_of (Grouped groups members) = Done
status_of (Linked count) = Done
status_of (Refused status) = status

abbrev pub text_of : Outcome → List ℕ
text_of (Ran run setup) = text_at setup.top_bin run (status_at run run.end)
text_of (Checked B) = check_text B
text_of (Shown head B) = show_text head B
text_of (Made count name) = made_text count name
text_of (Grouped groups members) = grouped_text groups members
text_of (Linked count) = linked_text count
text_of (Refused status) = status_text status
