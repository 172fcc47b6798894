use Rattle.std.proofs.Common.{◌≡◌, ◌++◌, take}
use Rattle.std.specs.List.{flat_map}
use Rattle.nbody_model.specs.Texts.{event_line}
use Rattle.run_session.proofs.lines.push_events.Given as goal

abbrev pub invariant-loop-event : goal.invariant-loop-event
invariant-loop-event l = l.lines.items ≡ l.fn.lines.items ++ flat_map event_line (take l.event-index l.events)
