use Rattle.std.proofs.Common.{◌≡◌, ◌++◌, take}
use Rattle.std.specs.List.{flat_map}
use Rattle.fixed_point.specs.Bytes.{bytes64}
use Rattle.run_session.proofs.lines.push_ids.Given as goal

abbrev pub invariant-loop-id : goal.invariant-loop-id
invariant-loop-id l = l.bytes.items ≡ l.fn.bytes.items ++ flat_map bytes64 (take l.id-index l.ids)
