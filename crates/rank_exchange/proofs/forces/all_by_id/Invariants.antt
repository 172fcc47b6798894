use Rattle.std.proofs.Common.{◌≡◌, map, take}
use Rattle.rank_exchange.specs.Handed.{by_id}
use Rattle.rank_exchange.proofs.forces.all_by_id.Given as goal

abbrev pub invariant-loop-part : goal.invariant-loop-part
invariant-loop-part l = l.all.items ≡ map by_id (take l.part-index l.parts)
