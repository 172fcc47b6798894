use Rattle.hilbert_keys.specs.Steps.{IsOnWay}
use Rattle.hilbert_keys.proofs.positions.pos_of.Given as goal

abbrev pub invariant-loop-level : goal.invariant-loop-level
invariant-loop-level l = IsOnWay l.number l.level l.spot.turn (record { level = l.level; x = l.spot.x; y = l.spot.y; z = l.spot.z })
