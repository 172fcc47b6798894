use Rattle.std.proofs.Common.{◌≡◌, map, take, get_or}
use Rattle.step_engine.proofs.parts.placed.Given as goal

abbrev pub invariant-loop-k : goal.invariant-loop-k
invariant-loop-k l = l.places.items ≡ map (λ p. get_or l.part p 0) (take l.k-index l.chosen)
