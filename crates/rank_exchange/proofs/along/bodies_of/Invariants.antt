use Rattle.std.proofs.Common.{◌≡◌, ◌%◌, ◌^◌, map, take}
use Rattle.std.specs.Prelude.{slice_index_or}
use Rattle.nbody_model.specs.Bodies.{BodyData}
use Rattle.rank_exchange.proofs.along.bodies_of.Given as goal

abbrev pub invariant-loop-i : goal.invariant-loop-i
invariant-loop-i l = (d : BodyData) → l.copies.items ≡ map (λ n. slice_index_or l.bodies (n % 2 ^ 20) d) (take l.i l.numbers)
