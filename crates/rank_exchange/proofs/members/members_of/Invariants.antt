use Rattle.std.proofs.Common.{◌≡◌, List, take}
use Rattle.std.specs.List.{flat_map}
use Rattle.nbody_model.specs.Bodies.{BodyData}
use Rattle.rank_exchange.specs.Members.{AreOwn, listed_in}
use Rattle.rank_exchange.proofs.members.members_of.Given as goal

abbrev pub invariant-loop-cell : goal.invariant-loop-cell
invariant-loop-cell l = (B : List BodyData) → AreOwn B l.bodies → l.out.items ≡ flat_map (listed_in B) (take l.cell-index l.cells)
