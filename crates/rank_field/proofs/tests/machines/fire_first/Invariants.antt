use Rattle.rank_laws.specs.Machine.{Message, Rank}
use Rattle.rank_laws.specs.Protocol.{World}
use Rattle.rank_laws.specs.Whole.{Whole}
use Rattle.rank_field.specs.Machines.{IsMachine}
use Rattle.rank_field.proofs.tests.machines.fire_first.Given as goal

abbrev pub invariant-loop : goal.invariant-loop
invariant-loop l = (w : Whole) × ((z : World Rank Message) × IsMachine w z l.machine)
