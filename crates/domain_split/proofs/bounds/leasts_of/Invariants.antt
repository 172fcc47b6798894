use Rattle.domain_split.proofs.Leasts.{AreLeast}
use Rattle.domain_split.proofs.bounds.leasts_of.Given as goal

abbrev pub invariant-loop-from : goal.invariant-loop-from
invariant-loop-from l = AreLeast l.bounds l.rising.items l.least l.from

abbrev pub decreases-loop-from : goal.decreases-loop-from
decreases-loop-from l = l.from
