use Rattle.std.proofs.Common.{rules}
use Rattle.fixed_point.proofs.Euclid.{sum_of_parts}
use Rattle.fixed_point.proofs.quotient.floor_div_mod.Goals as goal

pub returns-then-a-lt0-clause-sum : goal.returns-then-a-lt0-clause-sum
returns-then-a-lt0-clause-sum c = sum_of_parts _ _ _ _ c.requires (search rules) (search rules)
