use Rattle.std.proofs.Common.{◌-◌, arith}
use Rattle.std.proofs.lemmas.Nat.{one_shl, shl-shr}
use Rattle.cell_space.proofs.cell.cell_of.Goals as goal

pub returns : goal.returns
returns c = rw (one_shl (32 - c.args.level) 64 (omega arith)) (simp shl-shr)
