use Rattle.std.proofs.Common.{arith}
use Rattle.std.proofs.lemmas.Nat.{one_shl}
use Rattle.std.proofs.Math.Pow.{pow_mono}
use Rattle.time_bins.proofs.rule.power.Goals as goal

pub returns : goal.returns
returns c =
    let is = one_shl c.args.exponent 128 (omega arith) in
    let high = pow_mono {i = c.args.exponent} {j = 40} c.requires in
    record { value = is; high = rw is high }
