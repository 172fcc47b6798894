use Rattle.std.proofs.Common.{arith}
use Rattle.param_file.proofs.Setups.{softenings}
use Rattle.param_file.proofs.params.Params.setup.Goals as goal

pub invariant_of-result : goal.invariant_of-result
invariant_of-result c = record {
  time_high = omega arith;
  bin_low = omega arith;
  bins_ordered = omega arith;
  bin_high = omega arith;
  theta_high = omega arith;
  eta_low = omega arith;
  eta_high = omega arith;
  gravity_high = omega arith;
  shift_high = omega arith;
  softenings = softenings _ _ _ _ _ (record { low = omega arith; high = omega arith }) (record { low = omega arith; high = omega arith })
      (record { low = omega arith; high = omega arith }) (record { low = omega arith; high = omega arith }) (record { low = omega arith; high = omega arith });
}
