-- What stands before the bodies, read back.
use Rattle.std.proofs.Common.{◌≡◌, ℕ, ◌<◌, ◌≤◌, ◌^◌, List, ◌++◌, length, slice_index, refl, arith}
use Rattle.fixed_point.specs.Bytes.{word32_at, word64_at}
use Rattle.fixed_point.proofs.ReadBack.{word32_back, word64_back}
use Rattle.nbody_model.specs.Setups.{SetupData, IsSetup}
use Rattle.nbody_model.specs.States.{StateData}
use Rattle.nbody_model.specs.RestartText.{restart_head}
use Rattle.restart_files.specs.RestartFile.{end_mark, word128_at}
use Rattle.restart_files.specs.Stored.{AreStorable}
use Rattle.restart_files.proofs.Halves.{word128_back}

-- a head, some bodies and the end mark
abbrev pub text : ℕ → StateData → SetupData → List ℕ → List ℕ
text version σ s bodies = restart_head version σ s ++ bodies ++ end_mark

pub record IsFront (bytes : List ℕ) (v : ℕ) (σ : StateData) (s : SetupData) : Type 0 where
  pub version : word32_at bytes 8 ≡ v
  pub count : word32_at bytes 12 ≡ length σ.bodies
  pub steps : word64_at bytes 16 ≡ σ.steps
  pub tick : word64_at bytes 24 ≡ σ.tick
  pub next_snapshot : word64_at bytes 32 ≡ σ.next_snapshot
  pub next_restart : word64_at bytes 40 ≡ σ.next_restart
  pub kicks : word64_at bytes 48 ≡ σ.kicks
  pub interactions : word128_at bytes 56 ≡ σ.interactions
  pub time_max : word64_at bytes 72 ≡ s.time_max
  pub low_bin : word64_at bytes 80 ≡ s.low_bin
  pub top_bin : word64_at bytes 88 ≡ s.top_bin
  pub theta : word64_at bytes 96 ≡ s.theta
  pub eta : word64_at bytes 104 ≡ s.eta
  pub gravity : word64_at bytes 112 ≡ s.gravity
  pub velocity_shift : word64_at bytes 120 ≡ s.velocity_shift
  pub soft_1 : word64_at bytes 128 ≡ slice_index s.soft 1
  pub soft_2 : word64_at bytes 136 ≡ slice_index s.soft 2
  pub soft_3 : word64_at bytes 144 ≡ slice_index s.soft 3
  pub soft_4 : word64_at bytes 152 ≡ slice_index s.soft 4
  pub soft_5 : word64_at bytes 160 ≡ slice_index s.soft 5

pub front_back : (version : ℕ) (σ : StateData) (s : SetupData) (bodies : List ℕ) → version ≤ 2 → length σ.bodies ≤ 1048576 → AreStorable σ → IsSetup s → IsFront (text version σ s bodies) version σ s
front_back version σ s bodies v n r h =
    let b : List ℕ = text version σ s bodies in
    let soft : (k : ℕ) → k < 6 → slice_index s.soft k < 2 ^ 64 = λ k l. omega (arith, (h.softenings.each k l).high) in
    record {
      version = word32_back b _ 8 version refl (omega (arith, v));
      count = word32_back b _ 12 (length σ.bodies) refl (omega (arith, n));
      steps = word64_back b _ 16 σ.steps refl r.steps;
      tick = word64_back b _ 24 σ.tick refl r.tick;
      next_snapshot = word64_back b _ 32 σ.next_snapshot refl r.next_snapshot;
      next_restart = word64_back b _ 40 σ.next_restart refl r.next_restart;
      kicks = word64_back b _ 48 σ.kicks refl r.kicks;
      interactions = word128_back b _ 56 σ.interactions refl r.interactions;
      time_max = word64_back b _ 72 s.time_max refl (omega (arith, h.time_high));
      low_bin = word64_back b _ 80 s.low_bin refl (omega (arith, h.bins_ordered, h.bin_high));
      top_bin = word64_back b _ 88 s.top_bin refl (omega (arith, h.bin_high));
      theta = word64_back b _ 96 s.theta refl (omega (arith, h.theta_high));
      eta = word64_back b _ 104 s.eta refl (omega (arith, h.eta_high));
      gravity = word64_back b _ 112 s.gravity refl (omega (arith, h.gravity_high));
      velocity_shift = word64_back b _ 120 s.velocity_shift refl (omega (arith, h.shift_high));
      soft_1 = word64_back b _ 128 (slice_index s.soft 1) refl (soft 1 (omega arith));
      soft_2 = word64_back b _ 136 (slice_index s.soft 2) refl (soft 2 (omega arith));
      soft_3 = word64_back b _ 144 (slice_index s.soft 3) refl (soft 3 (omega arith));
      soft_4 = word64_back b _ 152 (slice_index s.soft 4) refl (soft 4 (omega arith));
      soft_5 = word64_back b _ 160 (slice_index s.soft 5) refl (soft 5 (omega arith));
    }
