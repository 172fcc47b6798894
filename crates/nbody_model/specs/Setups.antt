-- What a run is set up with.
use Rattle.std.specs.Prelude.{◌≡◌, ℕ, ◌+◌, ◌-◌, ◌*◌, ◌/◌, ◌^◌, ◌≤◌, ◌<◌, List, length, slice_index}

-- the settings that fix forces and steps
pub record SetupData : Type 0 where
  pub time_max : ℕ
  pub low_bin : ℕ
  pub top_bin : ℕ
  pub theta : ℕ
  pub eta : ℕ
  pub gravity : ℕ
  pub velocity_shift : ℕ
  pub soft : List ℕ

-- a softening length lies in its range
pub record IsSoftening (e : ℕ) : Type 0 where
  pub low : 256 ≤ e
  pub high : e ≤ 2 ^ 30

-- six softening lengths: one that isn't used, and those of the kinds 1 to 5
pub record AreSoftenings (soft : List ℕ) : Type 0 where
  pub six : length soft ≡ 6
  pub unused : slice_index soft 0 ≡ 256
  pub each : (k : ℕ) → k < 6 → IsSoftening (slice_index soft k)

-- every setting lies in its range
pub record IsSetup (s : SetupData) : Type 0 where
  pub time_high : s.time_max ≤ 2 ^ 40
  pub bin_low : 1 ≤ s.low_bin
  pub bins_ordered : s.low_bin ≤ s.top_bin
  pub bin_high : s.top_bin ≤ 20
  pub theta_high : s.theta ≤ 256
  pub eta_low : 1 ≤ s.eta
  pub eta_high : s.eta ≤ 65536
  pub gravity_high : s.gravity ≤ 2 ^ 32
  pub shift_high : s.velocity_shift ≤ 40
  pub softenings : AreSoftenings s.soft

-- the tick at which a run ends: the first end of a base step that isn't before the time asked for
abbrev pub last_tick : SetupData → ℕ
last_tick s = (s.time_max + 2 ^ s.top_bin - 1) / 2 ^ s.top_bin * 2 ^ s.top_bin
