-- States of a run. At a synchronisation all bodies stand at one tick; a rest state stands inside a base step. Both are
-- what a restart file keeps (restart files are GADGET's, those inside a base step this project's own).
use Rattle.std.specs.Prelude.{◌≡◌, ◌<◌, ◌≤◌, ℕ, ◌+◌, ◌-◌, ◌*◌, ◌/◌, ◌^◌, List, [], map, filter, length, nat_le}
use Rattle.std.specs.List.{AllByRecursion, zip, range_with_len}
use Rattle.std.specs.Int.{w64, trailing_zeros}
use Rattle.nbody_model.specs.Bodies.{BodyData}
use Rattle.nbody_model.specs.Setups.{SetupData}

-- the bodies; their depths, one for each at a rest state and none at a synchronisation; the base steps done; the tick;
-- the numbers of the next snapshot and restart file; and the kicks and interactions so far, from tick 0 on
pub record StateData : Type 0 where
  pub bodies : List BodyData
  pub depths : List ℕ
  pub steps : ℕ
  pub tick : ℕ
  pub next_snapshot : ℕ
  pub next_restart : ℕ
  pub kicks : ℕ
  pub interactions : ℕ

-- nothing was done yet
pub record IsStart (σ : StateData) : Type 0 where
  pub depths : σ.depths ≡ []
  pub steps : σ.steps ≡ 0
  pub tick : σ.tick ≡ 0
  pub next_snapshot : σ.next_snapshot ≡ 0
  pub next_restart : σ.next_restart ≡ 0
  pub kicks : σ.kicks ≡ 0
  pub interactions : σ.interactions ≡ 0

-- a synchronisation at which a run goes on: the end of a base step, before the last tick
pub record IsSynchronisation (s : SetupData) (σ : StateData) : Type 0 where
  pub depths : σ.depths ≡ []
  pub tick : σ.tick ≡ σ.steps * 2 ^ s.top_bin
  pub running : σ.tick < s.time_max

-- ---- rest states

-- the number v of zero bits at the end of a tick: at a resting point the unfinished evolves are those of the bins
-- above v, up to the top bin
abbrev pub low_zeros : ℕ → ℕ
low_zeros tick = trailing_zeros w64 tick

-- when the unfinished evolve of a bin began
abbrev pub began : ℕ → ℕ → ℕ
began bin tick = tick / 2 ^ bin * 2 ^ bin

-- a resting point inside a base step, with one depth for each body
pub record IsRest (s : SetupData) (σ : StateData) : Type 0 where
  pub some : 1 ≤ length σ.bodies
  pub each : length σ.depths ≡ length σ.bodies
  pub steps : σ.steps ≡ σ.tick / 2 ^ s.top_bin
  pub running : σ.steps * 2 ^ s.top_bin < s.time_max
  pub not_finest : s.low_bin ≤ low_zeros σ.tick
  pub not_whole : low_zeros σ.tick < s.top_bin
  pub shallow : AllByRecursion (λ depth. depth ≤ s.top_bin - low_zeros σ.tick) σ.depths

-- the ids of the bodies of at least a depth
abbrev pub deep : ℕ → StateData → List ℕ
deep n σ = map (λ x. x.0.id) (filter (λ x. nat_le n x.1) (zip σ.bodies σ.depths))

-- the bodies of the unfinished evolve of a bin, and its fast part
abbrev pub unfinished : SetupData → StateData → ℕ → List ℕ
unfinished s σ bin = deep (s.top_bin - bin) σ

abbrev pub unfinished_fast : SetupData → StateData → ℕ → List ℕ
unfinished_fast s σ bin = deep (s.top_bin - bin + 1) σ

-- the fast parts of the unfinished evolves from a bin up to the top bin
abbrev pub fast_parts : SetupData → StateData → ℕ → List (List ℕ)
fast_parts s σ bin = map (unfinished_fast s σ) (range_with_len bin (s.top_bin + 1 - bin))
