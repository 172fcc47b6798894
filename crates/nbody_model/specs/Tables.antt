-- The two tables that are handed in: periodic corrections of the force, and factors of kicks and drifts.
use Rattle.std.specs.Prelude.{◌≡◌, ℕ, ◌+◌, ◌-◌, ◌*◌, ◌^◌, ◌≤◌, ◌<◌, pos, ◌⊎◌, FitsSigned, Option, List, length, get_or}
use Rattle.std.specs.Int.{w32}
use Rattle.fixed_point.specs.declared.V3.{V3}
use Rattle.fixed_point.specs.Vectors.{origin}
use Rattle.nbody_model.specs.Setups.{SetupData}

-- ---- periodic corrections (a tabulated correction is GADGET's idea, this form of the table is the project's own)

-- 2^g steps from 0 to half the box on each axis, and the entries at all points of this grid, x fastest
pub record TableData : Type 0 where
  pub g : ℕ
  pub entries : List V3

-- how many points the grid has on an axis
abbrev pub points : TableData → ℕ
points t = 2 ^ t.g + 1

-- the entry at a point of the grid
abbrev pub entry_at : TableData → ℕ → ℕ → ℕ → V3
entry_at t i j k = get_or t.entries ((k * points t + j) * points t + i) origin

-- a number of steps that leads to an edge plane of the grid
abbrev pub IsEdge : TableData → ℕ → Type 0
IsEdge t i = (i ≡ 0) ⊎ (i ≡ 2 ^ t.g)

-- an entry that has 0 on each axis on which its point lies on an edge plane, and whose numbers fit 32 bits
pub record IsEntry (t : TableData) (i j k : ℕ) (v : V3) : Type 0 where
  pub edge_x : IsEdge t i → v.x ≡ pos 0
  pub edge_y : IsEdge t j → v.y ≡ pos 0
  pub edge_z : IsEdge t k → v.z ≡ pos 0
  pub fits_x : FitsSigned w32 v.x
  pub fits_y : FitsSigned w32 v.y
  pub fits_z : FitsSigned w32 v.z

pub record IsTable (t : TableData) : Type 0 where
  pub fine : t.g ≤ 6
  pub whole : length t.entries ≡ points t * points t * points t
  pub each : (i j k : ℕ) → i < points t → j < points t → k < points t → IsEntry t i j k (entry_at t i j k)

-- ---- factors of kicks and drifts (this project's own form of a comoving run's integrals)

-- the sums for kicks and for drifts from tick 0 on, in ticks
pub record ExpansionEntry : Type 0 where
  pub kick : ℕ
  pub drift : ℕ

-- the entries at the ticks 0, 2^s, 2 · 2^s and so on
pub record ExpansionData : Type 0 where
  pub s : ℕ
  pub entries : List ExpansionEntry

-- the entry of a number
abbrev pub expansion_at : ExpansionData → ℕ → ExpansionEntry
expansion_at e i = get_or e.entries i (record { kick = 0; drift = 0 })

-- from one entry to the next both sums rise, by at most the ticks between
pub record Rises (ticks : ℕ) (a b : ExpansionEntry) : Type 0 where
  pub kick_up : a.kick ≤ b.kick
  pub kick_most : b.kick ≤ a.kick + ticks
  pub drift_up : a.drift ≤ b.drift
  pub drift_most : b.drift ≤ a.drift + ticks

pub record IsExpansion (e : ExpansionData) : Type 0 where
  pub spaced : e.s ≤ 40
  pub some : 1 ≤ length e.entries
  pub start_kick : (expansion_at e 0).kick ≡ 0
  pub start_drift : (expansion_at e 0).drift ≡ 0
  pub each : (i : ℕ) → i + 1 < length e.entries → Rises (2 ^ e.s) (expansion_at e i) (expansion_at e (i + 1))

-- the table reaches a tick
abbrev pub Reaches : ExpansionData → ℕ → Type 0
Reaches e tick = tick ≤ (length e.entries - 1) * 2 ^ e.s

-- ---- what forces and steps go by

-- what a force depends on besides the bodies
pub record Gravity : Type 0 where
  pub setup : SetupData
  pub table : Option TableData

-- what the steps of a run go by
pub record Rules : Type 0 where
  pub gravity : Gravity
  pub expansion : Option ExpansionData
