-- Rows as bodies, and the first reason why rows are no set.
use Rattle.std.specs.Prelude.{◌≡◌, ◌<◌, ◌≤◌, ◌==◌, ◌^◌, ℕ, List, length, map, sum_by, count_by, All, Any, IsPermutation}
use Rattle.particle_set.specs.declared.row.Row.{Row}
use Rattle.particle_set.specs.declared.row.SetErr.{SetErr}
use Rattle.particle_set.specs.declared.row.SetErr.TheVariants.{TooMany, Repeated, ZeroMass, MassTotal, MomRange, Memory}
use Rattle.nbody_model.specs.Bodies.{BodyData, IsInRange, IsValid, vector}
use Rattle.cell_space.specs.Cells.{place}

-- a row whose momentum is in range, as a body
abbrev pub body_of : Row → BodyData
body_of r = record { id = r.id; kind = r.kind; mass = r.mass; motion = record { pos = place r.pos; mom = vector r.mom } }

-- a row's kind is one that a body may have
pub record HasKind (r : Row) : Type 0 where
  pub low : 1 ≤ r.kind
  pub high : r.kind ≤ 5

-- a row has a mass
pub record HasMass (r : Row) : Type 0 where
  pub low : 1 ≤ r.mass

-- the ids and the masses together
abbrev pub ids : List Row → List ℕ
ids rows = map (λ r. r.id) rows

abbrev pub total_mass : List Row → ℕ
total_mass rows = sum_by (λ r. r.mass) rows

-- how many rows have an id
abbrev pub times : ℕ → List Row → ℕ
times id rows = count_by (λ r. r.id == id) rows

-- a row whose id stands twice, one whose id stands once, one without a mass, and one whose momentum is in range or isn't
pub record IsRepeated (rows : List Row) (r : Row) : Type 0 where
  pub twice : 2 ≤ times r.id rows

pub record IsAlone (rows : List Row) (r : Row) : Type 0 where
  pub once : times r.id rows ≤ 1

pub record IsMassless (r : Row) : Type 0 where
  pub zero_mass : r.mass ≡ 0

pub record HasMomentum (r : Row) : Type 0 where
  pub in_range : IsInRange (vector r.mom)

pub record IsOutside (r : Row) : Type 0 where
  pub out_of_range : ¬ HasMomentum r

-- the least id of the rows for which P holds
pub record IsLeastId (P : Row → Type 0) (rows : List Row) (id : ℕ) : Type 0 where
  pub among : Any (λ r. P r × (r.id ≡ id)) rows
  pub least : All (λ r. P r → id ≤ r.id) rows

-- the bodies are those of the rows, in another order, and a valid set
pub record IsSetOf (rows : List Row) (B : List BodyData) : Type 0 where
  pub bodies : IsPermutation (map body_of rows) B
  pub valid : IsValid B
  pub massive : All HasMass rows
  pub in_range : All HasMomentum rows

-- the first reason why rows are no set
abbrev pub IsFirstRefusal : List Row → SetErr → Type 0
IsFirstRefusal rows (TooMany n) = (n ≡ length rows) × (1048576 < n)
IsFirstRefusal rows (Repeated id) = (length rows ≤ 1048576) × IsLeastId (IsRepeated rows) rows id
IsFirstRefusal rows (ZeroMass id) = (length rows ≤ 1048576) × All (IsAlone rows) rows × IsLeastId IsMassless rows id
IsFirstRefusal rows (MassTotal sum) =
    (length rows ≤ 1048576) × All (IsAlone rows) rows × All HasMass rows × (sum ≡ total_mass rows) × (2 ^ 32 < sum)
IsFirstRefusal rows (MomRange id) =
    (length rows ≤ 1048576) × All (IsAlone rows) rows × All HasMass rows × (total_mass rows ≤ 2 ^ 32) × IsLeastId IsOutside rows id
IsFirstRefusal rows Memory = Unit {0}

-- the least id of a row whose momentum is out of range, or want of memory
abbrev pub IsMomentumRefusal : List Row → SetErr → Type 0
IsMomentumRefusal rows (TooMany n) = ⊥
IsMomentumRefusal rows (Repeated id) = ⊥
IsMomentumRefusal rows (ZeroMass id) = ⊥
IsMomentumRefusal rows (MassTotal sum) = ⊥
IsMomentumRefusal rows (MomRange id) = IsLeastId IsOutside rows id
IsMomentumRefusal rows Memory = Unit {0}

-- the refusal is want of memory
abbrev pub IsRefusalByMemory : SetErr → Type 0
IsRefusalByMemory (TooMany n) = ⊥
IsRefusalByMemory (Repeated id) = ⊥
IsRefusalByMemory (ZeroMass id) = ⊥
IsRefusalByMemory (MassTotal sum) = ⊥
IsRefusalByMemory (MomRange id) = ⊥
IsRefusalByMemory Memory = Unit {0}
