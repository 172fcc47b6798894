-- Ranks whose cells have their keys along the curve.
use Rattle.std.specs.Prelude.{◌≡◌, ◌<◌, ◌^◌, ℕ, false, min, List, fold, length, map}
use Rattle.std.specs.List.{AllByRecursion, range_with_len}
use Rattle.cell_space.specs.Cells.{CellData}
use Rattle.hilbert_keys.specs.Curve.{key, first_key, last_key, IsCell}
use Rattle.nbody_model.specs.declared.field.Event.{Event}
use Rattle.nbody_model.specs.Bodies.{BodyData}
use Rattle.nbody_model.specs.Tables.{Gravity}
use Rattle.model_laws.specs.Laws.{AreBodies}
use Rattle.rank_laws.specs.Homes.{Keys}
use Rattle.rank_laws.specs.Protocol.{World}
use Rattle.rank_laws.specs.Machine.{Message, Rank, is_one, start_world}
use Rattle.rank_laws.specs.Whole.{Whole, AreKeys, IsWhole, goes_first, in_order, rules_of}
use Rattle.rank_laws.specs.Owners.{owner_in, handed_to}
use Rattle.rank_laws.specs.Played.{Picks, IsPlayed, FindAlike}

-- the keys of cells along the curve, with some bounds
abbrev pub keys_along : List ℕ → Keys CellData
keys_along bounds = record { first = first_key; last = last_key; bounds = bounds }

-- the bounds of ranks by their bodies: the least key of each rank's bodies, and the number of all keys where it has none
abbrev pub bounds_of : List BodyData → List ℕ → ℕ → List ℕ
bounds_of bodies owners ranks = map (λ r. fold min (2 ^ 96) (map (λ b. key b.motion.pos) (handed_to bodies owners r))) (range_with_len 0 ranks)

-- bodies, divided among ranks by a list of owners and a list of bounds
abbrev pub divided : List BodyData → Gravity → List ℕ → List ℕ → Whole
divided bodies g owners bounds = record { bodies = bodies; owner = owner_in bodies owners; keys = keys_along bounds; gravity = g }

-- one owner for each body, a rank, and one bound for each of at least one rank
pub record IsDivision (bodies : List BodyData) (owners bounds : List ℕ) : Type 0 where
  pub some : 0 < length bounds
  pub each : length owners ≡ length bodies
  pub ranks : AllByRecursion (λ o. o < length bounds) owners

abbrev pub CurveHasKeys : Type 0
CurveHasKeys = (bounds : List ℕ) → 0 < length bounds → AreKeys (keys_along bounds)

-- of two different cells of the box one goes before the other
abbrev pub CellsAreTold : Type 0
CellsAreTold = (bounds : List ℕ) (c d : CellData) → IsCell c → IsCell d → goes_first (keys_along bounds) c d ≡ false → goes_first (keys_along bounds) d c ≡ false → c ≡ d

-- so lists of such cells that have the same cells have one order
abbrev pub SetsHaveOneOrder : Type 0
SetsHaveOneOrder = (bounds : List ℕ) (cs ds : List CellData) → AllByRecursion IsCell cs → AllByRecursion IsCell ds → ((c : CellData) → is_one c cs ≡ is_one c ds) → in_order (keys_along bounds) cs ≡ in_order (keys_along bounds) ds

abbrev pub EveryDivisionIsWhole : Type 0
EveryDivisionIsWhole = (bodies : List BodyData) → AreBodies bodies → (g : Gravity) (owners bounds : List ℕ) → IsDivision bodies owners bounds → IsWhole (divided bodies g owners bounds)

-- two plays of one list of bodies, divided in two ways, and picked in two ways
abbrev pub NoDivisionShows : Type 0
NoDivisionShows = (bodies : List BodyData) → AreBodies bodies → (g : Gravity) (owners bounds others limits : List ℕ) → IsDivision bodies owners bounds → IsDivision bodies others limits →
    (p q : Picks) (a c : List ℕ) (es fs : List Event) (y z : World Rank Message) (b d : List ℕ) →
    IsPlayed p (divided bodies g owners bounds) (start_world (rules_of (divided bodies g owners bounds))) a es y b →
    IsPlayed q (divided bodies g others limits) (start_world (rules_of (divided bodies g others limits))) c fs z d →
    FindAlike (divided bodies g owners bounds) (divided bodies g others limits) y z
