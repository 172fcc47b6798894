-- Ranks by keys along the curve have seats.
use Rattle.std.specs.Prelude.{◌<◌, ℕ, List, length}
use Rattle.nbody_model.specs.Bodies.{BodyData}
use Rattle.nbody_model.specs.Tables.{Gravity}
use Rattle.model_laws.specs.Laws.{AreBodies}
use Rattle.rank_curve_laws.specs.Along.{divided, IsDivision}
use Rattle.rank_walk.specs.Seats.{IsSeat}

-- however bodies are divided among ranks, with keys along the curve, each rank has a seat
abbrev pub DivisionsHaveSeats : Type 0
DivisionsHaveSeats = (bodies : List BodyData) → AreBodies bodies → (g : Gravity) (owners bounds : List ℕ) → IsDivision bodies owners bounds →
    (r : ℕ) → r < length bounds → IsSeat (record { whole = divided bodies g owners bounds; rank = r })
