-- What a rank begins with, and which pairs of places are known.
use Rattle.std.specs.Prelude.{◌≡◌, Bool, false, ◌&&◌, List, [], ◌∷◌}
use Rattle.fixed_point.specs.Vectors.{origin}
use Rattle.cell_space.specs.Cells.{root_cell}
use Rattle.rank_walk.specs.declared.heard.Heard.{Heard}
use Rattle.rank_walk.specs.declared.places.Places.{Places}
use Rattle.rank_walk.specs.Seats.{Seat}
use Rattle.rank_walk.specs.Slots.{SlotData}
use Rattle.rank_walk.specs.Tables.{IsFresh, known_at}

-- the root alone, with nothing at it
pub record BeginsWith (h : Heard) (z : Seat) : Type 0 where
  pub root : SlotData
  pub fresh : IsFresh z root_cell root
  pub slots : h.slots.items ≡ root ∷ []
  pub sums : h.sums.items ≡ origin ∷ []
  pub touched : h.touched.items ≡ false ∷ []
  pub asked : h.asked.items ≡ false ∷ []

-- both cells of a pair of places are known
abbrev pub knows_places : List SlotData → Places → Bool
knows_places ss x = known_at ss x.a && known_at ss x.b
