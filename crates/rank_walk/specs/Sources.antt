-- What is true of a source that tells ranks of cells.
use Rattle.std.specs.Prelude.{ℕ, is_some, option_map}
use Rattle.cell_space.specs.Cells.{CellData}
use Rattle.nbody_model.specs.Tables.{Gravity}
use Rattle.rank_walk.specs.declared.told.Told.{Told}
use Rattle.rank_walk.specs.Seats.{IsSeatBy, IsTold, Seat, Stands}
use Rattle.rank_walk.specs.Slots.{SlotData, held, or_zero}
use Rattle.rank_walk.specs.Tables.{IsFresh}

-- whatever it serves is a seat with its gravity
abbrev pub AreSeatsBy : {X : Type 0} → (X → Gravity) → (X → Seat → Type 0) → Type 0
AreSeatsBy {X} gravity serves = (x : X) (z : Seat) → serves x z → IsSeatBy (gravity x) z

-- of a cell that stands the truth is told, and a slot is made
abbrev pub TellsOf : CellData → Told → Seat → Type 0
TellsOf c t z = Stands c z → IsTold z c t

abbrev pub slot_told : CellData → Told → ℕ → SlotData
slot_told c t order = record {
  cell = c;
  moments = option_map (λ k. held k.moments) t.known;
  below = or_zero (option_map (λ k. k.below) t.known);
  first = 0;
  number = 0;
  mine = t.mine;
  here = is_some t.known;
  home = t.home;
  order = order;
}

abbrev pub HearsOf : CellData → SlotData → Seat → Type 0
HearsOf c s z = Stands c z → IsFresh z c s
