-- A rank among all, and what is true of a cell there.
use Rattle.std.specs.Prelude.{◌≡◌, ◌<◌, ◌≤◌, ℕ, ◌+◌, ◌*◌, ◌/◌, ◌%◌, ◌^◌, ◌==◌, Bool, true, false, ◌||◌, List, IfSome, is_some}
use Rattle.cell_space.specs.Cells.{CellData, child, root_cell, same_cell}
use Rattle.nbody_model.specs.Moments.{MomentsData, moments}
use Rattle.nbody_model.specs.Tables.{Gravity}
use Rattle.nbody_model.specs.Walks.{has_member}
use Rattle.rank_laws.specs.Homes.{Keys, home, in_span}
use Rattle.rank_laws.specs.Machine.{Rules, knows}
use Rattle.rank_laws.specs.Whole.{Whole, IsWhole, opening, rules_of, ranks_of, goes_first}
use Rattle.rank_walk.specs.declared.told.Known.{Known}
use Rattle.rank_walk.specs.declared.told.Told.{Told}
use Rattle.rank_walk.specs.Slots.{held}

-- a rank: what all ranks find forces over, and its number
pub record Seat : Type 0 where
  pub whole : Whole
  pub rank : ℕ

-- a cell stands where it has members; the root always does
abbrev pub stands : Whole → CellData → Bool
stands w c = has_member (opening w) c || same_cell c root_cell

-- a cell that stands, of a level that there is
pub record IsPlaced (w : Whole) (c : CellData) : Type 0 where
  pub shallow : c.level ≤ 32
  pub standing : stands w c ≡ true

-- of two different cells that stand one goes before the other
abbrev pub TellsCells : Whole → Type 0
TellsCells w = (c d : CellData) → IsPlaced w c → IsPlaced w d → goes_first w.keys c d ≡ false → goes_first w.keys d c ≡ false → c ≡ d

-- a rank that there is, over what forces may be found over, with keys that tell cells apart and have 96 bits
pub record IsSeat (z : Seat) : Type 0 where
  pub whole : IsWhole z.whole
  pub told : TellsCells z.whole
  pub keys : (c : CellData) → IsPlaced z.whole c → z.whole.keys.first c < 2 ^ 96
  pub rank : z.rank < ranks_of z.whole

-- ---- the seats that a source serves

-- something is true of one of them; it is true of each
abbrev pub SomeSeat : (Seat → Type 0) → (Seat → Type 0) → Type 0
SomeSeat serves P = (z : Seat) × (serves z × P z)

abbrev pub EachSeat : (Seat → Type 0) → (Seat → Type 0) → Type 0
EachSeat serves P = (z : Seat) → serves z → P z

-- there is one
abbrev pub IsServing : (Seat → Type 0) → Type 0
IsServing serves = (z : Seat) × serves z

-- a seat with forces by this gravity
pub record IsSeatBy (g : Gravity) (z : Seat) : Type 0 where
  pub seat : IsSeat z
  pub gravity : z.whole.gravity ≡ g

-- ---- what is true of a cell at a seat

abbrev pub Stands : CellData → Seat → Type 0
Stands c z = stands z.whole c ≡ true

abbrev pub rules : Seat → Rules
rules z = rules_of z.whole

-- the number of a cell in the order by level and then by first key
abbrev pub order_of : Keys CellData → CellData → ℕ
order_of keys c = c.level * 2 ^ 96 + keys.first c

abbrev pub moments_of : Seat → CellData → MomentsData
moments_of z c = moments z.whole.gravity.setup z.whole.bodies c

abbrev pub is_home : Seat → CellData → Bool
is_home z c = home z.whole.keys c == z.rank

-- bit k of a number
abbrev pub bit : ℕ → ℕ → Bool
bit n k = n / 2 ^ k % 2 == 1

-- a child has members
abbrev pub has_child : Seat → CellData → ℕ → Bool
has_child z c k = has_member (opening z.whole) (child c k)

-- these bits say which children have members, if there are cells below
abbrev pub TellsBelow : CellData → ℕ → Seat → Type 0
TellsBelow c n z = c.level < 32 → (k : ℕ) → k < 8 → bit n k ≡ has_child z c k

-- what is said to be known of a cell is true of it
pub record IsKnown (z : Seat) (c : CellData) (k : Known) : Type 0 where
  pub moments : held k.moments ≡ moments_of z c
  pub below : TellsBelow c k.below z

-- what a rank is told of a cell is true of it, and it is told what is known where it is the cell's home
pub record IsTold (z : Seat) (c : CellData) (t : Told) : Type 0 where
  pub here : is_some t.known ≡ is_home z c
  pub known : IfSome t.known (IsKnown z c)
  pub mine : t.mine ≡ in_span z.whole.keys z.rank c
  pub home : t.home ≡ home z.whole.keys c
  pub first : t.first ≡ z.whole.keys.first c

-- a rank that has some replies
pub record Side : Type 0 where
  pub seat : Seat
  pub replies : List CellData

abbrev pub knows_cell : Side → CellData → Bool
knows_cell z c = knows (rules_of z.seat.whole) z.seat.rank z.replies c

abbrev pub side : Seat → List CellData → Side
side z replies = record { seat = z; replies = replies }
