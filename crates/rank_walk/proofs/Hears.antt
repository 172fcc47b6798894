-- A slot is made from what a rank is told of a cell.
use Rattle.std.proofs.Common.{◌≡◌, ℕ, ◌+◌, ◌*◌, ◌<◌, ◌≤◌, ◌^◌, Bool, true, false, cond, ◌||◌, refl, ap, ◌∙◌, arith}
use Rattle.std.specs.Prelude.{Option, Some, None, IfSome, is_some, option_map}
use Rattle.std.proofs.lemmas.Bool.{false≢true, or_left}
use Rattle.cell_space.specs.Cells.{CellData, child, root_cell, same_cell}
use Rattle.cell_space.proofs.Cells.{same_cell-exact}
use Rattle.nbody_model.specs.Walks.{has_member}
use Rattle.rank_laws.specs.Whole.{opening}
use Rattle.rank_walk.specs.declared.told.Known.{Known}
use Rattle.rank_walk.specs.declared.told.Told.{Told}
use Rattle.rank_walk.specs.Seats.{IsKnown, IsSeat, IsTold, Seat, Stands, TellsBelow, has_child, moments_of}
use Rattle.rank_walk.specs.Slots.{held, or_zero}
use Rattle.rank_walk.specs.Sources.{HearsOf, TellsOf, slot_told}
use Rattle.rank_walk.specs.Tables.{IsSlot}

-- a child with members stands
pub child_stands : (z : Seat) (c d : CellData) (k : ℕ) → d ≡ child c k → has_child z c k ≡ true → Stands d z
child_stands z c d k e h = or_left (has_member (opening z.whole) d) (same_cell d root_cell) (ap (has_member (opening z.whole)) e ∙ h)

-- what a slot is made of is true
pub hears : (z : Seat) (c : CellData) (t : Told) (order : ℕ) → c.level ≤ 32 → order ≡ c.level * 2 ^ 96 + t.first → TellsOf c t z → HearsOf c (slot_told c t order) z
hears z c t order shallow number tells s = record { slot = slot; cell = refl; closed = refl; known = known_here t.known ∙ told.here }
  where
    told : IsTold z c t
    told = tells s

    known_here : (o : Option Known) → is_some (option_map (λ (k : Known). held k.moments) o) ≡ is_some o
    known_here None = refl
    known_here (Some k) = refl

    moments : (o : Option Known) → IfSome o (IsKnown z c) → option_map (λ (k : Known). held k.moments) o ≡ cond (is_some (option_map (λ (k : Known). held k.moments) o)) (Some (moments_of z c)) None
    moments None h = refl
    moments (Some k) h = ap Some h.moments

    below : (o : Option Known) → IfSome o (IsKnown z c) → is_some (option_map (λ (k : Known). held k.moments) o) ≡ true → TellsBelow c (or_zero (option_map (λ (k : Known). k.below) o)) z
    below None h e = absurd (false≢true e)
    below (Some k) h e = h.below

    slot : IsSlot z (slot_told c t order)
    slot = record {
      shallow = shallow;
      standing = s;
      known = moments t.known told.known;
      below = below t.known told.known;
      mine = told.mine;
      here = told.here;
      home = told.home;
      order = number ∙ ap (λ f. c.level * 2 ^ 96 + f) told.first;
    }

-- the first key of a cell that stands is short
pub short_first : (z : Seat) (c : CellData) (t : Told) → IsSeat z → c.level ≤ 32 → TellsOf c t z → Stands c z → t.first < 2 ^ 96
short_first z c t seat shallow tells s = let e : t.first ≡ z.whole.keys.first c = (tells s).first in omega (arith, e, seat.keys c (record { shallow = shallow; standing = s }))

-- the root stands
pub root_stands : (z : Seat) (c : CellData) → c ≡ root_cell → Stands c z
root_stands z c e = or_right (has_member (opening z.whole) c) (same_cell c root_cell) ((same_cell-exact c root_cell).1 e)
  where
    or_right : (a b : Bool) → b ≡ true → (a || b) ≡ true
    or_right true b h = refl
    or_right false b h = h
