-- Ranks by keys along the curve have seats.
use Rattle.std.proofs.Common.{◌≡◌, ℕ, ◌*◌, ◌<◌, ◌≤◌, ◌/◌, Bool, true, false, ◌||◌, refl, ap, sym, ◌∙◌, arith, subst}
use Rattle.std.proofs.Math.Nat.{div-mul-le_self}
use Rattle.cell_space.specs.Cells.{CellData, InBox, Position, cell_at, contains, corner, root_cell, same_cell, width_of}
use Rattle.cell_space.proofs.Cells.{same_cell-exact}
use Rattle.hilbert_keys.specs.Curve.{IsCell, first_key}
use Rattle.hilbert_keys.proofs.Curves.{keys_fit}
use Rattle.hilbert_keys.proofs.Widths.{some_keys}
use Rattle.nbody_model.specs.Walks.{has_member}
use Rattle.model_laws.proofs.Among.{Witness, each-among}
use Rattle.rank_curve_laws.proofs.Keys.{are_told, division_is}
use Rattle.rank_curve_laws.specs.Along.{divided, keys_along}
use Rattle.rank_laws.specs.Whole.{IsWhole, Whole, goes_first, opening, ranks_of}
use Rattle.rank_laws.proofs.Counted.{sound}
use Rattle.rank_walk.proofs.Opened.{some_member}
use Rattle.rank_walk.specs.Divided.{DivisionsHaveSeats}
use Rattle.rank_walk.specs.Seats.{IsPlaced, IsSeat}

-- the corner of a position's cell isn't past it
corner_low : (x w : ℕ) → x / w * w ≤ x
corner_low x w = div-mul-le_self x w

in_box : (l : ℕ) (p : Position) → InBox p → InBox (corner (cell_at l p))
in_box l p b = record {
  below_x = omega (arith, b.below_x, corner_low p.x (width_of l));
  below_y = omega (arith, b.below_y, corner_low p.y (width_of l));
  below_z = omega (arith, b.below_z, corner_low p.z (width_of l));
}

cell_of : (w : Whole) → IsWhole w → (c : CellData) → IsPlaced w c → IsCell c
cell_of w whole c h = by (has_member (opening w) c) refl h.standing
  where
    by : (b : Bool) → has_member (opening w) c ≡ b → (b || same_cell c root_cell) ≡ true → IsCell c
    by true e k =
        let p : Witness (contains c) (opening w).positions = some_member (opening w) c e in
        let b : InBox p.it = each-among InBox p.it (opening w).positions (sound w whole).in_box p.«in» in
        record { shallow = h.shallow; in_box = subst (λ d. InBox (corner d)) ((same_cell-exact (cell_at c.level p.it) c).0 p.passes) (in_box c.level p.it b) }
    by false e k = subst IsCell (sym ((same_cell-exact c root_cell).0 k)) (record { shallow = omega arith; in_box = record { below_x = omega arith; below_y = omega arith; below_z = omega arith } })

-- a rank whose cells have their keys along the curve
pub seat_along : (w : Whole) → IsWhole w → w.keys ≡ keys_along w.keys.bounds → (r : ℕ) → r < ranks_of w → IsSeat (record { whole = w; rank = r })
seat_along w whole e r low = record {
  whole = whole;
  told = λ c d h k u v. are_told w.keys.bounds c d (cell_of w whole c h) (cell_of w whole d k) (ap (λ t. goes_first t c d) (sym e) ∙ u) (ap (λ t. goes_first t d c) (sym e) ∙ v);
  keys = λ c h. (let f : w.keys.first c ≡ first_key c = ap (λ t. t.first c) e in omega (arith, f, keys_fit c h.shallow, some_keys c.level));
  rank = low;
}

pub have_seats : DivisionsHaveSeats
have_seats bodies all g owners bounds d r low = seat_along (divided bodies g owners bounds) (division_is bodies all g owners bounds d) refl r low
