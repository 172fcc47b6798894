-- The way down along the digits of a key.
use Rattle.std.proofs.Common.{◌≡◌, ℕ, suc, ◌+◌, ◌-◌, ◌*◌, ◌/◌, ◌%◌, ◌^◌, ◌<◌, ◌≤◌, Bool, true, eqb, ltb, ◌&&◌, refl, ap, sym, ◌∙◌, subst, arith, slice_index}
use Rattle.std.proofs.lemmas.Bool.{and_parts, eqb-true, ltb-true}
use Rattle.std.proofs.lemmas.Nat.{mul-le, pow_pos}
use Rattle.cell_space.specs.Cells.{Position, InBox, CellData, root_cell, cell_at, corner, child, contains, width_of, digit}
use Rattle.cell_space.proofs.Cells.{child_within, child_digit}
use Rattle.cell_space.proofs.Nested.{corner_contained}
use Rattle.hilbert_keys.specs.Curve.{Turn, place_of, child_at, next_turn, along, key, keys_in, number_of, turn_of, IsCell}
use Rattle.hilbert_keys.specs.Steps.{descents, turn_numbered, IsOnWay}
use Rattle.hilbert_keys.proofs.Turns.{IsGood, is_good, all_under, under}
use Rattle.hilbert_keys.proofs.Curves.{is_turn, along_in, child_along_is, one_cell}
use Rattle.hilbert_keys.proofs.Widths.{next_digit}

-- the entry for a turn and a place is right
abbrev right : ℕ → ℕ → Bool
right n w = eqb (slice_index descents (n * 8 + w) % 8) (child_at (turn_numbered n) w)
    && (eqb (slice_index descents (n * 8 + w) / 8 / 3) (next_turn (turn_numbered n) w).corner
    && (eqb (slice_index descents (n * 8 + w) / 8 % 3) (next_turn (turn_numbered n) w).axis
    && ltb (slice_index descents (n * 8 + w) / 8) 24))

all_right : all_under (λ n. all_under (right n) 8) 24 ≡ true
unfolding child_at next_turn descents
all_right = refl

record IsRight (n w : ℕ) : Type 0 where
  child : slice_index descents (n * 8 + w) % 8 ≡ child_at (turn_numbered n) w
  next : turn_numbered (slice_index descents (n * 8 + w) / 8) ≡ next_turn (turn_numbered n) w
  known : slice_index descents (n * 8 + w) / 8 < 24

is_right : (n w : ℕ) → n < 24 → w < 8 → IsRight n w
is_right n w h l =
    let e : right n w ≡ true = under (right n) 8 (under (λ n. all_under (right n) 8) 24 all_right n h) w l in
    let v : ℕ = slice_index descents (n * 8 + w) in
    let t : Turn = next_turn (turn_numbered n) w in
    let a = and_parts (eqb (v % 8) (child_at (turn_numbered n) w)) (eqb (v / 8 / 3) t.corner && (eqb (v / 8 % 3) t.axis && ltb (v / 8) 24)) e in
    let b = and_parts (eqb (v / 8 / 3) t.corner) (eqb (v / 8 % 3) t.axis && ltb (v / 8) 24) a.1 in
    let c = and_parts (eqb (v / 8 % 3) t.axis) (ltb (v / 8) 24) b.1 in
    let x : v / 8 / 3 ≡ t.corner = eqb-true (v / 8 / 3) t.corner b.0 in
    let y : v / 8 % 3 ≡ t.axis = eqb-true (v / 8 % 3) t.axis c.0 in
    record { child = eqb-true (v % 8) (child_at (turn_numbered n) w) a.0; next = λ i. record { corner = x i; axis = y i }; known = ltb-true (v / 8) 24 c.1 }

next_lies : (l : ℕ) (p : Position) → (along (l + 1) p).turn ≡ next_turn (along l p).turn (place_of (along l p).turn (digit p l))
unfolding along
next_lies l p = let e : l + 1 ≡ suc l = omega arith in ap (λ t. (along t p).turn) e

-- how the curve lies in a child
pub child_turn : (c : CellData) (k : ℕ) → IsCell c → c.level < 32 → k < 8 → turn_of (child c k) ≡ next_turn (turn_of c) (place_of (turn_of c) k)
child_turn c k i h l =
    let q : Position = corner (child c k) in
    let there : contains (child c k) q ≡ true = corner_contained (child c k) in
    let above : contains c q ≡ true = child_within c k q h l there in
    let same : along c.level q ≡ along c.level (corner c) = along_in c q i.shallow above in
    let d : k ≡ digit q c.level = child_digit c k q h l there in
    next_lies c.level q ∙ (λ j. next_turn (same j).turn (place_of (same j).turn (sym d j)))

pub goes_down : (key l n w : ℕ) (c : CellData) → l < 32 → IsOnWay key l n c → w ≡ key / 2 ^ (3 * (31 - l)) % 8 → w < 8 → IsOnWay key (l + 1) (slice_index descents (n * 8 + w) / 8) (child c (slice_index descents (n * 8 + w) % 8))
goes_down key l n w c h o e b =
    let r : IsRight n w = is_right n w o.known b in
    let t : Turn = turn_of c in
    let s : c.level < 32 = omega (arith, h, o.there) in
    let g : IsGood t w = is_good t w (is_turn c.level (corner c)) b in
    let k : slice_index descents (n * 8 + w) % 8 ≡ child_at t w = r.child ∙ ap (λ u. child_at u w) o.lies in
    let a : IsCell (child c (child_at t w)) × (number_of (child c (child_at t w)) ≡ 8 * number_of c + w) = child_along_is c o.cell s w b in
    let turned : turn_of (child c (child_at t w)) ≡ next_turn t w = child_turn c (child_at t w) o.cell s g.child ∙ ap (next_turn t) g.forth in
    record {
      cell = subst (λ u. IsCell (child c u)) (sym k) a.0;
      there = omega (arith, o.there);
      counted = ap (λ u. number_of (child c u)) k ∙ a.1 ∙ ap (λ u. 8 * u + w) o.counted ∙ sym (next_digit key l w h e);
      lies = r.next ∙ ap (λ u. next_turn u w) o.lies ∙ sym turned ∙ ap (λ u. turn_of (child c u)) (sym k);
      known = r.known;
    }

-- so there is room for one bit more
room_at : (x l : ℕ) → l < 32 → x * width_of l < 2 ^ 32 → x < 2 ^ 31
room_at x l h b =
    let e : 32 - l ≡ suc (31 - l) = omega (arith, h) in
    let w : width_of l ≡ 2 * 2 ^ (31 - l) = ap (λ t. 2 ^ t) e ∙ omega arith in
    let p : 0 < 2 ^ (31 - l) = pow_pos (31 - l) in
    let m : x * 2 ≤ x * width_of l = mul-le x 2 x (width_of l) (omega arith) (omega (arith, w, p)) in
    omega (arith, m, b)

pub room : (key l n : ℕ) (c : CellData) → l < 32 → IsOnWay key l n c → (c.x < 2 ^ 31) × (c.y < 2 ^ 31) × (c.z < 2 ^ 31)
room key l n c h o =
    let s : c.level < 32 = omega (arith, h, o.there) in
    (room_at c.x c.level s o.cell.in_box.below_x, room_at c.y c.level s o.cell.in_box.below_y, room_at c.z c.level s o.cell.in_box.below_z)

pub starts : (key : ℕ) → key < 2 ^ 96 → IsOnWay key 0 0 root_cell
unfolding along
starts key h = record {
  cell = record { shallow = omega arith; in_box = record { below_x = omega arith; below_y = omega arith; below_z = omega arith } };
  there = refl;
  counted = omega (arith, h);
  lies = refl;
  known = omega arith;
}

abbrev deepest : ℕ → ℕ → ℕ → CellData
deepest x y z = record { level = 32; x = x; y = y; z = z }

corner_is : (x y z : ℕ) → corner (deepest x y z) ≡ record { x = x; y = y; z = z }
corner_is x y z = let e : (n : ℕ) → n * 1 ≡ n = λ n. omega arith in λ i. record { x = e x i; y = e y i; z = e z i }

-- at the end the cell is the position
pub arrives : (k l n x y z : ℕ) → l ≡ 32 → IsOnWay k l n (record { level = l; x = x; y = y; z = z }) → (key (record { x = x; y = y; z = z }) ≡ k) × ((p : Position) → InBox p → key p ≡ k → record { x = x; y = y; z = z } ≡ p)
arrives k l n x y z e o = by (subst (λ t. IsOnWay k t n (record { level = t; x = x; y = y; z = z })) e o)
  where
    by : IsOnWay k 32 n (deepest x y z) → (key (record { x = x; y = y; z = z }) ≡ k) × ((p : Position) → InBox p → key p ≡ k → record { x = x; y = y; z = z } ≡ p)
    by o = (back, only)
      where
        one : k / keys_in 32 ≡ k
        one = omega arith

        back : key (record { x = x; y = y; z = z }) ≡ k
        back = ap key (sym (corner_is x y z)) ∙ o.counted ∙ one

        inside : InBox (record { x = x; y = y; z = z })
        inside = subst InBox (corner_is x y z) o.cell.in_box

        only : (p : Position) → InBox p → key p ≡ k → record { x = x; y = y; z = z } ≡ p
        only p i f =
            let s : cell_at 32 (record { x = x; y = y; z = z }) ≡ cell_at 32 p = one_cell 32 (record { x = x; y = y; z = z }) p inside i (omega arith) (back ∙ sym f) in
            let u : x ≡ p.x = omega (arith, ap (λ t. t.x) s) in
            let v : y ≡ p.y = omega (arith, ap (λ t. t.y) s) in
            let w : z ≡ p.z = omega (arith, ap (λ t. t.z) s) in
            λ j. record { x = u j; y = v j; z = w j }
