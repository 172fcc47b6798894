-- Cells are ranges of keys.
use Rattle.std.proofs.Common.{◌≡◌, ℕ, zero, suc, ◌+◌, ◌-◌, ◌*◌, ◌/◌, ◌^◌, ◌%◌, ◌<◌, ◌≤◌, true, eqb, refl, ap, sym, ◌∙◌, arith}
use Rattle.std.proofs.lemmas.Bool.{eqb-true, eq-eqb}
use Rattle.cell_space.specs.Cells.{Position, InBox, CellData, root_cell, cell_at, contains, same_cell, child, corner, digit, width_of}
use Rattle.cell_space.proofs.Cells.{both_equal, same_cell-exact, contains-exact, cell_at-contains, digit_contains, child_digit, digit_below, child_within, root_contains}
use Rattle.std.proofs.lemmas.Nat.{shl-shr, mul-le, pow-add}
use Rattle.std.proofs.Math.Nat.{div-div-eq-div-mul}
use Rattle.cell_space.proofs.Halves.{corner_fits, half_upper, half_corner}
use Rattle.cell_space.proofs.Nested.{share_above, corner_contained}
use Rattle.hilbert_keys.specs.Curve.{IsTurn, place_of, child_at, next_turn, along, key, keys_in, number_of, turn_of, child_along, IsCell}
use Rattle.hilbert_keys.specs.Laws.{IsPlace}
use Rattle.hilbert_keys.proofs.Turns.{IsGood, is_good, one_place}

pub is_turn : (l : ℕ) (p : Position) → IsTurn (along l p).turn
unfolding along
is_turn zero p = record { corner = omega arith; axis = omega arith }
is_turn (suc l) p = let i : IsTurn (along l p).turn = is_turn l p in (is_good (along l p).turn (place_of (along l p).turn (digit p l)) i (is_good (along l p).turn (digit p l) i (digit_below p l)).place).turn

pub next_number : (l : ℕ) (p : Position) → (along (suc l) p).number ≡ 8 * (along l p).number + place_of (along l p).turn (digit p l)
unfolding along
next_number l p = refl

next_is : (l : ℕ) (p q : Position) → along l p ≡ along l q → digit p l ≡ digit q l → along (suc l) p ≡ along (suc l) q
unfolding along
next_is l p q e f = λ i. let s = e i in let w = place_of s.turn (f i) in record { number = 8 * s.number + w; turn = next_turn s.turn w }

-- a position's next cell is the child of its cell with its digit
pub down_one : (l : ℕ) (p : Position) → l < 32 → cell_at (l + 1) p ≡ child (cell_at l p) (digit p l)
down_one l p h = (contains-exact (child (cell_at l p) (digit p l)) p).0 (digit_contains (cell_at l p) p h (cell_at-contains l p))

pub at_next : (l : ℕ) (p : Position) → cell_at (l + 1) p ≡ cell_at (suc l) p
at_next l p = let e : l + 1 ≡ suc l = omega arith in ap (λ t. cell_at t p) e

-- positions in one cell have the same number and turn there
same_along_step : (l : ℕ) (p q : Position) → suc l ≤ 32 → cell_at (suc l) p ≡ cell_at (suc l) q → (cell_at l p ≡ cell_at l q → along l p ≡ along l q) → along (suc l) p ≡ along (suc l) q
same_along_step l p q h u rest =
    let e : cell_at (l + 1) p ≡ cell_at (l + 1) q = at_next l p ∙ u ∙ sym (at_next l q) in
    let above : cell_at l p ≡ cell_at l q = share_above p q l (l + 1) (omega arith) (omega arith) e in
    let inside : contains (child (cell_at l q) (digit p l)) q ≡ true = (contains-exact (child (cell_at l q) (digit p l)) q).1 (sym e ∙ down_one l p (omega arith) ∙ ap (λ c. child c (digit p l)) above) in
    next_is l p q (rest above) (child_digit (cell_at l q) (digit p l) q (omega arith) (digit_below p l) inside)

pub same_along : (l : ℕ) (p q : Position) → l ≤ 32 → cell_at l p ≡ cell_at l q → along l p ≡ along l q
unfolding along
same_along zero p q h e = refl
same_along (suc l) p q h e = same_along_step l p q h e (λ u. same_along l p q (omega arith) u)

-- and positions with one number there are in one cell
same_cell_step : (l : ℕ) (p q : Position) → suc l ≤ 32 → (along (suc l) p).number ≡ (along (suc l) q).number → ((along l p).number ≡ (along l q).number → cell_at l p ≡ cell_at l q) → cell_at (suc l) p ≡ cell_at (suc l) q
same_cell_step l p q h e rest =
    let i : IsTurn (along l p).turn = is_turn l p in
    let j : IsTurn (along l q).turn = is_turn l q in
    let a : place_of (along l p).turn (digit p l) < 8 = (is_good (along l p).turn (digit p l) i (digit_below p l)).place in
    let b : place_of (along l q).turn (digit q l) < 8 = (is_good (along l q).turn (digit q l) j (digit_below q l)).place in
    let above : cell_at l p ≡ cell_at l q = rest (omega (arith, a, b, e, next_number l p, next_number l q)) in
    let turns : (along l p).turn ≡ (along l q).turn = ap (λ s. s.turn) (same_along l p q (omega arith) above) in
    let places : place_of (along l p).turn (digit p l) ≡ place_of (along l q).turn (digit q l) = omega (arith, a, b, e, next_number l p, next_number l q) in
    let digits : digit p l ≡ digit q l = one_place (along l p).turn (digit p l) (digit q l) i (digit_below p l) (digit_below q l) (places ∙ ap (λ t. place_of t (digit q l)) (sym turns)) in
    sym (at_next l p) ∙ down_one l p (omega arith) ∙ (λ i. child (above i) (digits i)) ∙ sym (down_one l q (omega arith)) ∙ at_next l q

pub one_cell : (l : ℕ) (p q : Position) → InBox p → InBox q → l ≤ 32 → (along l p).number ≡ (along l q).number → cell_at l p ≡ cell_at l q
one_cell zero p q i j h e = (contains-exact root_cell p).0 (root_contains p i) ∙ sym ((contains-exact root_cell q).0 (root_contains q j))
one_cell (suc l) p q i j h e = same_cell_step l p q h e (λ u. one_cell l p q i j (omega arith) u)

-- the number there is the first digits of the key
digits_off : (n l : ℕ) (p : Position) → (along (l + n) p).number / 8 ^ n ≡ (along l p).number
digits_off zero l p = let e : l + 0 ≡ l = omega arith in let f : (along (l + 0) p).number / 1 ≡ (along (l + 0) p).number = omega arith in f ∙ ap (λ t. (along t p).number) e
digits_off (suc n) l p =
    let t : place_of (along (l + n) p).turn (digit p (l + n)) < 8 = (is_good (along (l + n) p).turn (digit p (l + n)) (is_turn (l + n) p) (digit_below p (l + n))).place in
    let s : l + suc n ≡ suc (l + n) = omega arith in
    let e : (along (suc (l + n)) p).number / 8 ≡ (along (l + n) p).number = omega (arith, next_number (l + n) p, t) in
    let f : 8 ^ suc n ≡ 8 * 8 ^ n = omega arith in
    ap (λ t. (along t p).number / 8 ^ suc n) s ∙ ap (λ t. (along (suc (l + n)) p).number / t) f ∙ sym (div-div-eq-div-mul ((along (suc (l + n)) p).number) 8 (8 ^ n)) ∙ ap (λ t. t / 8 ^ n) e ∙ digits_off n l p

pub number_is : (l : ℕ) (p : Position) → l ≤ 32 → key p / keys_in l ≡ (along l p).number
number_is l p h = let e : l + (32 - l) ≡ 32 = omega arith in ap (λ t. (along t p).number / 8 ^ (32 - l)) (sym e) ∙ digits_off (32 - l) l p

pub keys_tell : (p q : Position) → InBox p → InBox q → (l : ℕ) → l ≤ 32 → same_cell (cell_at l p) (cell_at l q) ≡ eqb (key p / keys_in l) (key q / keys_in l)
keys_tell p q i j l h = both_equal (same_cell (cell_at l p) (cell_at l q)) (eqb (key p / keys_in l) (key q / keys_in l))
    (λ e. eq-eqb (key p / keys_in l) (key q / keys_in l) (number_is l p h ∙ ap (λ s. s.number) (same_along l p q h ((same_cell-exact (cell_at l p) (cell_at l q)).0 e)) ∙ sym (number_is l q h)))
    (λ e. (same_cell-exact (cell_at l p) (cell_at l q)).1 (one_cell l p q i j h (sym (number_is l p h) ∙ eqb-true (key p / keys_in l) (key q / keys_in l) e ∙ number_is l q h)))

-- the corner of a cell lies in it
pub corner_cell : (c : CellData) → cell_at c.level (corner c) ≡ c
corner_cell c = (contains-exact c (corner c)).0 (corner_contained c)

-- a position in a cell has the cell's number and turn
pub along_in : (c : CellData) (p : Position) → c.level ≤ 32 → contains c p ≡ true → along c.level p ≡ along c.level (corner c)
along_in c p h e = same_along c.level p (corner c) h ((contains-exact c p).0 e ∙ sym (corner_cell c))

pub cell_range : (c : CellData) → IsCell c → (p : Position) → InBox p → contains c p ≡ eqb (key p / keys_in c.level) (number_of c)
cell_range c i p b = both_equal (contains c p) (eqb (key p / keys_in c.level) (number_of c))
    (λ e. eq-eqb (key p / keys_in c.level) (number_of c) (number_is c.level p i.shallow ∙ ap (λ s. s.number) (along_in c p i.shallow e)))
    (λ e. (contains-exact c p).1 (one_cell c.level p (corner c) b i.in_box i.shallow (sym (number_is c.level p i.shallow) ∙ eqb-true (key p / keys_in c.level) (number_of c) e) ∙ corner_cell c))

axis_fits : (x l bit : ℕ) → l < 32 → bit < 2 → x * width_of l < 2 ^ 32 → (2 * x + bit) * width_of (l + 1) < 2 ^ 32
axis_fits x l bit h b k =
    let w : x * width_of l / width_of l ≡ x = shl-shr x (32 - l) in
    let whole : x * width_of l / width_of l * width_of l ≡ x * width_of l = ap (λ t. t * width_of l) w in
    let fits : x * width_of l + bit * 2 ^ (31 - l) < 2 ^ 32 = corner_fits (x * width_of l) l bit h b whole k in
    let up : (x * width_of l + bit * 2 ^ (31 - l)) / width_of (l + 1) ≡ 2 * x + bit = half_upper (x * width_of l) l bit h whole ∙ ap (λ t. 2 * t + bit) w in
    let e : (2 * x + bit) * width_of (l + 1) ≡ x * width_of l + bit * 2 ^ (31 - l) = ap (λ t. t * width_of (l + 1)) (sym up) ∙ half_corner (x * width_of l) l bit h whole in
    omega (arith, e, fits)

pub child_is_cell : (c : CellData) (k : ℕ) → IsCell c → c.level < 32 → IsCell (child c k)
child_is_cell c k i h = record {
  shallow = omega arith;
  in_box = record {
    below_x = axis_fits c.x c.level (k % 2) h (omega arith) i.in_box.below_x;
    below_y = axis_fits c.y c.level (k / 2 % 2) h (omega arith) i.in_box.below_y;
    below_z = axis_fits c.z c.level (k / 4 % 2) h (omega arith) i.in_box.below_z;
  };
}

-- the number of a child
pub child_number : (c : CellData) (k : ℕ) → IsCell c → c.level < 32 → k < 8 → number_of (child c k) ≡ 8 * number_of c + place_of (turn_of c) k
child_number c k i h l =
    let q : Position = corner (child c k) in
    let there : contains (child c k) q ≡ true = corner_contained (child c k) in
    let above : contains c q ≡ true = child_within c k q h l there in
    let same : along c.level q ≡ along c.level (corner c) = along_in c q i.shallow above in
    let d : k ≡ digit q c.level = child_digit c k q h l there in
    let n : c.level + 1 ≡ suc c.level = omega arith in
    ap (λ t. (along t q).number) n ∙ next_number c.level q ∙ (λ j. 8 * (same j).number + place_of (same j).turn (sym d j))

pub child_along_is : (c : CellData) → IsCell c → c.level < 32 → (w : ℕ) → w < 8 → IsCell (child_along c w) × (number_of (child_along c w) ≡ 8 * number_of c + w)
child_along_is c i h w l =
    let g : IsGood (turn_of c) w = is_good (turn_of c) w (is_turn c.level (corner c)) l in
    (child_is_cell c (child_at (turn_of c) w) i h, child_number c (child_at (turn_of c) w) i h g.child ∙ ap (λ t. 8 * number_of c + t) g.forth)

pub each_place : (c : CellData) (k : ℕ) → k < 8 → IsPlace c k
each_place c k h = let g : IsGood (turn_of c) k = is_good (turn_of c) k (is_turn c.level (corner c)) h in record { below = g.place; back = g.back }

-- the number of a cell is below that of the cells of its level
pub number_below : (l : ℕ) (p : Position) → (along l p).number < 8 ^ l
unfolding along
number_below zero p = omega arith
number_below (suc l) p =
    let t : place_of (along l p).turn (digit p l) < 8 = (is_good (along l p).turn (digit p l) (is_turn l p) (digit_below p l)).place in
    let f : 8 ^ suc l ≡ 8 * 8 ^ l = omega arith in
    omega (arith, next_number l p, t, f, number_below l p)

pub keys_fit : (c : CellData) → c.level ≤ 32 → number_of c * keys_in c.level + keys_in c.level ≤ 2 ^ 96
keys_fit c h =
    let b : number_of c < 8 ^ c.level = number_below c.level (corner c) in
    let n : number_of c + 1 ≤ 8 ^ c.level = omega (arith, b) in
    let m : (number_of c + 1) * keys_in c.level ≤ 8 ^ c.level * keys_in c.level = mul-le (number_of c + 1) (keys_in c.level) (8 ^ c.level) (keys_in c.level) n (omega arith) in
    let e : c.level + (32 - c.level) ≡ 32 = omega (arith, h) in
    let w : 8 ^ c.level * keys_in c.level ≡ 8 ^ 32 = sym (pow-add 8 c.level (32 - c.level)) ∙ ap (λ t. 8 ^ t) e in
    let s : (number_of c + 1) * keys_in c.level ≡ number_of c * keys_in c.level + keys_in c.level = omega arith in
    omega (arith, m, w, s)
