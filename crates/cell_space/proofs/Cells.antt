-- The laws of cells.
use Rattle.std.proofs.Common.{◌≡◌, ℕ, ◌+◌, ◌-◌, ◌*◌, ◌/◌, ◌^◌, ◌%◌, ◌<◌, ◌≤◌, Bool, true, false, eqb, ◌&&◌, refl, ap, sym, ◌∙◌, arith}
use Rattle.std.specs.Bool.{Decides}
use Rattle.std.proofs.lemmas.Bool.{and_parts, and_from, eqb-true, eq-eqb}
use Rattle.std.proofs.lemmas.Nat.{shr-shr}
use Rattle.cell_space.specs.Cells.{Position, InBox, CellData, bit_of, digit, contains, child, cell_at, width_of, same_cell, same_place, root_cell}

pub both_equal : (a b : Bool) → (a ≡ true → b ≡ true) → (b ≡ true → a ≡ true) → a ≡ b
both_equal true b h k = sym (h refl)
both_equal false true h k = k refl
both_equal false false h k = refl

-- same_cell decides equality
same_cell-true : (a b : CellData) → same_cell a b ≡ true → a ≡ b
same_cell-true a b e =
    let u : (eqb a.level b.level ≡ true) × ((eqb a.x b.x && (eqb a.y b.y && eqb a.z b.z)) ≡ true) = and_parts (eqb a.level b.level) (eqb a.x b.x && (eqb a.y b.y && eqb a.z b.z)) e in
    let v : (eqb a.x b.x ≡ true) × ((eqb a.y b.y && eqb a.z b.z) ≡ true) = and_parts (eqb a.x b.x) (eqb a.y b.y && eqb a.z b.z) u.1 in
    let w : (eqb a.y b.y ≡ true) × (eqb a.z b.z ≡ true) = and_parts (eqb a.y b.y) (eqb a.z b.z) v.1 in
    let l : a.level ≡ b.level = eqb-true a.level b.level u.0 in
    let x : a.x ≡ b.x = eqb-true a.x b.x v.0 in
    let y : a.y ≡ b.y = eqb-true a.y b.y w.0 in
    let z : a.z ≡ b.z = eqb-true a.z b.z w.1 in
    λ i. record { level = l i; x = x i; y = y i; z = z i }

same_cell-itself : (a : CellData) → same_cell a a ≡ true
same_cell-itself a = and_from (eqb a.level a.level) (eqb a.x a.x && (eqb a.y a.y && eqb a.z a.z)) (eq-eqb a.level a.level refl)
    (and_from (eqb a.x a.x) (eqb a.y a.y && eqb a.z a.z) (eq-eqb a.x a.x refl) (and_from (eqb a.y a.y) (eqb a.z a.z) (eq-eqb a.y a.y refl) (eq-eqb a.z a.z refl)))

pub same_cell-exact : (a b : CellData) → Decides (same_cell a b) (a ≡ b)
same_cell-exact a b = (same_cell-true a b, λ e. ap (same_cell a) (sym e) ∙ same_cell-itself a)

-- same_place decides equality
same_place-true : (p q : Position) → same_place p q ≡ true → p ≡ q
same_place-true p q e =
    let v : (eqb p.x q.x ≡ true) × ((eqb p.y q.y && eqb p.z q.z) ≡ true) = and_parts (eqb p.x q.x) (eqb p.y q.y && eqb p.z q.z) e in
    let w : (eqb p.y q.y ≡ true) × (eqb p.z q.z ≡ true) = and_parts (eqb p.y q.y) (eqb p.z q.z) v.1 in
    let x : p.x ≡ q.x = eqb-true p.x q.x v.0 in
    let y : p.y ≡ q.y = eqb-true p.y q.y w.0 in
    let z : p.z ≡ q.z = eqb-true p.z q.z w.1 in
    λ i. record { x = x i; y = y i; z = z i }

same_place-itself : (p : Position) → same_place p p ≡ true
same_place-itself p = and_from (eqb p.x p.x) (eqb p.y p.y && eqb p.z p.z) (eq-eqb p.x p.x refl) (and_from (eqb p.y p.y) (eqb p.z p.z) (eq-eqb p.y p.y refl) (eq-eqb p.z p.z refl))

pub same_place-exact : (p q : Position) → Decides (same_place p q) (p ≡ q)
same_place-exact p q = (same_place-true p q, λ e. ap (same_place p) (sym e) ∙ same_place-itself p)

-- a cell contains a position where it is the position's cell of its level
pub contains-exact : (c : CellData) (p : Position) → Decides (contains c p) (cell_at c.level p ≡ c)
contains-exact c p = same_cell-exact (cell_at c.level p) c

pub cell_at-contains : (l : ℕ) (p : Position) → contains (cell_at l p) p ≡ true
cell_at-contains l p = same_cell-itself (cell_at l p)

-- one axis
upper_next : (n l : ℕ) → l < 32 → n / width_of (l + 1) / 2 ≡ n / width_of l
upper_next n l h = shr-shr n (32 - (l + 1)) 1 ∙ ap (λ t. n / 2 ^ t) (omega arith)

bit_next : (n l : ℕ) → l < 32 → n / width_of (l + 1) % 2 ≡ bit_of n l
bit_next n l h = let e : 32 - (l + 1) ≡ 31 - l = omega arith in ap (λ t. n / 2 ^ t % 2) e

axis_down : (n l u b : ℕ) → l < 32 → b < 2 → n / width_of (l + 1) ≡ 2 * u + b → (n / width_of l ≡ u) × (bit_of n l ≡ b)
axis_down n l u b h k e = (omega (arith, upper_next n l h, e, k), omega (arith, bit_next n l h, e, k))

axis_up : (n l u b : ℕ) → l < 32 → n / width_of l ≡ u → bit_of n l ≡ b → n / width_of (l + 1) ≡ 2 * u + b
axis_up n l u b h e k = omega (arith, upper_next n l h, bit_next n l h, e, k)

digit_parts : (p : Position) (l k : ℕ) → k < 8 → k ≡ digit p l → (bit_of p.x l ≡ k % 2) × (bit_of p.y l ≡ k / 2 % 2) × (bit_of p.z l ≡ k / 4 % 2)
unfolding digit
digit_parts p l k h e = (omega (arith, e), omega (arith, e), omega (arith, e))

digit_from : (p : Position) (l k : ℕ) → k < 8 → bit_of p.x l ≡ k % 2 → bit_of p.y l ≡ k / 2 % 2 → bit_of p.z l ≡ k / 4 % 2 → k ≡ digit p l
unfolding digit
digit_from p l k h a b c = omega (arith, a, b, c)

pub digit_below : (p : Position) (l : ℕ) → digit p l < 8
unfolding digit
digit_below p l = omega arith

-- a child contains a position where its cell does and its number is the position's digit
pub contains_child : (c : CellData) (k : ℕ) (p : Position) → c.level < 32 → k < 8 → contains (child c k) p ≡ (eqb k (digit p c.level) && contains c p)
contains_child c k p h l = both_equal (contains (child c k) p) (eqb k (digit p c.level) && contains c p)
    (λ e. let u : cell_at (c.level + 1) p ≡ child c k = (contains-exact (child c k) p).0 e in
    let x : (p.x / width_of c.level ≡ c.x) × (bit_of p.x c.level ≡ k % 2) = axis_down p.x c.level c.x (k % 2) h (omega arith) (ap (λ t. t.x) u) in
    let y : (p.y / width_of c.level ≡ c.y) × (bit_of p.y c.level ≡ k / 2 % 2) = axis_down p.y c.level c.y (k / 2 % 2) h (omega arith) (ap (λ t. t.y) u) in
    let z : (p.z / width_of c.level ≡ c.z) × (bit_of p.z c.level ≡ k / 4 % 2) = axis_down p.z c.level c.z (k / 4 % 2) h (omega arith) (ap (λ t. t.z) u) in
    and_from (eqb k (digit p c.level)) (contains c p) (eq-eqb k (digit p c.level) (digit_from p c.level k l x.1 y.1 z.1)) ((contains-exact c p).1 (λ i. record { level = c.level; x = x.0 i; y = y.0 i; z = z.0 i })))
    (λ e. let w : (eqb k (digit p c.level) ≡ true) × (contains c p ≡ true) = and_parts (eqb k (digit p c.level)) (contains c p) e in
    let d : (bit_of p.x c.level ≡ k % 2) × (bit_of p.y c.level ≡ k / 2 % 2) × (bit_of p.z c.level ≡ k / 4 % 2) = digit_parts p c.level k l (eqb-true k (digit p c.level) w.0) in
    let u : cell_at c.level p ≡ c = (contains-exact c p).0 w.1 in
    let x : p.x / width_of (c.level + 1) ≡ 2 * c.x + k % 2 = axis_up p.x c.level c.x (k % 2) h (ap (λ t. t.x) u) d.0 in
    let y : p.y / width_of (c.level + 1) ≡ 2 * c.y + k / 2 % 2 = axis_up p.y c.level c.y (k / 2 % 2) h (ap (λ t. t.y) u) d.1 in
    let z : p.z / width_of (c.level + 1) ≡ 2 * c.z + k / 4 % 2 = axis_up p.z c.level c.z (k / 4 % 2) h (ap (λ t. t.z) u) d.2 in
    (contains-exact (child c k) p).1 (λ i. record { level = c.level + 1; x = x i; y = y i; z = z i }))

-- the child that contains a position of its cell
pub digit_contains : (c : CellData) (p : Position) → c.level < 32 → contains c p ≡ true → contains (child c (digit p c.level)) p ≡ true
digit_contains c p h k = contains_child c (digit p c.level) p h (digit_below p c.level) ∙ and_from (eqb (digit p c.level) (digit p c.level)) (contains c p) (eq-eqb (digit p c.level) (digit p c.level) refl) k

pub child_within : (c : CellData) (k : ℕ) (p : Position) → c.level < 32 → k < 8 → contains (child c k) p ≡ true → contains c p ≡ true
child_within c k p h l e = (and_parts (eqb k (digit p c.level)) (contains c p) (sym (contains_child c k p h l) ∙ e)).1

pub child_digit : (c : CellData) (k : ℕ) (p : Position) → c.level < 32 → k < 8 → contains (child c k) p ≡ true → k ≡ digit p c.level
child_digit c k p h l e = eqb-true k (digit p c.level) (and_parts (eqb k (digit p c.level)) (contains c p) (sym (contains_child c k p h l) ∙ e)).0

-- the root contains the box
pub root_contains : (p : Position) → InBox p → contains root_cell p ≡ true
root_contains p b =
    let h : p.x < 2 ^ 32 = b.below_x in
    let k : p.y < 2 ^ 32 = b.below_y in
    let l : p.z < 2 ^ 32 = b.below_z in
    let x : p.x / 2 ^ 32 ≡ 0 = omega arith in
    let y : p.y / 2 ^ 32 ≡ 0 = omega arith in
    let z : p.z / 2 ^ 32 ≡ 0 = omega arith in
    (contains-exact root_cell p).1 (λ i. record { level = 0; x = x i; y = y i; z = z i })

-- a cell of level 32 contains one position
pub deepest_one : (c : CellData) → 32 ≤ c.level → (p q : Position) → contains c p ≡ true → contains c q ≡ true → same_place p q ≡ true
deepest_one c h p q a b =
    let e : 32 - c.level ≡ 0 = omega arith in
    let u : cell_at c.level p ≡ cell_at c.level q = (contains-exact c p).0 a ∙ sym ((contains-exact c q).0 b) in
    let axis : (n m : ℕ) → n / 2 ^ (32 - c.level) ≡ m / 2 ^ (32 - c.level) → n ≡ m = λ n m k. let r : n / 2 ^ 0 ≡ m / 2 ^ 0 = ap (λ t. n / 2 ^ t) (sym e) ∙ k ∙ ap (λ t. m / 2 ^ t) e in omega arith in
    let x : p.x ≡ q.x = axis p.x q.x (ap (λ t. t.x) u) in
    let y : p.y ≡ q.y = axis p.y q.y (ap (λ t. t.y) u) in
    let z : p.z ≡ q.z = axis p.z q.z (ap (λ t. t.z) u) in
    (same_place-exact p q).1 (λ i. record { x = x i; y = y i; z = z i })
