-- Positions of consecutive keys differ by 1 on one axis: where the curve leaves a cell, the next one begins beside it.
use Rattle.std.proofs.Common.{◌≡◌, ℕ, zero, suc, ◌+◌, ◌*◌, ◌/◌, ◌%◌, ◌<◌, ◌≤◌, Bool, true, eqb, ◌&&◌, refl, ap, sym, ◌∙◌, arith, ◌⊎◌, inl, inr}
use Rattle.std.proofs.lemmas.Bool.{and_parts, eqb-true, cases_lt}
use Rattle.cell_space.specs.Cells.{Position, InBox, CellData, cell_at, child, digit}
use Rattle.cell_space.proofs.Cells.{digit_below}
use Rattle.hilbert_keys.specs.Curve.{Turn, IsTurn, place_of, child_at, next_turn, along, key}
use Rattle.hilbert_keys.specs.Laws.{apart, steps_apart}
use Rattle.hilbert_keys.proofs.Turns.{IsGood, is_good, all_under, under, turn}
use Rattle.hilbert_keys.proofs.Curves.{is_turn, next_number, down_one, at_next, same_along, one_cell}

-- ---- all turns, computed

-- a child of a cell by the bits of its number, and a child of a child
abbrev flat : ℕ → Position
flat k = record { x = k % 2; y = k / 2 % 2; z = k / 4 % 2 }

abbrev deep : ℕ → ℕ → Position
deep k u = record { x = 2 * (k % 2) + u % 2; y = 2 * (k / 2 % 2) + u / 2 % 2; z = 2 * (k / 4 % 2) + u / 4 % 2 }

-- consecutive children lie side by side, and so do the last child of the one and the first child of the other
abbrev beside : ℕ → ℕ → ℕ → Bool
beside e d w = eqb (steps_apart (flat (child_at (turn e d) w)) (flat (child_at (turn e d) (w + 1)))) 1
    && eqb (steps_apart (deep (child_at (turn e d) w) (child_at (next_turn (turn e d) w) 7)) (deep (child_at (turn e d) (w + 1)) (child_at (next_turn (turn e d) (w + 1)) 0))) 1

all_beside : all_under (λ e. all_under (λ d. all_under (beside e d) 7) 3) 8 ≡ true
unfolding child_at next_turn
all_beside = refl

-- the curve leaves a cell in the corner where it leaves its last child, and enters it where it enters its first
abbrev keeps : ℕ → ℕ → Bool
keeps e d = eqb (child_at (next_turn (turn e d) 7) 7) (child_at (turn e d) 7) && eqb (child_at (next_turn (turn e d) 0) 0) (child_at (turn e d) 0)

all_keep : all_under (λ e. all_under (keeps e) 3) 8 ≡ true
unfolding child_at next_turn
all_keep = refl

record IsBeside (t : Turn) (w : ℕ) : Type 0 where
  one : steps_apart (flat (child_at t w)) (flat (child_at t (w + 1))) ≡ 1
  two : steps_apart (deep (child_at t w) (child_at (next_turn t w) 7)) (deep (child_at t (w + 1)) (child_at (next_turn t (w + 1)) 0)) ≡ 1

is_beside : (t : Turn) (w : ℕ) → IsTurn t → w < 7 → IsBeside t w
is_beside t w i h =
    let e = under (beside t.corner t.axis) 7 (under (λ d. all_under (beside t.corner d) 7) 3 (under (λ e. all_under (λ d. all_under (beside e d) 7) 3) 8 all_beside t.corner i.corner) t.axis i.axis) w h in
    let u = and_parts (eqb (steps_apart (flat (child_at t w)) (flat (child_at t (w + 1)))) 1) (eqb (steps_apart (deep (child_at t w) (child_at (next_turn t w) 7)) (deep (child_at t (w + 1)) (child_at (next_turn t (w + 1)) 0))) 1) e in
    record {
      one = eqb-true (steps_apart (flat (child_at t w)) (flat (child_at t (w + 1)))) 1 u.0;
      two = eqb-true (steps_apart (deep (child_at t w) (child_at (next_turn t w) 7)) (deep (child_at t (w + 1)) (child_at (next_turn t (w + 1)) 0))) 1 u.1;
    }

record Keeps (t : Turn) : Type 0 where
  leaves : child_at (next_turn t 7) 7 ≡ child_at t 7
  enters : child_at (next_turn t 0) 0 ≡ child_at t 0

is_kept : (t : Turn) → IsTurn t → Keeps t
is_kept t i =
    let e = under (keeps t.corner) 3 (under (λ e. all_under (keeps e) 3) 8 all_keep t.corner i.corner) t.axis i.axis in
    let u = and_parts (eqb (child_at (next_turn t 7) 7) (child_at t 7)) (eqb (child_at (next_turn t 0) 0) (child_at t 0)) e in
    record { leaves = eqb-true (child_at (next_turn t 7) 7) (child_at t 7) u.0; enters = eqb-true (child_at (next_turn t 0) 0) (child_at t 0) u.1 }

-- ---- cells as places of their level

abbrev spot : CellData → Position
spot c = record { x = c.x; y = c.y; z = c.z }

one_shift : (x a b : ℕ) → apart (2 * x + a) (2 * x + b) ≡ apart a b
one_shift x a b = omega arith

two_shift : (x a b u v : ℕ) → apart (2 * (2 * x + a) + u) (2 * (2 * x + b) + v) ≡ apart (2 * a + u) (2 * b + v)
two_shift x a b u v = omega arith

children_apart : (c : CellData) (k m : ℕ) → steps_apart (spot (child c k)) (spot (child c m)) ≡ steps_apart (flat k) (flat m)
children_apart c k m = λ i. one_shift c.x (k % 2) (m % 2) i + one_shift c.y (k / 2 % 2) (m / 2 % 2) i + one_shift c.z (k / 4 % 2) (m / 4 % 2) i

grandchildren_apart : (c : CellData) (k m u v : ℕ) → steps_apart (spot (child (child c k) u)) (spot (child (child c m) v)) ≡ steps_apart (deep k u) (deep m v)
grandchildren_apart c k m u v = λ i. two_shift c.x (k % 2) (m % 2) (u % 2) (v % 2) i + two_shift c.y (k / 2 % 2) (m / 2 % 2) (u / 2 % 2) (v / 2 % 2) i + two_shift c.z (k / 4 % 2) (m / 4 % 2) (u / 4 % 2) (v / 4 % 2) i

-- on one axis: halves of two cells that are one place apart, or none
still : (b d k m : ℕ) → k < 2 → m < 2 → apart (2 * b + k) (2 * d + m) ≡ 0 → (b ≡ d) × (apart (2 * (2 * b + k) + k) (2 * (2 * d + m) + m) ≡ 0)
still b d k m h l e = (omega (arith, h, l, e), omega (arith, h, l, e))

moves : (b d k m : ℕ) → k < 2 → m < 2 → apart (2 * b + k) (2 * d + m) ≡ 1 → (b ≡ d → ⊥) → apart (2 * (2 * b + k) + k) (2 * (2 * d + m) + m) ≡ 1
moves b d k m h l e n = by (cases_lt b d) (cases_lt d b)
  where
    by : (b < d) ⊎ (d ≤ b) → (d < b) ⊎ (b ≤ d) → apart (2 * (2 * b + k) + k) (2 * (2 * d + m) + m) ≡ 1
    by (inl u) v = omega (arith, h, l, e, u)
    by (inr u) (inl v) = omega (arith, h, l, e, v)
    by (inr u) (inr v) = absurd (n (omega (arith, u, v)))

-- of three numbers that are 1 together one is 1
which : (P : Type 0) (m n k : ℕ) → m + n + k ≡ 1 → (m ≡ 1 → n ≡ 0 → k ≡ 0 → P) → (m ≡ 0 → n ≡ 1 → k ≡ 0 → P) → (m ≡ 0 → n ≡ 0 → k ≡ 1 → P) → P
which P zero zero k e f g h = h refl refl (omega (arith, e))
which P zero (suc n) k e f g h = g refl (omega (arith, e)) (omega (arith, e))
which P (suc m) n k e f g h = f (omega (arith, e)) (omega (arith, e)) (omega (arith, e))

-- cells at whose facing corners two children lie side by side, and then the children's children there
across : (b d : CellData) (k m : ℕ) → (b.x ≡ d.x → b.y ≡ d.y → b.z ≡ d.z → ⊥) → steps_apart (spot (child b k)) (spot (child d m)) ≡ 1 → steps_apart (spot (child (child b k) k)) (spot (child (child d m) m)) ≡ 1
across b d k m n e =
    let x = still b.x d.x (k % 2) (m % 2) (omega arith) (omega arith) in
    let y = still b.y d.y (k / 2 % 2) (m / 2 % 2) (omega arith) (omega arith) in
    let z = still b.z d.z (k / 4 % 2) (m / 4 % 2) (omega arith) (omega arith) in
    let s : ℕ → ℕ → ℕ → ℕ = λ u v w. u + v + w in
    which (steps_apart (spot (child (child b k) k)) (spot (child (child d m) m)) ≡ 1) (apart (2 * b.x + k % 2) (2 * d.x + m % 2)) (apart (2 * b.y + k / 2 % 2) (2 * d.y + m / 2 % 2)) (apart (2 * b.z + k / 4 % 2) (2 * d.z + m / 4 % 2)) e
    (λ p q r. λ i. s (moves b.x d.x (k % 2) (m % 2) (omega arith) (omega arith) p (λ f. n f (y q).0 (z r).0) i) ((y q).1 i) ((z r).1 i))
    (λ p q r. λ i. s ((x p).1 i) (moves b.y d.y (k / 2 % 2) (m / 2 % 2) (omega arith) (omega arith) q (λ f. n (x p).0 f (z r).0) i) ((z r).1 i))
    (λ p q r. λ i. s ((x p).1 i) ((y q).1 i) (moves b.z d.z (k / 4 % 2) (m / 4 % 2) (omega arith) (omega arith) r (λ f. n (x p).0 (y q).0 f) i))

-- ---- consecutive numbers of a level

-- the last child of the cell around p, and the first of that around q
abbrev last : ℕ → Position → CellData
last l p = child (cell_at l p) (child_at (along l p).turn 7)

abbrev first : ℕ → Position → CellData
first l q = child (cell_at l q) (child_at (along l q).turn 0)

abbrev Meet : ℕ → Position → Position → Type 0
Meet l p q = steps_apart (spot (last l p)) (spot (first l q)) ≡ 1

-- the place along the curve of p's child of its cell
abbrev at : ℕ → Position → ℕ
at l p = place_of (along l p).turn (digit p l)

-- two positions with consecutive numbers: in one cell at consecutive places, or in consecutive cells at the last and the first
data Follow (l : ℕ) (p q : Position) : Type 0 where
  Inside : at l p < 7 → at l q ≡ at l p + 1 → cell_at l p ≡ cell_at l q → Follow l p q
  Over : at l p ≡ 7 → at l q ≡ 0 → (along l q).number ≡ (along l p).number + 1 → Follow l p q

at_good : (l : ℕ) (p : Position) → IsGood (along l p).turn (digit p l)
at_good l p = is_good (along l p).turn (digit p l) (is_turn l p) (digit_below p l)

follow : (l : ℕ) (p q : Position) → InBox p → InBox q → l < 32 → (along (suc l) q).number ≡ (along (suc l) p).number + 1 → Follow l p q
follow l p q i j h e = by (cases_lt (at l p) 7)
  where
    a : at l p < 8
    a = (at_good l p).place

    b : at l q < 8
    b = (at_good l q).place

    by : (at l p < 7) ⊎ (7 ≤ at l p) → Follow l p q
    by (inl u) = Inside u (omega (arith, u, a, b, e, next_number l p, next_number l q)) (one_cell l p q i j (omega (arith, h)) (omega (arith, u, a, b, e, next_number l p, next_number l q)))
    by (inr u) = Over (omega (arith, u, a)) (omega (arith, u, a, b, e, next_number l p, next_number l q)) (omega (arith, u, a, b, e, next_number l p, next_number l q))

-- a position's next cell, and how the curve lies in it, by its place
cell_next : (l : ℕ) (p : Position) (w : ℕ) → l < 32 → at l p ≡ w → cell_at (suc l) p ≡ child (cell_at l p) (child_at (along l p).turn w)
cell_next l p w h e = sym (at_next l p) ∙ down_one l p h ∙ ap (child (cell_at l p)) (sym (at_good l p).back ∙ ap (child_at (along l p).turn) e)

turn_next : (l : ℕ) (p : Position) (w : ℕ) → at l p ≡ w → (along (suc l) p).turn ≡ next_turn (along l p).turn w
unfolding along
turn_next l p w e = ap (next_turn (along l p).turn) e

-- the cells of the next level lie side by side
side_by_side : (l : ℕ) (p q : Position) → l < 32 → Follow l p q → ((along l q).number ≡ (along l p).number + 1 → Meet l p q) → steps_apart (spot (cell_at (suc l) p)) (spot (cell_at (suc l) q)) ≡ 1
side_by_side l p q h (Inside u v s) rest =
    let t : Turn = (along l p).turn in
    let same : (along l q).turn ≡ (along l p).turn = ap (λ x. x.turn) (same_along l q p (omega (arith, h)) (sym s)) in
    let b : cell_at (suc l) q ≡ child (cell_at l p) (child_at t (at l p + 1)) = cell_next l q (at l p + 1) h v ∙ (λ i. child (sym s i) (child_at (same i) (at l p + 1))) in
    (λ i. steps_apart (spot (cell_next l p (at l p) h refl i)) (spot (b i))) ∙ children_apart (cell_at l p) (child_at t (at l p)) (child_at t (at l p + 1)) ∙ (is_beside t (at l p) (is_turn l p) u).one
side_by_side l p q h (Over u v n) rest = (λ i. steps_apart (spot (cell_next l p 7 h u i)) (spot (cell_next l q 0 h v i))) ∙ rest n

-- and so do the last child of the one and the first of the other
meet_next : (l : ℕ) (p q : Position) → l < 32 → Follow l p q → ((along l q).number ≡ (along l p).number + 1 → Meet l p q) → Meet (suc l) p q
meet_next l p q h (Inside u v s) rest =
    let t : Turn = (along l p).turn in
    let w : ℕ = at l p in
    let same : (along l q).turn ≡ (along l p).turn = ap (λ x. x.turn) (same_along l q p (omega (arith, h)) (sym s)) in
    let a : last (suc l) p ≡ child (child (cell_at l p) (child_at t w)) (child_at (next_turn t w) 7) = λ i. child (cell_next l p w h refl i) (child_at (turn_next l p w refl i) 7) in
    let b : first (suc l) q ≡ child (child (cell_at l q) (child_at (along l q).turn (w + 1))) (child_at (next_turn (along l q).turn (w + 1)) 0) = λ i. child (cell_next l q (w + 1) h v i) (child_at (turn_next l q (w + 1) v i) 0) in
    let c : first (suc l) q ≡ child (child (cell_at l p) (child_at t (w + 1))) (child_at (next_turn t (w + 1)) 0) = b ∙ (λ i. child (child (sym s i) (child_at (same i) (w + 1))) (child_at (next_turn (same i) (w + 1)) 0)) in
    (λ i. steps_apart (spot (a i)) (spot (c i))) ∙ grandchildren_apart (cell_at l p) (child_at t w) (child_at t (w + 1)) (child_at (next_turn t w) 7) (child_at (next_turn t (w + 1)) 0) ∙ (is_beside t w (is_turn l p) u).two
meet_next l p q h (Over u v n) rest =
    let t : Turn = (along l p).turn in
    let r : Turn = (along l q).turn in
    let a : last (suc l) p ≡ child (last l p) (child_at t 7) = (λ i. child (cell_next l p 7 h u i) (child_at (turn_next l p 7 u i) 7)) ∙ ap (child (last l p)) (is_kept t (is_turn l p)).leaves in
    let b : first (suc l) q ≡ child (first l q) (child_at r 0) = (λ i. child (cell_next l q 0 h v i) (child_at (turn_next l q 0 v i) 0)) ∙ ap (child (first l q)) (is_kept r (is_turn l q)).enters in
    (λ i. steps_apart (spot (a i)) (spot (b i))) ∙ across (cell_at l p) (cell_at l q) (child_at t 7) (child_at r 0) differ (rest n)
  where
    differ : (cell_at l p).x ≡ (cell_at l q).x → (cell_at l p).y ≡ (cell_at l q).y → (cell_at l p).z ≡ (cell_at l q).z → ⊥
    differ e f g =
        let s : cell_at l p ≡ cell_at l q = λ i. record { level = l; x = e i; y = f i; z = g i } in
        let m : (along l p).number ≡ (along l q).number = ap (λ x. x.number) (same_along l p q (omega (arith, h)) s) in
        omega (arith, m, n)

no_first : (p q : Position) → (along 0 q).number ≡ (along 0 p).number + 1 → ⊥
unfolding along
no_first p q e = omega (arith, e)

meets : (l : ℕ) (p q : Position) → InBox p → InBox q → l < 32 → (along l q).number ≡ (along l p).number + 1 → Meet l p q
meets zero p q i j h e = absurd (no_first p q e)
meets (suc l) p q i j h e = meet_next l p q (omega (arith, h)) (follow l p q i j (omega (arith, h)) e) (λ n. meets l p q i j (omega (arith, h)) n)

deepest_spot : (p : Position) → spot (cell_at 32 p) ≡ p
deepest_spot p = let e : (n : ℕ) → n / 1 ≡ n = λ n. omega arith in λ i. record { x = e p.x i; y = e p.y i; z = e p.z i }

pub neighbours : (p q : Position) → InBox p → InBox q → key q ≡ key p + 1 → steps_apart p q ≡ 1
neighbours p q i j e =
    let s : steps_apart (spot (cell_at 32 p)) (spot (cell_at 32 q)) ≡ 1 = side_by_side 31 p q (omega arith) (follow 31 p q i j (omega arith) e) (λ n. meets 31 p q i j (omega arith) n) in
    (λ t. steps_apart (sym (deepest_spot p) t) (sym (deepest_spot q) t)) ∙ s
