-- The keys of cells along the curve as keys of ranks.
use Rattle.std.proofs.Common.{◌≡◌, ℕ, ◌+◌, ◌-◌, ◌*◌, ◌<◌, ◌≤◌, Bool, true, false, cond, eqb, ltb, ◌&&◌, ◌||◌, List, [], ◌∷◌, sum_by, length, ◌^◌, refl, ap, sym, subst, ◌∙◌, arith, ◌⊎◌, inl, inr, suc}
use Rattle.std.specs.List.{AllByRecursion}
use Rattle.std.proofs.Math.Nat.{div-mul-le_self, eq_of_mul-eq-mul_right}
use Rattle.std.proofs.lemmas.Bool.{and_parts, lt-ltb, eq-eqb, false≢true, cases_order}
use Rattle.cell_space.specs.Cells.{Position, InBox, CellData, child, contains, corner, cell_at, digit, same_cell, width_of}
use Rattle.cell_space.proofs.Cells.{contains_child, contains-exact}
use Rattle.model_laws.proofs.Among.{Among, each-among}
use Rattle.hilbert_keys.specs.Curve.{along, keys_in, number_of, turn_of, place_of, first_key, last_key, IsCell}
use Rattle.hilbert_keys.proofs.Curves.{child_number, each_place, one_cell, corner_cell}
use Rattle.hilbert_keys.proofs.Widths.{some_keys}
use Rattle.rank_laws.specs.Machine.{is_one}
use Rattle.rank_laws.specs.Whole.{in_order}
use Rattle.rank_laws.proofs.Machine.{one_among, among_one}
use Rattle.rank_laws.proofs.Fairness.{in_order-same, in_order-times}
use Rattle.rank_laws.proofs.Order.{ascends, one_order}
use Rattle.rank_laws.proofs.ByIds.{owned_by}
use Rattle.rank_laws.proofs.Plays.{shows_nothing}
use Rattle.rank_curve_laws.specs.Along.{keys_along, SetsHaveOneOrder, divided, CurveHasKeys, CellsAreTold, EveryDivisionIsWhole, NoDivisionShows}

-- ---- the keys of a child lie within those of its parent

-- the cell of a position of the box is one of the box
cell_of_box : (l : ℕ) (p : Position) → l ≤ 32 → InBox p → IsCell (cell_at l p)
cell_of_box l p h i = record {
  shallow = h;
  in_box = record {
    below_x = omega (arith, div-mul-le_self p.x (width_of l), i.below_x);
    below_y = omega (arith, div-mul-le_self p.y (width_of l), i.below_y);
    below_z = omega (arith, div-mul-le_self p.z (width_of l), i.below_z);
  };
}

parent_is_cell : (c : CellData) (k : ℕ) (p : Position) → c.level < 32 → k < 8 → InBox p → contains (child c k) p ≡ true → IsCell c
parent_is_cell c k p h l i e =
    let u : (eqb k (digit p c.level) ≡ true) × (contains c p ≡ true) = and_parts (eqb k (digit p c.level)) (contains c p) (sym (contains_child c k p h l) ∙ e) in
    subst IsCell ((contains-exact c p).0 u.1) (cell_of_box c.level p (omega (arith, h)) i)

-- 8 times as many keys a level higher
keys_above : (l : ℕ) → l < 32 → keys_in l ≡ 8 * keys_in (l + 1)
keys_above l h = let e : 32 - l ≡ suc (32 - (l + 1)) = omega arith in ap (λ t. 8 ^ t) e ∙ (omega arith)

parted : (n w K : ℕ) → w < 8 → 0 < K → (n * (8 * K) ≤ (8 * n + w) * K) × ((8 * n + w) * K + K - 1 ≤ n * (8 * K) + 8 * K - 1)
parted n w K h k =
    let a : (8 * n + w) * K ≡ n * (8 * K) + w * K = omega arith in
    let b : (w + 1) * K ≤ 8 * K = mul-le-right w K h in
    let d : (w + 1) * K ≡ w * K + K = omega arith in
    (omega (arith, a), omega (arith, a, b, d))
  where
    mul-le-right : (w K : ℕ) → w < 8 → (w + 1) * K ≤ 8 * K
    mul-le-right w K h = let e : (w + 1) + (7 - w) ≡ 8 = omega arith in let f : ((w + 1) + (7 - w)) * K ≡ (w + 1) * K + (7 - w) * K = omega arith in omega (arith, ap (λ t. t * K) e, f)

child_keys : (c : CellData) (k : ℕ) (p : Position) → c.level < 32 → k < 8 → InBox p → contains (child c k) p ≡ true → (first_key c ≤ first_key (child c k)) × (last_key (child c k) ≤ last_key c)
child_keys c k p h l i e =
    let n : number_of (child c k) ≡ 8 * number_of c + place_of (turn_of c) k = child_number c k (parent_is_cell c k p h l i e) h l in
    let w : place_of (turn_of c) k < 8 = (each_place c k l).below in
    let K : ℕ = keys_in (c.level + 1) in
    let above : keys_in c.level ≡ 8 * keys_in (c.level + 1) = keys_above c.level h in
    let r : (number_of c * (8 * keys_in (c.level + 1)) ≤ (8 * number_of c + place_of (turn_of c) k) * keys_in (c.level + 1)) × ((8 * number_of c + place_of (turn_of c) k) * keys_in (c.level + 1) + keys_in (c.level + 1) - 1 ≤ number_of c * (8 * keys_in (c.level + 1)) + 8 * keys_in (c.level + 1) - 1) =
    parted (number_of c) (place_of (turn_of c) k) (keys_in (c.level + 1)) w (some_keys (c.level + 1)) in
    let a : number_of (child c k) * keys_in (c.level + 1) ≡ (8 * number_of c + place_of (turn_of c) k) * keys_in (c.level + 1) = ap (λ t. t * keys_in (c.level + 1)) n in
    let b : number_of c * keys_in c.level ≡ number_of c * (8 * keys_in (c.level + 1)) = ap (λ t. number_of c * t) above in
    (omega (arith, r.0, a, b), omega (arith, r.1, a, b, above))

pub curve_has : CurveHasKeys
curve_has bounds some = record {
  some = some;
  ranged = λ c. let k : 0 < keys_in c.level = some_keys c.level in omega (arith, k);
  low = λ c k p h l i e. (child_keys c k p h l i e).0;
  high = λ c k p h l i e. (child_keys c k p h l i e).1;
}

-- ---- cells that are level in the order are one

level_in : (a b x y : ℕ) → (ltb a b || (eqb a b && ltb x y)) ≡ false → (ltb b a || (eqb b a && ltb y x)) ≡ false → (a ≡ b) × (x ≡ y)
level_in a b x y e f = by (cases_order a b)
  where
    same : (a ≡ b) → (x ≡ y) ⊎ ((x < y) ⊎ (y < x)) → (a ≡ b) × (x ≡ y)
    same u (inl v) = (u, v)
    same u (inr (inl v)) = absurd (false≢true (sym e ∙ ap (λ t. ltb a b || (t && ltb x y)) (eq-eqb a b u) ∙ ap (λ t. ltb a b || t) (lt-ltb x y v) ∙ right (ltb a b)))
      where
        right : (t : Bool) → (t || true) ≡ true
        right true = refl
        right false = refl
    same u (inr (inr v)) = absurd (false≢true (sym f ∙ ap (λ t. ltb b a || (t && ltb y x)) (eq-eqb b a (sym u)) ∙ ap (λ t. ltb b a || t) (lt-ltb y x v) ∙ right (ltb b a)))
      where
        right : (t : Bool) → (t || true) ≡ true
        right true = refl
        right false = refl

    by : (a ≡ b) ⊎ ((a < b) ⊎ (b < a)) → (a ≡ b) × (x ≡ y)
    by (inl u) = same u (cases_order x y)
    by (inr (inl u)) = absurd (false≢true (sym e ∙ ap (λ t. t || (eqb a b && ltb x y)) (lt-ltb a b u)))
    by (inr (inr u)) = absurd (false≢true (sym f ∙ ap (λ t. t || (eqb b a && ltb y x)) (lt-ltb b a u)))

cells_told : (c d : CellData) → IsCell c → IsCell d → c.level ≡ d.level → first_key c ≡ first_key d → c ≡ d
cells_told c d i j l e =
    let n : number_of c ≡ number_of d = eq_of_mul-eq-mul_right (keys_in c.level) (some_keys c.level) (number_of c) (number_of d) (e ∙ ap (λ t. number_of d * keys_in t) (sym l)) in
    sym (corner_cell c)
    ∙ one_cell c.level (corner c) (corner d) i.in_box j.in_box i.shallow (n ∙ ap (λ t. (along t (corner d)).number) (sym l))
    ∙ ap (λ t. cell_at t (corner d)) l
    ∙ corner_cell d

pub are_told : CellsAreTold
are_told bounds c d i j e f = let u : (c.level ≡ d.level) × (first_key c ≡ first_key d) = level_in c.level d.level (first_key c) (first_key d) e f in cells_told c d i j u.0 u.1

-- a cell stands in the order as often as in another of the same cells
as_often : (bounds : List ℕ) (cs ds : List CellData) → ((c : CellData) → is_one c cs ≡ is_one c ds) → (c : CellData) → sum_by (λ d. cond {A = ℕ} (same_cell c d) 1 0) (in_order (keys_along bounds) cs) ≡ sum_by (λ d. cond {A = ℕ} (same_cell c d) 1 0) (in_order (keys_along bounds) ds)
as_often bounds cs ds e c = omega (arith, in_order-times (keys_along bounds) c cs, in_order-times (keys_along bounds) c ds, ap {B = ℕ} (λ b. cond b 1 0) (e c))

ordered_cell : (bounds : List ℕ) (cs : List CellData) → AllByRecursion IsCell cs → (c : CellData) → Among c (in_order (keys_along bounds) cs) → IsCell c
ordered_cell bounds cs a c h = each-among IsCell c cs a (one_among c cs (sym (in_order-same (keys_along bounds) c cs) ∙ among_one c (in_order (keys_along bounds) cs) h))

pub one_order_of : SetsHaveOneOrder
one_order_of bounds cs ds a b e =
    one_order (keys_along bounds) (in_order (keys_along bounds) cs) (in_order (keys_along bounds) ds) (ascends (keys_along bounds) cs) (ascends (keys_along bounds) ds)
    (λ c d i j u v. are_told bounds c d (ordered_cell bounds cs a c i) (ordered_cell bounds ds b d j) u v)
    (as_often bounds cs ds e)

-- ---- divisions

pub division_is : EveryDivisionIsWhole
division_is bodies are g owners bounds d = record { bodies = are; keys = curve_has bounds d.some; owned = owned_by bodies owners (length bounds) d.ranks d.some }

pub no_division : NoDivisionShows
no_division bodies are g owners bounds others limits h k p q a c es fs y z b d u v =
    shows_nothing p q (divided bodies g owners bounds) (divided bodies g others limits) (division_is bodies are g owners bounds h) (division_is bodies are g others limits k) refl refl a c es fs y z b d u v
